use Rattle.descriptors.proofs.CompleteLaws.{as-kind, device-noted, other-noted, configuration-noted, interface-noted}
use Rattle.descriptors.proofs.complete.complete.Goals as goal

pub returns-in-DeviceRead : goal.returns-in-DeviceRead
returns-in-DeviceRead c = as-kind c.in-DeviceRead.ensures (device-noted _ _ _ _ c.max_note.ensures c.only_noted.ensures)

pub returns-in-ConfigurationRead : goal.returns-in-ConfigurationRead
returns-in-ConfigurationRead c = as-kind c.in-ConfigurationRead.ensures c.complete_read.ensures

pub returns-in-SetConfiguration : goal.returns-in-SetConfiguration
returns-in-SetConfiguration c = as-kind c.in-SetConfiguration.ensures (configuration-noted _ _ _ c.complete_configuration.ensures)

pub returns-in-SetInterface : goal.returns-in-SetInterface
returns-in-SetInterface c = as-kind c.in-SetInterface.ensures (interface-noted _ _ _ c.complete_interface.ensures)

pub returns-in-Other : goal.returns-in-Other
returns-in-Other c = as-kind c.in-Other.ensures (other-noted _ _ _ c.only_noted-in-Other.ensures)
