use Rattle.descriptors.proofs.CompleteLaws.{by_kind, max_by, configuration_by, still_by}
use Rattle.descriptors.proofs.complete.device_after.Goals as goal

pub returns-in-DeviceRead : goal.returns-in-DeviceRead
returns-in-DeviceRead c = let a = c.args in by_kind a.a a.shelf.now a.device _ c.in-DeviceRead.ensures (max_by a.a a.shelf.now a.device _ c.set_max.ensures)

pub returns-in-SetConfiguration : goal.returns-in-SetConfiguration
returns-in-SetConfiguration c = let a = c.args in by_kind a.a a.shelf.now a.device _ c.in-SetConfiguration.ensures (configuration_by a.a a.shelf.now a.device _ _ c.configuration_choice.ensures c.apply_kept.ensures)

pub returns-in-SetInterface : goal.returns-in-SetInterface
returns-in-SetInterface c = let a = c.args in by_kind a.a a.shelf.now a.device _ c.in-SetInterface.ensures c.apply_interface.ensures

pub returns-in-ConfigurationRead : goal.returns-in-ConfigurationRead
returns-in-ConfigurationRead c = let a = c.args in still_by a.a a.shelf.now a.device _ c.kind_of.ensures c.in-ConfigurationRead.is
