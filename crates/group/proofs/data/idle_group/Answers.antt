use Rattle.group.specs.Data.{other_group}
use Rattle.usb.proofs.Arms.{either, off}
use Rattle.group.proofs.data.idle_group.Goals as goal
use Rattle.std.proofs.Common.{◌-◌}

pub returns-in-105 : goal.returns-in-105
unfolding other_group
returns-in-105 c = either c.in-105.is (λ h. simp (off, h) c.begin_group.ensures) (λ h. simp (off, h) c.begin_group.ensures)

pub returns-in-5 : goal.returns-in-5
unfolding other_group
returns-in-5 c = simp (off, c.in-165.is, c.in-5.is) c.plain.ensures

pub returns-in_default-kind : goal.returns-in_default-kind
unfolding other_group
returns-in_default-kind c = simp (off, c.in-165.is, c.in_default-kind.in_default-kind-own.rest.1) c.plain-in_default-kind.ensures

pub returns-in_default : goal.returns-in_default
unfolding other_group
returns-in_default c = simp (off, c.in_default.in_default-own.rest.1, c.in_default.in_default-own.rest.0.1) c.plain-in_default.ensures
