use Rattle.group.specs.Data.{other_group}
use Rattle.usb.proofs.Arms.{off}
use Rattle.group.proofs.data.active_group.Goals as goal
use Rattle.std.proofs.Common.{◌-◌}

pub returns-in-105-first : goal.returns-in-105-first
unfolding other_group
returns-in-105-first c = simp (off, c.in-105.is, c.in-105-first.is) c.repeat_group.ensures

pub returns-in_default-first : goal.returns-in_default-first
unfolding other_group
returns-in_default-first c = simp (off, c.in-105.is, c.in_default-first.in_default-first-own.rest.1) c.plain.ensures

pub returns-in-225-first : goal.returns-in-225-first
unfolding other_group
returns-in-225-first c = simp (off, c.in-225.is, c.in-225-first.is) c.repeat_group-in-225-first.ensures

pub returns-in_default-first-2 : goal.returns-in_default-first-2
unfolding other_group
returns-in_default-first-2 c = simp (off, c.in-225.is, c.in_default-first-2.in_default-first-2-own.rest.1) c.plain-in_default-first-2.ensures

pub returns-in-225-first-2 : goal.returns-in-225-first-2
unfolding other_group
returns-in-225-first-2 c = simp (off, c.in-180.is, c.in-225-first-2.is) c.plain-in-225-first-2.ensures

pub returns-in_default-first-3 : goal.returns-in_default-first-3
unfolding other_group
returns-in_default-first-3 c = simp (off, c.in-180.is, c.in_default-first-3.in_default-first-3-own.rest.1) c.plain-in_default-first-3.ensures

pub returns-in-5 : goal.returns-in-5
unfolding other_group
returns-in-5 c = simp (off, c.in-165.is, c.in-5.is) c.plain-in-5.ensures

pub returns-in_default-kind : goal.returns-in_default-kind
unfolding other_group
returns-in_default-kind c = simp (off, c.in-165.is, c.in_default-kind.in_default-kind-own.rest.1) c.plain-in_default-kind.ensures

pub returns-in_default : goal.returns-in_default
unfolding other_group
returns-in_default c = simp (off, c.in_default.in_default-own.rest.1, c.in_default.in_default-own.rest.0.1, c.in_default.in_default-own.rest.0.0.1, c.in_default.in_default-own.rest.0.0.0.1) c.plain-in_default.ensures
