use Rattle.group.specs.Control.{setup_group}
use Rattle.usb.proofs.Arms.{off}
use Rattle.group.proofs.control.setup_group.Goals as goal
use Rattle.std.proofs.Common.{◌-◌}

pub returns-then-s-eq-COMPLETE : goal.returns-then-s-eq-COMPLETE
unfolding setup_group
returns-then-s-eq-COMPLETE c = simp c.if-s-eq-COMPLETE.true c.plain.ensures

pub returns : goal.returns
unfolding setup_group
returns c = simp (off, c.if-s-eq-COMPLETE.false) c.plain-2.ensures
