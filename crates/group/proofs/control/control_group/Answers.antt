use Rattle.group.specs.Control.{control_group}
use Rattle.group.proofs.control.control_group.Goals as goal
use Rattle.std.proofs.Common.{◌-◌}

pub returns-then-e : goal.returns-then-e
unfolding control_group
returns-then-e c = simp c.if-e.true (rw (c.stage_of-found.ensures, c.with_data-size.ensures, c.direction-dir.ensures) at c.at_stage.ensures)

pub returns-else-e : goal.returns-else-e
unfolding control_group
returns-else-e c = simp c.if-e.false c.plain.ensures
