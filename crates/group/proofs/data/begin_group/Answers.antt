use Rattle.group.specs.Data.{begin_group}
use Rattle.group.proofs.data.begin_group.Goals as goal
use Rattle.std.proofs.Common.{◌-◌}

pub returns-then-s : goal.returns-then-s
unfolding begin_group
returns-then-s c = simp (c.if-s.true, c.with_success.ensures, c.begin_status.ensures, c.effect_of-effect.ensures, c.closes-ends.ensures)

pub returns-else-s : goal.returns-else-s
unfolding begin_group
returns-else-s c = simp (c.if-s.false, c.effect_of-effect.ensures)
