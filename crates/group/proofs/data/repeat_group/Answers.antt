use Rattle.group.specs.Data.{repeat_group}
use Rattle.group.proofs.data.repeat_group.Goals as goal
use Rattle.std.proofs.Common.{◌-◌}

pub returns-then-s : goal.returns-then-s
unfolding repeat_group
returns-then-s c = simp (c.if-s.true, c.with_success.ensures, c.repeat_status.ensures, c.effect_of-effect.ensures, c.closes-ends.ensures)

pub returns-else-s : goal.returns-else-s
unfolding repeat_group
returns-else-s c = simp (c.if-s.false, c.effect_of-effect.ensures)
