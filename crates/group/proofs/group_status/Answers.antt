use Rattle.group.specs.Group.{group_status}
use Rattle.group.proofs.group_status.Goals as goal
use Rattle.std.proofs.Common.{◌-◌}

pub returns : goal.returns
unfolding group_status
returns c = simp (c.take_pending-taken.ensures, c.is_active-active.ensures, c.step_of-s.ensures) at c.group_at.ensures
