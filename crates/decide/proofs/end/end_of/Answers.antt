use Rattle.plan.specs.Step.{end_of}
use Rattle.decide.proofs.end.end_of.Goals as goal
use Rattle.std.proofs.Common.{◌-◌}

pub returns : goal.returns
unfolding end_of
returns c = simp (c.decide_update-update.ensures, c.group_status-g.ensures)
