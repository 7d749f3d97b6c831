use Rattle.plan.specs.Ending.{ending_of}
use Rattle.decide.proofs.plan_ending.Goals as goal
use Rattle.std.proofs.Common.{◌-◌}

pub returns : goal.returns
unfolding ending_of
returns c = simp (c.end_of-end.ensures, c.endpoint_details-detail.ensures, c.load-e.ensures, c.current_endpoint-x.ensures)
