use Rattle.run.proofs.Running.{runs_stops, runs-ends}
use Rattle.run.proofs.records.Goals as goal
use Rattle.std.proofs.Common.{◌-◌}

pub returns-then-answer-ne0 : goal.returns-then-answer-ne0
returns-then-answer-ne0 c = runs_stops c.first-start.ensures c.fresh.ensures c.records-r.ensures c.if-answer-ne0.true

pub returns : goal.returns
returns c = runs-ends c.first-start.ensures c.fresh.ensures c.records-r.ensures c.if-answer-ne0.false c.finish-r.ensures
