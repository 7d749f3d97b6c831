-- What was counted and what is left stay all: a whole record is passed, and counted where it is a detail.
-- Assumes nothing.
use Rattle.std.proofs.Common.{ap, ◌∙◌, arith}
use Rattle.trace.specs.Pass.{passed_by}
use Rattle.trace.proofs.Passing.{counting-start, passed_inside, counting_more}
use Rattle.trace.proofs.details.count_details.Goals as goal

pub loop-p-init : goal.loop-p-init
loop-p-init c = counting-start c.args.trace.now

pub loop-p-smaller : goal.loop-p-smaller
loop-p-smaller c =
    let i = passed_inside c.args.trace.now c.loop-p.at (c.in-Some.ensures ∙ ap passed_by c.record_at.ensures) in
    omega (arith, i.0, i.1)

pub loop-p-preserved : goal.loop-p-preserved
loop-p-preserved c = counting_more c.args.trace.now c.loop-p.invariant (c.in-Some.ensures ∙ ap passed_by c.record_at.ensures)
