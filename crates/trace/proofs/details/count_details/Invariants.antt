-- The loop's invariant is that what was counted and what is left are all.
-- Assumes nothing.
use Rattle.std.proofs.Common.{◌-◌, length}
use Rattle.trace.proofs.Passing.{Counting}
use Rattle.trace.proofs.details.count_details.Given as goal

abbrev pub invariant-loop-p : goal.invariant-loop-p
invariant-loop-p l = Counting l.trace l.at l.n

abbrev pub decreases-loop-p : goal.decreases-loop-p
decreases-loop-p l = length l.trace - l.at
