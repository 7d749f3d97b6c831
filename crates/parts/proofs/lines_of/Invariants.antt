-- The rows that are left of the part give the lines that are left of it.
-- Assumes nothing.
use Rattle.std.proofs.Common.{◌-◌}
use Rattle.parts.specs.Sorts.{line_at}
use Rattle.parts.proofs.Going.{Going}
use Rattle.parts.proofs.lines_of.Given as goal

abbrev pub invariant-loop-next : goal.invariant-loop-next
invariant-loop-next l = Going (line_at l.lent l.n l.log l.m l.statebytes) l.n l.from l.initial.out l.out l.next l.len

abbrev pub decreases-loop-next : goal.decreases-loop-next
decreases-loop-next l = l.n - l.next
