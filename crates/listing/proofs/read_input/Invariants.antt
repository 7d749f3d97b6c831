use Rattle.std.specs.Prelude.{◌-◌, ◌≤◌, length}
use Rattle.listing.proofs.read_input.Given as goal

abbrev pub invariant-loop-len : goal.invariant-loop-len
invariant-loop-len _ l = l.len ≤ length l.buf

abbrev pub decreases-loop-len : goal.decreases-loop-len
decreases-loop-len _ l = length l.buf - l.len
