use Prim.Native.Nat.{◌-◌}
use mathlib.Core.Path.{◌≡◌}
use Rattle.record.specs.Formed.{every, endpoint_formed}
use Rattle.record.proofs.formed.endpoints_formed.Given as goal

abbrev pub invariant-loop-i : goal.invariant-loop-i
invariant-loop-i l = every (endpoint_formed l.counts l.table) 0 l.counts.endpoints ≡ every (endpoint_formed l.counts l.table) l.i (l.counts.endpoints - l.i)
