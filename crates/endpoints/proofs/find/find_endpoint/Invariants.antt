use Prim.Native.Nat.{◌-◌, ◌≤◌}
use mathlib.Core.Path.{◌≡◌}
use Rattle.endpoints.specs.Find.{is_endpoint}
use Rattle.details.specs.Search.{first_from}
use Rattle.endpoints.proofs.find.find_endpoint.Given as goal

abbrev pub invariant-loop-i : goal.invariant-loop-i
invariant-loop-i l = (l.i ≤ l.n) × (first_from (is_endpoint l.table l.device l.address) 0 l.n ≡ first_from (is_endpoint l.table l.device l.address) l.i (l.n - l.i))

abbrev pub decreases-loop-i : goal.decreases-loop-i
decreases-loop-i l = l.n - l.i
