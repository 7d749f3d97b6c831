use Prim.Native.Nat.{◌+◌, ◌*◌, ◌-◌, ◌≤◌}
use mathlib.Core.Path.{◌≡◌}
use lib.ListN.{length}
use lib.Seq.{sets}
use Rattle.endpoints.specs.Each.{closing}
use Rattle.endpoints.proofs.phases.close_waiting.Given as goal

abbrev pub invariant-loop-i : goal.invariant-loop-i
invariant-loop-i l = (length l.links ≡ length l.initial.links)
    × ((l.row * 4 + length (closing l.table l.item l.i (l.n - l.i)) ≤ length l.initial.links)
    × (sets l.initial.links (l.at * 4) (closing l.table l.item 0 l.n) ≡ sets l.links (l.row * 4) (closing l.table l.item l.i (l.n - l.i))))
