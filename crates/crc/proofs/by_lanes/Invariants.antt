use mathlib.Core.Path.{◌≡◌}
use lib.ListN.{drop}
use Rattle.crc.specs.Crc.{generator16, ones16, bytes}
use Rattle.crc.specs.Fast.{four}
use Prim.Native.Nat.{◌-◌, ◌≤◌}
use Rattle.crc.proofs.by_lanes.Given as goal

abbrev pub invariant-loop-i : goal.invariant-loop-i
invariant-loop-i l = (l.i ≤ l.n) × (bytes generator16 (four l.l.first l.l.second l.l.third l.l.fourth) (drop l.i l.s) ≡ bytes generator16 ones16 l.s)

abbrev pub decreases-loop-i : goal.decreases-loop-i
decreases-loop-i l = l.n - l.i
