use mathlib.Core.Path.{◌≡◌}
use lib.ListN.{drop}
use Rattle.crc.specs.Crc.{generator16, bits, bytes}
use Prim.Native.Nat.{◌-◌, ◌≤◌}
use Rattle.crc.proofs.by_words.Given as goal

abbrev pub invariant-loop-i : goal.invariant-loop-i
invariant-loop-i l = (l.i ≤ l.n) × (bytes generator16 (bits generator16 64 l.a 0) (drop l.i l.s) ≡ bytes generator16 (bits generator16 64 l.from 0) (drop l.at l.s))

abbrev pub decreases-loop-i : goal.decreases-loop-i
decreases-loop-i l = l.n - l.i
