use Prim.Native.Nat.{◌-◌}
use mathlib.Core.Path.{◌≡◌}
use Rattle.record.specs.Formed.{every}
use Rattle.sound.specs.Sound.{is_paid}
use Rattle.sound.proofs.endpoints_paid.Given as goal

abbrev pub invariant-loop-i : goal.invariant-loop-i
invariant-loop-i l = every (is_paid l.d l.table) 0 l.d.counts.endpoints ≡ every (is_paid l.d l.table) l.i (l.d.counts.endpoints - l.i)
