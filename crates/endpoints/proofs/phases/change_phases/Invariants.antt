use Prim.Native.Nat.{◌-◌}
use mathlib.Core.Path.{◌≡◌}
use Rattle.endpoints.specs.Each.{each, becomes}
use Rattle.endpoints.specs.Word as word
use Rattle.endpoints.proofs.phases.change_phases.Given as goal

abbrev pub invariant-loop-i : goal.invariant-loop-i
invariant-loop-i l = each word.phase (becomes l.p l.q) l.initial.table 0 l.n ≡ each word.phase (becomes l.p l.q) l.table l.i (l.n - l.i)
