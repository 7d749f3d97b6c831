use Prim.Native.Nat.{ℕ, ◌-◌}
use mathlib.Core.List.{List}
use Rattle.text.specs.Lines.{state_line}
use Rattle.text.proofs.Appends.{Left}
use Rattle.lines.specs.Listing.{each, state_bytes, state_lines}
use Rattle.lines.proofs.state.state_lines.Given as goal

abbrev pub line_at : ℕ → List ℕ → ℕ → List ℕ → ℕ → List ℕ
line_at n states m statebytes i = state_line i (state_bytes n states m statebytes i)

abbrev pub invariant-loop-i : goal.invariant-loop-i
invariant-loop-i l = Left l.initial.out l.at (state_lines l.n l.states l.m l.statebytes) l.out l.next (each (line_at l.n l.states l.m l.statebytes) l.i (l.n - l.i))
