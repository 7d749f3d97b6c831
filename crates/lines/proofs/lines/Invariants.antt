use Prim.Native.Nat.{ℕ, ◌-◌}
use mathlib.Core.List.{List}
use Rattle.text.proofs.Appends.{Left}
use Rattle.lines.specs.Listing.{width_of, line_of, row, each, lines_of}
use Rattle.lines.specs.declared.Kind.{Kind}
use Rattle.lines.proofs.lines.Given as goal

abbrev pub line_at : Kind → List ℕ → ℕ → List ℕ
line_at kind log i = line_of kind i (row (width_of kind) log i)

abbrev pub invariant-loop-i : goal.invariant-loop-i
invariant-loop-i l = Left l.initial.out l.at (lines_of l.kind l.n l.log) l.out l.next (each (line_at l.kind l.log) l.i (l.n - l.i))
