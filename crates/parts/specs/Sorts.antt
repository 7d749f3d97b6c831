-- Inner (cited by private contracts alone): the line of a row of either sort of log, and that the log has the rows.
-- Assumes nothing.
use Rattle.std.specs.Prelude.{ℕ, ◌*◌, ◌≤◌, List, length}
use Rattle.lines.specs.Listing.{width_of}
use Rattle.parts.specs.Parts.{row_line, state_row}
use Rattle.parts.specs.declared.Lent.{Lent}
use Rattle.parts.specs.declared.Lent.TheVariants.{Words, States}

abbrev pub line_at : Lent → ℕ → List ℕ → ℕ → List ℕ → ℕ → List ℕ
line_at (Words kind) n log m statebytes = row_line kind log
line_at States n log m statebytes = state_row n log m statebytes

abbrev pub Holds : Lent → ℕ → List ℕ → ℕ → List ℕ → Type 0
Holds (Words kind) n log m statebytes = n * width_of kind ≤ length log
Holds States n log m statebytes = (n ≤ length log) × (m ≤ length statebytes)
