-- Rows of either sort: no line is longer than the longest, a log has the rows that are taken of it, and these are those of the specification.
-- Assumes nothing.
use Prim.Native.Nat.{ℕ, ◌*◌, ◌/◌, ◌≤◌}
use native.Mathlib.Omega.{arith}
use native.Mathlib.Nat.{div-mul-le_self, mul-le-mul_right, min-le_right}
use mathlib.Core.Path.{◌≡◌}
use mathlib.Core.List.{List}
use lib.ListN.{length}
use Rattle.text.specs.Lines.{longest}
use Rattle.lines.specs.Listing.{width_of, row}
use Rattle.lines.proofs.ListingLaws.{line-fits, state-line-fits}
use Rattle.lines.specs.declared.Kind.{Kind}
use Rattle.parts.specs.Parts.{Told, rows_of, state_row}
use Rattle.parts.specs.Sorts.{line_at}
use Rattle.parts.specs.declared.Lent.{Lent}
use Rattle.parts.specs.declared.Lent.TheVariants.{Words, States}

pub short : (lent : Lent) (n : ℕ) (log : List ℕ) (m : ℕ) (statebytes : List ℕ) (i : ℕ) → length (line_at lent n log m statebytes i) ≤ longest
short (Words kind) n log m statebytes i = line-fits kind i (row (width_of kind) log i)
short States n log m statebytes i = state-line-fits n log m statebytes i

pub rows-held : (kind : Kind) (n : ℕ) (log : List ℕ) → rows_of kind n log * width_of kind ≤ length log
rows-held kind n log = omega (arith, mul-le-mul_right (width_of kind) (min-le_right n (length log / width_of kind)), div-mul-le_self (length log) (width_of kind))

-- rows and bytes by another name
pub told-rows : {line : ℕ → List ℕ} {r n from : ℕ} {before after : List ℕ} {next len : ℕ} → r ≡ n → Told line r from before after next len → Told line n from before after next len
told-rows e t = rw e at t

pub told-states :
    (states statebytes : List ℕ) {r n s m from : ℕ} {before after : List ℕ} {next len : ℕ} → r ≡ n → s ≡ m → Told (state_row r states s statebytes) r from before after next len
    → Told (state_row n states m statebytes) n from before after next len
told-states states statebytes e f t = rw (e, f) at t
