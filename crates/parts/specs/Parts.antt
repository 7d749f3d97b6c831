-- To be believed: a part of the listing: whole lines of the rows from a row on, as long as there is room for the longest line; the lines are
-- those of lines/specs/Listing.antt.
-- Assumes nothing.
-- Hold it to: ours: the listing in parts, for a program whose buffer does not hold all of it
use Rattle.std.specs.Prelude.{ℕ, zero, suc, ◌+◌, ◌-◌, ◌/◌, min, cond, ◌≡◌, List, Option, Some, None, eqb, leb, length}
use Rattle.std.proofs.lemmas.List.Edits.{sets}
use Rattle.text.specs.Lines.{state_line, longest}
use Rattle.lines.specs.Listing.{width_of, line_of, each, row, state_bytes}
use Rattle.lines.specs.declared.Kind.{Kind}
use Rattle.lines.specs.declared.Kind.TheVariants.{Device, Endpoint, Packet, Event, Transaction, Group, Item, Link, Request}

-- how many of `count` rows from row i on: one more as long as `longest` bytes are left
unfoldable pub fitting : (ℕ → List ℕ) → ℕ → ℕ → ℕ → ℕ
fitting line room i zero = 0
fitting line room i (suc count) = cond (leb longest room) (suc (fitting line (room - length (line i)) (i + 1) count)) 0

-- a part of n rows, from row `from` on, in a buffer of `room` bytes: the row behind its last one, and its bytes
abbrev pub next_of : (ℕ → List ℕ) → ℕ → ℕ → ℕ → ℕ
next_of line n room from = from + fitting line room from (n - from)

abbrev pub part_of : (ℕ → List ℕ) → ℕ → ℕ → ℕ → List ℕ
part_of line n room from = each line from (fitting line room from (n - from))

-- what a call tells, and leaves in the buffer; where `from` is no row, that is `from`, 0 and the buffer as it was
pub record Told (line : ℕ → List ℕ) (n from : ℕ) (before after : List ℕ) (next len : ℕ) : Type 0 where
  pub goes : next ≡ next_of line n (length before) from
  pub size : len ≡ length (part_of line n (length before) from)
  pub stored : after ≡ sets before 0 (part_of line n (length before) from)

-- ---- rows of words: the line of row i of a log, and how many of n rows the log has

abbrev pub row_line : Kind → List ℕ → ℕ → List ℕ
row_line kind log i = line_of kind i (row (width_of kind) log i)

abbrev pub rows_of : Kind → ℕ → List ℕ → ℕ
rows_of kind n log = min n (length log / width_of kind)

-- ---- states: the line of row i of n, over m state bytes; and how many rows and bytes there are

abbrev pub state_row : ℕ → List ℕ → ℕ → List ℕ → ℕ → List ℕ
state_row n states m statebytes i = state_line i (state_bytes n states m statebytes i)

abbrev pub state_rows : ℕ → List ℕ → ℕ
state_rows n states = min n (length states)

abbrev pub state_end : ℕ → List ℕ → ℕ
state_end m statebytes = min m (length statebytes)

-- ---- a kind by its log's number; 0, 7 and 8 are packet bytes, state bytes and states

abbrev pub named_of : ℕ → Option Kind
named_of k =
    cond (eqb k 1) (Some Device)
    (cond (eqb k 2) (Some Endpoint)
    (cond (eqb k 3) (Some Packet)
    (cond (eqb k 4) (Some Event)
    (cond (eqb k 5) (Some Transaction)
    (cond (eqb k 6) (Some Group)
    (cond (eqb k 9) (Some Item)
    (cond (eqb k 10) (Some Link)
    (cond (eqb k 11) (Some Request) None))))))))
