-- To be believed: what the entries for the listing tell, and what they leave in the buffer that they are lent.
-- Assumes nothing.
-- Hold it to: ours: the interface of the library, where it lists
use Rattle.std.specs.Prelude.{ℕ, cond, ◌≡◌, List, [], ◌∷◌, Option, Some, None, leb, length}
use Rattle.std.proofs.lemmas.List.Edits.{sets}
use Rattle.parts.specs.Parts.{next_of, part_of, row_line, rows_of}
use Rattle.lines.specs.declared.Kind.{Kind}

-- a part (parts, Parts): the row behind it is the answer, the number of its bytes the word that is told
pub record ToldPart (line : ℕ → List ℕ) (n from : ℕ) (before word : List ℕ) (r : ℕ) (after told : List ℕ) : Type 0 where
  pub goes : r ≡ next_of line n (length before) from
  pub size : told ≡ sets word 0 (length (part_of line n (length before) from) ∷ [])
  pub stored : after ≡ sets before 0 (part_of line n (length before) from)

-- nothing: `from` is the answer, and 0 is told
pub record ToldNothing (from : ℕ) (before word : List ℕ) (r : ℕ) (after told : List ℕ) : Type 0 where
  pub goes : r ≡ from
  pub size : told ≡ sets word 0 (0 ∷ [])
  pub stored : after ≡ before

-- a part of the rows of a kind, where the number is a kind's
abbrev pub ToldLines : Option Kind → ℕ → ℕ → List ℕ → List ℕ → List ℕ → ℕ → List ℕ → List ℕ → Type 0
ToldLines (Some kind) from n log before word r after told = ToldPart (row_line kind log) (rows_of kind n log) from before word r after told
ToldLines None from n log before word r after told = ToldNothing from before word r after told

-- a line by itself: all of it and its length where there is room for all of it, else nothing and 0
pub record Alone (line before after : List ℕ) (r : ℕ) : Type 0 where
  pub stored : after ≡ cond (leb (length line) (length before)) (sets before 0 line) before
  pub size : r ≡ cond (leb (length line) (length before)) (length line) 0
