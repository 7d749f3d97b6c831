-- The loop over the rows of a part: what is left is the next row's line and what is left then, as long as there is room for a line.
-- Assumes nothing.
use Prim.Native.Nat.{ℕ, suc, ◌+◌, ◌-◌, ◌<◌, ◌≤◌}
use native.Mathlib.Omega.{arith}
use mathlib.Core.Path.{◌≡◌, ◌∙◌}
use mathlib.Core.List.{List, [], ◌++◌}
use lib.ListN.{length}
use Rattle.text.specs.Append.{Room, Appended}
use Rattle.text.specs.Lines.{longest}
use Rattle.text.proofs.Appends.{Left, start, step, done}
use Rattle.lines.specs.Listing.{each}
use Rattle.parts.specs.Parts.{fitting, next_of, part_of, Told}
use Rattle.parts.specs.PartsLaws.{fitting-more, fitting-short, fitting-none}

-- the rows that are left, at row `next` with `len` bytes written
abbrev rest : (ℕ → List ℕ) → ℕ → List ℕ → ℕ → ℕ → ℕ
rest line n before next len = fitting line (length before - len) next (n - next)

pub record Going (line : ℕ → List ℕ) (n from : ℕ) (before l : List ℕ) (next len : ℕ) : Type 0 where
  pub row : next_of line n (length before) from ≡ next + rest line n before next len
  pub left : Left before 0 (part_of line n (length before) from) l len (each line next (rest line n before next len))
  pub within : len ≤ length before

pub begin : (line : ℕ → List ℕ) (n from : ℕ) (before : List ℕ) → Going line n from before before from 0
begin line n from before =
    let e : length before - 0 ≡ length before = omega arith in
    record { row = rw e; left = rw e start; within = omega arith }

-- the line of row i, and what is left behind it
first-line : (line : ℕ → List ℕ) (i : ℕ) (k f : ℕ) → f ≡ suc k → each line i f ≡ line i ++ each line (i + 1) k
unfolding each
first-line line i k f e = rw e

module _ (line : ℕ → List ℕ) (short : (i : ℕ) → length (line i) ≤ longest) {n from : ℕ} {before l : List ℕ} {next len : ℕ} (g : Going line n from before l next len) where
  -- there is room for the next line
  pub line-room : longest ≤ length l - len → Room l len (line next)
  line-room h = omega (arith, short next)

  -- one row more
  pub turn : next < n → longest ≤ length l - len → {l₁ : List ℕ} {q : ℕ} → Appended l len (line next) l₁ q → Going line n from before l₁ (next + 1) q
  turn h r {l₁} {q} a =
      let m : rest line n before next len ≡ suc (fitting line (length before - len - length (line next)) (next + 1) (n - (next + 1))) = fitting-more line n (length before - len) next h (omega (arith, g.left.kept)) in
      let e : length before - len - length (line next) ≡ length before - q = omega (arith, a.place) in
      let s : rest line n before next len ≡ suc (rest line n before (next + 1) q) = m ∙ rw e in
      record {
        row = omega (arith, g.row);
        left = step (line next) (each line (next + 1) (rest line n before (next + 1) q)) g.left (first-line line next (rest line n before (next + 1) q) (rest line n before next len) s) a;
        within = omega (arith, short next, a.place, g.left.kept);
      }

  -- nothing is left
  over : rest line n before next len ≡ 0 → Told line n from before l next len
  unfolding each
  over z =
      let e : each line next (rest line n before next len) ≡ [] = rw z in
      let d = done (rw e at g.left) in
      record { goes = omega (arith, g.row); size = omega (arith, d.place); stored = d.stored }

  -- the last row is behind, or there is no room for a line
  pub no_row : n ≤ next → Told line n from before l next len
  no_row h = over (fitting-none line n (length before - len) next h)

  pub no_room : length l - len < longest → Told line n from before l next len
  no_room h = over (fitting-short line (length before - len) next (n - next) (omega (arith, g.left.kept)))
