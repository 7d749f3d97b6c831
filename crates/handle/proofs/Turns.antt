-- A turn of each loop over details and devices, and the stores of a row.
use Prim.Native.Nat.{ℕ, suc, ◌+◌, ◌-◌, ◌<◌, ◌≤◌}
use native.Mathlib.Omega.{arith}
use native.Mathlib.Numerals.{add-one}
use mathlib.Core.Bool.{Bool, true, false}
use mathlib.Core.List.{List, ◌∷◌, map}
use mathlib.Core.Path.{◌≡◌, refl, sym, ap, subst, ◌∙◌}
use borrow.Author.Tests.{eqb-true, eqb-false}
use lib.Dec.{eqb}
use lib.ListN.{length, get_or, set, drop, drop_of_length-le, length-map, get_or-map}
use lib.Seq.{sets, length-sets, ext_get_or, drop-cons, get_or-set_other, set-get_or}
use Rattle.rows.specs.Sets.{get_d-sets_in, sets-next}
use Rattle.details.specs.Details.{bare}
use Rattle.details.specs.Search.{blank}
use Rattle.details.specs.declared.Detail.{Detail}
use Rattle.details.specs.declared.Device.{Device}
use Rattle.handle.proofs.WordsLaws.{length_from}
use Rattle.handle.specs.Words.{from, detail_word, row_stored, rows_stored}

module _ {A : Type 0} where
  -- a list stored over one of its length
  pub sets-whole : (vs l : List A) (d : A) → length l ≡ length vs → sets l 0 vs ≡ vs
  sets-whole vs l d h =
      ext_get_or d (sets l 0 vs) vs (length-sets l 0 vs ∙ h)
      (λ i u. (let g = length-sets l 0 vs in let e : i ≡ 0 + i = omega arith in ap (λ (k : ℕ). get_or (sets l 0 vs) k d) e ∙ get_d-sets_in vs l 0 i d (omega arith) (omega arith)))

  -- all are left
  pub fill_start : (l : List A) (f : ℕ → A) (at n : ℕ) (d : A) → length l ≡ n → sets l 0 (from f (at + 0) (n - 0)) ≡ from f at n
  fill_start l f at n d h =
      let e : at + 0 ≡ at = omega arith in
      let q : n - 0 ≡ n = omega arith in
      (λ i. sets l 0 (from f (e i) (q i))) ∙ sets-whole (from f at n) l d (h ∙ sym (length_from f at n))

  -- the element i is there, and those behind it are left
  pub fill-turn : (l : List A) (f : ℕ → A) (at n i : ℕ) (r : A) → i < n → r ≡ f (at + i)
      → sets (set l i r) (i + 1) (from f (at + (i + 1)) (n - (i + 1))) ≡ sets l i (from f (at + i) (n - i))
  fill-turn l f at n i r h g =
      let left : n - i ≡ suc (n - (i + 1)) = omega arith in
      let e : at + (i + 1) ≡ suc (at + i) = omega arith in
      rw (left, e, add-one, g)

  -- none is left
  pub fill_end : (l : List A) (f : ℕ → A) (at n i : ℕ) → n ≤ i → l ≡ sets l i (from f (at + i) (n - i))
  fill_end l f at n i h = let z : 0 ≡ n - i = omega arith in ap (λ (k : ℕ). sets l i (from f (at + i) k)) z

-- one more is passed
pub passed-next : (P : ℕ → Type 0) (i : ℕ) → ((j : ℕ) → j < i → P j) → P i → (j : ℕ) → j < i + 1 → P j
passed-next P i h p j u = by (eqb j i) refl
  where
    by : (b : Bool) → eqb j i ≡ b → P j
    by true e = subst P (sym (eqb-true j i e)) p
    by false e = let n = eqb-false j i e in h j (omega arith)

-- one detail stored
pub detail-turn : (l : List ℕ) (xs : List Detail) (at i r : ℕ) → i < length xs → r ≡ detail_word (get_or xs i (bare 0))
    → sets l (at + i) (drop i (map detail_word xs)) ≡ sets (set l (at + i) r) (at + (i + 1)) (drop (i + 1) (map detail_word xs))
detail-turn l xs at i r h e =
    let m = length-map xs detail_word in
    sets-next l (map detail_word xs) at i 0 (omega arith)
    ∙ ap (λ (v : ℕ). sets (set l (at + i) v) (at + (i + 1)) (drop (i + 1) (map detail_word xs))) (get_or-map detail_word xs i (bare 0) ∙ sym e)

-- no detail is left
pub all-dropped : (l : List ℕ) (xs : List Detail) (at i : ℕ) → length xs ≤ i → sets l (at + i) (drop i (map detail_word xs)) ≡ l
all-dropped l xs at i h = let m = length-map xs detail_word in ap (sets l (at + i)) (drop_of_length-le (map detail_word xs) {i = i} (omega arith))

-- one row stored
pub row-turn : (w w' : List ℕ) (vs : List Device) (i : ℕ) → i < length vs → w' ≡ row_stored w i (get_or vs i blank)
    → rows_stored w i (drop i vs) ≡ rows_stored w' (i + 1) (drop (i + 1) vs)
row-turn w w' vs i h e = rw (drop-cons vs i blank h, e, add-one)

-- three stores and the details behind them, with the word between them as it is, are one run
pub row_by : (w : List ℕ) (at a b c : ℕ) (xs : List ℕ)
    → sets (set (set (set w (at + 0) a) (at + 1) b) (at + 2) c) (at + 4) xs ≡ sets w at (a ∷ b ∷ c ∷ get_or w (at + 3) 0 ∷ xs)
row_by w at a b c xs =
    let l = set (set (set w (at + 0) a) (at + 1) b) (at + 2) c in
    let first = get_or-set_other w (at + 0) (at + 3) a 0 (λ e. omega arith) in
    let second = get_or-set_other (set w (at + 0) a) (at + 1) (at + 3) b 0 (λ e. omega arith) in
    let third = get_or-set_other (set (set w (at + 0) a) (at + 1) b) (at + 2) (at + 3) c 0 (λ e. omega arith) in
    let spare : l ≡ set l (at + 3) (get_or w (at + 3) 0) = sym (ap (set l (at + 3)) (sym (third ∙ (second ∙ first))) ∙ set-get_or l (at + 3) 0) in
    let p0 : at + 0 ≡ at = omega arith in
    let p1 : at + 1 ≡ suc at = omega arith in
    let p2 : at + 2 ≡ suc (suc at) = omega arith in
    let p3 : at + 3 ≡ suc (suc (suc at)) = omega arith in
    let p4 : at + 4 ≡ suc (suc (suc (suc at))) = omega arith in
    ap (λ (k : List ℕ). sets k (at + 4) xs) spare ∙ λ i. sets (set (set (set (set w (p0 i) a) (p1 i) b) (p2 i) c) (p3 i) (get_or w (at + 3) 0)) (p4 i) xs
