-- Rows that lie behind each other are not cut: over plain lists, n state rows with their starts, and m state bytes.
use Prim.Native.Nat.{ℕ, zero, suc, ◌+◌, ◌-◌, ◌≤◌, ◌<◌}
use native.Mathlib.Omega.{arith}
use mathlib.Core.Bool.{Bool, true, false, cond}
use mathlib.Core.List.{List, [], ◌∷◌, ◌++◌}
use mathlib.Core.Path.{◌≡◌, refl, sym, ap, ◌∙◌}
use borrow.Author.Tests.{ltb-true, ltb-false}
use lib.Dec.{ltb}
use lib.ListN.{length, take, drop, get_or, length-append, length-take, take-append-drop, drop_of_length-le, get_or-append}
use lib.Seq.{length-take-le, take-nil, take-take, drop-append-le, get_or_at, get_or-take, slice}
use Rattle.lines.specs.Listing.{each, start_of, end_of, size_of, state_bytes}
use Rattle.states.proofs.Tiled.{Stepped}

-- ---- lists

-- n elements from p on, the one way and the other
part : (p n : ℕ) (l : List ℕ) → take n (drop p l) ≡ slice p (p + n) l
part zero n l = let e : zero + n ≡ n = omega arith in rw e
part (suc p) n [] = let e : suc p + n ≡ suc (p + n) = omega arith in rw e (take-nil n)
part (suc p) n (x ∷ l) = let e : suc p + n ≡ suc (p + n) = omega arith in rw e (part p n l)

-- two parts, one behind the other
parts : (p q m : ℕ) (l : List ℕ) → p ≤ q → q ≤ m → m ≤ length l → slice p q l ++ slice q m l ≡ slice p m l
parts p q m l h k s =
    sym (drop-append-le p (take q l) (slice q m l) (omega (arith, length-take q l)))
    ∙ ap (drop p) (ap (λ (x : List ℕ). x ++ drop q (take m l)) (sym (take-take q m l k)) ∙ take-append-drop q (take m l))

pub each_same : (f g : ℕ → List ℕ) (n i : ℕ) → ((j : ℕ) → i ≤ j → j < i + n → f j ≡ g j) → each f i n ≡ each g i n
unfolding each
each_same f g zero i h = refl
each_same f g (suc n) i h = λ k. h i (omega arith) (omega arith) k ++ each_same f g n (i + 1) (λ j a b. h j (omega arith) (omega arith)) k

-- ---- the rows

module _ (n : ℕ) (states : List ℕ) (m : ℕ) (bytes : List ℕ) (has : n ≤ length states) (holds : m ≤ length bytes) (s : Stepped 0 128 (take n states ++ (m ∷ []))) where
  abbrev place : ℕ → ℕ
  place i = get_or (take n states ++ (m ∷ [])) i 0

  abbrev pub start : ℕ → ℕ
  start i = get_or states i 0

  abbrev pub end : ℕ → ℕ
  end i = cond (ltb (i + 1) n) (start (i + 1)) m

  full : length (take n states) ≡ n
  full = length-take-le n states has

  size : length (take n states ++ (m ∷ [])) ≡ n + 1
  size = length-append (take n states) (m ∷ []) ∙ omega (arith, full)

  start_is : (i : ℕ) → i < n → place i ≡ start i
  start_is i h = get_or-append (take n states) (m ∷ []) 0 i (omega (arith, full)) ∙ get_or-take n states i 0 h

  last-is : place n ≡ m
  last-is = get_or_at (take n states) m [] 0 n full

  end_is : (i : ℕ) → i < n → place (i + 1) ≡ end i
  end_is i h = by (ltb (i + 1) n) refl
    where
      by : (t : Bool) → ltb (i + 1) n ≡ t → place (i + 1) ≡ cond t (start (i + 1)) m
      by true q = start_is (i + 1) (ltb-true (i + 1) n q)
      by false q = let e : i + 1 ≡ n = omega (arith, ltb-false (i + 1) n q) in ap place e ∙ last-is

  pub first : 0 < n → start 0 ≡ 0
  first h = sym (start_is 0 h) ∙ s.first

  pub forward : (i : ℕ) → i < n → start i ≤ end i
  forward i h = omega (arith, start_is i h, end_is i h, s.forward i (omega (arith, size)))

  pub most : (i : ℕ) → i < n → end i ≤ start i + 128
  most i h = omega (arith, start_is i h, end_is i h, s.most i (omega (arith, size)))

  -- no place lies behind the last byte
  below : (k i : ℕ) → i + k ≡ n → place i ≤ m
  below zero i e = let q : i ≡ n = omega arith in rw q (omega (arith, last-is))
  below (suc k) i e = omega (arith, s.forward i (omega (arith, size)), below k (i + 1) (omega arith))

  -- ---- the bytes of all rows

  rest : (k i : ℕ) → i + k ≡ n → each (λ j. slice (start j) (end j) bytes) i k ≡ slice (place i) m bytes
  unfolding each
  rest zero i e =
      let q : place i ≡ m = ap place (omega arith) ∙ last-is in
      sym (drop_of_length-le (take m bytes) {i = place i} (omega (arith, q, length-take m bytes)))
  rest (suc k) i e =
      let h : i < n = omega arith in
      (λ z. slice (sym (start_is i h) z) (sym (end_is i h) z) bytes ++ rest k (i + 1) (omega arith) z)
      ∙ parts (place i) (place (i + 1)) m bytes (s.forward i (omega (arith, size))) (below k (i + 1) (omega arith)) holds

  pub all : each (λ j. slice (start j) (end j) bytes) 0 n ≡ take m bytes
  all = rest n 0 (omega arith) ∙ ap (λ (p : ℕ). slice p m bytes) s.first

  -- ---- the limits of the listing

  start-kept : (i : ℕ) → i < n → start_of states m i ≡ start i
  start-kept i h = omega (arith, start_is i h, below (n - i) i (omega arith))

  end_kept : (i : ℕ) → i < n → end_of states n m i ≡ end i
  end_kept i h = by (ltb (i + 1) n) refl
    where
      by : (t : Bool) → ltb (i + 1) n ≡ t → cond t (start_of states m (i + 1)) m ≡ cond t (start (i + 1)) m
      by true q = start-kept (i + 1) (ltb-true (i + 1) n q)
      by false q = refl

  pub uncut : (i : ℕ) → i < n → state_bytes n states m bytes i ≡ slice (start i) (end i) bytes
  uncut i h =
      let a = start-kept i h in
      let f = forward i h in
      let c : size_of (start i) (end i) ≡ end i - start i = omega (arith, most i h) in
      let e : start i + (end i - start i) ≡ end i = omega arith in
      (λ z. take (size_of (a z) (end_kept i h z)) (drop (a z) bytes))
      ∙ (ap (λ (k : ℕ). take k (drop (start i) bytes)) c ∙ (part (start i) (end i - start i) bytes ∙ ap (λ (k : ℕ). slice (start i) k bytes) e))
