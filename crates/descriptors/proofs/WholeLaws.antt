-- Laws (proved): what the walk reads lies in the payload; it ends by itself; what a turn of it is.
-- Assumes nothing.
use Rattle.std.specs.Prelude.{ℕ, zero, suc, ◌≤◌, ◌≡◌, refl, Bool, true, false, cond, ◌&&◌, List, [], ◌∷◌, ◌++◌, leb, length, take, drop}
use Rattle.std.proofs.Common.{arith, sym, ap, ◌∙◌, append_assoc, leb-true, le-leb, take-append-drop, length-drop, length-append}
use Rattle.std.proofs.Math.ListN.{get_or-append}
use Rattle.std.proofs.lemmas.List.{take-append-le, drop-append-le}
use Rattle.descriptors.specs.Whole.{b_length, is_whole, whole_in, whole, joined}

-- the one list is a beginning of the other
pub record Begins {A : Type 0} (a p : List A) : Type 0 where
  pub rest : List A
  pub all : p ≡ a ++ rest

pub both_left : (a b : Bool) → (a && b) ≡ true → a ≡ true
both_left true b h = refl
both_left false b h = h

pub both_right : (a b : Bool) → (a && b) ≡ true → b ≡ true
both_right true b h = h
both_right false b h = absurd (let z : ◌≡◌ {A = ℕ} 0 1 = cc in omega arith)

pub record Whole (p : List ℕ) : Type 0 where
  pub two : 2 ≤ b_length p
  pub there : b_length p ≤ length p

pub is-whole : (p : List ℕ) → is_whole p ≡ true → Whole p
unfolding is_whole
is-whole p h =
    record {
      two = leb-true 2 (b_length p) (both_left (leb 2 (b_length p)) (leb (b_length p) (length p)) h);
      there = leb-true (b_length p) (length p) (both_right (leb 2 (b_length p)) (leb (b_length p) (length p)) h);
    }

pub whole_is : (p : List ℕ) → 2 ≤ b_length p → b_length p ≤ length p → is_whole p ≡ true
unfolding is_whole
whole_is p h g = rw (le-leb _ _ h, le-leb _ _ g)

whole_inside_in : (k : ℕ) (p : List ℕ) → Begins (joined (whole_in k p)) p
unfolding whole_in
whole_inside_in zero p = record { rest = p; all = refl }
whole_inside_in (suc k) p = by (is_whole p) (whole_inside_in k (drop (b_length p) p))
  where
    by : (b : Bool) → Begins (joined (whole_in k (drop (b_length p) p))) (drop (b_length p) p)
        → Begins (joined (cond b (take (b_length p) p ∷ whole_in k (drop (b_length p) p)) [])) p
    by false r = record { rest = p; all = refl }
    by true r =
        record {
          rest = r.rest;
          all = sym (take-append-drop (b_length p) p)
              ∙ (ap (λ (q : List ℕ). take (b_length p) p ++ q) r.all
              ∙ sym (append_assoc (take (b_length p) p) (joined (whole_in k (drop (b_length p) p))) r.rest));
        }

-- the whole descriptors behind each other are a beginning of the payload
pub whole_inside : (p : List ℕ) → Begins (joined (whole p)) p
unfolding whole
whole_inside p = whole_inside_in (length p) p

-- the walk ends by itself: any number of turns from the payload's length on gives the same
pub walk_ends : (j k : ℕ) (p : List ℕ) → length p ≤ j → length p ≤ k → whole_in j p ≡ whole_in k p
unfolding whole_in is_whole
walk_ends zero zero p h g = refl
walk_ends zero (suc k) [] h g = refl
walk_ends zero (suc k) (x ∷ p) h g = absurd (omega arith)
walk_ends (suc j) zero [] h g = refl
walk_ends (suc j) zero (x ∷ p) h g = absurd (omega arith)
walk_ends (suc j) (suc k) p h g = by (is_whole p) refl (λ q a b. walk_ends j k q a b)
  where
    by : (b : Bool) → is_whole p ≡ b → ((q : List ℕ) → length q ≤ j → length q ≤ k → whole_in j q ≡ whole_in k q)
        → cond b (take (b_length p) p ∷ whole_in j (drop (b_length p) p)) [] ≡ cond b (take (b_length p) p ∷ whole_in k (drop (b_length p) p)) []
    by false e ih = refl
    by true e ih =
        let w = is-whole p e in
        let s = length-drop (b_length p) p in
        ap (λ (ds : List (List ℕ)). take (b_length p) p ∷ ds) (ih (drop (b_length p) p) (omega (arith, w.two, w.there)) (omega (arith, w.two, w.there)))

-- a turn of the walk
pub whole-more : (p : List ℕ) → is_whole p ≡ true → whole p ≡ take (b_length p) p ∷ whole (drop (b_length p) p)
unfolding whole whole_in
whole-more p e =
    let w = is-whole p e in
    walk_ends (length p) (suc (length p)) p (omega arith) (omega arith)
    ∙ rw e (ap (λ (ds : List (List ℕ)). take (b_length p) p ∷ ds) (walk_ends (length p) (length (drop (b_length p) p)) (drop (b_length p) p) (omega (arith, length-drop (b_length p) p)) (omega arith)))

-- and its end
pub whole-none : (p : List ℕ) → is_whole p ≡ false → whole p ≡ []
unfolding whole whole_in
whole-none p e = walk_ends (length p) (suc (length p)) p (omega arith) (omega arith) ∙ rw e

-- what is whole stays whole where more bytes come behind it
module _ (a b : List ℕ) (e : is_whole a ≡ true) where
  pub same_length : b_length (a ++ b) ≡ b_length a
  same_length = let w = is-whole a e in get_or-append a b 0 0 (omega (arith, w.two, w.there))

  pub whole_still : is_whole (a ++ b) ≡ true
  whole_still =
      let w = is-whole a e in
      let s = same_length in
      whole_is (a ++ b) (omega (arith, w.two)) (omega (arith, w.there, length-append a b))

  pub whole_cut : whole (a ++ b) ≡ take (b_length a) a ∷ whole (drop (b_length a) a ++ b)
  whole_cut =
      let w = is-whole a e in
      whole-more (a ++ b) whole_still
      ∙ rw (same_length, take-append-le (b_length a) a b w.there, drop-append-le (b_length a) a b w.there)
