-- The same bytes stored in the same place of two shelves: they agree there then, and where they agreed before (demands, Shelf: Agree).
use Prim.Native.Nat.{ℕ, zero, suc, ◌+◌, ◌-◌, ◌*◌, ◌≤◌, ◌<◌, min}
use native.Mathlib.Nat.{le_refl}
use native.Mathlib.Omega.{arith}
use mathlib.Core.Path.{◌≡◌, refl, sym, ap, subst, ◌∙◌}
use mathlib.Core.Bool.{Bool, true, false}
use mathlib.Core.List.{List, [], ◌∷◌}
use borrow.Author.Tests.{leb-true, leb-false}
use lib.Dec.{leb}
use lib.ListN.{length, take, drop, set, get_or, length-set, length-take, length-drop}
use lib.Seq.{sets, length-sets, take-take, take_all}
use Rattle.descriptors.specs.Laid.{laid}
use Rattle.demands.specs.Shelf.{Agree}
use Rattle.demands.proofs.Alike.{fewer, sets-agree}

-- one byte behind what agrees
set_more : (h g : List ℕ) (i at k v : ℕ) → i ≡ at + k → length h ≡ length g → Agree at k h g → Agree at (suc k) (set h i v) (set g i v)
set_more [] [] i at k v q l e = refl
set_more [] (y ∷ g) i at k v q l e = absurd (omega arith)
set_more (x ∷ h) [] i at k v q l e = absurd (omega arith)
set_more (x ∷ h) (y ∷ g) zero zero zero v q l e = refl
set_more (x ∷ h) (y ∷ g) zero zero (suc k) v q l e = absurd (omega arith)
set_more (x ∷ h) (y ∷ g) zero (suc at) k v q l e = absurd (omega arith)
set_more (x ∷ h) (y ∷ g) (suc i) zero zero v q l e = absurd (omega arith)
set_more (x ∷ h) (y ∷ g) (suc i) zero (suc k) v q l e =
    let head : x ≡ y = ap (λ (r : List ℕ). get_or r 0 0) e in
    let tail = set_more h g i zero k v (omega arith) (omega arith) (ap (drop 1) e) in
    λ j. head j ∷ tail j
set_more (x ∷ h) (y ∷ g) (suc i) (suc at) k v q l e = set_more h g i at k v (omega arith) (omega arith) e

pub sets_more : (vs h g : List ℕ) (i at k : ℕ) → i ≡ at + k → length h ≡ length g → Agree at k h g → Agree at (k + length vs) (sets h i vs) (sets g i vs)
sets_more [] h g i at k q l e = fewer at (k + 0) k h g (omega arith) e
sets_more (v ∷ vs) h g i at k q l e =
    fewer at (k + suc (length vs)) (suc k + length vs) (sets (set h i v) (suc i) vs) (sets (set g i v) (suc i) vs) (omega arith)
    (sets_more vs (set h i v) (set g i v) (suc i) at (suc k) (omega arith) (length-set h i v ∙ l ∙ sym (length-set g i v)) (set_more h g i at k v q l e))

-- a payload laid by behind the bytes that count
module _ (start count : ℕ) (payload h g : List ℕ) (l : length h ≡ length g) where
  pub laid_more : Agree start (min count 4096) h g → Agree start (min (count + length payload) 4096) (laid start count payload h) (laid start count payload g)
  unfolding laid
  laid_more e = by (leb count 4096) refl
    where
      vs : List ℕ
      vs = take (4096 - count) payload

      by : (b : Bool) → leb count 4096 ≡ b → Agree start (min (count + length payload) 4096) (sets h (start + count) vs) (sets g (start + count) vs)
      by true q =
          let few = leb-true count 4096 q in
          let n = length-take (4096 - count) payload in
          fewer start (min (count + length payload) 4096) (count + length vs) (sets h (start + count) vs) (sets g (start + count) vs) (omega arith)
          (sets_more vs h g (start + count) start count refl l (fewer start count (min count 4096) h g (omega arith) e))
      by false q =
          let many = leb-false count 4096 q in
          fewer start (min (count + length payload) 4096) (min count 4096) (sets h (start + count) vs) (sets g (start + count) vs) (omega arith)
          (sets-agree vs h g (start + count) start (min count 4096) l e)

  pub laid-long : length (laid start count payload h) ≡ length (laid start count payload g)
  unfolding laid
  laid-long = length-sets h (start + count) (take (4096 - count) payload) ∙ l ∙ sym (length-sets g (start + count) (take (4096 - count) payload))

-- two that agree up to their ends
pub whole_agree : (at n k : ℕ) (h g : List ℕ) → length h ≡ length g → length (drop at h) ≤ n → Agree at n h g → Agree at k h g
whole_agree at n k h g l s e =
    let t : length (drop at g) ≤ n = let a = length-drop at h in let b = length-drop at g in omega arith in
    ap (take k) (sym (take_all n (drop at h) s) ∙ e ∙ take_all n (drop at g) t)
