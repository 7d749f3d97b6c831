-- Laws (proved), of descriptors: an entry's seven bytes one by one, and where the loop that forgets begins.
-- Assumes nothing.
use Rattle.std.specs.Prelude.{ℕ, suc, ◌+◌, ◌-◌, ◌*◌, ◌≤◌, ◌<◌, ◌≡◌, refl, get_or, drop}
use native.Mathlib.Omega.{arith}
use Rattle.std.proofs.Common.{add-one, drop-cons}
use mathlib.Core.List.{List, [], ◌∷◌}
use Rattle.std.proofs.Math.ListN.{length, take}
use Rattle.descriptors.proofs.ForgetLaws.{Passed}

pub one_more : (l : List ℕ) (n i : ℕ) → i < length l → take (suc n) (drop i l) ≡ get_or l i 0 ∷ take n (drop (i + 1) l)
one_more l n i h = rw (add-one, drop-cons l i 0)

-- seven bytes one by one
pub seven : (l : List ℕ) (i : ℕ) → i + 7 ≤ length l
    → get_or l i 0 ∷ get_or l (i + 1) 0 ∷ get_or l (i + 2) 0 ∷ get_or l (i + 3) 0 ∷ get_or l (i + 4) 0 ∷ get_or l (i + 5) 0 ∷ get_or l (i + 6) 0 ∷ [] ≡ take 7 (drop i l)
seven l i h =
    let b : i + 1 + 1 ≡ i + 2 = omega arith in
    let c : i + 2 + 1 ≡ i + 3 = omega arith in
    let d : i + 3 + 1 ≡ i + 4 = omega arith in
    let e : i + 4 + 1 ≡ i + 5 = omega arith in
    let f : i + 5 + 1 ≡ i + 6 = omega arith in
    rw (
      one_more l 6 i (omega arith),
      one_more l 5 (i + 1) (omega arith),
      b,
      one_more l 4 (i + 2) (omega arith),
      c,
      one_more l 3 (i + 3) (omega arith),
      d,
      one_more l 2 (i + 4) (omega arith),
      e,
      one_more l 1 (i + 5) (omega arith),
      f,
      one_more l 0 (i + 6) (omega arith),
    )

pub passed_start : (base kept value : ℕ) (store : List ℕ) → Passed base kept value store store 0 0
passed_start base kept value store =
    let z : base + 0 * 7 ≡ base = omega arith in
    let y : kept - 0 ≡ kept = omega arith in
    record { order = omega arith; most = omega arith; same = refl; stored = rw (z, y); counted = rw (z, y) (omega arith) }
