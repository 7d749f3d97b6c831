-- The register over a list of bytes, at a place of the list that goes up.
-- Assumes nothing.
use mathlib.Core.Path.{◌≡◌, sym}
use mathlib.Core.List.{List, [], ◌∷◌}
use Prim.Native.Nat.{ℕ, suc, ◌+◌, ◌≤◌, ◌<◌}
use native.Mathlib.Nat.{add-suc}
use native.Mathlib.Omega.{arith}
use native.Mathlib.Numerals.{add-one}
use lib.Bits.{bit_xor}
use lib.ListN.{length, get_or, take, drop, drop_of_length-le}
use lib.Seq.{drop-cons}
use Rattle.crc.specs.Crc.{bits, bytes}
use Rattle.crc.proofs.Bits.{into}

module _ (p r : ℕ) (s : List ℕ) (i : ℕ) where
  pub bytes-more : i < length s → bytes p r (drop i s) ≡ bytes p (bits p 8 r (get_or s i 0)) (drop (i + 1) s)
  unfolding bytes
  bytes-more h = rw (add-one, drop-cons s i 0)

  pub bytes-none : length s ≤ i → r ≡ bytes p r (drop i s)
  unfolding bytes
  bytes-none h = rw drop_of_length-le

-- a byte by way of the register: t is the register after it
pub byte_on : (p r : ℕ) (s : List ℕ) (i t : ℕ) → i < length s → get_or s i 0 < 256 → t ≡ bits p 8 (bit_xor r (get_or s i 0)) 0 → bytes p t (drop (i + 1) s) ≡ bytes p r (drop i s)
byte_on p r s i t h hb e = rw (e, ← into p 8 r (get_or s i 0) hb) (sym (bytes-more p r s i h))

module _ (s : List ℕ) (i : ℕ) where
  part : (n k : ℕ) → i + k < length s → take (suc n) (drop (i + k) s) ≡ get_or s (i + k) 0 ∷ take n (drop (i + suc k) s)
  part n k h = rw (drop-cons s (i + k) 0, add-suc)

  first : i < length s → take 8 (drop i s) ≡ get_or s i 0 ∷ take 7 (drop (i + 1) s)
  first h = rw (add-one, drop-cons s i 0)

  pub eight : i + 8 ≤ length s → take 8 (drop i s) ≡ get_or s i 0 ∷ get_or s (i + 1) 0 ∷ get_or s (i + 2) 0 ∷ get_or s (i + 3) 0 ∷ get_or s (i + 4) 0 ∷ get_or s (i + 5) 0 ∷ get_or s (i + 6) 0 ∷ get_or s (i + 7) 0 ∷ []
  eight h =
      rw (
        first (omega arith),
        part 6 1 (omega arith),
        part 5 2 (omega arith),
        part 4 3 (omega arith),
        part 3 4 (omega arith),
        part 2 5 (omega arith),
        part 1 6 (omega arith),
        part 0 7 (omega arith),
      )
