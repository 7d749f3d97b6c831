-- Bytes from a place of the trace on as one number.
-- Assumes nothing.
use Rattle.std.proofs.Common.{◌≡◌, ℕ, suc, ◌+◌, ◌*◌, ◌<◌, ◌≤◌, List, length, get_or, take, drop, add-one, arith, drop-cons}
use Rattle.usb.specs.Bits.{number}
use Rattle.trace.specs.Trace.{little_endian}

module _ (t : List ℕ) where
  one_more : (n i : ℕ) → i < length t → number (take (suc n) (drop i t)) ≡ get_or t i 0 + number (take n (drop (i + 1) t)) * 256
  one_more n i h = rw (add-one, drop-cons t i 0)

  pub two : (i : ℕ) → i + 2 ≤ length t → get_or t i 0 + get_or t (i + 1) 0 * 256 ≡ little_endian 2 i t
  unfolding little_endian
  two i h = rw (one_more 1 i (omega arith), one_more 0 (i + 1) (omega arith)) (omega arith)

  pub four : (i : ℕ) → i + 4 ≤ length t
      → get_or t i 0 + get_or t (i + 1) 0 * 256 + get_or t (i + 2) 0 * 65536 + get_or t (i + 3) 0 * 16777216 ≡ little_endian 4 i t
  unfolding little_endian
  four i h =
      let e : i + 1 + 1 ≡ i + 2 = omega arith in
      let f : i + 2 + 1 ≡ i + 3 = omega arith in
      rw (one_more 3 i (omega arith), one_more 2 (i + 1) (omega arith), e, one_more 1 (i + 2) (omega arith), f, one_more 0 (i + 3) (omega arith)) (omega arith)
