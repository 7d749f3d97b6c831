-- The register a bit at a time, by a count that falls; and many data bits at once, xored into the register beforehand.
-- Assumes nothing.
use mathlib.Core.Path.{◌≡◌, refl, sym, ap, ◌∙◌}
use Prim.Native.Nat.{ℕ, zero, suc, ◌+◌, ◌-◌, ◌*◌, ◌/◌, ◌%◌, ◌^◌, ◌≤◌, ◌<◌}
use native.Mathlib.Nat.{not-suc-le-zero, div-one, div-eq_of_lt, mod-lt, zero-add, suc-add, mul_assoc, pow-suc}
use native.Mathlib.Numerals.{sub-one, one-add}
use native.Mathlib.Omega.{arith}
use lib.Bits.{bit_xor, xor_mod, xor_zero_r, shifted_half, shifted_even, xor_shifted, xor_comm}
use lib.Pow.{pow_pos, shr-shr, shl-shr, split}
use Rattle.crc.specs.Crc.{step, bits}
use Rattle.crc.proofs.Xor.{half, swap}

pub bits-more : (p n r x : ℕ) → 0 < n → bits p n r x ≡ bits p (n - 1) (step p r (x % 2)) (x / 2)
unfolding bits
bits-more p zero r x h = absurd (not-suc-le-zero h)
bits-more p (suc n) r x h = rw sub-one

pub bits_none : (p n r x : ℕ) → n ≤ 0 → r ≡ bits p n r x
unfolding bits
bits_none p zero r x h = refl
bits_none p (suc n) r x h = absurd (not-suc-le-zero h)

-- data that is xored into the register beforehand is taken a bit at each step, and the rest moves down
one : (p r x : ℕ) → step p (bit_xor r x) 0 ≡ bit_xor (step p r (x % 2)) (x / 2)
unfolding step
one p r x = simp (half, xor_zero_r, xor_mod r x 1) (swap (r / 2) (x / 2) (bit_xor (r % 2) (x % 2) * p))

pub ahead : (p n r x : ℕ) → bits p n (bit_xor r x) 0 ≡ bit_xor (bits p n r x) (x / 2 ^ n)
unfolding bits
ahead p zero r x = rw div-one
ahead p (suc n) r x = rw (one p r x, ahead p n, shr-shr x 1 n, one-add)

-- only the low bits of the data count
pub low : (p n r h : ℕ) → bits p n r (h * 2 ^ n) ≡ bits p n r 0
unfolding bits
low p zero r h = refl
low p (suc n) r h = rw (shifted_even, shifted_half) (low p n (step p r 0) h)

-- n steps of the register alone: those of its n low bits, and the rest moves down
pub split_off : (p n v : ℕ) → bits p n v 0 ≡ bit_xor (bits p n (v % 2 ^ n) 0) (v / 2 ^ n)
split_off p n v =
    ap (λ (x : ℕ). bits p n x 0)
    (sym (split v n) ∙ sym (xor_shifted (v / 2 ^ n) n (v % 2 ^ n) (mod-lt v (pow_pos n))) ∙ xor_comm (v / 2 ^ n * 2 ^ n) (v % 2 ^ n))
    ∙ ahead p n (v % 2 ^ n) (v / 2 ^ n * 2 ^ n)
    ∙ rw (low, shl-shr)

-- all the data at once, by way of the register
pub into : (p n r x : ℕ) → x < 2 ^ n → bits p n r x ≡ bits p n (bit_xor r x) 0
into p n r x h = sym (ahead p n r x ∙ rw (div-eq_of_lt h, xor_zero_r))

-- bits in two parts
pub in_two : (p m n r x : ℕ) → bits p (m + n) r x ≡ bits p n (bits p m r x) (x / 2 ^ m)
unfolding bits
in_two p zero n r x = rw (zero-add, div-one)
in_two p (suc m) n r x = rw (suc-add, ← one-add m, ← shr-shr x 1 m) (in_two p m n (step p r (x % 2)) (x / 2))

-- what lies above the bits that are taken does not count
pub above : (p n r x h : ℕ) → bits p n r (x + h * 2 ^ n) ≡ bits p n r x
unfolding bits
above p zero r x h = refl
above p (suc n) r x h =
    rw (pow-suc, ← mul_assoc h (2 ^ n) 2, half, odd) (above p n (step p r (x % 2)) (x / 2) h)
  where
    half : (x + h * 2 ^ n * 2) / 2 ≡ x / 2 + h * 2 ^ n
    half = omega arith

    odd : (x + h * 2 ^ n * 2) % 2 ≡ x % 2
    odd = omega arith

pub cons : (p n q b x : ℕ) → b < 256 → bits p (8 + n) q (b + x * 256) ≡ bits p n (bits p 8 q b) x
cons p n q b x h =
    let e : (b + x * 256) / 256 ≡ x = omega arith in
    in_two p 8 n q (b + x * 256) ∙ rw (above p 8 q b x, e)
