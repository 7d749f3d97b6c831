-- Four bytes of the file as one number, and a product that fits.
-- Assumes nothing.
use Rattle.std.proofs.Common.{◌≡◌, ℕ, suc, ◌+◌, ◌*◌, ◌^◌, ◌<◌, ◌≤◌, true, false, List, [], ◌∷◌, length, get_or, take, drop, mul-le-mul_right, add-one, arith, drop-cons}
use Rattle.pcap.specs.Numbers.{number_at}

module _ (t : List ℕ) (at : ℕ) (h : at + 4 ≤ length t) where
  parts : take 4 (drop at t) ≡ get_or t at 0 ∷ get_or t (at + 1) 0 ∷ get_or t (at + 2) 0 ∷ get_or t (at + 3) 0 ∷ []
  parts =
      let e : at + 2 ≡ suc (suc at) = omega arith in
      let g : at + 3 ≡ suc (suc (suc at)) = omega arith in
      rw (
        add-one,
        e,
        g,
        drop-cons t at 0 (omega arith),
        drop-cons t (suc at) 0 (omega arith),
        drop-cons t (suc (suc at)) 0 (omega arith),
        drop-cons t (suc (suc (suc at))) 0 (omega arith),
      )

  pub big-end : get_or t at 0 * 16777216 + get_or t (at + 1) 0 * 65536 + get_or t (at + 2) 0 * 256 + get_or t (at + 3) 0 ≡ number_at true at t
  unfolding number_at
  big-end = rw parts (omega arith)

  pub little-end : get_or t at 0 + get_or t (at + 1) 0 * 256 + get_or t (at + 2) 0 * 65536 + get_or t (at + 3) 0 * 16777216 ≡ number_at false at t
  unfolding number_at
  little-end = rw parts (omega arith)

pub product-fits : (a b : ℕ) → a < 2 ^ 32 → b < 2 ^ 32 → a * b < 2 ^ 64
product-fits a b h g = let m : a ≤ 2 ^ 32 = omega arith in let k : a * b ≤ 2 ^ 32 * b = mul-le-mul_right b m in omega arith
