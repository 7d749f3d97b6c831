-- Bytes from a place of a list on, as one number; a byte that the list lacks counts as 0.
use Prim.Native.Nat.{ℕ, zero, suc, ◌+◌, ◌*◌, ◌/◌, ◌%◌, ◌≤◌, ◌<◌}
use native.Mathlib.Omega.{arith}
use mathlib.Core.Path.{◌≡◌, refl}
use mathlib.Core.Bool.{Bool, true, false}
use mathlib.Core.List.{List, []}
use borrow.Author.Tests.{ltb-true, ltb-false}
use lib.Dec.{ltb}
use lib.ListN.{length, get_or, take, drop, drop_of_length-le, get_or-eq_default}
use lib.Seq.{drop-cons}
use Rattle.usb.specs.Bits.{number, after}

take_none : (n : ℕ) → number (take n []) ≡ 0
take_none zero = refl
take_none (suc n) = refl

module _ (s : List ℕ) where
  pub one_more : (n i : ℕ) → number (take (suc n) (drop i s)) ≡ get_or s i 0 + number (take n (drop (suc i) s)) * 256
  one_more n i = by (ltb i (length s)) refl
    where
      by : (b : Bool) → ltb i (length s) ≡ b → number (take (suc n) (drop i s)) ≡ get_or s i 0 + number (take n (drop (suc i) s)) * 256
      by true e = let h = ltb-true i (length s) e in rw (drop-cons s i 0)
      by false e =
          let h : length s ≤ i = ltb-false i (length s) e in
          let k : length s ≤ suc i = omega arith in
          rw (drop_of_length-le s h, drop_of_length-le s k, get_or-eq_default s 0 h, take_none n)

  pub after_two : get_or s 1 0 + get_or s 2 0 * 256 ≡ after 2 s
  unfolding after
  after_two = rw (one_more 1 1, one_more 0 2) (omega arith)

  pub after-three : get_or s 1 0 + get_or s 2 0 * 256 + get_or s 3 0 * 65536 ≡ after 3 s
  unfolding after
  after-three = rw (one_more 2 1, one_more 1 2, one_more 0 3) (omega arith)

  pub eight_is : after 8 s ≡ number (take 4 (drop 1 s)) + number (take 4 (drop 5 s)) * 0x100000000
  unfolding after
  eight_is = rw (one_more 7 1, one_more 6 2, one_more 5 3, one_more 4 4, one_more 3 1, one_more 2 2, one_more 1 3, one_more 0 4) (omega arith)

  pub sc-is : get_or s 1 0 < 256 → after 3 s / 128 % 2 ≡ get_or s 1 0 / 128 % 2
  unfolding after
  sc-is h = rw (one_more 2 1) (omega arith)

  pub kind-is : get_or s 1 0 < 256 → get_or s 2 0 < 256 → after 3 s / 131072 % 4 ≡ get_or s 3 0 / 2 % 4
  unfolding after
  kind-is h k = rw (one_more 2 1, one_more 1 2, one_more 0 3) (omega arith)
