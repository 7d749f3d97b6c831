-- The register a word at a time: a word stands for the register that `bits p 64` makes of it.
-- Assumes nothing.
use mathlib.Core.Path.{◌≡◌, refl, sym, ap, ◌∙◌}
use mathlib.Core.List.{List, [], ◌∷◌, ◌++◌}
use Prim.Native.Nat.{ℕ, zero, suc, ◌+◌, ◌*◌, ◌/◌, ◌%◌, ◌^◌, ◌<◌}
use native.Mathlib.Omega.{arith}
use lib.Bits.{bit_xor, xor_lt, xor_comm}
use lib.ListN.{take, drop, take-append-drop}
use lib.Seq.{drop-drop}
use Rattle.crc.specs.Crc.{step, bits, bytes}
use Rattle.crc.proofs.Bits.{into, in_two}
use Rattle.crc.proofs.Linear.{run-lin}

pub bytes-append : (p r : ℕ) (xs ys : List ℕ) → bytes p r (xs ++ ys) ≡ bytes p (bytes p r xs) ys
unfolding bytes
bytes-append p r [] ys = refl
bytes-append p r (x ∷ xs) ys = bytes-append p (bits p 8 r x) xs ys

-- n bytes at once, whose check is r'
pub take-turn : (p r r' n i : ℕ) (s : List ℕ) → r' ≡ bytes p r (take n (drop i s)) → bytes p r' (drop (i + n) s) ≡ bytes p r (drop i s)
take-turn p r r' n i s e =
    rw (e, ← drop-drop n i s) (sym (bytes-append p r (take n (drop i s)) (drop n (drop i s))) ∙ ap (bytes p r) (take-append-drop n (drop i s)))

pub start-turn : (p r w : ℕ) → w < 2 ^ 64 → bits p 64 (bit_xor w r) 0 ≡ bits p 64 r w
start-turn p r w h = ap (λ (x : ℕ). bits p 64 x 0) (xor_comm w r) ∙ sym (into p 64 r w h)

-- f stands for a, 64 bits on
pub fold_into : (p f a w : ℕ) → bits p 64 f 0 ≡ bits p 128 a 0 → bits p 64 (bit_xor f w) 0 ≡ bits p 64 (bit_xor (bits p 64 a 0) w) 0
fold_into p f a w e =
    run-lin p 64 f w ∙ ap (λ (x : ℕ). bit_xor x (bits p 64 w 0)) (e ∙ in_two p 64 64 a 0) ∙ sym (run-lin p 64 (bits p 64 a 0) w)

pub fold-turn : (p f a w : ℕ) → bits p 64 f 0 ≡ bits p 128 a 0 → w < 2 ^ 64 → bits p 64 (bit_xor f w) 0 ≡ bits p 64 (bits p 64 a 0) w
fold-turn p f a w e h = fold_into p f a w e ∙ sym (into p 64 (bits p 64 a 0) w h)

-- ---- the register's range

step_lt : (k p r b : ℕ) → p < 2 ^ k → r < 2 ^ k → b < 2 → step p r b < 2 ^ k
unfolding step
step_lt k p r b hp hr hb =
    let d : bit_xor (r % 2) b < 2 = xor_lt 1 (r % 2) b (omega arith) hb in
    xor_lt k (r / 2) (bit_xor (r % 2) b * p) (omega arith) (below (bit_xor (r % 2) b) d)
  where
    below : (x : ℕ) → x < 2 → x * p < 2 ^ k
    below zero h = omega arith
    below (suc zero) h = omega arith
    below (suc (suc x)) h = omega arith

bits_lt : (k p n r x : ℕ) → p < 2 ^ k → r < 2 ^ k → bits p n r x < 2 ^ k
unfolding bits
bits_lt k p zero r x hp hr = hr
bits_lt k p (suc n) r x hp hr = bits_lt k p n (step p r (x % 2)) (x / 2) hp (step_lt k p r (x % 2) hp hr (omega arith))

pub bytes_lt : (k p r : ℕ) (s : List ℕ) → p < 2 ^ k → r < 2 ^ k → bytes p r s < 2 ^ k
unfolding bytes
bytes_lt k p r [] hp hr = hr
bytes_lt k p r (b ∷ s) hp hr = bytes_lt k p (bits p 8 r b) s hp (bits_lt k p 8 r b hp hr)
