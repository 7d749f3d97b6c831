-- Functions that respect `bit_xor`, and how they are put together; two of them are equal below 2 ^ n where they are at each power of two.
-- Assumes nothing.
use mathlib.Core.Path.{◌≡◌, refl, sym, ap, ap₂, ◌∙◌}
use mathlib.Core.Bool.{Bool, true, false}
use Prim.Native.Nat.{ℕ, zero, suc, ◌+◌, ◌-◌, ◌*◌, ◌/◌, ◌%◌, ◌^◌, ◌≤◌, ◌<◌}
use native.Mathlib.Nat.{zero-mul, one-mul, add-zero, pow-suc}
use native.Mathlib.Omega.{arith}
use lib.Dec.{T, eqb, eqb→eq, ltb}
use lib.Arith.{lt-one}
use borrow.Author.Tests.{ltb-true, ltb-false}
use lib.Pow.{pow_pos}
use lib.ListN.{get_or}
use mathlib.Core.List.{List, [], ◌∷◌}
use lib.Bits.{bit_xor, xor_mod, xor_shr, xor_block, xor_shifted, xor_zero_r, xor_self, xor_comm}
use Rattle.crc.specs.Crc.{generator16, step, bits}
use Rattle.crc.proofs.Xor.{xor_assoc}
use Rattle.crc.proofs.Bits.{split_off, in_two}
use Rattle.crc.proofs.Rule.{rule}

infixl 60 ◌⊕◌
infixl 50 ◌▹◌
-- `quick` is a way to compute it
pub record Lin (f : ℕ → ℕ) : Type 0 where
  pub lin : (x y : ℕ) → f (bit_xor x y) ≡ bit_xor (f x) (f y)
  pub quick : ℕ → ℕ
  pub same : (x : ℕ) → quick x ≡ f x

abbrev pub plain : {f : ℕ → ℕ} → ((x y : ℕ) → f (bit_xor x y) ≡ bit_xor (f x) (f y)) → Lin f
plain {f} l = record { lin = l; quick = f; same = λ x. refl }

abbrev pub id : Lin (λ x. x)
id = plain (λ x y. refl)

abbrev pub ◌▹◌ : {f g : ℕ → ℕ} → Lin f → Lin g → Lin (λ x. g (f x))
◌▹◌ {f} {g} a b =
    record { lin = λ x y. ap g (a.lin x y) ∙ b.lin (f x) (f y); quick = λ x. b.quick (a.quick x); same = λ x. ap b.quick (a.same x) ∙ b.same (f x) }

pub middle : (a b c d : ℕ) → bit_xor (bit_xor a b) (bit_xor c d) ≡ bit_xor (bit_xor a c) (bit_xor b d)
middle a b c d =
    xor_assoc a b (bit_xor c d)
    ∙ ap (bit_xor a) (sym (xor_assoc b c d) ∙ ap (λ (x : ℕ). bit_xor x d) (xor_comm b c) ∙ xor_assoc c b d)
    ∙ sym (xor_assoc a c (bit_xor b d))

abbrev pub ◌⊕◌ : {f g : ℕ → ℕ} → Lin f → Lin g → Lin (λ x. bit_xor (f x) (g x))
◌⊕◌ {f} {g} a b =
    record {
      lin = λ x y. ap₂ bit_xor (a.lin x y) (b.lin x y) ∙ middle (f x) (f y) (g x) (g y);
      quick = λ x. bit_xor (a.quick x) (b.quick x);
      same = λ x. ap₂ bit_xor (a.same x) (b.same x);
    }

abbrev pub shr : (k : ℕ) → Lin (λ x. x / 2 ^ k)
shr k = plain (λ x y. xor_shr x y k)

abbrev pub low : (k : ℕ) → Lin (λ x. x % 2 ^ k)
low k = plain (λ x y. xor_mod x y k)

pub up_lin : (k x y : ℕ) → bit_xor x y * 2 ^ k ≡ bit_xor (x * 2 ^ k) (y * 2 ^ k)
up_lin k x y = rw (← add-zero (bit_xor x y * 2 ^ k), ← add-zero (x * 2 ^ k), ← add-zero (y * 2 ^ k)) (sym (xor_block k x y 0 0 (pow_pos k) (pow_pos k)))

abbrev pub up : (k : ℕ) → Lin (λ x. x * 2 ^ k)
up k = plain (up_lin k)

-- `<<` of a word
abbrev pub shl : (k : ℕ) → Lin (λ x. x * 2 ^ k % 2 ^ 64)
shl k = up k ▹ low 64

pub digit : (m a b : ℕ) → a < 2 → b < 2 → bit_xor a b * m ≡ bit_xor (a * m) (b * m)
digit m zero b ha hb = rw (zero-mul m)
digit m (suc zero) zero ha hb = rw (zero-mul m, xor_zero_r (1 * m))
digit m (suc zero) (suc zero) ha hb = rw (xor_self (1 * m), zero-mul)
digit m (suc zero) (suc (suc b)) ha hb = omega arith
digit m (suc (suc a)) b ha hb = omega arith

-- m where the lowest digit is one
abbrev pub bit : (m : ℕ) → Lin (λ x. x % 2 * m)
bit m = plain (λ x y. ap (λ (d : ℕ). d * m) (xor_mod x y 1) ∙ digit m (x % 2) (y % 2) (omega arith) (omega arith))

one : (p x y : ℕ) → step p (bit_xor x y) 0 ≡ bit_xor (step p x 0) (step p y 0)
unfolding step
one p x y = simp xor_zero_r ((shr 1 ⊕ bit p).lin x y)

-- the register alone
pub run-lin : (p n x y : ℕ) → bits p n (bit_xor x y) 0 ≡ bit_xor (bits p n x 0) (bits p n y 0)
unfolding bits
run-lin p zero x y = refl
run-lin p (suc n) x y = ap (λ (r : ℕ). bits p n r 0) (one p x y) ∙ run-lin p n (step p x 0) (step p y 0)

-- CRC16's, computed four bits at a time
abbrev pub fours : ℕ → ℕ
fours zero = 0
fours (suc n) = 4 + fours n

abbrev pub table4 : List ℕ
table4 = 0 ∷ 0xCC01 ∷ 0xD801 ∷ 0x1400 ∷ 0xF001 ∷ 0x3C00 ∷ 0x2800 ∷ 0xE401 ∷ 0xA001 ∷ 0x6C00 ∷ 0x7800 ∷ 0xB401 ∷ 0x5000 ∷ 0x9C01 ∷ 0x8801 ∷ 0x4400 ∷ []

abbrev pub nibbles : ℕ → ℕ → ℕ
nibbles zero v = v
nibbles (suc n) v = nibbles n (bit_xor (get_or table4 (v % 16) 0) (v / 16))

four : (v : ℕ) → v < 16 → get_or table4 v 0 ≡ bits generator16 4 v 0
unfolding bits step
four v h = rule (λ (k : ℕ). bits generator16 4 k 0) 16 v h

pub nibbles-is : (n v : ℕ) → nibbles n v ≡ bits generator16 (fours n) v 0
unfolding bits
nibbles-is zero v = refl
nibbles-is (suc n) v =
    nibbles-is n (bit_xor (get_or table4 (v % 16) 0) (v / 16))
    ∙ ap (λ (r : ℕ). bits generator16 (fours n) r 0) (ap (λ (t : ℕ). bit_xor t (v / 16)) (four (v % 16) (omega arith)) ∙ sym (split_off generator16 4 v))
    ∙ sym (in_two generator16 4 (fours n) v 0)

abbrev pub run : (n : ℕ) → Lin (λ x. bits generator16 (fours n) x 0)
run n = record { lin = run-lin generator16 (fours n); quick = nibbles n; same = nibbles-is n }

-- ---- equal at each power of two

abbrev both : Bool → Bool → Bool
both true b = b
both false b = false

both_left : (a b : Bool) → T (both a b) → T a
both_left true b t = tt
both_left false b t = t

both_right : (a b : Bool) → T (both a b) → T b
both_right true b t = t
both_right false b t = absurd t

abbrev pub agree : (ℕ → ℕ) → (ℕ → ℕ) → ℕ → Bool
agree f g zero = true
agree f g (suc n) = both (eqb (f (2 ^ n)) (g (2 ^ n))) (agree f g n)

pub at_zero : {f : ℕ → ℕ} → Lin f → f 0 ≡ 0
at_zero {f} a = a.lin 0 0 ∙ xor_self (f 0)

module _ {f g : ℕ → ℕ} (lf : Lin f) (lg : Lin g) where
  joined : (u r : ℕ) → f u ≡ g u → f r ≡ g r → f (bit_xor u r) ≡ g (bit_xor u r)
  joined u r p q = lf.lin u r ∙ ap₂ bit_xor p q ∙ sym (lg.lin u r)

  next : (n : ℕ) → f (2 ^ n) ≡ g (2 ^ n) → ((a : ℕ) → a < 2 ^ n → f a ≡ g a) → (a : ℕ) → a < 2 ^ suc n → (d : Bool) → ltb a (2 ^ n) ≡ d → f a ≡ g a
  next n p below a h true e = below a (ltb-true a (2 ^ n) e)
  next n p below a h false e =
      let q : 2 ^ n ≤ a = ltb-false a (2 ^ n) e in
      let k : a < 2 ^ n * 2 = rw pow-suc at h in
      let r : a - 2 ^ n < 2 ^ n = omega arith in
      let s : bit_xor (2 ^ n) (a - 2 ^ n) ≡ a =
      ap (λ (u : ℕ). bit_xor u (a - 2 ^ n)) (sym (one-mul (2 ^ n))) ∙ xor_shifted 1 n (a - 2 ^ n) r ∙ omega arith in
      ap f (sym s) ∙ joined (2 ^ n) (a - 2 ^ n) p (below (a - 2 ^ n) r) ∙ ap g s

  pub basis : (n : ℕ) → T (agree lf.quick lg.quick n) → (a : ℕ) → a < 2 ^ n → f a ≡ g a
  basis zero t a h = ap f (lt-one h) ∙ at_zero lf ∙ sym (at_zero lg) ∙ ap g (sym (lt-one h))
  basis (suc n) t a h =
      next n (sym (lf.same (2 ^ n)) ∙ eqb→eq _ _ (both_left (eqb (lf.quick (2 ^ n)) (lg.quick (2 ^ n))) (agree lf.quick lg.quick n) t) ∙ lg.same (2 ^ n))
      (basis n (both_right (eqb (lf.quick (2 ^ n)) (lg.quick (2 ^ n))) (agree lf.quick lg.quick n) t)) a h (ltb a (2 ^ n)) refl
