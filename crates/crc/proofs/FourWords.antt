-- The CRC16 four words at a turn: a word 256 bits on is the part that stays in its place and the part that passes into the place before.
-- Assumes nothing.
use mathlib.Core.Path.{◌≡◌, refl, sym, ap, ap₂, ◌∙◌}
use Prim.Native.Nat.{ℕ, ◌+◌, ◌*◌, ◌%◌, ◌^◌, ◌<◌}
use native.Mathlib.Omega.{arith}
use native.Mathlib.Nat.{add_assoc}
use mathlib.Core.List.{List}
use lib.ListN.{take, drop}
use lib.Bits.{bit_xor, xor_zero_r, xor_comm, xor_lt}
use Rattle.crc.proofs.Words.{take-turn}
use Rattle.crc.specs.Crc.{generator16, bits, bytes}
use Rattle.crc.specs.Fast.{stays_of, passes_of, four}
use Rattle.crc.proofs.Bits.{into, in_two}
use Rattle.crc.proofs.Linear.{Lin, id, plain, shr, shl, run, run-lin, ◌⊕◌, ◌▹◌, middle, at_zero, basis}

infixl 60 ◌⊞◌
infixl 50 ◌▸◌
-- functions of four words that respect xor
pub record Lin4 (f : ℕ → ℕ → ℕ → ℕ → ℕ) : Type 0 where
  pub lin4 : (a b d e x y z t : ℕ) → f (bit_xor a x) (bit_xor b y) (bit_xor d z) (bit_xor e t) ≡ bit_xor (f a b d e) (f x y z t)
  pub quick4 : ℕ → ℕ → ℕ → ℕ → ℕ
  pub same4 : (a b d e : ℕ) → quick4 a b d e ≡ f a b d e

abbrev at0 : {g : ℕ → ℕ} → Lin g → Lin4 (λ a b d e. g a)
at0 l = record { lin4 = λ a b d e x y z t. l.lin a x; quick4 = λ a b d e. l.quick a; same4 = λ a b d e. l.same a }

abbrev at1 : {g : ℕ → ℕ} → Lin g → Lin4 (λ a b d e. g b)
at1 l = record { lin4 = λ a b d e x y z t. l.lin b y; quick4 = λ a b d e. l.quick b; same4 = λ a b d e. l.same b }

abbrev at2 : {g : ℕ → ℕ} → Lin g → Lin4 (λ a b d e. g d)
at2 l = record { lin4 = λ a b d e x y z t. l.lin d z; quick4 = λ a b d e. l.quick d; same4 = λ a b d e. l.same d }

abbrev at3 : {g : ℕ → ℕ} → Lin g → Lin4 (λ a b d e. g e)
at3 l = record { lin4 = λ a b d e x y z t. l.lin e t; quick4 = λ a b d e. l.quick e; same4 = λ a b d e. l.same e }

abbrev ◌▸◌ : {f : ℕ → ℕ → ℕ → ℕ → ℕ} {g : ℕ → ℕ} → Lin4 f → Lin g → Lin4 (λ a b d e. g (f a b d e))
◌▸◌ {f} {g} l m =
    record {
      lin4 = λ a b d e x y z t. ap g (l.lin4 a b d e x y z t) ∙ m.lin (f a b d e) (f x y z t);
      quick4 = λ a b d e. m.quick (l.quick4 a b d e);
      same4 = λ a b d e. ap m.quick (l.same4 a b d e) ∙ m.same (f a b d e);
    }

abbrev ◌⊞◌ : {f g : ℕ → ℕ → ℕ → ℕ → ℕ} → Lin4 f → Lin4 g → Lin4 (λ a b d e. bit_xor (f a b d e) (g a b d e))
◌⊞◌ {f} {g} l m =
    record {
      lin4 = λ a b d e x y z t. ap₂ bit_xor (l.lin4 a b d e x y z t) (m.lin4 a b d e x y z t) ∙ middle (f a b d e) (f x y z t) (g a b d e) (g x y z t);
      quick4 = λ a b d e. bit_xor (l.quick4 a b d e) (m.quick4 a b d e);
      same4 = λ a b d e. ap₂ bit_xor (l.same4 a b d e) (m.same4 a b d e);
    }

-- a function of four words is that of each by itself
module _ {f : ℕ → ℕ → ℕ → ℕ → ℕ} (l : Lin4 f) where
  parts : (a b d e : ℕ) → bit_xor (bit_xor (bit_xor (f a 0 0 0) (f 0 b 0 0)) (f 0 0 d 0)) (f 0 0 0 e) ≡ f a b d e
  parts a b d e =
      ap (λ (x : ℕ). bit_xor (bit_xor x (f 0 0 d 0)) (f 0 0 0 e)) (sym (l.lin4 a 0 0 0 0 b 0 0))
      ∙ ap (λ (x : ℕ). bit_xor x (f 0 0 0 e)) (sym (l.lin4 (bit_xor a 0) b 0 0 0 0 d 0))
      ∙ sym (l.lin4 (bit_xor (bit_xor a 0) 0) (bit_xor b 0) d 0 0 0 0 e)
      ∙ simp xor_zero_r

-- equal where they are at each power of two of each word
module _ {f g : ℕ → ℕ → ℕ → ℕ → ℕ} (l : Lin4 f) (m : Lin4 g) where
  pub basis4 : ((a : ℕ) → a < 2 ^ 64 → f a 0 0 0 ≡ g a 0 0 0) → ((a : ℕ) → a < 2 ^ 64 → f 0 a 0 0 ≡ g 0 a 0 0)
      → ((a : ℕ) → a < 2 ^ 64 → f 0 0 a 0 ≡ g 0 0 a 0) → ((a : ℕ) → a < 2 ^ 64 → f 0 0 0 a ≡ g 0 0 0 a)
      → (a b d e : ℕ) → a < 2 ^ 64 → b < 2 ^ 64 → d < 2 ^ 64 → e < 2 ^ 64 → f a b d e ≡ g a b d e
  basis4 p q r s a b d e ha hb hd he =
      sym (parts l a b d e) ∙ ap₂ bit_xor (ap₂ bit_xor (ap₂ bit_xor (p a ha) (q b hb)) (r d hd)) (s e he) ∙ parts m a b d e

-- ---- the turn

abbrev stays : Lin stays_of
stays = shr 2 ⊕ shr 4 ⊕ shr 16

abbrev passes : Lin passes_of
passes = shl 62 ⊕ shl 60 ⊕ shl 48

-- n bits on
abbrev B : ℕ → ℕ → ℕ
B n v = bits generator16 n v 0

-- the one identity that antt computes: a word, 256 bits on
pair : (e : ℕ) → e < 2 ^ 64 → B 64 (bit_xor (B 64 (passes_of e)) (stays_of e)) ≡ B 320 e
pair = basis ((passes ▹ run 16) ⊕ stays ▹ run 16) (run 80) 64 tt

passes-passes : (a : ℕ) → a < 2 ^ 64 → passes_of (passes_of a) ≡ 0
passes-passes = basis (passes ▹ passes) (plain {f = λ x. 0} (λ x y. refl)) 64 tt

passes_lt : (a : ℕ) → passes_of a < 2 ^ 64
passes_lt a = xor_lt 64 _ (a * 2 ^ 48 % 2 ^ 64) (xor_lt 64 (a * 2 ^ 62 % 2 ^ 64) (a * 2 ^ 60 % 2 ^ 64) (omega arith) (omega arith)) (omega arith)

zero64 : B 64 0 ≡ 0
zero64 = at_zero (run 16)

swapped : (v : ℕ) → B 64 (B 256 v) ≡ B 256 (B 64 v)
swapped v = sym (in_two generator16 256 64 v 0) ∙ in_two generator16 64 256 v 0

deep : (v : ℕ) → B 256 v ≡ B 64 (B 64 (B 64 (B 64 v)))
deep v = in_two generator16 64 192 v 0 ∙ in_two generator16 64 128 (B 64 v) 0 ∙ in_two generator16 64 64 (B 64 (B 64 v)) 0

new : ℕ → ℕ → ℕ → ℕ → ℕ
new a b d e = four (bit_xor (stays_of a) (passes_of b)) (bit_xor (stays_of b) (passes_of d)) (bit_xor (stays_of d) (passes_of e)) (stays_of (bit_xor e (passes_of a)))

old : ℕ → ℕ → ℕ → ℕ → ℕ
old a b d e = B 256 (four a b d e)

abbrev regs : {f g h k : ℕ → ℕ → ℕ → ℕ → ℕ} → Lin4 f → Lin4 g → Lin4 h → Lin4 k → Lin4 (λ a b d e. four (f a b d e) (g a b d e) (h a b d e) (k a b d e))
unfolding four
regs x y z t = (((x ▸ run 16) ⊞ y ▸ run 16) ⊞ z ▸ run 16) ⊞ t ▸ run 16

new_lin : Lin4 new
unfolding new
new_lin = regs (at0 stays ⊞ at1 passes) (at1 stays ⊞ at2 passes) (at2 stays ⊞ at3 passes) (at3 id ⊞ at0 passes ▸ stays)

old_lin : Lin4 old
unfolding old
old_lin = regs (at0 id) (at1 id) (at2 id) (at3 id) ▸ run 64

-- each of the four words, 256 bits on
module _ (v : ℕ) (h : v < 2 ^ 64) where
  w3 : B 64 (bit_xor (B 64 (passes_of v)) (stays_of v)) ≡ B 256 (B 64 v)
  w3 = pair v h ∙ in_two generator16 64 256 v 0

  w2 : B 64 (B 64 (bit_xor (B 64 (passes_of v)) (stays_of v))) ≡ B 256 (B 64 (B 64 v))
  w2 = ap (B 64) w3 ∙ swapped (B 64 v)

  w1 : B 64 (B 64 (B 64 (bit_xor (B 64 (passes_of v)) (stays_of v)))) ≡ B 256 (B 64 (B 64 (B 64 v)))
  w1 = ap (B 64) w2 ∙ swapped (B 64 (B 64 v))

  again : B 64 (stays_of (passes_of v)) ≡ B 64 (B 64 (B 64 (B 64 (B 64 (passes_of v)))))
  again =
      ap (λ (x : ℕ). B 64 (bit_xor x (stays_of (passes_of v)))) (sym (ap (B 64) (passes-passes v h) ∙ zero64))
      ∙ pair (passes_of v) (passes_lt v)
      ∙ in_two generator16 64 256 (passes_of v) 0
      ∙ deep (B 64 (passes_of v))

  w0 : B 64 (bit_xor (B 64 (B 64 (B 64 (stays_of v)))) (stays_of (passes_of v))) ≡ B 256 (B 64 (B 64 (B 64 (B 64 v))))
  w0 =
      run-lin generator16 64 (B 64 (B 64 (B 64 (stays_of v)))) (stays_of (passes_of v))
      ∙ ap (bit_xor (B 64 (B 64 (B 64 (B 64 (stays_of v)))))) again
      ∙ sym ((run 16 ▹ run 16 ▹ run 16 ▹ run 16).lin (stays_of v) (B 64 (passes_of v)))
      ∙ ap (λ (x : ℕ). B 64 (B 64 (B 64 (B 64 x)))) (xor_comm (stays_of v) (B 64 (passes_of v)))
      ∙ ap (B 64) w1
      ∙ swapped (B 64 (B 64 (B 64 v)))

on-four : (a b d e : ℕ) → a < 2 ^ 64 → b < 2 ^ 64 → d < 2 ^ 64 → e < 2 ^ 64 → new a b d e ≡ old a b d e
unfolding new old four
on-four =
    basis4 new_lin old_lin (λ v h. simp (xor_zero_r, zero64) (w0 v h)) (λ v h. simp (xor_zero_r, zero64) (w1 v h))
    (λ v h. simp (xor_zero_r, zero64) (w2 v h)) (λ v h. simp (xor_zero_r, zero64) (w3 v h))

four_lin : (a b d e x y z t : ℕ) → four (bit_xor a x) (bit_xor b y) (bit_xor d z) (bit_xor e t) ≡ bit_xor (four a b d e) (four x y z t)
four_lin = (regs (at0 id) (at1 id) (at2 id) (at3 id)).lin4

flat : (r : ℕ) → four r 0 0 0 ≡ bits generator16 256 r 0
unfolding four
flat r =
    simp xor_zero_r
    (sym (in_two generator16 64 192 r 0 ∙ in_two generator16 64 128 (bits generator16 64 r 0) 0 ∙ in_two generator16 64 64 (bits generator16 64 (bits generator16 64 r 0) 0) 0))

-- four words of data, one after the other
abbrev chain : ℕ → ℕ → ℕ → ℕ → ℕ → ℕ
chain r u v w x = bits generator16 64 (bits generator16 64 (bits generator16 64 (bits generator16 64 r u) v) w) x

module _ (u v w x : ℕ) (hu : u < 2 ^ 64) (hv : v < 2 ^ 64) (hw : w < 2 ^ 64) (hx : x < 2 ^ 64) where
  chained : (r : ℕ) → four (bit_xor r u) v w x ≡ chain r u v w x
  unfolding four
  chained r = rw (into generator16 64 r u hu, into generator16 64 _ v hv, into generator16 64 _ w hw, into generator16 64 _ x hx)

  pub next4 : (a b d e : ℕ) → a < 2 ^ 64 → b < 2 ^ 64 → d < 2 ^ 64 → e < 2 ^ 64
      → four (bit_xor (bit_xor (stays_of a) (passes_of b)) u) (bit_xor (bit_xor (stays_of b) (passes_of d)) v) (bit_xor (bit_xor (stays_of d) (passes_of e)) w) (bit_xor (stays_of (bit_xor e (passes_of a))) x)
      ≡ chain (four a b d e) u v w x
  unfolding new old
  next4 a b d e ha hb hd he =
      four_lin (bit_xor (stays_of a) (passes_of b)) (bit_xor (stays_of b) (passes_of d)) (bit_xor (stays_of d) (passes_of e)) (stays_of (bit_xor e (passes_of a))) u v w x
      ∙ ap (λ (r : ℕ). bit_xor r (four u v w x)) (on-four a b d e ha hb hd he ∙ sym (flat (four a b d e)))
      ∙ sym (four_lin (four a b d e) 0 0 0 u v w x)
      ∙ chained (four a b d e)

  pub start4 : four (bit_xor u 0xffff) v w x ≡ chain 0xffff u v w x
  start4 = ap (λ (r : ℕ). four r v w x) (xor_comm u 0xffff) ∙ chained 0xffff

-- the bytes of the four words
module _ (s : List ℕ) (i u v w x : ℕ) (fu : (q : ℕ) → bits generator16 64 q u ≡ bytes generator16 q (take 8 (drop i s)))
    (fv : (q : ℕ) → bits generator16 64 q v ≡ bytes generator16 q (take 8 (drop (i + 8) s)))
    (fw : (q : ℕ) → bits generator16 64 q w ≡ bytes generator16 q (take 8 (drop (i + 16) s)))
    (fx : (q : ℕ) → bits generator16 64 q x ≡ bytes generator16 q (take 8 (drop (i + 24) s))) where
  at : (r r' k : ℕ) → r' ≡ bytes generator16 r (take 8 (drop (i + k) s)) → bytes generator16 r' (drop (i + (k + 8)) s) ≡ bytes generator16 r (drop (i + k) s)
  at r r' k e = rw (← add_assoc i k 8) (take-turn generator16 r r' 8 (i + k) s e)

  pub words : (r : ℕ) → bytes generator16 (chain r u v w x) (drop (i + 32) s) ≡ bytes generator16 r (drop i s)
  words r = at _ _ 24 (fx _) ∙ at _ _ 16 (fw _) ∙ at _ _ 8 (fv _) ∙ take-turn generator16 r _ 8 i s (fu r)
