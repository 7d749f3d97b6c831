-- The formats by nibbles, as 8.3.1 tells PIDs, are those of table 8-1: computed for each of the 256 bytes.
-- Assumes nothing.
use Prim.Native.Nat.{ℕ, zero, suc, ◌-◌, ◌/◌, ◌%◌, ◌<◌}
use native.Mathlib.Omega.{arith}
use mathlib.Core.Path.{◌≡◌, refl, sym, ap, subst, ◌∙◌}
use mathlib.Core.Bool.{Bool, true, false}
use mathlib.Core.List.{List, [], ◌∷◌}
use lib.Dec.{eqb}
use lib.ListN.{get_or}
use Rattle.std.specs.Prelude.{Option, Some, None}
use borrow.Author.Tests.{eqb-true, eqb-false}
use Rattle.usb.proofs.Laws.{both_left, both_right}
use Rattle.usb.specs.Packet.{pick, both, format_of}
use Rattle.usb.specs.declared.Format.{Format}
use Rattle.usb.specs.declared.Format.TheVariants.{Token, Handshake, Data, Split}

-- whether a test passes at each number below n
abbrev all : (ℕ → Bool) → ℕ → Bool
all f zero = true
all f (suc n) = both (f n) (all f n)

module _ (f : ℕ → Bool) where
  last : (n k : ℕ) → k < suc n → f n ≡ true → (k < n → f k ≡ true) → (b : Bool) → eqb k n ≡ b → f k ≡ true
  last n k h t below true e = subst (λ (m : ℕ). f m ≡ true) (sym (eqb-true k n e)) t
  last n k h t below false e = below (omega (arith, eqb-false k n e))

  each : (n : ℕ) → all f n ≡ true → (k : ℕ) → k < n → f k ≡ true
  each zero t k h = absurd (omega arith)
  each (suc n) t k h = last n k h (both_left (f n) (all f n) t) (each n (both_right (f n) (all f n) t) k) (eqb k n) refl

-- table 8-1, by PID<3:0>
abbrev formats : List (Option Format)
formats =
    None ∷ Some Token ∷ Some Handshake ∷ Some Data
    ∷ Some Token ∷ Some Token ∷ Some Handshake ∷ Some Data
    ∷ Some Split ∷ Some Token ∷ Some Handshake ∷ Some Data
    ∷ Some Handshake ∷ Some Token ∷ Some Handshake ∷ Some Data
    ∷ []

-- 8.3.1: the high nibble is the complement of the low one
abbrev by_nibbles : ℕ → Option Format
by_nibbles pid = pick (eqb (pid / 16) (15 - pid % 16)) (get_or formats (pid % 16) None) None

-- formats by number, so that two can be compared
abbrev to_number : Option Format → ℕ
to_number None = 0
to_number (Some Token) = 1
to_number (Some Handshake) = 2
to_number (Some Data) = 3
to_number (Some Split) = 4

abbrev from_number : ℕ → Option Format
from_number n = get_or (None ∷ Some Token ∷ Some Handshake ∷ Some Data ∷ Some Split ∷ []) n None

to-from : (f : Option Format) → from_number (to_number f) ≡ f
to-from None = refl
to-from (Some Token) = refl
to-from (Some Handshake) = refl
to-from (Some Data) = refl
to-from (Some Split) = refl

pub nibbles : (pid : ℕ) → pid < 256 → by_nibbles pid ≡ format_of pid
unfolding format_of
nibbles pid h =
    sym (to-from (by_nibbles pid))
    ∙ ap from_number (eqb-true _ _ (each (λ k. eqb (to_number (by_nibbles k)) (to_number (format_of k))) 256 refl pid h))
    ∙ to-from (format_of pid)
