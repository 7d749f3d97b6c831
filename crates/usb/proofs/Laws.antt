-- Laws (proved): a packet is valid exactly where there is no reason, and there the reason's number is 0; what a valid packet's PID says of its length, for callers of `usb::fields`. Nothing here is to be believed; all of it follows from Packet.
-- Assumes nothing.
use Rattle.std.specs.Prelude.{ℕ, ◌≤◌, ◌≡◌, refl, Bool, false, List, [], ◌∷◌, eqb, leb, length, get_or, Option, Some, None, Result, Ok, Err, is_ok, ⊤}
use Rattle.std.proofs.Common.{sym, ap, ◌∙◌, arith}
use Rattle.std.proofs.Math.Path.{subst}
use Rattle.std.proofs.Math.Bool.{true}
use Rattle.std.proofs.lemmas.Bool.{false≢true}
use borrow.Author.Tests.{eqb-true, leb-true}
use Rattle.usb.specs.Packet.{pick, both, format_of, token_format, split_format, data_format, handshake_format, token_sums, split_sums, data_sums, format_ok, first_wrong, format_reason, with_pid, number_of, reason_of, checked_of}
use Rattle.usb.specs.declared.Format.{Format}
use Rattle.usb.specs.declared.Format.TheVariants.{Token, Handshake, Data, Split}
use Rattle.usb.specs.declared.reason.Reason.{Reason}
use Rattle.usb.specs.declared.reason.Reason.TheVariants.{Empty, Pid, Length, Crc}

-- a valid packet starts with its PID, and has that PID's format
pub record Fits (p : List ℕ) (pid : ℕ) : Type 0 where
  pub first : get_or p 0 0 ≡ pid
  pub format : format_ok (format_of pid) p ≡ true

-- ---- the reason

first-wrong : (a b : Bool) → is_ok (first_wrong a b) ≡ both a b
first-wrong true true = refl
first-wrong true false = refl
first-wrong false b = refl

pub reason-format : (f : Option Format) (p : List ℕ) → is_ok (format_reason f p) ≡ format_ok f p
unfolding format_ok format_reason
reason-format None p = refl
reason-format (Some Token) p = first-wrong _ _
reason-format (Some Split) p = first-wrong _ _
reason-format (Some Data) p = first-wrong _ _
reason-format (Some Handshake) p = first-wrong _ _

-- a packet is valid by its format, so the check answers what was found
either : (b : Bool) (pid : ℕ) (r : Result ⊤ Reason) → is_ok r ≡ b → pick b (Ok pid) (with_pid pid r) ≡ with_pid pid r
either true pid (Ok _) e = refl
either true pid (Err reason) e = absurd (false≢true e)
either false pid r e = refl

pub checked-is : (b : ℕ) (p : List ℕ) → checked_of (b ∷ p) ≡ with_pid b (format_reason (format_of b) (b ∷ p))
unfolding checked_of
checked-is b p = either (format_ok (format_of b) (b ∷ p)) b (format_reason (format_of b) (b ∷ p)) (reason-format (format_of b) (b ∷ p))

-- what the check answers has the reason of the bytes
abbrev pub why_of : Result ℕ Reason → ℕ
why_of r = number_of r

pub why-is : (p : List ℕ) → why_of (checked_of p) ≡ reason_of p
unfolding checked_of reason_of
why-is [] = refl
why-is (b ∷ p) = ap why_of (checked-is b p) ∙ by (format_reason (format_of b) (b ∷ p))
  where
    by : (r : Result ⊤ Reason) → why_of (with_pid b r) ≡ number_of r
    by (Ok _) = refl
    by (Err reason) = refl

-- 02, 1: the reason is 0 exactly where the packet is valid
pub reason-none : (p : List ℕ) (pid : ℕ) → checked_of p ≡ Ok pid → reason_of p ≡ 0
reason-none p pid e = sym (why-is p) ∙ ap why_of e

pub none_valid : (p : List ℕ) → reason_of p ≡ 0 → checked_of p ≡ Ok (get_or p 0 0)
unfolding checked_of reason_of
none_valid [] e = absurd (omega arith)
none_valid (b ∷ p) e = checked-is b p ∙ by (format_reason (format_of b) (b ∷ p)) e
  where
    by : (r : Result ⊤ Reason) → number_of r ≡ 0 → with_pid b r ≡ Ok b
    by (Ok _) h = refl
    by (Err Empty) h = absurd (omega arith)
    by (Err Pid) h = absurd (omega arith)
    by (Err Length) h = absurd (omega arith)
    by (Err Crc) h = absurd (omega arith)

-- ---- a valid packet

picked : (r : Result ⊤ Reason) (first pid : ℕ) → with_pid first r ≡ Ok pid → (is_ok r ≡ true) × (first ≡ pid)
picked (Ok _) first pid e = (refl, cc)
picked (Err reason) first pid e = absurd (let z : ◌≡◌ {A = ℕ} 0 1 = cc in omega arith)

pub valid : (p : List ℕ) (pid : ℕ) → checked_of p ≡ Ok pid → Fits p pid
unfolding checked_of
valid [] pid e = absurd (let z : ◌≡◌ {A = ℕ} 0 1 = cc in omega arith)
valid (b ∷ p) pid e =
    let h = picked (format_reason (format_of b) (b ∷ p)) b pid (sym (checked-is b p) ∙ e) in
    let k = sym (reason-format (format_of b) (b ∷ p)) ∙ h.0 in
    record { first = h.1; format = subst (λ (x : ℕ). format_ok (format_of x) (b ∷ p) ≡ true) h.1 k }

pub both_left : (a b : Bool) → both a b ≡ true → a ≡ true
both_left true b e = refl
both_left false b e = e

pub both_right : (a b : Bool) → both a b ≡ true → b ≡ true
both_right true b e = e
both_right false b e = absurd (let z : ◌≡◌ {A = ℕ} 0 1 = cc in omega arith)

module _ (p : List ℕ) (pid : ℕ) (v : checked_of p ≡ Ok pid) where
  pub token-length : format_of pid ≡ token_format → length p ≡ 3
  unfolding format_ok
  token-length f = eqb-true _ _ (both_left (eqb (length p) 3) _ (subst (λ (k : Option Format). format_ok k p ≡ true) f (valid p pid v).format))

  pub split-length : format_of pid ≡ split_format → length p ≡ 4
  unfolding format_ok
  split-length f = eqb-true _ _ (both_left (eqb (length p) 4) _ (subst (λ (k : Option Format). format_ok k p ≡ true) f (valid p pid v).format))

  pub data-length : format_of pid ≡ data_format → (3 ≤ length p) × (length p ≤ 1027)
  unfolding format_ok
  data-length f =
      let h : format_ok data_format p ≡ true = subst (λ (k : Option Format). format_ok k p ≡ true) f (valid p pid v).format in
      let l = both_left (both (leb 3 (length p)) (leb (length p) 1027)) _ h in
      (leb-true _ _ (both_left (leb 3 (length p)) _ l), leb-true _ _ (both_right (leb 3 (length p)) _ l))

  pub handshake-length : format_of pid ≡ handshake_format → length p ≡ 1
  unfolding format_ok
  handshake-length f = eqb-true _ _ (both_left (eqb (length p) 1) _ (subst (λ (k : Option Format). format_ok k p ≡ true) f (valid p pid v).format))
