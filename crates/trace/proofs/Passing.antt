-- The laws of the pass that counts details: what is left to count at a place, and how one record takes from it.
use Rattle.std.proofs.Common.{◌≡◌, ℕ, zero, suc, ◌+◌, ◌<◌, ◌≤◌, Bool, eqb, List, length, get_or, Option, MatchOption, sym, refl, ap, subst, ◌∙◌, arith, le-ltb}
use Rattle.std.specs.Prelude.{⊤, Some, None}
use Rattle.usb.specs.Packet.{pick}
use Rattle.trace.specs.Details.{count_by, count_from, details_of}
use Rattle.trace.proofs.Laws.{Grown, grown}
use Rattle.trace.specs.Pass.{passed_by}
use Rattle.trace.specs.Trace.{packet_at, event_at, detail_at, next_at}
use Rattle.trace.specs.declared.Next.{Next}
use Rattle.trace.specs.declared.Next.TheVariants.{Packet, Event, Detail, Unknown, Cut, End}
use Rattle.trace.specs.declared.details.Passed.{Passed}

module _ (t : List ℕ) where
  -- behind the last byte there is none
  none-behind : (most at : ℕ) → length t ≤ at → count_from t most at ≡ 0
  none-behind zero at h = refl
  none-behind (suc most) at h =
      ap (λ (b : Bool). count_by (pick b (pick (eqb (get_or t at 0) 0) (packet_at t at) (pick (eqb (get_or t at 0) 1) (event_at t at) (pick (eqb (get_or t at 0) 2) (detail_at t at) Unknown))) End) (count_from t most)) (le-ltb at (length t) h)

  -- with as many records as bytes are left, or more, the count is the same
  by-more : (m k : ℕ) → ((at : ℕ) → length t ≤ at + m → count_from t m at ≡ count_from t k at) → (at : ℕ) (n : Next) → Grown t at n → length t ≤ at + suc m
      → count_by n (count_from t m) ≡ count_by n (count_from t k)
  by-more m k f at (Packet ticks start end next) g h = f next.at (let w = g.whole in let a = w.grows in omega arith)
  by-more m k f at (Event ticks kind code next) g h = f next.at (let a = g.grows in omega arith)
  by-more m k f at (Detail address number direction kind max next) g h = ap suc (f next.at (let a = g.grows in omega arith))
  by-more m k f at Unknown g h = refl
  by-more m k f at Cut g h = refl
  by-more m k f at End g h = refl

  enough : (m k at : ℕ) → m ≤ k → length t ≤ at + m → count_from t m at ≡ count_from t k at
  enough zero k at u h = sym (none-behind k at (omega arith))
  enough (suc m) zero at u h = absurd (omega arith)
  enough (suc m) (suc k) at u h = by-more m k (λ a. enough m k a (omega arith)) at (next_at t at) (grown t at) h

  -- all that is left at a place
  abbrev pub rest : ℕ → ℕ
  rest at = count_from t (length t) at

  -- a whole record ends behind its start and within the trace, and is one detail at most
  abbrev Onward : ℕ → Passed → Type 0
  Onward at p = (at < p.next) × (p.next ≤ length t) × (p.details ≤ 1)

  inside_by : (at : ℕ) (n : Next) → Grown t at n → MatchOption (passed_by n) ⊤ (Onward at)
  inside_by at (Packet ticks start end next) g = (g.whole.grows, g.whole.stays, omega arith)
  inside_by at (Event ticks kind code next) g = (g.grows, g.stays, omega arith)
  inside_by at (Detail address number direction kind max next) g = (g.grows, g.stays, omega arith)
  inside_by at Unknown g = tt
  inside_by at Cut g = tt
  inside_by at End g = tt

  pub passed_inside : (at : ℕ) {p : Passed} → Some p ≡ passed_by (next_at t at) → Onward at p
  passed_inside at e = subst (λ (o : Option Passed). MatchOption o ⊤ (Onward at)) (sym e) (inside_by at (next_at t at) (grown t at))

  -- what counts a record: none where it is no whole one, else it and those behind it
  abbrev Counted : (ℕ → ℕ) → ℕ → Option Passed → Type 0
  Counted more n o = MatchOption o (n ≡ 0) (λ p. n ≡ p.details + more p.next)

  whole_by : (n : Next) (more : ℕ → ℕ) → Counted more (count_by n more) (passed_by n)
  whole_by (Packet ticks start end next) more = omega arith
  whole_by (Event ticks kind code next) more = omega arith
  whole_by (Detail address number direction kind max next) more = omega arith
  whole_by Unknown more = refl
  whole_by Cut more = refl
  whole_by End more = refl

  counted : (at : ℕ) {o : Option Passed} (more : ℕ → ℕ) → o ≡ passed_by (next_at t at) → Counted more (count_by (next_at t at) more) o
  counted at more e = subst (Counted more (count_by (next_at t at) more)) (sym e) (whole_by (next_at t at) more)

  -- what is no whole record ends the count
  pub rest_over : (at : ℕ) → None ≡ passed_by (next_at t at) → rest at ≡ 0
  rest_over at e = by (length t)
    where
      by : (l : ℕ) → count_from t l at ≡ 0
      by zero = refl
      by (suc m) = counted at (count_from t m) e

  -- a whole one is counted, and the count goes on behind it
  pub rest-step : (at : ℕ) {p : Passed} → Some p ≡ passed_by (next_at t at) → rest at ≡ p.details + rest p.next
  rest-step at {p} e = by (length t) refl
    where
      by : (l : ℕ) → length t ≡ l → count_from t l at ≡ p.details + count_from t l p.next
      by zero z = let i = passed_inside at e in absurd (omega (arith, i.0, i.1))
      by (suc m) z =
          let i = passed_inside at e in
          counted at (count_from t m) e ∙ ap (λ (x : ℕ). p.details + x) (enough m (suc m) p.next (omega arith) (omega (arith, i.0)))

  -- ---- the loop

  -- n were counted up to the place `at`
  pub record Counting (at n : ℕ) : Type 0 where
    pub all : n + rest at ≡ details_of t
    pub few : n ≤ at

  pub counting-start : Counting 5 0
  unfolding details_of
  counting-start = record { all = omega arith; few = omega arith }

  module _ {at n : ℕ} (k : Counting at n) where
    pub counting-over : None ≡ passed_by (next_at t at) → n ≡ details_of t
    counting-over e =
        let z = rest_over at e in
        let a = k.all in
        omega arith

    module _ {p : Passed} (e : Some p ≡ passed_by (next_at t at)) where
      pub counting_few : n + p.details ≤ p.next
      counting_few =
          let i = passed_inside at e in
          omega (arith, i.0, i.2, k.few)

      pub counting_more : Counting p.next (n + p.details)
      counting_more =
          let z = rest-step at e in
          let a = k.all in
          record { all = omega arith; few = counting_few }
