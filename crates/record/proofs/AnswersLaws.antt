-- Laws (proved): what an answer tells of the tests before it.
use Rattle.std.specs.Prelude.{ℕ, ◌<◌, ◌≡◌, refl, Bool, true, false, cond, Option, Some, None}
use Rattle.std.proofs.Common.{arith}
use Rattle.details.specs.Details.{wrong}
use Rattle.details.specs.Lookup.{detail_answer}
use Rattle.record.specs.Answers.{Tests, first_of, missing}

-- a number that is not the answer was not given
passed : (a : Bool) (n rest m : ℕ) → cond a n rest ≡ m → (n ≡ m → ⊥) → (a ≡ false) × (rest ≡ m)
passed true n rest m h ne = absurd (ne h)
passed false n rest m h ne = (refl, h)

-- the first eight tests do not apply
pub record Passed (q : Tests) : Type 0 where
  pub ill : q.ill ≡ false
  pub finished : q.finished ≡ false
  pub long : q.long ≡ false
  pub kind : q.kind ≡ false
  pub detail : q.detail ≡ false
  pub address : q.address ≡ false
  pub full : q.full ≡ false
  pub over : q.over ≡ false

-- the last test decides
abbrev pub at_last : Bool → ℕ
at_last dropped = cond dropped 8 0

-- an answer that is none of their numbers
through : (q : Tests) (m : ℕ) → ((n : ℕ) → 0 < n → (n ≡ 8 → ⊥) → n ≡ m → ⊥) → first_of q ≡ m → Passed q × (at_last q.dropped ≡ m)
unfolding first_of
through q m ne h =
    let h1 = passed q.ill _ _ m h (ne _ (omega arith) (λ e. omega arith)) in
    let h2 = passed q.finished _ _ m h1.1 (ne _ (omega arith) (λ e. omega arith)) in
    let h3 = passed q.long _ _ m h2.1 (ne _ (omega arith) (λ e. omega arith)) in
    let h4 = passed q.kind _ _ m h3.1 (ne _ (omega arith) (λ e. omega arith)) in
    let h5 = passed q.detail _ _ m h4.1 (ne _ (omega arith) (λ e. omega arith)) in
    let h6 = passed q.address _ _ m h5.1 (ne _ (omega arith) (λ e. omega arith)) in
    let h7 = passed q.full _ _ m h6.1 (ne _ (omega arith) (λ e. omega arith)) in
    let h9 = passed q.over _ _ m h7.1 (ne _ (omega arith) (λ e. omega arith)) in
    (record { ill = h1.0; finished = h2.0; long = h3.0; kind = h4.0; detail = h5.0; address = h6.0; full = h7.0; over = h9.0 }, h9.1)

-- answer 0: no test applies
pub accepted : (q : Tests) → first_of q ≡ 0 → Passed q × (q.dropped ≡ false)
accepted q h = let g = through q 0 (λ n u v e. omega arith) h in (g.0, not_eight q.dropped g.1)
  where
    not_eight : (b : Bool) → at_last b ≡ 0 → b ≡ false
    not_eight true e = absurd (omega arith)
    not_eight false e = refl

-- answer 8: only the last does
pub answer_8 : (q : Tests) → first_of q ≡ 8 → Passed q × (q.dropped ≡ true)
answer_8 q h = let g = through q 8 (λ n u v e. v e) h in (g.0, eight q.dropped g.1)
  where
    eight : (b : Bool) → at_last b ≡ 8 → b ≡ true
    eight true e = refl
    eight false e = absurd (omega arith)

-- and with all others passed the last decides
pub first_passed : (q : Tests) → Passed q → first_of q ≡ at_last q.dropped
unfolding first_of
first_passed q p = rw (p.ill, p.finished, p.long, p.kind, p.detail, p.address, p.full, p.over)

-- the answer of tables is that of the tests 5 and 6
pub detail-tests : (number direction kind : ℕ) (device : Option ℕ) → detail_answer number direction kind device ≡ cond (wrong number direction kind) 5 (cond (missing device) 6 0)
unfolding detail_answer
detail-tests number direction kind (Some d) = refl
detail-tests number direction kind None = refl
