-- Laws (proved): what a search's answer says: a found row is taken by the test and none before it is (none after it, in a search for the last); with none
-- found the test takes none.
use Rattle.std.specs.Prelude.{ℕ, zero, suc, ◌+◌, ◌<◌, ◌≤◌, ◌≡◌, refl, Bool, true, false, cond, eqb, Option, Some, None}
use Rattle.std.proofs.Common.{arith, eqb-true}
use Rattle.std.proofs.lemmas.Bool.{eqb-false}
use Rattle.details.specs.Search.{first_from, last_of}

-- the test takes no row from i on and below e
abbrev pub Untaken : (ℕ → Bool) → ℕ → ℕ → Type 0
Untaken test i e = (m : ℕ) → i ≤ m → m < e → test m ≡ false

abbrev pub First : (ℕ → Bool) → ℕ → ℕ → Option ℕ → Type 0
First test i n (Some j) = (i ≤ j) × ((j < i + n) × ((test j ≡ true) × Untaken test i j))
First test i n None = Untaken test i (i + n)

abbrev pub Last : (ℕ → Bool) → ℕ → Option ℕ → Type 0
Last test n (Some j) = (j < n) × ((test j ≡ true) × Untaken test (suc j) n)
Last test n None = Untaken test 0 n

module _ (test : ℕ → Bool) where
  more : (i e : ℕ) → test i ≡ false → Untaken test (suc i) e → Untaken test i e
  more i e w r m u v = pick (eqb i m) refl
    where
      pick : (b : Bool) → eqb i m ≡ b → test m ≡ false
      pick true q = let s = eqb-true i m q in rw (← s) w
      pick false q = let s = eqb-false i m q in r m (omega arith) v

  pub first-is : (n i : ℕ) → First test i n (first_from test i n)
  first-is zero i = λ m u v. absurd (omega arith)
  first-is (suc n) i = pick (test i) refl (first_from test (suc i) n) (first-is n (suc i))
    where
      pick : (b : Bool) → test i ≡ b → (f : Option ℕ) → First test (suc i) n f → First test i (suc n) (cond b (Some i) f)
      pick true w f r = (omega arith, (omega arith, (w, λ m u v. absurd (omega arith))))
      pick false w (Some j) r = (omega (arith, r.0), (omega (arith, r.1.0), (r.1.1.0, more i j w r.1.1.1)))
      pick false w None r = more i (i + suc n) w (λ m u v. r m u (omega arith))

  further : (n i : ℕ) → test n ≡ false → Untaken test i n → Untaken test i (suc n)
  further n i w r m u v = pick (eqb n m) refl
    where
      pick : (b : Bool) → eqb n m ≡ b → test m ≡ false
      pick true q = let s = eqb-true n m q in rw (← s) w
      pick false q = let s = eqb-false n m q in r m u (omega arith)

  pub last-is : (n : ℕ) → Last test n (last_of test n)
  last-is zero = λ m u v. absurd (omega arith)
  last-is (suc n) = pick (test n) refl (last_of test n) (last-is n)
    where
      pick : (b : Bool) → test n ≡ b → (f : Option ℕ) → Last test n f → Last test (suc n) (cond b (Some n) f)
      pick true w f r = (omega arith, (w, λ m u v. absurd (omega arith)))
      pick false w (Some j) r = (omega (arith, r.0), (r.1.0, further n (suc j) w r.1.1))
      pick false w None r = further n 0 w r
