-- Laws (proved): what a test made of two tells of each, and what it wants of them.
use Rattle.std.specs.Prelude.{ℕ, zero, suc, ◌+◌, ◌<◌, ◌≤◌, ◌≡◌, refl, Bool, true, false, ◌&&◌, ◌||◌, ◌⊎◌, eqb}
use Rattle.std.proofs.Common.{arith, true≢false, inl, inr, eqb-true}
use Rattle.std.proofs.lemmas.Bool.{false≢true, eqb-false}
use Rattle.record.specs.Formed.{implies, every}

pub both : (a b : Bool) → (a && b) ≡ true → (a ≡ true) × (b ≡ true)
both true b h = (refl, h)
both false b h = absurd (false≢true h)

pub and : (a b : Bool) → a ≡ true → b ≡ true → (a && b) ≡ true
and a b h g = rw (h, g)

pub neither : (a b : Bool) → (a || b) ≡ false → (a ≡ false) × (b ≡ false)
neither true b h = absurd (true≢false h)
neither false b h = (refl, h)

pub nor : (a b : Bool) → a ≡ false → b ≡ false → (a || b) ≡ false
nor a b h g = rw (h, g)

pub implied : (a b : Bool) → implies a b ≡ true → a ≡ true → b ≡ true
implied true b h g = h
implied false b h g = absurd (false≢true g)

pub imply : (a b : Bool) → (a ≡ true → b ≡ true) → implies a b ≡ true
imply true b f = f refl
imply false b f = refl

pub either_true : (a b : Bool) → (a || b) ≡ true → (a ≡ true) ⊎ (b ≡ true)
either_true true b h = inl refl
either_true false b h = inr h

pub or_left : (a b : Bool) → a ≡ true → (a || b) ≡ true
or_left a b h = rw h

pub or_right : (a b : Bool) → b ≡ true → (a || b) ≡ true
or_right true b h = refl
or_right false b h = h

module _ (test : ℕ → Bool) where
  -- the test holds of each of the n numbers from i on
  pub every_at : (n i j : ℕ) → every test i n ≡ true → i ≤ j → j < i + n → test j ≡ true
  every_at zero i j h u v = absurd (omega arith)
  every_at (suc n) i j h u v = let g = both _ _ h in pick (eqb i j) refl g.0 (λ l. every_at n (suc i) j g.1 l (omega arith))
    where
      pick : (b : Bool) → eqb i j ≡ b → test i ≡ true → (i < j → test j ≡ true) → test j ≡ true
      pick true e here later = let q = eqb-true i j e in rw (← q) here
      pick false e here later = let q = eqb-false i j e in later (omega arith)

  pub every_true : (n i : ℕ) → ((j : ℕ) → i ≤ j → j < i + n → test j ≡ true) → every test i n ≡ true
  every_true zero i f = refl
  every_true (suc n) i f = and _ _ (f i (omega arith) (omega arith)) (every_true n (suc i) (λ j u v. f j (omega arith) (omega arith)))
