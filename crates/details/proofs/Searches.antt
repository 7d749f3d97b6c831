-- A turn of each search: the row at hand is taken, or the search goes on behind it.
use Prim.Native.Nat.{ℕ, zero, suc, ◌+◌, ◌-◌, ◌<◌}
use native.Mathlib.Omega.{arith}
use native.Mathlib.Numerals.{add-one}
use mathlib.Core.Path.{◌≡◌, refl}
use mathlib.Core.Bool.{Bool, true, false}
use Rattle.std.specs.Prelude.{Some}
use Rattle.details.specs.Search.{first_from, last_of}

module _ (test : ℕ → Bool) where
  pub first_hit : (n i : ℕ) → i < n → test i ≡ true → first_from test i (n - i) ≡ Some i
  first_hit n i h w = let left : n - i ≡ suc (n - (i + 1)) = omega arith in rw (left, w)

  pub first_miss : (n i : ℕ) → i < n → test i ≡ false → first_from test i (n - i) ≡ first_from test (i + 1) (n - (i + 1))
  first_miss n i h w = let left : n - i ≡ suc (n - (i + 1)) = omega arith in rw (left, w, add-one)

  pub last_hit : (i : ℕ) → (i ≡ 0 → ⊥) → test (i - 1) ≡ true → last_of test i ≡ Some (i - 1)
  last_hit zero ne w = absurd (ne refl)
  last_hit (suc i) ne w = let e : suc i - 1 ≡ i = omega arith in let v : test i ≡ true = rw e at w in rw (e, v)

  pub last_miss : (i : ℕ) → (i ≡ 0 → ⊥) → test (i - 1) ≡ false → last_of test i ≡ last_of test (i - 1)
  last_miss zero ne w = absurd (ne refl)
  last_miss (suc i) ne w = let e : suc i - 1 ≡ i = omega arith in let v : test i ≡ false = rw e at w in rw (e, v)
