-- A turn of the loop over the endpoints: what the definition by recursion says of endpoint i and of those after it.
use Prim.Native.Nat.{ℕ, suc, ◌+◌, ◌-◌, ◌<◌}
use native.Mathlib.Omega.{arith}
use native.Mathlib.Numerals.{add-one}
use mathlib.Core.Path.{◌≡◌}
use mathlib.Core.Bool.{Bool, true, false}
use Rattle.record.specs.Formed.{every}

module _ (test : ℕ → Bool) (n i : ℕ) (h : i < n) where
  left : n - i ≡ suc (n - (i + 1))
  left = omega arith

  pub every-next : test i ≡ true → every test i (n - i) ≡ every test (i + 1) (n - (i + 1))
  every-next w = rw (left, w, add-one)

  pub every-stop : test i ≡ false → every test i (n - i) ≡ false
  every-stop w = rw (left, w)
