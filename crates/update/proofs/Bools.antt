-- Tests: one that holds on the right of `&&`, where it does not compute; and a sum compared by a difference, which can't overflow.
use Rattle.std.proofs.Common.{◌≡◌, ℕ, ◌+◌, ◌-◌, ◌≤◌, Bool, true, false, ◌&&◌, ltb, sym, refl, ◌∙◌, arith, ltb-false, ltb-true, le-ltb, lt-ltb}

pub and_true : (b : Bool) → (b && true) ≡ b
and_true true = refl
and_true false = refl

pub by_difference : (m a b : ℕ) → a ≤ m → ltb (m - a) b ≡ ltb m (a + b)
by_difference m a b h = by (ltb (m - a) b) refl
  where
    by : (z : Bool) → ltb (m - a) b ≡ z → ltb (m - a) b ≡ ltb m (a + b)
    by true e = let l = ltb-true (m - a) b e in e ∙ sym (lt-ltb m (a + b) (omega arith))
    by false e = let l = ltb-false (m - a) b e in e ∙ sym (le-ltb m (a + b) (omega arith))
