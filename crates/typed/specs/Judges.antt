-- Inner (cited by private contracts alone): the verdict of a detail call, before anything is stored.
use Rattle.std.specs.Prelude.{ℕ, Bool, ◌≡◌, Option, Some, Result, Ok, Err}
use Rattle.record.specs.Answers.{first_of, detail_tests}

-- the verdict by the tests: the answer a and, where that is 0, the row of the device
pub record Judges (ill finished : Bool) (number direction kind : ℕ) (device : Option ℕ) (a at : ℕ) : Type 0 where
  pub answer : a ≡ first_of (detail_tests ill finished number direction kind device)
  pub place : a ≡ 0 → device ≡ Some at

-- as the code tells it: that row, or the answer that refuses
abbrev pub Judged : Bool → Bool → ℕ → ℕ → ℕ → Option ℕ → Result ℕ ℕ → Type 0
Judged ill finished number direction kind device (Ok at) = Judges ill finished number direction kind device 0 at
Judged ill finished number direction kind device (Err a) = Judges ill finished number direction kind device a 0 × (a ≡ 0 → ⊥)
