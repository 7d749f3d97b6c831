-- To be believed: a `match` of the Rust as a table: a row has a test for each number that is matched, perhaps a guard, and an answer. The first row that fits
-- answers.
-- Hold it to: a `match` of the Rust: patterns with alternatives, guards, the first arm that fits
use Rattle.std.specs.Prelude.{Bool, true, false, ◌&&◌, ◌||◌, List, [], ◌∷◌, ℕ, eqb}

abbrev pub pick : {A : Type 0} → Bool → A → A → A
pick true a b = a
pick false a b = b

pub record Row (A : Type 0) : Type 0 where
  pub tests : List (ℕ → Bool)
  pub guard : Bool
  pub answer : A

infixr 80 ◌gives◌
abbrev pub ◌gives◌ : {A : Type 0} → List (ℕ → Bool) → A → Row A
t gives a = record { tests = t; guard = true; answer = a }

-- the row with a guard: tests gives answer when guard
infixl 79 ◌when◌
abbrev pub ◌when◌ : {A : Type 0} → Row A → Bool → Row A
r when g = record { tests = r.tests; guard = g; answer = r.answer }

-- any number; a and no other; a, or what the other test takes
abbrev pub any : ℕ → Bool
any x = true

abbrev pub only : ℕ → ℕ → Bool
only a x = eqb x a

infixr 90 ◌or◌
abbrev pub ◌or◌ : ℕ → (ℕ → Bool) → ℕ → Bool
(a or p) x = eqb x a || p x

-- each test takes its number
abbrev pub fits : List (ℕ → Bool) → List ℕ → Bool
fits [] xs = true
fits (p ∷ ps) [] = true
fits (p ∷ ps) (x ∷ xs) = p x && fits ps xs

abbrev pub look : {A : Type 0} → List (Row A) → A → List ℕ → A
look [] none xs = none
look (r ∷ rs) none xs = pick (fits r.tests xs && r.guard) r.answer (look rs none xs)
