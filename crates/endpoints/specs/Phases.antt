-- To be believed: who waits for an item, counted over the phase word.
-- Hold it to: add_item of decoder.rs: `if let Some(..) = ep_data.ended.take()`, counted
use Rattle.std.specs.Prelude.{ℕ, zero, suc, List, Bool, cond, eqb}
use Rattle.endpoints.specs.Table.{word_at}
use Rattle.endpoints.specs.Word as word

-- whether endpoint i has the phase of number p
abbrev pub in_phase : ℕ → List ℕ → ℕ → Bool
in_phase p t i = eqb (word_at t i word.phase) p

-- how many of the n rows from i on the test takes
abbrev pub count : (ℕ → Bool) → ℕ → ℕ → ℕ
count test i zero = 0
count test i (suc n) = cond (test i) (suc (count test (suc i) n)) (count test (suc i) n)

-- add_item of decoder.rs: how many of the first n endpoints wait, their group being ended and not yet closed by an item
abbrev pub waiting : List ℕ → ℕ → ℕ
waiting t n = count (in_phase word.Ended t) 0 n
