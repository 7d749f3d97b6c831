-- Laws (proved): the state row's length and bytes, and the entries after it.
use Rattle.std.specs.Prelude.{ℕ, zero, suc, ◌+◌, ◌*◌, ◌<◌, ◌≤◌, ◌≡◌, refl, List, Bool, true, false, cond, length, get_or}
use Rattle.std.proofs.Common.{arith, ◌∙◌}
use Rattle.std.proofs.Math.Path.{ap}
use Rattle.std.proofs.Math.Dec.{eqb}
use Rattle.endpoints.proofs.EachLaws.{length-each, each_word, entry_beyond, entry-state}
use Rattle.endpoints.specs.Phases.{in_phase, count}
use Rattle.endpoints.proofs.PhasesLaws.{count_ext}
use Rattle.endpoints.specs.States.{next_state}
use Rattle.endpoints.specs.Each.{state_word, next_states, state_bytes}
use Rattle.endpoints.specs.Table.{word_at, byte_of, entry_at, with_state}
use Rattle.endpoints.specs.Word as word

pub length-states : (t : List ℕ) (i n : ℕ) → length (state_bytes t i n) ≡ n
length-states t i zero = refl
length-states t i (suc n) = ap suc (length-states t (suc i) n)

-- byte j of the row is the state of endpoint j
pub states_at : (t : List ℕ) (n i j : ℕ) → j < n → get_or (state_bytes t i n) j 0 ≡ (entry_at t (i + j)).state
unfolding entry_at
states_at t zero i j h = absurd (omega arith)
states_at t (suc n) i zero h = let e : i + 0 ≡ i = omega arith in rw e
states_at t (suc n) i (suc j) h = let e : i + suc j ≡ suc i + j = omega arith in rw e (states_at t n (suc i) j (omega arith))

-- a state is a byte
pub state_byte : (same event start : Bool) (last : ℕ) → byte_of (next_state same event start last) ≡ next_state same event start last
state_byte same event start last = pick same event start (eqb last word.Starting) (eqb last word.Ongoing)
  where
    pick : (same event start a b : Bool)
        → byte_of (cond same (cond start word.Starting word.Ending) (cond a (cond event word.Ending word.Ongoing) (cond b (cond event word.Ending word.Ongoing) word.Idle)))
        ≡ cond same (cond start word.Starting word.Ending) (cond a (cond event word.Ending word.Ongoing) (cond b (cond event word.Ending word.Ongoing) word.Idle))
    pick true event true a b = refl
    pick true event false a b = refl
    pick false true start true b = refl
    pick false false start true b = refl
    pick false true start false true = refl
    pick false false start false true = refl
    pick false event start false false = refl

module _ (t : List ℕ) (n endpoint : ℕ) (start : Bool) where
  pub length-next : length (next_states t n endpoint start) ≡ length t
  unfolding next_states
  length-next = length-each word.state (state_word endpoint start) n t 0

  -- each of the first n endpoints has its next state, and keeps all else
  pub entry_next : (j : ℕ) → n * word.width ≤ length t → j < n
      → entry_at (next_states t n endpoint start) j ≡ with_state (next_state (eqb j endpoint) (eqb endpoint 0) start (entry_at t j).state) (entry_at t j)
  unfolding next_states entry_at
  entry_next j l h =
      entry-state (state_word endpoint start) t n j l h
      ∙ ap (λ (s : ℕ). with_state s (entry_at t j)) (state_byte (eqb j endpoint) (eqb endpoint 0) start (byte_of (word_at t j word.state)))

  pub next_beyond : (j : ℕ) → n ≤ j → entry_at (next_states t n endpoint start) j ≡ entry_at t j
  unfolding next_states
  next_beyond j h = entry_beyond word.state (state_word endpoint start) t n j (omega arith) h

  -- no phase changes
  pub count_next : (p m : ℕ) → count (in_phase p (next_states t n endpoint start)) 0 m ≡ count (in_phase p t) 0 m
  unfolding next_states
  count_next p m = count_ext m _ _ 0 (λ j u v. ap (λ (x : ℕ). eqb x p) (each_word word.state (state_word endpoint start) t 0 n j word.phase (omega arith) (omega arith) (λ e. omega arith)))
