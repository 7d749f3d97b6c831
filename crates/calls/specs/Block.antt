-- To be believed: what the entry for a block of records answers and leaves.
-- Hold it to: ours: the C entry pivotspark_block, to the contract of a block (step, Block); 02, change request 3: "starting tick state passed in"
use Rattle.std.specs.Prelude.{ℕ, ◌%◌, Bool, cond, List, [], ◌∷◌, ◌≡◌, ltb, get_or}
use Rattle.std.proofs.lemmas.List.Edits.{sets}
use Rattle.rows.specs.One.{one}
use Rattle.endpoints.specs.Table.{flag_of}
use Rattle.trace.specs.declared.clock.Clock.{Clock}
use Rattle.call.specs.State.{Logs}
use Rattle.step.specs.Block.{stand, Takes}
use Rattle.calls.specs.Calls.{state_in, Kept}

-- the tick state in three words: whether there was a tick, the last counter (32 bits), and its time
abbrev pub clock_in : List ℕ → Clock
clock_in k = record { started = flag_of (get_or k 0 0); last = get_or k 1 0 % 4294967296; time = get_or k 2 0 }

abbrev pub clock_words : Clock → List ℕ
clock_words c = one c.started ∷ c.last ∷ c.time ∷ []

-- the records b from the first byte on; where none was taken the record and the tick state are as they were, also in words that stand for the same
pub record BlockKept (typed : Bool) (b w k t : List ℕ) (l : Logs) (h o : List ℕ) (a : ℕ) (w' k' t' : List ℕ) (l' : Logs) (h' o' : List ℕ) : Type 0 where
  pub taken : ℕ
  pub eights : ℕ
  pub place : ℕ
  pub takes : Takes typed b 0 (clock_in k) (stand (state_in w t l) h) taken eights a place (clock_in k') (stand (state_in w' t' l') h')
  pub words : Kept (ltb 0 taken) w w'
  pub clock : k' ≡ cond (ltb 0 taken) (sets k 0 (clock_words (clock_in k'))) k
  pub told : o' ≡ sets o 0 (taken ∷ eights ∷ place ∷ [])
