-- Laws (proved): demand 3 over blocks (02, change request 3): what a block leaves of a sequence of calls is a sequence of calls, so all that is claimed of
-- sequences (Sequence, Meets) is so behind blocks; and no block on such a state answers 1. It is so of blocks that refuse details and of old traces, which obey them (02, 13).
-- proofs/Blocks.antt proves it.
use Rattle.std.specs.Prelude.{ℕ, Bool, ◌≡◌, List, ◌++◌}
use Rattle.rules.specs.Rows.{Row}
use Rattle.trace.specs.declared.clock.Clock.{Clock}
use Rattle.call.specs.State.{State}
use Rattle.step.specs.Block.{Stand, Takes}
use Rattle.demands.specs.Sequence.{Sequence, Meets}

-- the history js, with the rows of more calls
pub record Continues (js : List Row) (s : State) : Type 0 where
  pub rows : List Row
  pub sequence : Sequence (rows ++ js) s

pub record Blocks : Type 0 where
  pub sequence : {typed : Bool} {t : List ℕ} {at n e a p : ℕ} {c c' : Clock} {s s' : Stand} {js : List Row} → Sequence js s.state → Takes typed t at c s n e a p c' s' → Continues js s'.state
  -- demand 3, well formed, and the rest of it
  pub meets : {typed : Bool} {t : List ℕ} {at n e a p : ℕ} {c c' : Clock} {s s' : Stand} {js : List Row} (q : Sequence js s.state) (x : Takes typed t at c s n e a p c' s') → Meets ((sequence q x).rows ++ js) s'.state
  pub never_1 : {typed : Bool} {t : List ℕ} {at n e a p : ℕ} {c c' : Clock} {s s' : Stand} {js : List Row} → Sequence js s.state → Takes typed t at c s n e a p c' s' → ¬ (a ≡ 1)
