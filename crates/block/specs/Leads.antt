-- Inner (cited by private contracts alone): records that lead from one state to another.
use Rattle.std.specs.Prelude.{ℕ, ◌+◌, ◌≤◌, Bool, true, false, List, ◌≡◌, length}
use Rattle.trace.specs.declared.clock.Clock.{Clock}
use Rattle.call.specs.State.{Logs}
use Rattle.step.specs.Block.{Stand, Takes}
use Rattle.stream.specs.Led.{Fits, ran_by}
use Rattle.stream.specs.declared.Run.{Run}

-- n records, e of them answered 8, lead from the place `at`, the clock c, the state and the shelf s to the next ones: what the rest gives there, all of it gives here
pub record Leads (typed : Bool) (t : List ℕ) (at : ℕ) (c : Clock) (s : Stand) (n e at' : ℕ) (c' : Clock) (s' : Stand) : Type 0 where
  pub few : n + at ≤ at'
  pub eights : e ≤ n
  pub fits : (b : Bool) → Fits b s.state → Fits b s'.state
  pub many : length s'.state.devices ≡ length s.state.devices
  pub rest : {m f a p : ℕ} {c'' : Clock} {s'' : Stand} → Takes typed t at' c' s' m f a p c'' s'' → Takes typed t at c s (n + m) (e + f) a p c'' s''

-- records from `at` on: the block goes on behind them; or it is over
pub record Runs (typed : Bool) (t : List ℕ) (at : ℕ) (c : Clock) (s : Stand) (r : Run) (table : List ℕ) (l : Logs) (h : List ℕ) : Type 0 where
  pub leads : r.going ≡ true → Leads typed t at c s r.taken r.eights r.place r.clock (ran_by r table l h)
  pub over : r.going ≡ false → Takes typed t at c s r.taken r.eights r.answer r.place r.clock (ran_by r table l h)
  pub counted : (r.taken + at ≤ r.place) × (r.eights ≤ r.taken)
