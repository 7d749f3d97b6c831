-- Inner (cited by private contracts alone): one round of a block's loop, packets and the record behind them, and what the block gives back.
use Rattle.std.specs.Prelude.{ℕ, ◌≤◌, ◌<◌, Bool, true, List, ◌≡◌, length}
use Rattle.trace.specs.declared.clock.Clock.{Clock}
use Rattle.call.specs.State.{Logs}
use Rattle.step.specs.Block.{Stand}
use Rattle.stream.specs.declared.Run.{Run}
use Rattle.block.specs.Leads.{Runs}
use Rattle.block.specs.declared.Taken.{Taken}

abbrev pub taken_of : Run → Taken
taken_of r = record { answer = r.answer; taken = r.taken; eights = r.eights; place = r.place; clock = r.clock; decoder = r.decoder; devices = r.devices }

-- records from `at` on, at least one where the block goes on
pub record Rounds (typed : Bool) (t : List ℕ) (at : ℕ) (c : Clock) (s : Stand) (r : Run) (table : List ℕ) (l : Logs) (h : List ℕ) : Type 0 where
  pub runs : Runs typed t at c s r table l h
  pub further : r.going ≡ true → (at < r.place) × (r.place ≤ length t)
