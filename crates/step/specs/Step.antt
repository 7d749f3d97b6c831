-- Inner (cited by private contracts alone): one record by its public call, as the code takes it.
use Rattle.std.specs.Prelude.{ℕ, ◌≤◌, ◌<◌, Bool, true, false, List, ◌≡◌, length}
use Rattle.details.specs.declared.Device.{Device}
use Rattle.record.specs.declared.Decoder.{Decoder}
use Rattle.trace.specs.Trace.{next_at}
use Rattle.trace.specs.declared.clock.Clock.{Clock}
use Rattle.call.specs.Outcome.{accepts}
use Rattle.call.specs.State.{Logs, state}
use Rattle.step.specs.Block.{Stand, stand, clock_after, behind, Gives, Takes}
use Rattle.step.specs.declared.Stepped.{Stepped}

-- a record that was called
abbrev pub went_with : ℕ → ℕ → Clock → Decoder → List Device → Stepped
went_with a next c d v = record { going = accepts a; answer = a; next = next; clock = c; decoder = d; devices = v }

-- the block is over
abbrev pub over_with : ℕ → ℕ → Clock → Decoder → List Device → Stepped
over_with a p c d v = record { going = false; answer = a; next = p; clock = c; decoder = d; devices = v }

abbrev pub left_by : Stepped → List ℕ → Logs → List ℕ → Stand
left_by r t l h = stand (state r.decoder r.devices t l) h

-- a record at `at` was called, on s with the clock c, and accepted: it answered a and left s', the clock behind it is c', and the next place is further on
pub record Goes (typed : Bool) (t : List ℕ) (at : ℕ) (c : Clock) (s : Stand) (a next : ℕ) (c' : Clock) (s' : Stand) : Type 0 where
  pub gives : Gives typed t (next_at t at) c s a s'
  pub accepted : accepts a ≡ true
  pub place : next ≡ behind (next_at t at) at
  pub clock : c' ≡ clock_after (next_at t at) c
  pub further : (at < next) × (next ≤ length t)

-- what stands at `at`: the block is over there; or it was called
pub record Steps (typed : Bool) (t : List ℕ) (at : ℕ) (c : Clock) (s : Stand) (r : Stepped) (table : List ℕ) (l : Logs) (h : List ℕ) : Type 0 where
  pub over : r.going ≡ false → Takes typed t at c s 0 0 r.answer at c (left_by r table l h)
  pub goes : r.going ≡ true → Goes typed t at c s r.answer r.next r.clock (left_by r table l h)
