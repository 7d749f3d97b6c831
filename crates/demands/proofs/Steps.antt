-- One call of a sequence, whichever of the four: it leaves what the rules leave, for which there was room, or all as it was.
use Prim.Native.Nat.{ℕ}
use mathlib.Core.Path.{◌≡◌, sym, ap, ◌∙◌}
use mathlib.Core.Bool.{Bool, true, false}
use Rattle.rules.specs.Decoder.{handle_event, finish}
use Rattle.rules.specs.Demand.{Call, packet, event, detail, finishing, call}
use Rattle.rules.specs.Endpoints.{device_for}
use Rattle.record.specs.Answers.{Tests, first_of, detail_tests}
use Rattle.record.proofs.AnswersLaws.{Passed}
use Rattle.record.specs.RoomLaws.{Roomy}
use Rattle.call.specs.Outcome.{is_ill, counts_after, Left, Answers, accepts, world_at}
use Rattle.call.proofs.OutcomeLaws.{sound}
use Rattle.call.specs.State.{State, room_of}
use Rattle.typed.specs.Detail.{Details}
use Rattle.packet.specs.Call.{tests_of}
use Rattle.events.specs.Call.{event_tests_of, finish_tests_of}
use Rattle.sound.proofs.Keeps.{passed, room-left, detail-room}
use Rattle.demands.specs.Sequence.{Does}

-- ---- each contract is an `Answers`

abbrev pub tests_for : Call → State → Tests
tests_for (packet p time shelf) s = tests_of p time s shelf
tests_for (event kind code time) s = event_tests_of kind (handle_event kind code time (world_at s)) s
tests_for (detail a n r k m) s = detail_tests (is_ill s) s.decoder.finished n r k (device_for a (world_at s))
tests_for finishing s = finish_tests_of (finish (world_at s)) s

abbrev pub finishes : Call → State → Bool
finishes (packet p time shelf) s = s.decoder.finished
finishes (event kind code time) s = s.decoder.finished
finishes (detail a n r k m) s = s.decoder.finished
finishes finishing s = true

pub answers : (k : Call) (s : State) (a : ℕ) (s' : State) → Does k s a s' → Answers (tests_for k s) (call s.decoder.high k (world_at s)) (finishes k s) s a s'
unfolding Details
answers (packet p time shelf) s a s' d = d.does.answers
answers (event kind code time) s a s' d = d
answers (detail b n r k m) s a s' d = d
answers finishing s a s' d = d

-- ---- there is room for what an accepted call leaves

roomy : (k : Call) (s : State) → Passed (tests_for k s) → Roomy s.table (counts_after s.decoder.counts (call s.decoder.high k (world_at s))) (room_of s.logs)
roomy (packet p time shelf) s q = room-left s _ q.full
roomy (event kind code time) s q = room-left s _ q.full
roomy (detail a n r k m) s q = detail-room a n r k m s (sound s q.ill).0
roomy finishing s q = room-left s _ q.full

-- ---- the step

-- an accepted call, from s to s'
pub record Moved (k : Call) (s s' : State) : Type 0 where
  pub left : Left (call s.decoder.high k (world_at s)) (finishes k s) s s'
  pub room : Roomy s.table (counts_after s.decoder.counts (call s.decoder.high k (world_at s))) (room_of s.logs)

module _ (k : Call) (s : State) (a : ℕ) (s' : State) (d : Does k s a s') where
  told : first_of (tests_for k s) ≡ a
  told = sym (answers k s a s' d).answer

  pub moved : accepts a ≡ true → Moved k s s'
  moved h = let g = ap accepts told ∙ h in record { left = (answers k s a s' d).left g; room = roomy k s (passed (tests_for k s) g) }

  pub stayed : accepts a ≡ false → s' ≡ s
  stayed h = (answers k s a s' d).kept (ap accepts told ∙ h)
