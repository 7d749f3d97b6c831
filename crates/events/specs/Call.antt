-- To be believed: the event call (handle_event) and finish: their tests in 01's order, and what the rules leave.
-- Hold it to: handle_event and finish of decoder.rs; 01, "Answer numbers": 1, 2, 4, 7, 9
use Rattle.std.specs.Prelude.{ℕ, true}
use Rattle.rules.specs.Decoder.{handle_event, finish}
use Rattle.rules.specs.World.{World}
use Rattle.record.specs.Answers.{Tests, event_tests, finish_tests}
use Rattle.call.specs.Outcome.{Answers, is_ill, is_full, is_over, world_at}
use Rattle.call.specs.State.{State}

-- the tests of an event of this kind that by the rules ends in the world w
abbrev pub event_tests_of : ℕ → World → State → Tests
event_tests_of kind w s = event_tests (is_ill s) s.decoder.finished kind (is_full s w) (is_over w)

-- an event of this kind, with this code at this time, on the state s, answers a and leaves s'
abbrev pub EventCall : ℕ → ℕ → ℕ → State → ℕ → State → Type 0
EventCall kind code time s a s' =
    let w = handle_event kind code time (world_at s) in
    Answers (event_tests_of kind w s) w s.decoder.finished s a s'

abbrev pub finish_tests_of : World → State → Tests
finish_tests_of w s = finish_tests (is_ill s) s.decoder.finished (is_full s w) (is_over w)

-- finish, on the state s, answers a and leaves s': the record is a finished one
abbrev pub FinishCall : State → ℕ → State → Type 0
FinishCall s a s' =
    let w = finish (world_at s) in
    Answers (finish_tests_of w s) w true s a s'
