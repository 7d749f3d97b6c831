-- To be believed: the detail call (01, "Details and tables", and answers 1, 2, 5 and 6): by the rules it appends nothing.
-- Hold it to: 01, "Modules in port order", 3, and answers 1, 2, 5 and 6
use Rattle.std.specs.Prelude.{ℕ}
use Rattle.rules.specs.Decoder.{handle_detail}
use Rattle.rules.specs.Endpoints.{device_for}
use Rattle.record.specs.Answers.{detail_tests}
use Rattle.call.specs.Outcome.{is_ill, Answers, world_at}
use Rattle.call.specs.State.{State}

-- the call with this address, number, direction, type and max, on the state s, answers a and leaves s'
unfoldable pub Details : ℕ → ℕ → ℕ → ℕ → ℕ → State → ℕ → State → Type 0
Details address number direction kind max s a s' =
    Answers (detail_tests (is_ill s) s.decoder.finished number direction kind (device_for address (world_at s)))
    (handle_detail address number direction kind max (world_at s))
    s.decoder.finished
    s
    a
    s'
