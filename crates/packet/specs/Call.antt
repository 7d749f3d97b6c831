-- To be believed: the packet call (handle_raw_packet): its tests in 01's order, and what the rules leave.
-- Hold it to: handle_raw_packet of decoder.rs; 01, "Answer numbers": 1, 2, 3, 7, 9, 8; 02, 2: "Control payloads are now kept", "Refusals: none new"; 02, 6: the mode is the decoder's
use Rattle.std.specs.Prelude.{ℕ, cond, List, ◌≡◌, length}
use Rattle.rules.specs.Decoder.{handle_raw_packet}
use Rattle.rules.specs.Transactions.{is_dropped}
use Rattle.rules.specs.World.{World, with_shelf}
use Rattle.record.specs.Answers.{Tests, packet_tests}
use Rattle.call.specs.Outcome.{Answers, accepts, is_ill, is_full, is_over, world_at}
use Rattle.call.specs.State.{State}

-- the world that the rules end in, in the mode of the decoder, from the state s with the shelf h lent beside it
abbrev pub after : List ℕ → ℕ → State → List ℕ → World
after packet time s h = handle_raw_packet s.decoder.high packet time (with_shelf h (world_at s))

abbrev pub tests_of : List ℕ → ℕ → State → List ℕ → Tests
tests_of packet time s h =
    packet_tests (is_ill s) s.decoder.finished (length packet) (is_full s (after packet time s h)) (is_over (after packet time s h))
    (is_dropped s.decoder.slot s.decoder.transaction)

-- the packet of these bytes at this time, on the state s and the shelf h, answers a and leaves s' and h'
pub record PacketCall (packet : List ℕ) (time : ℕ) (s : State) (h : List ℕ) (a : ℕ) (s' : State) (h' : List ℕ) : Type 0 where
  pub answers : Answers (tests_of packet time s h) (after packet time s h) s.decoder.finished s a s'
  pub shelf : h' ≡ cond (accepts a) (after packet time s h).shelf h
