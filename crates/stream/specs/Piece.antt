-- Inner (cited by private contracts alone): what stands at a place of a pcap file, as the code takes it.
use Rattle.std.specs.Prelude.{ℕ, ◌%◌, ◌^◌, ◌<◌, Result, Ok, Err, List, ◌≡◌}
use Rattle.pcap.specs.Pcap.{next_at, answer_of, time_of}
use Rattle.pcap.specs.declared.Format.{Format}
use Rattle.pcap.specs.declared.Next.{Next}
use Rattle.pcap.specs.declared.Next.TheVariants.{Packet, Cut, Fraction, End}
use Rattle.stream.specs.declared.piece.Piece.{Piece}

abbrev pub piece_of : Format → Next → Result Piece ℕ
piece_of f (Packet seconds fraction start end) = Ok (record { time = time_of f seconds fraction % 2 ^ 64; start = start; end = end })
piece_of f Cut = Err (answer_of Cut)
piece_of f Fraction = Err (answer_of Fraction)
piece_of f End = Err (answer_of End)

-- the seconds of a record are a number of four bytes
abbrev pub Short : Next → Type 0
Short (Packet seconds fraction start end) = seconds < 2 ^ 32
Short Cut = Unit {0}
Short Fraction = Unit {0}
Short End = Unit {0}

-- at `at` stands a packet, from `start` up to `end`, with this time
pub record Timed (f : Format) (t : List ℕ) (at time start end : ℕ) : Type 0 where
  pub seconds : ℕ
  pub fraction : ℕ
  pub found : next_at f t at ≡ Packet seconds fraction start end
  pub told : time ≡ time_of f seconds fraction
