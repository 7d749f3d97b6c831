-- To be believed: a classic pcap file with USB 2.0 packets: its head and its records.
-- Assumes nothing.
-- Hold it to: 02, 4 (marks, link type 288, answers 14 to 17 in their order); the pcap file format: a head of 24 bytes, records of 16 bytes and the packet
use Rattle.std.specs.Prelude.{ℕ, ◌+◌, ◌*◌, ◌^◌, Option, Some, None, Result, Ok, Err, Bool, true, false, cond, ◌&&◌, List, length, ◌==◌, nat_le, nat_lt}
use Rattle.pcap.specs.Numbers.{number_at}
use Rattle.pcap.specs.declared.Format.{Format}
use Rattle.pcap.specs.declared.HeadError.{HeadError}
use Rattle.pcap.specs.declared.HeadError.TheVariants.{Mark, Link}
use Rattle.pcap.specs.declared.Next.{Next}
use Rattle.pcap.specs.declared.Next.TheVariants.{Packet, Cut, Fraction, End}

-- the nanoseconds in one unit of a fraction, by the mark: microseconds, nanoseconds; none for what is no mark
abbrev pub unit_of : ℕ → Option ℕ
unit_of mark = cond (mark == 0xA1B2C3D4) (Some 1000) (cond (mark == 0xA1B23C4D) (Some 1) None)

-- the link type is that of USB packets
abbrev pub linked : List ℕ → Format → Result Format HeadError
linked t f = cond (number_at f.big 20 t == 288) (Ok f) (Err Link)

abbrev pub by_unit : Bool → List ℕ → Result Format HeadError → Option ℕ → Result Format HeadError
by_unit big t other (Some unit) = linked t (record { big = big; unit = unit })
by_unit big t other None = other

-- a mark that reads in this byte order gives it to every number of the file
abbrev pub marked : Bool → List ℕ → Result Format HeadError → Result Format HeadError
marked big t other = by_unit big t other (unit_of (number_at big 0 t))

unfoldable pub head_of : List ℕ → Result Format HeadError
head_of t = cond (nat_le 24 (length t)) (marked false t (marked true t (Err Mark))) (Err Mark)

-- wrong mark or cut head 14, at 0; another link type 15, at 20; records start at 24
abbrev pub head_answer : Result Format HeadError → ℕ
head_answer (Ok f) = 0
head_answer (Err Mark) = 14
head_answer (Err Link) = 15

abbrev pub head_place : Result Format HeadError → ℕ
head_place (Ok f) = 24
head_place (Err Mark) = 0
head_place (Err Link) = 20

-- the captured length of the record at `at`, and the original one
abbrev pub captured : Bool → List ℕ → ℕ → ℕ
captured big t at = number_at big (at + 8) t

abbrev pub original : Bool → List ℕ → ℕ → ℕ
original big t at = number_at big (at + 12) t

-- all bytes of the record are there, and the packet was captured whole
abbrev pub complete : Bool → List ℕ → ℕ → Bool
complete big t at = nat_le (at + 16 + captured big t at) (length t) && original big t at == captured big t at

-- a fraction is below one second
abbrev pub below : Format → ℕ → Bool
below f fraction = nat_lt (fraction * f.unit) (10 ^ 9)

-- 16 is answered before 17
abbrev pub judged : Bool → Bool → Next → Next
judged false early packet = Cut
judged true false packet = Fraction
judged true true packet = packet

-- a record: seconds, fraction, captured length, original length, bytes
unfoldable pub body_at : Format → List ℕ → ℕ → Next
body_at f t at =
    judged (complete f.big t at) (below f (number_at f.big (at + 4) t))
    (Packet (number_at f.big at t) (number_at f.big (at + 4) t) (at + 16) (at + 16 + captured f.big t at))

-- the end of the file is no record
abbrev pub next_at : Format → List ℕ → ℕ → Next
next_at f t at = cond (nat_lt at (length t)) (body_at f t at) End

-- cut or not whole 16, fraction 17
abbrev pub answer_of : Next → ℕ
answer_of (Packet seconds fraction start end) = 0
answer_of Cut = 16
answer_of Fraction = 17
answer_of End = 0

-- in nanoseconds
abbrev pub time_of : Format → ℕ → ℕ → ℕ
time_of f seconds fraction = seconds * 10 ^ 9 + fraction * f.unit
