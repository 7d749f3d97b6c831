-- To be believed: Document 01, "Trace and listing": the UTL trace, its header and its records.
-- Assumes nothing.
-- Hold it to: 01, "Trace and listing": "Trace: `UTL`, u16 version 1, then records .."
use Rattle.std.specs.Prelude.{ℕ, ◌+◌, Result, Ok, Err, Bool, true, false, List, [], ◌∷◌, length, take, drop, ◌==◌, nat_le, nat_lt, slice_index}
use Rattle.usb.specs.Bits.{number}
use Rattle.usb.specs.Packet.{pick, both}
use Rattle.trace.specs.declared.HeaderError.{HeaderError}
use Rattle.trace.specs.declared.HeaderError.TheVariants.{Mark, Version}
use Rattle.trace.specs.declared.Next.{Next}
use Rattle.trace.specs.declared.Next.TheVariants.{Packet, Event, Detail, Unknown, Cut, End}

-- whether a list begins with these bytes
abbrev pub starts : List ℕ → List ℕ → Bool
starts [] t = true
starts (x ∷ xs) [] = false
starts (x ∷ xs) (y ∷ t) = both (y == x) (starts xs t)

-- `UTL`, then u16 version 1, little-endian
abbrev pub header_of : List ℕ → Result (Unit {0}) HeaderError
header_of t =
    pick (starts (0x55 ∷ 0x54 ∷ 0x4C ∷ []) t)
    (pick (starts (0x01 ∷ 0x00 ∷ []) (drop 3 t)) (Ok tt) (Err Version))
    (Err Mark)

-- wrong or missing mark 10, at 0; version 11, at 3; records start at 5
abbrev pub header_answer : Result (Unit {0}) HeaderError → ℕ
header_answer (Ok u) = 0
header_answer (Err Mark) = 10
header_answer (Err Version) = 11

abbrev pub header_place : Result (Unit {0}) HeaderError → ℕ
header_place (Ok u) = 5
header_place (Err Mark) = 0
header_place (Err Version) = 3

-- the n bytes from `at` on as one number, little-endian
unfoldable pub little_endian : ℕ → ℕ → List ℕ → ℕ
little_endian n at t = number (take n (drop at t))

-- a record of `size` bytes at `at`, where the trace has them all; else it is cut
abbrev pub whole : List ℕ → ℕ → ℕ → Next → Next
whole t at size r = pick (nat_le (at + size) (length t)) r Cut

-- tag 0: u32 ticks, u16 length, bytes
unfoldable pub packet_at : List ℕ → ℕ → Next
packet_at t at =
    whole t at (7 + little_endian 2 (at + 5) t)
    (Packet
    (little_endian 4 (at + 1) t)
    (at + 7)
    (at + 7 + little_endian 2 (at + 5) t)
    (record { at = at + 7 + little_endian 2 (at + 5) t }))

-- tag 1: u32 ticks, kind, code
unfoldable pub event_at : List ℕ → ℕ → Next
event_at t at =
    whole t at 7 (Event (little_endian 4 (at + 1) t) (slice_index t (at + 5)) (slice_index t (at + 6)) (record { at = at + 7 }))

-- tag 2: address, number, direction, type, u16 max
unfoldable pub detail_at : List ℕ → ℕ → Next
detail_at t at =
    whole t at 7
    (Detail
    (slice_index t (at + 1))
    (slice_index t (at + 2))
    (slice_index t (at + 3))
    (slice_index t (at + 4))
    (little_endian 2 (at + 5) t)
    (record { at = at + 7 }))

-- the record at `at`, by its tag, which is tested before its length
abbrev pub next_at : List ℕ → ℕ → Next
next_at t at =
    pick (nat_lt at (length t))
    (pick (slice_index t at == 0) (packet_at t at)
    (pick (slice_index t at == 1) (event_at t at)
    (pick (slice_index t at == 2) (detail_at t at) Unknown)))
    End

-- unknown tag 12, cut record 13
abbrev pub answer_of : Next → ℕ
answer_of (Packet ticks start end next) = 0
answer_of (Event ticks kind code next) = 0
answer_of (Detail address number direction kind max next) = 0
answer_of Unknown = 12
answer_of Cut = 13
answer_of End = 0
