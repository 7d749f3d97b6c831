-- Document 01's worked example, read record by record, its refusals, and the times of counters: computed.
-- Assumes nothing.
use Rattle.std.proofs.Common.{◌≡◌, ℕ, ◌+◌, ◌-◌, ◌^◌, true, List, [], ◌∷◌, map, refl}
use Rattle.std.specs.Prelude.{Ok, Err}
use Rattle.trace.specs.Trace.{header_of, header_answer, header_place, little_endian, packet_at, event_at, detail_at, next_at, answer_of}
use Rattle.trace.specs.Clock.{stopped, tick_of}
use Rattle.trace.specs.declared.HeaderError.TheVariants.{Mark, Version}
use Rattle.trace.specs.declared.Next.TheVariants.{Packet, Event, Detail, End}
use Rattle.trace.specs.declared.clock.Clock.{Clock}

abbrev pub example : List ℕ
example =
    0x55 ∷ 0x54 ∷ 0x4C ∷ 0x01 ∷ 0x00 ∷ 0x00 ∷ 0x00 ∷ 0x00 ∷ 0x00 ∷ 0x00 ∷ 0x03 ∷ 0x00 ∷ 0xA5 ∷ 0x00 ∷ 0x10 ∷ 0x00 ∷ 0x01 ∷ 0x00 ∷ 0x00 ∷ 0x00 ∷ 0x01 ∷ 0x00 ∷ 0xD2 ∷ []

-- two packets, of three bytes and of one, with ticks 0 and 1
reads : map (next_at example) (5 ∷ 15 ∷ 23 ∷ []) ≡ Packet 0 12 15 (record { at = 15 }) ∷ Packet 1 22 23 (record { at = 23 }) ∷ End ∷ []
unfolding packet_at little_endian
reads = refl

-- no mark; a wrong one; no version; half of one; another one; the example
headers : map header_of
    ([]
    ∷ (0x55 ∷ 0x54 ∷ 0x4D ∷ 0x01 ∷ 0x00 ∷ [])
    ∷ (0x55 ∷ 0x54 ∷ 0x4C ∷ [])
    ∷ (0x55 ∷ 0x54 ∷ 0x4C ∷ 0x01 ∷ [])
    ∷ (0x55 ∷ 0x54 ∷ 0x4C ∷ 0x02 ∷ 0x00 ∷ [])
    ∷ example
    ∷ [])
    ≡ Err Mark ∷ Err Mark ∷ Err Version ∷ Err Version ∷ Err Version ∷ Ok tt ∷ []
headers = refl

header-answers : map header_answer (Err Mark ∷ Err Version ∷ []) ≡ 10 ∷ 11 ∷ []
header-answers = refl

header_places : map header_place (Err Mark ∷ Err Version ∷ []) ≡ 0 ∷ 3 ∷ []
header_places = refl

-- an unknown tag as the last byte; each tag alone; a packet without its second byte; a detail without its last
refused : map (λ (t : List ℕ). answer_of (next_at t 0))
    ((0x03 ∷ [])
    ∷ (0x00 ∷ [])
    ∷ (0x01 ∷ [])
    ∷ (0x02 ∷ [])
    ∷ (0x00 ∷ 0x00 ∷ 0x00 ∷ 0x00 ∷ 0x00 ∷ 0x02 ∷ 0x00 ∷ 0xD2 ∷ [])
    ∷ (0x02 ∷ 0x00 ∷ 0x01 ∷ 0x01 ∷ 0x02 ∷ 0x40 ∷ [])
    ∷ [])
    ≡ 12 ∷ 13 ∷ 13 ∷ 13 ∷ 13 ∷ 13 ∷ []
unfolding packet_at event_at detail_at little_endian
refused = refl

-- an event and a detail
others : map (λ (t : List ℕ). next_at t 0)
    ((0x01 ∷ 0x04 ∷ 0x03 ∷ 0x02 ∷ 0x01 ∷ 0x07 ∷ 0xAA ∷ [])
    ∷ (0x02 ∷ 0x05 ∷ 0x01 ∷ 0x01 ∷ 0x02 ∷ 0x00 ∷ 0x02 ∷ [])
    ∷ [])
    ≡ Event 0x01020304 7 0xAA (record { at = 7 }) ∷ Detail 5 1 1 2 512 (record { at = 7 }) ∷ []
unfolding event_at detail_at little_endian
others = refl

-- the first time is its ticks; a counter that is below the last has passed 2^32; a time past 2^64 - 1 starts anew
times : map (λ (c : Clock). c.time)
    (tick_of stopped 7
    ∷ tick_of (tick_of stopped 7) 10
    ∷ tick_of (tick_of stopped (2 ^ 32 - 1)) 4
    ∷ tick_of (record { started = true; last = 1; time = 2 ^ 64 - 1 }) 3
    ∷ [])
    ≡ 7 ∷ 10 ∷ (2 ^ 32 - 1 + 5) ∷ 1 ∷ []
times = refl
