-- To be believed: the packet log written as a classic pcap file (02, 4): which rows are written, what is answered, and what is then left in the lent buffer.
-- Assumes nothing.
-- Hold it to: 02, 4 ("nanosecond little-endian on writing", "the packet rows that are no event's", "how many events it left behind", 18, "a refused export writes nothing"); 01, "Sizes"
use Rattle.std.specs.Prelude.{◌≡◌, ℕ, zero, suc, ◌+◌, ◌*◌, ◌/◌, ◌%◌, ◌^◌, min, Bool, true, false, cond, ◌&&◌, ◌||◌, List, [], ◌∷◌, ◌++◌, length, take, ◌==◌, nat_lt, slice_index}
use Rattle.std.proofs.lemmas.List.Edits.{sets}
use Rattle.rows.specs.One.{one}
use Rattle.rows.specs.Widths.{packet_width, event_width}
use Rattle.reading.specs.Packets.{packet_bytes}
use Rattle.pcap.specs.File.{Item, format, file_of}
use Rattle.pcap.specs.declared.Format.{Format}
use Rattle.pcap.specs.declared.Exported.{Exported}

-- little-endian, nanoseconds
abbrev pub written_format : Format
written_format = format false true

-- ---- the logs that are lent: the packets' bytes, and how many rows of packets and of events there are

pub record Source : Type 0 where
  pub bytes : List ℕ
  pub rows : ℕ
  pub packets : List ℕ
  pub marks : ℕ
  pub events : List ℕ

abbrev pub lent : List ℕ → ℕ → List ℕ → ℕ → List ℕ → Source
lent bytes rows packets marks events = record { bytes = bytes; rows = rows; packets = packets; marks = marks; events = events }

-- a count past what there is counts as what there is, and past the largest that 01 has as that
abbrev pub counted : ℕ → ℕ → ℕ → ℕ
counted most n there = min (min n most) there

abbrev pub source_of : ℕ → List ℕ → ℕ → List ℕ → ℕ → List ℕ → Source
source_of m bytes n packets e events =
    lent
    (take (counted 1073741824 m (length bytes)) bytes)
    (counted 16777216 n (length packets / packet_width)) packets
    (counted 16777216 e (length events / event_width)) events

-- ---- a packet row

-- its record: its time in nanoseconds parted into seconds and the rest, and its bytes
abbrev pub item_at : ℕ → List ℕ → Item
item_at time bytes = record { seconds = time / 10 ^ 9; fraction = time % 10 ^ 9; bytes = bytes }

abbrev pub item_of : Source → ℕ → Item
item_of l k = item_at (slice_index l.packets (k * packet_width + 1)) (packet_bytes k l.rows l.packets l.bytes)

-- ---- which rows are written

-- row k is an event's where the next event row that is not taken yet, row t, names it
abbrev pub is_event : ℕ → List ℕ → ℕ → ℕ → Bool
is_event marks events t k = nat_lt t marks && slice_index events (t * event_width) == k

abbrev pub event_at : Source → ℕ → ℕ → Bool
event_at l t k = is_event l.marks l.events t k

-- an event's row is not written
abbrev pub kept : Bool → Item → List Item
kept event r = cond event [] (r ∷ [])

-- the records of n rows from row k on, where t events were taken; and how many are taken then
unfoldable pub items_from : Source → ℕ → ℕ → ℕ → List Item
items_from l zero k t = []
items_from l (suc n) k t = kept (event_at l t k) (item_of l k) ++ items_from l n (k + 1) (t + one (event_at l t k))

unfoldable pub taken_from : Source → ℕ → ℕ → ℕ → ℕ
taken_from l zero k t = t
taken_from l (suc n) k t = taken_from l n (k + 1) (t + one (event_at l t k))

abbrev pub items_of : Source → List Item
items_of l = items_from l l.rows 0 0

-- ---- answers

-- seconds that do not fit 32 bits
abbrev pub late : List Item → Bool
late [] = false
late (r ∷ rs) = nat_lt 4294967295 r.seconds || late rs

abbrev pub file_bytes : Source → List ℕ
file_bytes l = file_of written_format (items_of l)

abbrev pub refusal : ℕ → Exported
refusal answer = record { answer = answer; length = 0; packets = 0; events = 0 }

-- the file's length, the packets in it, and the events that were left behind
abbrev pub accepted : Source → Exported
accepted l =
    record {
      answer = 0;
      length = length (file_bytes l);
      packets = length (items_of l);
      events = taken_from l l.rows 0 0;
    }

-- 18 before 7: no larger buffer would help
abbrev pub judged : {A : Type 0} → ℕ → Source → A → A → A → A
judged room l late_is long-is fine = cond (late (items_of l)) late_is (cond (nat_lt room (length (file_bytes l))) long-is fine)

unfoldable pub size_of : Source → Exported
size_of l = cond (late (items_of l)) (refusal 18) (accepted l)

-- the result, and the lent buffer: refused, it is as it was
pub record Exports (l : Source) (before after : List ℕ) (r : Exported) : Type 0 where
  pub result : r ≡ judged (length before) l (refusal 18) (refusal 7) (accepted l)
  pub buffer : after ≡ judged (length before) l before before (sets before 0 (file_bytes l))
