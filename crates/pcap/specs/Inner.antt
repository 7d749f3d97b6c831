-- Inner (cited by private contracts alone): the export's steps: what the inner functions ask, and what is counted before anything is written.
-- Assumes nothing.
use Rattle.std.specs.Prelude.{ℕ, ◌+◌, ◌*◌, ◌/◌, ◌≤◌, Bool, cond, ◌||◌, List, length, nat_lt, slice_index}
use Rattle.rows.specs.Widths.{packet_width, event_width}
use Rattle.reading.specs.Packets.{packet_bytes}
use Rattle.pcap.specs.File.{Item, item_bytes}
use Rattle.pcap.specs.Export.{Source, counted, written_format, item_at, kept, items_of, file_bytes, taken_from, late}
use Rattle.pcap.specs.declared.Exported.{Exported}
use Rattle.pcap.specs.declared.Extent.{Extent}
use Rattle.pcap.specs.declared.Survey.{Survey}

-- how much there is to go by, of logs with these many bytes and words
abbrev pub extent_of : ℕ → ℕ → ℕ → ℕ → ℕ → ℕ → Extent
extent_of m held n packets e events =
    record {
      bytes = counted 1073741824 m held;
      rows = counted 16777216 n (packets / packet_width);
      marks = counted 16777216 e (events / event_width);
    }

-- a packet's record in the file
abbrev pub record_bytes : ℕ → List ℕ → List ℕ
record_bytes time packet = item_bytes written_format (item_at time packet)

-- the record of packet row k of n, none where it is an event's
abbrev pub row_items : Bool → List ℕ → ℕ → List ℕ → ℕ → List Item
row_items event bytes n packets k = kept event (item_at (slice_index packets (k * packet_width + 1)) (packet_bytes k n packets bytes))

-- the logs have the rows that are counted, and these are within 01's sizes
pub record Within (l : Source) : Type 0 where
  pub packet-rows : l.rows * 2 ≤ length l.packets
  pub event-rows : l.marks * 2 ≤ length l.events
  pub few : l.rows ≤ 16777216
  pub short : length l.bytes ≤ 1073741824

-- a row more
abbrev pub seen : Bool → ℕ → ℕ → Survey → Survey
seen event time size s =
    cond event
    (record { late = s.late; length = s.length; packets = s.packets; events = s.events + 1 })
    (record {
      late = s.late || nat_lt 4294967295 (time / 1000000000);
      length = s.length + (16 + size);
      packets = s.packets + 1;
      events = s.events;
    })

-- what k rows can have come to
pub record Small (k : ℕ) (s : Survey) : Type 0 where
  pub length_small : s.length ≤ 24 + k * 1073741840
  pub packets_small : s.packets ≤ k
  pub events_small : s.events ≤ k

-- of all rows
abbrev pub survey_of : Source → Survey
survey_of l =
    record {
      late = late (items_of l);
      length = length (file_bytes l);
      packets = length (items_of l);
      events = taken_from l l.rows 0 0;
    }

-- as the result of an export
abbrev pub accepted_by : Survey → Exported
accepted_by s = record { answer = 0; length = s.length; packets = s.packets; events = s.events }
