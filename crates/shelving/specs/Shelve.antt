-- Inner (cited by private contracts alone): what a packet does to the shelf and to the row of a device, by its plan.
-- Assumes nothing.
use Rattle.std.specs.Prelude.{ℕ, ◌+◌, ◌*◌, ◌≤◌, ◌≡◌, Bool, true, false, ◌&&◌, List, length}
use Rattle.std.proofs.lemmas.List.Edits.{sets}
use Rattle.rows.specs.Widths.{request_width}
use Rattle.usb.specs.Packet.{payload_of}
use Rattle.transaction.specs.Table.{pick}
use Rattle.details.specs.declared.Device.{Device}
use Rattle.descriptors.specs.Laid.{laid}
use Rattle.descriptors.specs.Complete.{note_by, row_by, shelf_by}
use Rattle.descriptors.specs.declared.complete.Asked.{Asked}
use Rattle.rules.specs.Rows.{asking, request_words}
use Rattle.plan.specs.Devices.{asks, length_of}
use Rattle.plan.specs.Packet.{keeps}
use Rattle.plan.specs.declared.Plan.{Plan}
use Rattle.shelving.specs.declared.Reading.{Reading}
use Rattle.shelving.specs.declared.Shelved.{Shelved}

-- whether a request completes
abbrev pub is_asked : Plan → Bool
is_asked p = p.closes && asks p.close.effect

-- by the entry of the old transaction's endpoint, and by the one that the packet's own transaction ends with
abbrev pub reading_of : Bool → Plan → Reading
reading_of high p =
    record {
      keeps = keeps high p;
      device = pick (keeps high p) p.end.entry.device 0;
      count = p.end.entry.payload;
      asks = is_asked p;
      endpoint = p.begin.transaction.endpoint;
      place = pick (is_asked p) p.close.entry.device 0;
      setup = p.close.entry.setup;
      length = length_of p.close.effect;
    }

-- nothing
abbrev pub resting : Reading
resting = record { keeps = false; device = 0; count = 0; asks = false; endpoint = 0; place = 0; setup = 0; length = 0 }

-- a payload that is laid by is that of a data packet: a PID and two bytes of CRC
abbrev pub LongIf : Reading → List ℕ → Type 0
LongIf t packet = t.keeps ≡ true → 3 ≤ length packet

-- the log of requests has room for row `at`, where one is written
abbrev pub RoomIf : Reading → ℕ → List ℕ → Type 0
RoomIf t at requests = t.asks ≡ true → (at + 1) * request_width ≤ length requests

-- the shelf with the packet's payload
abbrev pub laid_shelf : Reading → List ℕ → List ℕ → List ℕ
laid_shelf t packet shelf = pick t.keeps (laid (t.device * 8192) t.count (payload_of packet) shelf) shelf

-- what a request is asked, where the row of its device says `kept` and `chosen`
abbrev pub asked_with : Reading → ℕ → ℕ → Asked
asked_with t kept chosen = record { setup = t.setup; length = t.length; start = t.place * 8192; kept = kept; chosen = chosen }

-- the shelf after the packet, the note, and the device's row d then; where no request completes, there is none, and the row stays
abbrev pub shelf_after : Reading → Device → List ℕ → List ℕ → List ℕ
shelf_after t d packet shelf = pick t.asks (shelf_by (asked_with t d.kept d.chosen) (laid_shelf t packet shelf)) (laid_shelf t packet shelf)

abbrev pub note_after : Reading → Device → List ℕ → List ℕ → ℕ
note_after t d packet shelf = pick t.asks (note_by (asked_with t d.kept d.chosen) (laid_shelf t packet shelf)) 0

abbrev pub row_after : Reading → Device → List ℕ → List ℕ → Device
row_after t d packet shelf = pick t.asks (row_by (asked_with t d.kept d.chosen) (laid_shelf t packet shelf) d) d

pub record Shelves (t : Reading) (d : Device) (packet shelf shelf₁ : List ℕ) (r : Shelved) : Type 0 where
  pub stored : shelf₁ ≡ shelf_after t d packet shelf
  pub note : r.note ≡ note_after t d packet shelf
  pub row : r.row ≡ row_after t d packet shelf

-- the log of requests then, with the row, where there is one, as row `at`
abbrev pub request_after : Reading → ℕ → ℕ → List ℕ → List ℕ
request_after t at note requests = pick t.asks (sets requests (at * request_width) (request_words (asking t.endpoint t.setup t.length note))) requests
