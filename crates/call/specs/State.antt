-- To be believed: all that a call works on: the record, the devices, the endpoint table, and the twelve logs.
-- Hold it to: the parameters of the public functions, in their order; 01, "Sizes"
use Rattle.std.specs.Prelude.{ℕ, ◌/◌, List, [], ◌∷◌, length, get_or}
use Rattle.rows.specs.Widths.{endpoint_width, event_width, group_width, link_width, packet_width, request_width, transaction_width}
use Rattle.details.specs.declared.Device.{Device}
use Rattle.record.specs.Room.{held_of}
use Rattle.record.specs.declared.Counts.{Counts}
use Rattle.record.specs.declared.Decoder.{Decoder}

-- in the order of their numbers (rules, Rows)
pub record Logs : Type 0 where
  pub bytes : List ℕ
  pub devices : List ℕ
  pub endpoints : List ℕ
  pub packets : List ℕ
  pub events : List ℕ
  pub transactions : List ℕ
  pub groups : List ℕ
  pub statebytes : List ℕ
  pub states : List ℕ
  pub items : List ℕ
  pub links : List ℕ
  pub requests : List ℕ

abbrev pub logs : List ℕ → List ℕ → List ℕ → List ℕ → List ℕ → List ℕ → List ℕ → List ℕ → List ℕ → List ℕ → List ℕ → List ℕ → Logs
logs a b c d e f g h i j k l =
    record {
      bytes = a;
      devices = b;
      endpoints = c;
      packets = d;
      events = e;
      transactions = f;
      groups = g;
      statebytes = h;
      states = i;
      items = j;
      links = k;
      requests = l;
    }

-- log k of them
abbrev pub log_at : ℕ → Logs → List ℕ
log_at k l =
    get_or (l.bytes ∷ l.devices ∷ l.endpoints ∷ l.packets ∷ l.events ∷ l.transactions ∷ l.groups ∷ l.statebytes
    ∷ l.states ∷ l.items ∷ l.links ∷ l.requests ∷ []) k []

-- counts in the same order, and that of log k
abbrev pub count_words : Counts → List ℕ
count_words n =
    n.bytes ∷ n.devices ∷ n.endpoints ∷ n.packets ∷ n.events ∷ n.transactions ∷ n.groups ∷ n.statebytes
    ∷ n.states ∷ n.items ∷ n.links ∷ n.requests ∷ []

abbrev pub count_at : ℕ → Counts → ℕ
count_at k n = get_or (count_words n) k 0

pub record State : Type 0 where
  pub decoder : Decoder
  pub devices : List Device
  pub table : List ℕ
  pub logs : Logs

abbrev pub state : Decoder → List Device → List ℕ → Logs → State
state d v t l = record { decoder = d; devices = v; table = t; logs = l }

-- the rows that its logs hold (record, Room)
abbrev pub held_at : State → Counts
held_at s = held_of s.table s.decoder.counts

-- how many rows there is room for: words by a row's width (rows, Widths)
unfoldable pub room_by : ℕ → ℕ → ℕ → ℕ → ℕ → ℕ → ℕ → ℕ → ℕ → ℕ → ℕ → ℕ → Counts
room_by a b c d e f g h i j k l =
    record {
      bytes = a;
      devices = b;
      endpoints = c / endpoint_width;
      packets = d / packet_width;
      events = e / event_width;
      transactions = f / transaction_width;
      groups = g / group_width;
      statebytes = h;
      states = i;
      items = j;
      links = k / link_width;
      requests = l / request_width;
    }

abbrev pub room_of : Logs → Counts
room_of l =
    room_by (length l.bytes) (length l.devices) (length l.endpoints) (length l.packets) (length l.events) (length l.transactions)
    (length l.groups) (length l.statebytes) (length l.states) (length l.items) (length l.links) (length l.requests)
