-- To be believed: calls for parts behind each other, each from the row that the one before told; and the listing that they make, kind by kind.
-- Assumes nothing.
-- Hold it to: ours: how a program that lists in parts goes on; 01, "Trace and listing": "Order of kinds"
use Rattle.std.specs.Prelude.{ℕ, ◌≤◌, ◌≡◌, List, [], ◌∷◌, ◌++◌}
use Rattle.text.specs.Words.{title}
use Rattle.text.specs.Lines.{longest}
use Rattle.record.specs.declared.Counts.{Counts}
use Rattle.call.specs.State.{Logs, log_at, count_at}
use Rattle.lines.specs.declared.Kind.{Kind}
use Rattle.lines.specs.declared.Kind.TheVariants.{Device, Endpoint, Packet, Event, Transaction, Group, Item, Link, Request}
use Rattle.parts.specs.Parts.{next_of, part_of, row_line, rows_of, state_row, state_rows, state_end}

-- calls from row `from` on, with buffers of these lengths: the row that the last one tells
unfoldable pub stop_of : (ℕ → List ℕ) → ℕ → ℕ → List ℕ → ℕ
stop_of line n from [] = from
stop_of line n from (room ∷ rooms) = stop_of line n (next_of line n room from) rooms

-- and the bytes of all of them
unfoldable pub bytes_of : (ℕ → List ℕ) → ℕ → ℕ → List ℕ → List ℕ
bytes_of line n from [] = []
bytes_of line n from (room ∷ rooms) = part_of line n room from ++ bytes_of line n (next_of line n room from) rooms

-- each buffer has room for the longest line
pub data Roomy : List ℕ → Type 0 where
  none : Roomy []
  one : {room : ℕ} {rooms : List ℕ} → longest ≤ room → Roomy rooms → Roomy (room ∷ rooms)

-- ---- all rows that are counted, with buffers of the lengths `rooms k` for log k

-- the log's number (parts, named_of)
abbrev pub number_of : Kind → ℕ
number_of Device = 1
number_of Endpoint = 2
number_of Packet = 3
number_of Event = 4
number_of Transaction = 5
number_of Group = 6
number_of Item = 9
number_of Link = 10
number_of Request = 11

module _ (n : Counts) (l : Logs) (rooms : ℕ → List ℕ) where
  abbrev pub kind_line : Kind → ℕ → List ℕ
  kind_line kind = row_line kind (log_at (number_of kind) l)

  abbrev pub kind_rows : Kind → ℕ
  kind_rows kind = rows_of kind (count_at (number_of kind) n) (log_at (number_of kind) l)

  abbrev pub states_line : ℕ → List ℕ
  states_line = state_row (state_rows n.states l.states) l.states (state_end n.statebytes l.statebytes) l.statebytes

  -- the calls come to the end of each kind
  pub record Ended : Type 0 where
    pub kinds : (kind : Kind) → stop_of (kind_line kind) (kind_rows kind) 0 (rooms (number_of kind)) ≡ count_at (number_of kind) n
    pub states : stop_of states_line (state_rows n.states l.states) 0 (rooms 8) ≡ n.states

  abbrev pub bytes_by : Kind → List ℕ
  bytes_by kind = bytes_of (kind_line kind) (kind_rows kind) 0 (rooms (number_of kind))

  -- the title, and the parts of each kind
  unfoldable pub in_parts : List ℕ
  in_parts =
      title
      ++ (bytes_by Device
      ++ (bytes_by Endpoint
      ++ (bytes_by Packet
      ++ (bytes_by Event
      ++ (bytes_by Transaction
      ++ (bytes_by Group
      ++ (bytes_of states_line (state_rows n.states l.states) 0 (rooms 8)
      ++ (bytes_by Item
      ++ (bytes_by Link
      ++ bytes_by Request)))))))))
