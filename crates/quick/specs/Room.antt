-- Inner (cited by private contracts alone): what a packet that is taken without a plan adds to four logs: len bytes, its packet row, a transaction rows and b link rows; and the room for them.
use Rattle.std.specs.Prelude.{ℕ, ◌+◌, ◌≤◌, Bool, ◌&&◌, leb}
use Rattle.record.specs.Room.{most_number}
use Rattle.record.specs.declared.Counts.{Counts}

abbrev pub more_rows : ℕ → ℕ → ℕ → Counts → Counts
more_rows a b len n =
    record {
      bytes = n.bytes + len;
      devices = n.devices;
      endpoints = n.endpoints;
      packets = n.packets + 1;
      events = n.events;
      transactions = n.transactions + a;
      groups = n.groups;
      statebytes = n.statebytes;
      states = n.states;
      items = n.items;
      links = n.links + b;
      requests = n.requests;
    }

-- ---- room: behind the rows held and by their numbers

-- the greatest numbers of next rows
abbrev pub most_numbers : Counts
most_numbers =
    record {
      bytes = most_number;
      devices = most_number;
      endpoints = most_number;
      packets = most_number;
      events = most_number;
      transactions = most_number;
      groups = most_number;
      statebytes = most_number;
      states = most_number;
      items = most_number;
      links = most_number;
      requests = most_number;
    }

-- the comparisons as the code makes them
abbrev pub rows_room : ℕ → ℕ → ℕ → Counts → Counts → Counts → Bool
rows_room a b len held n room =
    ((((((leb (held.bytes + len) room.bytes
    && leb (held.packets + 1) room.packets)
    && leb (held.transactions + a) room.transactions)
    && leb (held.links + b) room.links)
    && leb (n.bytes + len) most_number)
    && leb (n.packets + 1) most_number)
    && leb (n.transactions + a) most_number)
    && leb (n.links + b) most_number

pub record RowsFit (a b len : ℕ) (n room : Counts) : Type 0 where
  pub bytes : n.bytes + len ≤ room.bytes
  pub packets : n.packets + 1 ≤ room.packets
  pub transactions : n.transactions + a ≤ room.transactions
  pub links : n.links + b ≤ room.links

pub record RowsRoom (a b len : ℕ) (held n room : Counts) : Type 0 where
  pub rows : RowsFit a b len held room
  pub numbers : RowsFit a b len n most_numbers
