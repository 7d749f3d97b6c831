-- To be believed: room (01, "Sizes" and "Answer numbers"): whether counts fit the lent logs, and whether a lent log is too long.
-- A row's number and its place are two things (02, request 12): counts number the rows, and a log holds those from its first number on.
-- Hold it to: 01, "Sizes", and answers 1 and 7; 02, request 12: "Row numbers never change; each log has a first number"
use Rattle.std.specs.Prelude.{ℕ, ◌-◌, Bool, ◌&&◌, ◌||◌, List, leb, ltb}
use Rattle.endpoints.specs.Table.{first_at}
use Rattle.record.specs.declared.Counts.{Counts}

-- 01, "Sizes": "16,777,216 rows in a lent log, 1,073,741,824 bytes in the packet and the state log"
abbrev pub most_rows : ℕ
most_rows = 16777216

abbrev pub most_bytes : ℕ
most_bytes = 1073741824

-- 01, "Sizes": "at most 64 devices, 128 endpoints"
abbrev pub most_devices : ℕ
most_devices = 64

abbrev pub most_endpoints : ℕ
most_endpoints = 128

-- "its counts fit the lent logs": no count passes its log's rows, and there are no more devices and endpoints than 01 has
unfoldable pub fitting : Counts → Counts → Bool
fitting n room =
    leb n.bytes room.bytes
    && leb n.devices room.devices
    && leb n.devices most_devices
    && leb n.endpoints room.endpoints
    && leb n.endpoints most_endpoints
    && leb n.packets room.packets
    && leb n.events room.events
    && leb n.transactions room.transactions
    && leb n.groups room.groups
    && leb n.statebytes room.statebytes
    && leb n.states room.states
    && leb n.items room.items
    && leb n.links room.links
    && leb n.requests room.requests

-- "a lent log is too long"
unfoldable pub long : Counts → Bool
long room =
    ltb most_bytes room.bytes
    || ltb most_rows room.devices
    || ltb most_rows room.endpoints
    || ltb most_rows room.packets
    || ltb most_rows room.events
    || ltb most_rows room.transactions
    || ltb most_rows room.groups
    || ltb most_bytes room.statebytes
    || ltb most_rows room.states
    || ltb most_rows room.items
    || ltb most_rows room.links
    || ltb most_rows room.requests

-- ---- numbers and places

-- the rows that the logs still hold, where n have been numbered: those from each log's first number on. A row's place is its number less the first one.
-- Device, endpoint and request rows stay (02, request 12)
abbrev pub held_of : List ℕ → Counts → Counts
held_of table n =
    record {
      bytes = n.bytes - first_at 0 table;
      devices = n.devices;
      endpoints = n.endpoints;
      packets = n.packets - first_at 3 table;
      events = n.events - first_at 4 table;
      transactions = n.transactions - first_at 5 table;
      groups = n.groups - first_at 6 table;
      statebytes = n.statebytes - first_at 7 table;
      states = n.states - first_at 8 table;
      items = n.items - first_at 9 table;
      links = n.links - first_at 10 table;
      requests = n.requests;
    }

-- no log's first number passes the number of its next row
unfoldable pub begun : List ℕ → Counts → Bool
begun table n =
    leb (first_at 0 table) n.bytes
    && leb (first_at 3 table) n.packets
    && leb (first_at 4 table) n.events
    && leb (first_at 5 table) n.transactions
    && leb (first_at 6 table) n.groups
    && leb (first_at 7 table) n.statebytes
    && leb (first_at 8 table) n.states
    && leb (first_at 9 table) n.items
    && leb (first_at 10 table) n.links

-- 02, request 12: "A row number or byte place that would pass 2^64 - 1 counts as no room"; the greatest that a next number may be
abbrev pub most_number : ℕ
most_number = 18446744073709551615

unfoldable pub numbered : Counts → Bool
numbered n =
    leb n.bytes most_number
    && leb n.packets most_number
    && leb n.events most_number
    && leb n.transactions most_number
    && leb n.groups most_number
    && leb n.statebytes most_number
    && leb n.states most_number
    && leb n.items most_number
    && leb n.links most_number

-- there is room for rows up to the numbers n in logs that hold so many: 02, request 12: "the counts that must fit a log are of the rows and bytes it still holds"
unfoldable pub roomy : List ℕ → Counts → Counts → Bool
roomy table n room = begun table n && fitting (held_of table n) room && numbered n
