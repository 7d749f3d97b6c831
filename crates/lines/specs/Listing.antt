-- To be believed: Document 01, "Trace and listing": the listing of the rows that are counted, as one list of bytes; the lines are those of
-- text/specs/Lines.antt.
-- Assumes nothing.
-- Hold it to: 01, "Trace and listing": "Order of kinds"
use Rattle.std.specs.Prelude.{ℕ, zero, suc, ◌+◌, ◌*◌, ◌-◌, min, ◌<◌, ◌≤◌, cond, List, [], ◌++◌, ltb, get_or, take, drop, length}
use Rattle.rows.specs.Widths.{device_width, endpoint_width, event_width, group_width, item_width, link_width, packet_width, request_width, transaction_width, place}
use Rattle.text.specs.Words.{title}
use Rattle.text.specs.Lines.{device_line, endpoint_line, packet_line, event_line, transaction_line, group_line, state_line, item_line, link_line, request_line}
use Rattle.record.specs.declared.Counts.{Counts}
use Rattle.call.specs.State.{Logs, log_at, count_at}
use Rattle.lines.specs.declared.Kind.{Kind}
use Rattle.lines.specs.declared.Kind.TheVariants.{Device, Endpoint, Packet, Event, Transaction, Group, Item, Link, Request}

-- the words of a row (rows, Widths)
abbrev pub width_of : Kind → ℕ
width_of Device = device_width
width_of Endpoint = endpoint_width
width_of Packet = packet_width
width_of Event = event_width
width_of Transaction = transaction_width
width_of Group = group_width
width_of Item = item_width
width_of Link = link_width
width_of Request = request_width

-- a row's line, from its number and its words; a link line has no row number
abbrev pub line_of : Kind → ℕ → List ℕ → List ℕ
line_of Device row w = device_line row w
line_of Endpoint row w = endpoint_line row w
line_of Packet row w = packet_line row w
line_of Event row w = event_line row w
line_of Transaction row w = transaction_line row w
line_of Group row w = group_line row w
line_of Item row w = item_line row w
line_of Link row w = link_line w
line_of Request row w = request_line row w

-- the lines of n rows, from row i on, behind each other
unfoldable pub each : (ℕ → List ℕ) → ℕ → ℕ → List ℕ
each line i zero = []
each line i (suc n) = line i ++ each line (i + 1) n

abbrev pub row : ℕ → List ℕ → ℕ → List ℕ
row width log i = take width (drop (i * width) log)

-- of the first n rows of a log
unfoldable pub lines_of : Kind → ℕ → List ℕ → List ℕ
lines_of kind n log = each (λ i. line_of kind i (row (width_of kind) log i)) 0 n

-- ---- states: of n rows, over the first m state bytes

-- where the bytes of row i start; a start past the bytes counts as their end
abbrev pub start_of : List ℕ → ℕ → ℕ → ℕ
start_of states m i = min (get_or states i 0) m

-- they go on up to the start of the next row, those of the last row up to the end
abbrev pub end_of : List ℕ → ℕ → ℕ → ℕ → ℕ
end_of states n m i = cond (ltb (i + 1) n) (start_of states m (i + 1)) m

-- a row has a byte for each endpoint, so at most 128 (01, Sizes); more are not listed, nor where the end stands before the start
abbrev pub size_of : ℕ → ℕ → ℕ
size_of start end = min (end - start) 128

abbrev pub state_bytes : ℕ → List ℕ → ℕ → List ℕ → ℕ → List ℕ
state_bytes n states m statebytes i = take (size_of (start_of states m i) (end_of states n m i)) (drop (start_of states m i) statebytes)

unfoldable pub state_lines : ℕ → List ℕ → ℕ → List ℕ → List ℕ
state_lines n states m statebytes = each (λ i. state_line i (state_bytes n states m statebytes i)) 0 n

-- ---- the whole: "Order of kinds: device, endpoint, packet, event, transaction, group, state, item, link, request"

unfoldable pub listing : Counts → Logs → List ℕ
listing n l =
    title
    ++ (lines_of Device n.devices l.devices
    ++ (lines_of Endpoint n.endpoints l.endpoints
    ++ (lines_of Packet n.packets l.packets
    ++ (lines_of Event n.events l.events
    ++ (lines_of Transaction n.transactions l.transactions
    ++ (lines_of Group n.groups l.groups
    ++ (state_lines n.states l.states n.statebytes l.statebytes
    ++ (lines_of Item n.items l.items
    ++ (lines_of Link n.links l.links
    ++ lines_of Request n.requests l.requests)))))))))

-- every log has the rows that are counted; packet bytes (log 0) have no line
abbrev pub Counted : Counts → Logs → Type 0
Counted n l = (k : ℕ) → 0 < k → k < 12 → place k (count_at k n) ≤ length (log_at k l)

-- how many lines that is, without the title
abbrev pub rows_of : Counts → ℕ
rows_of n =
    n.devices + n.endpoints + n.packets + n.events + n.transactions + n.groups + n.states + n.items + n.links + n.requests
