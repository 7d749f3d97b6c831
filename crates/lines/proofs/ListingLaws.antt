-- Laws (proved): for callers: that logs have the rows that are counted, and how long a line and the listing can be.
-- Assumes nothing.
use Rattle.std.specs.Prelude.{ℕ, zero, suc, ◌+◌, ◌*◌, ◌≤◌, ◌≡◌, refl, List, [], length, drop}
use Rattle.std.proofs.Common.{arith, length-append, length-take}
use Rattle.text.specs.Lines.{state_line, longest}
use Rattle.text.proofs.Lengths.{device-fits, endpoint-fits, packet-fits, event-fits, transaction-fits, group-fits, state-fits, item-fits, link_fits, request-fits}
use Rattle.record.specs.RoomLaws.{Within}
use Rattle.record.specs.declared.Counts.{Counts}
use Rattle.call.specs.State.{Logs, logs, room_of}
use Rattle.call.proofs.StateLaws.{within-logs}
use Rattle.lines.specs.Listing.{width_of, line_of, each, row, lines_of, start_of, end_of, size_of, state_bytes, state_lines, listing, Counted, rows_of}
use Rattle.lines.specs.declared.Kind.{Kind}
use Rattle.lines.specs.declared.Kind.TheVariants.{Device, Endpoint, Packet, Event, Transaction, Group, Item, Link, Request}

-- ---- how long: the title, and at most `longest` for each row

pub line-fits : (kind : Kind) (i : ℕ) (w : List ℕ) → length (line_of kind i w) ≤ longest
line-fits Device i w = device-fits i w
line-fits Endpoint i w = endpoint-fits i w
line-fits Packet i w = packet-fits i w
line-fits Event i w = event-fits i w
line-fits Transaction i w = transaction-fits i w
line-fits Group i w = group-fits i w
line-fits Item i w = item-fits i w
line-fits Link i w = link_fits w
line-fits Request i w = request-fits i w

pub state-line-fits : (n : ℕ) (states : List ℕ) (m : ℕ) (statebytes : List ℕ) (i : ℕ) → length (state_line i (state_bytes n states m statebytes i)) ≤ longest
state-line-fits n states m statebytes i =
    state-fits i (state_bytes n states m statebytes i) (omega (arith, length-take (size_of (start_of states m i) (end_of states n m i)) (drop (start_of states m i) statebytes)))

each_fits : (line : ℕ → List ℕ) (k : ℕ) → ((i : ℕ) → length (line i) ≤ k) → (i n : ℕ) → length (each line i n) ≤ n * k
unfolding each
each_fits line k h i zero = omega arith
each_fits line k h i (suc n) = simp length-append (omega (arith, h i, each_fits line k h (i + 1) n))

lines_fit : (kind : Kind) (n : ℕ) (log : List ℕ) → length (lines_of kind n log) ≤ n * longest
unfolding lines_of
lines_fit kind n log = each_fits (λ i. line_of kind i (row (width_of kind) log i)) longest (λ i. line-fits kind i (row (width_of kind) log i)) 0 n

states_fit : (n : ℕ) (states : List ℕ) (m : ℕ) (statebytes : List ℕ) → length (state_lines n states m statebytes) ≤ n * longest
unfolding state_lines
states_fit n states m statebytes = each_fits (λ i. state_line i (state_bytes n states m statebytes i)) longest (state-line-fits n states m statebytes) 0 n

pub listing-fits : (n : Counts) (l : Logs) → length (listing n l) ≤ 6 + rows_of n * longest
unfolding listing
listing-fits n l =
    simp length-append
    (omega (
      arith,
      lines_fit Device n.devices l.devices,
      lines_fit Endpoint n.endpoints l.endpoints,
      lines_fit Packet n.packets l.packets,
      lines_fit Event n.events l.events,
      lines_fit Transaction n.transactions l.transactions,
      lines_fit Group n.groups l.groups,
      states_fit n.states l.states n.statebytes l.statebytes,
      lines_fit Item n.items l.items,
      lines_fit Link n.links l.links,
      lines_fit Request n.requests l.requests,
    ))

-- ---- the logs as `list` has them: packet bytes have no line

abbrev pub listed : Logs → Logs
listed l = logs [] l.devices l.endpoints l.packets l.events l.transactions l.groups l.statebytes l.states l.items l.links l.requests

pub listing-listed : (n : Counts) (l : Logs) → listing n (listed l) ≡ listing n l
unfolding listing
listing-listed n l = refl

-- counts that are within the logs' room (record, RoomLaws)
pub counted : (n : Counts) (l : Logs) → Within n (room_of l) → Counted n (listed l)
counted n l w zero a b = absurd (omega arith)
counted n l w (suc k) a b = within-logs n l w (suc k) b
