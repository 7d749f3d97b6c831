-- To be believed: demand 3 over every sequence of calls, on the rows in the logs: what is claimed (proofs/Meets.antt proves it). Words in quotation marks are
-- the demand's.
-- What it leans on: rules, specs/Rows (a row's log and its words there), specs/Marks (`First`: the first item after an end; `last_ended`) and specs/Demand
-- (`Standing`, `Demand3`, `links_of`, `Quiet`); call, specs/Outcome (`Answers`: what a call leaves), with the tests of each call beside its contract.
-- Hold it to: demand 3, sentence by sentence (docs/PROVED.md); 01, "Answer numbers": "none of those calls answers 1"
use Rattle.std.specs.Prelude.{ℕ, suc, ◌*◌, ◌<◌, ◌≡◌, Bool, false, List, [], ◌∷◌, ◌++◌, length, take, get_or, Some}
use Rattle.endpoints.specs.Word as word
use Rattle.rows.specs.Widths.{link_width, place}
use Rattle.transaction.specs.Table.{pick}
use Rattle.details.specs.declared.Device.{Device}
use Rattle.endpoints.specs.declared.Phase.{Phase}
use Rattle.endpoints.specs.declared.Phase.TheVariants.{None, Early, Active, Ended}
use Rattle.rules.specs.Decoder.{fresh}
use Rattle.rules.specs.Demand.{Call, packet, event, detail, finishing, call, Demand3, links_of, Quiet}
use Rattle.rules.specs.Marks.{marks, endings, last_ended}
use Rattle.rules.specs.Rows.{Row, E, log}
use Rattle.rules.specs.World.{event_ep, phase}
use Rattle.call.specs.Outcome.{is_ill, accepts, world_at}
use Rattle.call.specs.State.{Logs, State, log_at, count_at}
use Rattle.typed.specs.Detail.{Details}
use Rattle.start.specs.Fresh.{Makes}
use Rattle.packet.specs.Call.{PacketCall}
use Rattle.events.specs.Call.{EventCall, FinishCall}

-- ---- "from a fresh decoder, after any calls, each on the record and logs that the one before left, refused ones among them"

-- a packet with a shelf that is lent to it. The shelf may hold anything, not only what the call before left there
pub record OnShelf (bytes : List ℕ) (time : ℕ) (shelf : List ℕ) (s : State) (a : ℕ) (s' : State) : Type 0 where
  pub left : List ℕ
  pub does : PacketCall bytes time s shelf a s' left

-- the call on the state s answers a and leaves s', by the contract of its public function
abbrev pub Does : Call → State → ℕ → State → Type 0
Does (packet bytes time shelf) s a s' = OnShelf bytes time shelf s a s'
Does (event kind code time) s a s' = EventCall kind code time s a s'
Does (detail address number direction kind max) s a s' = Details address number direction kind max s a s'
Does finishing s a s' = FinishCall s a s'

-- what the call adds to the history, the newest first: where it is accepted (0 or 8) the rows that demand 2's rules append, and none where it is refused
abbrev pub adds : Call → State → ℕ → List Row
adds k s a = pick (accepts a) (call s.decoder.high k (world_at s)).journal []

-- a sequence of calls has the history js, the newest row first, and leaves the state s
pub data Sequence : List Row → State → Type 0 where
  -- a fresh decoder answered 0, in either mode, on any 64 devices, any table of 2,704 words and any logs; its history is its own four rows
  made : {high : Bool} {v : List Device} {t : List ℕ} {l : Logs} {s : State} → length v ≡ 64 → length t ≡ word.table → Makes high v t l 0 s →
      Sequence fresh.journal s
  -- and any call, with any arguments and any answer, on what the one before left
  then : {js : List Row} {s : State} (k : Call) (a : ℕ) (s' : State) → Sequence js s → Does k s a s' → Sequence (adds k s a ++ js) s'

-- ---- the logs and the history: events end groups and log no row of it, so the ends stand in the history alone (`Over`). All else is in both:

-- each log, up to its count, has the history's rows for it, in order, and no others; the numbers are logs of rules, Rows
abbrev pub Told : List Row → State → Type 0
Told js s = (k : ℕ) → k < 12 → take (place k (count_at k s.decoder.counts)) (log_at k s.logs) ≡ log k js

-- ---- demand 3, of endpoint e

-- the link rows in the log, each of four words: the kind (G is 1, E is 3), the endpoint, and two numbers
abbrev pub link_rows : State → List ℕ
link_rows s = take (s.decoder.counts.links * link_width) s.logs.links

-- "the groups started": its G rows
abbrev pub groups_started : ℕ → State → ℕ
groups_started e s = length (links_of 1 e (link_rows s))

-- "the groups linked to a closing item": the items that its E rows name, row k at place k
abbrev pub closing_items : ℕ → State → List ℕ
closing_items e s = links_of 3 e (link_rows s)

-- the groups that ended, so far
abbrev pub groups_ended : ℕ → List Row → ℕ
groups_ended e js = length (endings (marks e js))

-- "number exactly .. or one more. The extra one is open or ended and waiting, never both": by the phase of the endpoint's entry, of which it has one
abbrev pub Extra : Phase → ℕ → ℕ → ℕ → Type 0
Extra None started ended closed = (started ≡ closed) × (ended ≡ closed)
Extra Early started ended closed = (started ≡ suc closed) × (ended ≡ closed)
Extra Active started ended closed = (started ≡ suc closed) × (ended ≡ closed)
Extra Ended started ended closed = (started ≡ suc closed) × (ended ≡ suc closed)

-- "the source's assert!(end_id == ep_group_id) can't fire": where an E row of e was added behind the rows `before`, end_id was the number of its E rows among
-- these, and ep_group_id the group of e that had ended last
abbrev pub AssertHolds : ℕ → List Row → Type 0
AssertHolds e js =
    (later before : List Row) (i : ℕ) → js ≡ later ++ (E e i ∷ before) → last_ended (marks e before) ≡ Some (length (links_of 3 e (log 10 before)))

-- ---- the claim, of every sequence with the history js that leaves the state s

pub record Meets (js : List Row) (s : State) : Type 0 where
  -- the history is that of the logs
  pub told : Told js s
  -- "on every endpoint but the event endpoint": the counts, the ends in order, "closing row k belongs to group k and names the first item added after that group
  -- ended" (Demand3.closing, First), and the assert in the words of rules
  pub demand : (e : ℕ) → ¬ (e ≡ event_ep) → Demand3 (groups_started e s) (closing_items e s) (marks e js)
  -- the extra group is the one that the record has: open where it is early or active, waiting where it is ended
  pub extra : (e : ℕ) → ¬ (e ≡ event_ep) → Extra (phase e (world_at s)) (groups_started e s) (groups_ended e js) (length (closing_items e s))
  -- the item that a closing row names stands in the item log
  pub named : (e k : ℕ) → k < length (closing_items e s) → get_or (closing_items e s) k 0 < s.decoder.counts.items
  -- the assert, at every E row
  pub assert : (e : ℕ) → AssertHolds e js
  -- the event endpoint has no group that is open or waiting, and no closing row
  pub event : Quiet js (world_at s)
  -- 01: "every record that calls as in demand 3 leave, is well formed on its logs"
  pub well : is_ill s ≡ false
  -- "so none of those calls answers 1"
  pub never_1 : (k : Call) (a : ℕ) (s' : State) → Does k s a s' → ¬ (a ≡ 1)
