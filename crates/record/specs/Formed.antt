-- To be believed: well formed (01, "Answer numbers", the paragraph below the table). What 01 says in one sentence is asked here of three things in turn:
-- of each endpoint, of the transaction that the record holds, and of the record; words in quotation marks are 01's.
-- Hold it to: 01, "Answer numbers", the paragraph below the table: "A record is well formed when .."
use Rattle.std.specs.Prelude.{ℕ, zero, suc, ◌<◌, ◌≤◌, Bool, true, false, not, ◌&&◌, ◌||◌, List, eqb, leb, ltb, get_or}
use Rattle.usb.specs.Pid.{IN, OUT}
use Rattle.transaction.specs.declared.Style.{Style}
use Rattle.transaction.specs.declared.Style.TheVariants.{Nothing, Simple, Split, Token}
use Rattle.transaction.specs.declared.Transaction.{Transaction}
use Rattle.endpoints.specs.Phases.{waiting}
use Rattle.details.specs.Search.{blank}
use Rattle.endpoints.specs.Table.{word_at, entry_at}
use Rattle.endpoints.specs.Word as word
use Rattle.details.specs.declared.Device.{Device}
use Rattle.endpoints.specs.declared.Endpoint.{Endpoint}
use Rattle.endpoints.specs.declared.Phase.{Phase}
use Rattle.endpoints.specs.declared.Phase.TheVariants.{None, Early, Active, Ended}
use Rattle.rules.specs.World.{no_item}
use Rattle.rules.specs.declared.Slot.{Slot}
use Rattle.rules.specs.declared.Slot.TheVariants.{Empty, Current, Suspended}
use Rattle.record.specs.Room.{roomy}
use Rattle.record.specs.declared.Counts.{Counts}
use Rattle.record.specs.declared.Decoder.{Decoder}

-- what is asked only where the first holds
abbrev pub implies : Bool → Bool → Bool
implies a b = not a || b

-- the test holds of each of the n numbers from i on
abbrev pub every : (ℕ → Bool) → ℕ → ℕ → Bool
every test i zero = true
every test i (suc n) = test i && every test (suc i) n

-- ---- an endpoint

-- "its counts fit the lent logs": each T and each G row of an endpoint is one of the link rows
abbrev pub entry_fits : Counts → Endpoint → Bool
entry_fits n e = leb e.transactions n.links && leb e.groups n.links

-- "every number it holds names an existing row": the device, and the T row of a payload that waits
abbrev pub entry_names : Counts → Endpoint → Bool
entry_names n e = ltb e.device n.devices && implies e.pending (ltb e.pendinglink e.transactions)

-- "no payload length passes the packet bytes logged": the control payload's, and that of a payload that waits
abbrev pub entry_payloads : Counts → Endpoint → Bool
entry_payloads n e = leb e.payload n.bytes && implies e.pending (leb e.pendinglength n.bytes)

-- whether the last group is early, active or ended
abbrev pub standing : Phase → Bool
standing None = false
standing Early = true
standing Active = true
standing Ended = true

-- "no endpoint has more than one of an early, an active and an ended group, that one being its last and all before it closed", and
-- "demand 3's count rule". An entry has one phase, hence at most one such group; it names none, so that group is its last; and it does not
-- hold how many are closed: all but that one are. What is left to ask is that there is a last group.
abbrev pub entry_groups : Endpoint → Bool
entry_groups e = implies (standing e.phase) (ltb 0 e.groups)

-- ours, since the entries lie in a table of words: each word is one that `store` may write, so that table and entries determine each other
abbrev pub is_flag : ℕ → Bool
is_flag w = ltb w 2

abbrev pub is_byte : ℕ → Bool
is_byte w = ltb w 256

abbrev pub words_stored : List ℕ → ℕ → Bool
words_stored table i =
    is_byte (word_at table i word.address)
    && leb (word_at table i word.phase) word.Ended
    && is_byte (word_at table i word.state)
    && is_byte (word_at table i word.first)
    && is_flag (word_at table i word.done)
    && is_byte (word_at table i word.last)
    && is_flag (word_at table i word.success)
    && is_flag (word_at table i word.ready)
    && is_flag (word_at table i word.pending)

-- the same as a fact: the words of entry i are such as `store` writes
pub record Stored (table : List ℕ) (i : ℕ) : Type 0 where
  pub address : word_at table i word.address < 256
  pub phase : word_at table i word.phase ≤ word.Ended
  pub state : word_at table i word.state < 256
  pub first : word_at table i word.first < 256
  pub done : word_at table i word.done < 2
  pub last : word_at table i word.last < 256
  pub success : word_at table i word.success < 2
  pub ready : word_at table i word.ready < 2
  pub pending : word_at table i word.pending < 2

unfoldable pub entry_formed : Counts → Endpoint → Bool
entry_formed n e = entry_fits n e && entry_names n e && entry_payloads n e && entry_groups e

unfoldable pub endpoint_formed : Counts → List ℕ → ℕ → Bool
endpoint_formed n table i = entry_formed n (entry_at table i) && words_stored table i

-- ---- the transaction t that the record holds; e is the entry of its endpoint, and endpoint 0 is none

-- "every number it holds names an existing row": its row, its endpoint and, where it has one, its T row, which is its endpoint's
abbrev pub held_names : Counts → Transaction → Endpoint → Bool
held_names n t e =
    ltb t.endpoint n.endpoints
    && ltb t.id n.transactions
    && implies t.linked (ltb 0 t.endpoint && ltb t.link e.transactions)

-- "no payload length passes the packet bytes logged"
abbrev pub held_payload : Counts → Transaction → Bool
held_payload n t = implies t.filled (leb t.payload n.bytes)

-- "a transaction lacks an endpoint exactly if it is a split without its token"; a transaction has a style
abbrev pub held_style : Style → ℕ → Bool
held_style Nothing x = false
held_style (Simple first) x = ltb 0 x
held_style (Split sc kind) x = eqb x 0
held_style (Token sc kind token) x = ltb 0 x

-- "that endpoint's active group began with IN or OUT, or that endpoint has neither an early nor an active group"
abbrev pub may_lack : Phase → ℕ → Bool
may_lack None first = true
may_lack Early first = false
may_lack Active first = eqb first IN || eqb first OUT
may_lack Ended first = true

-- "a current or suspended transaction with an endpoint has its T link unless" it may lack it
abbrev pub held_link : Transaction → Endpoint → Bool
held_link t e = eqb t.endpoint 0 || t.linked || may_lack e.phase e.first

unfoldable pub held_formed : Counts → Transaction → Endpoint → Bool
held_formed n t e = held_names n t e && held_payload n t && held_style t.style t.endpoint && held_link t e

-- whether the slot holds a transaction, current or suspended
abbrev pub holds : Slot → Bool
holds Empty = false
holds Current = true
holds Suspended = true

-- ---- the record

-- a special endpoint: on the first device, with its own number
abbrev pub special : Endpoint → ℕ → Bool
special e number = eqb e.device 0 && eqb e.address number

-- "the first device and the three special endpoints stand": EVENT_EP_NUM, INVALID_EP_NUM and FRAMING_EP_NUM of the Rust
unfoldable pub specials_stand : Counts → List Device → List ℕ → Bool
specials_stand n devices table =
    ltb 0 n.devices
    && eqb (get_or devices 0 blank).address 0
    && leb 3 n.endpoints
    && special (entry_at table 0) 0x10
    && special (entry_at table 1) 0x11
    && special (entry_at table 2) 0x12

-- "the event endpoint has none", of an early, an active and an ended group
abbrev pub event_rests : List ℕ → Bool
event_rests table = not (standing (entry_at table 0).phase)

-- "every number it holds names an existing row": the last item's endpoint, and an item is there
abbrev pub last_names : Counts → ℕ → Bool
last_names n last = eqb last no_item || (ltb last n.endpoints && ltb 0 n.items)

-- ours: the record holds how many endpoints wait
abbrev pub waiting_is : Decoder → List ℕ → Bool
waiting_is d table = eqb d.waiting (waiting table d.counts.endpoints)

-- 01, answer 1: "the record is not well formed" exactly where this is false
unfoldable pub well_formed : Decoder → List Device → List ℕ → Counts → Bool
well_formed d devices table room =
    roomy table d.counts room
    && specials_stand d.counts devices table
    && event_rests table
    && every (endpoint_formed d.counts table) 0 d.counts.endpoints
    && implies (holds d.slot) (held_formed d.counts d.transaction (entry_at table d.transaction.endpoint))
    && last_names d.counts d.last
    && waiting_is d table
