-- To be believed: the ledger: what became of the payload of every data packet, told from the packets and the rules of 01, and not by subtraction. It has a line for each, and a call
-- adds the line of its own packet and says anew what became of those before it. Words in quotation marks are those of 02, 8, where nothing else is named.
-- Hold it to: 02, 8; 01, answer 8, "Rules of a transaction", "Rules of a group" (payloads), event kinds; extract_payload, transaction_end and group_status of decoder.rs
use Rattle.std.specs.Prelude.{Bool, true, false, List, [], ◌∷◌, ◌++◌, ℕ, ◌+◌, ◌-◌, eqb, length, Result, Ok, Err}
use Rattle.usb.specs.Packet.{reason_of, checked_of}
use Rattle.usb.specs.declared.reason.Reason.{Reason}
use Rattle.transaction.specs.Table.{pick}
use Rattle.transaction.specs.Payload.{yields}
use Rattle.transaction.specs.Status.{transaction_status}
use Rattle.transaction.specs.declared.Status.{Status}
use Rattle.transaction.specs.declared.Status.TheVariants.{New, Continue, Retry, Done, Fail, Ambiguous, Invalid}
use Rattle.group.specs.declared.Effect.{Effect}
use Rattle.group.specs.declared.Effect.TheVariants.{NoEffect, NewDevice, Request, PendingData, IndexData}
use Rattle.rules.specs.World.{World, ◌▷◌, with_shelf, with_event_state, stamped}
use Rattle.rules.specs.Groups.{grouped}
use Rattle.rules.specs.Transactions.{transaction_append, transaction_start, resume_at, state_at, completes, is_payload, brought, extracted, is_dropped}
use Rattle.rules.specs.Events.{LsKeepalive}
use Rattle.rules.specs.Decoder.{append_bytes, push_packet}
use Rattle.rules.specs.Demand.{Call, packet, event, detail, finishing}
use Rattle.rules.specs.declared.Slot.{Slot}
use Rattle.rules.specs.declared.Slot.TheVariants.{Empty, Current, Suspended}
use Rattle.rules.specs.declared.EventState.TheVariants.{Idle}

-- why a payload was not counted, and never will be
pub data Why : Type 0 where
  -- "the 8 bytes of a SETUP's DATA0"; its packet was Invalid; another came in its place
  Setup : Why
  Stray : Why
  Replaced : Why
  -- its transaction ended without success; it ended well, and the group had no use for a payload; it waited, and was taken and not used
  Failed : Why
  Unused : Why
  Waited : Why
  -- its transaction went without an end on an endpoint; its packet was answered 8
  Forgotten : Why
  Dropped : Why

-- so far it is the transaction's, current or suspended; it waits at an endpoint (01: "A start-split OUT payload waits"); it was counted at an endpoint; it was
-- passed over, on an endpoint (0 is none)
pub data Fate : Type 0 where
  Held : Fate
  Waiting : ℕ → Fate
  Counted : ℕ → Fate
  Passed : Why → ℕ → Fate

-- the number of the packet row, the length of the payload, and what became of it
pub record Line : Type 0 where
  pub packet : ℕ
  pub length : ℕ
  pub fate : Fate

-- the newest packet first
abbrev pub Ledger : Type 0
Ledger = List Line

abbrev pub is_held : Fate → Bool
is_held Held = true
is_held (Waiting y) = false
is_held (Counted y) = false
is_held (Passed why y) = false

abbrev pub is_waiting : ℕ → Fate → Bool
is_waiting x Held = false
is_waiting x (Waiting y) = eqb x y
is_waiting x (Counted y) = false
is_waiting x (Passed why y) = false

abbrev pub is_counted : ℕ → Fate → Bool
is_counted x Held = false
is_counted x (Waiting y) = false
is_counted x (Counted y) = eqb x y
is_counted x (Passed why y) = false

-- the lengths of the payloads that are one of these, the oldest packet first
abbrev pub lengths_of : (Fate → Bool) → Ledger → List ℕ
lengths_of these [] = []
lengths_of these (a ∷ l) = lengths_of these l ++ pick (these a.fate) (a.length ∷ []) []

abbrev pub sum : List ℕ → ℕ
sum [] = 0
sum (n ∷ ns) = n + sum ns

-- "running sums from zero": what was before each of them
abbrev pub running : ℕ → List ℕ → List ℕ
running before [] = []
running before (n ∷ ns) = before ∷ running (before + n) ns

-- "valid DATA0 and DATA1 packets"; "In the mode of 6) the packets are those that yield payloads there": valid DATA2 and MDATA packets besides
abbrev pub data_in : Bool → Result ℕ Reason → Bool
data_in high (Ok pid) = yields high pid
data_in high (Err reason) = false

abbrev pub is_data : Bool → List ℕ → Bool
is_data high p = data_in high (checked_of p)

-- a data packet in row n has a line; its payload is all but the PID and the CRC
abbrev pub enter : Bool → ℕ → List ℕ → Fate → Ledger → Ledger
enter high n p f l = pick (is_data high p) (record { packet = n; length = length p - 3; fate = f } ∷ l) l

-- what was one of these becomes f
abbrev pub turn : (Fate → Bool) → Fate → Ledger → Ledger
turn these f [] = []
turn these f (a ∷ l) = record { packet = a.packet; length = a.length; fate = pick (these a.fate) f a.fate } ∷ turn these f l

-- what is held is passed over, as the transaction's in w
abbrev pub pass_held : Why → World → Ledger → Ledger
pass_held why w = turn is_held (Passed why w.transaction.endpoint)

-- ---- transaction_end

-- the payload that group_status used at x: 01, "A counted payload appends the total before it, then adds its length"; it waits; or it was not used, and f is why
abbrev pub used_at : ℕ → Effect → Fate → Fate
used_at x NoEffect f = f
used_at x (NewDevice address) f = f
used_at x (Request n) f = f
used_at x (PendingData n) f = Waiting x
used_at x (IndexData n waited i) f = Counted x

-- it uses the transaction's own, where that has one; else the one that waits: 01, "for the next group_status on that endpoint, which takes it, used or not"
abbrev pub end_at : Bool → ℕ → Bool → Effect → Ledger → Ledger
end_at true x success e l = l ▷ turn (is_waiting x) (Passed Waited x) ▷ turn is_held (used_at x e (Passed (pick success Unused Failed) x))
end_at false x success e l = l ▷ turn (is_waiting x) (used_at x e (Passed Waited x))

-- 01: "Where an event or finish ends a split without its token, that end writes nothing"
abbrev pub end_by : Slot → Bool → Bool → World → Ledger → Ledger
end_by Empty success complete w l = l
end_by Current success complete w l =
    let x = w.transaction.endpoint in
    pick (eqb x 0) (pass_held Forgotten w l) (end_at w.transaction.filled x success (grouped x success complete w).effect l)
end_by Suspended success complete w l = l

abbrev pub ends : Bool → Bool → World → Ledger → Ledger
ends success complete w = end_by w.slot success complete w

-- ---- transaction_update, packet row n

-- extract_payload: a payload is held, in the place of one that was; "the 8 bytes of a SETUP's DATA0" are passed over
abbrev pub takes : Bool → ℕ → ℕ → List ℕ → World → Ledger → Ledger
takes high n pid p w l =
    pick (is_payload high w.transaction.style pid) (l ▷ pass_held Replaced w ▷ enter high n p Held)
    (l ▷ enter high n p (Passed Setup w.transaction.endpoint))

-- 01: "New ends the old transaction, Invalid overwrites it without ending it. Success and complete are set as there"
abbrev pub turn_by : Bool → Status → ℕ → ℕ → List ℕ → Bool → World → Ledger → Ledger
turn_by high New n pid p complete w l = l ▷ takes high n pid p w ▷ ends false false (w ▷ brought high pid p)
turn_by high Continue n pid p complete w l = l ▷ takes high n pid p w
turn_by high Retry n pid p complete w l = l ▷ takes high n pid p w ▷ ends true complete (w ▷ extracted high pid p ▷ transaction_append pid p)
turn_by high Done n pid p complete w l = l ▷ takes high n pid p w ▷ ends true complete (w ▷ extracted high pid p ▷ transaction_append pid p)
turn_by high Fail n pid p complete w l = l ▷ takes high n pid p w ▷ ends false complete (w ▷ extracted high pid p ▷ transaction_append pid p)
turn_by high Ambiguous n pid p complete w l = l ▷ takes high n pid p w
turn_by high Invalid n pid p complete w l = l ▷ pass_held Replaced w ▷ enter high n p (Passed Stray 0) ▷ ends false false (w ▷ transaction_start n pid p)

abbrev pub turn_from : Bool → ℕ → List ℕ → World → Ledger → Ledger
turn_from high n p w l =
    let t = state_at w.slot w.transaction in
    let j = transaction_status high t p in
    turn_by high j.status n j.pid p (completes t.style j.status) w l

-- ---- each call that is accepted, on the world before it

-- 01, answer 8: "the suspended transaction is dropped"; else a suspended one is resumed
unfoldable pub packet_turns : Bool → List ℕ → ℕ → World → Ledger → Ledger
packet_turns high p time w l =
    let v = w ▷ stamped time (reason_of p) ▷ with_event_state Idle ▷ append_bytes p ▷ push_packet w.bytes time in
    pick (is_dropped w.slot w.transaction) (l ▷ pass_held Forgotten w ▷ enter high w.packets p (Passed Dropped 0))
    (turn_from high w.packets p (resume_at w.slot w.packets v) l)

-- a keepalive suspends what is current, and forgets what was suspended
abbrev pub suspends : Slot → World → Ledger → Ledger
suspends Empty w l = l
suspends Current w l = l
suspends Suspended w l = l ▷ pass_held Forgotten w

-- 01: "All kinds but 0 end the current transaction with success and complete false", and so does finish; a detail has no payload
abbrev pub turns : Bool → Call → World → Ledger → Ledger
turns high (packet p time shelf) w l = packet_turns high p time (with_shelf shelf w) l
turns high (event kind code time) w l = pick (eqb kind LsKeepalive) (suspends w.slot w l) (ends false false w l)
turns high (detail address number direction kind max) w l = l
turns high finishing w l = ends false false w l
