-- Inner (cited by private contracts alone): the steps of a packet, decided from the world before it.
use Rattle.std.specs.Prelude.{Bool, true, false, ◌&&◌, not, List, ℕ, ◌+◌, eqb, ltb, length, Option, Some, None}
use Rattle.group.specs.declared.Effect.TheVariants.{NoEffect}
use Rattle.rows.specs.One.{one}
use Rattle.usb.specs.Pid.{SPLIT, MALFORMED}
use Rattle.usb.specs.Packet.{reason_of}
use Rattle.usb.specs.Fields.{token_of, split_of, setup_data_of}
use Rattle.details.specs.Details.{number_of, details_of, fresh}
use Rattle.details.specs.Kind.{Unknown}
use Rattle.details.specs.declared.Detail.{Detail}
use Rattle.endpoints.specs.declared.Endpoint.{Endpoint}
use Rattle.transaction.specs.Table.{pick}
use Rattle.transaction.specs.Payload.{start_pid, extract_payload}
use Rattle.transaction.specs.Status.{transaction_status}
use Rattle.transaction.specs.declared.Judged.{Judged}
use Rattle.transaction.specs.declared.Status.{Status}
use Rattle.transaction.specs.declared.Status.TheVariants.{New, Continue, Retry, Done, Fail, Ambiguous, Invalid}
use Rattle.transaction.specs.declared.Style.{Style}
use Rattle.transaction.specs.declared.Style.TheVariants.{Nothing, Simple, Split, Token}
use Rattle.transaction.specs.declared.Transaction.{Transaction}
use Rattle.rules.specs.World.{stamped, World, with_shelf, ◌▷◌, invalid_ep, with_slot, with_transaction, with_event_state, with_id, with_link, with_pid, with_token, new_transaction, more_transactions}
use Rattle.endpoints.specs.Table.{new_endpoint}
use Rattle.rules.specs.Endpoints.{device_for, address_for, found, detail_of}
use Rattle.rules.specs.Transactions.{state_at, completes, is_kept, shelf_with}
use Rattle.rules.specs.Decoder.{append_bytes, push_packet}
use Rattle.rules.specs.declared.EventState.TheVariants.{Idle}
use Rattle.rules.specs.declared.Slot.{Slot}
use Rattle.rules.specs.declared.Slot.TheVariants.{Empty, Current, Suspended}
use Rattle.update.specs.Update.{when, links, decide_early_start, decide_early_append, decide_resume}
use Rattle.update.specs.Entry.{entry_after, transaction_after, item_after}
use Rattle.update.specs.declared.Update.{Update}
use Rattle.update.specs.declared.Then.TheVariants.{Keep}
use Rattle.plan.specs.Step.{begun, ended, end_of}
use Rattle.plan.specs.declared.Begin.{Begin}
use Rattle.plan.specs.declared.End.{End}
use Rattle.plan.specs.declared.Middle.{Middle}
use Rattle.plan.specs.declared.Place.{Place}
use Rattle.plan.specs.declared.Plan.{Plan}

-- ---- the old transaction

abbrev pub resumes : Slot → Bool
resumes Empty = false
resumes Current = false
resumes Suspended = true

-- the slot once it is resumed
abbrev pub slot_then : Slot → Slot
slot_then Empty = Empty
slot_then Current = Current
slot_then Suspended = Current

-- its endpoint; the event endpoint, on which no transaction is, where there is none
abbrev pub old_endpoint : Slot → Transaction → ℕ
old_endpoint Empty t = 0
old_endpoint Current t = t.endpoint
old_endpoint Suspended t = t.endpoint

-- the transaction and the entry of its endpoint, once it is resumed
abbrev pub resumed : ℕ → Endpoint → Transaction → Transaction
resumed id e t = with_link e.transactions (with_id id t)

abbrev pub transaction_then : Slot → ℕ → Endpoint → Transaction → Transaction
transaction_then s id e t = when (resumes s) (resumed id e) t

abbrev pub entry_then : Slot → Endpoint → Endpoint
entry_then s e = when (resumes s) more_transactions e

-- ---- a step with no new endpoint

abbrev pub none : Update
none = links false Keep

abbrev pub going : Bool → Transaction → Update → Begin
going row t u =
    record { row = row; device = false; endpoint = false; types = false; owner = 0; place = 0; number = 0; kind = 0; transaction = t; update = u }

-- ---- the endpoint of a packet; x0 is that of the old transaction, and e0 its entry by then

abbrev pub entry_by : ℕ → Endpoint → ℕ → World → Endpoint
entry_by x0 e0 i w = pick (eqb i x0) e0 (w.endpoints i)

abbrev pub standing : ℕ → Endpoint → ℕ → World → Place
standing x0 e0 i w =
    record { x = i; new = false; device = false; place = (w.endpoints i).device; number = (w.endpoints i).address; detail = detail_of i w; entry = entry_by x0 e0 i w }

abbrev pub new_on : Option ℕ → ℕ → ℕ → World → Place
new_on (Some d) owner address w =
    record { x = w.count; new = true; device = false; place = d; number = address; detail = details_of (w.devices d) address; entry = new_endpoint d address }
new_on None owner address w =
    record { x = w.count; new = true; device = true; place = w.device_count; number = address; detail = details_of (fresh owner) address; entry = new_endpoint w.device_count address }

abbrev pub place_at : Option ℕ → ℕ → Endpoint → ℕ → List ℕ → World → Place
place_at (Some i) x0 e0 pid packet w = standing x0 e0 i w
place_at None x0 e0 pid packet w = new_on (device_for (token_of packet).address w) (token_of packet).address (address_for pid (token_of packet).number) w

unfoldable pub place_of : ℕ → Endpoint → ℕ → List ℕ → World → Place
place_of x0 e0 pid packet w = place_at (found pid packet w) x0 e0 pid packet w

-- ---- what a transaction that begins or goes on does to its endpoint, by its status and the endpoint's entry

abbrev pub start_by : Update → Transaction → Endpoint → Update
start_by u t e = pick u.start u (decide_early_append t e)

abbrev pub update_for : Status → ℕ → Transaction → Endpoint → Update
update_for New pid t e = start_by (decide_early_start pid e.phase false) t e
update_for Continue pid t e = decide_early_append t e
update_for Retry pid t e = none
update_for Done pid t e = none
update_for Fail pid t e = none
update_for Ambiguous pid t e = none
update_for Invalid pid t e = decide_early_start pid e.phase false

-- ---- the step, with the entry and the details of its endpoint, by which its end is decided (Middle)

-- transaction_start, of transaction row n: a malformed packet, a split, any other
abbrev pub type_by : ℕ → ℕ
type_by k = pick (ltb k Unknown) k Unknown

abbrev pub start_on : Status → Place → ℕ → ℕ → ℕ → ℕ → Middle
start_on s p kind owner pid n =
    let t = new_transaction (Simple pid) n pid p.x kind in
    record {
      begin = record { row = true; device = p.device; endpoint = p.new; types = false; owner = owner; place = p.place; number = p.number; kind = 0; transaction = t; update = update_for s pid t p.entry };
      entry = p.entry;
      detail = p.detail;
    }

abbrev pub start_split : List ℕ → ℕ → ℕ → Place → Middle
start_split packet pid n p =
    record {
      begin = going true (new_transaction (Split (split_of packet).sc (split_of packet).kind) n pid 0 (split_of packet).kind) none;
      entry = p.entry;
      detail = p.detail;
    }

abbrev pub start_plain : Status → Place → ℕ → List ℕ → ℕ → Middle
start_plain s p pid packet n = start_on s p (type_by p.detail.kind) (token_of packet).address pid n

unfoldable pub starting : Status → ℕ → Endpoint → ℕ → List ℕ → ℕ → World → Middle
starting s x0 e0 pid packet n w =
    pick (eqb pid MALFORMED)
    (start_on s (standing x0 e0 invalid_ep w) Unknown 0 pid n)
    (pick (eqb pid SPLIT)
    (start_split packet pid n (standing x0 e0 invalid_ep w))
    (start_plain s (place_of x0 e0 pid packet w) pid packet n))

-- an endpoint's details once a split's type is stored for it (details, with_type): an ordinary number whose type is not known takes it
abbrev pub typed_detail : ℕ → ℕ → Detail → Detail
typed_detail address k x =
    pick (not (eqb (number_of address) 0) && (ltb (number_of address) 16 && eqb x.kind Unknown)) (record { kind = k; given = x.given; max = x.max }) x

-- transaction_append: a split's token, or any other packet
abbrev pub with_token_on : Status → Place → ℕ → ℕ → ℕ → ℕ → Transaction → Middle
with_token_on s p sc kind owner pid b =
    let t = with_pid pid (with_token (Token sc kind pid) p.x b) in
    record {
      begin = record { row = false; device = p.device; endpoint = p.new; types = true; owner = owner; place = p.place; number = p.number; kind = kind; transaction = t; update = update_for s pid t p.entry };
      entry = p.entry;
      detail = typed_detail p.number kind p.detail;
    }

abbrev pub going_on : Status → ℕ → Endpoint → ℕ → Transaction → World → Middle
going_on s x0 e0 pid b w =
    let p = standing x0 e0 x0 w in
    record { begin = going false (with_pid pid b) (update_for s pid (with_pid pid b) p.entry); entry = p.entry; detail = p.detail }

abbrev pub appending_at : Style → Status → ℕ → Endpoint → ℕ → List ℕ → Transaction → World → Middle
appending_at Nothing s x0 e0 pid packet b w = going_on s x0 e0 pid b w
appending_at (Simple first) s x0 e0 pid packet b w = going_on s x0 e0 pid b w
appending_at (Split sc kind) s x0 e0 pid packet b w = with_token_on s (place_of x0 e0 pid packet w) sc kind (token_of packet).address pid b
appending_at (Token sc kind token) s x0 e0 pid packet b w = going_on s x0 e0 pid b w

unfoldable pub appending : Status → ℕ → Endpoint → ℕ → List ℕ → Transaction → World → Middle
appending s x0 e0 pid packet b w = appending_at b.style s x0 e0 pid packet b w

-- b is the old transaction with what the packet brought to it
abbrev pub middle_of : Status → ℕ → Endpoint → ℕ → List ℕ → ℕ → Transaction → World → Middle
middle_of New x0 e0 pid packet n b w = starting New x0 e0 pid packet n w
middle_of Continue x0 e0 pid packet n b w = appending Continue x0 e0 pid packet b w
middle_of Retry x0 e0 pid packet n b w = appending Retry x0 e0 pid packet b w
middle_of Done x0 e0 pid packet n b w = appending Done x0 e0 pid packet b w
middle_of Fail x0 e0 pid packet n b w = appending Fail x0 e0 pid packet b w
middle_of Ambiguous x0 e0 pid packet n b w = appending Ambiguous x0 e0 pid packet b w
middle_of Invalid x0 e0 pid packet n b w = starting Invalid x0 e0 pid packet n w

-- ---- its end

abbrev pub is_new : Status → Bool
is_new New = true
is_new Continue = false
is_new Retry = false
is_new Done = false
is_new Fail = false
is_new Ambiguous = false
is_new Invalid = false

-- whether the status ends the transaction, and whether with success
abbrev pub is_last : Status → Bool
is_last New = false
is_last Continue = false
is_last Retry = true
is_last Done = true
is_last Fail = true
is_last Ambiguous = false
is_last Invalid = true

abbrev pub succeeds : Status → Bool
succeeds New = false
succeeds Continue = false
succeeds Retry = true
succeeds Done = true
succeeds Fail = false
succeeds Ambiguous = false
succeeds Invalid = false

abbrev pub completes_by : Status → Style → Bool
completes_by New s = false
completes_by Continue s = false
completes_by Retry s = completes s Retry
completes_by Done s = completes s Done
completes_by Fail s = completes s Fail
completes_by Ambiguous s = false
completes_by Invalid s = false

abbrev pub slot_after : Status → Slot → Slot
slot_after New s = Current
slot_after Continue s = slot_then s
slot_after Retry s = Empty
slot_after Done s = Empty
slot_after Fail s = Empty
slot_after Ambiguous s = slot_then s
slot_after Invalid s = Empty

unfoldable pub close_of : Middle → ℕ → Bool → Bool → End
close_of m last success complete =
    let s = m.begin in
    let t = s.transaction in
    end_of t.endpoint (entry_after s.update (start_pid t.style) m.entry) (transaction_after s.update m.entry.transactions t) m.detail (item_after s.update t.endpoint last) success complete

-- ---- all of it

-- an end that is not taken: the entry stays, and nothing is done
abbrev pub resting : Endpoint → End
resting e = record { entry = e; update = none; effect = NoEffect }

abbrev pub end_if : Bool → End → Endpoint → End
end_if on s e = pick on s (resting e)

-- the entry of the old endpoint once the old transaction has ended
abbrev pub entry_ended : Bool → End → ℕ → Endpoint → Endpoint
entry_ended ends s pid e = pick ends (entry_after s.update pid s.entry) e

abbrev pub last_ended : Bool → End → ℕ → ℕ → ℕ
last_ended ends s x last = pick ends (item_after s.update x last) last

-- by the old transaction's endpoint, that one's entry and the transaction, resumed; j is the packet's status
unfoldable pub plan_by : Bool → Judged → ℕ → Endpoint → Transaction → List ℕ → World → Plan
plan_by high j x0 e t packet w =
    let s = j.status in
    let pid = j.pid in
    let b = extract_payload high t pid (length packet) (setup_data_of packet) in
    let end = end_of x0 e b (detail_of x0 w) w.last_item false false in
    let ends = is_new s && not (eqb x0 0) in
    let e0 = entry_ended ends end (start_pid b.style) e in
    let m = middle_of s x0 e0 pid packet (w.transactions + one (resumes w.slot)) b w in
    let closes = is_last s && not (eqb m.begin.transaction.endpoint 0) in
    record {
      resumes = resumes w.slot;
      resume = going true (with_id w.transactions w.transaction) decide_resume;
      ends = ends;
      old = x0;
      brought = b;
      end = end_if ends end e;
      begin = m.begin;
      closes = closes;
      close = end_if closes (close_of m (last_ended ends end x0 w.last_item) (succeeds s) (completes_by s t.style)) m.entry;
      slot = slot_after s w.slot;
      reason = j.reason;
    }

unfoldable pub plan_of : Bool → List ℕ → World → Plan
plan_of high packet w =
    let x0 = old_endpoint w.slot w.transaction in
    let e = w.endpoints x0 in
    let t = transaction_then w.slot w.transactions e w.transaction in
    plan_by high (transaction_status high (state_at (slot_then w.slot) t) packet) x0 (entry_then w.slot e) t packet w

-- ---- the payload that the packet brings to a read (rules, keep_payload): a transaction that goes on has no row of its own, and its last packet is this one

abbrev pub keeps : Bool → Plan → Bool
keeps high p = not p.begin.row && is_kept high p.brought p.end.entry p.begin.transaction.last

-- the world before the packet, with its payload on the shelf
abbrev pub kept : Bool → Plan → List ℕ → World → World
kept high p packet w = with_shelf (shelf_with (keeps high p) p.end.entry packet w.shelf) w

-- ---- done: the packet's rows, then each step

abbrev pub with_packet : List ℕ → ℕ → World → World
with_packet packet time w = w ▷ stamped time (reason_of packet) ▷ with_event_state Idle ▷ append_bytes packet ▷ push_packet w.bytes time

unfoldable pub played : Plan → List ℕ → ℕ → World → World
played p packet time w =
    with_packet packet time w
    ▷ when p.resumes (begun w.packets p.resume)
    ▷ when p.ends (λ v. ended p.old p.end (with_transaction p.brought v))
    ▷ begun w.packets p.begin
    ▷ when p.closes (ended p.begin.transaction.endpoint p.close)
    ▷ with_slot p.slot
