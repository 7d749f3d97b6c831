-- Every call keeps the payloads, added up, within the packet bytes (specs/Fit.antt, Paid).
use mathlib.Core.Path.{◌≡◌, refl, ap}
use mathlib.Core.Bool.{Bool, true, false, ◌&&◌, ◌||◌, and-true}
use mathlib.Core.List.{List}
use Prim.Native.Nat.{ℕ, ◌+◌, ◌-◌, ◌≤◌, ◌<◌, zero-le}
use native.Mathlib.Nat.{le_refl}
use native.Mathlib.Omega.{arith}
use borrow.Author.Tests.{eqb-false}
use lib.Dec.{eqb}
use lib.ListN.{length}
use Rattle.usb.specs.Packet.{reason_of}
use Rattle.usb.specs.Pid.{DATA0, SPLIT, MALFORMED}
use Rattle.usb.specs.Fields.{setup_data_of}
use Rattle.transaction.specs.Payload.{takes_setup, yields, with_setup, with_payload, extract_payload}
use Rattle.transaction.specs.Status.{transaction_status}
use Rattle.transaction.specs.Table.{pick}
use Rattle.transaction.specs.declared.Judged.{Judged}
use Rattle.transaction.specs.declared.Status.{Status}
use Rattle.transaction.specs.declared.Status.TheVariants.{New, Continue, Retry, Done, Fail, Ambiguous, Invalid}
use Rattle.transaction.specs.declared.Style.{Style}
use Rattle.transaction.specs.declared.Style.TheVariants.{Nothing as NoStyle, Simple, Split, Token}
use Rattle.transaction.specs.declared.Transaction.{Transaction}
use Rattle.details.specs.Kind.{Unknown}
use Rattle.std.specs.Prelude.{Option, Some, None}
use Rattle.rules.specs.Rows.{EventRow}
use Rattle.rules.specs.World.{with_shelf, World, stamped, event_ep, push, with_slot, with_transaction, with_event_state, with_keepalive, more_transactions, more_groups, with_id, with_pid, new_transaction, last_stamped}
use Rattle.endpoints.specs.Table.{new_endpoint}
use Rattle.rules.specs.Endpoints.{add_device, device_for, push_endpoint, add_endpoint_on, found, packet_endpoint_at, packet_endpoint, endpoint_of, set_detail_on}
use Rattle.rules.specs.Transactions.{brought, transaction_end, append_token, transaction_append, push_transaction, begin, type_of, begin_on, begin_split, begin_plain, transaction_start, resume_at, state_at, completes, extracted, update_at, update_from, is_dropped, transaction_update}
use Rattle.rules.specs.Events.{event_link, event_subgroup_start, event_add_group, Act, nothing, single, group, subgroup, keepalive, turn_of, event_act, event_update}
use Rattle.rules.specs.Decoder.{append_bytes, push_packet, handle_raw_packet, suspend_at, suspend, end_all, handle_event, finish, handle_detail}
use Rattle.rules.specs.Demand.{Call, packet, event, detail, finishing, call}
use Rattle.rules.specs.Tokened.{TokenedIn, Tokened}
use Rattle.rules.specs.declared.Slot.{Slot}
use Rattle.rules.specs.declared.Slot.TheVariants.{Empty, Current, Suspended}
use Rattle.rules.specs.declared.EventState.TheVariants.{Idle}
use Rattle.rules.proofs.Seen.{Seen, packet-seen, extract-seen}
use Rattle.rules.proofs.Tokened.{carried, resumes}
use Rattle.record.specs.Formed.{holds}
use Rattle.sound.specs.Fit.{in_hand, brings, Paid}
use Rattle.sound.proofs.PaysGroups.{purse, Spare, Less, level, then, spared, paid_less, changes, link_spares, start_spares, append_spares, end_pays}

-- ---- a new endpoint has nothing in hand

-- with k more each endpoint has no more in hand than the packet bytes
abbrev Owes : ℕ → World → Type 0
Owes k w = (i : ℕ) → i < w.count → in_hand (w.endpoints i) + k ≤ w.bytes

push_owes : (k d address : ℕ) (w : World) → k ≤ w.bytes → Owes k w → Owes k (push_endpoint d address w)
push_owes k d address w few o i h = by (eqb i w.count) refl
  where
    by : (b : Bool) → eqb i w.count ≡ b → in_hand (pick b (new_endpoint d address) (w.endpoints i)) + k ≤ w.bytes
    by true q = omega arith
    by false q = o i (omega (arith, eqb-false i w.count q))

place_owes : (k pid : ℕ) (p : List ℕ) (w : World) → k ≤ w.bytes → Owes k w → Owes k (packet_endpoint pid p w)
place_owes k pid p w few o = by (found pid p w)
  where
    new : (g : Option ℕ) (d address : ℕ) → Owes k (add_endpoint_on g d address w)
    new (Some i) d address = push_owes k i address w few o
    new None d address = push_owes k w.device_count address (add_device d w) few o

    by : (g : Option ℕ) → Owes k (packet_endpoint_at g pid p w)
    by (Some i) = o
    by None = new (device_for _ w) _ _

-- ---- transaction_start: a new transaction is not filled

on_pays : (x kind pid n : ℕ) (w : World) → Owes 0 w → Paid (begin_on x kind pid n w)
on_pays x kind pid n w o = paid_less (start_spares pid x (begin (new_transaction (Simple pid) n pid x kind) w)) o

start_pays : (n pid : ℕ) (p : List ℕ) (w : World) → Owes 0 w → Paid (transaction_start n pid p w)
start_pays n pid p w o = by (eqb pid MALFORMED) (eqb pid SPLIT)
  where
    v : World
    v = push_transaction n w

    x : ℕ
    x = endpoint_of pid p v

    by : (a b : Bool) → Paid (pick a (begin_on 1 Unknown pid w.transactions v) (pick b (begin_split p pid w.transactions v) (begin_plain pid p w.transactions v)))
    by true b = on_pays 1 Unknown pid w.transactions v o
    by false true = o
    by false false = on_pays x (type_of x (packet_endpoint pid p v)) pid w.transactions (packet_endpoint pid p v) (place_owes 0 pid p v zero-le o)

-- ---- transaction_append: a split without its token brings its payload to every endpoint already

abbrev whole : Slot → Transaction → ℕ
whole s t = pick (holds s && t.filled) t.payload 0

brings_le : (s : Slot) (t : Transaction) (i : ℕ) → brings s t i ≤ whole s t
brings_le s t i = by (holds s) t.filled (eqb t.endpoint 0 || eqb t.endpoint i) t.payload
  where
    by : (a b c : Bool) (n : ℕ) → pick (a && (b && c)) n 0 ≤ pick (a && b) n 0
    by true true true n = le_refl n
    by true true false n = zero-le
    by true false c n = zero-le
    by false b c n = zero-le

split-brings : (s : Slot) (t : Transaction) (sc kind i : ℕ) → TokenedIn s (Split sc kind) t.endpoint → brings s t i ≡ whole s t
split-brings Empty t sc kind i h = refl
split-brings Current t sc kind i h = rw (h, and-true t.filled)
split-brings Suspended t sc kind i h = rw (h, and-true t.filled)

token_pays : (s : Style) (pid : ℕ) (p : List ℕ) (w : World) → 0 < w.count → TokenedIn w.slot s w.transaction.endpoint → Paid w
    → Paid (with_transaction (with_pid pid (append_token s pid p w).transaction) (append_token s pid p w))
token_pays NoStyle pid p w l h paid = paid
token_pays (Simple first) pid p w l h paid = paid
token_pays (Split sc kind) pid p w l h paid = λ i g. (omega (arith, same i, brings_le w.slot t i, placed i g))
  where
    t : Transaction
    t = (append_token (Split sc kind) pid p w).transaction

    k : ℕ
    k = whole w.slot w.transaction

    owed : Owes k w
    owed i g = omega (arith, split-brings w.slot w.transaction sc kind i h, paid i g)

    placed : Owes k (packet_endpoint pid p w)
    placed = place_owes k pid p w (omega (arith, owed 0 l)) owed

    same : (i : ℕ) → brings (packet_endpoint pid p w).slot t i ≡ brings w.slot t i
    same i = ap (λ (s : Seen). brings s.slot t i) (packet-seen pid p w)
token_pays (Token sc kind first) pid p w l h paid = paid

append_pays : (pid : ℕ) (p : List ℕ) (w : World) → 0 < w.count → Tokened w → Paid w → Paid (transaction_append pid p w)
append_pays pid p w l h paid = token_pays w.transaction.style pid p w l h paid

-- ---- transaction_update: a packet's bytes are to spare until its payload is taken

module _ (high : Bool) (pid : ℕ) (p : List ℕ) where
  extract_le : (s : Slot) (t : Transaction) (i : ℕ) → brings s (extract_payload high t pid (length p) (setup_data_of p)) i ≤ brings s t i + length p
  unfolding extract_payload
  extract_le s t i = by (eqb pid DATA0 && takes_setup t.style) (yields high pid)
    where
      within : (b : Bool) → pick b (length p - 3) 0 ≤ length p
      within true = omega arith
      within false = zero-le

      by : (a b : Bool) → brings s (pick a (with_setup t (setup_data_of p)) (pick b (with_payload t (length p - 3)) t)) i ≤ brings s t i + length p
      by true b = omega arith
      by false true = omega (arith, within (holds s && (eqb t.endpoint 0 || eqb t.endpoint i)))
      by false false = omega arith

  extract_pays : (w : World) → Spare (length p) (purse w) → Paid (extracted high pid p w)
  extract_pays w s i h = omega (arith, extract_le w.slot w.transaction i, s i h)

  update_pays : (s : Status) (n : ℕ) (k : Bool) (w : World) → 0 < w.count → Tokened w → Spare (length p) (purse w) → Paid (update_at high s n pid p k w)
  update_pays s n k w l h spare = by s
    where
      v : World
      v = extracted high pid p w

      went : Paid (transaction_append pid p v)
      went = append_pays pid p v l (carried (extract-seen high pid p w) h) (extract_pays w spare)

      by : (s : Status) → Paid (update_at high s n pid p k w)
      by New =
          let u = transaction_end false false (brought high pid p w) in
          let e = end_pays false false (brought high pid p w) (extract_pays w spare) in
          paid_less (append_spares (transaction_start n pid p u)) (start_pays n pid p u (λ i g. (omega (arith, e i g))))
      by Continue = paid_less (append_spares (transaction_append pid p v)) went
      by Retry = end_pays true k (transaction_append pid p v) went
      by Done = end_pays true k (transaction_append pid p v) went
      by Fail = end_pays false k (transaction_append pid p v) went
      by Ambiguous = went
      by Invalid = end_pays false false (transaction_start n pid p w) (start_pays n pid p w (λ i g. (omega (arith, spare i g))))

resume_less : (s : Slot) (n : ℕ) (w : World) → w.slot ≡ s → Less (purse w) (purse (resume_at s n w))
resume_less Empty n w q = level
resume_less Current n w q = level
resume_less Suspended n w q = then begun (link_spares w.transaction.endpoint v)
  where
    v : World
    v = begin (with_id w.transactions w.transaction) (push_transaction n w)

    begun : Less (purse w) (purse v)
    begun = record { count = refl; bytes = refl; hand = λ i. le_refl _; brought = λ i. rw q (le_refl _) }

packet_pays : (high : Bool) (p : List ℕ) (time : ℕ) (w : World) → 0 < w.count → Tokened w → Paid w → Paid (handle_raw_packet high p time w)
unfolding handle_raw_packet transaction_update
packet_pays high p time w l h paid = by (is_dropped w.slot w.transaction)
  where
    v : World
    v = push_packet w.bytes time (append_bytes p (with_event_state Idle (stamped time (reason_of p) w)))

    u : World
    u = resume_at w.slot w.packets v

    less : Less (purse v) (purse u)
    less = resume_less w.slot w.packets v refl

    spare : Spare (length p) (purse v)
    spare i g = omega (arith, paid i g)

    j : Judged
    j = transaction_status high (state_at u.slot u.transaction) p

    by : (b : Bool) → Paid (pick b (with_slot Empty v) (update_from high w.packets p u))
    by true = λ i g. (omega (arith, paid i g))
    by false =
        update_pays high j.pid p j.status w.packets (completes (state_at u.slot u.transaction).style j.status) u (omega (arith, less.count)) (resumes w.slot w.packets v refl h) (spared (length p) less spare)

-- ---- events

event-link : (w : World) → Less (purse w) (purse (event_link w))
event-link w = changes event_ep more_transactions (λ a. le_refl (in_hand a)) w

subgroup_pays : (n : ℕ) (w : World) → Paid w → Paid (event_subgroup_start n w)
subgroup_pays n w p = paid_less (event-link (push_transaction n (transaction_end false false w))) (end_pays false false w p)

group_pays : (n : ℕ) (start : Bool) (w : World) → Paid w → Paid (event_add_group n start w)
group_pays n start w p = paid_less (changes event_ep more_groups (λ a. le_refl (in_hand a)) (event_subgroup_start n w)) (subgroup_pays n w p)

act_pays : (a : Act) (n : ℕ) (w : World) → Paid w → Paid (event_act a n w)
act_pays nothing n w p = p
act_pays single n w p = group_pays n false w p
act_pays group n w p = group_pays n true w p
act_pays subgroup n w p = subgroup_pays n w p
act_pays keepalive n w p = by w.keepalive
  where
    by : (b : Bool) → Paid (pick b (event_subgroup_start n w) (with_keepalive true (event_add_group n true w)))
    by true = subgroup_pays n w p
    by false = group_pays n true w p

suspend_le : (s : Slot) (t : Transaction) (i : ℕ) → brings (suspend_at s) t i ≤ brings s t i
suspend_le Empty t i = zero-le
suspend_le Current t i = le_refl (brings Current t i)
suspend_le Suspended t i = zero-le

event_pays : (kind code time : ℕ) (w : World) → Paid w → Paid (handle_event kind code time w)
unfolding handle_event event_update
event_pays kind code time w p = by (eqb kind 0)
  where
    go : (u : World) → Paid u → Paid (event_update w.packets kind (push (EventRow w.packets code) (push_packet w.bytes time u)))
    go u h = act_pays (turn_of u.event_state kind).act w.packets (push (EventRow w.packets code) (push_packet w.bytes time u)) h

    by : (b : Bool) → Paid (event_update w.packets kind (push (EventRow w.packets code) (push_packet w.bytes time (pick b (suspend (stamped time 0 w)) (end_all (stamped time 0 w))))))
    by true = go (suspend (stamped time 0 w)) (λ i h. (omega (arith, suspend_le w.slot w.transaction i, p i h)))
    by false = go (end_all (stamped time 0 w)) (end_pays false false (stamped time 0 w) p)

-- ---- every call

detail_pays : (g : Option ℕ) (number direction kind max : ℕ) (w : World) → Paid w → Paid (set_detail_on g number direction kind max w)
detail_pays (Some d) number direction kind max w p = p
detail_pays None number direction kind max w p = p

-- on a world with an endpoint, as every decoder has three
pub paid-after : (high : Bool) (k : Call) (w : World) → 0 < w.count → Tokened w → Paid w → Paid (call high k w)
unfolding handle_detail finish
paid-after high (packet p time shelf) w l h paid = packet_pays high p time (with_shelf shelf w) l h paid
paid-after high (event kind code time) w l h paid = event_pays kind code time w paid
paid-after high (detail a number r kind m) w l h paid = detail_pays (device_for a w) number r kind m w paid
paid-after high finishing w l h paid = end_pays false false (last_stamped w) paid
