-- Every call on every world keeps 01's clause on the T link.
use mathlib.Core.Path.{◌≡◌, refl, sym, ap, ◌∙◌}
use mathlib.Core.Bool.{Bool, true, false, ◌||◌, ◌&&◌}
use mathlib.Core.List.{List, [], ◌∷◌}
use Prim.Native.Nat.{ℕ}
use native.Mathlib.Omega.{arith}
use lib.Dec.{eqb}
use lib.ListN.{length}
use Rattle.usb.specs.Pid.{IN, OUT, SPLIT, MALFORMED}
use Rattle.usb.specs.Fields.{setup_data_of}
use Rattle.usb.specs.Packet.{checked_of, reason_of}
use Rattle.std.specs.Prelude.{Result, Ok, Err}
use Rattle.usb.specs.declared.reason.Reason.{Reason}
use Rattle.transaction.specs.Table.{pick, Row as Rule, fits, only, ◌or◌, look}
use Rattle.transaction.specs.Payload.{extract_payload}
use Rattle.transaction.specs.Split.{split_rows}
use Rattle.transaction.specs.Status.{judged_of, transaction_status}
use Rattle.transaction.proofs.Laws.{extract-keeps}
use Rattle.transaction.specs.declared.Transaction.{Transaction}
use Rattle.transaction.specs.declared.Judged.{Judged}
use Rattle.transaction.specs.declared.Style.{Style}
use Rattle.transaction.specs.declared.Style.TheVariants.{Nothing as NoStyle, Simple, Split, Token}
use Rattle.transaction.specs.declared.Status.{Status}
use Rattle.transaction.specs.declared.Status.TheVariants.{New, Continue, Retry, Done, Fail, Ambiguous, Invalid}
use Rattle.details.specs.Details.{fresh}
use Rattle.details.specs.Kind.{Unknown}
use Rattle.endpoints.specs.declared.Endpoint.{Endpoint}
use Rattle.std.specs.Prelude.{Option, Some, None as Absent}
use Rattle.endpoints.specs.declared.Phase.{Phase}
use Rattle.endpoints.specs.declared.Phase.TheVariants.{None, Early, Active, Ended}
use Rattle.group.specs.Step.{is_active}
use Rattle.rules.specs.Rows.{Row, EventRow}
use Rattle.rules.specs.World.{with_shelf, stamped, World, phase, push, with_slot, with_transaction, with_event_state, with_keepalive, with_journal, more_transactions, more_groups, with_pid, new_transaction, last_stamped}
use Rattle.rules.specs.Endpoints.{device_for, packet_endpoint, endpoint_of, set_detail_on}
use Rattle.rules.specs.Groups.{close_phase, undecided, group_early_append, link}
use Rattle.rules.specs.Transactions.{transaction_end_at, transaction_end, append_token, transaction_append, push_transaction, begin, type_of, begin_on, begin_split, begin_plain, transaction_start, resume_at, state_at, completes, brought, extracted, update_at, update_from, is_dropped, transaction_update}
use Rattle.rules.specs.Events.{event_subgroup_start, event_add_group, Act, nothing, single, group, subgroup, keepalive, turn_of, event_act, event_update}
use Rattle.rules.specs.Decoder.{append_bytes, push_packet, handle_raw_packet, suspend_at, suspend, end_phase, end_all, handle_event, finish, handle_detail}
use Rattle.rules.specs.Decoder as Decoder
use Rattle.rules.specs.Demand.{Call, packet, event, detail, finishing, call}
use Rattle.rules.proofs.Reach.{Reach, next, begin as reached}
use Rattle.rules.specs.Linked.{excused, linked_at, LinkedIn, Linked}
use Rattle.rules.specs.declared.Slot.{Slot}
use Rattle.rules.specs.declared.Slot.TheVariants.{Empty, Current, Suspended}
use Rattle.rules.specs.declared.EventState.TheVariants.{Idle}
use Rattle.rules.proofs.Seen.{Seen, packet-seen, start_seen}

-- linked, whatever the slot
any-slot : (s : Slot) (t : Transaction) (f : ℕ → Endpoint) → linked_at t f ≡ true → LinkedIn s t f
any-slot Empty t f h = tt
any-slot Current t f h = h
any-slot Suspended t f h = h

or_true : (b : Bool) → (b || true) ≡ true
or_true true = refl
or_true false = refl

-- ---- group_early_append leaves it linked, whatever was before

undecided-excused : (p : Phase) (f : ℕ) → (is_active p && (IN or only OUT) f) ≡ true → excused p f ≡ true
undecided-excused None f h = refl
undecided-excused Early f h = h
undecided-excused Active f h = h
undecided-excused Ended f h = refl

append-links : (w : World) → linked_at (group_early_append w).transaction (group_early_append w).endpoints ≡ true
unfolding group_early_append
append-links w = by (eqb w.transaction.endpoint 0) (undecided (w.endpoints w.transaction.endpoint)) w.transaction.linked refl refl refl
  where
    x : ℕ
    x = w.transaction.endpoint

    a : Endpoint
    a = w.endpoints x

    by : (z u l : Bool) → eqb x 0 ≡ z → undecided a ≡ u → w.transaction.linked ≡ l → linked_at (pick (z || u) w (pick l w (link x w))).transaction (pick (z || u) w (pick l w (link x w))).endpoints ≡ true
    by true u l h k m = rw h
    by false true l h k m = rw (undecided-excused a.phase a.first k, or_true w.transaction.linked) (or_true (eqb x 0))
    by false false true h k m = rw m (or_true (eqb x 0))
    by false false false h k m = or_true (eqb x 0)

append-linked : (w : World) → Linked (group_early_append w)
append-linked w = any-slot (group_early_append w).slot (group_early_append w).transaction (group_early_append w).endpoints (append-links w)

-- ---- events: an endpoint that was excused is still

up : (z l x x' : Bool) → (x ≡ true → x' ≡ true) → (z || (l || x)) ≡ true → (z || (l || x')) ≡ true
up true l x x' f h = refl
up false true x x' f h = refl
up false false x x' f h = f h

grows : (s : Slot) (t : Transaction) (f g : ℕ → Endpoint) → ((y : ℕ) → excused (f y).phase (f y).first ≡ true → excused (g y).phase (g y).first ≡ true) → LinkedIn s t f → LinkedIn s t g
grows Empty t f g i h = tt
grows Current t f g i h = up (eqb t.endpoint 0) t.linked _ _ (i t.endpoint) h
grows Suspended t f g i h = up (eqb t.endpoint 0) t.linked _ _ (i t.endpoint) h

more-excused : (b : Bool) (a : Endpoint) → excused a.phase a.first ≡ true → excused (pick b (more_transactions a) a).phase (pick b (more_transactions a) a).first ≡ true
more-excused true a h = h
more-excused false a h = h

close-excused : (p : Phase) (f : ℕ) → excused p f ≡ true → excused (close_phase p) f ≡ true
close-excused None f h = refl
close-excused Early f h = h
close-excused Active f h = h
close-excused Ended f h = refl

end-excused : (p : Phase) (f : ℕ) → excused p f ≡ true → excused (end_phase p) f ≡ true
end-excused None f h = refl
end-excused Early f h = h
end-excused Active f h = refl
end-excused Ended f h = refl

started-excused : (b : Bool) (a : Endpoint) → excused a.phase a.first ≡ true → excused (close_phase (pick b (more_groups (pick b (more_transactions a) a)) (pick b (more_transactions a) a)).phase) (pick b (more_groups (pick b (more_transactions a) a)) (pick b (more_transactions a) a)).first ≡ true
started-excused true a h = close-excused a.phase a.first h
started-excused false a h = close-excused a.phase a.first h

-- ---- transaction_end, which may be called on any slot

end-links : (s : Slot) (b c : Bool) (w : World) → w.slot ≡ s → Linked w → Linked (transaction_end_at s b c w)
end-links Empty b c w q l = l
end-links Current b c w q l = tt
end-links Suspended b c w q l = l

subgroup-links : (n : ℕ) (w : World) → Linked w → Linked (event_subgroup_start n w)
subgroup-links n w l = grows v.slot v.transaction v.endpoints _ (λ y. more-excused (eqb y 0) (v.endpoints y)) (end-links w.slot false false w refl l)
  where
    v : World
    v = transaction_end false false w

group-links : (n : ℕ) (s : Bool) (w : World) → Linked w → Linked (event_add_group n s w)
group-links n s w l = grows v.slot v.transaction v.endpoints _ (λ y. started-excused (eqb y 0) (v.endpoints y)) (end-links w.slot false false w refl l)
  where
    v : World
    v = transaction_end false false w

act-links : (a : Act) (n : ℕ) (w : World) → Linked w → Linked (event_act a n w)
act-links nothing n w l = l
act-links single n w l = group-links n false w l
act-links group n w l = group-links n true w l
act-links subgroup n w l = subgroup-links n w l
act-links keepalive n w l = by w.keepalive
  where
    by : (b : Bool) → Linked (pick b (event_subgroup_start n w) (with_keepalive true (event_add_group n true w)))
    by true = subgroup-links n w l
    by false = group-links n true w l

suspend-links : (s : Slot) (w : World) → LinkedIn s w.transaction w.endpoints → LinkedIn (suspend_at s) w.transaction w.endpoints
suspend-links Empty w l = tt
suspend-links Current w l = l
suspend-links Suspended w l = tt

event-links : (kind code time : ℕ) (w : World) → Linked w → Linked (handle_event kind code time w)
unfolding handle_event event_update
event-links kind code time w l = by (eqb kind 0)
  where
    v : World
    v = transaction_end false false (stamped time 0 w)

    go : (u : World) → Linked u → Linked (event_update w.packets kind (push (EventRow w.packets code) (push_packet w.bytes time u)))
    go u h = act-links (turn_of u.event_state kind).act w.packets (push (EventRow w.packets code) (push_packet w.bytes time u)) h

    by : (b : Bool) → Linked (event_update w.packets kind (push (EventRow w.packets code) (push_packet w.bytes time (pick b (suspend (stamped time 0 w)) (end_all (stamped time 0 w))))))
    by true = go (suspend (stamped time 0 w)) (suspend-links w.slot w l)
    by false = go (end_all (stamped time 0 w)) (grows v.slot v.transaction v.endpoints _ (λ y. end-excused (v.endpoints y).phase (v.endpoints y).first) (end-links w.slot false false (stamped time 0 w) refl l))

-- ---- transaction_update: after resume no transaction is suspended

abbrev Awake : Slot → Type 0
Awake Empty = Unit {0}
Awake Current = Unit {0}
Awake Suspended = ⊥

resume_wakes : (s : Slot) (n : ℕ) (w : World) → w.slot ≡ s → Awake (resume_at s n w).slot
resume_wakes Empty n w q = rw q tt
resume_wakes Current n w q = rw q tt
resume_wakes Suspended n w q = tt

pub resume-links : (s : Slot) (n : ℕ) (w : World) → w.slot ≡ s → Linked w → Linked (resume_at s n w)
resume-links Empty n w q l = l
resume-links Current n w q l = l
resume-links Suspended n w q l = or_true (eqb w.transaction.endpoint 0)

awake-ends : (s : Slot) (b c : Bool) (w : World) → w.slot ≡ s → Awake s → Linked (transaction_end_at s b c w)
awake-ends Empty b c w q a = rw q tt
awake-ends Current b c w q a = tt
awake-ends Suspended b c w q a = absurd a

pub token-slot : (s : Style) (pid : ℕ) (p : List ℕ) (w : World) → (append_token s pid p w).slot ≡ w.slot
token-slot NoStyle pid p w = refl
token-slot (Simple first) pid p w = refl
token-slot (Split sc kind) pid p w = ap (λ (s : Seen). s.slot) (packet-seen pid p w)
token-slot (Token sc kind first) pid p w = refl

begun-slot : (x kind pid n : ℕ) (w : World) → (begin_on x kind pid n w).slot ≡ Current
begun-slot x kind pid n w = ap (λ (s : Seen). s.slot) (start_seen pid x (begin (new_transaction (Simple pid) n pid x kind) w))

started-slot : (n pid : ℕ) (p : List ℕ) (w : World) → (transaction_start n pid p w).slot ≡ Current
started-slot n pid p w = by (eqb pid MALFORMED) (eqb pid SPLIT)
  where
    v : World
    v = push_transaction n w

    x : ℕ
    x = endpoint_of pid p v

    by : (a b : Bool) → (pick a (begin_on 1 Unknown pid w.transactions v) (pick b (begin_split p pid w.transactions v) (begin_plain pid p w.transactions v))).slot ≡ Current
    by true b = begun-slot 1 Unknown pid w.transactions v
    by false true = refl
    by false false = begun-slot x (type_of x (packet_endpoint pid p v)) pid w.transactions (packet_endpoint pid p v)

appended-ends : (pid : ℕ) (p : List ℕ) (b c : Bool) (w : World) → Awake w.slot → Linked (transaction_end b c (transaction_append pid p w))
appended-ends pid p b c w a = awake-ends (transaction_append pid p w).slot b c (transaction_append pid p w) refl (rw (token-slot w.transaction.style pid p w) a)

-- ---- Ambiguous is never said of a split, so its packet is no token

abbrev ambiguous : Status → Bool
ambiguous New = false
ambiguous Continue = false
ambiguous Retry = false
ambiguous Done = false
ambiguous Fail = false
ambiguous Ambiguous = true
ambiguous Invalid = false

abbrev any_of : List (Rule Status) → Bool
any_of [] = false
any_of (r ∷ rs) = ambiguous r.answer || any_of rs

none_of : (rs : List (Rule Status)) (d : Status) (xs : List ℕ) → any_of rs ≡ false → ambiguous d ≡ false → ambiguous (look rs d xs) ≡ false
none_of [] d xs h k = k
none_of (r ∷ rs) d xs h k = by (fits r.tests xs && r.guard) (ambiguous r.answer) refl h (λ i. none_of rs d xs i k)
  where
    by : (b a : Bool) → ambiguous r.answer ≡ a → (a || any_of rs) ≡ false → (any_of rs ≡ false → ambiguous (look rs d xs) ≡ false) → ambiguous (pick b r.answer (look rs d xs)) ≡ false
    by true false q i rest = q
    by true true q i rest = let z : true ≡ false = i in cc
    by false false q i rest = rest i
    by false true q i rest = let z : true ≡ false = i in cc

split_sure : (high : Bool) (t : Transaction) (sc kind : ℕ) → t.style ≡ Split sc kind → (c : Result ℕ Reason) (n : ℕ) → ambiguous (judged_of high t c n).status ≡ false
split_sure high t sc kind q (Err reason) n = refl
split_sure high t sc kind q (Ok pid) n = rw q (none_of (split_rows n) Invalid (kind ∷ sc ∷ t.last ∷ pid ∷ []) refl refl)

sure : (high : Bool) (t : Transaction) (sc kind : ℕ) (p : List ℕ) → t.style ≡ Split sc kind → ambiguous (transaction_status high t p).status ≡ false
unfolding transaction_status
sure high t sc kind p q = split_sure high t sc kind q (checked_of p) (length p)

-- the transaction at hand is no split without its token
abbrev Fine : Slot → Transaction → Type 0
Fine Empty t = Unit {0}
Fine Current t = (sc kind : ℕ) → t.style ≡ Split sc kind → ⊥
Fine Suspended t = Unit {0}

fine : (high : Bool) (s : Slot) (t : Transaction) (p : List ℕ) → ambiguous (transaction_status high (state_at s t) p).status ≡ true → Fine s t
fine high Empty t p h = tt
fine high Current t p h = λ sc kind q. (let z = sure high t sc kind p q in let y : ◌≡◌ {A = ℕ} 0 1 = cc in omega arith)
fine high Suspended t p h = tt

pid-links : (s : Slot) (pid : ℕ) (t : Transaction) (f : ℕ → Endpoint) → LinkedIn s t f → LinkedIn s (with_pid pid t) f
pid-links Empty pid t f l = tt
pid-links Current pid t f l = l
pid-links Suspended pid t f l = l

token-links : (s : Style) (pid : ℕ) (p : List ℕ) (w : World) → ((sc kind : ℕ) → s ≡ Split sc kind → ⊥) → Linked w → Linked (with_transaction (with_pid pid (append_token s pid p w).transaction) (append_token s pid p w))
token-links NoStyle pid p w d l = pid-links w.slot pid w.transaction w.endpoints l
token-links (Simple first) pid p w d l = pid-links w.slot pid w.transaction w.endpoints l
token-links (Split sc kind) pid p w d l = absurd (d sc kind refl)
token-links (Token sc kind first) pid p w d l = pid-links w.slot pid w.transaction w.endpoints l

module _ (high : Bool) (pid : ℕ) (p : List ℕ) where
  pub extract-links : (s : Slot) (t : Transaction) (f : ℕ → Endpoint) → LinkedIn s t f → LinkedIn s (extract_payload high t pid (length p) (setup_data_of p)) f
  extract-links Empty t f l = tt
  extract-links Current t f l = let k = extract-keeps high t pid (length p) (setup_data_of p) in rw (k.endpoint, k.linked) l
  extract-links Suspended t f l = let k = extract-keeps high t pid (length p) (setup_data_of p) in rw (k.endpoint, k.linked) l

  ambiguous-links : (s : Slot) (w : World) → w.slot ≡ s → Awake s → Fine s w.transaction → Linked w → Linked (transaction_append pid p (extracted high pid p w))
  ambiguous-links Empty w q a d l = rw (token-slot (extracted high pid p w).transaction.style pid p (extracted high pid p w) ∙ q) tt
  ambiguous-links Current w q a d l =
      token-links v.transaction.style pid p v (λ sc kind z. d sc kind (sym (extract-keeps high w.transaction pid (length p) (setup_data_of p)).style ∙ z)) (extract-links w.slot w.transaction w.endpoints l)
    where
      v : World
      v = extracted high pid p w
  ambiguous-links Suspended w q a d l = absurd a

  update-links : (s : Status) (n : ℕ) (k : Bool) (w : World) → Awake w.slot → Linked w → (ambiguous s ≡ true → Fine w.slot w.transaction) → Linked (update_at high s n pid p k w)
  update-links New n k w a l d = append-linked (transaction_start n pid p (transaction_end false false (brought high pid p w)))
  update-links Continue n k w a l d = append-linked (transaction_append pid p (extracted high pid p w))
  update-links Retry n k w a l d = appended-ends pid p true k (extracted high pid p w) a
  update-links Done n k w a l d = appended-ends pid p true k (extracted high pid p w) a
  update-links Fail n k w a l d = appended-ends pid p false k (extracted high pid p w) a
  update-links Ambiguous n k w a l d = ambiguous-links w.slot w refl a (d refl) l
  update-links Invalid n k w a l d = awake-ends (transaction_start n pid p w).slot false false (transaction_start n pid p w) refl (rw (started-slot n pid p w) tt)

packet-links : (high : Bool) (p : List ℕ) (time : ℕ) (w : World) → Linked w → Linked (handle_raw_packet high p time w)
unfolding handle_raw_packet transaction_update
packet-links high p time w l = by (is_dropped w.slot w.transaction)
  where
    v : World
    v = push_packet w.bytes time (append_bytes p (with_event_state Idle (stamped time (reason_of p) w)))

    u : World
    u = resume_at w.slot w.packets v

    j : Judged
    j = transaction_status high (state_at u.slot u.transaction) p

    by : (b : Bool) → Linked (pick b (with_slot Empty v) (update_from high w.packets p u))
    by true = tt
    by false =
        update-links high j.pid p j.status w.packets (completes (state_at u.slot u.transaction).style j.status) u (resume_wakes w.slot w.packets v refl) (resume-links w.slot w.packets v refl l) (fine high u.slot u.transaction p)

-- ---- every call, on every world

detail-links : (g : Option ℕ) (number direction kind max : ℕ) (w : World) → Linked w → Linked (set_detail_on g number direction kind max w)
detail-links (Some i) number direction kind max w l = l
detail-links Absent number direction kind max w l = l

pub linked-after : (high : Bool) (k : Call) (w : World) → Linked w → Linked (call high k w)
unfolding handle_detail finish
linked-after high (packet p time shelf) w l = packet-links high p time (with_shelf shelf w) l
linked-after high (event kind code time) w l = event-links kind code time w l
linked-after high (detail a number r kind m) w l = detail-links (device_for a w) number r kind m w l
linked-after high finishing w l = end-links w.slot false false (last_stamped w) refl l

-- and so of every world that calls leave
fresh-linked : Linked Decoder.fresh
unfolding fresh
fresh-linked = tt

pub linked_always : {high : Bool} {js : List Row} {w : World} → Reach high js w → Linked w
linked_always reached = fresh-linked
linked_always {high} (next {js} {w} k r) = linked-after high k (with_journal [] w) (linked_always r)
