-- Every call keeps the account, and gives each data packet one line.
use mathlib.Core.Bool.{Bool, true, false, true≢false, ◌&&◌, ◌||◌, not}
use mathlib.Core.List.{List, [], ◌∷◌, ◌++◌, append-nil}
use mathlib.Core.Path.{◌≡◌, refl, sym, ap, subst, ◌∙◌}
use Prim.Native.Nat.{ℕ, suc, pred, ◌-◌, ◌<◌}
use native.Mathlib.Omega.{arith}
use borrow.Author.Tests.{eqb-true}
use lib.Dec.{eqb}
use lib.ListN.{length}
use Rattle.usb.specs.Fields.{token_of, setup_data_of}
use Rattle.usb.specs.Packet.{checked_of, reason_of}
use Rattle.usb.specs.Pid.{DATA0, DATA1, DATA2, MDATA, SPLIT, MALFORMED}
use Rattle.std.specs.Prelude.{Result, Ok, Err}
use Rattle.usb.specs.declared.reason.Reason.{Reason}
use Rattle.transaction.specs.Payload.{takes_setup, yields, with_setup, with_payload, extract_payload}
use Rattle.transaction.proofs.HighLaws.{yields-any}
use Rattle.transaction.specs.Simple.{start_status}
use Rattle.transaction.specs.Status.{judged_of, transaction_status}
use Rattle.transaction.specs.Table.{pick, only, ◌or◌}
use Rattle.transaction.specs.declared.Judged.{Judged}
use Rattle.transaction.specs.declared.Status.{Status}
use Rattle.transaction.specs.declared.Status.TheVariants.{New, Continue, Retry, Done, Fail, Ambiguous, Invalid}
use Rattle.transaction.specs.declared.Style.{Style}
use Rattle.transaction.specs.declared.Style.TheVariants.{Nothing as NoStyle, Simple, Split, Token}
use Rattle.transaction.specs.declared.Transaction.{Transaction}
use Rattle.transaction.proofs.Laws.{extract-keeps}
use Rattle.details.specs.Kind.{Unknown}
use Rattle.group.specs.declared.Effect.{Effect}
use Rattle.std.specs.Prelude.{Option, Some, None}
use Rattle.rules.specs.Rows.{Row, EventRow}
use Rattle.rules.specs.World.{World, event_ep, push, stamped, with_shelf, with_slot, with_transaction, with_event_state, with_keepalive, with_context, more_transactions, more_groups, with_id, new_transaction, last_stamped}
use Rattle.rules.specs.Endpoints.{device_for, address_for, add_endpoint_on, found, packet_endpoint_at, packet_endpoint, number_at, endpoint_of, set_detail_on}
use Rattle.rules.specs.Groups.{grouped, add_group_entry, push_group}
use Rattle.rules.specs.Transactions.{transaction_end_at, transaction_end, append_token, transaction_append, push_transaction, begin, type_of, begin_on, begin_split, begin_plain, transaction_start, resume_at, state_at, completes, is_payload, brought, extracted, update_at, update_from, is_dropped, transaction_update}
use Rattle.rules.specs.Events.{event_link, event_subgroup_start, event_add_group, Act, nothing, single, group, subgroup, keepalive, turn_of, event_act, event_update}
use Rattle.rules.specs.Decoder.{append_bytes, push_packet, handle_raw_packet, suspend_at, suspend, end_all, handle_event, finish, handle_detail}
use Rattle.rules.specs.Demand.{Call, packet, event, detail, finishing, call}
use Rattle.rules.specs.Tokened.{Stands}
use Rattle.rules.specs.declared.Slot.{Slot}
use Rattle.rules.specs.declared.Stamp.{Stamp}
use Rattle.rules.specs.declared.Slot.TheVariants.{Empty, Current, Suspended}
use Rattle.rules.specs.declared.EventState.TheVariants.{Idle}
use Rattle.rules.proofs.Moves.{Spot, found-spot}
use Rattle.rules.proofs.Seen.{packet-seen}
use Rattle.rules.proofs.Stands.{resume_stands}
use Rattle.plan.proofs.Frame.{Rest}
use Rattle.ledger.specs.Ledger.{Why, Setup, Stray, Replaced, Forgotten, Dropped, Failed, Unused, Waited, Fate, Held, Passed, Ledger, is_held, is_waiting, is_counted, lengths_of, sum, running, data_in, is_data, enter, turn, pass_held, used_at, end_at, end_by, ends, takes, turn_by, turn_from, packet_turns, suspends, turns}
use Rattle.ledger.proofs.Account.{held_by, View, view, Account, entered, enters, InsideAt, Inside}
use Rattle.ledger.proofs.Ends.{bare, pass_account, end_account}
use Rattle.ledger.proofs.Views.{change-seen, link-seen, item-seen, start_seen, append-seen, active-seen, place-seen, start-rest}

-- ---- a line more

module _ (n : ℕ) (p : List ℕ) where
  -- of a payload that is settled at once, and not counted
  module _ (f : Fate) (unheld : is_held f ≡ false) (unwaited : (e : ℕ) → is_waiting e f ≡ false) (uncounted : (e : ℕ) → is_counted e f ≡ false) {v : View} {l : Ledger} (a : Account v l) where
    none_more : (these : Fate → Bool) (m : ℕ) → these f ≡ false → lengths_of these l ++ pick (these f) (m ∷ []) [] ≡ lengths_of these l
    none_more these m q = ap (λ (b : Bool). lengths_of these l ++ pick b (m ∷ []) []) q ∙ append-nil (lengths_of these l)

    passed-line : (m : ℕ) → Account v (record { packet = n; length = m; fate = f } ∷ l)
    passed-line m =
        record {
          held = none_more is_held m unheld ∙ a.held;
          waiting = λ e. none_more (is_waiting e) m (unwaited e) ∙ a.waiting e;
          total = λ e. a.total e ∙ ap sum (sym (none_more (is_counted e) m (uncounted e)));
          rows = λ e. a.rows e ∙ ap (running 0) (sym (none_more (is_counted e) m (uncounted e)));
          ordered = λ e. (λ q. absurd (true≢false (sym q ∙ uncounted e)), a.ordered e);
        }

    passed_account : (high : Bool) → Account v (enter high n p f l)
    passed_account high = by (is_data high p)
      where
        by : (b : Bool) → Account v (pick b (record { packet = n; length = length p - 3; fate = f } ∷ l) l)
        by true = passed-line (length p - 3)
        by false = a

  held-line : (m : ℕ) {v : View} {l : Ledger} → v.held ≡ [] → Account v l → Account (record { held = m ∷ []; entry = v.entry; rows = v.rows }) (record { packet = n; length = m; fate = Held } ∷ l)
  held-line m {v} {l} z a =
      record {
        held = ap (λ (h : List ℕ). h ++ (m ∷ [])) (a.held ∙ z);
        waiting = λ e. append-nil (lengths_of (is_waiting e) l) ∙ a.waiting e;
        total = λ e. a.total e ∙ ap sum (sym (append-nil (lengths_of (is_counted e) l)));
        rows = λ e. a.rows e ∙ ap (running 0) (sym (append-nil (lengths_of (is_counted e) l)));
        ordered = λ e. (λ q. absurd (true≢false (sym q)), a.ordered e);
      }

-- ---- extract_payload

module _ (high : Bool) (js : List Row) (n pid : ℕ) (p : List ℕ) (w : World) (l : Ledger) (same : is_data high p ≡ yields high pid) (ready : is_data high p ≡ true → w.slot ≡ Current) (a : Account (view js w) l) where
  -- the transaction's payload is the packet's, where it is no setup data; these are settled at once
  brought_as : (f : Fate) → is_held f ≡ false → ((e : ℕ) → is_waiting e f ≡ false) → ((e : ℕ) → is_counted e f ≡ false)
      → Account (view js (brought high pid p w)) (pick (is_payload high w.transaction.style pid) (enter high n p Held (pass_held Replaced w l)) (enter high n p f l))
  unfolding extract_payload
  brought_as f unheld unwaited uncounted = by (eqb pid DATA0 && takes_setup w.transaction.style) (yields high pid) same
    where
      by : (s b : Bool) → is_data high p ≡ b
          → Account (view js (with_transaction (pick s (with_setup w.transaction (setup_data_of p)) (pick b (with_payload w.transaction (length p - 3)) w.transaction)) w))
          (pick (b && not s) (enter high n p Held (pass_held Replaced w l)) (enter high n p f l))
      by true true q = passed_account n p f unheld unwaited uncounted a high
      by true false q = passed_account n p f unheld unwaited uncounted a high
      by false true q = rw (q, ready q) (held-line n p (length p - 3) refl (pass_account Replaced w.transaction.endpoint a))
      by false false q = passed_account n p f unheld unwaited uncounted a high

  brought_account : Account (view js (brought high pid p w)) (takes high n pid p w l)
  brought_account = brought_as _ refl (λ e. refl) (λ e. refl)

-- ---- transaction_append

module _ (js : List Row) (pid : ℕ) (p : List ℕ) where
  token-seen : (s : Style) (w : World) → view js (append_token s pid p w) ≡ view js w
  token-seen NoStyle w = refl
  token-seen (Simple first) w = refl
  token-seen (Split sc kind) w =
      let k = packet-seen pid p w in
      let v = place-seen js pid p w in
      λ i. record { held = held_by (k i).slot w.transaction.filled w.transaction.payload; entry = (v i).entry; rows = (v i).rows }
  token-seen (Token sc kind first) w = refl

  appended-seen : (w : World) → view js (transaction_append pid p w) ≡ view js w
  appended-seen w = token-seen w.transaction.style w

-- the endpoint that packet_endpoint finds or adds is there
added-count : (g : Option ℕ) (d a : ℕ) (w : World) → (add_endpoint_on g d a w).count ≡ suc w.count
added-count (Some i) d a w = refl
added-count None d a w = refl

there : (pid : ℕ) (p : List ℕ) (w : World) → Stands w → endpoint_of pid p w < (packet_endpoint pid p w).count
there pid p w s = by (found pid p w) (found-spot pid p w s.0 s.1)
  where
    by : (g : Option ℕ) → Spot g w.count → number_at g w < (packet_endpoint_at g pid p w).count
    by (Some i) h = h.0
    by None h = omega (arith, added-count (device_for (token_of p).address w) (token_of p).address (address_for pid (token_of p).number) w)

inside : (s : Slot) {x count : ℕ} → x < count → InsideAt s x count
inside Empty h = tt
inside Current h = h
inside Suspended h = h

module _ (high : Bool) (pid : ℕ) (p : List ℕ) where
  token_inside : (s : Style) (w : World) → Stands w → Inside w → Inside (append_token s pid p w)
  token_inside NoStyle w s h = h
  token_inside (Simple first) w s h = h
  token_inside (Split sc kind) w s h = inside (packet_endpoint pid p w).slot (there pid p w s)
  token_inside (Token sc kind first) w s h = h

  extract_inside : (w : World) → Inside w → Inside (extracted high pid p w)
  extract_inside w h = let k = extract-keeps high w.transaction pid (length p) (setup_data_of p) in rw k.endpoint h

  append_inside : (w : World) → Stands w → Inside w → Inside (transaction_append pid p (extracted high pid p w))
  append_inside w s h = token_inside (extracted high pid p w).transaction.style (extracted high pid p w) s (extract_inside w h)

-- ---- transaction_start: the new transaction holds nothing

module _ (js : List Row) (n pid : ℕ) (p : List ℕ) (w : World) where
  abbrev pushed : World
  pushed = push_transaction n w

  abbrev where_to : ℕ
  where_to = endpoint_of pid p pushed

  started-seen : view js (transaction_start n pid p w) ≡ bare (view js w)
  started-seen = by (eqb pid MALFORMED) (eqb pid SPLIT)
    where
      on : (x kind : ℕ) (v : World) → view js (begin_on x kind pid w.transactions v) ≡ bare (view js v)
      on x kind v = start_seen js pid x (begin (new_transaction (Simple pid) w.transactions pid x kind) v)

      by : (a b : Bool) → view js (pick a (begin_on 1 Unknown pid w.transactions pushed) (pick b (begin_split p pid w.transactions pushed) (begin_plain pid p w.transactions pushed))) ≡ bare (view js w)
      by true b = on 1 Unknown pushed
      by false true = refl
      by false false = on where_to (type_of where_to (packet_endpoint pid p pushed)) (packet_endpoint pid p pushed) ∙ ap bare (place-seen js pid p pushed)

  started_inside : Stands w → Inside (transaction_start n pid p w)
  started_inside s = by (eqb pid MALFORMED) (eqb pid SPLIT)
    where
      on : (x kind : ℕ) (v : World) → x < v.count → Inside (begin_on x kind pid w.transactions v)
      on x kind v h = subst (λ (r : Rest). InsideAt r.slot r.endpoint r.count) (sym (start-rest pid x (begin (new_transaction (Simple pid) w.transactions pid x kind) v))) h

      by : (a b : Bool) → Inside (pick a (begin_on 1 Unknown pid w.transactions pushed) (pick b (begin_split p pid w.transactions pushed) (begin_plain pid p w.transactions pushed)))
      by true b = on 1 Unknown pushed (omega (arith, s.0))
      by false true = omega (arith, s.0)
      by false false = on where_to (type_of where_to (packet_endpoint pid p pushed)) (packet_endpoint pid p pushed) (there pid p pushed s)

-- ---- transaction_update

seen_account : {v v' : View} {l : Ledger} → v' ≡ v → Account v l → Account v' l
seen_account {l = l} q a = subst (λ (z : View). Account z l) (sym q) a

-- a suspended transaction was resumed
abbrev Resumed : Slot → Type 0
Resumed Empty = Unit {0}
Resumed Current = Unit {0}
Resumed Suspended = ⊥

-- behind an end nothing is held
ended-none : (js : List Row) (success complete : Bool) (w : World) → Resumed w.slot → (view js (transaction_end success complete w)).held ≡ []
ended-none js success complete w = at w.slot refl
  where
    at : (s : Slot) → w.slot ≡ s → Resumed s → (view js (transaction_end_at s success complete w)).held ≡ []
    at Empty q r = rw q
    at Current q r = refl
    at Suspended q r = absurd r

bare_account : {v : View} {l : Ledger} → v.held ≡ [] → Account v l → Account (bare v) l
bare_account z a = record { held = a.held ∙ z; waiting = a.waiting; total = a.total; rows = a.rows; ordered = a.ordered }

abbrev is_invalid : Status → Bool
is_invalid New = false
is_invalid Continue = false
is_invalid Retry = false
is_invalid Done = false
is_invalid Fail = false
is_invalid Ambiguous = false
is_invalid Invalid = true

module _ (high : Bool) (js : List Row) (n pid : ℕ) (p : List ℕ) (complete : Bool) (w : World) (l : Ledger) (same : is_data high p ≡ yields high pid) (s : Stands w) (i : Inside w) (a : Account (view js w) l) (resumed : Resumed w.slot) where
  went : (is_data high p ≡ true → w.slot ≡ Current) → Account (view js (transaction_append pid p (extracted high pid p w))) (takes high n pid p w l)
  went r = seen_account (appended-seen js pid p (extracted high pid p w)) (brought_account high js n pid p w l same r a)

  closed : (success : Bool) → (is_data high p ≡ true → w.slot ≡ Current) → Account (view js (transaction_end success complete (transaction_append pid p (extracted high pid p w)))) (ends success complete (transaction_append pid p (extracted high pid p w)) (takes high n pid p w l))
  closed success r = end_account js success complete (transaction_append pid p (extracted high pid p w)) (takes high n pid p w l) (append_inside high pid p w s i) (went r)

  -- a data packet is Invalid, or it comes to a transaction
  update_account : (z : Status) → (is_data high p ≡ true → is_invalid z ≡ false → w.slot ≡ Current) → Account (view js (update_at high z n pid p complete w)) (turn_by high z n pid p complete w l)
  update_account New r =
      let v = transaction_end false false (brought high pid p w) in
      let b = end_account js false false (brought high pid p w) (takes high n pid p w l) (extract_inside high pid p w i) (brought_account high js n pid p w l same (λ q. r q refl) a) in
      seen_account (append-seen js (transaction_start n pid p v) ∙ started-seen js n pid p v) (bare_account (ended-none js false false (brought high pid p w) resumed) b)
  update_account Continue r = seen_account (append-seen js (transaction_append pid p (extracted high pid p w))) (went (λ q. r q refl))
  update_account Retry r = closed true (λ q. r q refl)
  update_account Done r = closed true (λ q. r q refl)
  update_account Fail r = closed false (λ q. r q refl)
  update_account Ambiguous r = went (λ q. r q refl)
  update_account Invalid r =
      let v = transaction_start n pid p w in
      end_account js false false v (enter high n p (Passed Stray 0) (pass_held Replaced w l)) (started_inside js n pid p w s)
      (seen_account (started-seen js n pid p w) (passed_account n p _ refl (λ e. refl) (λ e. refl) (pass_account Replaced w.transaction.endpoint a) high))

-- ---- what a packet is, where no transaction is current

data-pid : (high : Bool) (t : Transaction) (p : List ℕ) → is_data high p ≡ yields high (transaction_status high t p).pid
unfolding transaction_status
data-pid high t p = by (checked_of p)
  where
    none : (m : Bool) → false ≡ yields m MALFORMED
    none true = refl
    none false = refl

    by : (c : Result ℕ Reason) → data_in high c ≡ yields high (judged_of high t c (length p)).pid
    by (Ok pid) = refl
    by (Err reason) = none high

either-pid : (pid : ℕ) → (DATA0 or DATA1 or DATA2 or only MDATA) pid ≡ true → start_status pid ≡ Invalid
either-pid pid = by (eqb pid DATA0) (eqb pid DATA1) (eqb pid DATA2) (eqb pid MDATA) refl refl refl refl
  where
    by : (a b c d : Bool) → eqb pid DATA0 ≡ a → eqb pid DATA1 ≡ b → eqb pid DATA2 ≡ c → eqb pid MDATA ≡ d → (a || (b || (c || d))) ≡ true → start_status pid ≡ Invalid
    by true b c d p q r s h = rw (eqb-true pid DATA0 p)
    by false true c d p q r s h = rw (eqb-true pid DATA1 q)
    by false false true d p q r s h = rw (eqb-true pid DATA2 r)
    by false false false true p q r s h = rw (eqb-true pid MDATA s)
    by false false false false p q r s h = absurd (true≢false (sym h))

stray : (high : Bool) (t : Transaction) (p : List ℕ) → is_data high p ≡ true → (transaction_status high (state_at Empty t) p).status ≡ Invalid
unfolding transaction_status
stray high t p = by (checked_of p)
  where
    by : (c : Result ℕ Reason) → data_in high c ≡ true → (judged_of high (state_at Empty t) c (length p)).status ≡ Invalid
    by (Ok pid) h = either-pid pid (yields-any high pid h)
    by (Err reason) h = refl

-- ---- a suspended transaction is resumed

module _ (js : List Row) (n : ℕ) (v : World) where
  resumed-seen : (s : Slot) → v.slot ≡ s → view js (resume_at s n v) ≡ view js v
  resumed-seen Empty q = refl
  resumed-seen Current q = refl
  resumed-seen Suspended q =
      link-seen js v.transaction.endpoint (begin (with_id v.transactions v.transaction) (push_transaction n v))
      ∙ (λ i. record { held = sym (ap (λ (s : Slot). held_by s v.transaction.filled v.transaction.payload) q) i; entry = (view js v).entry; rows = (view js v).rows })

  resumed_inside : (s : Slot) → v.slot ≡ s → Inside v → Inside (resume_at s n v)
  resumed_inside Empty q h = h
  resumed_inside Current q h = h
  resumed_inside Suspended q h = rw q at h

  resumed-slot : (s : Slot) → v.slot ≡ s → Resumed (resume_at s n v).slot
  resumed-slot Empty q = rw q tt
  resumed-slot Current q = rw q tt
  resumed-slot Suspended q = tt

-- a data packet is Invalid where there is no transaction
ready : (high : Bool) (p : List ℕ) (s : Slot) (t : Transaction) → Resumed s → is_data high p ≡ true → is_invalid (transaction_status high (state_at s t) p).status ≡ false → s ≡ Current
ready high p Empty t r q n = absurd (true≢false (sym (ap is_invalid (stray high t p q)) ∙ n))
ready high p Current t r q n = refl
ready high p Suspended t r q n = absurd r

packet_account : (high : Bool) (js : List Row) (p : List ℕ) (time : ℕ) (w : World) (l : Ledger) → Stands w → Inside w → Account (view js w) l → Account (view js (handle_raw_packet high p time w)) (packet_turns high p time w l)
unfolding handle_raw_packet transaction_update packet_turns
packet_account high js p time w l s i a = by (is_dropped w.slot w.transaction)
  where
    v : World
    v = push_packet w.bytes time (append_bytes p (with_event_state Idle (stamped time (reason_of p) w)))

    u : World
    u = resume_at w.slot w.packets v

    t : Transaction
    t = state_at u.slot u.transaction

    j : Judged
    j = transaction_status high t p

    by : (b : Bool) → Account (view js (pick b (with_slot Empty v) (update_from high w.packets p u))) (pick b (enter high w.packets p (Passed Dropped 0) (pass_held Forgotten w l)) (turn_from high w.packets p u l))
    by true = passed_account w.packets p _ refl (λ e. refl) (λ e. refl) (pass_account Forgotten w.transaction.endpoint a) high
    by false =
        update_account high js w.packets j.pid p (completes t.style j.status) u l (data-pid high t p) (resume_stands w.slot w.packets v s) (resumed_inside js w.packets v w.slot refl i)
        (seen_account (resumed-seen js w.packets v w.slot refl) a) (resumed-slot js w.packets v w.slot refl) j.status (ready high p u.slot u.transaction (resumed-slot js w.packets v w.slot refl))

-- ---- events: what is current is suspended or has ended before event_update

abbrev Quiet : Slot → Type 0
Quiet Empty = Unit {0}
Quiet Current = ⊥
Quiet Suspended = Unit {0}

-- so that event_add_subgroup ends nothing
quiet-end : (w : World) → Quiet w.slot → transaction_end false false w ≡ w
quiet-end w = at w.slot
  where
    at : (s : Slot) → Quiet s → transaction_end_at s false false w ≡ w
    at Empty q = refl
    at Current q = absurd q
    at Suspended q = refl

module _ (js : List Row) (n : ℕ) (w : World) (q : Quiet w.slot) where
  abbrev linked : World
  linked = event_link (push_transaction n w)

  subgroup-seen : view js (event_subgroup_start n w) ≡ view js w
  subgroup-seen = ap (λ (u : World). view js (event_link (push_transaction n u))) (quiet-end w q) ∙ change-seen js event_ep more_transactions (λ a. refl) (push_transaction n w)

  grouped-seen : (start : Bool) → view js (event_add_group n start w) ≡ view js w
  grouped-seen start =
      let v = event_subgroup_start n w in
      item-seen js event_ep (add_group_entry event_ep start (push_group event_ep (pred (v.endpoints event_ep).transactions) v))
      ∙ (change-seen js event_ep more_groups (λ a. refl) v ∙ subgroup-seen)

  act-seen : (a : Act) → view js (event_act a n w) ≡ view js w
  act-seen nothing = refl
  act-seen single = grouped-seen false
  act-seen group = grouped-seen true
  act-seen subgroup = subgroup-seen
  act-seen keepalive = by w.keepalive
    where
      by : (b : Bool) → view js (pick b (event_subgroup_start n w) (with_keepalive true (event_add_group n true w))) ≡ view js w
      by true = subgroup-seen
      by false = grouped-seen true

suspend-quiet : (s : Slot) → Quiet (suspend_at s)
suspend-quiet Empty = tt
suspend-quiet Current = tt
suspend-quiet Suspended = tt

end_quiet : (w : World) → Quiet (transaction_end false false w).slot
end_quiet w = at w.slot refl
  where
    at : (s : Slot) → w.slot ≡ s → Quiet (transaction_end_at s false false w).slot
    at Empty q = rw q tt
    at Current q = tt
    at Suspended q = rw q tt

-- an end does not look at what the call brings
context-ends : (success complete : Bool) (c : Stamp) (w : World) (l : Ledger) → ends success complete (with_context c w) l ≡ ends success complete w l
context-ends success complete c w l = at w.slot
  where
    at : (s : Slot) → end_by s success complete (with_context c w) l ≡ end_by s success complete w l
    at Empty = refl
    at Current = refl
    at Suspended = refl

same_ledger : {v : View} {l m : Ledger} → l ≡ m → Account v l → Account v m
same_ledger {v} q a = subst (λ (z : Ledger). Account v z) q a

module _ (js : List Row) (w : World) (l : Ledger) (a : Account (view js w) l) where
  suspend_account : Account (view js (suspend w)) (suspends w.slot w l)
  suspend_account = at w.slot refl
    where
      at : (s : Slot) → w.slot ≡ s → Account (view js (with_slot (suspend_at s) w)) (suspends s w l)
      at Empty q = seen_account (λ i. record { held = sym (ap (λ (s : Slot). held_by s w.transaction.filled w.transaction.payload) q) i; entry = (view js w).entry; rows = (view js w).rows }) a
      at Current q = seen_account (λ i. record { held = sym (ap (λ (s : Slot). held_by s w.transaction.filled w.transaction.payload) q) i; entry = (view js w).entry; rows = (view js w).rows }) a
      at Suspended q = pass_account Forgotten w.transaction.endpoint a

  event_account : (kind code time : ℕ) → Inside w → Account (view js (handle_event kind code time w)) (pick (eqb kind 0) (suspends w.slot w l) (ends false false w l))
  unfolding handle_event event_update
  event_account kind code time i = by (eqb kind 0)
    where
      go : (u : World) {m : Ledger} → Quiet u.slot → Account (view js u) m → Account (view js (event_update w.packets kind (push (EventRow w.packets code) (push_packet w.bytes time u)))) m
      go u q b = seen_account (act-seen js w.packets (push (EventRow w.packets code) (push_packet w.bytes time u)) q (turn_of u.event_state kind).act) b

      by : (b : Bool) → Account (view js (event_update w.packets kind (push (EventRow w.packets code) (push_packet w.bytes time (pick b (suspend (stamped time 0 w)) (end_all (stamped time 0 w))))))) (pick b (suspends w.slot w l) (ends false false w l))
      by true = go (suspend (stamped time 0 w)) (suspend-quiet w.slot) suspend_account
      by false =
          let v = transaction_end false false (stamped time 0 w) in
          go (end_all (stamped time 0 w)) (end_quiet (stamped time 0 w)) (seen_account (active-seen js v) (same_ledger (context-ends false false _ w l) (end_account js false false (stamped time 0 w) l i a)))

-- ---- every call

detail-seen : (js : List Row) (g : Option ℕ) (number direction kind max : ℕ) (w : World) → view js (set_detail_on g number direction kind max w) ≡ view js w
detail-seen js (Some d) number direction kind max w = refl
detail-seen js None number direction kind max w = refl

pub call_account : (high : Bool) (k : Call) (js : List Row) (w : World) (l : Ledger) → Stands w → Inside w → Account (view js w) l → Account (view js (call high k w)) (turns high k w l)
unfolding handle_detail finish
call_account high (packet p time shelf) js w l s i a = packet_account high js p time (with_shelf shelf w) l s i a
call_account high (event kind code time) js w l s i a = event_account js w l a kind code time i
call_account high (detail address number direction kind max) js w l s i a = seen_account (detail-seen js (device_for address w) number direction kind max w) a
call_account high finishing js w l s i a = same_ledger (context-ends false false _ w l) (end_account js false false (last_stamped w) l i a)

-- ---- one line for each data packet

turn-entered : (these : Fate → Bool) (f : Fate) (l : Ledger) → entered (turn these f l) ≡ entered l
turn-entered these f [] = refl
turn-entered these f (a ∷ l) = ap (λ (ps : List (ℕ × ℕ)). (a.packet, a.length) ∷ ps) (turn-entered these f l)

end-entered : (b : Bool) (x : ℕ) (success : Bool) (f : Effect) (l : Ledger) → entered (end_at b x success f l) ≡ entered l
end-entered true x success f l =
    turn-entered is_held (used_at x f (Passed (pick success Unused Failed) x)) (turn (is_waiting x) (Passed Waited x) l) ∙ turn-entered (is_waiting x) (Passed Waited x) l
end-entered false x success f l = turn-entered (is_waiting x) (used_at x f (Passed Waited x)) l

pass-entered : (why : Why) (w : World) (l : Ledger) → entered (pass_held why w l) ≡ entered l
pass-entered why w l = turn-entered is_held (Passed why w.transaction.endpoint) l

ends-entered : (success complete : Bool) (w : World) (l : Ledger) → entered (ends success complete w l) ≡ entered l
ends-entered success complete w l = at w.slot
  where
    f : Effect
    f = (grouped w.transaction.endpoint success complete w).effect

    by : (z : Bool) → entered (pick z (pass_held Forgotten w l) (end_at w.transaction.filled w.transaction.endpoint success f l)) ≡ entered l
    by true = pass-entered Forgotten w l
    by false = end-entered w.transaction.filled w.transaction.endpoint success f l

    at : (s : Slot) → entered (end_by s success complete w l) ≡ entered l
    at Empty = refl
    at Current = by (eqb w.transaction.endpoint 0)
    at Suspended = refl

module _ (high : Bool) (n : ℕ) (p : List ℕ) where
  -- what the packet's own line adds
  abbrev own : List (ℕ × ℕ) → List (ℕ × ℕ)
  own ps = pick (is_data high p) ((n, length p - 3) ∷ ps) ps

  enter-entered : (f : Fate) (l m : Ledger) → entered m ≡ entered l → entered (enter high n p f m) ≡ own (entered l)
  enter-entered f l m q = by (is_data high p)
    where
      by : (b : Bool) → entered (pick b (record { packet = n; length = length p - 3; fate = f } ∷ m) m) ≡ pick b ((n, length p - 3) ∷ entered l) (entered l)
      by true = ap (λ (ps : List (ℕ × ℕ)). (n, length p - 3) ∷ ps) q
      by false = q

  takes-entered : (pid : ℕ) (w : World) (l : Ledger) → entered (takes high n pid p w l) ≡ own (entered l)
  takes-entered pid w l = by (is_payload high w.transaction.style pid)
    where
      by : (b : Bool) → entered (pick b (enter high n p Held (pass_held Replaced w l)) (enter high n p (Passed Setup w.transaction.endpoint) l)) ≡ own (entered l)
      by true = enter-entered Held l (pass_held Replaced w l) (pass-entered Replaced w l)
      by false = enter-entered (Passed Setup w.transaction.endpoint) l l refl

  turn_by-entered : (z : Status) (pid : ℕ) (complete : Bool) (w : World) (l : Ledger) → entered (turn_by high z n pid p complete w l) ≡ own (entered l)
  turn_by-entered z pid complete w l = by z
    where
      t : entered (takes high n pid p w l) ≡ own (entered l)
      t = takes-entered pid w l

      v : World
      v = transaction_append pid p (extracted high pid p w)

      by : (z : Status) → entered (turn_by high z n pid p complete w l) ≡ own (entered l)
      by New = ends-entered false false (brought high pid p w) (takes high n pid p w l) ∙ t
      by Continue = t
      by Retry = ends-entered true complete v (takes high n pid p w l) ∙ t
      by Done = ends-entered true complete v (takes high n pid p w l) ∙ t
      by Fail = ends-entered false complete v (takes high n pid p w l) ∙ t
      by Ambiguous = t
      by Invalid =
          ends-entered false false (transaction_start n pid p w) (enter high n p (Passed Stray 0) (pass_held Replaced w l)) ∙ enter-entered (Passed Stray 0) l (pass_held Replaced w l) (pass-entered Replaced w l)

packet-entered : (high : Bool) (p : List ℕ) (time : ℕ) (w : World) (l : Ledger) → entered (packet_turns high p time w l) ≡ own high w.packets p (entered l)
unfolding packet_turns
packet-entered high p time w l = by (is_dropped w.slot w.transaction)
  where
    u : World
    u = resume_at w.slot w.packets (push_packet w.bytes time (append_bytes p (with_event_state Idle (stamped time (reason_of p) w))))

    j : Judged
    j = transaction_status high (state_at u.slot u.transaction) p

    by : (b : Bool) → entered (pick b (enter high w.packets p (Passed Dropped 0) (pass_held Forgotten w l)) (turn_from high w.packets p u l)) ≡ own high w.packets p (entered l)
    by true = enter-entered high w.packets p (Passed Dropped 0) l (pass_held Forgotten w l) (pass-entered Forgotten w l)
    by false = turn_by-entered high w.packets p j.status j.pid (completes (state_at u.slot u.transaction).style j.status) u l

pub call-entered : (high : Bool) (k : Call) (w : World) (l : Ledger) → entered (turns high k w l) ≡ enters high k w.packets (entered l)
call-entered high (packet p time shelf) w l = packet-entered high p time (with_shelf shelf w) l
call-entered high (event kind code time) w l = by (eqb kind 0)
  where
    at : (s : Slot) → entered (suspends s w l) ≡ entered l
    at Empty = refl
    at Current = refl
    at Suspended = pass-entered Forgotten w l

    by : (b : Bool) → entered (pick b (suspends w.slot w l) (ends false false w l)) ≡ entered l
    by true = at w.slot
    by false = ends-entered false false w l
call-entered high (detail address number direction kind max) w l = refl
call-entered high finishing w l = ends-entered false false w l
