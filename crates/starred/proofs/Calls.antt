-- The calls of the table, on what a fresh decoder became: the answer of each, and what it leaves of the slot.
use Prim.Native.Nat.{ℕ, zero, suc, ◌+◌, ◌<◌, ◌≤◌}
use native.Mathlib.Omega.{arith}
use mathlib.Core.Path.{◌≡◌, refl, sym, ap, subst, ◌∙◌}
use mathlib.Core.Bool.{Bool, true, false, not, cond, ◌&&◌, true≢false}
use mathlib.Core.List.{List}
use borrow.Author.Tests.{eqb-true, eqb-false, ltb-false, le-ltb}
use lib.Dec.{eqb, ltb}
use lib.ListN.{length}
use Rattle.endpoints.specs.Word as word
use Rattle.rows.specs.One.{one}
use Rattle.usb.specs.Fields.{setup_data_of}
use Rattle.usb.specs.Pid.{SPLIT}
use Rattle.usb.specs.Packet.{format_of, checked_of}
use Rattle.usb.proofs.Laws.{split-length}
use Rattle.std.specs.Prelude.{Ok}
use Rattle.details.specs.Details as details
use Rattle.details.specs.Kind.{Unknown}
use Rattle.details.specs.declared.Device.{Device}
use Rattle.endpoints.specs.declared.Endpoint.{Endpoint}
use Rattle.transaction.specs.Table.{pick}
use Rattle.transaction.specs.Payload.{start_pid, extract_payload}
use Rattle.transaction.specs.Status.{transaction_status}
use Rattle.transaction.specs.declared.Judged.{Judged}
use Rattle.transaction.specs.declared.Style.TheVariants.{Nothing}
use Rattle.transaction.specs.declared.Transaction.{Transaction}
use Rattle.group.specs.declared.Effect.{Effect}
use Rattle.group.specs.declared.Effect.TheVariants.{NoEffect}
use Rattle.rules.specs.Decoder.{fresh, suspend_at, suspend, push_packet, handle_raw_packet, handle_event}
use Rattle.rules.specs.Endpoints.{detail_of}
use Rattle.rules.specs.Events.{LsKeepalive, Act, event_act, event_update, event_subgroup_start, event_group_start, turn_of}
use Rattle.rules.specs.Events as events
use Rattle.rules.specs.Groups.{group_early_append}
use Rattle.rules.specs.Rows.{EventRow}
use Rattle.rules.specs.Transactions.{is_dropped, state_at, transaction_end_at, transaction_end, transaction_update}
use Rattle.rules.specs.World.{World, stamped, new_transaction, push, with_keepalive, with_shelf}
use Rattle.rules.specs.declared.Slot.{Slot}
use Rattle.rules.specs.declared.Slot.TheVariants.{Empty, Current, Suspended}
use Rattle.record.specs.Answers.{first_of, packet_tests, event_tests}
use Rattle.record.specs.Bools.{neither}
use Rattle.record.specs.declared.Decoder.{Decoder}
use Rattle.record.proofs.FreshLaws.{Agrees}
use Rattle.call.specs.Outcome.{is_ill, is_full, is_over, any_over, counts_after, decoder_of, Left, accepts, world_at}
use Rattle.call.proofs.OutcomeLaws.{sound}
use Rattle.call.specs.State.{Logs, State, room_of}
use Rattle.update.specs.Effect.{passes}
use Rattle.event.specs.Event.{is_current}
use Rattle.plan.specs.Packet.{old_endpoint, transaction_then, slot_then, resumes, is_new, is_last, succeeds, completes_by, middle_of, entry_ended, last_ended, close_of, end_if, plan_by, plan_of, kept as laid}
use Rattle.plan.specs.Step.{end_of}
use Rattle.plan.specs.declared.Middle.{Middle}
use Rattle.plan.proofs.Packet.{packet-laden, dropped-is}
use Rattle.plan.proofs.Quiet.{no_effect, no-transaction}
use Rattle.tally.specs.Passes.{plan_passes}
use Rattle.tally.specs.Suited.{Totalled}
use Rattle.tally.proofs.Events.{suspended}
use Rattle.tally.proofs.Formed.{packet-over-is}
use Rattle.tally.proofs.Totals.{totalled-over}
use Rattle.tally.proofs.Unpassed.{keepalive-over}
use Rattle.start.specs.Fresh.{made, Makes}
use Rattle.start.proofs.FreshLaws.{fresh_stands}
use Rattle.packet.specs.Call.{after, PacketCall, tests_of}
use Rattle.events.specs.Call.{EventCall, event_tests_of}
use Rattle.sound.specs.Sound.{is_sound}
use Rattle.sound.proofs.Keeps.{passed, kept}

-- ---- what every call keeps: no answer 1, 2 or 9 for what was there before it

pub record Good (s : State) : Type 0 where
  pub sound : is_sound s ≡ true
  pub going : s.decoder.finished ≡ false
  pub totals : Totalled (world_at s)

any_totalled : (n : ℕ) (w : World) → any_over n w ≡ false → (i : ℕ) → i < n → (w.endpoints i).total ≤ 18446744073709551615
any_totalled zero w h i l = absurd (omega arith)
any_totalled (suc n) w h i l = by (eqb i n) refl (any_totalled n w g.1 i)
  where
    g : (ltb 18446744073709551615 (w.endpoints n).total ≡ false) × (any_over n w ≡ false)
    g = neither (ltb 18446744073709551615 (w.endpoints n).total) (any_over n w) h

    by : (b : Bool) → eqb i n ≡ b → (i < n → (w.endpoints i).total ≤ 18446744073709551615) → (w.endpoints i).total ≤ 18446744073709551615
    by true e rec = subst (λ (j : ℕ). (w.endpoints j).total ≤ 18446744073709551615) (sym (eqb-true i n e)) (ltb-false 18446744073709551615 (w.endpoints n).total g.0)
    by false e rec = let ne = eqb-false i n e in rec (omega arith)

over_totalled : (w : World) → is_over w ≡ false → Totalled w
unfolding is_over
over_totalled w h i l = any_totalled w.count w h i l

module _ {w : World} {f : Bool} {s s' : State} (x : Left w f s s') where
  count_left : s'.decoder.counts.endpoints ≡ w.count
  unfolding decoder_of counts_after
  count_left = ap (λ (d : Decoder). d.counts.endpoints) x.decoder

  slot-left : s'.decoder.slot ≡ w.slot
  unfolding decoder_of
  slot-left = ap (λ (d : Decoder). d.slot) x.decoder

  transaction-left : s'.decoder.transaction ≡ w.transaction
  unfolding decoder_of
  transaction-left = ap (λ (d : Decoder). d.transaction) x.decoder

  finished-left : s'.decoder.finished ≡ f
  unfolding decoder_of
  finished-left = ap (λ (d : Decoder). d.finished) x.decoder

  totals-left : Totalled w → Totalled (world_at s')
  totals-left t i l =
      let h : i < w.count = subst (λ (n : ℕ). i < n) count_left l in
      subst (λ (e : Endpoint). e.total ≤ 18446744073709551615) (sym (x.table.entries i h)) (t i h)

-- ---- a packet

module _ (p : List ℕ) (time : ℕ) (s : State) (h : List ℕ) {a : ℕ} {s' : State} {h' : List ℕ} (x : PacketCall p time s h a s' h') (ok : accepts a ≡ true) where
  told : accepts (first_of (tests_of p time s h)) ≡ true
  told = ap accepts (sym x.answers.answer) ∙ ok

  pub packet-left : Left (after p time s h) s.decoder.finished s s'
  packet-left = x.answers.left told

  pub packet_good : Good s → Good s'
  packet_good g =
      record {
        sound = kept.packet p time h h' s a s' x g.sound;
        going = finished-left packet-left ∙ g.going;
        totals = totals-left packet-left (over_totalled _ (passed (tests_of p time s h) told).over);
      }

packet-tests : (full over dropped : Bool) (len : ℕ) → len ≤ 4096 → first_of (packet_tests false false len full over dropped) ≡ cond full 7 (cond over 9 (cond dropped 8 0))
unfolding first_of
packet-tests full over dropped len h = let e = le-ltb 4096 len h in rw e

packet-answer : (ill finished full over dropped : Bool) (len : ℕ) (d : Bool) → ill ≡ false → finished ≡ false → len ≤ 4096 → over ≡ false → dropped ≡ d
    → first_of (packet_tests ill finished len full over dropped) ≡ cond full 7 (cond d 8 0)
packet-answer ill finished full over dropped len d h1 h2 h3 h4 h5 =
    (λ i. first_of (packet_tests (h1 i) (h2 i) len full (h4 i) (h5 i))) ∙ packet-tests full false d len h3

-- a packet that is no part of a transaction: none ends well, so no byte total grows
close-quiet : (m : Middle) (last : ℕ) (complete : Bool) → (close_of m last false complete).effect ≡ NoEffect
unfolding close_of end_of
close-quiet m last complete = no_effect _ _ _ complete

close-passes : (closes : Bool) (m : Middle) (last : ℕ) (success complete : Bool) → success ≡ false
    → (closes && passes (end_if closes (close_of m last success complete) m.entry).effect (end_if closes (close_of m last success complete) m.entry).entry.total) ≡ false
close-passes false m last success complete h = refl
close-passes true m last success complete h =
    ap (λ (b : Bool). passes (close_of m last b complete).effect (close_of m last b complete).entry.total) h
    ∙ ap (λ (f : Effect). passes f (close_of m last false complete).entry.total) (close-quiet m last complete)

quiet_by : (high : Bool) (j : Judged) (x0 : ℕ) (e : Endpoint) (t : Transaction) (p : List ℕ) (w : World) → succeeds j.status ≡ false → plan_passes (plan_by high j x0 e t p w) ≡ false
unfolding plan_passes plan_by
quiet_by high j x0 e t p w h =
    let s = j.status in
    let b = extract_payload high t j.pid (length p) (setup_data_of p) in
    let end = end_of x0 e b (detail_of x0 w) w.last_item false false in
    let ends = is_new s && not (eqb x0 0) in
    let m = middle_of s x0 (entry_ended ends end (start_pid b.style) e) j.pid p (w.transactions + one (resumes w.slot)) b w in
    close-passes (is_last s && not (eqb m.begin.transaction.endpoint 0)) m (last_ended ends end x0 w.last_item) (succeeds s) (completes_by s t.style) h

quiet-plan : (high : Bool) (p : List ℕ) (w : World) → w.slot ≡ Empty → plan_passes (plan_of high p w) ≡ false
unfolding plan_of
quiet-plan high p w h =
    quiet_by high _ _ _ _ p w
    (subst (λ (x : Slot). succeeds (transaction_status high (state_at (slot_then x) (transaction_then x w.transactions (w.endpoints (old_endpoint x w.transaction)) w.transaction)) p).status ≡ false) (sym h)
    (no-transaction high (λ z. succeeds z ≡ false) refl refl (new_transaction Nothing 0 0 0 Unknown) refl p))

module _ (s : State) (g : Good s) where
  not-ill : is_ill s ≡ false
  not-ill = kept.well s g.sound

  module _ (p : List ℕ) (time : ℕ) (h : List ℕ) (short : length p ≤ 4096) {a : ℕ} {s' : State} {h' : List ℕ} (x : PacketCall p time s h a s' h') where
    -- before it, and with its payload on the shelf
    abbrev lent : World
    lent = with_shelf h (world_at s)

    abbrev laden : World
    laden = laid s.decoder.high (plan_of s.decoder.high p lent) p lent

    -- none is suspended, and none is current
    module _ (empty : s.decoder.slot ≡ Empty) where
      live : is_dropped s.decoder.slot s.decoder.transaction ≡ false
      live = ap (λ (z : Slot). is_dropped z s.decoder.transaction) empty

      still : is_over (after p time s h) ≡ false
      still = ap is_over (packet-laden s.decoder.high p time lent live) ∙ (packet-over-is s.decoder.high p time laden.shelf s (room_of s.logs) (sound s not-ill).0 g.totals ∙ quiet-plan s.decoder.high p laden empty)

      pub plain-answer : a ≡ cond (is_full s (after p time s h)) 7 0
      plain-answer = x.answers.answer ∙ packet-answer _ _ (is_full s (after p time s h)) _ _ (length p) false not-ill g.going short still live

    -- a split without its token is suspended
    module _ (suspended : s.decoder.slot ≡ Suspended) (tokenless : s.decoder.transaction.endpoint ≡ 0) where
      drops : is_dropped s.decoder.slot s.decoder.transaction ≡ true
      drops = ap (λ (z : Slot). is_dropped z s.decoder.transaction) suspended ∙ ap (λ (n : ℕ). eqb n 0) tokenless

      unmoved : is_over (after p time s h) ≡ false
      unmoved = ap is_over (dropped-is s.decoder.high p time lent drops) ∙ totalled-over _ g.totals

      pub dropped-answer : a ≡ cond (is_full s (after p time s h)) 7 8
      dropped-answer = x.answers.answer ∙ packet-answer _ _ (is_full s (after p time s h)) _ _ (length p) true not-ill g.going short unmoved drops

-- a SPLIT where there is no transaction begins one, which has no endpoint yet
split-world : (high : Bool) (p : List ℕ) (time : ℕ) (w : World) → checked_of p ≡ Ok SPLIT → w.slot ≡ Empty
    → ((handle_raw_packet high p time w).slot ≡ Current) × ((handle_raw_packet high p time w).transaction.endpoint ≡ 0)
unfolding handle_raw_packet transaction_update transaction_status group_early_append
split-world high p time w h e = rw (e, h) (refl, refl)

pub split-short : (p : List ℕ) → checked_of p ≡ Ok SPLIT → length p ≤ 4096
unfolding format_of
split-short p h = let l = split-length p SPLIT h refl in omega arith

-- ---- a keepalive

still-there : (z : Slot) (w : World) → is_current z ≡ false → transaction_end_at z false false w ≡ w
still-there Empty w h = refl
still-there Current w h = absurd (true≢false h)
still-there Suspended w h = refl

-- the slot and the transaction of w stand in v too
abbrev Holding : World → World → Type 0
Holding w v = (v.slot ≡ w.slot) × (v.transaction ≡ w.transaction)

-- where no transaction is current, what an event does ends none
module _ (id : ℕ) (w : World) (h : is_current w.slot ≡ false) where
  ends-none : Holding w (transaction_end false false w)
  ends-none = let e = still-there w.slot w h in (ap (λ (v : World). v.slot) e, ap (λ (v : World). v.transaction) e)

  act-holds : (k : Act) → Holding w (event_act k id w)
  act-holds events.nothing = (refl, refl)
  act-holds events.single = ends-none
  act-holds events.group = ends-none
  act-holds events.subgroup = ends-none
  act-holds events.keepalive = by w.keepalive
    where
      by : (b : Bool) → Holding w (pick b (event_subgroup_start id w) (with_keepalive true (event_group_start id w)))
      by true = ends-none
      by false = ends-none

keepalive-world : (code time : ℕ) (w : World) → ((handle_event LsKeepalive code time w).slot ≡ suspend_at w.slot) × ((handle_event LsKeepalive code time w).transaction ≡ w.transaction)
unfolding handle_event event_update
keepalive-world code time w =
    let v = push (EventRow w.packets code) (push_packet w.bytes time (suspend (stamped time 0 w))) in
    act-holds w.packets v (suspended w.slot) (turn_of w.event_state LsKeepalive).act

event-tests : (ill finished full over : Bool) → ill ≡ false → finished ≡ false → over ≡ false → first_of (event_tests ill finished LsKeepalive full over) ≡ cond full 7 0
unfolding first_of
event-tests ill finished full over h1 h2 h3 = rw (h1, h2, h3)

module _ (code time : ℕ) (s : State) {a : ℕ} {s' : State} (x : EventCall LsKeepalive code time s a s') where
  abbrev next : World
  next = handle_event LsKeepalive code time (world_at s)

  pub keepalive-answer : Good s → a ≡ cond (is_full s next) 7 0
  keepalive-answer g =
      x.answer ∙ event-tests _ _ (is_full s next) _ (not-ill s g) g.going (keepalive-over code time (world_at s) g.totals)

  module _ (ok : a ≡ 0) where
    taken : accepts (first_of (event_tests_of LsKeepalive next s)) ≡ true
    taken = ap accepts (sym x.answer ∙ ok)

    keepalive-left : Left next s.decoder.finished s s'
    keepalive-left = x.left taken

    pub keepalive_good : Good s → Good s'
    keepalive_good g =
        record {
          sound = kept.event LsKeepalive code time s a s' x g.sound;
          going = finished-left keepalive-left ∙ g.going;
          totals = totals-left keepalive-left (over_totalled _ (passed (event_tests_of LsKeepalive next s) taken).over);
        }

    pub keepalive-slot : s'.decoder.slot ≡ suspend_at s.decoder.slot
    keepalive-slot = slot-left keepalive-left ∙ (keepalive-world code time (world_at s)).0

    pub keepalive-holds : s'.decoder.transaction ≡ s.decoder.transaction
    keepalive-holds = transaction-left keepalive-left ∙ (keepalive-world code time (world_at s)).1

-- ---- a fresh decoder

fresh-totals : Totalled fresh
unfolding details.fresh
fresh-totals zero l = omega arith
fresh-totals (suc zero) l = omega arith
fresh-totals (suc (suc zero)) l = omega arith
fresh-totals (suc (suc (suc i))) l = absurd (omega arith)

module _ {high : Bool} {v : List Device} {t : List ℕ} {l : Logs} {s : State} (hv : length v ≡ 64) (ht : length t ≡ word.table) (m : Makes high v t l 0 s) where
  stands : Agrees (world_at s) fresh
  stands = fresh_stands m ht (omega arith)

  pub good-fresh : Good s
  unfolding made
  good-fresh =
      record {
        sound = kept.fresh high v t l s m ht (omega arith);
        going = ap (λ (x : State). x.decoder.finished) (m.accepted refl);
        totals = λ i h.
            let g : i < fresh.count = subst (λ (n : ℕ). i < n) stands.count h in
            subst (λ (e : Endpoint). e.total ≤ 18446744073709551615) (sym (stands.endpoints i g)) (fresh-totals i g);
      }

  pub empty-fresh : s.decoder.slot ≡ Empty
  unfolding details.fresh
  empty-fresh = stands.slot

-- ---- the calls of the table

-- after an accepted SPLIT on a decoder with no transaction, a split without its token is current
pub record Waiting (z : Slot) (s : State) : Type 0 where
  pub good : Good s
  pub slot : s.decoder.slot ≡ z
  pub tokenless : s.decoder.transaction.endpoint ≡ 0

pub after_split : (p : List ℕ) (time : ℕ) (s : State) (h : List ℕ) {a : ℕ} {s' : State} {h' : List ℕ} → checked_of p ≡ Ok SPLIT → PacketCall p time s h a s' h' → a ≡ 0 → Good s
    → s.decoder.slot ≡ Empty → Waiting Current s'
after_split p time s h v x ok g e =
    let k = packet-left p time s h x (ap accepts ok) in
    let w = split-world s.decoder.high p time (with_shelf h (world_at s)) v e in
    record {
      good = packet_good p time s h x (ap accepts ok) g;
      slot = slot-left k ∙ w.0;
      tokenless = ap (λ (t : Transaction). t.endpoint) (transaction-left k) ∙ w.1;
    }

pub after-keepalive : (code time : ℕ) (z : Slot) (s : State) {a : ℕ} {s' : State} → EventCall LsKeepalive code time s a s' → a ≡ 0 → Waiting z s → Waiting (suspend_at z) s'
after-keepalive code time z s x ok w =
    record {
      good = keepalive_good code time s x ok w.good;
      slot = keepalive-slot code time s x ok ∙ ap suspend_at w.slot;
      tokenless = ap (λ (t : Transaction). t.endpoint) (keepalive-holds code time s x ok) ∙ w.tokenless;
    }
