-- The steps of a packet, decided from the world before it and done, are what the rules do (handle_raw_packet).
use mathlib.Core.Path.{◌≡◌, refl, sym, ap, subst, ◌∙◌}
use mathlib.Core.Bool.{Bool, true, false, ◌&&◌, not}
use mathlib.Core.List.{List, []}
use Prim.Native.Nat.{ℕ, ◌+◌}
use native.Mathlib.Omega.{arith}
use borrow.Author.Tests.{eq-eqb, ne_eqb}
use lib.Dec.{eqb}
use lib.ListN.{length}
use Rattle.rows.specs.One.{one}
use Rattle.usb.specs.Fields.{setup_data_of}
use Rattle.usb.specs.Packet.{reason_of}
use Rattle.transaction.specs.Table.{pick}
use Rattle.transaction.specs.Payload.{start_pid, extract_payload}
use Rattle.transaction.specs.Status.{transaction_status}
use Rattle.transaction.proofs.StatusLaws.{status-reason}
use Rattle.transaction.specs.declared.Status.{Status}
use Rattle.transaction.specs.declared.Status.TheVariants.{New, Continue, Retry, Done, Fail, Ambiguous, Invalid}
use Rattle.transaction.specs.declared.Transaction.{Transaction}
use Rattle.transaction.proofs.Laws.{extract-keeps}
use Rattle.descriptors.specs.Kind.{kind_of}
use Rattle.descriptors.specs.Laid.{is_laid}
use Rattle.endpoints.specs.declared.Endpoint.{Endpoint}
use Rattle.rules.specs.World.{World, make_world, stamp, ◌▷◌, with_slot, with_transaction, with_shelf, with_id, more_transactions}
use Rattle.rules.specs.Endpoints.{detail_of}
use Rattle.rules.specs.Transactions.{transaction_end, transaction_start, transaction_append, completes, is_payload, is_kept, shelf_with, keep_payload, resume_at, state_at, update_at, update_from, is_dropped, transaction_update}
use Rattle.rules.specs.Decoder.{handle_raw_packet}
use Rattle.rules.specs.declared.EventState.TheVariants.{Idle}
use Rattle.rules.specs.declared.Slot.{Slot}
use Rattle.rules.specs.declared.Slot.TheVariants.{Empty, Current, Suspended}
use Rattle.update.specs.Update.{when, decide_resume}
use Rattle.update.specs.Entry.{entry_after}
use Rattle.plan.specs.Step.{opened, begun, ended, end_of}
use Rattle.plan.specs.Packet.{resumes, slot_then, old_endpoint, transaction_then, entry_then, going, starting, appending, close_of, middle_of, is_new, is_last, succeeds, completes_by, slot_after, entry_ended, last_ended, end_if, plan_by, plan_of, kept, with_packet, played}
use Rattle.plan.specs.declared.Middle.{Middle}
use Rattle.plan.specs.declared.Begin.{Begin}
use Rattle.plan.specs.declared.End.{End}
use Rattle.plan.specs.declared.Plan.{Plan}
use Rattle.plan.proofs.Frame.{pick-keeps, begun-slot, begun-transaction}
use Rattle.plan.proofs.Quiet.{no-transaction}
use Rattle.plan.proofs.Ends.{end_in, end_on}
use Rattle.plan.proofs.Alike.{Alike, same-detail, same-starting, same-appending, near-starting}
use Rattle.plan.proofs.Starts.{Begins, new, invalid, following, start_is}
use Rattle.plan.proofs.Settles.{Settled, start-settled, append-settled, close-is}
use Rattle.plan.proofs.Appends.{GoesOn, continue, retry, done, fail, ambiguous, after, going-is}
use Rattle.plan.proofs.Kept.{starting-row, appending-row, appending-last, unkept}
use Rattle.plan.proofs.Olds.{Before, Resumed, before_update, resumed-entry, before-resumed, before-ended}

-- the steps of a plan after a suspended transaction was resumed, if one was
abbrev pub onward : Plan → ℕ → World → World
onward p id v =
    v ▷ when p.ends (λ u. ended p.old p.end (with_transaction p.brought u))
    ▷ begun id p.begin
    ▷ when p.closes (ended p.begin.transaction.endpoint p.close)
    ▷ with_slot p.slot

-- the same world but for the slot
slot_alike : {w v : World} (s : Slot) → Alike w v → Alike w (with_slot s v)
slot_alike s a = record { count = a.count; devices = a.devices; device_count = a.device_count; device = a.device; address = a.address }

-- an end is only asked for where it is taken
taken : (f : End → World → World) (c : Bool) (s : End) (e : Endpoint) (v : World) → when c (f s) v ≡ when c (f (end_if c s e)) v
taken f true s e v = refl
taken f false s e v = refl

-- ---- the old transaction is v's, on the endpoint x0, once it was resumed; w is the world before that, from which all is decided

module _ (high : Bool) (id pid x0 n : ℕ) (packet : List ℕ) (e : Endpoint) (w v : World) (r : Resumed x0 e n w v) where
  abbrev b : Transaction
  b = extract_payload high v.transaction pid (length packet) (setup_data_of packet)

  abbrev brought : World
  brought = with_transaction b v

  -- its end, as it is decided and as it is
  abbrev end : End
  end = end_of x0 e b (detail_of x0 w) w.last_item false false

  end_same : end_in x0 false false brought ≡ end
  end_same i = end_of x0 (r.own i) b (same-detail r.alike x0 i) (r.last_item i) false false

  -- ---- New

  abbrev gone : World
  gone = when (not (eqb x0 0)) (ended x0 end) brought

  abbrev entry : Endpoint
  entry = entry_ended (not (eqb x0 0)) end (start_pid b.style) e

  brought-resumed : Resumed x0 e n w brought
  brought-resumed = record { alike = record { count = r.alike.count; devices = r.alike.devices; device_count = r.alike.device_count; device = r.alike.device; address = r.alike.address }; own = r.own; other = r.other; transactions = r.transactions; last_item = r.last_item }

  gone-before : Before x0 entry n w gone
  gone-before = by (not (eqb x0 0))
    where
      by : (c : Bool) → Before x0 (entry_ended c end (start_pid b.style) e) n w (when c (ended x0 end) brought)
      by true = subst (λ (s : End). Before x0 (entry_after s.update (start_pid b.style) s.entry) n w (ended x0 s brought)) end_same (before-ended x0 e n w brought brought-resumed b (detail_of x0 v) v.last_item false)
      by false = before-resumed x0 e n w brought brought-resumed

  abbrev new_begin : Begin
  new_begin = (starting New x0 entry pid packet n w).begin

  start_same : (starting New x0 (gone.endpoints x0) pid packet gone.transactions (with_slot Empty gone)).begin ≡ new_begin
  start_same =
      (λ i. (starting New x0 (gone-before.own i) pid packet (gone-before.transactions i) (with_slot Empty gone)).begin)
      ∙ near-starting (slot_alike Empty gone-before.alike) x0 entry New pid (before_update gone-before pid) packet n

  -- the transaction before is not read
  gone-begun : (c : Bool) → begun id new_begin (when c (ended x0 end) brought) ≡ begun id new_begin (when c (λ u. ended x0 end (with_transaction b u)) v)
  gone-begun true = refl
  gone-begun false = begun-transaction id new_begin v b

  new_is : (s : Slot) → transaction_end false false (with_transaction b (with_slot s v)) ≡ with_slot Empty gone
      → update_at high New id pid packet (completes v.transaction.style New) (with_slot s v) ≡ with_slot Current (begun id new_begin (when (not (eqb x0 0)) (λ u. ended x0 (end_if (not (eqb x0 0)) end e) (with_transaction b u)) v))
  new_is s h =
      ap (λ (u : World). following New (transaction_start id pid packet u)) h
      ∙ (start_is New new id pid x0 packet (with_slot Empty gone)
      ∙ (ap (λ (s : Begin). with_slot Current (begun id s (with_slot Empty gone))) start_same ∙ (ap (with_slot Current) (begun-slot id new_begin gone Empty) ∙ (ap (with_slot Current) (gone-begun (not (eqb x0 0))) ∙ ap (λ (u : World). with_slot Current (begun id new_begin u)) (taken (λ s u. ended x0 s (with_transaction b u)) (not (eqb x0 0)) end e v)))))

  -- ---- Invalid

  abbrev invalid_middle : Middle
  invalid_middle = starting Invalid x0 e pid packet n w

  invalid_same : (u : World) → Resumed x0 e n w u → starting Invalid x0 (u.endpoints x0) pid packet u.transactions u ≡ invalid_middle
  invalid_same u q =
      (λ i. starting Invalid x0 (q.own i) pid packet (q.transactions i) u) ∙ same-starting q.alike x0 e (resumed-entry x0 e n w u q) Invalid pid packet n

  slot-resumed : (s : Slot) → Resumed x0 e n w (with_slot s v)
  slot-resumed s = record { alike = slot_alike s r.alike; own = r.own; other = r.other; transactions = r.transactions; last_item = r.last_item }

  invalid-is : (s : Slot)
      → update_at high Invalid id pid packet (completes v.transaction.style Invalid) (with_slot s v)
      ≡ (let x = invalid_middle.begin.transaction.endpoint in
      with_slot Empty (when (not (eqb x 0)) (ended x (end_if (not (eqb x 0)) (close_of invalid_middle w.last_item false false) invalid_middle.entry)) (begun id invalid_middle.begin v)))
  invalid-is s =
      let x = invalid_middle.begin.transaction.endpoint in
      ap (transaction_end false false)
      (start_is Invalid invalid id pid x0 packet (with_slot s v)
      ∙ (ap (λ (m : Middle). with_slot Current (begun id m.begin (with_slot s v))) (invalid_same (with_slot s v) (slot-resumed s)) ∙ ap (with_slot Current) (begun-slot id invalid_middle.begin v s)))
      ∙ (close-is id invalid_middle v settled false false ∙ ap (λ (l : ℕ). with_slot Empty (when (not (eqb x 0)) (ended x (close_of invalid_middle l false false)) (begun id invalid_middle.begin v))) r.last_item
      ∙ ap (with_slot Empty) (taken (ended x) (not (eqb x 0)) (close_of invalid_middle w.last_item false false) invalid_middle.entry (begun id invalid_middle.begin v)))
    where
      settled : eqb invalid_middle.begin.transaction.endpoint 0 ≡ false → Settled id v invalid_middle
      settled = subst (λ (m : Middle). eqb m.begin.transaction.endpoint 0 ≡ false → Settled id v m) (invalid_same v r) (start-settled Invalid id pid x0 v.transactions packet v)

  -- ---- the packets that the transaction goes on with

  module _ (s : Status) (goes : GoesOn s) (at : b.endpoint ≡ x0) where
    abbrev middle : Middle
    middle = appending s x0 e pid packet b w

    middle_same : (u : World) → Resumed x0 e n w u → appending s x0 (u.endpoints x0) pid packet b u ≡ middle
    middle_same u q = ap (λ (a : Endpoint). appending s x0 a pid packet b u) q.own ∙ same-appending q.alike x0 e (resumed-entry x0 e n w u q) s pid packet b

    on-is : after s (transaction_append pid packet (with_transaction b (with_slot Current v))) ≡ with_slot Current (begun id middle.begin v)
    on-is =
        going-is s goes id pid x0 packet b (with_slot Current v) at
        ∙ (ap (λ (m : Middle). begun id m.begin (with_slot Current v)) (middle_same (with_slot Current v) (slot-resumed Current)) ∙ begun-slot id middle.begin v Current)

    last-is : (success complete : Bool)
        → transaction_end success complete (after s (transaction_append pid packet (with_transaction b (with_slot Current v))))
        ≡ (let x = middle.begin.transaction.endpoint in
        with_slot Empty (when (not (eqb x 0)) (ended x (end_if (not (eqb x 0)) (close_of middle w.last_item success complete) middle.entry)) (begun id middle.begin v)))
    last-is success complete =
        let x = middle.begin.transaction.endpoint in
        ap (transaction_end success complete) on-is
        ∙ (close-is id middle v settled success complete ∙ ap (λ (l : ℕ). with_slot Empty (when (not (eqb x 0)) (ended x (close_of middle l success complete)) (begun id middle.begin v))) r.last_item
        ∙ ap (with_slot Empty) (taken (ended x) (not (eqb x 0)) (close_of middle w.last_item success complete) middle.entry (begun id middle.begin v)))
      where
        settled : eqb middle.begin.transaction.endpoint 0 ≡ false → Settled id v middle
        settled h = subst (Settled id v) (middle_same v r) (append-settled s id pid x0 packet b v at)

-- ---- all of it, by the status

module _ (high : Bool) (id pid reason x0 : ℕ) (packet : List ℕ) (e : Endpoint) (w v : World) (r : Resumed x0 e (w.transactions + one (resumes w.slot)) w v) where
  abbrev planned : Status → Plan
  planned s = plan_by high (record { pid = pid; status = s; reason = reason }) x0 e v.transaction packet w

  abbrev n : ℕ
  n = w.transactions + one (resumes w.slot)

  -- a step that starts keeps no payload
  starts_on : (s : Status) → Begins s → onward (planned s) id v ≡ onward (planned s) id (kept high (planned s) packet v)
  unfolding plan_by
  starts_on New new =
      ap (onward (planned New) id) (unkept high (planned New) packet v (starting-row New x0 (entry high id pid x0 n packet e w v r) pid packet n w))
  starts_on Invalid invalid = ap (onward (planned Invalid) id) (unkept high (planned Invalid) packet v (starting-row Invalid x0 e pid packet n w))
  starts_on Continue x' = elim x' [ ]
  starts_on Retry x'' = elim x'' [ ]
  starts_on Done x3 = elim x3 [ ]
  starts_on Fail x4 = elim x4 [ ]
  starts_on Ambiguous x5 = elim x5 [ ]

  -- there was no transaction
  empty-is : x0 ≡ 0 → (s : Status) → Begins s → update_at high s id pid packet (completes v.transaction.style s) (with_slot Empty v) ≡ onward (planned s) id (kept high (planned s) packet v)
  unfolding plan_by
  empty-is z New new =
      new_is high id pid x0 n packet e w v r Empty (ap (λ (c : Bool). with_slot Empty (when (not c) (ended x0 (end high id pid x0 n packet e w v r)) (brought high id pid x0 n packet e w v r))) (sym (eq-eqb x0 0 z)))
      ∙ starts_on New new
  empty-is z Invalid invalid = invalid-is high id pid x0 n packet e w v r Empty ∙ starts_on Invalid invalid
  empty-is z Continue x' = elim x' [ ]
  empty-is z Retry x'' = elim x'' [ ]
  empty-is z Done x3 = elim x3 [ ]
  empty-is z Fail x4 = elim x4 [ ]
  empty-is z Ambiguous x5 = elim x5 [ ]

  -- there was one
  module _ (on : v.transaction.endpoint ≡ x0) (then : slot_then w.slot ≡ Current) where
    at : (b high id pid x0 n packet e w v r).endpoint ≡ x0
    at = (extract-keeps high v.transaction pid (length packet) (setup_data_of packet)).endpoint ∙ on

    held : (u : World) → with_slot Current u ≡ with_slot (slot_then w.slot) u
    held u = ap (λ (z : Slot). with_slot z u) (sym then)

    -- the world with the packet's payload on the shelf, as the rules have it
    abbrev laden : World
    laden = keep_payload high pid packet v

    laden-resumed : Resumed x0 e n w laden
    laden-resumed = record { alike = record { count = r.alike.count; devices = r.alike.devices; device_count = r.alike.device_count; device = r.alike.device; address = r.alike.address }; own = r.own; other = r.other; transactions = r.transactions; last_item = r.last_item }

    goes_kept : (s : Status) (p : Plan) → p.begin ≡ (appending s x0 e pid packet (b high id pid x0 n packet e w v r) w).begin → p.brought ≡ b high id pid x0 n packet e w v r → p.end.entry ≡ e → laden ≡ kept high p packet v
    goes_kept s p eb et ee =
        let t = b high id pid x0 n packet e w v r in
        let k = extract-keeps high v.transaction pid (length packet) (setup_data_of packet) in
        let row = appending-row s x0 e pid packet t w in
        let last = appending-last s x0 e pid packet t w in
        let own : v.endpoints v.transaction.endpoint ≡ e = ap v.endpoints on ∙ r.own in
        (λ i. with_shelf (shelf_with (not (sym row i) && (is_payload high (sym k.style i) (sym last i) && (not (eqb (sym k.endpoint i) 0) && is_laid (kind_of (own i).setup)))) (own i) packet v.shelf) v)
        ∙ (λ i. with_shelf (shelf_with (not (sym eb i).row && is_kept high (sym et i) (sym ee i) (sym eb i).transaction.last) (sym ee i) packet v.shelf) v)

    current-is : (s : Status) → update_at high s id pid packet (completes v.transaction.style s) (with_slot Current v) ≡ onward (planned s) id (kept high (planned s) packet v)
    unfolding plan_by
    current-is New =
        new_is high id pid x0 n packet e w v r Current
        (end_on x0 false false (brought high id pid x0 n packet e w v r) at ∙ ap (λ (s : End). with_slot Empty (when (not (eqb x0 0)) (ended x0 s) (brought high id pid x0 n packet e w v r))) (end_same high id pid x0 n packet e w v r))
        ∙ starts_on New new
    current-is Continue =
        on-is high id pid x0 n packet e w laden laden-resumed Continue continue at
        ∙ held (begun id (planned Continue).begin laden)
        ∙ ap (onward (planned Continue) id) (goes_kept Continue (planned Continue) refl refl refl)
    current-is Retry =
        last-is high id pid x0 n packet e w laden laden-resumed Retry retry at true (completes v.transaction.style Retry)
        ∙ ap (onward (planned Retry) id) (goes_kept Retry (planned Retry) refl refl refl)
    current-is Done =
        last-is high id pid x0 n packet e w laden laden-resumed Done done at true (completes v.transaction.style Done)
        ∙ ap (onward (planned Done) id) (goes_kept Done (planned Done) refl refl refl)
    current-is Fail =
        last-is high id pid x0 n packet e w laden laden-resumed Fail fail at false (completes v.transaction.style Fail)
        ∙ ap (onward (planned Fail) id) (goes_kept Fail (planned Fail) refl refl refl)
    current-is Ambiguous =
        on-is high id pid x0 n packet e w laden laden-resumed Ambiguous ambiguous at
        ∙ held (begun id (planned Ambiguous).begin laden)
        ∙ ap (onward (planned Ambiguous) id) (goes_kept Ambiguous (planned Ambiguous) refl refl refl)
    current-is Invalid = invalid-is high id pid x0 n packet e w v r Current ∙ starts_on Invalid invalid

-- ---- transaction_update, by the slot

-- nothing is resumed
same-resumed : (x : ℕ) (w : World) → Resumed x (w.endpoints x) (w.transactions + 0) w w
same-resumed x w =
    record { alike = record { count = refl; devices = refl; device_count = refl; device = λ j. refl; address = λ j. refl }; own = refl; other = λ j ne. refl; transactions = omega arith; last_item = refl }

-- the suspended transaction is
abbrev resume_of : World → Begin
resume_of w = going true (with_id w.transactions w.transaction) decide_resume

link-resumed : (id : ℕ) (w : World) → (let x = w.transaction.endpoint in Resumed x (more_transactions (w.endpoints x)) (w.transactions + 1) w (begun id (resume_of w) w))
unfolding begun opened
link-resumed id w =
    let x = w.transaction.endpoint in
    record {
      alike = record { count = refl; devices = refl; device_count = refl; device = λ j. pick-keeps (λ e. e.device) (eqb j x) more_transactions (w.endpoints j) refl; address = λ j. pick-keeps (λ e. e.address) (eqb j x) more_transactions (w.endpoints j) refl };
      own = ap (λ (b : Bool). pick b (more_transactions (w.endpoints x)) (w.endpoints x)) (eq-eqb x x refl);
      other = λ j ne. ap (λ (b : Bool). pick b (more_transactions (w.endpoints j)) (w.endpoints j)) (ne_eqb j x ne);
      transactions = omega arith;
      last_item = refl;
    }

-- the steps of a plan after the packet's rows
abbrev pub carried : Plan → ℕ → World → World
carried p id w = w ▷ when p.resumes (begun id p.resume) ▷ onward p id

by-slot : (high : Bool) (s : Slot) (id : ℕ) (packet : List ℕ) (w : World) → is_dropped s w.transaction ≡ false
    → transaction_update high id packet (with_slot s w) ≡ (let p = plan_of high packet (with_slot s w) in carried p id (kept high p packet (with_slot s w)))
unfolding transaction_update plan_of plan_by begun opened
by-slot high Empty id packet w h =
    let v = with_slot Empty w in
    let t = state_at Empty w.transaction in
    let pid = (transaction_status high t packet).pid in
    let reason = (transaction_status high t packet).reason in
    no-transaction high (λ s. update_at high s id pid packet (completes t.style s) v ≡ (let p = plan_by high (record { pid = pid; status = s; reason = reason }) 0 (w.endpoints 0) w.transaction packet v in onward p id (kept high p packet v)))
    (empty-is high id pid reason 0 packet (w.endpoints 0) v v (same-resumed 0 v) refl New new) (empty-is high id pid reason 0 packet (w.endpoints 0) v v (same-resumed 0 v) refl Invalid invalid) t refl packet
by-slot high Current id packet w h =
    let v = with_slot Current w in
    let x = w.transaction.endpoint in
    let j = transaction_status high w.transaction packet in
    current-is high id j.pid j.reason x packet (w.endpoints x) v v (same-resumed x v) refl refl j.status
by-slot high Suspended id packet w h =
    let u = with_slot Suspended w in
    let x = w.transaction.endpoint in
    let v = begun id (resume_of u) u in
    let j = transaction_status high v.transaction packet in
    ap (λ (c : Bool). pick c (with_slot Empty u) (update_from high id packet (resume_at Suspended id u))) h
    ∙ current-is high id j.pid j.reason x packet (more_transactions (w.endpoints x)) u v (link-resumed id u) refl refl j.status

-- ---- handle_raw_packet

-- what a plan is decided from
abbrev bare_of : World → World
bare_of w = make_world w.endpoints w.count w.devices w.device_count w.slot w.transaction w.last_item Idle false (stamp 0 0 0) []
    0 0 w.transactions 0 0 0 []

plan-bare : (high : Bool) (packet : List ℕ) (w : World) → plan_of high packet (bare_of w) ≡ plan_of high packet w
unfolding plan_of plan_by
plan-bare high packet w =
    let x0 = old_endpoint w.slot w.transaction in
    let t = transaction_then w.slot w.transactions (w.endpoints x0) w.transaction in
    let e = entry_then w.slot (w.endpoints x0) in
    let j = transaction_status high (state_at (slot_then w.slot) t) packet in
    let s = j.status in
    let b = extract_payload high t j.pid (length packet) (setup_data_of packet) in
    let end = end_of x0 e b (detail_of x0 w) w.last_item false false in
    let ends = is_new s && not (eqb x0 0) in
    λ i. let m = middle_same s x0 (entry_ended ends end (start_pid b.style) e) j.pid (w.transactions + one (resumes w.slot)) b i in
    let closes = is_last s && not (eqb m.begin.transaction.endpoint 0) in
    record {
      resumes = resumes w.slot;
      resume = going true (with_id w.transactions w.transaction) decide_resume;
      ends = ends;
      old = x0;
      brought = b;
      end = end_if ends end e;
      begin = m.begin;
      closes = closes;
      close = end_if closes (close_of m (last_ended ends end x0 w.last_item) (succeeds s) (completes_by s t.style)) m.entry;
      slot = slot_after s w.slot;
      reason = j.reason;
    }
  where
    alike : Alike w (bare_of w)
    alike = record { count = refl; devices = refl; device_count = refl; device = λ j. refl; address = λ j. refl }

    middle_same : (s : Status) (x0 : ℕ) (e0 : Endpoint) (pid n : ℕ) (b : Transaction) → middle_of s x0 e0 pid packet n b (bare_of w) ≡ middle_of s x0 e0 pid packet n b w
    middle_same New x0 e0 pid n b = same-starting alike x0 e0 (λ j. refl) New pid packet n
    middle_same Continue x0 e0 pid n b = same-appending alike x0 e0 (λ j. refl) Continue pid packet b
    middle_same Retry x0 e0 pid n b = same-appending alike x0 e0 (λ j. refl) Retry pid packet b
    middle_same Done x0 e0 pid n b = same-appending alike x0 e0 (λ j. refl) Done pid packet b
    middle_same Fail x0 e0 pid n b = same-appending alike x0 e0 (λ j. refl) Fail pid packet b
    middle_same Ambiguous x0 e0 pid n b = same-appending alike x0 e0 (λ j. refl) Ambiguous pid packet b
    middle_same Invalid x0 e0 pid n b = same-starting alike x0 e0 (λ j. refl) Invalid pid packet n

-- not from the packet's rows
pub plan_same : (high : Bool) (packet : List ℕ) (time : ℕ) (w : World) → plan_of high packet (with_packet packet time w) ≡ plan_of high packet w
plan_same high packet time w = sym (plan-bare high packet (with_packet packet time w)) ∙ plan-bare high packet w

-- it has the packet's reason
pub plan-reason : (high : Bool) (packet : List ℕ) (w : World) → (plan_of high packet w).reason ≡ reason_of packet
unfolding plan_of plan_by
plan-reason high packet w =
    let x0 = old_endpoint w.slot w.transaction in
    status-reason high (state_at (slot_then w.slot) (transaction_then w.slot w.transactions (w.endpoints x0) w.transaction)) packet

-- nor from the shelf
pub plan-shelf : (high : Bool) (packet shelf : List ℕ) (w : World) → plan_of high packet (with_shelf shelf w) ≡ plan_of high packet w
plan-shelf high packet shelf w = sym (plan-bare high packet (with_shelf shelf w)) ∙ plan-bare high packet w

pub packet-is : (high : Bool) (packet : List ℕ) (time : ℕ) (w : World) → is_dropped w.slot w.transaction ≡ false → handle_raw_packet high packet time w ≡ played (plan_of high packet w) packet time (kept high (plan_of high packet w) packet w)
unfolding handle_raw_packet played
packet-is high packet time w h =
    let v = with_packet packet time w in
    by-slot high w.slot w.packets packet v h ∙ ap (λ (p : Plan). carried p w.packets (kept high p packet v)) (plan_same high packet time w)

-- the same, said of one world: that with the packet's payload on the shelf
pub packet-laden : (high : Bool) (packet : List ℕ) (time : ℕ) (w : World) → is_dropped w.slot w.transaction ≡ false
    → handle_raw_packet high packet time w ≡ (let v = kept high (plan_of high packet w) packet w in played (plan_of high packet v) packet time v)
packet-laden high packet time w h =
    let v = kept high (plan_of high packet w) packet w in
    packet-is high packet time w h ∙ ap (λ (p : Plan). played p packet time v) (sym (plan-shelf high packet v.shelf w))

-- a suspended transaction without its endpoint is dropped (answer 8)
pub dropped-is : (high : Bool) (packet : List ℕ) (time : ℕ) (w : World) → is_dropped w.slot w.transaction ≡ true
    → handle_raw_packet high packet time w ≡ with_slot Empty (with_packet packet time w)
unfolding handle_raw_packet transaction_update
dropped-is high packet time w h =
    let v = with_packet packet time w in
    ap (λ (c : Bool). pick c (with_slot Empty v) (update_from high w.packets packet (resume_at w.slot w.packets v))) h
