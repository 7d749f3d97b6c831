-- A malformed packet is grouped whatever its reason: its steps are those of any other, and none of them reads the reason but to write it.
use Prim.Native.Nat.{ℕ, zero, suc, pred, ◌+◌}
use mathlib.Core.Path.{◌≡◌, refl, sym, ap, subst, ◌∙◌}
use mathlib.Core.Bool.{Bool, true, false}
use mathlib.Core.List.{List, [], ◌∷◌, map}
use lib.ListN.{length}
use Rattle.usb.specs.Packet.{reason_of, checked_of}
use Rattle.usb.proofs.Laws.{why_of, why-is, reason-none}
use Rattle.std.specs.Prelude.{Result, Ok, Err}
use Rattle.usb.specs.declared.reason.Reason.{Reason}
use Rattle.transaction.specs.Payload.{extract_payload}
use Rattle.transaction.specs.Status.{malformed, judged_of, transaction_status}
use Rattle.transaction.specs.declared.Judged.{Judged}
use Rattle.transaction.specs.declared.Transaction.{Transaction}
use Rattle.group.specs.declared.Effect.{Effect}
use Rattle.group.specs.declared.Effect.TheVariants.{NoEffect, NewDevice, Request, PendingData, IndexData}
use Rattle.endpoints.specs.declared.Endpoint.{Endpoint}
use Rattle.endpoints.specs.declared.Phase.{Phase}
use Rattle.endpoints.specs.declared.Phase.TheVariants.{None, Early, Active, Ended}
use Rattle.endpoints.specs.Table.{with_phase}
use Rattle.rules.specs.Rows.{Row, ItemRow, PacketRow, BytesRow}
use Rattle.rules.specs.World.{World, stamp, push, change, change_device, with_endpoints, with_transaction, with_items, with_last_item, with_journal, with_slot}
use Rattle.rules.specs.Endpoints.{add_device, push_endpoint, typed}
use Rattle.rules.specs.Groups.{close_phase, close_row, close_rows, add_group_entry, add_item, push_group, effect_step, becomes}
use Rattle.rules.specs.Transactions.{push_transaction, is_dropped, state_at}
use Rattle.rules.specs.Decoder.{handle_raw_packet}
use Rattle.rules.specs.declared.EventState.TheVariants.{Idle}
use Rattle.rules.specs.declared.Slot.TheVariants.{Empty}
use Rattle.update.specs.Update.{when, become, act, start_group}
use Rattle.update.specs.declared.Then.{Then}
use Rattle.update.specs.declared.Then.TheVariants.{Keep, Begin, BeginFailed, Last, BeginEarly}
use Rattle.update.specs.declared.Update.{Update}
use Rattle.plan.specs.Step.{opened, begun, ended}
use Rattle.plan.specs.Packet.{slot_then, old_endpoint, transaction_then, entry_then, starting, plan_by, plan_of, kept, with_packet, played}
use Rattle.plan.specs.declared.Begin.{Begin as Beginning}
use Rattle.plan.specs.declared.End.{End}
use Rattle.plan.specs.declared.Plan.{Plan}
use Rattle.plan.proofs.Frame.{Past, when_past, then_past, act_past}
use Rattle.plan.proofs.Packet.{packet-is, dropped-is}
use Rattle.demands.specs.Reasons.{plain, plainly, SameGrouping}

-- ---- no step reads the reason but to write it

close-plain : (ph : Phase) (x i : ℕ) (js : List Row) → close_row ph x i (map plain js) ≡ map plain (close_row ph x i js)
close-plain None x i js = refl
close-plain Early x i js = refl
close-plain Active x i js = refl
close-plain Ended x i js = refl

rows-plain : (n i : ℕ) (f : ℕ → Endpoint) (js : List Row) → close_rows n i f (map plain js) ≡ map plain (close_rows n i f js)
rows-plain zero i f js = refl
rows-plain (suc n) i f js = ap (close_row (f n).phase n i) (rows-plain n i f js) ∙ close-plain (f n).phase n i (close_rows n i f js)

item-plain : (x : ℕ) → Past plainly (add_item x)
item-plain x w =
    let v = with_last_item x (with_items (suc w.items) (push (ItemRow (pred w.groups)) w)) in
    λ i. with_endpoints (λ j. with_phase (close_phase (w.endpoints j).phase) (w.endpoints j)) (with_journal (rows-plain w.count w.items w.endpoints v.journal i) (plainly v))

start_plain : (x : ℕ) → Past plainly (start_group x)
start_plain x w = item-plain x (add_group_entry x true (push_group x w.transaction.link w))

become-plain : (x : ℕ) (t : Then) → Past plainly (become t x)
become-plain x Keep w = refl
become-plain x Begin w = refl
become-plain x BeginFailed w = refl
become-plain x Last w = refl
become-plain x BeginEarly w = refl

act-plain : (u : Update) (x : ℕ) → Past plainly (act u x)
act-plain u x = act_past plainly x (record { over = λ w. refl; cut = λ w. refl; link = λ w. refl; start = start_plain x; group = become-plain x; end = λ w. refl; item = item-plain x }) u

opened-plain : (id : ℕ) (s : Beginning) → Past plainly (opened id s)
unfolding opened
opened-plain id s =
    then_past plainly (λ v. when s.endpoint (push_endpoint s.place s.number) (when s.device (add_device s.owner) (when s.row (push_transaction id) v))) (when s.types (change_device s.place (typed s.number s.kind)))
    (then_past plainly (λ v. when s.device (add_device s.owner) (when s.row (push_transaction id) v)) (when s.endpoint (push_endpoint s.place s.number))
    (then_past plainly (when s.row (push_transaction id)) (when s.device (add_device s.owner)) (when_past plainly s.row (push_transaction id) (λ w. refl)) (when_past plainly s.device (add_device s.owner) (λ w. refl)))
    (when_past plainly s.endpoint (push_endpoint s.place s.number) (λ w. refl)))
    (when_past plainly s.types (change_device s.place (typed s.number s.kind)) (λ w. refl))

begun-plain : (id : ℕ) (s : Beginning) → Past plainly (begun id s)
unfolding begun
begun-plain id s w =
    ap (λ (v : World). act s.update s.transaction.endpoint (with_transaction s.transaction v)) (opened-plain id s w)
    ∙ act-plain s.update s.transaction.endpoint (with_transaction s.transaction (opened id s w))

effect-plain : (f : Effect) (x : ℕ) → Past plainly (effect_step f x)
effect-plain NoEffect x w = refl
effect-plain (NewDevice address) x w = refl
effect-plain (Request n) x w = refl
effect-plain (PendingData n) x w = refl
effect-plain (IndexData n waited i) x w = refl

ended-plain : (x : ℕ) (s : End) → Past plainly (ended x s)
unfolding ended
ended-plain x s w =
    ap (effect_step s.effect x) (act-plain s.update x (change x (becomes s.entry) w))
    ∙ effect-plain s.effect x (act s.update x (change x (becomes s.entry) w))

-- ---- so the steps of a plan

-- behind the packet's rows
abbrev steps : Plan → ℕ → World → World
steps p id v =
    with_slot p.slot
    (when p.closes (ended p.begin.transaction.endpoint p.close)
    (begun id p.begin
    (when p.ends (λ u. ended p.old p.end (with_transaction p.brought u))
    (when p.resumes (begun id p.resume) v))))

steps-plain : (p : Plan) (id : ℕ) → Past plainly (steps p id)
steps-plain p id =
    then_past plainly (λ v. when p.closes (ended p.begin.transaction.endpoint p.close) (begun id p.begin (when p.ends (λ u. ended p.old p.end (with_transaction p.brought u)) (when p.resumes (begun id p.resume) v)))) (with_slot p.slot)
    (then_past plainly (λ v. begun id p.begin (when p.ends (λ u. ended p.old p.end (with_transaction p.brought u)) (when p.resumes (begun id p.resume) v))) (when p.closes (ended p.begin.transaction.endpoint p.close))
    (then_past plainly (λ v. when p.ends (λ u. ended p.old p.end (with_transaction p.brought u)) (when p.resumes (begun id p.resume) v)) (begun id p.begin)
    (then_past plainly (when p.resumes (begun id p.resume)) (when p.ends (λ u. ended p.old p.end (with_transaction p.brought u)))
    (when_past plainly p.resumes (begun id p.resume) (begun-plain id p.resume))
    (when_past plainly p.ends (λ u. ended p.old p.end (with_transaction p.brought u)) (λ u. ended-plain p.old p.end (with_transaction p.brought u))))
    (begun-plain id p.begin))
    (when_past plainly p.closes (ended p.begin.transaction.endpoint p.close) (ended-plain p.begin.transaction.endpoint p.close)))
    (λ w. refl)

-- the packet's rows are the same, but for its bytes
rows_alike : (p q : List ℕ) (time : ℕ) (w : World) → length p ≡ length q → plainly (with_packet p time w) ≡ plainly (with_packet q time w)
rows_alike p q time w e = λ i. with_bytes_of (e i)
  where
    with_bytes_of : ℕ → World
    with_bytes_of n =
        record {
          endpoints = w.endpoints;
          count = w.count;
          devices = w.devices;
          device_count = w.device_count;
          slot = w.slot;
          transaction = w.transaction;
          last_item = w.last_item;
          event_state = Idle;
          keepalive = w.keepalive;
          context = stamp w.packets time 0;
          shelf = w.shelf;
          bytes = w.bytes + n;
          packets = suc w.packets;
          transactions = w.transactions;
          groups = w.groups;
          state_bytes = w.state_bytes;
          items = w.items;
          journal = PacketRow w.bytes time ∷ BytesRow [] ∷ map plain w.journal;
        }

-- ---- the steps of a malformed packet are those of any other

abbrev steps_of : Bool → ℕ → World → Plan
steps_of high reason w =
    let x0 = old_endpoint w.slot w.transaction in
    let e = w.endpoints x0 in
    plan_by high (malformed reason) x0 (entry_then w.slot e) (transaction_then w.slot w.transactions e w.transaction) [] w

malformed-judged : (high : Bool) (t : Transaction) (p : List ℕ) → (reason_of p ≡ 0 → ⊥) → transaction_status high t p ≡ malformed (reason_of p)
unfolding transaction_status
malformed-judged high t p h = by (checked_of p) refl
  where
    by : (c : Result ℕ Reason) → checked_of p ≡ c → judged_of high t c (length p) ≡ malformed (reason_of p)
    by (Ok pid) e = absurd (h (reason-none p pid e))
    by (Err reason) e = ap malformed (sym (ap why_of e) ∙ why-is p)

-- none of its bytes is looked at
bytes-unread : (high : Bool) (reason x0 : ℕ) (e : Endpoint) (t : Transaction) (p : List ℕ) (w : World) → plan_by high (malformed reason) x0 e t p w ≡ plan_by high (malformed reason) x0 e t [] w
unfolding plan_by starting extract_payload
bytes-unread true reason x0 e t p w = refl
bytes-unread false reason x0 e t p w = refl

plan-malformed : (high : Bool) (p : List ℕ) (w : World) → (reason_of p ≡ 0 → ⊥) → plan_of high p w ≡ steps_of high (reason_of p) w
unfolding plan_of
plan-malformed high p w h =
    let x0 = old_endpoint w.slot w.transaction in
    let e = w.endpoints x0 in
    let t = transaction_then w.slot w.transactions e w.transaction in
    ap (λ (j : Judged). plan_by high j x0 (entry_then w.slot e) t p w) (malformed-judged high (state_at (slot_then w.slot) t) p h)
    ∙ bytes-unread high (reason_of p) x0 (entry_then w.slot e) t p w

-- it lays nothing by, and `played` does not read its reason
malformed-is : (high : Bool) (p : List ℕ) (time : ℕ) (w : World) → (reason_of p ≡ 0 → ⊥) → is_dropped w.slot w.transaction ≡ false → handle_raw_packet high p time w ≡ steps (steps_of high 0 w) w.packets (with_packet p time w)
unfolding played plan_by starting
malformed-is high p time w h live =
    packet-is high p time w live
    ∙ ap (λ (a : Plan). played a p time (kept high a p w)) (plan-malformed high p w h)

pub same-grouping : SameGrouping
same-grouping high p q time w h g e = by (is_dropped w.slot w.transaction) refl
  where
    by : (b : Bool) → is_dropped w.slot w.transaction ≡ b → plainly (handle_raw_packet high p time w) ≡ plainly (handle_raw_packet high q time w)
    by true d = ap plainly (dropped-is high p time w d) ∙ (ap (with_slot Empty) (rows_alike p q time w e) ∙ ap plainly (sym (dropped-is high q time w d)))
    by false d =
        let s = steps (steps_of high 0 w) w.packets in
        let past = steps-plain (steps_of high 0 w) w.packets in
        ap plainly (malformed-is high p time w h d)
        ∙ (sym (past (with_packet p time w)) ∙ (ap s (rows_alike p q time w e) ∙ (past (with_packet q time w) ∙ ap plainly (sym (malformed-is high q time w g d)))))
