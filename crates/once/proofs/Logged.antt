-- The packet bytes, the packet row and the event row that each call appends.
use Prim.Native.Nat.{ℕ, zero, suc, pred}
use mathlib.Core.Bool.{Bool, true, false}
use mathlib.Core.List.{List, [], ◌∷◌, ◌++◌, append-nil}
use mathlib.Core.Path.{◌≡◌, refl, ap, ◌∙◌}
use lib.Dec.{eqb}
use Rattle.transaction.specs.Table.{pick}
use Rattle.endpoints.specs.States.{next_state}
use Rattle.endpoints.specs.Table.{with_state}
use Rattle.endpoints.specs.declared.Endpoint.{Endpoint}
use Rattle.endpoints.specs.declared.Phase.{Phase}
use Rattle.endpoints.specs.declared.Phase.TheVariants.{None, Early, Active, Ended}
use Rattle.std.specs.Prelude.{Option, Some, None as Absent}
use Rattle.rules.specs.Rows.{Row, log, PacketRow, EventRow, TransactionRow, naming, GroupRow, grouping, StateRow, StateBytes, T, G, Over}
use Rattle.rules.specs.World.{World, event_ep, last_group, push, stamped, with_shelf, with_keepalive, last_stamped}
use Rattle.rules.specs.Endpoints.{device_for, set_detail_on}
use Rattle.rules.specs.Groups.{states_from, add_group_entry, add_item, push_group}
use Rattle.rules.specs.Transactions.{transaction_end, is_dropped}
use Rattle.rules.specs.Events.{event_subgroup_start, event_add_group, Act, nothing, single, group, subgroup, keepalive, turn_of, event_act, event_update}
use Rattle.rules.specs.Decoder.{push_packet, handle_raw_packet, suspend, over_row, over_rows, end_all, handle_event, finish, handle_detail}
use Rattle.rules.specs.Demand.{Call, packet, event, detail, finishing, call}
use Rattle.update.specs.declared.Then.TheVariants.{Keep}
use Rattle.plan.specs.Step.{ended}
use Rattle.plan.specs.Packet.{plan_of, kept}
use Rattle.plan.specs.Ending.{ending_of, end_played}
use Rattle.once.specs.OnceLaws.{bytes_by}
use Rattle.plan.proofs.Ends.{ending-is}
use Rattle.plan.proofs.Frame.{row-log, act-log, when-keeps}
use Rattle.plan.proofs.Packet.{packet-is, dropped-is}
use Rattle.plan.proofs.Played.{log_untouched, ended-keeps, played-log}

-- a log that only the packet's own rows and the event's go to: 0, 3 or 4
module _ (k : ℕ) (one : eqb 1 k ≡ false) (two : eqb 2 k ≡ false) (five : eqb 5 k ≡ false) (six : eqb 6 k ≡ false) (seven : eqb 7 k ≡ false) (eight : eqb 8 k ≡ false) (nine : eqb 9 k ≡ false) (ten : eqb 10 k ≡ false) (eleven : eqb 11 k ≡ false) (twelve : eqb 12 k ≡ false) where
  abbrev logged : World → List ℕ
  logged w = log k w.journal

  end-log : (w : World) → logged (transaction_end false false w) ≡ logged w
  unfolding end_played
  end-log w =
      let e = ending_of w in
      ap logged (ending-is w) ∙ when-keeps logged e.ends (ended e.old e.end) (ended-keeps logged (log_untouched k one two five six seven eight nine ten eleven) e.old e.end) w

  overs-log : (n : ℕ) (f : ℕ → Endpoint) (js : List Row) → log k (over_rows n f js) ≡ log k js
  overs-log zero f js = refl
  overs-log (suc n) f js = by (f n).phase ∙ overs-log n f js
    where
      by : (p : Phase) → log k (over_row p n (pred (f n).groups) (over_rows n f js)) ≡ log k (over_rows n f js)
      by None = refl
      by Early = refl
      by Active = row-log k (Over n (pred (f n).groups)) (over_rows n f js) twelve
      by Ended = refl

  item-log : (x : ℕ) (w : World) → logged (add_item x w) ≡ logged w
  item-log x w = act-log k six seven eight nine ten (record { over = false; cut = false; link = false; start = false; group = Keep; end = false; item = true }) x w

  entry-log : (x : ℕ) (start : Bool) (w : World) → logged (add_group_entry x start w) ≡ logged w
  entry-log x start w =
      let f : ℕ → Endpoint = λ j. with_state (next_state (eqb j x) (eqb x event_ep) start (w.endpoints j).state) (w.endpoints j) in
      let b = StateBytes (states_from f 0 w.count) in
      row-log k (GroupRow (grouping x (last_group x w) start w.context)) (StateRow w.state_bytes ∷ b ∷ w.journal) six ∙ (row-log k (StateRow w.state_bytes) (b ∷ w.journal) eight ∙ row-log k b w.journal seven)

  subgroup-log : (n : ℕ) (w : World) → logged (event_subgroup_start n w) ≡ logged w
  subgroup-log n w =
      let v = transaction_end false false w in
      row-log k (T event_ep v.transactions) (TransactionRow (naming n v.context.reason) ∷ v.journal) ten ∙ (row-log k (TransactionRow (naming n v.context.reason)) v.journal five ∙ end-log w)

  group-log : (n : ℕ) (start : Bool) (w : World) → logged (event_add_group n start w) ≡ logged w
  group-log n start w =
      let v = event_subgroup_start n w in
      let i = pred (v.endpoints event_ep).transactions in
      item-log event_ep (add_group_entry event_ep start (push_group event_ep i v)) ∙ (entry-log event_ep start (push_group event_ep i v) ∙ (row-log k (G event_ep i) v.journal ten ∙ subgroup-log n w))

  act-is : (a : Act) (n : ℕ) (w : World) → logged (event_act a n w) ≡ logged w
  act-is nothing n w = refl
  act-is single n w = group-log n false w
  act-is group n w = group-log n true w
  act-is subgroup n w = subgroup-log n w
  act-is keepalive n w = by w.keepalive
    where
      by : (b : Bool) → logged (pick b (event_subgroup_start n w) (with_keepalive true (event_add_group n true w))) ≡ logged w
      by true = subgroup-log n w
      by false = group-log n true w

  event-log : (kind code time : ℕ) (w : World) → logged (handle_event kind code time w) ≡ (logged w ++ pick (eqb 3 k) (w.bytes ∷ time ∷ []) []) ++ pick (eqb 4 k) (w.packets ∷ code ∷ []) []
  unfolding handle_event event_update
  event-log kind code time w = by (eqb kind 0)
    where
      go : (u : World) → logged u ≡ logged w
          → logged (event_update w.packets kind (push (EventRow w.packets code) (push_packet w.bytes time u))) ≡ (logged w ++ pick (eqb 3 k) (w.bytes ∷ time ∷ []) []) ++ pick (eqb 4 k) (w.packets ∷ code ∷ []) []
      go u h =
          act-is (turn_of u.event_state kind).act w.packets (push (EventRow w.packets code) (push_packet w.bytes time u))
          ∙ ap (λ (l : List ℕ). (l ++ pick (eqb 3 k) (w.bytes ∷ time ∷ []) []) ++ pick (eqb 4 k) (w.packets ∷ code ∷ []) []) h

      by : (b : Bool) → logged (event_update w.packets kind (push (EventRow w.packets code) (push_packet w.bytes time (pick b (suspend (stamped time 0 w)) (end_all (stamped time 0 w))))))
          ≡ (logged w ++ pick (eqb 3 k) (w.bytes ∷ time ∷ []) []) ++ pick (eqb 4 k) (w.packets ∷ code ∷ []) []
      by true = go (suspend (stamped time 0 w)) refl
      by false =
          let v = transaction_end false false (stamped time 0 w) in
          go (end_all (stamped time 0 w)) (overs-log v.count v.endpoints v.journal ∙ end-log (stamped time 0 w))

  packet-log : (high : Bool) (p : List ℕ) (time : ℕ) (w : World) → logged (handle_raw_packet high p time w) ≡ (logged w ++ pick (eqb 0 k) p []) ++ pick (eqb 3 k) (w.bytes ∷ time ∷ []) []
  packet-log high p time w = by (is_dropped w.slot w.transaction) refl
    where
      by : (b : Bool) → is_dropped w.slot w.transaction ≡ b → logged (handle_raw_packet high p time w) ≡ (logged w ++ pick (eqb 0 k) p []) ++ pick (eqb 3 k) (w.bytes ∷ time ∷ []) []
      by true q = ap logged (dropped-is high p time w q)
      by false q = ap logged (packet-is high p time w q) ∙ played-log k one two five six seven eight nine ten eleven (plan_of high p w) p time (kept high (plan_of high p w) p w)

  detail-log : (g : Option ℕ) (number direction kind max : ℕ) (w : World) → logged (set_detail_on g number direction kind max w) ≡ logged w
  detail-log (Some d) number direction kind max w = refl
  detail-log Absent number direction kind max w = refl

-- a call's packet row, where n bytes stood before it
abbrev pub row_by : Call → ℕ → List ℕ
row_by (packet p time shelf) n = n ∷ time ∷ []
row_by (event kind code time) n = n ∷ time ∷ []
row_by (detail address number direction kind max) n = []
row_by finishing n = []

pub bytes_are : (high : Bool) (k : Call) (w : World) → w.journal ≡ [] → log 0 (call high k w).journal ≡ bytes_by k
unfolding handle_detail finish
bytes_are high (packet p time shelf) w h = packet-log 0 refl refl refl refl refl refl refl refl refl refl high p time (with_shelf shelf w) ∙ rw h (append-nil p)
bytes_are high (event kind code time) w h = event-log 0 refl refl refl refl refl refl refl refl refl refl kind code time w ∙ rw h
bytes_are high (detail address number direction kind max) w h = detail-log 0 refl refl refl refl refl refl refl refl refl refl (device_for address w) number direction kind max w ∙ rw h
bytes_are high finishing w h = end-log 0 refl refl refl refl refl refl refl refl refl refl (last_stamped w) ∙ rw h

pub rows_are : (high : Bool) (k : Call) (w : World) → w.journal ≡ [] → log 3 (call high k w).journal ≡ row_by k w.bytes
unfolding handle_detail finish
rows_are high (packet p time shelf) w h = packet-log 3 refl refl refl refl refl refl refl refl refl refl high p time (with_shelf shelf w) ∙ rw h
rows_are high (event kind code time) w h = event-log 3 refl refl refl refl refl refl refl refl refl refl kind code time w ∙ rw h
rows_are high (detail address number direction kind max) w h = detail-log 3 refl refl refl refl refl refl refl refl refl refl (device_for address w) number direction kind max w ∙ rw h
rows_are high finishing w h = end-log 3 refl refl refl refl refl refl refl refl refl refl (last_stamped w) ∙ rw h

-- a call's event row, where n packet rows stood before it
abbrev pub event_by : Call → ℕ → List ℕ
event_by (packet p time shelf) n = []
event_by (event kind code time) n = n ∷ code ∷ []
event_by (detail address number direction kind max) n = []
event_by finishing n = []

pub events_are : (high : Bool) (k : Call) (w : World) → w.journal ≡ [] → log 4 (call high k w).journal ≡ event_by k w.packets
unfolding handle_detail finish
events_are high (packet p time shelf) w h = packet-log 4 refl refl refl refl refl refl refl refl refl refl high p time (with_shelf shelf w) ∙ rw h
events_are high (event kind code time) w h = event-log 4 refl refl refl refl refl refl refl refl refl refl kind code time w ∙ rw h
events_are high (detail address number direction kind max) w h = detail-log 4 refl refl refl refl refl refl refl refl refl refl (device_for address w) number direction kind max w ∙ rw h
events_are high finishing w h = end-log 4 refl refl refl refl refl refl refl refl refl refl (last_stamped w) ∙ rw h
