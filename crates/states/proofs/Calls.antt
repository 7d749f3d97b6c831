-- Every call adds its state rows behind those that were there: one walk over the steps of a call (plan), since only `add_group_entry` adds such rows.
use Prim.Native.Nat.{ℕ, zero, suc, pred, ◌+◌, ◌/◌, ◌≤◌}
use native.Mathlib.Omega.{arith}
use mathlib.Core.Bool.{Bool, true, false}
use mathlib.Core.List.{List, ◌∷◌}
use mathlib.Core.Path.{◌≡◌, refl, sym, ap, subst}
use lib.Dec.{eqb}
use lib.ListN.{length}
use Rattle.usb.specs.Packet.{reason_of}
use Rattle.transaction.specs.Table.{pick}
use Rattle.details.specs.Details.{number_of}
use Rattle.std.specs.Prelude.{Option, Some, None as Absent}
use Rattle.endpoints.specs.declared.Endpoint.{Endpoint}
use Rattle.endpoints.specs.declared.Phase.{Phase}
use Rattle.endpoints.specs.declared.Phase.TheVariants.{None, Early, Active, Ended}
use Rattle.descriptors.specs.Complete.{note_by}
use Rattle.group.specs.declared.Effect.{Effect}
use Rattle.group.specs.declared.Effect.TheVariants.{NoEffect, NewDevice, Request, PendingData, IndexData}
use Rattle.rules.specs.Rows.{Row, BytesRow, DeviceRow, EndpointRow, PacketRow, EventRow, TransactionRow, naming, GroupRow, grouping, ItemRow, T, G, D, E, RequestRow, asking, Over}
use Rattle.rules.specs.World.{World, stamped, event_ep, last_group, push, change, cleared, with_transaction, with_event_state, with_keepalive, with_shelf, change_device, last_stamped}
use Rattle.rules.specs.Endpoints.{add_device, device_for, push_endpoint, typed, set_detail_on}
use Rattle.rules.specs.Groups.{close_row, close_rows, add_item, states_from, add_group_entry, link, push_group, over, asked_of, effect_step, becomes, add_endpoint_state}
use Rattle.rules.specs.Transactions.{transaction_end, push_transaction, is_dropped}
use Rattle.rules.specs.Events.{event_subgroup_start, event_add_group, Act, nothing, single, group, subgroup, keepalive, turn_of, event_act, event_update}
use Rattle.rules.specs.Decoder.{append_bytes, push_packet, handle_raw_packet, suspend, over_row, over_rows, end_all, handle_event, finish, handle_detail}
use Rattle.rules.specs.Demand.{Call, packet, event, detail, finishing, call}
use Rattle.rules.specs.declared.EventState.TheVariants.{Idle}
use Rattle.update.specs.Update.{when, become, act}
use Rattle.update.specs.declared.Update.{Update}
use Rattle.update.specs.declared.Then.{Then}
use Rattle.update.specs.declared.Then.TheVariants.{Keep, Begin, BeginFailed, Last, BeginEarly}
use Rattle.plan.specs.Step.{opened, begun, ended}
use Rattle.plan.specs.Packet.{kept, plan_of, played}
use Rattle.plan.specs.Ending.{ending_of, end_played}
use Rattle.plan.specs.Sound.{world1, world2, world3, world4}
use Rattle.plan.specs.declared.Begin.{Begin as Beginning}
use Rattle.plan.specs.declared.End.{End}
use Rattle.plan.specs.declared.Plan.{Plan}
use Rattle.plan.proofs.Frame.{Parts, by_parts}
use Rattle.plan.proofs.Small.{when-holds}
use Rattle.plan.proofs.Packet.{packet-is, dropped-is}
use Rattle.plan.proofs.Ends.{ending-is}
use Rattle.states.proofs.Tiled.{Tiled, other, state, wider}

-- as many state bytes as endpoints
length-states : (f : ℕ → Endpoint) (i n : ℕ) → length (states_from f i n) ≡ n
length-states f i zero = refl
length-states f i (suc n) = ap suc (length-states f (suc i) n)

-- the journal of a call before which there were b state bytes
module _ (b : ℕ) where
  abbrev pub In : World → Type 0
  In w = Tiled b w.count w.journal w.state_bytes

  abbrev Keeps : (World → World) → Type 0
  Keeps f = (w : World) → In w → In (f w)

  -- ---- the rows of groups

  entry-keeps : (x : ℕ) (start : Bool) → Keeps (add_group_entry x start)
  entry-keeps x start w h = other (GroupRow (grouping x (last_group x w) start w.context)) refl refl (state _ _ (few (add_endpoint_state x start w).endpoints 0 w.count) (many (add_endpoint_state x start w).endpoints 0 w.count) h)
    where
      few : (f : ℕ → Endpoint) (i n : ℕ) → length (states_from f i n) ≤ n
      few f i n = omega (arith, length-states f i n)

      many : (f : ℕ → Endpoint) (i n : ℕ) → w.state_bytes + n ≡ w.state_bytes + length (states_from f i n)
      many f i n = omega (arith, length-states f i n)

  module _ (c n : ℕ) where
    close-rows : (k i : ℕ) (f : ℕ → Endpoint) (js : List Row) → Tiled b c js n → Tiled b c (close_rows k i f js) n
    close-rows zero i f js h = h
    close-rows (suc k) i f js h = by (f k).phase (close-rows k i f js h)
      where
        by : (p : Phase) → Tiled b c (close_rows k i f js) n → Tiled b c (close_row p k i (close_rows k i f js)) n
        by None g = g
        by Early g = g
        by Active g = g
        by Ended g = other (E k i) refl refl g

    over-rows : (k : ℕ) (f : ℕ → Endpoint) (js : List Row) → Tiled b c js n → Tiled b c (over_rows k f js) n
    over-rows zero f js h = h
    over-rows (suc k) f js h = by (f k).phase (over-rows k f js h)
      where
        by : (p : Phase) → Tiled b c (over_rows k f js) n → Tiled b c (over_row p k (pred (f k).groups) (over_rows k f js)) n
        by None g = g
        by Early g = g
        by Active g = other (Over k (pred (f k).groups)) refl refl g
        by Ended g = g

  item-keeps : (x : ℕ) → Keeps (add_item x)
  item-keeps x w h = close-rows w.count w.state_bytes w.count w.items w.endpoints (ItemRow (pred w.groups) ∷ w.journal) (other (ItemRow (pred w.groups)) refl refl h)

  over-keeps : (x : ℕ) → Keeps (over x)
  over-keeps x w h = other (Over x (last_group x w)) refl refl h

  group-keeps : (x i : ℕ) → Keeps (push_group x i)
  group-keeps x i w h = other (G x i) refl refl h

  -- ---- an update, part by part

  parts : (x : ℕ) → Parts Keeps x
  parts x =
      record {
        over = over-keeps x;
        cut = λ w h. entry-keeps x false (over x w) (over-keeps x w h);
        link = λ w h. other (T x w.transaction.id) refl refl h;
        start = λ w h. let v = push_group x w.transaction.link w in item-keeps x (add_group_entry x true v) (entry-keeps x true v (group-keeps x w.transaction.link w h));
        group = becoming;
        end = λ w h. let v = change x cleared w in entry-keeps x false (over x v) (over-keeps x v h);
        item = item-keeps x;
      }
    where
      becoming : (g : Then) → Keeps (become g x)
      becoming Keep w h = h
      becoming Begin w h = h
      becoming BeginFailed w h = h
      becoming Last w h = h
      becoming BeginEarly w h = h

  may : (c : Bool) (f : World → World) → Keeps f → Keeps (when c f)
  may c f k w h = when-holds In c f w h k

  act-keeps : (u : Update) (x : ℕ) → Keeps (act u x)
  act-keeps u x = by_parts Keeps may (λ f g p q w h. q (f w) (p w h)) x (parts x) u

  effect-keeps : (f : Effect) (x : ℕ) → Keeps (effect_step f x)
  effect-keeps NoEffect x w h = h
  effect-keeps (NewDevice address) x w h = other (DeviceRow address) refl refl h
  effect-keeps (Request n) x w h = other (RequestRow (asking x (w.endpoints x).setup n (note_by (asked_of n x w) w.shelf))) refl refl h
  effect-keeps (PendingData n) x w h = h
  effect-keeps (IndexData n waited i) x w h = other (D x (pick waited i w.transaction.link) (w.endpoints x).total) refl refl h

  -- ---- the steps of a call

  row_keeps : (id : ℕ) → Keeps (push_transaction id)
  row_keeps id w h = other (TransactionRow (naming id w.context.reason)) refl refl h

  endpoint-keeps : (d address : ℕ) → Keeps (push_endpoint d address)
  endpoint-keeps d address w h = other (EndpointRow d (number_of address) (address / 128)) refl refl (wider (omega arith) h)

  opened-keeps : (id : ℕ) (s : Beginning) → Keeps (opened id s)
  unfolding opened
  opened-keeps id s w h =
      may s.types (change_device s.place (typed s.number s.kind)) (λ v g. g) _
      (may s.endpoint (push_endpoint s.place s.number) (endpoint-keeps s.place s.number) _
      (may s.device (add_device s.owner) (λ v g. other (DeviceRow s.owner) refl refl g) _ (may s.row (push_transaction id) (row_keeps id) w h)))

  begun-keeps : (id : ℕ) (s : Beginning) → Keeps (begun id s)
  unfolding begun
  begun-keeps id s w h = act-keeps s.update s.transaction.endpoint (with_transaction s.transaction (opened id s w)) (opened-keeps id s w h)

  ended-keeps : (x : ℕ) (s : End) → Keeps (ended x s)
  unfolding ended
  ended-keeps x s w h = let v = change x (becomes s.entry) w in effect-keeps s.effect x (act s.update x v) (act-keeps s.update x v h)

  played-keeps : (p : Plan) (bytes : List ℕ) (time : ℕ) (w : World) → In (world1 bytes time w) → In (played p bytes time w)
  unfolding played
  played-keeps p bytes time w h =
      may p.closes (ended p.begin.transaction.endpoint p.close) (ended-keeps p.begin.transaction.endpoint p.close) (world4 p bytes time w)
      (begun-keeps w.packets p.begin (world3 p bytes time w)
      (may p.ends (λ v. ended p.old p.end (with_transaction p.brought v)) (λ v g. ended-keeps p.old p.end (with_transaction p.brought v) g) (world2 p bytes time w)
      (may p.resumes (begun w.packets p.resume) (begun-keeps w.packets p.resume) (world1 bytes time w) h)))

  end-keeps : Keeps (transaction_end false false)
  unfolding end_played
  end-keeps w h = let e = ending_of w in subst In (sym (ending-is w)) (may e.ends (ended e.old e.end) (ended-keeps e.old e.end) w h)

  -- ---- a packet

  packet-row : (start time : ℕ) → Keeps (push_packet start time)
  packet-row start time w h = other (PacketRow start time) refl refl h

  packet-keeps : (high : Bool) (bytes : List ℕ) (time : ℕ) → Keeps (handle_raw_packet high bytes time)
  packet-keeps high bytes time w h = by (is_dropped w.slot w.transaction) refl
    where
      rowed : In (world1 bytes time w)
      rowed = packet-row w.bytes time (append_bytes bytes (with_event_state Idle (stamped time (reason_of bytes) w))) (other (BytesRow bytes) refl refl h)

      by : (c : Bool) → is_dropped w.slot w.transaction ≡ c → In (handle_raw_packet high bytes time w)
      by true q = subst In (sym (dropped-is high bytes time w q)) rowed
      by false q = subst In (sym (packet-is high bytes time w q)) (played-keeps (plan_of high bytes w) bytes time (kept high (plan_of high bytes w) bytes w) rowed)

  -- ---- an event

  subgroup-keeps : (id : ℕ) → Keeps (event_subgroup_start id)
  subgroup-keeps id w h = let v = transaction_end false false w in other (T event_ep (pred (push_transaction id v).transactions)) refl refl (row_keeps id v (end-keeps w h))

  event-group : (id : ℕ) (start : Bool) → Keeps (event_add_group id start)
  event-group id start w h =
      let v = event_subgroup_start id w in
      let t = pred (v.endpoints event_ep).transactions in
      let u = push_group event_ep t v in
      item-keeps event_ep (add_group_entry event_ep start u) (entry-keeps event_ep start u (group-keeps event_ep t v (subgroup-keeps id w h)))

  turn-keeps : (a : Act) (id : ℕ) → Keeps (event_act a id)
  turn-keeps nothing id w h = h
  turn-keeps single id w h = event-group id false w h
  turn-keeps group id w h = event-group id true w h
  turn-keeps subgroup id w h = subgroup-keeps id w h
  turn-keeps keepalive id w h = by w.keepalive
    where
      by : (c : Bool) → In (pick c (event_subgroup_start id w) (with_keepalive true (event_add_group id true w)))
      by true = subgroup-keeps id w h
      by false = event-group id true w h

  all-keeps : Keeps end_all
  all-keeps w h = let v = transaction_end false false w in over-rows v.count v.state_bytes v.count v.endpoints v.journal (end-keeps w h)

  event-keeps : (kind code time : ℕ) → Keeps (handle_event kind code time)
  unfolding handle_event event_update
  event-keeps kind code time w h = by (eqb kind 0)
    where
      by : (c : Bool) → In (event_update w.packets kind (push (EventRow w.packets code) (push_packet w.bytes time (pick c (suspend (stamped time 0 w)) (end_all (stamped time 0 w))))))
      by c =
          let v = pick c (suspend (stamped time 0 w)) (end_all (stamped time 0 w)) in
          let u = push (EventRow w.packets code) (push_packet w.bytes time v) in
          turn-keeps (turn_of u.event_state kind).act w.packets u (other (EventRow w.packets code) refl refl (packet-row w.bytes time v (before c)))
        where
          before : (c : Bool) → In (pick c (suspend (stamped time 0 w)) (end_all (stamped time 0 w)))
          before true = h
          before false = all-keeps (stamped time 0 w) h

  -- ---- every call

  detail-keeps : (g : Option ℕ) (number direction kind max : ℕ) → Keeps (set_detail_on g number direction kind max)
  detail-keeps (Some d) number direction kind max w h = h
  detail-keeps Absent number direction kind max w h = h

  pub call-keeps : (high : Bool) (k : Call) → Keeps (call high k)
  unfolding handle_detail finish
  call-keeps high (packet bytes time shelf) w h = packet-keeps high bytes time (with_shelf shelf w) h
  call-keeps high (event kind code time) w h = event-keeps kind code time w h
  call-keeps high (detail a number r kind m) w h = detail-keeps (device_for a w) number r kind m w h
  call-keeps high finishing w h = end-keeps (last_stamped w) h
