-- The numbers that a world hands out (bytes, devices, endpoints, packets, transactions, groups, state bytes, items) count the rows of its journal, through every call.
use mathlib.Core.Path.{◌≡◌, refl, sym, ap, ◌∙◌}
use mathlib.Core.Bool.{Bool, true, false, ◌||◌}
use mathlib.Core.List.{List, [], ◌∷◌, ◌++◌, append-nil, append_assoc}
use Prim.Native.Nat.{ℕ, zero, suc, pred, ◌+◌, ◌*◌, ◌<◌}
use native.Mathlib.Nat.{zero-mul, suc-mul}
use native.Mathlib.Omega.{arith}
use borrow.Author.Tests.{eqb-true, ne_eqb}
use lib.Dec.{eqb}
use lib.ListN.{length, length-append}
use Rattle.rows.specs.Widths.{endpoint_width, group_width, packet_width, transaction_width, width_of}
use Rattle.usb.specs.Packet.{reason_of}
use Rattle.usb.specs.Fields.{token_of}
use Rattle.usb.specs.Pid.{SPLIT, MALFORMED}
use Rattle.transaction.specs.Table.{pick}
use Rattle.transaction.specs.Status.{transaction_status}
use Rattle.transaction.specs.declared.Judged.{Judged}
use Rattle.transaction.specs.declared.Status.{Status}
use Rattle.transaction.specs.declared.Status.TheVariants.{New, Continue, Retry, Done, Fail, Ambiguous, Invalid}
use Rattle.transaction.specs.declared.Style.{Style}
use Rattle.transaction.specs.declared.Style.TheVariants.{Nothing as NoStyle, Simple, Split, Token}
use Rattle.details.specs.Kind.{Unknown}
use Rattle.endpoints.specs.Table.{with_phase}
use Rattle.endpoints.specs.declared.Endpoint.{Endpoint}
use Rattle.std.specs.Prelude.{Option, Some, None as Absent}
use Rattle.endpoints.specs.declared.Phase.{Phase}
use Rattle.endpoints.specs.declared.Phase.TheVariants.{None, Early, Active, Ended}
use Rattle.group.specs.declared.Effect.{Effect}
use Rattle.group.specs.declared.Effect.TheVariants.{NoEffect, NewDevice, Request, PendingData, IndexData}
use Rattle.group.specs.declared.Grouped.{Grouped}
use Rattle.group.specs.declared.GroupStatus.{GroupStatus}
use Rattle.group.specs.declared.GroupStatus.TheVariants as group
use Rattle.rules.specs.Rows.{Row, BytesRow, DeviceRow, EndpointRow, PacketRow, EventRow, TransactionRow, GroupRow, StateRow, StateBytes, ItemRow, T, G, D, E, RequestRow, Over, written, log}
use Rattle.rules.specs.World.{with_shelf, stamped, World, phase, push, change, cleared, with_slot, with_keepalive, with_event_state, with_items, new_transaction, last_stamped}
use Rattle.rules.specs.Endpoints.{add_device, device_for, push_endpoint, add_endpoint_on, address_for, found, packet_endpoint_at, packet_endpoint, endpoint_of, set_detail_on}
use Rattle.rules.specs.Groups.{close_row, close_rows, add_item, states_from, add_group_entry, link, link_once, push_group, over, end_active, add_group, group_end_at, group_end, group_start_at, group_start, group_append_at, group_append, group_step, effect_step, grouped, becomes, group_update, undecided, group_early_append, starts_early, end_early, group_early_start}
use Rattle.rules.specs.Transactions.{transaction_end_at, transaction_end, append_token, transaction_append, push_transaction, begin as start, type_of, begin_on, begin_split, begin_plain, transaction_start, resume_at, state_at, completes, brought, extracted, update_at, update_from, is_dropped, transaction_update}
use Rattle.rules.specs.Events.{event_subgroup_start, event_add_group, Act, nothing, single, group, subgroup, keepalive, turn_of, event_act, event_update}
use Rattle.rules.specs.Decoder.{append_bytes, push_packet, handle_raw_packet, suspend, over_row, over_rows, end_all_active, end_all, handle_event, finish, handle_detail}
use Rattle.rules.specs.Demand.{Call, packet, event, detail, finishing, call}
use Rattle.rules.specs.declared.Slot.{Slot}
use Rattle.rules.specs.declared.Slot.TheVariants.{Empty, Current, Suspended}
use Rattle.rules.specs.declared.EventState.TheVariants.{Idle}

-- ---- words in a log

abbrev pub words_in : ℕ → List Row → ℕ
words_in k [] = 0
words_in k (r ∷ js) = pick (eqb (written r).0 k) (words_in k js + length (written r).1) (words_in k js)

pub log-words : (k : ℕ) (js : List Row) → length (log k js) ≡ words_in k js
log-words k [] = refl
log-words k (r ∷ js) =
    length-append (log k js) _ ∙ (ap (λ (m : ℕ). m + length (pick (eqb (written r).0 k) (written r).1 [])) (log-words k js) ∙ by (eqb (written r).0 k))
  where
    by : (b : Bool) → words_in k js + length (pick b (written r).1 []) ≡ pick b (words_in k js + length (written r).1) (words_in k js)
    by true = refl
    by false = omega arith

-- the rows of a later journal stand behind those of an earlier one
pub log-behind : (k : ℕ) (js base : List Row) → log k (js ++ base) ≡ log k base ++ log k js
log-behind k [] base = append_nil_sym (log k base)
  where
    append_nil_sym : (l : List ℕ) → l ≡ l ++ []
    append_nil_sym l = rw append-nil
log-behind k (r ∷ js) base = ap (λ (l : List ℕ). l ++ pick (eqb (written r).0 k) (written r).1 []) (log-behind k js base) ∙ append_assoc (log k base) (log k js) _

-- ---- rows of one width: of each log except 0 and 7, which are of bytes

pub written-width : (r : Row) → ¬ ((written r).0 ≡ 0) → ¬ ((written r).0 ≡ 7) → length (written r).1 ≡ width_of (written r).0
written-width (BytesRow bs) a b = absurd (a refl)
written-width (DeviceRow d) a b = refl
written-width (EndpointRow d n r) a b = refl
written-width (PacketRow s t) a b = refl
written-width (EventRow p c) a b = refl
written-width (TransactionRow r) a b = refl
written-width (GroupRow r) a b = refl
written-width (StateRow s) a b = refl
written-width (StateBytes ss) a b = absurd (b refl)
written-width (ItemRow g) a b = refl
written-width (T x t) a b = refl
written-width (G x t) a b = refl
written-width (D x t n) a b = refl
written-width (E x i) a b = refl
written-width (RequestRow r) a b = refl
written-width (Over x i) a b = refl

abbrev pub rows_in : ℕ → List Row → ℕ
rows_in k [] = 0
rows_in k (r ∷ js) = pick (eqb (written r).0 k) (suc (rows_in k js)) (rows_in k js)

rows_words : (k : ℕ) → ¬ (k ≡ 0) → ¬ (k ≡ 7) → (js : List Row) → words_in k js ≡ rows_in k js * width_of k
rows_words k a b [] = sym (zero-mul (width_of k))
rows_words k a b (r ∷ js) = by (eqb (written r).0 k) refl (rows_words k a b js)
  where
    width : (written r).0 ≡ k → length (written r).1 ≡ width_of k
    width q = written-width r (λ z. a (sym q ∙ z)) (λ z. b (sym q ∙ z)) ∙ ap width_of q

    by : (c : Bool) → eqb (written r).0 k ≡ c → words_in k js ≡ rows_in k js * width_of k
        → pick c (words_in k js + length (written r).1) (words_in k js) ≡ pick c (suc (rows_in k js)) (rows_in k js) * width_of k
    by true h e = rw (e, width (eqb-true (written r).0 k h), suc-mul (rows_in k js) (width_of k))
    by false h e = e

-- a log has so many rows of its width
pub log-rows : (k : ℕ) → ¬ (k ≡ 0) → ¬ (k ≡ 7) → (js : List Row) → length (log k js) ≡ rows_in k js * width_of k
log-rows k a b js = log-words k js ∙ rows_words k a b js

-- ---- the loops

-- as many state bytes as endpoints
states : (f : ℕ → Endpoint) (i m : ℕ) → length (states_from f i m) ≡ m
states f i zero = refl
states f i (suc m) = ap suc (states f (suc i) m)

-- closing rows are in the link log, ends in none

close-row : (k : ℕ) → k < 10 → (p : Phase) (x i : ℕ) (js : List Row) → words_in k (close_row p x i js) ≡ words_in k js
close-row k h None x i js = refl
close-row k h Early x i js = refl
close-row k h Active x i js = refl
close-row k h Ended x i js = rw (ne_eqb 10 k (λ e. omega arith))

close-rows : (k : ℕ) → k < 10 → (c i : ℕ) (f : ℕ → Endpoint) (js : List Row) → words_in k (close_rows c i f js) ≡ words_in k js
close-rows k h zero i f js = refl
close-rows k h (suc c) i f js = close-row k h (f c).phase c i (close_rows c i f js) ∙ close-rows k h c i f js

over-row : (k : ℕ) → k < 10 → (p : Phase) (x i : ℕ) (js : List Row) → words_in k (over_row p x i js) ≡ words_in k js
over-row k h None x i js = refl
over-row k h Early x i js = refl
over-row k h Active x i js = rw (ne_eqb 12 k (λ e. omega arith))
over-row k h Ended x i js = refl

over-rows : (k : ℕ) → k < 10 → (c : ℕ) (f : ℕ → Endpoint) (js : List Row) → words_in k (over_rows c f js) ≡ words_in k js
over-rows k h zero f js = refl
over-rows k h (suc c) f js = over-row k h (f c).phase c _ (over_rows c f js) ∙ over-rows k h c f js

-- ---- the numbers: of a world with these numbers, where n had others, and these words were logged

pub record Numbers (n : World) (bytes devices endpoints packets transactions groups marks items b d e p t g m i : ℕ) : Type 0 where
  pub bytes_are : bytes ≡ n.bytes + b
  pub devices_are : devices ≡ n.device_count + d
  pub endpoints_are : endpoints * endpoint_width ≡ n.count * endpoint_width + e
  pub packets_are : packets * packet_width ≡ n.packets * packet_width + p
  pub transactions_are : transactions * transaction_width ≡ n.transactions * transaction_width + t
  pub groups_are : groups * group_width ≡ n.groups * group_width + g
  pub marks_are : marks ≡ n.state_bytes + m
  pub items_are : items ≡ n.items + i

module _ (n : World) where
  abbrev pub CountedIn : World → List Row → Type 0
  CountedIn w js = Numbers n w.bytes w.device_count w.count w.packets w.transactions w.groups w.state_bytes w.items (words_in 0 js) (words_in 1 js) (words_in 2 js) (words_in 3 js) (words_in 5 js) (words_in 6 js) (words_in 7 js) (words_in 9 js)

  abbrev pub Counted : World → Type 0
  Counted w = CountedIn w w.journal

  -- ---- a row with its number

  device : (a : ℕ) (w : World) → Counted w → Counted (add_device a w)
  device a w l = record { bytes_are = l.bytes_are; devices_are = omega arith; endpoints_are = l.endpoints_are; packets_are = l.packets_are; transactions_are = l.transactions_are; groups_are = l.groups_are; marks_are = l.marks_are; items_are = l.items_are }

  endpoint : (d a : ℕ) (w : World) → Counted w → Counted (push_endpoint d a w)
  endpoint d a w l = record { bytes_are = l.bytes_are; devices_are = l.devices_are; endpoints_are = omega arith; packets_are = l.packets_are; transactions_are = l.transactions_are; groups_are = l.groups_are; marks_are = l.marks_are; items_are = l.items_are }

  bytes : (p : List ℕ) (w : World) → Counted w → Counted (append_bytes p w)
  bytes p w l = record { bytes_are = omega arith; devices_are = l.devices_are; endpoints_are = l.endpoints_are; packets_are = l.packets_are; transactions_are = l.transactions_are; groups_are = l.groups_are; marks_are = l.marks_are; items_are = l.items_are }

  packet-row : (s t : ℕ) (w : World) → Counted w → Counted (push_packet s t w)
  packet-row s t w l = record { bytes_are = l.bytes_are; devices_are = l.devices_are; endpoints_are = l.endpoints_are; packets_are = omega arith; transactions_are = l.transactions_are; groups_are = l.groups_are; marks_are = l.marks_are; items_are = l.items_are }

  transaction-row : (i : ℕ) (w : World) → Counted w → Counted (push_transaction i w)
  transaction-row i w l = record { bytes_are = l.bytes_are; devices_are = l.devices_are; endpoints_are = l.endpoints_are; packets_are = l.packets_are; transactions_are = omega arith; groups_are = l.groups_are; marks_are = l.marks_are; items_are = l.items_are }

  entry : (x : ℕ) (s : Bool) (w : World) → Counted w → Counted (add_group_entry x s w)
  entry x s w l = record { bytes_are = l.bytes_are; devices_are = l.devices_are; endpoints_are = l.endpoints_are; packets_are = l.packets_are; transactions_are = l.transactions_are; groups_are = omega arith; marks_are = simp states (omega arith); items_are = l.items_are }

  -- other rows, as many of them in each log that is counted
  same : (w : World) (js js' : List Row) → ((k : ℕ) → k < 10 → words_in k js' ≡ words_in k js) → CountedIn w js → CountedIn w js'
  same w js js' h l =
      rw (h 0 (omega arith), h 1 (omega arith), h 2 (omega arith), h 3 (omega arith), h 5 (omega arith), h 6 (omega arith), h 7 (omega arith), h 9 (omega arith)) l

  one-item : (w : World) → Counted w → CountedIn (with_items (suc w.items) w) (ItemRow (pred w.groups) ∷ w.journal)
  one-item w l = record { bytes_are = l.bytes_are; devices_are = l.devices_are; endpoints_are = l.endpoints_are; packets_are = l.packets_are; transactions_are = l.transactions_are; groups_are = l.groups_are; marks_are = l.marks_are; items_are = omega arith }

  item : (x : ℕ) (w : World) → Counted w → Counted (add_item x w)
  item x w l =
      same (with_items (suc w.items) w) (ItemRow (pred w.groups) ∷ w.journal) (add_item x w).journal
      (λ k h. close-rows k h w.count w.items w.endpoints (ItemRow (pred w.groups) ∷ w.journal))
      (one-item w l)

  -- ---- groups

  may : (b : Bool) (w v : World) → Counted w → Counted v → Counted (pick b w v)
  may true w v l m = l
  may false w v l m = m

  once : (x : ℕ) (w : World) → Counted w → Counted (link_once x w)
  once x w l = may w.transaction.linked w (link x w) l l

  end-active : (p : Phase) (x : ℕ) (w : World) → Counted w → Counted (end_active p x w)
  end-active None x w l = l
  end-active Early x w l = l
  end-active Active x w l = entry x false (over x w) l
  end-active Ended x w l = l

  adds : (x : ℕ) (w : World) → Counted w → Counted (add_group x w)
  adds x w l = item x (add_group_entry x true u) (entry x true u (once x (end_active (phase x w) x w) (end-active (phase x w) x w l)))
    where
      v : World
      v = link_once x (end_active (phase x w) x w)

      u : World
      u = push_group x v.transaction.link v

  end_at : (p : Phase) (x : ℕ) (w : World) → Counted w → Counted (group_end_at p x w)
  end_at None x w l = l
  end_at Early x w l = l
  end_at Active x w l = let v : World = add_group_entry x false (over x w) in may (eqb v.last_item x) v (add_item x v) (entry x false (over x w) l) (item x v (entry x false (over x w) l))
  end_at Ended x w l = l

  ends : (x : ℕ) (w : World) → Counted w → Counted (group_end x w)
  ends x w l = end_at (phase x w) x (change x cleared w) l

  start_at : (p : Phase) (d : Bool) (x : ℕ) (w : World) → Counted w → Counted (group_start_at p d x w)
  start_at None d x w l = adds x w l
  start_at Early d x w l = l
  start_at Active d x w l = adds x w l
  start_at Ended d x w l = adds x w l

  starts : (d : Bool) (x : ℕ) (w : World) → Counted w → Counted (group_start d x w)
  starts d x w l = start_at (phase x w) d x w l

  append_at : (p : Phase) (d : Bool) (x : ℕ) (w : World) → Counted w → Counted (group_append_at p d x w)
  append_at None d x w l = starts d x w l
  append_at Early d x w l = starts d x w l
  append_at Active true x w l = once x w l
  append_at Active false x w l = once x w l
  append_at Ended d x w l = starts d x w l

  appends : (d : Bool) (x : ℕ) (w : World) → Counted w → Counted (group_append d x w)
  appends d x w l = append_at (phase x w) d x w l

  step : (g : GroupStatus) (x : ℕ) (w : World) → Counted w → Counted (group_step g x w)
  step group.Single x w l = ends x (group_start true x w) (starts true x w l)
  step group.New x w l = starts true x w l
  step group.Continue x w l = appends true x w l
  step group.Retry x w l = appends false x w l
  step group.Done x w l = ends x (group_append true x w) (appends true x w l)
  step group.Invalid x w l = ends x (group_start false x w) (starts false x w l)

  effect : (g : Effect) (x : ℕ) (w : World) → Counted w → Counted (effect_step g x w)
  effect NoEffect x w l = l
  effect (NewDevice a) x w l = device a w l
  effect (Request m) x w l = l
  effect (PendingData m) x w l = l
  effect (IndexData m b i) x w l = l

  update : (x : ℕ) (s k : Bool) (w : World) → Counted w → Counted (group_update x s k w)
  unfolding group_update
  update x s k w l = effect r.effect x (group_step r.status x u) (step r.status x u l)
    where
      r : Grouped
      r = grouped x s k w

      u : World
      u = change x (becomes r.endpoint) w

  early-append : (w : World) → Counted w → Counted (group_early_append w)
  unfolding group_early_append
  early-append w l =
      may (eqb w.transaction.endpoint 0 || undecided (w.endpoints w.transaction.endpoint)) w (link_once w.transaction.endpoint w) l (once w.transaction.endpoint w l)

  end-early : (p : Phase) (x : ℕ) (w : World) → Counted w → Counted (end_early p x w)
  end-early None x w l = l
  end-early Early x w l = l
  end-early Active x w l = l
  end-early Ended x w l = l

  early-start : (pid x : ℕ) (w : World) → Counted w → Counted (group_early_start pid x w)
  unfolding group_early_start
  early-start pid x w l = let u : World = end_early (phase x w) x w in may (starts_early pid (phase x w)) (change x (with_phase Early) (add_group x u)) w (adds x u (end-early (phase x w) x w l)) l

  -- ---- transactions

  tr-end_at : (z : Slot) (s k : Bool) (w : World) → Counted w → Counted (transaction_end_at z s k w)
  tr-end_at Empty s k w l = l
  tr-end_at Current s k w l = may (eqb w.transaction.endpoint 0) w (group_update w.transaction.endpoint s k w) l (update w.transaction.endpoint s k w l)
  tr-end_at Suspended s k w l = l

  tr-end : (s k : Bool) (w : World) → Counted w → Counted (transaction_end s k w)
  tr-end s k w l = tr-end_at w.slot s k w l

  add_on : (g : Option ℕ) (d a : ℕ) (w : World) → Counted w → Counted (add_endpoint_on g d a w)
  add_on (Some i) d a w l = endpoint i a w l
  add_on Absent d a w l = endpoint w.device_count a (add_device d w) (device d w l)

  place_at : (g : Option ℕ) (pid : ℕ) (p : List ℕ) (w : World) → Counted w → Counted (packet_endpoint_at g pid p w)
  place_at (Some i) pid p w l = l
  place_at Absent pid p w l = add_on (device_for (token_of p).address w) (token_of p).address (address_for pid (token_of p).number) w l

  place : (pid : ℕ) (p : List ℕ) (w : World) → Counted w → Counted (packet_endpoint pid p w)
  place pid p w l = place_at (found pid p w) pid p w l

  token : (s : Style) (pid : ℕ) (p : List ℕ) (w : World) → Counted w → Counted (append_token s pid p w)
  token NoStyle pid p w l = l
  token (Simple first) pid p w l = l
  token (Split sc kind) pid p w l = place pid p w l
  token (Token sc kind first) pid p w l = l

  tr-append : (pid : ℕ) (p : List ℕ) (w : World) → Counted w → Counted (transaction_append pid p w)
  tr-append pid p w l = token w.transaction.style pid p w l

  tr-start : (i pid : ℕ) (p : List ℕ) (w : World) → Counted w → Counted (transaction_start i pid p w)
  tr-start i pid p w l = by (eqb pid MALFORMED) (eqb pid SPLIT)
    where
      v : World
      v = push_transaction i w

      r : Counted v
      r = transaction-row i w l

      by : (a b : Bool) → Counted (pick a (begin_on 1 Unknown pid w.transactions v) (pick b (begin_split p pid w.transactions v) (begin_plain pid p w.transactions v)))
      by true b = early-start pid 1 (start (new_transaction (Simple pid) w.transactions pid 1 Unknown) v) r
      by false true = r
      by false false = let x = endpoint_of pid p v in let u : World = packet_endpoint pid p v in early-start pid x (start (new_transaction (Simple pid) w.transactions pid x (type_of x u)) u) (place pid p v r)

  update-at : (high : Bool) (s : Status) (i pid : ℕ) (p : List ℕ) (k : Bool) (w : World) → Counted w → Counted (update_at high s i pid p k w)
  update-at high New i pid p k w l = let v : World = transaction_end false false (brought high pid p w) in early-append (transaction_start i pid p v) (tr-start i pid p v (tr-end false false (brought high pid p w) l))
  update-at high Continue i pid p k w l = early-append (transaction_append pid p (extracted high pid p w)) (tr-append pid p (extracted high pid p w) l)
  update-at high Retry i pid p k w l = tr-end true k (transaction_append pid p (extracted high pid p w)) (tr-append pid p (extracted high pid p w) l)
  update-at high Done i pid p k w l = tr-end true k (transaction_append pid p (extracted high pid p w)) (tr-append pid p (extracted high pid p w) l)
  update-at high Fail i pid p k w l = tr-end false k (transaction_append pid p (extracted high pid p w)) (tr-append pid p (extracted high pid p w) l)
  update-at high Ambiguous i pid p k w l = tr-append pid p (extracted high pid p w) l
  update-at high Invalid i pid p k w l = tr-end false false (transaction_start i pid p w) (tr-start i pid p w l)

  resume : (z : Slot) (i : ℕ) (w : World) → Counted w → Counted (resume_at z i w)
  resume Empty i w l = l
  resume Current i w l = l
  resume Suspended i w l = transaction-row i w l

  tr_update : (high : Bool) (i : ℕ) (p : List ℕ) (w : World) → Counted w → Counted (transaction_update high i p w)
  unfolding transaction_update
  tr_update high i p w l = may (is_dropped w.slot w.transaction) (with_slot Empty w) (update_from high i p u) l (update-at high j.status i j.pid p (completes (state_at u.slot u.transaction).style j.status) u (resume w.slot i w l))
    where
      u : World
      u = resume_at w.slot i w

      j : Judged
      j = transaction_status high (state_at u.slot u.transaction) p

  -- ---- events

  subgroup-row : (i : ℕ) (w : World) → Counted w → Counted (event_subgroup_start i w)
  subgroup-row i w l = transaction-row i (transaction_end false false w) (tr-end false false w l)

  group-rows : (i : ℕ) (s : Bool) (w : World) → Counted w → Counted (event_add_group i s w)
  group-rows i s w l = item 0 (add_group_entry 0 s u) (entry 0 s u (subgroup-row i w l))
    where
      v : World
      v = event_subgroup_start i w

      u : World
      u = push_group 0 (pred (v.endpoints 0).transactions) v

  act : (a : Act) (i : ℕ) (w : World) → Counted w → Counted (event_act a i w)
  act nothing i w l = l
  act single i w l = group-rows i false w l
  act group i w l = group-rows i true w l
  act subgroup i w l = subgroup-row i w l
  act keepalive i w l = may w.keepalive (event_subgroup_start i w) (with_keepalive true (event_add_group i true w)) (subgroup-row i w l) (group-rows i true w l)

  ev_update : (i kind : ℕ) (w : World) → Counted w → Counted (event_update i kind w)
  unfolding event_update
  ev_update i kind w l = act (turn_of w.event_state kind).act i w l

  end-all : (w : World) → Counted w → Counted (end_all w)
  end-all w l = let v : World = transaction_end false false w in same v v.journal (end_all_active v).journal (λ k h. over-rows k h v.count v.endpoints v.journal) (tr-end false false w l)

  -- ---- the calls

  packets : (high : Bool) (p : List ℕ) (time : ℕ) (w : World) → Counted w → Counted (handle_raw_packet high p time w)
  unfolding handle_raw_packet
  packets high p time w l = tr_update high w.packets p (push_packet w.bytes time v) (packet-row w.bytes time v (bytes p (with_event_state Idle (stamped time (reason_of p) w)) l))
    where
      v : World
      v = append_bytes p (with_event_state Idle (stamped time (reason_of p) w))

  events : (kind code time : ℕ) (w : World) → Counted w → Counted (handle_event kind code time w)
  unfolding handle_event
  events kind code time w l =
      ev_update w.packets kind (push (EventRow w.packets code) (push_packet w.bytes time v)) (packet-row w.bytes time v (may (eqb kind 0) (suspend (stamped time 0 w)) (end_all (stamped time 0 w)) l (end-all (stamped time 0 w) l)))
    where
      v : World
      v = pick (eqb kind 0) (suspend (stamped time 0 w)) (end_all (stamped time 0 w))

  details : (g : Option ℕ) (number direction kind max : ℕ) (w : World) → Counted w → Counted (set_detail_on g number direction kind max w)
  details (Some i) number direction kind max w l = l
  details Absent number direction kind max w l = l

  pub counts : (high : Bool) (k : Call) (w : World) → Counted w → Counted (call high k w)
  unfolding handle_detail finish
  counts high (packet p time shelf) w l = packets high p time (with_shelf shelf w) l
  counts high (event kind code time) w l = events kind code time w l
  counts high (detail a number r kind m) w l = details (device_for a w) number r kind m w l
  counts high finishing w l = tr-end false false (last_stamped w) l
