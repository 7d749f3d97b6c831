-- A tally stays small: a step adds at most 4096 to any of its numbers, and an item only moves those that wait to the links.
use Prim.Native.Nat.{ℕ, ◌+◌, ◌-◌, ◌≤◌, ◌^◌}
use native.Mathlib.Omega.{arith}
use mathlib.Core.Bool.{true}
use mathlib.Core.List.{List}
use mathlib.Core.Path.{◌≡◌, refl, sym, subst}
use mathlib.Core.Bool.{Bool, true, false, not}
use Rattle.rows.specs.One.{one}
use Rattle.group.specs.Step.{is_active}
use Rattle.group.specs.declared.Effect.{Effect}
use Rattle.group.specs.declared.Effect.TheVariants.{NoEffect, NewDevice, Request, PendingData, IndexData}
use Rattle.rules.specs.Events as rules
use Rattle.tally.specs.Tally.{Within, none, add_waiting, add_device, add_transaction, add_link, add_entry, add_item, add_packet, add_event, add_endpoint, tally_update, tally_effect, tally_act}
use Rattle.update.specs.Update.{when}
use Rattle.update.specs.declared.Update.{Update}
use Rattle.tally.specs.declared.add.Tally.{Tally}
use Rattle.event.specs.Event.{adds_row, adds_group}
use Rattle.plan.specs.declared.Begin.{Begin}
use Rattle.plan.specs.declared.End.{End}
use Rattle.plan.specs.declared.Ending.{Ending}
use Rattle.plan.specs.declared.Plan.{Plan}
use Rattle.details.specs.declared.Device.{Device}
use Rattle.record.specs.Bools.{both}
use Rattle.record.proofs.FormedLaws.{WellFormed}
use Rattle.record.specs.declared.Decoder.{Decoder}
use Rattle.record.specs.Room.{fitting, numbered, held_of}
use Rattle.record.specs.RoomLaws as room
use Rattle.record.specs.declared.Counts.{Counts}
use Rattle.tally.specs.Tallies.{Under, Sums, Countable, room_for, add_counts, endpoints_then, tally_begin, tally_end, tally_plan, tally_ending, wait_anew, waiting_then, tally_rows, tally_keepalive, tally_event}

-- no number passes k, links and those that wait taken together
pub record Small (k : ℕ) (t : Tally) : Type 0 where
  pub bytes : t.bytes ≤ k
  pub devices : t.devices ≤ k
  pub endpoints : t.endpoints ≤ k
  pub packets : t.packets ≤ k
  pub events : t.events ≤ k
  pub transactions : t.transactions ≤ k
  pub groups : t.groups ≤ k
  pub statebytes : t.statebytes ≤ k
  pub states : t.states ≤ k
  pub items : t.items ≤ k
  pub requests : t.requests ≤ k
  pub linked : t.links + t.waiting ≤ k

pub small-none : (m : ℕ) → Small m (none m)
small-none m = record { bytes = omega arith; devices = omega arith; endpoints = omega arith; packets = omega arith; events = omega arith; transactions = omega arith; groups = omega arith; statebytes = omega arith; states = omega arith; items = omega arith; requests = omega arith; linked = omega arith }

pub from_within : {k : ℕ} {t : Tally} → Within k t → Small (k + k) t
from_within {k} {t} h = record { bytes = omega arith; devices = omega arith; endpoints = omega arith; packets = omega arith; events = omega arith; transactions = omega arith; groups = omega arith; statebytes = omega arith; states = omega arith; items = omega arith; requests = omega arith; linked = omega arith }

module _ {k : ℕ} {t : Tally} (h : Small k t) where
  pub small : Within k t
  small = record { bytes = h.bytes; devices = h.devices; endpoints = h.endpoints; packets = h.packets; events = h.events; transactions = h.transactions; groups = h.groups; statebytes = h.statebytes; states = h.states; items = h.items; requests = h.requests; links = omega (arith, h.linked); waiting = omega (arith, h.linked) }

  pub more : (m : ℕ) → k ≤ m → Small m t
  more m g = record { bytes = omega arith; devices = omega arith; endpoints = omega arith; packets = omega arith; events = omega arith; transactions = omega arith; groups = omega arith; statebytes = omega arith; states = omega arith; items = omega arith; requests = omega arith; linked = omega arith }

  pub looser : (m : ℕ) → k ≤ m → Within m t
  looser m g =
      let s = more m g in
      record { bytes = s.bytes; devices = s.devices; endpoints = s.endpoints; packets = s.packets; events = s.events; transactions = s.transactions; groups = s.groups; statebytes = s.statebytes; states = s.states; items = s.items; requests = s.requests; links = omega (arith, s.linked); waiting = omega (arith, s.linked) }

  pub packet_small : (len : ℕ) → len ≤ 4096 → Small (k + 4096) (add_packet len t)
  packet_small len g = record { bytes = omega arith; devices = omega arith; endpoints = omega arith; packets = omega arith; events = omega arith; transactions = omega arith; groups = omega arith; statebytes = omega arith; states = omega arith; items = omega arith; requests = omega arith; linked = omega arith }

  pub event_small : Small (k + 4096) (add_event t)
  event_small = record { bytes = omega arith; devices = omega arith; endpoints = omega arith; packets = omega arith; events = omega arith; transactions = omega arith; groups = omega arith; statebytes = omega arith; states = omega arith; items = omega arith; requests = omega arith; linked = omega arith }

  pub anew_small : (m : ℕ) → m ≤ 16384 → Small (k + 16384) (wait_anew m t)
  anew_small m g = record { bytes = omega arith; devices = omega arith; endpoints = omega arith; packets = omega arith; events = omega arith; transactions = omega arith; groups = omega arith; statebytes = omega arith; states = omega arith; items = omega arith; requests = omega arith; linked = omega arith }

  pub wait_small : (b : Bool) → Small (k + 128) (when b add_waiting t)
  wait_small true = record { bytes = omega arith; devices = omega arith; endpoints = omega arith; packets = omega arith; events = omega arith; transactions = omega arith; groups = omega arith; statebytes = omega arith; states = omega arith; items = omega arith; requests = omega arith; linked = omega arith }
  wait_small false = more (k + 128) (omega arith)

  pub transaction_small : (b : Bool) → Small (k + 128) (when b add_transaction t)
  transaction_small true = record { bytes = omega arith; devices = omega arith; endpoints = omega arith; packets = omega arith; events = omega arith; transactions = omega arith; groups = omega arith; statebytes = omega arith; states = omega arith; items = omega arith; requests = omega arith; linked = omega arith }
  transaction_small false = more (k + 128) (omega arith)

  pub device_small : (b : Bool) → Small (k + 128) (when b add_device t)
  device_small true = record { bytes = omega arith; devices = omega arith; endpoints = omega arith; packets = omega arith; events = omega arith; transactions = omega arith; groups = omega arith; statebytes = omega arith; states = omega arith; items = omega arith; requests = omega arith; linked = omega arith }
  device_small false = more (k + 128) (omega arith)

  pub endpoint_small : (b : Bool) → Small (k + 128) (when b add_endpoint t)
  endpoint_small true = record { bytes = omega arith; devices = omega arith; endpoints = omega arith; packets = omega arith; events = omega arith; transactions = omega arith; groups = omega arith; statebytes = omega arith; states = omega arith; items = omega arith; requests = omega arith; linked = omega arith }
  endpoint_small false = more (k + 128) (omega arith)

  pub link_small : (b : Bool) → Small (k + 128) (when b add_link t)
  link_small true = record { bytes = omega arith; devices = omega arith; endpoints = omega arith; packets = omega arith; events = omega arith; transactions = omega arith; groups = omega arith; statebytes = omega arith; states = omega arith; items = omega arith; requests = omega arith; linked = omega arith }
  link_small false = more (k + 128) (omega arith)

  pub item_small : (b : Bool) → Small (k + 128) (when b add_item t)
  item_small true = record { bytes = omega arith; devices = omega arith; endpoints = omega arith; packets = omega arith; events = omega arith; transactions = omega arith; groups = omega arith; statebytes = omega arith; states = omega arith; items = omega arith; requests = omega arith; linked = omega arith }
  item_small false = more (k + 128) (omega arith)

  pub entry_small : (b : Bool) (n : ℕ) → n ≤ 128 → Small (k + 128) (when b (add_entry n) t)
  entry_small true n g = record { bytes = omega arith; devices = omega arith; endpoints = omega arith; packets = omega arith; events = omega arith; transactions = omega arith; groups = omega arith; statebytes = omega arith; states = omega arith; items = omega arith; requests = omega arith; linked = omega arith }
  entry_small false n g = more (k + 128) (omega arith)

  pub effect_small : (f : Effect) → Small (k + 128) (tally_effect f t)
  effect_small NoEffect = more (k + 128) (omega arith)
  effect_small (NewDevice a) = device_small true
  effect_small (Request n) = record { bytes = omega arith; devices = omega arith; endpoints = omega arith; packets = omega arith; events = omega arith; transactions = omega arith; groups = omega arith; statebytes = omega arith; states = omega arith; items = omega arith; requests = omega arith; linked = omega arith }
  effect_small (PendingData n) = more (k + 128) (omega arith)
  effect_small (IndexData n waited i) = link_small true

-- ---- the steps

module _ {k : ℕ} {t : Tally} (h : Small k t) where
  pub update_small : (u : Update) (n : ℕ) → n ≤ 128 → Small (k + 1280) (tally_update u n t)
  unfolding tally_update
  update_small u n g =
      let a = wait_small (wait_small h u.over) u.cut in
      let b = link_small (entry_small a u.cut n g) u.link in
      let c = entry_small (link_small b u.start) u.start n g in
      let d = wait_small (item_small c u.start) u.end in
      more (item_small (entry_small d u.end n g) u.item) (k + 1280) (omega arith)

module _ {k : ℕ} {t : Tally} (h : Small k t) where
  pub begin_small : (s : Begin) (n : ℕ) → endpoints_then s n ≤ 128 → Small (k + 4096) (tally_begin s n t)
  unfolding tally_begin
  begin_small s n g =
      let a = endpoint_small (device_small (transaction_small h s.row) s.device) s.endpoint in
      more (update_small a s.update (endpoints_then s n) g) (k + 4096) (omega arith)

  pub end_small : (s : End) (n : ℕ) → n ≤ 128 → Small (k + 4096) (tally_end s n t)
  unfolding tally_end
  end_small s n g = more (effect_small (update_small h s.update n g) s.effect) (k + 4096) (omega arith)

  pub begin-when : (b : Bool) (s : Begin) (n : ℕ) → endpoints_then s n ≤ 128 → Small (k + 4096) (when b (tally_begin s n) t)
  begin-when true s n g = begin_small s n g
  begin-when false s n g = more h (k + 4096) (omega arith)

  pub end-when : (b : Bool) (s : End) (n : ℕ) → n ≤ 128 → Small (k + 4096) (when b (tally_end s n) t)
  end-when true s n g = end_small s n g
  end-when false s n g = more h (k + 4096) (omega arith)

  pub act_small : (a : rules.Act) (keepalive : Bool) (n : ℕ) → n ≤ 128 → Small (k + 4096) (tally_act a keepalive n t)
  unfolding tally_act
  act_small a keepalive n g =
      let b = link_small (link_small (transaction_small h (adds_row a)) (adds_row a)) (adds_group a keepalive) in
      more (item_small (entry_small b (adds_group a keepalive) n g) (adds_group a keepalive)) (k + 4096) (omega arith)

-- a packet's
pub plan_small : (p : Plan) (len n m : ℕ) → len ≤ 4096 → m ≤ 128 → endpoints_then p.resume n ≤ 128 → n ≤ 128 → endpoints_then p.begin n ≤ 128 → Small 32768 (tally_plan p len n m)
unfolding tally_plan
plan_small p len n m l w r f b =
    let a = begin-when (packet_small (small-none m) len l) p.resumes p.resume n r in
    let c = begin_small (end-when a p.ends p.end n f) p.begin n b in
    more (end-when c p.closes p.close (endpoints_then p.begin n) b) 32768 (omega arith)

-- finish's, and events'
pub ending_small : (e : Ending) (n m : ℕ) → n ≤ 128 → Small (m + 4096) (tally_ending e n m)
unfolding tally_ending
ending_small e n m g = end-when (small-none m) e.ends e.end n g

rows_small : {k : ℕ} {t : Tally} → Small k t → (a : rules.Act) (keepalive : Bool) (n : ℕ) → n ≤ 128 → Small (k + 12288) (tally_rows a keepalive n t)
unfolding tally_rows
rows_small {k} {t} h a keepalive n g = more (act_small (event_small (packet_small h 0 (omega arith))) a keepalive n g) (k + 12288) (omega arith)

pub keepalive_small : (a : rules.Act) (keepalive : Bool) (n m : ℕ) → n ≤ 128 → Small (m + 12288) (tally_keepalive a keepalive n m)
unfolding tally_keepalive
keepalive_small a keepalive n m g = rows_small (small-none m) a keepalive n g

pub then_small : (e : Ending) (m a : ℕ) → waiting_then e m a ≤ m + a + 1
unfolding waiting_then
then_small e m a = by e.ends (not e.end.update.end) (one (is_active e.end.entry.phase))
  where
    by : (b c : Bool) (k : ℕ) → when b (λ (n : ℕ). n + one c - k) (m + a) ≤ m + a + 1
    by true true k = omega arith
    by true false k = omega arith
    by false c k = omega arith

pub reset_small : (e : Ending) (act : rules.Act) (n m a : ℕ) → n ≤ 128 → m ≤ 128 → a ≤ 128 → Small 65536 (tally_event e act n m a)
unfolding tally_event
reset_small e act n m a g h l =
    let s = ending_small e n m g in
    let w = s.linked in
    let t = then_small e (tally_ending e n m).waiting a in
    more (rows_small (anew_small s (waiting_then e (tally_ending e n m).waiting a) (omega (arith, w, t, h, l))) act false n g) 65536 (omega (arith, h))

-- ---- counts that fit logs that are not too long

pub under : (n most : Counts) → room.Within n most → room.Short most → Under (2 ^ 40) n
under n most h s = record { bytes = let a = h.bytes in let b = s.bytes in omega (arith, a, b); devices = let a = h.devices in let b = s.devices in omega (arith, a, b); endpoints = let a = h.endpoints in let b = s.endpoints in omega (arith, a, b); packets = let a = h.packets in let b = s.packets in omega (arith, a, b); events = let a = h.events in let b = s.events in omega (arith, a, b); transactions = let a = h.transactions in let b = s.transactions in omega (arith, a, b); groups = let a = h.groups in let b = s.groups in omega (arith, a, b); statebytes = let a = h.statebytes in let b = s.statebytes in omega (arith, a, b); states = let a = h.states in let b = s.states in omega (arith, a, b); items = let a = h.items in let b = s.items in omega (arith, a, b); links = let a = h.links in let b = s.links in omega (arith, a, b); requests = let a = h.requests in let b = s.requests in omega (arith, a, b) }

-- small counts and small tallies have sums that are words
pub sums : (n : Counts) (t : Tally) → Under (2 ^ 40) n → Within (2 ^ 40) t → Sums n t
sums n t h s = record { bytes = let a = h.bytes in let b = s.bytes in omega (arith, a, b); devices = let a = h.devices in let b = s.devices in omega (arith, a, b); endpoints = let a = h.endpoints in let b = s.endpoints in omega (arith, a, b); packets = let a = h.packets in let b = s.packets in omega (arith, a, b); events = let a = h.events in let b = s.events in omega (arith, a, b); transactions = let a = h.transactions in let b = s.transactions in omega (arith, a, b); groups = let a = h.groups in let b = s.groups in omega (arith, a, b); statebytes = let a = h.statebytes in let b = s.statebytes in omega (arith, a, b); states = let a = h.states in let b = s.states in omega (arith, a, b); items = let a = h.items in let b = s.items in omega (arith, a, b); links = let a = h.links in let b = s.links in omega (arith, a, b); requests = let a = h.requests in let b = s.requests in omega (arith, a, b) }

-- and so have those that there is room for
pub sums-room : {held n : Counts} (t : Tally) (most : Counts) → Countable held n → Within (2 ^ 40) t → room_for held n t most ≡ true → Sums n t
unfolding add_counts
sums-room {held} {n} t most c s h =
    let z = room.numbered_is (add_counts n t) (both (fitting (add_counts held t) most) (numbered (add_counts n t)) h).1 in
    record { bytes = let a = z.bytes in omega (arith, a); devices = let a = c.few.devices in let b = s.devices in omega (arith, a, b, c.devices); endpoints = let a = c.few.endpoints in let b = s.endpoints in omega (arith, a, b, c.endpoints); packets = let a = z.packets in omega (arith, a); events = let a = z.events in omega (arith, a); transactions = let a = z.transactions in omega (arith, a); groups = let a = z.groups in omega (arith, a); statebytes = let a = z.statebytes in omega (arith, a); states = let a = z.states in omega (arith, a); items = let a = z.items in omega (arith, a); links = let a = z.links in omega (arith, a); requests = let a = c.few.requests in let b = s.requests in omega (arith, a, b, c.requests) }

-- of a record that is well formed on logs that are not too long, and the rows that these hold
pub countable_by : {d : Decoder} {devices : List Device} {table : List ℕ} {most held : Counts} → WellFormed d devices table most → room.Short most → held ≡ held_of table d.counts → Countable held d.counts
countable_by {d} {table = table} {most} w s e =
    subst (λ (h : Counts). Countable h d.counts) (sym e)
    (record { few = under (held_of table d.counts) most w.counts s; numbered = w.numbered; devices = refl; endpoints = refl; requests = refl })
