-- The tallies of events are right: a keepalive's, and any other's.
use mathlib.Core.Path.{◌≡◌, refl, sym, subst, ◌∙◌}
use mathlib.Core.Bool.{false, not}
use mathlib.Core.List.{List}
use Prim.Native.Nat.{ℕ, zero, suc, pred, ◌<◌}
use native.Mathlib.Omega.{arith}
use Rattle.endpoints.specs.declared.Endpoint.{Endpoint}
use Rattle.endpoints.specs.declared.Phase.{Phase}
use Rattle.endpoints.specs.declared.Phase.TheVariants.{None, Early, Active, Ended}
use Rattle.rules.specs.Decoder.{suspend_at, over_row, over_rows, end_all_active, push_packet, handle_event}
use Rattle.rules.specs.Events as rules
use Rattle.rules.specs.Rows.{Row, Over, EventRow}
use Rattle.rules.specs.World.{World, ◌▷◌, push, with_keepalive, stamp, stamped}
use Rattle.rules.specs.declared.EventState.{EventState}
use Rattle.rules.specs.declared.Slot.{Slot}
use Rattle.rules.specs.declared.Slot.TheVariants.{Empty, Current, Suspended}
use Rattle.tally.specs.Tally.{words_in, Adds}
use Rattle.rules.specs.World.{waiting_of}
use Rattle.update.specs.Update.{when}
use Rattle.tally.specs.declared.add.Tally.{Tally}
use Rattle.tally.proofs.Added.{row, nothing, adds_none}
use Rattle.tally.proofs.Steps.{event-packet-adds, event-adds}
use Rattle.event.specs.Event.{is_current}
use Rattle.tally.proofs.EventRows.{event_update-adds}
use Rattle.record.specs.RoomLaws.{Begun}
use Rattle.call.specs.Outcome.{is_full, world_at}
use Rattle.call.specs.State.{State, held_at, room_of}
use Rattle.plan.specs.Ending.{slot_ended, end_played}
use Rattle.plan.specs.Step.{ended}
use Rattle.plan.specs.declared.Ending.{Ending}
use Rattle.plan.proofs.Frame.{when-keeps}
use Rattle.plan.proofs.Played.{event_untouched, ended-keeps}
use Rattle.plan.proofs.Small.{ended-count}
use Rattle.tally.specs.Event.{event_played}
use Rattle.tally.specs.Suited.{EndingSuits, EndingActs, actives_of}
use Rattle.tally.specs.Tallies.{tally_ending, wait_anew, waiting_then, tally_rows, tally_keepalive, tally_event, room_for}
use Rattle.tally.proofs.Counted.{same-adds, adds-from, ending-adds}
use Rattle.tally.proofs.Anew.{waiting-then}
use Rattle.tally.proofs.Counts.{state-full}

-- ---- the event's own rows, where no transaction is current

rows-adds : (start packet kind code time : ℕ) {t : Tally} {w₀ w : World} → is_current w.slot ≡ false → 0 < w.count → Adds t w₀ w
    → Adds (tally_rows (rules.turn_of w.event_state kind).act w.keepalive w.count t) w₀ (w ▷ push_packet start time ▷ push (EventRow packet code) ▷ rules.event_update packet kind)
unfolding tally_rows
rows-adds start packet kind code time s h a = event_update-adds packet s h (event-adds (event-packet-adds a start time) packet code) kind

-- a keepalive
pub suspended : (s : Slot) → is_current (suspend_at s) ≡ false
suspended Empty = refl
suspended Current = refl
suspended Suspended = refl

pub keepalive-adds : (code time : ℕ) (w : World) → 0 < w.count
    → Adds (tally_keepalive (rules.turn_of w.event_state rules.LsKeepalive).act w.keepalive w.count (waiting_of w)) w (handle_event rules.LsKeepalive code time w)
unfolding tally_keepalive handle_event
keepalive-adds code time w h =
    rows-adds w.bytes w.packets rules.LsKeepalive code time (suspended w.slot) h (same-adds (suspend_at w.slot) w.transaction w.event_state w.keepalive (stamp w.packets time 0) w.devices (adds_none w))

-- ---- every active group ends: a row in no log

over-words : (k n : ℕ) (f : ℕ → Endpoint) (js : List Row) → words_in k (over_rows n f js) ≡ words_in k js
over-words k zero f js = refl
over-words k (suc n) f js = by (f n).phase (over_rows n f js) ∙ over-words k n f js
  where
    by : (p : Phase) (js : List Row) → words_in k (over_row p n (pred (f n).groups) js) ≡ words_in k js
    by None js = refl
    by Early js = refl
    by Active js = omega (arith, row k (Over n (pred (f n).groups)) js, nothing 12 k)
    by Ended js = refl

all-adds : {t : Tally} {w₀ w : World} → Adds t w₀ w → Adds (wait_anew (waiting_of (end_all_active w)) t) w₀ (end_all_active w)
all-adds {t} {w₀} {w} a =
    record { words = (λ k. over-words k w.count w.endpoints w.journal ∙ a.words k); waiting = refl; bytes = a.bytes; devices = a.devices; endpoints = a.endpoints; packets = a.packets; transactions = a.transactions; groups = a.groups; statebytes = a.statebytes; items = a.items }

-- ---- any other event

pub settled : (s : Slot) → is_current (slot_ended s) ≡ false
settled Empty = refl
settled Current = refl
settled Suspended = refl

pub event-played-adds : (e : Ending) (kind code time : ℕ) (w : World) → 0 < w.count → EndingSuits e w → EndingActs e
    → Adds (tally_event e (rules.turn_of w.event_state kind).act w.count (waiting_of w) (actives_of w)) w (event_played e kind code time w)
unfolding tally_event event_played end_played
event-played-adds e kind code time w h s f =
    let u = when e.ends (ended e.old e.end) w in
    let t = tally_ending e w.count (waiting_of w) in
    let k = waiting_then e t.waiting (actives_of w) in
    let n : u.count ≡ w.count = when-keeps (λ v. v.count) e.ends (ended e.old e.end) (ended-count e.old e.end) w in
    let z : u.event_state ≡ w.event_state = when-keeps (λ v. v.event_state) e.ends (ended e.old e.end) (ended-keeps (λ v. v.event_state) event_untouched e.old e.end) w in
    let v = end_played e w ▷ end_all_active in
    let b : Adds (wait_anew k t) w v = subst (λ (m : ℕ). Adds (wait_anew m t) w v) (waiting-then e w s f) (all-adds (ending-adds e w s)) in
    let a : Adds (wait_anew k t) w (with_keepalive false v) = same-adds v.slot v.transaction v.event_state false v.context v.devices b in
    subst (λ (q : EventState). Adds (tally_rows (rules.turn_of q kind).act false w.count (wait_anew k t)) w (event_played e kind code time w)) z
    (subst (λ (m : ℕ). Adds (tally_rows (rules.turn_of u.event_state kind).act false m (wait_anew k t)) w (event_played e kind code time w)) n
    (rows-adds w.bytes w.packets kind code time (settled w.slot) (subst (λ (m : ℕ). 0 < m) (sym n) h) a))

-- ---- answer 7

pub keepalive-full : (code time : ℕ) (s : State) → Begun s.table s.decoder.counts → 0 < s.decoder.counts.endpoints
    → is_full s (handle_event rules.LsKeepalive code time (world_at s)) ≡ not (room_for (held_at s) s.decoder.counts (tally_keepalive (rules.turn_of s.decoder.event rules.LsKeepalive).act s.decoder.keepalive s.decoder.counts.endpoints (waiting_of (world_at s))) (room_of s.logs))
keepalive-full code time s b h = state-full s b (keepalive-adds code time (world_at s) h)

pub event-full : (e : Ending) (kind code time : ℕ) (s : State) → Begun s.table s.decoder.counts → 0 < s.decoder.counts.endpoints → EndingSuits e (stamped time 0 (world_at s)) → EndingActs e
    → is_full s (event_played e kind code time (stamped time 0 (world_at s))) ≡ not (room_for (held_at s) s.decoder.counts (tally_event e (rules.turn_of s.decoder.event kind).act s.decoder.counts.endpoints (waiting_of (world_at s)) (actives_of (world_at s))) (room_of s.logs))
event-full e kind code time s b h g f = state-full s b (adds-from _ (event-played-adds e kind code time (stamped time 0 (world_at s)) h g f))
