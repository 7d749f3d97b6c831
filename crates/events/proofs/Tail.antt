-- An event's own rows, behind the world and the memory that the end or the suspension of the transaction left.
use Prim.Native.Nat.{ℕ, ◌*◌, ◌<◌, ◌≤◌}
use native.Mathlib.Omega.{arith}
use mathlib.Core.Bool.{Bool, true, false}
use mathlib.Core.List.{List, [], ◌∷◌, ◌++◌}
use mathlib.Core.Path.{◌≡◌, refl, sym, ap, ◌∙◌, subst}
use borrow.Author.Tests.{ne_eqb}
use lib.ListN.{length, get_or}
use Rattle.rows.specs.Widths.{link_width}
use Rattle.rows.specs.Sets.{opt}
use Rattle.details.specs.Search.{blank}
use Rattle.details.specs.declared.Device.{Device}
use Rattle.rules.specs.Decoder.{push_packet}
use Rattle.rules.specs.Events as rules
use Rattle.rules.specs.Rows.{Row, PacketRow, EventRow, log}
use Rattle.rules.specs.World.{World, ◌▷◌, push}
use Rattle.rules.specs.declared.EventState.{EventState}
use Rattle.rules.specs.declared.Slot.{Slot}
use Rattle.rules.specs.declared.Stamp.{Stamp}
use Rattle.update.specs.Update.{when}
use Rattle.write.proofs.Holds.{Space, Worded}
use Rattle.write.specs.Memory.{Memory, Room, link_written}
use Rattle.event.specs.Event.{adds_row, adds_group, is_current}
use Rattle.write_event.proofs.ActedLaws.{below, requests, keepalive_after, event_acted, event-keepalive}
use Rattle.write_event.specs.Rows.{Able, event_linked, event_rows, starts_group}
use Rattle.write_event.proofs.RowsLaws.{holds_alike, packet_alike, event-row_alike, event_able, event_update-holds}
use Rattle.write_event.proofs.Rooms.{room-groups, room-states, room-statebytes, room-items, first-asks}
use Rattle.call.specs.State.{State}
use Rattle.plan.proofs.Played.{Tied}
use Rattle.events.proofs.Before.{Grows}
use Rattle.events.proofs.Reached.{memory_at, HoldsAt, Aside, Reached}

-- ---- room before the rows, from room behind them

pub room-before : (row group start : Bool) (n id : ℕ) (m : Memory) → Able row group start n id m → Room m
unfolding event_rows
room-before row group start n id m a = by row group a.room (first-asks row group start n id m a).1
  where
    by : (row group : Bool) → Room (event_rows row group start n id m) → (when row link_written m.written).links * link_width ≤ length m.links → Room m
    by false false r l = r
    by true false r l = record { groups = r.groups; states = r.states; statebytes = r.statebytes; items = r.items; links = omega (arith, l); numbers = record { groups = r.numbers.groups; statebytes = r.numbers.statebytes; items = r.numbers.items } }
    by false true r l =
        record { groups = omega (arith, room-groups n start m r); states = omega (arith, room-states n start m r); statebytes = omega (arith, room-statebytes n start m r); items = omega (arith, room-items n start m r); links = l; numbers = record { groups = omega (arith, r.numbers.groups); statebytes = omega (arith, r.numbers.statebytes); items = omega (arith, r.numbers.items) } }
    by true true r l =
        let v = event_linked id m in
        record { groups = omega (arith, room-groups n start v r); states = omega (arith, room-states n start v r); statebytes = omega (arith, room-statebytes n start v r); items = omega (arith, room-items n start v r); links = omega (arith, l); numbers = record { groups = omega (arith, r.numbers.groups); statebytes = omega (arith, r.numbers.statebytes); items = omega (arith, r.numbers.items) } }

-- ---- the rows

-- the memory behind them, by the turn and whether there is a keepalive group before it
abbrev pub rows_memory : State → rules.Turn → Bool → Memory → Memory
rows_memory s t k m = event_rows (adds_row t.act) (adds_group t.act k) (starts_group t.act) s.decoder.counts.endpoints s.decoder.counts.transactions m

abbrev pub AbleAt : State → rules.Turn → Bool → Memory → Type 0
AbleAt s t k m = Able (adds_row t.act) (adds_group t.act k) (starts_group t.act) s.decoder.counts.endpoints s.decoder.counts.transactions m

-- the call on s, which came to the memory m and this slot, has come to the world v by the rows of a turn
pub record Tailed (c : Stamp) (s : State) (code time : ℕ) (z : Slot) (t : rules.Turn) (k : Bool) (m : Memory) (v : World) : Type 0 where
  pub holds : HoldsAt c s v (rows_memory s t k m)
  pub able : Space (memory_at c s) v.journal → Worded v → AbleAt s t k m
  pub devices : (j : ℕ) → v.devices j ≡ get_or s.devices j blank
  pub transaction : Tied s.decoder.transaction v.transaction
  pub slot : v.slot ≡ z
  pub event : v.event_state ≡ t.next
  pub keepalive : v.keepalive ≡ keepalive_after t.act k
  pub first : (j : ℕ) → j < 3 → log j v.journal ≡ []
  pub packets : log 3 v.journal ≡ s.decoder.counts.bytes ∷ time ∷ []
  pub events : log 4 v.journal ≡ s.decoder.counts.packets ∷ code ∷ []
  pub transactions : log 5 v.journal ≡ opt (adds_row t.act) (s.decoder.counts.packets ∷ c.reason ∷ [])
  pub requests : log 11 v.journal ≡ []

-- the packet row and the event row
abbrev pub rowed : State → ℕ → ℕ → World → World
rowed s code time u = u ▷ push_packet s.decoder.counts.bytes time ▷ push (EventRow s.decoder.counts.packets code)

below-aside : (k : ℕ) → k < 6 → Aside k
below-aside k h j u v = ne_eqb j k (λ e. omega arith)

requests-aside : Aside 11
requests-aside j u v = ne_eqb j 11 (λ e. omega arith)

-- a log that they do not go to
else-log : (k b t p c : ℕ) (js : List Row) → k < 3 → log k js ≡ [] → log k (EventRow p c ∷ PacketRow b t ∷ js) ≡ []
else-log k b t p c js h e = rw (ne_eqb 3 k (λ q. omega arith), ne_eqb 4 k (λ q. omega arith), e) refl

module _ (c : Stamp) (s : State) (k : Bool) (u : World) (m : Memory) (h : Reached c s k u m) (few : s.decoder.counts.endpoints ≤ 128) (some : 0 < s.decoder.counts.endpoints)
    (rests : is_current u.slot ≡ false) (kind code time : ℕ) (g : Grows (rules.turn_of s.decoder.event kind).act k u) where
  held : HoldsAt c s (rowed s code time u) m
  held =
      holds_alike (event-row_alike (push_packet s.decoder.counts.bytes time u) s.decoder.counts.packets code)
      (holds_alike (packet_alike u s.decoder.counts.bytes time) h.holds)

  own_grows : Grows (rules.turn_of u.event_state kind).act u.keepalive u
  own_grows =
      subst (λ (e : EventState). Grows (rules.turn_of e kind).act u.keepalive u) (sym h.event)
      (subst (λ (b : Bool). Grows (rules.turn_of s.decoder.event kind).act b u) (sym h.keepalive) g)

  -- by the state and the keepalive group of that world
  tailed-own : Tailed c s code time u.slot (rules.turn_of u.event_state kind) u.keepalive m (rules.event_update s.decoder.counts.packets kind (rowed s code time u))
  unfolding rules.event_update
  tailed-own =
      let w = rowed s code time u in
      let p = s.decoder.counts.packets in
      let i = s.decoder.counts.transactions in
      let a = (rules.turn_of u.event_state kind).act in
      let same = event_acted w rests p a in
      let empty : log 5 w.journal ++ opt (adds_row a) (p ∷ u.context.reason ∷ []) ≡ opt (adds_row a) (p ∷ u.context.reason ∷ []) = rw (h.logs 5 (below-aside 5 (omega arith))) refl in
      record {
        holds = event_update-holds held few some rests p i (sym h.transactions) kind;
        able = λ x z. event_able held few some rests p i (sym h.transactions) a own_grows.transactions own_grows.groups x (record { groups = z.groups; statebytes = z.statebytes; items = z.items });
        devices = λ j. ap (λ (f : ℕ → Device). f j) same.devices ∙ h.devices j;
        transaction = subst (Tied s.decoder.transaction) (sym same.transaction) h.transaction;
        slot = same.slot;
        event = refl;
        keepalive = event-keepalive w rests p a;
        first = λ j l. same.outside j (below j (omega arith)) ∙ else-log j s.decoder.counts.bytes time p code u.journal l (h.logs j (below-aside j (omega arith)));
        packets = same.outside 3 (below 3 (omega arith)) ∙ rw (h.logs 3 (below-aside 3 (omega arith))) refl;
        events = same.outside 4 (below 4 (omega arith)) ∙ rw (h.logs 4 (below-aside 4 (omega arith))) refl;
        transactions = same.rows ∙ (empty ∙ ap (λ (x : Stamp). opt (adds_row a) (p ∷ x.reason ∷ [])) h.holds.context);
        requests = same.outside 11 requests ∙ rw (h.logs 11 requests-aside) refl;
      }

  -- by those that the call began with
  pub tailed : Tailed c s code time u.slot (rules.turn_of s.decoder.event kind) k m (rules.event_update s.decoder.counts.packets kind (rowed s code time u))
  tailed =
      subst (λ (e : EventState). Tailed c s code time u.slot (rules.turn_of e kind) k m (rules.event_update s.decoder.counts.packets kind (rowed s code time u))) h.event
      (subst (λ (b : Bool). Tailed c s code time u.slot (rules.turn_of u.event_state kind) b m (rules.event_update s.decoder.counts.packets kind (rowed s code time u))) h.keepalive tailed-own)
