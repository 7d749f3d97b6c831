-- Laws (proved): memory that holds a world holds, behind an event's rows, the world that the event's act makes of it (rules, Events).
use Rattle.std.specs.Prelude.{ℕ, pred, ◌+◌, ◌^◌, ◌<◌, ◌≤◌, Bool, not, List, ◌∷◌, ◌≡◌, refl}
use Rattle.std.proofs.Common.{arith, append-nil, sym, ◌∙◌, subst, ne_eqb}
use Rattle.std.proofs.Math.Bool.{true, false}
use Rattle.rows.specs.One.{one}
use Rattle.transaction.specs.Table.{pick}
use Rattle.endpoints.specs.Link as kind
use Rattle.rules.specs.Rows.{Row, PacketRow, EventRow, TransactionRow, naming, T, G, written, log}
use Rattle.rules.specs.World.{World, ◌▷◌, event_ep, more_transactions, more_groups, with_slot, with_keepalive, with_event_state, push}
use Rattle.rules.specs.Decoder.{push_packet}
use Rattle.rules.specs.declared.Slot.{Slot}
use Rattle.rules.specs.declared.EventState.{EventState}
use Rattle.rules.specs.Groups.{push_group, add_group_entry, add_item}
use Rattle.rules.specs.Transactions.{push_transaction}
use Rattle.rules.specs.Events as rules
use Rattle.write.proofs.Holds.{Holds, Space, Worded}
use Rattle.write.proofs.HoldsLaws.{keep, holds-room, holds-altered, holds-link-row, holds-entry-row, holds-item}
use Rattle.write.specs.Memory.{Memory}
use Rattle.event.specs.Event.{adds_row, adds_group, is_current}
use Rattle.event.proofs.Rows.{settled, subgroup, group}
use Rattle.write_event.specs.Rows.{Able, event_linked, event_grouped, event_rows, starts_group}

-- ---- what memory does not see: the slot, the event state, the keepalive group, and rows of the other logs

pub record Alike (w v : World) : Type 0 where
  pub endpoints : v.endpoints ≡ w.endpoints
  pub count : v.count ≡ w.count
  pub context : v.context ≡ w.context
  pub transaction : v.transaction ≡ w.transaction
  pub last_item : v.last_item ≡ w.last_item
  pub group_count : v.groups ≡ w.groups
  pub state_bytes : v.state_bytes ≡ w.state_bytes
  pub item_count : v.items ≡ w.items
  -- logs 6 to 10 are memory's
  pub logs : (k : ℕ) → 6 ≤ k → k ≤ 10 → log k v.journal ≡ log k w.journal

pub holds_alike : {n id pid : ℕ} {m₀ m : Memory} {w v : World} → Alike w v → Holds n id pid m₀ w m → Holds n id pid m₀ v m
holds_alike {m = m} a h =
    record {
      sized = h.sized;
      stamp = h.stamp;
      context = a.context ∙ h.context;
      count = a.count ∙ h.count;
      endpoints = λ j hj. rw a.endpoints (h.endpoints j hj);
      row = rw a.transaction h.row;
      began = rw a.transaction h.began;
      linked = rw a.transaction h.linked;
      link = rw a.transaction h.link;
      last_item = h.last_item ∙ sym a.last_item;
      group_count = h.group_count ∙ sym a.group_count;
      state_byte_count = h.state_byte_count ∙ sym a.state_bytes;
      item_count = h.item_count ∙ sym a.item_count;
      groups = keep h.groups _ (a.logs 6 (omega arith) (omega arith));
      statebytes = keep h.statebytes _ (a.logs 7 (omega arith) (omega arith));
      states = keep h.states _ (a.logs 8 (omega arith) (omega arith));
      items = keep h.items _ (a.logs 9 (omega arith) (omega arith));
      links = keep h.links _ (a.logs 10 (omega arith) (omega arith));
    }

-- a row of a log below those
row_below : (r : Row) (js : List Row) (k : ℕ) → (written r).0 < 6 → 6 ≤ k → log k (r ∷ js) ≡ log k js
row_below r js k h g = rw (ne_eqb (written r).0 k (λ e. omega arith)) (append-nil _)

module _ (w : World) where
  pub slot_alike : (s : Slot) → Alike w (with_slot s w)
  slot_alike s = record { endpoints = refl; count = refl; context = refl; transaction = refl; last_item = refl; group_count = refl; state_bytes = refl; item_count = refl; logs = λ k u v. refl }

  pub keepalive_alike : (b : Bool) → Alike w (with_keepalive b w)
  keepalive_alike b = record { endpoints = refl; count = refl; context = refl; transaction = refl; last_item = refl; group_count = refl; state_bytes = refl; item_count = refl; logs = λ k u v. refl }

  pub state_alike : (s : EventState) → Alike w (with_event_state s w)
  state_alike s = record { endpoints = refl; count = refl; context = refl; transaction = refl; last_item = refl; group_count = refl; state_bytes = refl; item_count = refl; logs = λ k u v. refl }

  pub transaction_alike : (packet : ℕ) → Alike w (push_transaction packet w)
  transaction_alike packet =
      record { endpoints = refl; count = refl; context = refl; transaction = refl; last_item = refl; group_count = refl; state_bytes = refl; item_count = refl; logs = λ k u v. row_below (TransactionRow (naming packet w.context.reason)) w.journal k (omega arith) u }

  pub packet_alike : (start time : ℕ) → Alike w (push_packet start time w)
  packet_alike start time =
      record { endpoints = refl; count = refl; context = refl; transaction = refl; last_item = refl; group_count = refl; state_bytes = refl; item_count = refl; logs = λ k u v. row_below (PacketRow start time) w.journal k (omega arith) u }

  pub event-row_alike : (packet code : ℕ) → Alike w (push (EventRow packet code) w)
  event-row_alike packet code =
      record { endpoints = refl; count = refl; context = refl; transaction = refl; last_item = refl; group_count = refl; state_bytes = refl; item_count = refl; logs = λ k u v. row_below (EventRow packet code) w.journal k (omega arith) u }

-- ---- the act, once no transaction is current

module _ {n id pid : ℕ} {m₀ m : Memory} {w : World} (h : Holds n id pid m₀ w m) (few : n ≤ 128) (some : 0 < n) where
  holds-subgroup : (packet i : ℕ) → i ≡ w.transactions → Holds n id pid m₀ (subgroup packet w) (event_linked i m)
  holds-subgroup packet i e =
      holds-altered
      (holds-link-row (holds_alike (transaction_alike w packet) h) (T event_ep w.transactions) kind.T event_ep i 0 (rw e refl))
      event_ep more_transactions some few (λ a f. record { address = f.address; state = f.state; first = f.first; last = f.last })

  holds-group : (start : Bool) → Holds n id pid m₀ (w ▷ (λ v. push_group event_ep (pred (v.endpoints event_ep).transactions) v) ▷ add_group_entry event_ep start ▷ add_item event_ep) (event_grouped n start m)
  holds-group start =
      holds-item
      (holds-entry-row
      (holds-altered
      (holds-link-row h (G event_ep (pred (w.endpoints event_ep).transactions)) kind.G event_ep _ 0 (rw (h.endpoints event_ep some) refl))
      event_ep more_groups some few (λ a f. record { address = f.address; state = f.state; first = f.first; last = f.last }))
      few event_ep some start)
      few event_ep

module _ {n id pid : ℕ} {m₀ m : Memory} {w : World} (h : Holds n id pid m₀ w m) (few : n ≤ 128) (some : 0 < n) (settle : is_current w.slot ≡ false)
    (packet i : ℕ) (next : i ≡ w.transactions) where
  at-subgroup : Holds n id pid m₀ (rules.event_subgroup_start packet w) (event_linked i m)
  at-subgroup = subst (λ (v : World). Holds n id pid m₀ (subgroup packet v) (event_linked i m)) (sym (settled w settle)) (holds-subgroup h few some packet i next)

  at-group : (start : Bool) → Holds n id pid m₀ (rules.event_add_group packet start w) (event_grouped n start (event_linked i m))
  at-group start =
      subst (λ (v : World). Holds n id pid m₀ (group packet start v) (event_grouped n start (event_linked i m))) (sym (settled w settle))
      (holds-group (holds-subgroup h few some packet i next) few some start)

  -- an event with this packet row, whose transaction row is row i
  pub event-holds : (a : rules.Act) → Holds n id pid m₀ (rules.event_act a packet w) (event_rows (adds_row a) (adds_group a w.keepalive) (starts_group a) n i m)
  unfolding event_rows
  event-holds rules.nothing = h
  event-holds rules.single = at-group false
  event-holds rules.group = at-group true
  event-holds rules.subgroup = at-subgroup
  event-holds rules.keepalive = by w.keepalive
    where
      marked : Holds n id pid m₀ (rules.event_group_start packet w ▷ with_keepalive true) (event_grouped n true (event_linked i m))
      marked = holds_alike (keepalive_alike (rules.event_group_start packet w) true) (at-group true)

      by : (k : Bool) → Holds n id pid m₀ (pick k (rules.event_subgroup_start packet w) (rules.event_group_start packet w ▷ with_keepalive true)) (event_rows true (not k) true n i m)
      by true = at-subgroup
      by false = marked

  -- what event_rows asks, from the world: the rows of the act fit behind those that memory had
  pub event_able : (a : rules.Act) → (w.endpoints event_ep).transactions + one (adds_row a) < 2 ^ 64 → (w.endpoints event_ep).groups + one (adds_group a w.keepalive) < 2 ^ 64 → Space m₀ (rules.event_act a packet w).journal
      → Worded (rules.event_act a packet w) → Able (adds_row a) (adds_group a w.keepalive) (starts_group a) n i m
  event_able a t g r z =
      record {
        few = few;
        some = some;
        transactions = rw (h.endpoints event_ep some) t;
        groups = rw (h.endpoints event_ep some) g;
        room = holds-room (event-holds a) r z;
      }

  -- event_update: the state that it leaves is not memory's
  pub event_update-holds : (kind : ℕ)
      → Holds n id pid m₀ (rules.event_update packet kind w) (event_rows (adds_row (rules.turn_of w.event_state kind).act) (adds_group (rules.turn_of w.event_state kind).act w.keepalive) (starts_group (rules.turn_of w.event_state kind).act) n i m)
  unfolding rules.event_update
  event_update-holds kind =
      let t = rules.turn_of w.event_state kind in
      holds_alike (state_alike (rules.event_act t.act packet w) t.next) (event-holds t.act)
