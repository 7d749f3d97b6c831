-- What the functions lean on: each callee's room, from the room at the end, and the event endpoint's groups behind its T row.
use Prim.Native.Nat.{ℕ, pred, ◌+◌, ◌*◌, ◌^◌, ◌<◌, ◌≤◌}
use native.Mathlib.Omega.{arith}
use mathlib.Core.Bool.{Bool, true, false}
use mathlib.Core.List.{List, [], ◌∷◌}
use mathlib.Core.Path.{◌≡◌, refl, sym, ap, ◌∙◌, subst}
use lib.ListN.{length}
use lib.Seq.{sets, length-sets}
use Rattle.rules.specs.Rows.{grouping, group_words}
use Rattle.endpoints.specs.Word as word
use Rattle.rows.specs.Widths.{group_width, link_width}
use Rattle.rows.specs.One.{one}
use Rattle.endpoints.specs.Link as kind
use Rattle.endpoints.specs.Phases.{waiting}
use Rattle.endpoints.specs.Each.{closing, next_states, state_bytes}
use Rattle.endpoints.specs.Table.{entry_at}
use Rattle.endpoints.proofs.TableLaws.{load_store_same, fits-entry}
use Rattle.endpoints.specs.declared.Endpoint.{Endpoint}
use Rattle.rules.specs.World.{more_transactions, more_groups}
use Rattle.update.specs.Update.{when}
use Rattle.write.specs.Memory.{Memory, Room, Numbers, alter, group_written, link_written, last_number}
use Rattle.write_event.specs.Rows.{Able, event_linked, event_grouped, event_rows}

-- ---- a group's parts

-- the table that the item sees
abbrev pub rowed : ℕ → Bool → List ℕ → List ℕ
rowed n start t = next_states (alter 0 more_groups t) n 0 start

-- the number of the last T row
abbrev pub last_link : List ℕ → ℕ
last_link t = pred (entry_at t 0).transactions

module _ (n : ℕ) (start : Bool) (m : Memory) (r : Room (event_grouped n start m)) where
  pub room-groups : (m.written.groups + 1) * group_width ≤ length m.groups
  room-groups = omega (arith, r.groups, length-sets m.groups (m.written.groups * group_width) (group_words (grouping 0 (last_number 0 (alter 0 more_groups m.table)) start m.written.stamp)))

  pub room-states : m.written.states + 1 ≤ length m.states
  room-states = omega (arith, r.states, length-sets m.states m.written.states ((m.written.firsts.statebytes + m.written.statebytes) ∷ []))

  pub room-statebytes : m.written.statebytes + n ≤ length m.statebytes
  room-statebytes = omega (arith, r.statebytes, length-sets m.statebytes m.written.statebytes (state_bytes (rowed n start m.table) 0 n))

  pub room-items : m.written.items + 1 ≤ length m.items
  room-items = omega (arith, r.items, length-sets m.items m.written.items (pred (m.written.firsts.groups + (m.written.groups + 1)) ∷ []))

  -- the numbers before the row, and behind it
  pub room-numbers : Numbers (link_written m.written)
  room-numbers = record { groups = omega (arith, r.numbers.groups); statebytes = omega (arith, r.numbers.statebytes); items = omega (arith, r.numbers.items) }

  pub room_row : Numbers (group_written n (link_written m.written))
  room_row = record { groups = r.numbers.groups; statebytes = r.numbers.statebytes; items = omega (arith, r.numbers.items) }

  abbrev linked : List ℕ
  linked = sets m.links (m.written.links * link_width) (kind.G ∷ 0 ∷ last_link m.table ∷ 0 ∷ [])

  pub room-closing : (m.written.links + 1 + waiting (rowed n start m.table) n) * 4 ≤ length linked
  room-closing = rw (length-sets linked ((m.written.links + 1) * link_width) (closing (rowed n start m.table) (m.written.firsts.items + m.written.items) 0 n)) at r.links

  pub room-link : (m.written.links + 1) * link_width ≤ length m.links
  room-link = omega (arith, room-closing, length-sets m.links (m.written.links * link_width) (kind.G ∷ 0 ∷ last_link m.table ∷ 0 ∷ []))

-- ---- the T row, and the group behind it

-- the links that stand before a group
links-before : (group start : Bool) (n : ℕ) (m : Memory) → Room (when group (event_grouped n start) m) → m.written.links * link_width ≤ length m.links
links-before true start n m r = omega (arith, room-link n start m r)
links-before false start n m r = r.links

link-asks : (row : Bool) (id : ℕ) (m : Memory) → (when row (event_linked id) m).written.links * link_width ≤ length (when row (event_linked id) m).links
    → (when row link_written m.written).links * link_width ≤ length m.links
link-asks true id m h = omega (arith, h, length-sets m.links (m.written.links * link_width) (kind.T ∷ 0 ∷ id ∷ 0 ∷ []))
link-asks false id m h = h

-- a T row more is no group more
same-groups : (row : Bool) (id : ℕ) (m : Memory) → length m.table ≡ word.table → (entry_at (when row (event_linked id) m).table 0).groups ≡ (entry_at m.table 0).groups
same-groups true id m l =
    let f = fits-entry m.table 0 in
    ap (λ (e : Endpoint). e.groups)
    (load_store_same m.table 0 (more_transactions (entry_at m.table 0)) l (omega arith) (record { address = f.address; state = f.state; first = f.first; last = f.last }))
same-groups false id m l = refl

module _ (row group start : Bool) (n id : ℕ) (m : Memory) (a : Able row group start n id m) where
  pub first-asks : ((entry_at m.table 0).transactions + one row < 2 ^ 64) × ((when row link_written m.written).links * link_width ≤ length m.links)
  unfolding event_rows
  first-asks = (a.transactions, link-asks row id m (links-before group start n (when row (event_linked id) m) a.room))

  pub second-asks : length m.table ≡ word.table → (m₁ : Memory) → m₁ ≡ when row (event_linked id) m
      → (n ≤ 128) × (((entry_at m₁.table 0).groups + one group < 2 ^ 64) × Room (when group (event_grouped n start) m₁))
  unfolding event_rows
  second-asks l m₁ e = (a.few, (omega (arith, a.groups, counts), subst (λ (v : Memory). Room (when group (event_grouped n start) v)) (sym e) a.room))
    where
      counts : (entry_at m₁.table 0).groups ≡ (entry_at m.table 0).groups
      counts = ap (λ (v : Memory). (entry_at v.table 0).groups) e ∙ same-groups row id m l
