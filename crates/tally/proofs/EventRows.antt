-- The tally of an event is right: its rows are those that the rules append, log by log.
use mathlib.Core.Path.{◌≡◌, refl, sym, subst}
use mathlib.Core.Bool.{Bool, true, false}
use Prim.Native.Nat.{ℕ, pred, ◌+◌, ◌*◌, ◌<◌}
use native.Mathlib.Omega.{arith}
use Rattle.rows.specs.Widths.{link_width}
use Rattle.transaction.specs.Table.{pick}
use Rattle.rules.specs.Rows.{T}
use Rattle.rules.specs.World.{World, ◌▷◌, event_ep, more_transactions, with_keepalive, with_event_state}
use Rattle.rules.specs.Groups.{push_group, add_group_entry, add_item}
use Rattle.rules.specs.Transactions.{push_transaction}
use Rattle.rules.specs.Events as rules
use Rattle.tally.specs.Tally as tally
use Rattle.tally.specs.Tally.{Adds}
use Rattle.tally.specs.declared.add.Tally.{Tally}
use Rattle.tally.proofs.Added.{more, row, waiting-change, group-adds, entry-adds, item-adds}
use Rattle.tally.proofs.Steps.{transaction-adds}
use Rattle.tally.specs.Tally.{tally_act}
use Rattle.event.specs.Event.{is_current}
use Rattle.event.proofs.Rows.{settled, subgroup, group}

event-link-adds : {t : Tally} {w₀ w : World} → 0 < w.count → Adds t w₀ w → Adds (tally.add_link t) w₀ (rules.event_link w)
event-link-adds {t} {w₀} {w} h a =
    let c = waiting-change 0 more_transactions w h in
    record { words = (λ k. omega (arith, row k (T 0 (pred w.transactions)) w.journal, more 10 k (t.links * link_width) 4 ((t.links + 1) * link_width) (omega arith), a.words k)); waiting = omega (arith, c, a.waiting); bytes = a.bytes; devices = a.devices; endpoints = a.endpoints; packets = a.packets; transactions = a.transactions; groups = a.groups; statebytes = a.statebytes; items = a.items }

module _ (id : ℕ) {t : Tally} {w₀ w : World} (settle : is_current w.slot ≡ false) (h : 0 < w.count) (a : Adds t w₀ w) where
  subgroup-adds : Adds (tally.add_link (tally.add_transaction t)) w₀ (rules.event_subgroup_start id w)
  subgroup-adds = subst (λ (v : World). Adds (tally.add_link (tally.add_transaction t)) w₀ (subgroup id v)) (sym (settled w settle)) (event-link-adds h (transaction-adds a id))

  abbrev counted : Tally
  counted = tally.add_item (tally.add_entry w.count (tally.add_link (tally.add_link (tally.add_transaction t))))

  group-adds' : (start : Bool) → Adds counted w₀ (rules.event_add_group id start w)
  group-adds' start =
      subst (λ (v : World). Adds counted w₀ (group id start v)) (sym (settled w settle))
      (item-adds 0 h (entry-adds 0 h (group-adds 0 h (event-link-adds h (transaction-adds a id)) _) start))

  -- the rows of an event, where handle_event has ended or suspended the transaction
  pub act-adds : (e : rules.Act) → Adds (tally_act e w.keepalive w.count t) w₀ (rules.event_act e id w)
  unfolding tally_act
  act-adds rules.nothing = a
  act-adds rules.single = group-adds' false
  act-adds rules.group = group-adds' true
  act-adds rules.subgroup = subgroup-adds
  act-adds rules.keepalive = by w.keepalive
    where
      marked : Adds counted w₀ (rules.event_group_start id w ▷ with_keepalive true)
      marked = let b = group-adds' true in record { words = b.words; waiting = b.waiting; bytes = b.bytes; devices = b.devices; endpoints = b.endpoints; packets = b.packets; transactions = b.transactions; groups = b.groups; statebytes = b.statebytes; items = b.items }

      by : (k : Bool) → Adds (tally_act rules.keepalive k w.count t) w₀ (pick k (rules.event_subgroup_start id w) (rules.event_group_start id w ▷ with_keepalive true))
      by true = subgroup-adds
      by false = marked

  -- event_update: the state that it leaves is no row
  pub event_update-adds : (kind : ℕ) → Adds (tally_act (rules.turn_of w.event_state kind).act w.keepalive w.count t) w₀ (rules.event_update id kind w)
  unfolding rules.event_update
  event_update-adds kind = let b = act-adds (rules.turn_of w.event_state kind).act in record { words = b.words; waiting = b.waiting; bytes = b.bytes; devices = b.devices; endpoints = b.endpoints; packets = b.packets; transactions = b.transactions; groups = b.groups; statebytes = b.statebytes; items = b.items }
