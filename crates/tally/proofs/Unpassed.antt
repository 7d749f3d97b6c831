-- Answer 9 of events and of finish: never, since they add to no byte total.
use mathlib.Core.Path.{◌≡◌, refl, sym, subst}
use mathlib.Core.Bool.{Bool, true, false, true≢false}
use Prim.Native.Nat.{ℕ, pred, ◌≤◌}
use lib.Dec.{eqb}
use Rattle.transaction.specs.Table.{pick}
use Rattle.rules.specs.Decoder.{handle_event}
use Rattle.rules.specs.Events as rules
use Rattle.rules.specs.Groups.{push_group}
use Rattle.rules.specs.Transactions.{transaction_end_at, transaction_end, push_transaction}
use Rattle.rules.specs.World.{World, event_ep, with_keepalive}
use Rattle.rules.specs.declared.Slot.{Slot}
use Rattle.rules.specs.declared.Slot.TheVariants.{Empty, Current, Suspended}
use Rattle.event.specs.Event.{is_current}
use Rattle.call.specs.Outcome.{is_over}
use Rattle.plan.specs.Ending.{end_played}
use Rattle.plan.specs.declared.Ending.{Ending}
use Rattle.plan.proofs.Frame.{pick_same}
use Rattle.tally.specs.Event.{event_played}
use Rattle.tally.specs.Suited.{EndingTotals, Totalled}
use Rattle.tally.proofs.Events.{suspended, settled}
use Rattle.tally.proofs.Totals.{ending_totalled, totalled-over}

-- no transaction is current, so event_add_subgroup ends none
end_totalled : (s : Slot) (w : World) → is_current s ≡ false → Totalled w → Totalled (transaction_end_at s false false w)
end_totalled Empty w h t = t
end_totalled Current w h t = absurd (true≢false h)
end_totalled Suspended w h t = t

link_totalled : (w : World) → Totalled w → Totalled (rules.event_link w)
link_totalled w t j h = subst (λ (n : ℕ). n ≤ 18446744073709551615) (sym (pick_same (λ e. e.total) (eqb j event_ep) _ (w.endpoints j) refl)) (t j h)

group_totalled : (i : ℕ) (w : World) → Totalled w → Totalled (push_group event_ep i w)
group_totalled i w t j h = subst (λ (n : ℕ). n ≤ 18446744073709551615) (sym (pick_same (λ e. e.total) (eqb j event_ep) _ (w.endpoints j) refl)) (t j h)

module _ (id : ℕ) (w : World) (settle : is_current w.slot ≡ false) (t : Totalled w) where
  subgroup_totalled : Totalled (rules.event_subgroup_start id w)
  subgroup_totalled = link_totalled (push_transaction id (transaction_end false false w)) (end_totalled w.slot w settle t)

  added_totalled : (start : Bool) → Totalled (rules.event_add_group id start w)
  added_totalled start = group_totalled (pred ((rules.event_subgroup_start id w).endpoints event_ep).transactions) (rules.event_subgroup_start id w) subgroup_totalled

  act_totalled : (a : rules.Act) → Totalled (rules.event_act a id w)
  act_totalled rules.nothing = t
  act_totalled rules.single = added_totalled false
  act_totalled rules.group = added_totalled true
  act_totalled rules.subgroup = subgroup_totalled
  act_totalled rules.keepalive = by w.keepalive
    where
      by : (k : Bool) → Totalled (pick k (rules.event_subgroup_start id w) (with_keepalive true (rules.event_group_start id w)))
      by true = subgroup_totalled
      by false = added_totalled true

  update_totalled : (kind : ℕ) → Totalled (rules.event_update id kind w)
  unfolding rules.event_update
  update_totalled kind = act_totalled (rules.turn_of w.event_state kind).act

-- a keepalive, any other event, finish
pub keepalive-over : (code time : ℕ) (w : World) → Totalled w → is_over (handle_event rules.LsKeepalive code time w) ≡ false
unfolding handle_event
keepalive-over code time w t = totalled-over _ (update_totalled w.packets _ (suspended w.slot) t rules.LsKeepalive)

pub event-over : (e : Ending) (kind code time : ℕ) (w : World) → EndingTotals e w → Totalled w → is_over (event_played e kind code time w) ≡ false
unfolding event_played end_played
event-over e kind code time w h t = totalled-over _ (update_totalled w.packets _ (settled w.slot) (ending_totalled e w h t) kind)

pub ending-over : (e : Ending) (w : World) → EndingTotals e w → Totalled w → is_over (end_played e w) ≡ false
ending-over e w h t = totalled-over (end_played e w) (ending_totalled e w h t)
