-- Events, details and finish are lent no shelf: what two shelves have in common stays.
use Prim.Native.Nat.{ℕ, zero, suc, ◌+◌, ◌*◌, ◌≤◌, ◌<◌, min}
use native.Mathlib.Nat.{le_refl}
use native.Mathlib.Omega.{arith}
use mathlib.Core.Path.{◌≡◌, refl, sym, ap, subst, ◌∙◌}
use mathlib.Core.Bool.{Bool, true, false}
use mathlib.Core.List.{List}
use lib.Dec.{eqb}
use Rattle.transaction.specs.Table.{pick}
use Rattle.details.proofs.DetailsLaws.{detail-kept}
use Rattle.details.specs.declared.Device.{Device}
use Rattle.std.specs.Prelude.{Option, Some, None as Absent}
use Rattle.endpoints.specs.Table.{with_phase}
use Rattle.endpoints.specs.declared.Endpoint.{Endpoint}
use Rattle.endpoints.specs.declared.Phase.{Phase}
use Rattle.endpoints.specs.declared.Phase.TheVariants.{None, Early, Active, Ended}
use Rattle.group.specs.declared.Effect.{Effect}
use Rattle.group.specs.declared.Grouped.{Grouped}
use Rattle.rules.specs.Rows.{EventRow}
use Rattle.rules.specs.World.{World, stamped, last_stamped, event_ep, push, change, change_device, with_slot, with_keepalive, with_event_state, more_transactions, more_groups, with_transactions}
use Rattle.rules.specs.Endpoints.{device_for, detail_of, detailed, set_detail_on}
use Rattle.rules.specs.Groups.{add_item, grouped, becomes, effect_step, group_step, group_update}
use Rattle.rules.specs.Transactions.{transaction_end_at, transaction_end, push_transaction}
use Rattle.rules.specs.Events.{event_link, event_subgroup_start, event_add_group, Act, nothing, single, group, subgroup, keepalive, turn_of, event_act, event_update}
use Rattle.rules.specs.Decoder.{push_packet, suspend_at, suspend, end_phase, end_all_active, end_all, handle_event, finish, handle_detail}
use Rattle.rules.specs.declared.Slot.{Slot}
use Rattle.rules.specs.declared.Slot.TheVariants.{Empty, Current, Suspended}
use Rattle.update.specs.Update.{decide_update}
use Rattle.update.proofs.Decided.{update-is}
use Rattle.plan.proofs.Quiet.{no_effect}
use Rattle.unread.proofs.Ends.{w2, closed_still}
use Rattle.unread.proofs.Grounds.{with-slot, change_tame}
use Rattle.unread.proofs.Kin.{Plain, plain, view, Still, Brings, BringsIn, Kin, Mild, Tame, level, then, soft, kin_tame, kin-empty, close-awaits}
use Rattle.unread.proofs.Stages.{never, awaits}

-- ---- steps

item_tame : (x : ℕ) (w : World) → Tame (view w) (view (add_item x w))
item_tame x w = record { mild = level; awaited = λ j h. sym (close-awaits (w.endpoints j)) ∙ h }

ended_tame : (w : World) → Tame (view w) (view (end_all_active w))
ended_tame w = record { mild = level; awaited = λ j h. absurd (by (w.endpoints j) (w.endpoints j).phase h) }
  where
    by : (e : Endpoint) (p : Phase) → awaits (with_phase (end_phase p) e) ≡ true → ⊥
    by e None h = never h
    by e Early h = never h
    by e Active h = never h
    by e Ended h = never h

row_tame : (d : ℕ) (f : Device → Device) → ((v : Device) → (f v).kept ≡ v.kept) → (w : World) → Tame (view w) (view (change_device d f w))
row_tame d f k w =
    record {
      mild = record { count = refl; devices = refl; kept = λ i. by (eqb i d) (w.devices i); device = λ x. refl; address = λ x. refl; setup = λ x. refl; payload = λ x. le_refl _; pending = λ x. refl; slot = refl; style = refl; endpoint = refl; filled = refl; brought = refl };
      awaited = λ x h. h;
    }
  where
    by : (b : Bool) (v : Device) → (pick b (f v) v).kept ≡ v.kept
    by true v = k v
    by false v = refl

module _ (h g : List ℕ) where
  -- ---- a transaction's end without success

  quiet_still : (complete : Bool) (w : World) → Still h g (view w) → Still h g (view (group_update w.transaction.endpoint false complete w))
  unfolding group_update
  quiet_still complete w s =
      let x = w.transaction.endpoint in
      let r : Grouped = grouped x false complete w in
      let w1 = change x (becomes r.endpoint) w in
      let q : effect_step r.effect x (group_step r.status x w1) ≡ w2 h g false complete w s (λ c. never c) =
      ap (λ (f : Effect). effect_step f x (group_step r.status x w1)) (no_effect (w.endpoints x) w.transaction (detail_of x w) complete) ∙ update-is r.status x w1 in
      subst (λ (v : World). Still h g (view v)) (sym q) (closed_still h g false complete w s (λ c. never c))

  pub quiet_kin : (complete : Bool) (w : World) → Kin h g (view w) → Kin h g (view (transaction_end false complete w))
  quiet_kin complete w k = at w.slot refl
    where
      x : ℕ
      x = w.transaction.endpoint

      by : (b : Bool) → Still h g (view (pick b w (group_update x false complete w)))
      by true = k.still
      by false = quiet_still complete w k.still

      at : (s : Slot) → w.slot ≡ s → Kin h g (view (transaction_end_at s false complete w))
      at Empty q = k
      at Current q = record { still = with-slot h g Empty (pick (eqb x 0) w (group_update x false complete w)) (by (eqb x 0)); brings = tt }
      at Suspended q = k

  -- ---- events

  event-link : (w : World) → Kin h g (view w) → Kin h g (view (event_link w))
  event-link w k = kin_tame h g (change_tame event_ep more_transactions (λ a. soft a _ refl refl refl (le_refl a.payload) refl) (λ a q. q) w) k

  subgroup_kin : (n : ℕ) (w : World) → Kin h g (view w) → Kin h g (view (event_subgroup_start n w))
  subgroup_kin n w k = event-link (push_transaction n (transaction_end false false w)) (quiet_kin false w k)

  group_kin : (n : ℕ) (start : Bool) (w : World) → Kin h g (view w) → Kin h g (view (event_add_group n start w))
  group_kin n start w k =
      let u = change event_ep more_groups (event_subgroup_start n w) in
      kin_tame h g (record { mild = level; awaited = λ j q. sym (close-awaits (u.endpoints j)) ∙ q })
      (kin_tame h g (change_tame event_ep more_groups (λ a. soft a _ refl refl refl (le_refl a.payload) refl) (λ a q. q) (event_subgroup_start n w)) (subgroup_kin n w k))

  acts_kin : (a : Act) (n : ℕ) (w : World) → Kin h g (view w) → Kin h g (view (event_act a n w))
  acts_kin nothing n w k = k
  acts_kin single n w k = group_kin n false w k
  acts_kin group n w k = group_kin n true w k
  acts_kin subgroup n w k = subgroup_kin n w k
  acts_kin keepalive n w k = by w.keepalive
    where
      by : (b : Bool) → Kin h g (view (pick b (event_subgroup_start n w) (with_keepalive true (event_add_group n true w))))
      by true = subgroup_kin n w k
      by false = group_kin n true w k

  suspend_kin : (w : World) → Kin h g (view w) → Kin h g (view (suspend w))
  suspend_kin w k = record { still = with-slot h g (suspend_at w.slot) w k.still; brings = by w.slot k.brings }
    where
      by : (s : Slot) → BringsIn h g s (plain w) → BringsIn h g (suspend_at s) (plain (with_slot (suspend_at w.slot) w))
      by Empty b = tt
      by Current b = record { there = b.there; split = b.split; aims = b.aims; bytes = b.bytes }
      by Suspended b = tt

  pub event_kin : (kind code time : ℕ) (w : World) → Kin h g (view w) → Kin h g (view (handle_event kind code time w))
  unfolding handle_event event_update
  event_kin kind code time w k = by (eqb kind 0)
    where
      go : (u : World) → Kin h g (view u) → Kin h g (view (event_update w.packets kind (push (EventRow w.packets code) (push_packet w.bytes time u))))
      go u j = acts_kin (turn_of u.event_state kind).act w.packets (push (EventRow w.packets code) (push_packet w.bytes time u)) j

      by : (b : Bool) → Kin h g (view (event_update w.packets kind (push (EventRow w.packets code) (push_packet w.bytes time (pick b (suspend (stamped time 0 w)) (end_all (stamped time 0 w)))))))
      by true = go (suspend (stamped time 0 w)) (suspend_kin (stamped time 0 w) k)
      by false = go (end_all (stamped time 0 w)) (kin_tame h g (ended_tame (transaction_end false false (stamped time 0 w))) (quiet_kin false (stamped time 0 w) k))

  -- ---- details, finish

  pub detail_kin : (address number direction kind max : ℕ) (w : World) → Kin h g (view w) → Kin h g (view (handle_detail address number direction kind max w))
  unfolding handle_detail
  detail_kin address number direction kind max w k = by (device_for address w)
    where
      by : (f : Option ℕ) → Kin h g (view (set_detail_on f number direction kind max w))
      by (Some d) = kin_tame h g (row_tame d (detailed number direction kind max) (λ v. (detail-kept v number direction kind max).kept) w) k
      by Absent = k

  pub finish_kin : (w : World) → Kin h g (view w) → Kin h g (view (finish w))
  unfolding finish
  finish_kin w k = quiet_kin false (last_stamped w) k
