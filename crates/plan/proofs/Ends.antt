-- The end of a transaction, decided and done, is that of the rules: group_update, transaction_end, and the end by an event or by finish.
use mathlib.Core.Path.{◌≡◌, refl, ap, ◌∙◌}
use mathlib.Core.Bool.{Bool, true, false, not}
use Prim.Native.Nat.{ℕ}
use borrow.Author.Tests.{eq-eqb}
use lib.Dec.{eqb}
use Rattle.transaction.specs.Table.{pick}
use Rattle.rules.specs.World.{World, ◌▷◌, phase, with_slot, with_context, change, last_of, last_stamped}
use Rattle.rules.specs.Endpoints.{detail_of}
use Rattle.rules.specs.Groups.{becomes, effect_step, grouped, group_update}
use Rattle.rules.specs.Transactions.{transaction_end_at, transaction_end}
use Rattle.rules.specs.Decoder.{finish}
use Rattle.rules.specs.declared.Slot.{Slot}
use Rattle.rules.specs.declared.Stamp.{Stamp}
use Rattle.rules.specs.declared.Slot.TheVariants.{Empty, Current, Suspended}
use Rattle.update.specs.Update.{when, decide_update, act}
use Rattle.update.proofs.Decided.{update-is}
use Rattle.plan.specs.Step.{ended, end_of}
use Rattle.plan.specs.Ending.{current_endpoint, slot_ended, ending_of, end_played}
use Rattle.plan.specs.declared.End.{End}
use Rattle.plan.specs.declared.Ending.{Ending}
use Rattle.plan.proofs.Frame.{when_past, ended-slot}

-- the end of the transaction of a world on endpoint x
abbrev pub end_in : ℕ → Bool → Bool → World → End
end_in x success complete w = end_of x (w.endpoints x) w.transaction (detail_of x w) w.last_item success complete

pub ended_is : (x : ℕ) (success complete : Bool) (w : World) → group_update x success complete w ≡ ended x (end_in x success complete w) w
unfolding group_update ended end_of
ended_is x success complete w =
    let r = grouped x success complete w in
    let v = change x (becomes r.endpoint) w in
    ap (effect_step r.effect x)
    (update-is r.status x v
    ∙ ap (λ (b : Bool). act (decide_update r.status (pick b r.endpoint (w.endpoints x)).phase w.transaction.linked (eqb w.last_item x)) x v) (eq-eqb x x refl))

-- where it has no endpoint nothing ends
abbrev pub ended_in : Bool → Bool → World → World
ended_in success complete w =
    let x = w.transaction.endpoint in
    when (not (eqb x 0)) (ended x (end_in x success complete w)) w

pub end_is : (success complete : Bool) (w : World) → transaction_end_at Current success complete w ≡ with_slot Empty (ended_in success complete w)
end_is success complete w = ap (with_slot Empty) (by (eqb w.transaction.endpoint 0))
  where
    by : (b : Bool) → pick b w (group_update w.transaction.endpoint success complete w) ≡ when (not b) (ended w.transaction.endpoint (end_in w.transaction.endpoint success complete w)) w
    by true = refl
    by false = ended_is w.transaction.endpoint success complete w

-- the same of a transaction on endpoint x, where the slot alone says that it is current
pub end_on : (x : ℕ) (success complete : Bool) (w : World) → w.transaction.endpoint ≡ x
    → transaction_end_at Current success complete (with_slot Current w) ≡ with_slot Empty (when (not (eqb x 0)) (ended x (end_in x success complete w)) w)
end_on x success complete w at =
    end_is success complete (with_slot Current w)
    ∙ ap (with_slot Empty)
    (ap (λ (y : ℕ). when (not (eqb y 0)) (ended y (end_in y success complete w)) (with_slot Current w)) at
    ∙ when_past (with_slot Current) (not (eqb x 0)) (ended x (end_in x success complete w)) (ended-slot x (end_in x success complete w) Current) w)

pub ending-is : (w : World) → transaction_end false false w ≡ end_played (ending_of w) w
unfolding ending_of end_played
ending-is w = by w.slot refl
  where
    none : (s : Slot) → w.slot ≡ s → w ≡ with_slot s w
    none s h = ap (λ (z : Slot). with_slot z w) h

    by : (s : Slot) → w.slot ≡ s
        → transaction_end_at s false false w ≡ (w ▷ when (not (eqb (current_endpoint s w.transaction) 0)) (ended (current_endpoint s w.transaction) (end_in (current_endpoint s w.transaction) false false w)) ▷ with_slot (slot_ended s))
    by Empty h = none Empty h
    by Current h = end_is false false w
    by Suspended h = none Suspended h

-- what a call brings is not what the end is decided from
pub ending-context : (c : Stamp) (w : World) → ending_of (with_context c w) ≡ ending_of w
unfolding ending_of
ending-context c w = refl

pub finish-is : (w : World) → finish w ≡ end_played (ending_of w) (last_stamped w)
unfolding finish
finish-is w = ending-is (last_stamped w) ∙ ap (λ (e : Ending). end_played e (last_stamped w)) (ending-context (last_of w.packets w.context) w)
