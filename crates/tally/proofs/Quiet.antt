-- A transaction that ends without success has no effect; so what is decided of a packet adds to no total but by its own transaction's end.
use mathlib.Core.Path.{◌≡◌, refl, sym, ap, subst, ◌∙◌}
use mathlib.Core.Bool.{Bool, true, false, ◌&&◌, not, true≢false}
use mathlib.Core.List.{List}
use mathlib.Core.Logic.{inl, inr}
use Prim.Native.Nat.{ℕ, ◌+◌, ◌<◌}
use borrow.Author.Tests.{eqb-true}
use lib.Dec.{eqb}
use lib.ListN.{length}
use Rattle.rows.specs.One.{one}
use Rattle.usb.specs.Fields.{setup_data_of}
use Rattle.transaction.proofs.Laws.{extract-keeps}
use Rattle.transaction.specs.Payload.{start_pid, extract_payload}
use Rattle.transaction.specs.Status.{transaction_status}
use Rattle.transaction.specs.Table.{pick}
use Rattle.transaction.specs.declared.Judged.{Judged}
use Rattle.transaction.specs.declared.Status.{Status}
use Rattle.transaction.specs.declared.Transaction.{Transaction}
use Rattle.details.specs.Details.{details_of}
use Rattle.details.specs.declared.Detail.{Detail}
use Rattle.endpoints.specs.declared.Endpoint.{Endpoint}
use Rattle.group.proofs.Laws.{group-keeps}
use Rattle.group.specs.declared.Effect.TheVariants.{NoEffect}
use Rattle.rules.specs.Endpoints.{detail_of}
use Rattle.rules.specs.Transactions.{state_at}
use Rattle.rules.specs.World.{World, with_id}
use Rattle.rules.specs.declared.Slot.{Slot}
use Rattle.rules.specs.declared.Slot.TheVariants.{Empty, Current, Suspended}
use Rattle.update.specs.Update.{when, decide_resume}
use Rattle.record.specs.Bools.{both}
use Rattle.plan.specs.Ending.{current_endpoint, ending_of}
use Rattle.plan.specs.Packet.{resumes, going, old_endpoint, slot_then, transaction_then, entry_then, entry_by, middle_of, is_new, is_last, succeeds, close_of, entry_ended, plan_by, plan_of, end_if, last_ended, completes_by}
use Rattle.plan.specs.declared.Middle.{Middle}
use Rattle.plan.specs.Sound.{world1, world2, world4}
use Rattle.plan.specs.Step.{opened, begun, end_of}
use Rattle.plan.specs.declared.End.{End}
use Rattle.plan.proofs.Frame.{pick_same, total_fixed, own_fixed, opened-entry}
use Rattle.plan.proofs.Quiet.{no_effect}
use Rattle.tally.specs.Suited.{PlanSuits, PlanTotals, EndingTotals}
use Rattle.tally.proofs.Phases.{opened-new}
use Rattle.tally.proofs.Planned.{Good, starts, middle_good, last_not-new, not_zero, held-endpoint, plan_suits}
use Rattle.tally.proofs.Counted.{count2}
use Rattle.tally.proofs.Totals.{begun-total}

end_quiet : (x : ℕ) (e : Endpoint) (t : Transaction) (d : Detail) (last : ℕ) (complete : Bool) → (end_of x e t d last false complete).effect ≡ NoEffect
unfolding end_of
end_quiet x e t d last complete = no_effect e t d complete

end-total : (x : ℕ) (e : Endpoint) (t : Transaction) (d : Detail) (last : ℕ) (success complete : Bool) → (end_of x e t d last success complete).entry.total ≡ e.total
unfolding end_of
end-total x e t d last success complete = (group-keeps e t d success complete).total

-- ---- what is decided of a packet

-- a suspended transaction is resumed
resumed-total : (b : Bool) (id : ℕ) (t : Transaction) (j : ℕ) (w : World) → ((when b (begun id (going true t decide_resume)) w).endpoints j).total ≡ (w.endpoints j).total
unfolding begun opened
resumed-total true id t j w = pick_same (λ a. a.total) (eqb j t.endpoint) _ _ refl
resumed-total false id t j w = refl

-- the entry by which the step is decided, where the old transaction does not end
by_total : (x0 : ℕ) (e : Endpoint) (i : ℕ) (w : World) → e.total ≡ (w.endpoints x0).total → (entry_by x0 e i w).total ≡ (w.endpoints i).total
by_total x0 e i w h = by (eqb i x0) refl
  where
    by : (z : Bool) → eqb i x0 ≡ z → (pick z e (w.endpoints i)).total ≡ (w.endpoints i).total
    by true q = h ∙ ap (λ (j : ℕ). (w.endpoints j).total) (sym (eqb-true i x0 q))
    by false q = refl

close-total : (m : Middle) (last : ℕ) (success complete : Bool) → (close_of m last success complete).entry.total ≡ m.entry.total
unfolding close_of
close-total m last success complete = end-total _ _ _ _ _ success complete ∙ own_fixed (λ a. a.total) total_fixed m.begin.update _ m.entry

-- in a world v with the endpoints' totals of w
middle-total : (x0 : ℕ) (e : Endpoint) (m : Middle) (id : ℕ) (w v : World) → e.total ≡ (w.endpoints x0).total → Good x0 e w m → (m.begin.transaction.endpoint ≡ 0 → ⊥)
    → v.count ≡ w.count → ((i : ℕ) → (v.endpoints i).total ≡ (w.endpoints i).total)
    → m.entry.total ≡ ((begun id m.begin v).endpoints m.begin.transaction.endpoint).total
middle-total x0 e m id w v h (inl g) ne c same =
    let x = m.begin.transaction.endpoint in
    ap (λ (a : Endpoint). a.total) (g.entry ne)
    ∙ (by_total x0 e x w h
    ∙ (sym (same x) ∙ (ap (λ (a : Endpoint). a.total) (sym (opened-entry id m.begin v x (subst (λ (n : ℕ). x < n) (sym c) g.there))) ∙ sym (begun-total id m.begin x v))))
middle-total x0 e m id w v h (inr g) ne c same =
    let x = m.begin.transaction.endpoint in
    ap (λ (a : Endpoint). a.total) (g.entry ∙ sym (opened-new id m.begin v g.new))
    ∙ (ap (λ (i : ℕ). ((opened id m.begin v).endpoints i).total) (c ∙ sym g.there) ∙ sym (begun-total id m.begin x v))

-- the packet's transaction ends only where the old one did not
closing-total : (z : Bool) → z ≡ false → (x0 : ℕ) (e : Endpoint) (old : End) (pid : ℕ) (m : Middle) (last : ℕ) (success complete : Bool) (id : ℕ) (w v : World) (f : World → World)
    → e.total ≡ (w.endpoints x0).total → Good x0 (entry_ended z old pid e) w m → (m.begin.transaction.endpoint ≡ 0 → ⊥) → v.count ≡ w.count → ((i : ℕ) → (v.endpoints i).total ≡ (w.endpoints i).total)
    → (close_of m last success complete).entry.total ≡ ((begun id m.begin (when z f v)).endpoints m.begin.transaction.endpoint).total
closing-total true q x0 e old pid m last success complete id w v f h g ne c same = absurd (true≢false q)
closing-total false q x0 e old pid m last success complete id w v f h g ne c same = close-total m last success complete ∙ middle-total x0 e m id w v h g ne c same

plan_by-totals : (high : Bool) (j : Judged) (x0 : ℕ) (e : Endpoint) (t : Transaction) (packet : List ℕ) (time : ℕ) (w : World) → 2 < w.count → x0 < w.count → e.total ≡ (w.endpoints x0).total → (starts j.status ≡ false → t.endpoint ≡ x0)
    → PlanSuits (plan_by high j x0 e t packet w) packet time w → PlanTotals (plan_by high j x0 e t packet w) packet time w
unfolding plan_by
plan_by-totals high j x0 e t packet time w three there same old suits =
    record {
      quiet = λ r. subst (λ (z : Bool). (end_if z end' e).effect ≡ NoEffect) (sym r) (end_quiet x0 e b _ w.last_item false);
      end = λ r. subst (λ (z : Bool). (end_if z end' e).entry.total ≡ ((world2 (plan_by high j x0 e t packet w) packet time w).endpoints x0).total) (sym r) (end-total x0 e b _ w.last_item false false ∙ (same ∙ sym (total2 x0)));
      there = λ r. (suits.close r).there;
      close = closing;
    }
  where
    s : Status
    s = j.status

    pid : ℕ
    pid = j.pid

    b : Transaction
    b = extract_payload high t pid (length packet) (setup_data_of packet)

    end' : End
    end' = end_of x0 e b (detail_of x0 w) w.last_item false false

    ends : Bool
    ends = is_new s && not (eqb x0 0)

    m : Middle
    m = middle_of s x0 (entry_ended ends end' (start_pid b.style) e) pid packet (w.transactions + one (resumes w.slot)) b w

    close' : End
    close' = close_of m (last_ended ends end' x0 w.last_item) (succeeds s) (completes_by s t.style)

    total2 : (i : ℕ) → ((world2 (plan_by high j x0 e t packet w) packet time w).endpoints i).total ≡ (w.endpoints i).total
    total2 i = resumed-total (resumes w.slot) w.packets (with_id w.transactions w.transaction) i (world1 packet time w)

    closing : (plan_by high j x0 e t packet w).closes ≡ true → (plan_by high j x0 e t packet w).close.entry.total ≡ ((world4 (plan_by high j x0 e t packet w) packet time w).endpoints m.begin.transaction.endpoint).total
    closing h =
        let q = both (is_last s) _ h in
        let x = m.begin.transaction.endpoint in
        subst (λ (z : Bool). (end_if z close' m.entry).entry.total ≡ ((world4 (plan_by high j x0 e t packet w) packet time w).endpoints x).total) (sym h)
        (closing-total ends (ap (λ (y : Bool). y && not (eqb x0 0)) (last_not-new s q.0)) x0 e end' (start_pid b.style) m _ (succeeds s) _ w.packets w (world2 (plan_by high j x0 e t packet w) packet time w) _ same
        (middle_good s x0 _ pid packet _ b w three there (λ h. (extract-keeps high t pid (length packet) (setup_data_of packet)).endpoint ∙ old h))
        (not_zero m.begin.transaction.endpoint q.1)
        (count2 (plan_by high j x0 e t packet w) packet time w refl)
        total2)

then_total : (s : Slot) (e : Endpoint) → (entry_then s e).total ≡ e.total
then_total Empty e = refl
then_total Current e = refl
then_total Suspended e = refl

pub plan-totals : (high : Bool) (packet : List ℕ) (time : ℕ) (w : World) → 2 < w.count → old_endpoint w.slot w.transaction < w.count → PlanTotals (plan_of high packet w) packet time w
unfolding plan_of
plan-totals high packet time w three there =
    let x0 = old_endpoint w.slot w.transaction in
    let e = w.endpoints x0 in
    let t = transaction_then w.slot w.transactions e w.transaction in
    plan_by-totals high (transaction_status high (state_at (slot_then w.slot) t) packet) x0 (entry_then w.slot e) t packet time w three there (then_total w.slot e) (held-endpoint high w.slot w.transactions e w.transaction packet) (plan_suits high packet time w three there)

-- ---- what is decided of the end of the current transaction

pub ending-totals : (w : World) → EndingTotals (ending_of w) w
unfolding ending_of
ending-totals w =
    let x = current_endpoint w.slot w.transaction in
    record { quiet = λ r. end_quiet x (w.endpoints x) w.transaction _ w.last_item false; end = λ r. end-total x (w.endpoints x) w.transaction _ w.last_item false false }
