-- How many endpoints wait once an event has ended the transaction and every active group.
use mathlib.Core.Path.{◌≡◌, refl, sym, ap, ◌∙◌}
use mathlib.Core.Bool.{Bool, true, false, not}
use mathlib.Core.List.{List}
use Prim.Native.Nat.{ℕ, ◌+◌, ◌-◌}
use native.Mathlib.Omega.{arith}
use lib.Dec.{eqb}
use Rattle.rows.specs.One.{one}
use Rattle.transaction.specs.declared.Transaction.{Transaction}
use Rattle.endpoints.specs.Phases.{count, in_phase}
use Rattle.endpoints.proofs.PhasesLaws.{count_ext, count-sum, count-change, phase-entry}
use Rattle.endpoints.specs.Table.{entry_at, phase_word}
use Rattle.endpoints.specs.Word as word
use Rattle.details.specs.declared.Device.{Device}
use Rattle.details.specs.declared.Detail.{Detail}
use Rattle.endpoints.specs.declared.Endpoint.{Endpoint}
use Rattle.endpoints.specs.declared.Phase.{Phase}
use Rattle.endpoints.specs.declared.Phase.TheVariants.{None, Early, Active, Ended}
use Rattle.group.specs.Group.{group_status}
use Rattle.group.specs.Step.{is_active}
use Rattle.group.specs.declared.GroupStatus.{GroupStatus}
use Rattle.group.specs.declared.GroupStatus.TheVariants.{Single, New, Continue, Retry, Done, Invalid}
use Rattle.rules.specs.Decoder.{end_phase, end_all_active}
use Rattle.rules.specs.Groups.{close_phase}
use Rattle.rules.specs.World.{World, phase, is_ended, ended_in, waiting_of}
use Rattle.tally.specs.Tally.{phase_after}
use Rattle.update.specs.Update.{when, decide_update}
use Rattle.record.specs.World.{world_of}
use Rattle.record.specs.declared.Decoder.{Decoder}
use Rattle.plan.specs.Ending.{current_endpoint, ending_of, end_played}
use Rattle.plan.specs.Step.{ended, end_of}
use Rattle.plan.specs.declared.End.{End}
use Rattle.plan.specs.declared.Ending.{Ending}
use Rattle.plan.proofs.Small.{ended-count}
use Rattle.tally.specs.Suited.{EndSuits, EndingSuits, active_in, actives_of, EndingActs}
use Rattle.tally.specs.Tallies.{tally_ending, waiting_then}
use Rattle.tally.proofs.Counted.{ending-adds}
use Rattle.tally.proofs.Phases.{ended-phase, ended-other}

-- those that were active wait too
all-waiting : (w : World) → waiting_of (end_all_active w) ≡ waiting_of w + actives_of w
all-waiting w = count-sum w.count (ended_in w.endpoints) (active_in w.endpoints) _ 0 (λ j u v. by (w.endpoints j).phase)
  where
    by : (p : Phase) → one (is_ended (end_phase p)) ≡ one (is_ended p) + one (is_active p)
    by None = refl
    by Early = refl
    by Active = refl
    by Ended = refl

closed-active : (b : Bool) (p : Phase) → is_active (when b close_phase p) ≡ is_active p
closed-active false p = refl
closed-active true None = refl
closed-active true Early = refl
closed-active true Active = refl
closed-active true Ended = refl

-- an end changes that of its endpoint alone
ended_actives : (x : ℕ) (s : End) (w : World) → EndSuits x s w → actives_of (ended x s w) + one (is_active s.entry.phase) ≡ actives_of w + one (is_active (phase_after s.update s.entry.phase))
ended_actives x s w h =
    let v = ended x s w in
    let l = h.there in
    let c = count-change w.count (active_in w.endpoints) (active_in v.endpoints) 0 x (omega arith) (omega (arith, l)) (λ j ne. ap is_active (ended-other x s w j ne) ∙ (closed-active s.update.item _ ∙ closed-active s.update.start (phase j w))) in
    let n : actives_of v ≡ count (active_in v.endpoints) 0 w.count = ap (count (active_in v.endpoints) 0) (ended-count x s w) in
    let p : one (is_active s.entry.phase) ≡ one (active_in w.endpoints x) = ap (λ (q : Phase). one (is_active q)) h.phase in
    let q : one (active_in v.endpoints x) ≡ one (is_active (phase_after s.update s.entry.phase)) = ap (λ (q : Phase). one (is_active q)) (ended-phase x s w h) in
    omega (arith, c, n, p, q)

-- the theorem
pub waiting-then : (e : Ending) (w : World) → EndingSuits e w → EndingActs e → waiting_of (end_all_active (end_played e w)) ≡ waiting_then e (tally_ending e w.count (waiting_of w)).waiting (actives_of w)
unfolding waiting_then end_played
waiting-then e w h f =
    let t = (ending-adds e w h).waiting in
    let a = all-waiting (end_played e w) in
    a ∙ (ap (λ (m : ℕ). m + actives_of (end_played e w)) t ∙ by e.ends h f (tally_ending e w.count (waiting_of w)).waiting)
  where
    by : (b : Bool) → (b ≡ true → EndSuits e.old e.end w) → (b ≡ true → is_active (phase_after e.end.update e.end.entry.phase) ≡ not e.end.update.end) → (m : ℕ)
        → m + actives_of (when b (ended e.old e.end) w) ≡ when b (λ (k : ℕ). k + one (not e.end.update.end) - one (is_active e.end.entry.phase)) (m + actives_of w)
    by true h f m =
        let c = ended_actives e.old e.end w (h refl) in
        let g : one (is_active (phase_after e.end.update e.end.entry.phase)) ≡ one (not e.end.update.end) = ap one (f refl) in
        omega (arith, c, g)
    by false h f m = refl

-- ---- what is decided of the end

decided-active : (s : GroupStatus) (p : Phase) (l same : Bool) → is_active (phase_after (decide_update s p l same) p) ≡ not (decide_update s p l same).end
decided-active Single p l same = closed-active (decide_update Single p l same).item Ended
decided-active New None l same = refl
decided-active New Early l same = refl
decided-active New Active l same = refl
decided-active New Ended l same = refl
decided-active Continue None l same = refl
decided-active Continue Early l same = refl
decided-active Continue Active l same = refl
decided-active Continue Ended l same = refl
decided-active Retry None l same = refl
decided-active Retry Early l same = refl
decided-active Retry Active l same = refl
decided-active Retry Ended l same = refl
decided-active Done p l same = closed-active (decide_update Done p l same).item Ended
decided-active Invalid p l same = closed-active (decide_update Invalid p l same).item Ended

end_acts : (x : ℕ) (e : Endpoint) (t : Transaction) (d : Detail) (last : ℕ) (success complete : Bool)
    → is_active (phase_after (end_of x e t d last success complete).update (end_of x e t d last success complete).entry.phase) ≡ not (end_of x e t d last success complete).update.end
unfolding end_of
end_acts x e t d last success complete = let g = group_status e t d success complete in decided-active g.status g.endpoint.phase t.linked (eqb last x)

pub ending_acts : (w : World) → EndingActs (ending_of w)
unfolding ending_of
ending_acts w = let x = current_endpoint w.slot w.transaction in λ r. end_acts x (w.endpoints x) w.transaction _ w.last_item false false

-- ---- the table's

pub actives-table : (d : Decoder) (devices : List Device) (table : List ℕ) → actives_of (world_of d devices table) ≡ count (in_phase word.Active table) 0 d.counts.endpoints
actives-table d devices table = count_ext d.counts.endpoints (in_phase word.Active table) (active_in (entry_at table)) 0 (λ j u v. by (entry_at table j).phase ∙ sym (phase-entry table j word.Active (omega arith) (omega arith)))
  where
    by : (p : Phase) → is_active p ≡ eqb (phase_word p) word.Active
    by None = refl
    by Early = refl
    by Active = refl
    by Ended = refl
