-- How many endpoints a packet adds: the one of its step, if that is new.
use Prim.Native.Nat.{ℕ, ◌+◌, ◌<◌}
use native.Mathlib.Omega.{arith}
use mathlib.Core.Path.{◌≡◌, refl, ap, ◌∙◌}
use mathlib.Core.Bool.{Bool, true, false, not}
use Rattle.rows.specs.One.{one}
use Rattle.group.specs.declared.Effect.{Effect}
use Rattle.group.specs.declared.Effect.TheVariants.{NoEffect, NewDevice, Request, PendingData, IndexData}
use Rattle.tally.specs.Tally.{add_waiting, add_device, add_transaction, add_link, add_entry, add_item, add_endpoint, tally_update, tally_effect}
use Rattle.update.specs.Update.{when}
use Rattle.update.specs.declared.Update.{Update}
use Rattle.tally.specs.declared.add.Tally.{Tally}
use Rattle.record.specs.Room.{fitting}
use Rattle.record.specs.RoomLaws as room
use Rattle.record.specs.declared.Counts.{Counts}
use Rattle.plan.specs.declared.Begin.{Begin}
use Rattle.plan.specs.declared.End.{End}
use Rattle.plan.specs.declared.Plan.{Plan}
use Rattle.tally.specs.Tallies.{endpoints_then, tally_begin, tally_end, tally_plan, add_counts}

kept : (b : Bool) (f : Tally → Tally) (t : Tally) (n : ℕ) → (f t).endpoints ≡ t.endpoints → t.endpoints ≡ n → (when b f t).endpoints ≡ n
kept true f t n h q = h ∙ q
kept false f t n h q = q

update-endpoints : (u : Update) (n : ℕ) (t : Tally) → (tally_update u n t).endpoints ≡ t.endpoints
unfolding tally_update
update-endpoints u n t =
    kept u.item add_item _ _ refl
    (kept u.end (add_entry n) _ _ refl
    (kept u.end add_waiting _ _ refl
    (kept u.start add_item _ _ refl
    (kept u.start (add_entry n) _ _ refl
    (kept u.start add_link _ _ refl (kept u.link add_link _ _ refl (kept u.cut (add_entry n) _ _ refl (kept u.cut add_waiting _ _ refl (kept u.over add_waiting t _ refl refl)))))))))

effect-endpoints : (f : Effect) (t : Tally) → (tally_effect f t).endpoints ≡ t.endpoints
effect-endpoints NoEffect t = refl
effect-endpoints (NewDevice a) t = refl
effect-endpoints (Request n) t = refl
effect-endpoints (PendingData n) t = refl
effect-endpoints (IndexData n waited i) t = refl

begin-endpoints : (s : Begin) (n : ℕ) (t : Tally) → (tally_begin s n t).endpoints ≡ t.endpoints + one s.endpoint
unfolding tally_begin
begin-endpoints s n t =
    update-endpoints s.update (endpoints_then s n) _ ∙ (new s.endpoint _ ∙ ap (λ (m : ℕ). m + one s.endpoint) (kept s.device add_device _ _ refl (kept s.row add_transaction t _ refl refl)))
  where
    new : (b : Bool) (t : Tally) → (when b add_endpoint t).endpoints ≡ t.endpoints + one b
    new true t = refl
    new false t = omega arith

end-endpoints : (s : End) (n : ℕ) (t : Tally) → (tally_end s n t).endpoints ≡ t.endpoints
unfolding tally_end
end-endpoints s n t = effect-endpoints s.effect _ ∙ update-endpoints s.update n t

still : (s : Begin) (n : ℕ) (t : Tally) → s.endpoint ≡ false → (tally_begin s n t).endpoints ≡ t.endpoints
still s n t h = begin-endpoints s n t ∙ (ap (λ (b : Bool). t.endpoints + one b) h ∙ omega arith)

pub plan-endpoints : (p : Plan) (len n m : ℕ) → p.resume.endpoint ≡ false → (tally_plan p len n m).endpoints ≡ one p.begin.endpoint
unfolding tally_plan
plan-endpoints p len n m h =
    kept p.closes (tally_end p.close (endpoints_then p.begin n)) _ _ (end-endpoints p.close _ _)
    (begin-endpoints p.begin n _ ∙ ap (λ (k : ℕ). k + one p.begin.endpoint) (kept p.ends (tally_end p.end n) _ 0 (end-endpoints p.end n _) (kept p.resumes (tally_begin p.resume n) _ 0 (still p.resume n _ h) refl)) ∙ omega arith)

-- so where there would be too many, there is no room
unfit : (p : Plan) (len m : ℕ) (n most : Counts) → p.resume.endpoint ≡ false → 128 < endpoints_then p.begin n.endpoints → fitting (add_counts n (tally_plan p len n.endpoints m)) most ≡ true → ⊥
unfolding add_counts
unfit p len m n most h l f = let w = (room.within _ most f).few_endpoints in let e = plan-endpoints p len n.endpoints m h in omega (arith, w, e, l)

pub too_many : (p : Plan) (len m : ℕ) (n most : Counts) → p.resume.endpoint ≡ false → 128 < endpoints_then p.begin n.endpoints → not (fitting (add_counts n (tally_plan p len n.endpoints m)) most) ≡ true
too_many p len m n most h l = by (fitting (add_counts n (tally_plan p len n.endpoints m)) most) refl
  where
    by : (b : Bool) → fitting (add_counts n (tally_plan p len n.endpoints m)) most ≡ b → not b ≡ true
    by true f = absurd (unfit p len m n most h l f)
    by false f = refl
