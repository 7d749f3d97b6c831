use native.Mathlib.Omega.{arith}
use Prim.Native.Nat.{ℕ, ◌+◌, ◌<◌, ◌≤◌, ◌^◌}
use mathlib.Core.Path.{◌≡◌, sym, ap, subst, ◌∙◌}
use mathlib.Core.Bool.{Bool, true, false, ◌&&◌}
use borrow.Author.Tests.{eqb-true, eqb-false, not-true}
use lib.Dec.{eqb}
use Rattle.rows.specs.One.{one}
use Rattle.record.specs.Bools.{both}
use Rattle.record.specs.Room.{fitting, numbered}
use Rattle.record.specs.declared.Counts.{Counts}
use Rattle.record.specs.declared.Decoder.{Decoder}
use Rattle.tally.specs.Tally.{Within}
use Rattle.tally.specs.Tallies.{endpoints_then, add_counts, room_for, tally_plan}
use Rattle.tally.specs.declared.add.Tally.{Tally}
use Rattle.tally.proofs.Bounds.{looser, plan_small, sums-room}
use Rattle.plan.specs.declared.Plan.{Plan}
use Rattle.tally.proofs.Endpoints.{too_many}
use Rattle.packet.specs.After.{sum_plan, tally_of}
use Rattle.packet.proofs.sum.sum_plan.Goals as goal

many : (b : Bool) (n : ℕ) → (b && eqb n 128) ≡ true → 128 < n + one b
many b n h = let g = both b (eqb n 128) h in let e = ap one g.0 in let f = eqb-true n 128 g.1 in omega (arith, e, f)

few : (b : Bool) (n : ℕ) → n ≤ 128 → (b && eqb n 128) ≡ false → n + one b ≤ 128
few true n l h = let f = eqb-false n 128 h in omega arith
few false n l h = omega arith

full : (p : Plan) (len m : ℕ) (held n room : Counts) → p.resume.endpoint ≡ false → n.endpoints ≡ held.endpoints → 128 < endpoints_then p.begin n.endpoints
    → room_for held n (tally_plan p len n.endpoints m) room ≡ false
full p len m held n room r e l = ap (λ (b : Bool). b && numbered (add_counts n (tally_plan p len n.endpoints m)))
    (subst (λ (k : ℕ). fitting (add_counts held (tally_plan p len k m)) room ≡ false) (sym e)
    (not-true _ (too_many p len m held room r (subst (λ (k : ℕ). 128 < endpoints_then p.begin k) e l))))

small : {t : Tally} (d : Decoder) (p : Plan) (len : ℕ) → len ≤ 4096 → d.waiting ≤ 128 → d.counts.endpoints ≤ 128 → p.resume.endpoint ≡ false → (p.begin.endpoint && eqb d.counts.endpoints 128) ≡ false
    → t ≡ tally_of d p len → Within (2 ^ 40) t
small d p len b w f r h t =
    let e = ap one r in
    let a = plan_small p len d.counts.endpoints d.waiting b w (omega (arith, f, e)) f (few p.begin.endpoint d.counts.endpoints f h) in
    subst (Within (2 ^ 40)) (sym t) (looser a (2 ^ 40) (omega arith))

pub returns-then-plan-n : goal.returns-then-plan-n
unfolding sum_plan
returns-then-plan-n c = let s = c in
    let l = many s.args.plan.begin.endpoint s.args.d.counts.endpoints c.if-plan-n.true in
    let f : room_for s.args.held s.args.d.counts (tally_of s.args.d s.args.plan s.args.len) s.args.room ≡ false
    = full s.args.plan s.args.len s.args.d.waiting s.args.held s.args.d.counts s.args.room s.requires.endpoint_value s.requires.countable.endpoints l in
    rw f

pub tally_plan-t-requires : goal.tally_plan-t-requires
tally_plan-t-requires c = let s = c in record { len_bound = s.requires.len_bound; waiting_bound = s.requires.waiting_bound; endpoint_value = s.requires.endpoint_value; endpoints_bound = few s.args.plan.begin.endpoint s.args.d.counts.endpoints s.requires.endpoints_bound c.if-plan-n.false }

pub has_room_for-requires : goal.has_room_for-requires
has_room_for-requires c = let z = c.requires.countable in
    record { under = z.few; within = small c.args.d c.args.plan c.args.len c.requires.len_bound c.requires.waiting_bound c.requires.endpoints_bound c.requires.endpoint_value c.if-plan-n.false c.tally_plan-t.ensures; numbered = z.numbered }

pub returns-then-not-has_room_for : goal.returns-then-not-has_room_for
unfolding sum_plan
returns-then-not-has_room_for c = let room = rw c.tally_plan-t.ensures at c.has_room_for.ensures in rw (← room, c.if-not-has_room_for.true)

pub returns-then-plan_passes : goal.returns-then-plan_passes
unfolding sum_plan
returns-then-plan_passes c = let room = rw c.tally_plan-t.ensures at c.has_room_for.ensures in rw (← room, c.if-not-has_room_for.false, ← c.plan_passes.ensures, c.if-plan_passes.true)

pub add_counts-requires : goal.add_counts-requires
add_counts-requires c =
    sums-room _ _ c.requires.countable (small c.args.d c.args.plan c.args.len c.requires.len_bound c.requires.waiting_bound c.requires.endpoints_bound c.requires.endpoint_value c.if-plan-n.false c.tally_plan-t.ensures) (sym c.has_room_for.ensures ∙ c.if-not-has_room_for.false)

pub returns : goal.returns
unfolding sum_plan
returns c = let room = rw c.tally_plan-t.ensures at c.has_room_for.ensures in rw (← room, c.if-not-has_room_for.false, ← c.plan_passes.ensures, c.if-plan_passes.false, c.add_counts.ensures, c.tally_plan-t.ensures)
