-- Answer 9: of all that a packet does, only the end of its own transaction adds to a byte total, and only to its endpoint's.
use mathlib.Core.Path.{◌≡◌, refl, sym, ap, subst, ◌∙◌}
use mathlib.Core.Bool.{Bool, true, false, ◌&&◌, ◌||◌}
use mathlib.Core.List.{List}
use Prim.Native.Nat.{ℕ, zero, suc, ◌+◌, ◌<◌, ◌≤◌}
use native.Mathlib.Omega.{arith}
use borrow.Author.Tests.{eqb-true, eqb-false, eq-eqb, ne_eqb, le-ltb, ltb-true, ltb-false}
use lib.Dec.{eqb, ltb}
use Rattle.rows.specs.One.{one}
use Rattle.transaction.specs.Table.{pick}
use Rattle.transaction.specs.declared.Transaction.{Transaction}
use Rattle.endpoints.specs.declared.Endpoint.{Endpoint}
use Rattle.group.specs.declared.Effect.{Effect}
use Rattle.group.specs.declared.Effect.TheVariants.{NoEffect, NewDevice, Request, PendingData, IndexData}
use Rattle.rules.specs.Groups.{becomes, effect_step}
use Rattle.rules.specs.World.{World, change, with_transaction}
use Rattle.update.specs.Effect.{passes}
use Rattle.update.specs.Update.{when, act}
use Rattle.call.specs.Outcome.{any_over, is_over}
use Rattle.plan.specs.Ending.{end_played}
use Rattle.plan.specs.Packet.{played}
use Rattle.plan.specs.Sound.{world1, world2, world3, world4}
use Rattle.plan.specs.Step.{opened, begun, ended}
use Rattle.plan.specs.declared.Begin.{Begin}
use Rattle.plan.specs.declared.End.{End}
use Rattle.plan.specs.declared.Ending.{Ending}
use Rattle.plan.specs.declared.Plan.{Plan}
use Rattle.plan.proofs.Frame.{pick_same, total_fixed, act_fixed, opened-entry}
use Rattle.plan.proofs.Small.{begun-count, ended-count}
use Rattle.tally.specs.Passes.{plan_passes}
use Rattle.tally.specs.Suited.{PlanTotals, EndingTotals, Totalled}
use Rattle.tally.proofs.Phases.{there, opened-new}

abbrev most : ℕ
most = 18446744073709551615

-- ---- an effect's

abbrev total_after : Effect → ℕ → ℕ
total_after NoEffect total = total
total_after (NewDevice a) total = total
total_after (Request n) total = total
total_after (PendingData n) total = total
total_after (IndexData n waited i) total = total + n

pick_total : (b : Bool) (a c : Endpoint) (n : ℕ) → b ≡ true → a.total ≡ n → (pick b a c).total ≡ n
pick_total true a c n h q = q
pick_total false a c n h q = cc

effect-own : (f : Effect) (x : ℕ) (w : World) → ((effect_step f x w).endpoints x).total ≡ total_after f (w.endpoints x).total
effect-own NoEffect x w = refl
effect-own (NewDevice a) x w = refl
effect-own (Request n) x w = refl
effect-own (PendingData n) x w = pick_same (λ e. e.total) (eqb x x) _ _ refl
effect-own (IndexData n waited i) x w = pick_total (eqb x x) _ _ _ (eq-eqb x x refl) refl

effect-other : (f : Effect) (x j : ℕ) (w : World) → (j ≡ x → ⊥) → ((effect_step f x w).endpoints j).total ≡ (w.endpoints j).total
effect-other NoEffect x j w ne = refl
effect-other (NewDevice a) x j w ne = refl
effect-other (Request n) x j w ne = refl
effect-other (PendingData n) x j w ne = pick_same (λ e. e.total) (eqb j x) _ _ refl
effect-other (IndexData n waited i) x j w ne = ap (λ (e : Endpoint). e.total) (there _ _ (ne_eqb j x ne))

passes-after : (f : Effect) (total : ℕ) → total ≤ most → ltb most (total_after f total) ≡ passes f total
passes-after NoEffect total h = le-ltb most total h
passes-after (NewDevice a) total h = le-ltb most total h
passes-after (Request n) total h = le-ltb most total h
passes-after (PendingData n) total h = le-ltb most total h
passes-after (IndexData n waited i) total h = refl

-- ---- the steps

ended-own : (x : ℕ) (s : End) (w : World) → ((ended x s w).endpoints x).total ≡ total_after s.effect s.entry.total
unfolding ended
ended-own x s w =
    let v = change x (becomes s.entry) w in
    effect-own s.effect x (act s.update x v) ∙ ap (total_after s.effect) (act_fixed (λ e. e.total) total_fixed s.update x x v ∙ pick_total (eqb x x) s.entry (w.endpoints x) _ (eq-eqb x x refl) refl)

ended-other : (x : ℕ) (s : End) (j : ℕ) (w : World) → (j ≡ x → ⊥) → ((ended x s w).endpoints j).total ≡ (w.endpoints j).total
unfolding ended
ended-other x s j w ne =
    let v = change x (becomes s.entry) w in
    effect-other s.effect x j (act s.update x v) ne ∙ (act_fixed (λ e. e.total) total_fixed s.update x j v ∙ ap (λ (e : Endpoint). e.total) (there s.entry (w.endpoints j) (ne_eqb j x ne)))

-- an end with no effect keeps all
quiet-end : (x : ℕ) (s : End) (j : ℕ) (w : World) → s.effect ≡ NoEffect → s.entry.total ≡ (w.endpoints x).total → ((ended x s w).endpoints j).total ≡ (w.endpoints j).total
quiet-end x s j w q t = by (eqb j x) refl
  where
    own : ((ended x s w).endpoints x).total ≡ (w.endpoints x).total
    own = ended-own x s w ∙ (ap (λ (f : Effect). total_after f s.entry.total) q ∙ t)

    by : (b : Bool) → eqb j x ≡ b → ((ended x s w).endpoints j).total ≡ (w.endpoints j).total
    by true h = let e = eqb-true j x h in subst (λ (i : ℕ). ((ended x s w).endpoints i).total ≡ (w.endpoints i).total) (sym e) own
    by false h = ended-other x s j w (eqb-false j x h)

pub begun-total : (id : ℕ) (s : Begin) (j : ℕ) (w : World) → ((begun id s w).endpoints j).total ≡ ((opened id s w).endpoints j).total
unfolding begun
begun-total id s j w = act_fixed (λ e. e.total) total_fixed s.update s.transaction.endpoint j (with_transaction s.transaction (opened id s w))

-- no total passes on the way
begun_totalled : (id : ℕ) (s : Begin) (w : World) → Totalled w → Totalled (begun id s w)
begun_totalled id s w t j h =
    let c = begun-count id s w in
    let l : j < w.count + one s.endpoint = subst (λ (n : ℕ). j < n) c h in
    subst (λ (n : ℕ). n ≤ most) (sym (begun-total id s j w)) (by (ltb j w.count) refl s.endpoint refl l)
  where
    old : j < w.count → ((opened id s w).endpoints j).total ≤ most
    old l = subst (λ (e : Endpoint). e.total ≤ most) (sym (opened-entry id s w j l)) (t j l)

    new : s.endpoint ≡ true → j ≡ w.count → ((opened id s w).endpoints j).total ≤ most
    new h e = subst (λ (i : ℕ). ((opened id s w).endpoints i).total ≤ most) (sym e) (subst (λ (a : Endpoint). a.total ≤ most) (sym (opened-new id s w h)) (omega arith))

    by : (a : Bool) → ltb j w.count ≡ a → (b : Bool) → s.endpoint ≡ b → j < w.count + one s.endpoint → ((opened id s w).endpoints j).total ≤ most
    by true g b f l = old (ltb-true j w.count g)
    by false g true f l = let y = ltb-false j w.count g in let z : one s.endpoint ≡ 1 = ap one f in new f (omega (arith, y, z, l))
    by false g false f l = let z : one s.endpoint ≡ 0 = ap one f in old (omega (arith, z, l))

begun-when : (b : Bool) (id : ℕ) (s : Begin) (w : World) → Totalled w → Totalled (when b (begun id s) w)
begun-when true id s w t = begun_totalled id s w t
begun-when false id s w t = t

quiet_totalled : (x : ℕ) (s : End) (w : World) → s.effect ≡ NoEffect → s.entry.total ≡ (w.endpoints x).total → Totalled w → Totalled (ended x s w)
quiet_totalled x s w q e t j h = subst (λ (n : ℕ). n ≤ most) (sym (quiet-end x s j w q e)) (t j (subst (λ (n : ℕ). j < n) (ended-count x s w) h))

brought-when : (b : Bool) (x : ℕ) (s : End) (brought : Transaction) (w : World) → (b ≡ true → s.effect ≡ NoEffect) → (b ≡ true → s.entry.total ≡ (w.endpoints x).total) → Totalled w
    → Totalled (when b (λ v. ended x s (with_transaction brought v)) w)
brought-when true x s brought w q e t = quiet_totalled x s (with_transaction brought w) (q refl) (e refl) t
brought-when false x s brought w q e t = t

-- ---- the test over all endpoints

any_none : (n : ℕ) (w : World) → ((j : ℕ) → j < n → (w.endpoints j).total ≤ most) → any_over n w ≡ false
any_none zero w h = refl
any_none (suc n) w h = rw (le-ltb most (w.endpoints n).total (h n (omega arith))) (any_none n w (λ j l. h j (omega arith)))

or_false : (a b : Bool) → b ≡ false → (a || b) ≡ a
or_false true b h = refl
or_false false b h = h

any-one : (n : ℕ) (w : World) (x : ℕ) → x < n → ((j : ℕ) → j < n → (j ≡ x → ⊥) → (w.endpoints j).total ≤ most) → any_over n w ≡ ltb most (w.endpoints x).total
any-one zero w x l h = absurd (omega arith)
any-one (suc n) w x l h = by (eqb n x) refl (λ g. any-one n w x g (λ j k. h j (omega arith)))
  where
    by : (b : Bool) → eqb n x ≡ b → (x < n → any_over n w ≡ ltb most (w.endpoints x).total) → any_over (suc n) w ≡ ltb most (w.endpoints x).total
    by true e rec =
        let s = eqb-true n x e in
        or_false (ltb most (w.endpoints n).total) _ (any_none n w (λ j k. h j (omega arith) (λ z. omega arith))) ∙ ap (λ (i : ℕ). ltb most (w.endpoints i).total) s
    by false e rec = let s = eqb-false n x e in rw (le-ltb most (w.endpoints n).total (h n (omega arith) s)) (rec (omega arith))

-- ---- the calls

close-over : (b : Bool) (x : ℕ) (s : End) (w : World) → Totalled w → (b ≡ true → x < w.count) → (b ≡ true → s.entry.total ≡ (w.endpoints x).total)
    → is_over (when b (ended x s) w) ≡ (b && passes s.effect s.entry.total)
unfolding is_over
close-over true x s w t h e =
    let c = ended-count x s w in
    let l = h refl in
    any-one (ended x s w).count (ended x s w) x (subst (λ (n : ℕ). x < n) (sym c) l) (λ j k ne. subst (λ (n : ℕ). n ≤ most) (sym (ended-other x s j w ne)) (t j (subst (λ (n : ℕ). j < n) c k)))
    ∙ (ap (ltb most) (ended-own x s w) ∙ passes-after s.effect s.entry.total (subst (λ (n : ℕ). n ≤ most) (sym (e refl)) (t x l)))
close-over false x s w t h e = any_none w.count w t

any_ext : (n : ℕ) (w v : World) → w.endpoints ≡ v.endpoints → any_over n w ≡ any_over n v
any_ext zero w v h = refl
any_ext (suc n) w v h = ap (λ (f : ℕ → Endpoint). ltb most (f n).total || any_over n w) h ∙ ap (λ (b : Bool). ltb most (v.endpoints n).total || b) (any_ext n w v h)

pub played-over : (p : Plan) (packet : List ℕ) (time : ℕ) (w : World) → PlanTotals p packet time w → Totalled w → is_over (played p packet time w) ≡ plan_passes p
unfolding played plan_passes is_over
played-over p packet time w h t =
    let a = begun-when p.resumes w.packets p.resume (world1 packet time w) t in
    let b = brought-when p.ends p.old p.end p.brought (world2 p packet time w) h.quiet h.end a in
    let c = begun_totalled w.packets p.begin (world3 p packet time w) b in
    let v = when p.closes (ended p.begin.transaction.endpoint p.close) (world4 p packet time w) in
    any_ext v.count _ v refl ∙ close-over p.closes p.begin.transaction.endpoint p.close (world4 p packet time w) c h.there h.close

-- finish
ended-when : (b : Bool) (x : ℕ) (s : End) (w : World) → (b ≡ true → s.effect ≡ NoEffect) → (b ≡ true → s.entry.total ≡ (w.endpoints x).total) → Totalled w → Totalled (when b (ended x s) w)
ended-when true x s w q e t = quiet_totalled x s w (q refl) (e refl) t
ended-when false x s w q e t = t

pub ending_totalled : (e : Ending) (w : World) → EndingTotals e w → Totalled w → Totalled (end_played e w)
unfolding end_played
ending_totalled e w h t = ended-when e.ends e.old e.end w h.quiet h.end t

pub totalled-over : (w : World) → Totalled w → is_over w ≡ false
unfolding is_over
totalled-over w t = any_none w.count w t
