-- Laws (proved), of descriptors: a step of the walk, and a turn of the loop that keeps its entries, told by flags.
-- Assumes nothing.
use Rattle.std.specs.Prelude.{ℕ, suc, ◌+◌, ◌-◌, ◌*◌, ◌≤◌, Bool, cond, ◌&&◌, ltb, take, drop, Option, Some, None, is_some, unwrap_or}
use Rattle.std.proofs.lemmas.Option.{none-some, same_Some}
use native.Mathlib.Omega.{arith}
use Rattle.std.proofs.Math.Path.{◌≡◌, refl, sym, ap}
use Rattle.std.proofs.Common.{◌∙◌, subst, ltb-true, ltb-false}
use Rattle.std.proofs.Math.Bool.{true, false}
use Rattle.std.proofs.lemmas.Bool.{false≢true}
use mathlib.Core.List.{List, [], ◌∷◌, ◌++◌}
use Rattle.std.proofs.Math.ListN.{length, length-drop}
use Rattle.std.proofs.Math.Seq.{sets, length-sets, length-take-le}
use Rattle.rows.specs.One.{one}
use Rattle.rows.specs.Sets.{opt, sets-append}
use Rattle.descriptors.specs.Whole.{whole, joined}
use Rattle.descriptors.proofs.WholeLaws.{both_left, both_right}
use Rattle.descriptors.specs.Entries.{first_of, value_of, maybe, unset, entries_in, entries_of, fitting}
use Rattle.descriptors.specs.Steps.{whole_at, step_at}
use Rattle.descriptors.specs.declared.walk.Setting.{Setting}
use Rattle.descriptors.specs.declared.walk.Step.{Step}
use Rattle.descriptors.proofs.StepLaws.{Turn, turn_of, end_of, entries-taken, unplaced, count_turn, joined-turn, opt-length, Left}

module _ (value : ℕ) (p : List ℕ) (at : ℕ) (s : Option Setting) where
  pub turn_at : {r : Step} → step_at p at s ≡ Some r → Turn value p at s r
  turn_at {r} h = turn_of value p at s r (sym h)

  pub end_at : step_at p at s ≡ None → entries_in value s (whole (drop at p)) ≡ []
  end_at h = end_of value p at s (sym h)

-- the entries by what `read_value` gave
pub untaken : (b : Bool) (v : ℕ) (es : List (List ℕ)) → cond b (Some v) None ≡ None → cond b es [] ≡ []
untaken false v es h = refl
untaken true v es h = absurd (none-some v (sym h))

pub taken_by : (b : Bool) (v : ℕ) (s : Option Setting) (ds : List (List ℕ)) {n : ℕ} → cond b (Some v) None ≡ Some n → cond b (entries_in v s ds) [] ≡ entries_in n s ds
taken_by true v s ds h = ap (λ (v : ℕ). entries_in v s ds) (same_Some _ _ h)
taken_by false v s ds h = absurd (none-some _ h)

pub not-empty : {v : ℕ} → first_of 2 9 5 [] ≡ Some v → ⊥
unfolding first_of
not-empty {v} h = none-some v h

-- `from` is 0 where there is no descriptor
pub entries_at : (p : List ℕ) (from : ℕ) {v : ℕ} → from ≡ unwrap_or (whole_at p 0) 0 → value_of p ≡ Some v → entries_of p ≡ entries_in v unset (whole (drop from p))
entries_at p from {v} f h = by (whole_at p 0) refl f
  where
    by : (o : Option ℕ) → whole_at p 0 ≡ o → from ≡ unwrap_or o 0 → entries_of p ≡ entries_in v unset (whole (drop from p))
    by (Some n) e f = entries-taken p (sym h) (ap Some f ∙ sym e)
    by None e f = absurd (unplaced p (sym h) (sym e))

-- a turn of the loop that keeps: an entry is kept where there is room
pub fit-turn : (b : Bool) (n : ℕ) (e : List ℕ) (es : List (List ℕ)) → n ≤ 585
    → fitting n (maybe b e ++ es) ≡ maybe (b && ltb n 585) e ++ fitting (n + one (b && ltb n 585)) es
unfolding fitting
fit-turn false n e es h = let z : n + 0 ≡ n = omega arith in rw z
fit-turn true n e es h = by (ltb n 585) refl
  where
    by : (t : Bool) → ltb n 585 ≡ t → take (585 - n) (e ∷ es) ≡ maybe t e ++ take (585 - (n + one t)) es
    by true q =
        let l = ltb-true n 585 q in
        let z : 585 - n ≡ suc (585 - (n + 1)) = omega arith in
        rw z
    by false q =
        let l = ltb-false n 585 q in
        let z : 585 - n ≡ 0 = omega arith in
        let y : 585 - (n + 0) ≡ 0 = omega arith in
        rw (z, y)

pub store-turn : (b : Bool) (base n : ℕ) (e : List ℕ) (es : List (List ℕ)) (store store₁ : List ℕ) → n ≤ 585 → length e ≡ 7
    → store₁ ≡ sets store (base + n * 7) (opt (b && ltb n 585) e)
    → sets store (base + n * 7) (joined (fitting n (maybe b e ++ es)))
    ≡ sets store₁ (base + (n + one (b && ltb n 585)) * 7) (joined (fitting (n + one (b && ltb n 585)) es))
store-turn b base n e es store store₁ h l q =
    let on = b && ltb n 585 in
    let z : base + n * 7 + length (opt on e) ≡ base + (n + one on) * 7 = omega (arith, opt-length on e l) in
    ap (λ (xs : List (List ℕ)). sets store (base + n * 7) (joined xs)) (fit-turn b n e es h)
    ∙ ap (sets store (base + n * 7)) (joined-turn on e (fitting (n + one on) es))
    ∙ sym (sets-append (opt on e) (joined (fitting (n + one on) es)) store (base + n * 7))
    ∙ ap (λ (m : ℕ). sets (sets store (base + n * 7) (opt on e)) m (joined (fitting (n + one on) es))) z
    ∙ ap (λ (st : List ℕ). sets st (base + (n + one on) * 7) (joined (fitting (n + one on) es))) (sym q)

pub left-start : (base kept : ℕ) (all rest : List (List ℕ)) (store : List ℕ) → kept ≤ 585 → all ≡ rest → Left base kept all rest store store kept
left-start base kept all rest store h e =
    record {
      most = h;
      same = refl;
      stored = ap (λ (es : List (List ℕ)). sets store (base + kept * 7) (joined (fitting kept es))) e;
      counted = ap (λ (es : List (List ℕ)). kept + length (fitting kept es)) e;
    }

pub kept-most : (b : Bool) (n : ℕ) → n ≤ 585 → n + one (b && ltb n 585) ≤ 585
kept-most false n h = omega arith
kept-most true n h = by (ltb n 585) refl
  where
    by : (t : Bool) → ltb n 585 ≡ t → n + one t ≤ 585
    by true q = omega (arith, ltb-true n 585 q)
    by false q = omega arith

module _ {base kept : ℕ} {all rest : List (List ℕ)} {store₀ store : List ℕ} {n : ℕ} (l : Left base kept all rest store₀ store n) where
  pub left-turn : (b : Bool) (e : List ℕ) (more : List (List ℕ)) (store₁ : List ℕ) (m : ℕ) → rest ≡ maybe b e ++ more → length e ≡ 7
      → store₁ ≡ sets store (base + n * 7) (opt (b && ltb n 585) e) → m ≡ n + one (b && ltb n 585) → Left base kept all more store₀ store₁ m
  left-turn b e more store₁ m r len q c =
      let on = b && ltb n 585 in
      let step = fit-turn b n e more l.most in
      subst (λ (m : ℕ). Left base kept all more store₀ store₁ m) (sym c)
      (record {
        most = kept-most b n l.most;
        same = ap length q ∙ length-sets store (base + n * 7) (opt on e) ∙ l.same;
        stored = l.stored
            ∙ ap (λ (es : List (List ℕ)). sets store (base + n * 7) (joined (fitting n es))) r
            ∙ store-turn b base n e more store store₁ l.most len q;
        counted = omega (arith, l.counted, ap (λ (es : List (List ℕ)). length (fitting n es)) r, ap length step, count_turn on e (fitting (n + one on) more));
      })

-- where an entry is stored there are its bytes, and room
pub record Roomy (on : Bool) (at : ℕ) (store d : List ℕ) : Type 0 where
  pub long : on ≡ true → 7 ≤ length d
  pub room : on ≡ true → at + 7 ≤ length store

-- what is given where it is some
given-some : {A : Type 0} (o : Option A) → is_some o ≡ true → (x : A) × (o ≡ Some x)
given-some (Some x) h = (x, refl)
given-some None h = absurd (false≢true h)

-- an entry is put only where its bytes are, and room
pub roomy : {value : ℕ} {p : List ℕ} {at : ℕ} {s : Option Setting} {r : Step} (t : Turn value p at s r) (base n : ℕ) (store : List ℕ) → base + 4095 ≤ length store
    → Roomy (is_some r.gives && ltb n 585) (base + n * 7) store (take (r.end - at) (drop at p))
roomy {value} {p} {at} {s} {r} t base n store h =
    record {
      long = λ on.
          let w = given-some r.gives (both_left (is_some r.gives) (ltb n 585) on) in
          let g = t.long w.0 w.1 in
          omega (arith, length-take-le (r.end - at) (drop at p) (omega (arith, t.stays, t.grows, length-drop at p)));
      room = λ on. omega (arith, ltb-true n 585 (both_right (is_some r.gives) (ltb n 585) on));
    }
