-- Laws (proved): what a step of the walk is to the entries, for the loops: what is left gives the whole.
-- Assumes nothing.
use Rattle.std.specs.Prelude.{ℕ, suc, ◌+◌, ◌-◌, ◌*◌, ◌≤◌, ◌<◌, Bool, cond, take, drop, Option, Some, None}
use Rattle.std.proofs.lemmas.Option.{none-some, same_Some, cond_some}
use native.Mathlib.Omega.{arith}
use Rattle.std.proofs.Math.Path.{◌≡◌, refl, sym, ap}
use Rattle.std.proofs.Common.{◌∙◌, subst, take_at}
use Rattle.std.proofs.Math.Bool.{true, false}
use mathlib.Core.List.{List, [], ◌∷◌, ◌++◌}
use Rattle.std.proofs.Math.ListN.{length, get_or, length-drop}
use Rattle.std.proofs.Math.Seq.{sets, length-sets, drop-drop, length-take-le, take-nil}
use Rattle.std.proofs.lemmas.List.Edits.{sets-eq}
use Rattle.rows.specs.One.{one}
use Rattle.rows.specs.Sets.{opt, sets-append}
use Rattle.descriptors.specs.Whole.{is_whole, whole, joined}
use Rattle.descriptors.proofs.WholeLaws.{whole-more, whole-none}
use Rattle.descriptors.specs.Entries.{is_of, first_of, value_of, maybe, given, unset, setting_after, gives_entry, entry_of, entries_in, entries_behind, entries_of, fitting}
use Rattle.descriptors.specs.Steps.{Keeps, whole_at, step_at, descriptor_at}
use Rattle.descriptors.proofs.EntriesLaws.{entry-bytes, first_byte, none_at, one_at, length_at, inside}
use Rattle.descriptors.specs.declared.walk.Setting.{Setting}
use Rattle.descriptors.specs.declared.walk.Step.{Step}

-- the first descriptor
module _ (p : List ℕ) where
  pub first-none : None ≡ whole_at p 0 → (type least place : ℕ) → None ≡ first_of type least place (whole p)
  unfolding first_of
  first-none e type least place = rw (whole-none p (none_at p 0 e))

  module _ {len : ℕ} (e : Some len ≡ whole_at p 0) where
    pub first_one : whole p ≡ take len p ∷ whole (drop len p)
    first_one = whole-more p (one_at p 0 e) ∙ ap (λ (n : ℕ). take n p ∷ whole (drop n p)) (sym (length_at p 0 e))

    module _ (type least place : ℕ) where
      pub first_taken : is_of type least (take len p) ≡ true → Some (get_or (take len p) place 0) ≡ first_of type least place (whole p)
      unfolding first_of
      first_taken h = rw (first_one, h)

      pub first-other : is_of type least (take len p) ≡ false → None ≡ first_of type least place (whole p)
      unfolding first_of
      first-other h = rw (first_one, h)

-- the code's step is the walk's
module _ (p : List ℕ) (at : ℕ) (s : Option Setting) where
  pub step-none : None ≡ whole_at p at → None ≡ step_at p at s
  unfolding step_at
  step-none e = rw (none_at p at e)

  pub step-one : {len : ℕ} → Some len ≡ whole_at p at → (g t : Option Setting) → g ≡ gives_entry (take (at + len - at) (drop at p)) s
      → t ≡ setting_after (take (at + len - at) (drop at p)) s → Some (record { gives = g; end = at + len; setting = t }) ≡ step_at p at s
  unfolding step_at
  step-one {len} e g t a b =
      let q = one_at p at e in
      let l = length_at p at e in
      let m : at + len - at ≡ get_or p at 0 = omega arith in
      rw q (λ i. Some (record { gives = (rw m at a) i; end = at + l i; setting = (rw m at b) i }))

-- a step from `at` that gave r
pub record Turn (value : ℕ) (p : List ℕ) (at : ℕ) (s : Option Setting) (r : Step) : Type 0 where
  pub grows : at + 2 ≤ r.end
  pub stays : r.end ≤ length p
  pub long : (t : Setting) → r.gives ≡ Some t → at + 7 ≤ r.end
  pub turn : entries_in value s (whole (drop at p))
      ≡ given value (take (r.end - at) (drop at p)) r.gives ++ entries_in value r.setting (whole (drop r.end p))

-- the same, where it is known what it gives
pub turn-given : {value : ℕ} {p : List ℕ} {at : ℕ} {s : Option Setting} {r : Step} → Turn value p at s r → {g : Option Setting} → r.gives ≡ g
    → entries_in value s (whole (drop at p)) ≡ given value (take (r.end - at) (drop at p)) g ++ entries_in value r.setting (whole (drop r.end p))
turn-given {value} {p} {at} {s} {r} t e =
    t.turn ∙ ap (λ (g : Option Setting). given value (take (r.end - at) (drop at p)) g ++ entries_in value r.setting (whole (drop r.end p))) e

module _ (value : ℕ) (p : List ℕ) (at : ℕ) (s : Option Setting) where
  made : Step
  made = record { gives = gives_entry (descriptor_at p at) s; end = at + get_or p at 0; setting = setting_after (descriptor_at p at) s }

  turn-made : is_whole (drop at p) ≡ true → Turn value p at s made
  unfolding made entries_in
  turn-made q =
      let i = inside p at q in
      let f = first_byte p at in
      let m : at + get_or p at 0 - at ≡ get_or p at 0 = omega arith in
      let w : whole (drop at p) ≡ descriptor_at p at ∷ whole (drop (at + get_or p at 0) p) =
      whole-more (drop at p) q ∙ rw (f, drop-drop (get_or p at 0) at p) in
      record {
        grows = omega (arith, i.two);
        stays = i.there;
        long = λ t g. omega (arith, entry-bytes (descriptor_at p at) s t g, length-take-le (get_or p at 0) (drop at p) (omega (arith, i.there, length-drop at p)));
        turn = ap (entries_in value s) w ∙ rw m;
      }

  -- of what `read_step` gave
  pub turn_of : (r : Step) → Some r ≡ step_at p at s → Turn value p at s r
  unfolding step_at made
  turn_of r e =
      let q = cond_some (is_whole (drop at p)) made r (sym e) in
      subst (λ (r : Step). Turn value p at s r) q.1 (turn-made q.0)

  pub end_of : None ≡ step_at p at s → entries_in value s (whole (drop at p)) ≡ []
  unfolding step_at made entries_in
  end_of e = by (is_whole (drop at p)) refl e
    where
      by : (b : Bool) → is_whole (drop at p) ≡ b → None ≡ cond b (Some made) None → entries_in value s (whole (drop at p)) ≡ []
      by false q e = ap (entries_in value s) (whole-none (drop at p) q)
      by true q e = absurd (none-some made (e))

pub count_turn : (on : Bool) (e : List ℕ) (es : List (List ℕ)) → length (maybe on e ++ es) ≡ one on + length es
count_turn true e es = omega arith
count_turn false e es = omega arith

-- the entries by what `read_value` gave
behind-none : (ds : List (List ℕ)) → None ≡ first_of 2 9 5 ds → entries_behind ds ≡ []
unfolding first_of entries_behind
behind-none [] h = refl
behind-none (d ∷ ds) h = by (is_of 2 9 d) h
  where
    by : (b : Bool) → None ≡ cond b (Some (get_or d 5 0)) None → cond b (entries_in (get_or d 5 0) unset ds) [] ≡ []
    by false h = refl
    by true h = absurd (none-some (get_or d 5 0) h)

behind-taken : (v : ℕ) (d : List ℕ) (ds : List (List ℕ)) → Some v ≡ first_of 2 9 5 (d ∷ ds) → entries_behind (d ∷ ds) ≡ entries_in v unset ds
unfolding first_of entries_behind
behind-taken v d ds h = by (is_of 2 9 d) h
  where
    by : (b : Bool) → Some v ≡ cond b (Some (get_or d 5 0)) None → cond b (entries_in (get_or d 5 0) unset ds) [] ≡ entries_in v unset ds
    by true h = ap (λ (v : ℕ). entries_in v unset ds) (sym (same_Some v (get_or d 5 0) h))
    by false h = absurd (none-some v (sym h))

module _ (p : List ℕ) where
  pub entries_none : None ≡ value_of p → entries_of p ≡ []
  unfolding value_of entries_of
  entries_none e = behind-none (whole p) e

  pub entries-taken : {v from : ℕ} → Some v ≡ value_of p → Some from ≡ whole_at p 0 → entries_of p ≡ entries_in v unset (whole (drop from p))
  unfolding value_of entries_of
  entries-taken {v} {from} e f =
      let w = first_one p f in
      ap entries_behind w ∙ behind-taken v (take from p) (whole (drop from p)) (e ∙ ap (first_of 2 9 5) w)

  -- the first descriptor is whole where its byte is taken
  pub unplaced : {v : ℕ} → Some v ≡ value_of p → None ≡ whole_at p 0 → ⊥
  unfolding value_of
  unplaced {v} e f = none-some v (first-none p f 2 9 5 ∙ sym e)

pub joined-turn : (on : Bool) (e : List ℕ) (es : List (List ℕ)) → joined (maybe on e ++ es) ≡ opt on e ++ joined es
joined-turn true e es = refl
joined-turn false e es = refl

pub entry_length : (value : ℕ) (s : Setting) (d : List ℕ) → length (entry_of value s d) ≡ 7
unfolding entry_of
entry_length value s d = refl

pub opt-length : (on : Bool) (e : List ℕ) → length e ≡ 7 → length (opt on e) ≡ one on * 7
opt-length true e h = h
opt-length false e h = refl

-- what is left to keep gives the whole
pub record Left (base kept : ℕ) (all rest : List (List ℕ)) (store₀ store : List ℕ) (n : ℕ) : Type 0 where
  pub most : n ≤ 585
  pub same : length store ≡ length store₀
  pub stored : sets store₀ (base + kept * 7) (joined (fitting kept all)) ≡ sets store (base + n * 7) (joined (fitting n rest))
  pub counted : kept + length (fitting kept all) ≡ n + length (fitting n rest)

module _ {base kept : ℕ} {all rest : List (List ℕ)} {store₀ store : List ℕ} {n : ℕ} (l : Left base kept all rest store₀ store n) where
  -- a descriptor that gives no entry
  pub left-other : {more : List (List ℕ)} → rest ≡ more → Left base kept all more store₀ store n
  left-other r = subst (λ (es : List (List ℕ)). Left base kept all es store₀ store n) r l

  -- one that does, where there is no room
  pub left-full : {e : List ℕ} {more : List (List ℕ)} → rest ≡ e ∷ more → 585 ≤ n → Left base kept all more store₀ store n
  unfolding fitting
  left-full {e} {more} r h =
      let z : 585 - n ≡ 0 = omega arith in
      let f : fitting n rest ≡ fitting n more = rw z in
      record {
        most = l.most;
        same = l.same;
        stored = l.stored ∙ ap (λ (es : List (List ℕ)). sets store (base + n * 7) (joined es)) f;
        counted = omega (arith, l.counted, ap length f);
      }

  -- and where there is
  pub left-kept : {e : List ℕ} {more : List (List ℕ)} {store₁ : List ℕ} → rest ≡ e ∷ more → length e ≡ 7 → n < 585 → store₁ ≡ sets store (base + n * 7) e
      → Left base kept all more store₀ store₁ (n + 1)
  unfolding fitting
  left-kept {e} {more} {store₁} r len h q =
      let z : 585 - n ≡ suc (585 - (n + 1)) = omega arith in
      let f : fitting n rest ≡ e ∷ fitting (n + 1) more = rw (r, z) in
      let place : base + n * 7 + length e ≡ base + (n + 1) * 7 = omega arith in
      record {
        most = omega arith;
        same = ap length q ∙ length-sets store (base + n * 7) e ∙ l.same;
        stored = l.stored
            ∙ ap (λ (es : List (List ℕ)). sets store (base + n * 7) (joined es)) f
            ∙ sym (sets-append e (joined (fitting (n + 1) more)) store (base + n * 7))
            ∙ (λ i. sets (sym q i) (place i) (joined (fitting (n + 1) more)));
        counted = omega (arith, l.counted, ap length f);
      }

  pub left_end : rest ≡ [] → Keeps base kept all store₀ store n
  unfolding fitting
  left_end r =
      let z : fitting n rest ≡ [] = ap (fitting n) r ∙ take-nil (585 - n) in
      record {
        stored = sym (l.stored ∙ ap (λ (es : List (List ℕ)). sets store (base + n * 7) (joined es)) z);
        counted = omega (arith, l.counted, ap length z);
      }

pub keeps-none : (base kept : ℕ) (es : List (List ℕ)) (store : List ℕ) → es ≡ [] → Keeps base kept es store store kept
unfolding fitting
keeps-none base kept es store e =
    let z : fitting kept es ≡ [] = ap (fitting kept) e ∙ take-nil (585 - kept) in
    record { stored = sym (ap (λ (xs : List (List ℕ)). sets store (base + kept * 7) (joined xs)) z); counted = omega (arith, ap length z) }

pub keeps_same : {base kept : ℕ} {es xs : List (List ℕ)} {store store₁ : List ℕ} {n : ℕ} → es ≡ xs → Keeps base kept xs store store₁ n → Keeps base kept es store store₁ n
keeps_same {base} {kept} {es} {xs} {store} {store₁} {n} e k = subst (λ (es : List (List ℕ)). Keeps base kept es store store₁ n) (sym e) k

-- a copy of a part, at the beginning of a page
pub copied : (page₀ page from : List ℕ) (start count : ℕ) → page ≡ sets page₀ 0 (take (start + count - start) (drop start from))
    → start + count ≤ length from → count ≤ length page₀ → take count page ≡ take count (drop start from)
copied page₀ page from start count e h g =
    let m : start + count - start ≡ count = omega arith in
    let vs = take count (drop start from) in
    let l : length vs ≡ count = length-take-le count (drop start from) (omega (arith, length-drop start from)) in
    ap (take count) (e ∙ ap (λ (n : ℕ). sets page₀ 0 (take n (drop start from))) m ∙ sets-eq vs page₀ 0 (omega arith))
    ∙ take_at vs (drop (0 + length vs) page₀) count l
