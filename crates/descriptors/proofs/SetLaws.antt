-- Laws (proved): which details a choice sets: the last entry that is meant decides, and the details of other endpoints stay; a configuration that was read is set
-- by what was read of it last, one that was not sets nothing; what a read leaves of each configuration.
-- Assumes nothing.
use Rattle.std.specs.Prelude.{ℕ, ◌+◌, ◌-◌, ◌*◌, ◌/◌, ◌%◌, ◌<◌, Bool, cond, ◌&&◌, Option, Some, None, MatchOption}
use Rattle.std.specs.Option.{option_map_or}
use Rattle.std.proofs.lemmas.Option.{same_Some}
use Rattle.std.proofs.Common.{arith, ◌∙◌}
use Rattle.std.proofs.Math.Path.{◌≡◌, refl, sym, ap, subst}
use Rattle.std.proofs.Math.Bool.{true, false, not}
use mathlib.Core.List.{List, [], ◌∷◌, ◌++◌, append_assoc, append-nil}
use borrow.Author.Tests.{eqb-true, eq-eqb, ne_eqb}
use Rattle.std.proofs.Math.Dec.{eqb}
use Rattle.std.proofs.Math.ListN.{length, get_or}
use Rattle.rows.specs.One.{one}
use Rattle.details.specs.Details.{stored, detail_entry}
use Rattle.details.proofs.DetailsLaws.{given-kept, given-other, given_same}
use Rattle.details.specs.declared.Detail.{Detail}
use Rattle.details.specs.declared.Device.{Device}
use Rattle.descriptors.specs.Whole.{whole}
use Rattle.descriptors.proofs.WholeLaws.{both_right}
use Rattle.descriptors.specs.Entries.{is_of, first_of, unset, named, maybe, given, value_of, setting_after, gives_entry, entry_of, entries_in, entries_behind, entries_of, fitting}
use Rattle.descriptors.specs.Store.{is_other, without, left_by, added_by, kept_after}
use Rattle.descriptors.proofs.Configuration.{Configuration, All, Good, bytes_of, endpoints_of}
use Rattle.descriptors.proofs.ReadBack.{all_append, all_map, read_back}
use Rattle.descriptors.proofs.HeldLaws.{take-all_of}
use Rattle.descriptors.proofs.StepLaws.{entries_none}
use Rattle.descriptors.specs.Chosen.{is_chosen, set_from, set_if, applied, count_set}
use Rattle.descriptors.specs.declared.choose.Choice.{Choice}
use Rattle.descriptors.specs.declared.walk.Setting.{Setting}

-- where an entry's endpoint stands among the 32, and what the entry says of it
abbrev pub place_of : List ℕ → ℕ
place_of e = detail_entry (get_or e 3 0 % 16) (get_or e 3 0 / 128 % 2)

abbrev pub detail_of : List ℕ → Detail
detail_of e = record { kind = get_or e 4 0 % 4; given = true; max = (get_or e 5 0 + get_or e 6 0 * 256) % 2048 }

module _ (e : List ℕ) (d : Device) where
  set-count : (on : Bool) → length (set_if on e d).details ≡ length d.details
  unfolding set_if set_from
  set-count true = (given-kept d (get_or e 3 0 % 16) (get_or e 3 0 / 128 % 2) (get_or e 4 0 % 4) ((get_or e 5 0 + get_or e 6 0 * 256) % 2048)).count
  set-count false = refl

  set_other : (on : Bool) (j : ℕ) → (on ≡ true → j ≡ place_of e → ⊥) → stored (set_if on e d) j ≡ stored d j
  unfolding set_if set_from
  set_other true j h = given-other d (get_or e 3 0 % 16) (get_or e 3 0 / 128 % 2) (get_or e 4 0 % 4) ((get_or e 5 0 + get_or e 6 0 * 256) % 2048) j (h refl)
  set_other false j h = refl

  set_same : (on : Bool) → on ≡ true → place_of e < length d.details → stored (set_if on e d) (place_of e) ≡ detail_of e
  unfolding set_if set_from
  set_same on q h = rw q (given_same d (get_or e 3 0 % 16) (get_or e 3 0 / 128 % 2) (get_or e 4 0 % 4) ((get_or e 5 0 + get_or e 6 0 * 256) % 2048) h)

module _ (c : Choice) where
  -- no entry that is meant is of the endpoint at j
  abbrev pub Elsewhere : ℕ → List (List ℕ) → Type 0
  Elsewhere j es = All (λ (e : List ℕ). is_chosen c e ≡ true → j ≡ place_of e → ⊥) es

  pub applied-append : (xs ys : List (List ℕ)) (d : Device) → applied c (xs ++ ys) d ≡ applied c ys (applied c xs d)
  unfolding applied
  applied-append [] ys d = refl
  applied-append (x ∷ xs) ys d = applied-append xs ys (set_if (is_chosen c x) x d)

  pub applied-count : (es : List (List ℕ)) (d : Device) → length (applied c es d).details ≡ length d.details
  unfolding applied
  applied-count [] d = refl
  applied-count (e ∷ es) d = applied-count es (set_if (is_chosen c e) e d) ∙ set-count e d (is_chosen c e)

  -- the details of other endpoints stay
  pub applied-other : (j : ℕ) (es : List (List ℕ)) (d : Device) → Elsewhere j es → stored (applied c es d) j ≡ stored d j
  unfolding applied
  applied-other j [] d h = refl
  applied-other j (e ∷ es) d h = applied-other j es (set_if (is_chosen c e) e d) h.1 ∙ set_other e d (is_chosen c e) j h.0

  -- of the entries that are meant, the last of an endpoint decides
  pub applied-last : (xs ys : List (List ℕ)) (e : List ℕ) (d : Device) → is_chosen c e ≡ true → Elsewhere (place_of e) ys
      → place_of e < length d.details → stored (applied c (xs ++ (e ∷ ys)) d) (place_of e) ≡ detail_of e
  unfolding applied
  applied-last xs ys e d q h room =
      let before = applied c xs d in
      let there : place_of e < length before.details = subst (λ (n : ℕ). place_of e < n) (sym (applied-count xs d)) room in
      ap (λ (x : Device). stored x (place_of e)) (applied-append xs (e ∷ ys) d)
      ∙ applied-other (place_of e) ys (set_if (is_chosen c e) e before) h
      ∙ set_same e before (is_chosen c e) q there

  -- entries that are not meant change nothing
  abbrev pub Unmeant : List (List ℕ) → Type 0
  Unmeant es = All (λ (e : List ℕ). is_chosen c e ≡ false) es

  pub applied-none : (es : List (List ℕ)) (d : Device) → Unmeant es → applied c es d ≡ d
  unfolding applied set_if
  applied-none [] d h = refl
  applied-none (e ∷ es) d h = ap (λ (b : Bool). applied c es (set_if b e d)) h.0 ∙ applied-none es d h.1

  other_unmeant : (e : List ℕ) → is_other c.value e ≡ true → is_chosen c e ≡ false
  unfolding is_chosen
  other_unmeant e h = by (eqb (get_or e 0 0) c.value) h
    where
      by : (b : Bool) → not b ≡ true → (b && (option_map_or (eqb (get_or e 1 0)) c.interface true && eqb (get_or e 2 0) c.alternate)) ≡ false
      by false h = refl
      by true h = absurd (let z : ◌≡◌ {A = ℕ} 0 1 = cc in omega arith)

  without_unmeant : (es : List (List ℕ)) → Unmeant (without c.value es)
  unfolding without
  without_unmeant [] = tt
  without_unmeant (e ∷ es) =
      all_append (λ (e : List ℕ). is_chosen c e ≡ false) (maybe (is_other c.value e) e) (without c.value es) (by (is_other c.value e) refl) (without_unmeant es)
    where
      by : (b : Bool) → is_other c.value e ≡ b → Unmeant (maybe b e)
      by true h = (other_unmeant e h, tt)
      by false h = tt

  -- a configuration that was read is set by what was read of it last
  pub set-read : (p : List ℕ) (es : List (List ℕ)) (d : Device) → value_of p ≡ Some c.value → applied c (kept_after p es) d ≡ applied c (added_by p es) d
  unfolding left_by
  set-read p es d t =
      applied-append (left_by p es) (added_by p es) d
      ∙ ap (applied c (added_by p es))
      (ap (λ (r : Option ℕ). applied c (option_map_or (λ v. without v es) r es) d) t ∙ applied-none (without c.value es) d (without_unmeant es))

-- for every configuration that keeps to chapter 9: where no later endpoint that is meant has the same place, an endpoint's details are its own
pub configured : (c : Choice) (k : Configuration) → Good k → (xs ys : List (List ℕ)) (e : List ℕ) (d : Device) → endpoints_of k ≡ xs ++ (e ∷ ys)
    → is_chosen c e ≡ true → Elsewhere c (place_of e) ys → place_of e < length d.details
    → stored (applied c (entries_of (bytes_of k)) d) (place_of e) ≡ detail_of e
configured c k g xs ys e d split q h room =
    ap (λ (es : List (List ℕ)). stored (applied c es d) (place_of e)) (read_back k g ∙ split) ∙ applied-last c xs ys e d q h room

-- the entries of a read have numbers 1 to 15, so none sets the details of number 0
abbrev pub Numbered : List ℕ → Type 0
Numbered e = named (get_or e 3 0) ≡ true

numbered_in : (value : ℕ) (ds : List (List ℕ)) (s : Option Setting) → All Numbered (entries_in value s ds)
unfolding entries_in gives_entry entry_of
numbered_in value [] s = tt
numbered_in value (d ∷ ds) s =
    all_append Numbered (given value d (gives_entry d s)) (entries_in value (setting_after d s) ds) (by (is_of 5 7 d && named (get_or d 2 0)) refl s)
    (numbered_in value ds (setting_after d s))
  where
    by : (b : Bool) → (is_of 5 7 d && named (get_or d 2 0)) ≡ b → (s : Option Setting) → All Numbered (given value d (cond b s None))
    by true h (Some s) = (both_right (is_of 5 7 d) (named (get_or d 2 0)) h, tt)
    by true h None = tt
    by false h s = tt

numbered-behind : (ds : List (List ℕ)) → All Numbered (entries_behind ds)
unfolding entries_behind
numbered-behind [] = tt
numbered-behind (d ∷ ds) = by (is_of 2 9 d)
  where
    by : (b : Bool) → All Numbered (cond b (entries_in (get_or d 5 0) unset ds) [])
    by true = numbered_in (get_or d 5 0) ds unset
    by false = tt

pub entries-numbered : (p : List ℕ) → All Numbered (entries_of p)
unfolding entries_of
entries-numbered p = numbered-behind (whole p)

-- ---- what was not read

module _ (c : Choice) where
  pub count_none : (es : List (List ℕ)) → Unmeant c es → count_set c es ≡ 0
  unfolding count_set
  count_none [] h = refl
  count_none (e ∷ es) h = let n = count_none es h.1 in ap (λ (b : Bool). one b + count_set c es) h.0 ∙ omega (arith, n)

  -- a SET of a configuration that was never read sets nothing
  abbrev pub Unread : List (List ℕ) → Type 0
  Unread es = All (λ (e : List ℕ). is_other c.value e ≡ true) es

  unread_unmeant : (es : List (List ℕ)) → Unread es → Unmeant c es
  unread_unmeant es h = all_map (λ (e : List ℕ). is_other c.value e ≡ true) (λ (e : List ℕ). is_chosen c e ≡ false) (other_unmeant c) es h

  pub set-unread : (es : List (List ℕ)) (d : Device) → Unread es → applied c es d ≡ d
  set-unread es d h = applied-none c es d (unread_unmeant es h)

  pub count-unread : (es : List (List ℕ)) → Unread es → count_set c es ≡ 0
  count-unread es h = count_none es (unread_unmeant es h)

-- ---- what a read leaves of each configuration

-- the entries of a configuration, in their order
unfoldable pub only : ℕ → List (List ℕ) → List (List ℕ)
only value [] = []
only value (e ∷ es) = maybe (eqb (get_or e 0 0) value) e ++ only value es

abbrev pub Valued : ℕ → List (List ℕ) → Type 0
Valued value es = All (λ (e : List ℕ). get_or e 0 0 ≡ value) es

module _ (u : ℕ) where
  only-append : (xs ys : List (List ℕ)) → only u (xs ++ ys) ≡ only u xs ++ only u ys
  unfolding only
  only-append [] ys = refl
  only-append (x ∷ xs) ys =
      ap (λ (es : List (List ℕ)). maybe (eqb (get_or x 0 0) u) x ++ es) (only-append xs ys) ∙ sym (append_assoc (maybe (eqb (get_or x 0 0) u) x) (only u xs) (only u ys))

  only-own : (es : List (List ℕ)) → Valued u es → only u es ≡ es
  unfolding only
  only-own [] h = refl
  only-own (e ∷ es) h = let t : eqb (get_or e 0 0) u ≡ true = eq-eqb _ _ h.0 in rw t (ap (λ (xs : List (List ℕ)). e ∷ xs) (only-own es h.1))

  only_foreign : (v : ℕ) (es : List (List ℕ)) → (u ≡ v → ⊥) → Valued v es → only u es ≡ []
  unfolding only
  only_foreign v [] ne h = refl
  only_foreign v (e ∷ es) ne h =
      let t : eqb (get_or e 0 0) u ≡ false = ne_eqb _ _ (λ q. ne (sym q ∙ h.0)) in
      rw t (only_foreign v es ne h.1)

  only_gone : (es : List (List ℕ)) → only u (without u es) ≡ []
  unfolding only without
  only_gone [] = refl
  only_gone (e ∷ es) = only-append (maybe (is_other u e) e) (without u es) ∙ (λ i. one-gone (eqb (get_or e 0 0) u) refl i ++ only_gone es i)
    where
      one-gone : (b : Bool) → eqb (get_or e 0 0) u ≡ b → only u (maybe (not b) e) ≡ []
      one-gone true q = refl
      one-gone false q = rw q

  only-left : (v : ℕ) (es : List (List ℕ)) → (u ≡ v → ⊥) → only u (without v es) ≡ only u es
  unfolding only without
  only-left v [] ne = refl
  only-left v (e ∷ es) ne = only-append (maybe (is_other v e) e) (without v es) ∙ (λ i. one_left (eqb (get_or e 0 0) v) refl i ++ only-left v es ne i)
    where
      one_left : (b : Bool) → eqb (get_or e 0 0) v ≡ b → only u (maybe (not b) e) ≡ maybe (eqb (get_or e 0 0) u) e
      one_left true q = let t : eqb (get_or e 0 0) u ≡ false = ne_eqb _ _ (λ r. ne (sym r ∙ eqb-true _ _ q)) in rw t
      one_left false q = append-nil (maybe (eqb (get_or e 0 0) u) e)

-- the entries of a read are of the configuration that was read
valued_in : (value : ℕ) (ds : List (List ℕ)) (s : Option Setting) → Valued value (entries_in value s ds)
unfolding entries_in entry_of
valued_in value [] s = tt
valued_in value (d ∷ ds) s =
    all_append (λ (e : List ℕ). get_or e 0 0 ≡ value) (given value d (gives_entry d s)) (entries_in value (setting_after d s) ds) (by (gives_entry d s))
    (valued_in value ds (setting_after d s))
  where
    by : (g : Option Setting) → Valued value (given value d g)
    by (Some s) = (refl, tt)
    by None = tt

valued-behind : (v : ℕ) (ds : List (List ℕ)) → first_of 2 9 5 ds ≡ Some v → Valued v (entries_behind ds)
unfolding entries_behind first_of
valued-behind v [] h = tt
valued-behind v (d ∷ ds) h = by (is_of 2 9 d) h
  where
    by : (b : Bool) → cond b (Some (get_or d 5 0)) None ≡ Some v → Valued v (cond b (entries_in (get_or d 5 0) unset ds) [])
    by true h = subst (λ (n : ℕ). Valued v (entries_in n unset ds)) (sym (same_Some _ _ h)) (valued_in v ds unset)
    by false h = tt

read-valued : (p : List ℕ) (v : ℕ) → value_of p ≡ Some v → Valued v (entries_of p)
unfolding entries_of value_of
read-valued p v t = valued-behind v (whole p) t

-- the entries of a read have its value, and where it has none there are none
pub entries_valued : (p : List ℕ) → MatchOption (value_of p) (entries_of p ≡ []) (λ v. Valued v (entries_of p))
entries_valued p = by (value_of p) refl
  where
    by : (o : Option ℕ) → value_of p ≡ o → MatchOption o (entries_of p ≡ []) (λ v. Valued v (entries_of p))
    by (Some v) e = read-valued p v e
    by None e = entries_none p (sym e)

module _ (p : List ℕ) (v : ℕ) (t : value_of p ≡ Some v) where
  module _ (es : List (List ℕ)) where
    added_valued : Valued v (added_by p es)
    unfolding added_by fitting
    added_valued = take-all_of (λ (e : List ℕ). get_or e 0 0 ≡ v) (585 - length (left_by p es)) (entries_of p) (read-valued p v t)

    left_is : left_by p es ≡ without v es
    unfolding left_by
    left_is = ap (λ (r : Option ℕ). option_map_or (λ v. without v es) r es) t

    -- of the configuration that was read stand the entries of this read, and no others
    pub read-own : only v (kept_after p es) ≡ added_by p es
    read-own =
        only-append v (left_by p es) (added_by p es)
        ∙ (λ i. only v (left_is i) ++ only-own v (added_by p es) added_valued i)
        ∙ ap (λ (xs : List (List ℕ)). xs ++ added_by p es) (only_gone v es)

    -- and of every other what stood before
    pub read-others : (u : ℕ) → (u ≡ v → ⊥) → only u (kept_after p es) ≡ only u es
    read-others u ne =
        only-append u (left_by p es) (added_by p es)
        ∙ (λ i. only u (left_is i) ++ only_foreign u v (added_by p es) ne added_valued i)
        ∙ append-nil (only u (without v es))
        ∙ only-left u v es ne
