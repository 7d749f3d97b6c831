-- Laws (proved): what a store holds after entries were forgotten and kept.
-- Assumes nothing.
use Rattle.std.specs.Prelude.{ℕ, zero, suc, ◌+◌, ◌-◌, ◌*◌, ◌≤◌, ◌≡◌, refl, Bool, true, false, cond, List, [], ◌∷◌, ◌++◌, get_or, take, drop, Option, Some, None}
use Rattle.std.specs.Option.{option_map_or}
use Rattle.std.proofs.Common.{arith, ◌∙◌, subst, append_assoc, append-nil, length-take, take-append-drop, length-take-le, take_at, drop_at, drop-drop, take-add}
use Rattle.std.proofs.Math.Path.{sym, ap}
use Rattle.std.proofs.Math.ListN.{length, length-append, length-drop}
use Rattle.std.proofs.lemmas.List.Edits.{sets, sets-eq}
use Rattle.std.proofs.Math.Seq.{take-nil}
use Rattle.std.proofs.lemmas.List.{take-append-le, drop-append-le}
use Rattle.descriptors.specs.Whole.{whole, joined}
use Rattle.descriptors.specs.Entries.{maybe, given, value_of, entry_of, entries_in, entries_behind, entries_of, fitting, gives_entry, setting_after, is_of, unset}
use Rattle.descriptors.proofs.Configuration.{All}
use Rattle.descriptors.proofs.ReadBack.{all_append}
use Rattle.rows.specs.Sets.{sets_then}
use Rattle.descriptors.proofs.ForgetLaws.{drop-sets}
use Rattle.descriptors.proofs.StepLaws.{entries_none}
use Rattle.descriptors.specs.Store.{chunks, stored_at, is_other, without, left_by, added_by, kept_after}
use Rattle.descriptors.specs.Steps.{Keeps, Forgets, Reads}
use Rattle.descriptors.specs.declared.walk.Setting.{Setting}

abbrev pub Seven : List ℕ → Type 0
Seven e = length e ≡ 7

-- entries behind each other are read back
pub joined_length : (es : List (List ℕ)) → All Seven es → length (joined es) ≡ length es * 7
joined_length [] h = refl
joined_length (e ∷ es) h = let r = joined_length es h.1 in let f = h.0 in omega (arith, length-append e (joined es))

pub chunks-joined : (es : List (List ℕ)) (l : List ℕ) → All Seven es → chunks (length es) (joined es ++ l) ≡ es
unfolding chunks
chunks-joined [] l h = refl
chunks-joined (e ∷ es) l h =
    let f = h.0 in
    rw (append_assoc e (joined es) l, take_at e (joined es ++ l) 7 f, drop_at e (joined es ++ l) 7 f) (ap (λ (xs : List (List ℕ)). e ∷ xs) (chunks-joined es l h.1))

-- the entries of a beginning that is long enough
pub chunks_front : (n : ℕ) (x y : List ℕ) → n * 7 ≤ length x → chunks n (x ++ y) ≡ chunks n x
unfolding chunks
chunks_front zero x y h = refl
chunks_front (suc n) x y h =
    let s : 7 ≤ length x = omega arith in
    rw (take-append-le 7 x y s, drop-append-le 7 x y s) (ap (λ (xs : List (List ℕ)). take 7 x ∷ xs) (chunks_front n (drop 7 x) y (omega (arith, length-drop 7 x))))

pub chunks-add : (n m : ℕ) (l : List ℕ) → chunks (n + m) l ≡ chunks n l ++ chunks m (drop (n * 7) l)
unfolding chunks
chunks-add zero m l = let z : 0 + m ≡ m = omega arith in rw z
chunks-add (suc n) m l =
    let z : 7 + n * 7 ≡ suc n * 7 = omega arith in
    let y : suc n + m ≡ suc (n + m) = omega arith in
    ap (λ (k : ℕ). chunks k l) y ∙ ap (λ (xs : List (List ℕ)). take 7 l ∷ xs) (chunks-add n m (drop 7 l) ∙ ap (λ (k : List ℕ). chunks n (drop 7 l) ++ chunks m k) (drop-drop (n * 7) 7 l ∙ ap (λ (k : ℕ). drop k l) z))

pub chunks-length : (n : ℕ) (l : List ℕ) → length (chunks n l) ≡ n
unfolding chunks
chunks-length zero l = refl
chunks-length (suc n) l = ap suc (chunks-length n (drop 7 l))

pub chunks_seven : (n : ℕ) (l : List ℕ) → n * 7 ≤ length l → All Seven (chunks n l)
unfolding chunks
chunks_seven zero l h = tt
chunks_seven (suc n) l h = (length-take-le 7 l (omega arith), chunks_seven n (drop 7 l) (omega (arith, length-drop 7 l)))

maybe_seven : (b : Bool) (e : List ℕ) → Seven e → All Seven (maybe b e)
maybe_seven true e h = (h, tt)
maybe_seven false e h = tt

pub without_seven : (value : ℕ) (es : List (List ℕ)) → All Seven es → All Seven (without value es)
unfolding without
without_seven value [] h = tt
without_seven value (e ∷ es) h = all_append Seven (maybe (is_other value e) e) (without value es) (maybe_seven (is_other value e) e h.0) (without_seven value es h.1)

pub without_fewer : (value : ℕ) (es : List (List ℕ)) → length (without value es) ≤ length es
unfolding without
without_fewer value [] = omega arith
without_fewer value (e ∷ es) = by (is_other value e) (without_fewer value es)
  where
    by : (b : Bool) → length (without value es) ≤ length es → length (maybe b e ++ without value es) ≤ suc (length es)
    by true h = omega arith
    by false h = omega arith

given_seven : (value : ℕ) (d : List ℕ) (g : Option Setting) → All Seven (given value d g)
unfolding entry_of
given_seven value d None = tt
given_seven value d (Some s) = (refl, tt)

in_seven : (value : ℕ) (ds : List (List ℕ)) (s : Option Setting) → All Seven (entries_in value s ds)
unfolding entries_in
in_seven value [] s = tt
in_seven value (d ∷ ds) s = all_append Seven (given value d (gives_entry d s)) (entries_in value (setting_after d s) ds) (given_seven value d (gives_entry d s)) (in_seven value ds (setting_after d s))

behind_seven : (ds : List (List ℕ)) → All Seven (entries_behind ds)
unfolding entries_behind
behind_seven [] = tt
behind_seven (d ∷ ds) = by (is_of 2 9 d)
  where
    by : (b : Bool) → All Seven (cond b (entries_in (get_or d 5 0) unset ds) [])
    by true = in_seven (get_or d 5 0) ds unset
    by false = tt

pub entries_seven : (p : List ℕ) → All Seven (entries_of p)
unfolding entries_of
entries_seven p = behind_seven (whole p)

pub take-all_of : (P : List ℕ → Type 0) (n : ℕ) (es : List (List ℕ)) → All P es → All P (take n es)
take-all_of P zero es h = tt
take-all_of P (suc n) [] h = tt
take-all_of P (suc n) (e ∷ es) h = (h.0, take-all_of P n es h.1)

pub fitting_seven : (kept : ℕ) (es : List (List ℕ)) → All Seven es → All Seven (fitting kept es)
unfolding fitting
fitting_seven kept es h = take-all_of Seven (585 - kept) es h

pub fitting_few : (kept : ℕ) (es : List (List ℕ)) → kept ≤ 585 → kept + length (fitting kept es) ≤ 585
unfolding fitting
fitting_few kept es h = omega (arith, length-take (585 - kept) es)

-- entries stored behind the n that are there
module _ (base n : ℕ) (es : List (List ℕ)) (store store₁ : List ℕ) (seven : All Seven es) (room : base + (n + length es) * 7 ≤ length store)
    (q : store₁ ≡ sets store (base + n * 7) (joined es)) where
  parts : store₁ ≡ take (base + n * 7) store ++ (joined es ++ drop (base + n * 7 + length (joined es)) store)
  parts =
      q
      ∙ sets-eq (joined es) store (base + n * 7) (omega (arith, joined_length es seven))
      ∙ append_assoc (take (base + n * 7) store) (joined es) (drop (base + n * 7 + length (joined es)) store)

  front_length : length (take (base + n * 7) store) ≡ base + n * 7
  front_length = length-take-le (base + n * 7) store (omega arith)

  -- the n before them
  front-held : stored_at base n store₁ ≡ stored_at base n store
  front-held =
      let k = base + n * 7 in
      let f = front_length in
      let l : n * 7 ≤ length (drop base (take k store)) = omega (arith, length-drop base (take k store)) in
      ap (λ (x : List ℕ). chunks n (drop base x)) parts
      ∙ ap (chunks n) (drop-append-le base (take k store) (joined es ++ drop (base + n * 7 + length (joined es)) store) (omega arith))
      ∙ chunks_front n (drop base (take k store)) (joined es ++ drop (base + n * 7 + length (joined es)) store) l
      ∙ sym (chunks_front n (drop base (take k store)) (drop k store) l)
      ∙ ap (chunks n) (sym (drop-append-le base (take k store) (drop k store) (omega arith)))
      ∙ ap (λ (x : List ℕ). chunks n (drop base x)) (take-append-drop k store)

  back-held : stored_at (base + n * 7) (length es) store₁ ≡ es
  back-held =
      ap (λ (x : List ℕ). chunks (length es) (drop (base + n * 7) x)) parts
      ∙ ap (chunks (length es)) (drop_at (take (base + n * 7) store) (joined es ++ drop (base + n * 7 + length (joined es)) store) (base + n * 7) front_length)
      ∙ chunks-joined es (drop (base + n * 7 + length (joined es)) store) seven

  pub held_more : stored_at base (n + length es) store₁ ≡ stored_at base n store ++ es
  held_more =
      chunks-add n (length es) (drop base store₁)
      ∙ ap (λ (x : List ℕ). chunks n (drop base store₁) ++ chunks (length es) x) (drop-drop (n * 7) base store₁)
      ∙ ap (λ (xs : List (List ℕ)). xs ++ chunks (length es) (drop (base + n * 7) store₁)) front-held
      ∙ ap (λ (xs : List (List ℕ)). stored_at base n store ++ xs) back-held

  pub held-before : take base store₁ ≡ take base store
  held-before =
      let k = base + n * 7 in
      let f = front_length in
      ap (take base) parts
      ∙ take-append-le base (take k store) (joined es ++ drop (base + n * 7 + length (joined es)) store) (omega arith)
      ∙ sym (take-append-le base (take k store) (drop k store) (omega arith))
      ∙ ap (take base) (take-append-drop k store)

  pub held-behind : (m : ℕ) → base + (n + length es) * 7 ≤ m → drop m store₁ ≡ drop m store
  held-behind m h = ap (drop m) q ∙ drop-sets (joined es) store (base + n * 7) m (omega (arith, joined_length es seven))

-- of what `forget` gave
module _ {base kept value : ℕ} {store store₁ : List ℕ} {n : ℕ} (f : Forgets base kept value store store₁ n) where
  pub forgets_few : n ≤ kept
  forgets_few = omega (arith, f.counted, without_fewer value (stored_at base kept store), chunks-length kept (drop base store))

pub joined-append : (xs ys : List (List ℕ)) → joined (xs ++ ys) ≡ joined xs ++ joined ys
joined-append [] ys = refl
joined-append (x ∷ xs) ys = ap (λ (l : List ℕ). x ++ l) (joined-append xs ys) ∙ sym (append_assoc x (joined xs) (joined ys))

joined-chunks : (n : ℕ) (l : List ℕ) → joined (chunks n l) ≡ take (n * 7) l
unfolding chunks
joined-chunks zero l = refl
joined-chunks (suc n) l =
    let z : 7 + n * 7 ≡ suc n * 7 = omega arith in
    ap (λ (x : List ℕ). take 7 l ++ x) (joined-chunks n (drop 7 l)) ∙ sym (take-add 7 (n * 7) l) ∙ ap (λ (k : ℕ). take k l) z

-- a part that is stored again where it stands
same_again : (base k : ℕ) (l : List ℕ) → base + k ≤ length l → sets l base (take k (drop base l)) ≡ l
same_again base k l h =
    let vs = take k (drop base l) in
    let e : length vs ≡ k = length-take-le k (drop base l) (omega (arith, length-drop base l)) in
    sets-eq vs l base (omega arith)
    ∙ ap (λ (n : ℕ). take base l ++ vs ++ drop (base + n) l) e
    ∙ ap (λ (x : List ℕ). x ++ drop (base + k) l) (sym (take-add base k l))
    ∙ take-append-drop (base + k) l

-- what a read leaves and adds, by what `read_value` gave
module _ (p : List ℕ) (es : List (List ℕ)) where
  left_some : {v : ℕ} → Some v ≡ value_of p → without v es ≡ left_by p es
  unfolding left_by
  left_some e = ap (λ (r : Option ℕ). option_map_or (λ v. without v es) r es) e

  added_some : (n : ℕ) → n ≡ length (left_by p es) → fitting n (entries_of p) ≡ added_by p es
  unfolding added_by
  added_some n h = ap (λ (i : ℕ). fitting i (entries_of p)) h

  module _ (e : None ≡ value_of p) where
    left-none : left_by p es ≡ es
    unfolding left_by
    left-none = sym (ap (λ (r : Option ℕ). option_map_or (λ v. without v es) r es) e)

    added_none : added_by p es ≡ []
    unfolding added_by fitting
    added_none = ap (take (585 - length (left_by p es))) (entries_none p e) ∙ take-nil (585 - length (left_by p es))

    pub after_none : kept_after p es ≡ es
    after_none = (λ i. left-none i ++ added_none i) ∙ append-nil es

pub reads_none : (base kept : ℕ) (p store : List ℕ) → None ≡ value_of p → kept ≤ 585 → base + 4095 ≤ length store → Reads base kept p store store kept 0
reads_none base kept p store e few room =
    let es = stored_at base kept store in
    let a = after_none p es e in
    record {
      stored = sym
          (ap (λ (xs : List (List ℕ)). sets store base (joined xs)) a
          ∙ ap (sets store base) (joined-chunks kept (drop base store))
          ∙ same_again base (kept * 7) store (omega arith));
      counted = sym (chunks-length kept (drop base store)) ∙ ap length (sym a);
      more = ap length (sym (added_none p es e));
    }

pub reads_some : (base kept : ℕ) (p store : List ℕ) {v : ℕ} → Some v ≡ value_of p → kept ≤ 585 → base + 4095 ≤ length store
    → {store₁ store₂ : List ℕ} {n m : ℕ} → Forgets base kept v store store₁ n → Keeps base n (entries_of p) store₁ store₂ m
    → Reads base kept p store store₂ m (m - n)
reads_some base kept p store {v} e h room {store₁} {store₂} {n} {m} f k =
    let es = stored_at base kept store in
    let gone = without v es in
    let left = left_some p es e in
    let count : n ≡ length (left_by p es) = f.counted ∙ ap length left in
    let added = added_some p es n count in
    let seven = without_seven v es (chunks_seven kept (drop base store) (omega (arith, length-drop base store))) in
    let place : base + n * 7 ≡ base + length (joined gone) = omega (arith, f.counted, joined_length gone seven) in
    record {
      stored = sets_then store store₁ store₂ base (base + n * 7) (joined gone) (joined (fitting n (entries_of p))) f.stored place k.stored
          ∙ ap (sets store base) (sym (joined-append gone (fitting n (entries_of p))))
          ∙ (λ i. sets store base (joined (left i ++ added i)));
      counted = k.counted ∙ (λ i. count i + length (added i)) ∙ sym (length-append (left_by p es) (added_by p es));
      more = let z : m - n ≡ length (fitting n (entries_of p)) = omega (arith, k.counted) in z ∙ ap length added;
    }

pub reads_same : {base kept : ℕ} {p q store store₁ : List ℕ} {n m : ℕ} → p ≡ q → Reads base kept q store store₁ n m → Reads base kept p store store₁ n m
reads_same {base} {kept} {p} {q} {store} {store₁} {n} {m} e r = subst (λ (p : List ℕ). Reads base kept p store store₁ n m) (sym e) r

left_seven : (p : List ℕ) (es : List (List ℕ)) → All Seven es → All Seven (left_by p es)
unfolding left_by
left_seven p es h = by (value_of p)
  where
    by : (r : Option ℕ) → All Seven (option_map_or (λ v. without v es) r es)
    by (Some v) = without_seven v es h
    by None = h

left_fewer : (p : List ℕ) (es : List (List ℕ)) → length (left_by p es) ≤ length es
unfolding left_by
left_fewer p es = by (value_of p)
  where
    by : (r : Option ℕ) → length (option_map_or (λ v. without v es) r es) ≤ length es
    by (Some v) = without_fewer v es
    by None = omega arith

-- what is held after a read: the entries that it leaves; and bytes outside the store's 4,095 are as they were
module _ {base kept : ℕ} {p store store₁ : List ℕ} {count added : ℕ} (r : Reads base kept p store store₁ count added) (h : kept ≤ 585)
    (room : base + 4095 ≤ length store) where
  kept_seven : All Seven (kept_after p (stored_at base kept store))
  unfolding added_by
  kept_seven =
      let es = stored_at base kept store in
      all_append Seven (left_by p es) (added_by p es)
      (left_seven p es (chunks_seven kept (drop base store) (omega (arith, length-drop base store))))
      (fitting_seven (length (left_by p es)) (entries_of p) (entries_seven p))

  pub reads_few : count ≤ 585
  unfolding added_by
  reads_few =
      let es = stored_at base kept store in
      let few : length (left_by p es) ≤ 585 = omega (arith, left_fewer p es, chunks-length kept (drop base store)) in
      omega (arith, r.counted, length-append (left_by p es) (added_by p es), fitting_few (length (left_by p es)) (entries_of p) few)

  at_base : store₁ ≡ sets store (base + 0 * 7) (joined (kept_after p (stored_at base kept store)))
  at_base =
      let z : base ≡ base + 0 * 7 = omega arith in
      r.stored ∙ ap (λ (i : ℕ). sets store i (joined (kept_after p (stored_at base kept store)))) z

  inside : base + (0 + length (kept_after p (stored_at base kept store))) * 7 ≤ length store
  inside = omega (arith, r.counted, reads_few)

  pub reads_held : stored_at base count store₁ ≡ kept_after p (stored_at base kept store)
  unfolding chunks
  reads_held =
      let all = kept_after p (stored_at base kept store) in
      let z : count ≡ 0 + length all = omega (arith, r.counted) in
      ap (λ (i : ℕ). stored_at base i store₁) z ∙ held_more base 0 all store store₁ kept_seven inside at_base

  pub reads_before : take base store₁ ≡ take base store
  reads_before = held-before base 0 (kept_after p (stored_at base kept store)) store store₁ kept_seven inside at_base

  pub reads-behind : drop (base + 4095) store₁ ≡ drop (base + 4095) store
  reads-behind =
      held-behind base 0 (kept_after p (stored_at base kept store)) store store₁ kept_seven inside at_base (base + 4095)
      (omega (arith, r.counted, reads_few))
