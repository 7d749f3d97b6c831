-- Laws (proved): what is known of the entries: which bytes they need, that other descriptors are stepped over, that a cut payload gives a beginning of them.
-- Assumes nothing.
use Rattle.std.specs.Prelude.{ℕ, zero, suc, ◌+◌, ◌-◌, ◌*◌, ◌≤◌, ◌<◌, ◌≡◌, Bool, ◌&&◌, List, [], ◌∷◌, ◌++◌, eqb, leb, length, get_or, take, drop, Option, Some, None}
use Rattle.std.proofs.lemmas.Option.{none-some, cond_some}
use Rattle.std.proofs.Common.{arith, sym, ap, ◌∙◌, append_assoc, drop_of_length-le, take-append-drop, length-append, get_or-drop, take_all}
use Rattle.std.proofs.Math.Path.{refl}
use Rattle.std.proofs.Math.Bool.{true, false, cond}
use borrow.Author.Tests.{leb-true, le-leb, lt-leb}
use Rattle.std.proofs.Math.ListN.{length-drop}
use Rattle.descriptors.specs.Whole.{b_length, is_whole, whole, joined}
use Rattle.descriptors.proofs.WholeLaws.{Begins, is-whole, whole_inside, whole-more, whole-none, whole_cut}
use Rattle.descriptors.specs.Entries.{is_of, named, given, unset, setting_after, gives_entry, entries_in, entries_behind, entries_of, fitting}
use Rattle.descriptors.specs.Steps.{whole_at}
use Rattle.descriptors.specs.declared.walk.Setting.{Setting}

-- a descriptor of a type has the bytes that are read of it
pub of-long : (type least : ℕ) (d : List ℕ) → is_of type least d ≡ true → least ≤ length d
unfolding is_of
of-long type least d h = by (leb least (length d)) refl h
  where
    by : (b : Bool) → leb least (length d) ≡ b → (b && eqb (get_or d 1 0) type) ≡ true → least ≤ length d
    by true e h = leb-true least (length d) e
    by false e h = absurd (let z : ◌≡◌ {A = ℕ} 0 1 = cc in omega arith)

module _ (p : List ℕ) (at : ℕ) where
  pub first_byte : b_length (drop at p) ≡ get_or p at 0
  first_byte = let e : at + 0 ≡ at = omega arith in get_or-drop at p 0 0 ∙ ap (λ (n : ℕ). get_or p n 0) e

  test : is_whole (drop at p) ≡ (leb 2 (get_or p at 0) && leb (get_or p at 0) (length p - at))
  unfolding is_whole
  test = rw (first_byte, length-drop at p)

  pub none_past : length p ≤ at → None ≡ whole_at p at
  unfolding whole_at is_whole
  none_past h = rw (drop_of_length-le p h)

  pub none_small : get_or p at 0 < 2 → None ≡ whole_at p at
  unfolding whole_at
  none_small h = rw (test, lt-leb 2 _ h)

  pub none_cut : 2 ≤ get_or p at 0 → length p - at < get_or p at 0 → None ≡ whole_at p at
  unfolding whole_at
  none_cut h g = rw (test, le-leb 2 _ h, lt-leb _ _ g)

  pub one-there : 2 ≤ get_or p at 0 → get_or p at 0 ≤ length p - at → Some (get_or p at 0) ≡ whole_at p at
  unfolding whole_at
  one-there h g = rw (test, le-leb 2 _ h, le-leb _ _ g)

  -- a length is a whole descriptor's
  pub none_at : None ≡ whole_at p at → is_whole (drop at p) ≡ false
  unfolding whole_at
  none_at e = by (is_whole (drop at p)) e
    where
      by : (b : Bool) → None ≡ cond b (Some (get_or p at 0)) None → b ≡ false
      by false e = refl
      by true e = absurd (none-some _ e)

  module _ {len : ℕ} (e : Some len ≡ whole_at p at) where
    pub one_at : is_whole (drop at p) ≡ true
    unfolding whole_at
    one_at = (cond_some (is_whole (drop at p)) (get_or p at 0) len (sym e)).0

    pub length_at : len ≡ get_or p at 0
    unfolding whole_at
    length_at = sym (cond_some (is_whole (drop at p)) (get_or p at 0) len (sym e)).1

  pub record Inside (len : ℕ) : Type 0 where
    pub two : 2 ≤ len
    pub there : at + len ≤ length p

  pub inside : is_whole (drop at p) ≡ true → Inside (get_or p at 0)
  inside q =
      let w = is-whole (drop at p) q in
      record { two = omega (arith, w.two, first_byte); there = omega (arith, w.two, w.there, first_byte, length-drop at p) }

  pub inside_at : {len : ℕ} → Some len ≡ whole_at p at → Inside len
  inside_at {len} e =
      let l = length_at e in
      let i = inside (one_at e) in
      record { two = omega (arith, i.two); there = omega (arith, i.there) }

-- a descriptor that is neither an interface's nor an endpoint's may stand anywhere
pub unknown-over : (value : ℕ) (d : List ℕ) → is_of 4 9 d ≡ false → is_of 5 7 d ≡ false
    → (xs ys : List (List ℕ)) (s : Option Setting) → entries_in value s (xs ++ (d ∷ ys)) ≡ entries_in value s (xs ++ ys)
unfolding entries_in gives_entry setting_after
unknown-over value d h g [] ys s = rw (h, g)
unknown-over value d h g (x ∷ xs) ys s =
    ap (λ (es : List (List ℕ)). given value x (gives_entry x s) ++ es) (unknown-over value d h g xs ys (setting_after x s))

-- the setting behind descriptors
abbrev pub setting_over : List (List ℕ) → Option Setting → Option Setting
setting_over [] s = s
setting_over (d ∷ ds) s = setting_over ds (setting_after d s)

pub entries-append : (value : ℕ) (xs ys : List (List ℕ)) (s : Option Setting)
    → entries_in value s (xs ++ ys) ≡ entries_in value s xs ++ entries_in value (setting_over xs s) ys
unfolding entries_in
entries-append value [] ys s = refl
entries-append value (x ∷ xs) ys s =
    ap (λ (es : List (List ℕ)). given value x (gives_entry x s) ++ es) (entries-append value xs ys (setting_after x s))
    ∙ sym (append_assoc (given value x (gives_entry x s)) _ _)

-- the whole descriptors of a beginning are a beginning of the whole descriptors
cut-none : (a b : List ℕ) → is_whole a ≡ false → Begins (whole a) (whole (a ++ b))
cut-none a b q = record { rest = whole (a ++ b); all = ap (λ (ds : List (List ℕ)). ds ++ whole (a ++ b)) (sym (whole-none a q)) }

whole-begins : (k : ℕ) (a b : List ℕ) → length a ≤ k → Begins (whole a) (whole (a ++ b))
whole-begins zero a b h = by (is_whole a) refl
  where
    by : (t : Bool) → is_whole a ≡ t → Begins (whole a) (whole (a ++ b))
    by false q = cut-none a b q
    by true q = absurd (omega (arith, (is-whole a q).two, (is-whole a q).there))
whole-begins (suc k) a b h = by (is_whole a) refl (λ l. whole-begins k (drop (b_length a) a) b l)
  where
    by : (t : Bool) → is_whole a ≡ t → (length (drop (b_length a) a) ≤ k → Begins (whole (drop (b_length a) a)) (whole (drop (b_length a) a ++ b)))
        → Begins (whole a) (whole (a ++ b))
    by false q f = cut-none a b q
    by true q f =
        let w = is-whole a q in
        let r = f (omega (arith, w.two, w.there, length-drop (b_length a) a)) in
        record {
          rest = r.rest;
          all = whole_cut a b q
              ∙ ap (λ (ds : List (List ℕ)). take (b_length a) a ∷ ds) r.all
              ∙ ap (λ (ds : List (List ℕ)). ds ++ r.rest) (sym (whole-more a q));
        }

entries-begin : (a b : List (List ℕ)) → Begins (entries_behind a) (entries_behind (a ++ b))
unfolding entries_behind
entries-begin [] b = record { rest = entries_behind b; all = refl }
entries-begin (d ∷ a) b = by (is_of 2 9 d)
  where
    by : (t : Bool) → Begins (cond t (entries_in (get_or d 5 0) unset a) []) (cond t (entries_in (get_or d 5 0) unset (a ++ b)) [])
    by true = record { rest = entries_in (get_or d 5 0) (setting_over a unset) b; all = entries-append (get_or d 5 0) a b unset }
    by false = record { rest = []; all = refl }

pub cut_beginning : (a b : List ℕ) → Begins (entries_of a) (entries_of (a ++ b))
unfolding entries_of
cut_beginning a b =
    let w = whole-begins (length a) a b (omega arith) in
    let e = entries-begin (whole a) w.rest in
    record { rest = e.rest; all = ap entries_behind w.all ∙ e.all }

-- the same of the first n bytes
pub cut_at : (n : ℕ) (p : List ℕ) → Begins (entries_of (take n p)) (entries_of p)
cut_at n p =
    let r = cut_beginning (take n p) (drop n p) in
    record { rest = r.rest; all = ap entries_of (sym (take-append-drop n p)) ∙ r.all }

-- each entry takes seven bytes of the payload or more, so that the entries of 4,096 bytes always fit
pub entry-bytes : (d : List ℕ) (s : Option Setting) (t : Setting) → gives_entry d s ≡ Some t → 7 ≤ length d
unfolding gives_entry
entry-bytes d s t h = by (is_of 5 7 d) (named (get_or d 2 0)) refl h
  where
    by : (b n : Bool) → is_of 5 7 d ≡ b → cond (b && n) s None ≡ Some t → 7 ≤ length d
    by true n q h = of-long 5 7 d q
    by false n q h = absurd (none-some t h)

few_in : (value : ℕ) (ds : List (List ℕ)) (s : Option Setting) → length (entries_in value s ds) * 7 ≤ length (joined ds)
unfolding entries_in
few_in value [] s = omega arith
few_in value (d ∷ ds) s = by (gives_entry d s) refl (few_in value ds (setting_after d s))
  where
    by : (g : Option Setting) → gives_entry d s ≡ g → length (entries_in value (setting_after d s) ds) * 7 ≤ length (joined ds)
        → length (given value d g ++ entries_in value (setting_after d s) ds) * 7 ≤ length (d ++ joined ds)
    by (Some t) q h = omega (arith, entry-bytes d s t q, length-append d (joined ds))
    by None q h = omega (arith, length-append d (joined ds))

few-behind : (ds : List (List ℕ)) → length (entries_behind ds) * 7 ≤ length (joined ds)
unfolding entries_behind
few-behind [] = omega arith
few-behind (d ∷ ds) = by (is_of 2 9 d)
  where
    by : (b : Bool) → length (cond b (entries_in (get_or d 5 0) unset ds) []) * 7 ≤ length (d ++ joined ds)
    by true = omega (arith, few_in (get_or d 5 0) ds unset, length-append d (joined ds))
    by false = omega arith

pub entries_few : (p : List ℕ) → length (entries_of p) * 7 ≤ length p
unfolding entries_of
entries_few p =
    let i = whole_inside p in
    omega (arith, few-behind (whole p), ap length i.all ∙ length-append (joined (whole p)) i.rest)

pub entries_fit : (p : List ℕ) → length p ≤ 4096 → fitting 0 (entries_of p) ≡ entries_of p
unfolding fitting
entries_fit p h = take_all 585 (entries_of p) (omega (arith, entries_few p))
