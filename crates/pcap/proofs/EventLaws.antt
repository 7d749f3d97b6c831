-- Laws (proved): where event rows name packet rows in their order, as those of calls do, the rows that are written are those that no event row names, and all events
-- are left behind: for callers.
-- Assumes nothing.
use Rattle.std.specs.Prelude.{◌≡◌, ℕ, zero, suc, ◌+◌, ◌*◌, ◌<◌, ◌≤◌, Bool, true, false, ◌&&◌, ◌||◌, List, [], ◌++◌, ◌==◌, ◌≢◌, nat_lt, slice_index}
use native.Mathlib.Omega.{arith}
use Rattle.std.proofs.Math.Path.{refl, ap}
use Rattle.std.proofs.Common.{sym, ◌∙◌, true≢false, ltb-true, ltb-false, lt-ltb, eqb-true, eq-eqb, ne_eqb}
use Rattle.std.proofs.lemmas.Bool.{false≢true, eqb-false}
use Rattle.rows.specs.One.{one}
use Rattle.rows.specs.Widths.{event_width}
use Rattle.pcap.specs.File.{Item}
use Rattle.pcap.specs.Export.{Source, item_of, event_at, kept, items_from, taken_from, items_of}

-- the packet row that event row i names
abbrev pub name_of : Source → ℕ → ℕ
name_of l i = slice_index l.events (i * event_width)

abbrev pub Ascending : Source → Type 0
Ascending l = (i j : ℕ) → i < j → j < l.marks → name_of l i < name_of l j

-- one of the first m event rows names packet row k
abbrev pub named : Source → ℕ → ℕ → Bool
named l zero k = false
named l (suc m) k = named l m k || name_of l m == k

-- the records of n rows from row k on, but for those that some event row names
abbrev pub items_but : Source → ℕ → ℕ → List Item
items_but l zero k = []
items_but l (suc n) k = kept (named l l.marks k) (item_of l k) ++ items_but l n (k + 1)

or_true : (a : Bool) → a || true ≡ true
or_true true = refl
or_true false = refl

-- where some row names it
named_true : (l : Source) (m i k : ℕ) → i < m → name_of l i ≡ k → named l m k ≡ true
named_true l zero i k h e = absurd (omega arith)
named_true l (suc m) i k h e = go (λ d. named_true l m i k d e) (i == m) refl where
  go : (i < m → named l m k ≡ true) → (b : Bool) → (i == m) ≡ b → named l m k || (name_of l m == k) ≡ true
  go more true q =
      let s : name_of l m ≡ k = ap (name_of l) (sym (eqb-true i m q)) ∙ e in
      ap (λ (c : Bool). named l m k || c) (eq-eqb (name_of l m) k s) ∙ or_true (named l m k)
  go more false q =
      let d : i < m = omega (arith, eqb-false i m q, h) in
      ap (λ (c : Bool). c || name_of l m == k) (more d)

-- where none does
named_false : (l : Source) (m k : ℕ) → ((i : ℕ) → i < m → name_of l i ≢ k) → named l m k ≡ false
named_false l zero k h = refl
named_false l (suc m) k h =
    ap (λ (c : Bool). c || name_of l m == k) (named_false l m k (λ i g. h i (omega arith)))
    ∙ ne_eqb (name_of l m) k (h m (omega arith))

-- before row k, t events were taken: those that name rows before it
pub record Reached (l : Source) (k t : ℕ) : Type 0 where
  pub most : t ≤ l.marks
  pub before : (i : ℕ) → i < t → name_of l i < k
  pub behind : t < l.marks → k ≤ name_of l t

both_true : (a b : Bool) → a && b ≡ true → (a ≡ true) × (b ≡ true)
both_true true true h = (refl, refl)
both_true true false h = absurd (false≢true h)
both_true false b h = absurd (false≢true h)

module _ (l : Source) (up : Ascending l) (k t : ℕ) (r : Reached l k t) where
  module _ (q : event_at l t k ≡ true) where
    is-there : t < l.marks
    is-there = ltb-true t l.marks (both_true (nat_lt t l.marks) (name_of l t == k) q).0

    names_it : name_of l t ≡ k
    names_it = eqb-true (name_of l t) k (both_true (nat_lt t l.marks) (name_of l t == k) q).1

  module _ (q : event_at l t k ≡ false) where
    names-other : t < l.marks → name_of l t ≢ k
    names-other h e = true≢false (sym (ap (λ (b : Bool). b && name_of l t == k) (lt-ltb t l.marks h) ∙ eq-eqb (name_of l t) k e) ∙ q)

    no_name : (i : ℕ) → i < l.marks → name_of l i ≢ k
    no_name i h e = go (nat_lt i t) refl (i == t) refl where
      go : (a : Bool) → nat_lt i t ≡ a → (b : Bool) → (i == t) ≢ b
      go true p b s = omega (arith, r.before i (ltb-true i t p), e)
      go false p true s = names-other (omega (arith, eqb-true i t s, h)) (ap (name_of l) (sym (eqb-true i t s)) ∙ e)
      go false p false s =
          let d : t < i = omega (arith, ltb-false i t p, eqb-false i t s) in
          omega (arith, up t i d h, r.behind (omega arith), e)

  is-named : (b : Bool) → event_at l t k ≡ b → named l l.marks k ≡ b
  is-named true q = named_true l l.marks t k (is-there q) (names_it q)
  is-named false q = named_false l l.marks k (no_name q)

  reached-next : (b : Bool) → event_at l t k ≡ b → Reached l (k + 1) (t + one b)
  reached-next true q =
      record {
        most = omega (arith, is-there q);
        before = λ i h. go i h (i == t) refl;
        behind = λ h. omega (arith, up t (t + 1) (omega arith) h, names_it q);
      } where
        go : (i : ℕ) → i < t + 1 → (b : Bool) → (i == t) ≡ b → name_of l i < k + 1
        go i h true s = omega (arith, ap (name_of l) (eqb-true i t s), names_it q)
        go i h false s = omega (arith, r.before i (omega (arith, eqb-false i t s, h)))
  reached-next false q =
      record {
        most = omega (arith, r.most);
        before = λ i h. omega (arith, r.before i (omega arith));
        behind = λ h.
            let e : t + 0 ≡ t = omega arith in
            omega (arith, r.behind (omega arith), names-other q (omega arith), ap (name_of l) e);
      }

module _ (l : Source) (up : Ascending l) where
  but-from : (n k t : ℕ) → Reached l k t → items_from l n k t ≡ items_but l n k
  unfolding items_from
  but-from zero k t r = refl
  but-from (suc n) k t r =
      let b = event_at l t k in
      ap (λ (x : List Item). kept b (item_of l k) ++ x) (but-from n (k + 1) (t + one b) (reached-next l up k t r b refl))
      ∙ ap (λ (c : Bool). kept c (item_of l k) ++ items_but l n (k + 1)) (sym (is-named l up k t r b refl))

  reached-from : (n k t : ℕ) → Reached l k t → Reached l (n + k) (taken_from l n k t)
  unfolding taken_from
  reached-from zero k t r = let e : 0 + k ≡ k = omega arith in rw e r
  reached-from (suc n) k t r =
      let b = event_at l t k in
      let e : suc n + k ≡ n + (k + 1) = omega arith in
      rw e (reached-from n (k + 1) (t + one b) (reached-next l up k t r b refl))

  at_first : Reached l 0 0
  at_first = record { most = omega arith; before = λ i h. absurd (omega arith); behind = λ h. omega arith }

  -- the rows that are written
  pub written_are : items_of l ≡ items_but l l.rows 0
  written_are = but-from l.rows 0 0 at_first

  -- where each event row names a packet row that there is
  pub all_left : ((i : ℕ) → i < l.marks → name_of l i < l.rows) → taken_from l l.rows 0 0 ≡ l.marks
  all_left h =
      let r = reached-from l.rows 0 0 at_first in
      let t = taken_from l l.rows 0 0 in
      go r (nat_lt t l.marks) refl where
        go : Reached l (l.rows + 0) (taken_from l l.rows 0 0) → (b : Bool) → nat_lt (taken_from l l.rows 0 0) l.marks ≡ b → taken_from l l.rows 0 0 ≡ l.marks
        go r true q =
            let d = ltb-true (taken_from l l.rows 0 0) l.marks q in
            absurd (omega (arith, r.behind d, h (taken_from l l.rows 0 0) d))
        go r false q = omega (arith, r.most, ltb-false (taken_from l l.rows 0 0) l.marks q)
