-- Lines that become another fate: what the ledger then says.
use mathlib.Core.Bool.{Bool, true, false, true≢false}
use mathlib.Core.List.{List, [], ◌∷◌, ◌++◌, append-nil, append_assoc}
use mathlib.Core.Path.{◌≡◌, refl, sym, ap, ◌∙◌}
use Prim.Native.Nat.{ℕ}
use borrow.Author.Tests.{eqb-true, eqb-false, eq-eqb, ne_eqb}
use lib.Dec.{eqb}
use Rattle.transaction.specs.Table.{pick}
use Rattle.group.specs.declared.Effect.{Effect}
use Rattle.group.specs.declared.Effect.TheVariants.{NoEffect, NewDevice, Request, PendingData, IndexData}
use Rattle.ledger.specs.Ledger.{Why, Waited, Fate, Held, Waiting, Counted, Passed, Ledger, is_held, is_waiting, is_counted, lengths_of, turn, used_at, end_at}
use Rattle.ledger.proofs.Account.{All, None, is_open, InOrder}

-- ---- so of every line

pub all_map : {Q R : Fate → Type 0} → ((f : Fate) → Q f → R f) → (l : Ledger) → All Q l → All R l
all_map h [] q = tt
all_map h (a ∷ l) q = (h a.fate q.0, all_map h l q.1)

none-turned : (P Q these : Fate → Bool) (g : Fate) → ((f : Fate) → Q f ≡ false → P (pick (these f) g f) ≡ false) → (l : Ledger) → None Q l → None P (turn these g l)
none-turned P Q these g h [] q = tt
none-turned P Q these g h (a ∷ l) q = (h a.fate q.0, none-turned P Q these g h l q.1)

-- none is one of these where they have no lengths
emptied : (ns : List ℕ) (b : Bool) (n : ℕ) → ns ++ pick b (n ∷ []) [] ≡ [] → (ns ≡ []) × (b ≡ false)
emptied [] true n h = (refl, cc)
emptied [] false n h = (refl, refl)
emptied (m ∷ ns) b n h = (cc, cc)

pub none_of : (these : Fate → Bool) (l : Ledger) → lengths_of these l ≡ [] → None these l
none_of these [] h = tt
none_of these (a ∷ l) h = let e = emptied (lengths_of these l) (these a.fate) a.length h in (e.1, none_of these l e.0)

empty_of : (these : Fate → Bool) (l : Ledger) → None these l → lengths_of these l ≡ []
empty_of these [] h = refl
empty_of these (a ∷ l) h = rw (h.0, empty_of these l h.1)

-- ---- the lengths of P, where C became g

module _ (P C : Fate → Bool) where
  picked : (b : Bool) (g f : Fate) → P (pick b g f) ≡ pick b (P g) (P f)
  picked true g f = refl
  picked false g f = refl

  turned : (g : Fate) (l : Ledger) → lengths_of P (turn C g l) ≡ lengths_of (λ f. pick (C f) (P g) (P f)) l
  turned g [] = refl
  turned g (a ∷ l) = λ i. turned g l i ++ pick (picked (C a.fate) g a.fate i) (a.length ∷ []) []

  -- behind one of P none of the older ones is of C
  abbrev Behind : Ledger → Type 0
  Behind [] = Unit {0}
  Behind (a ∷ l) = (P a.fate ≡ true → None C l) × Behind l

  none-behind : (l : Ledger) → None P l → Behind l
  none-behind [] n = tt
  none-behind (a ∷ l) n = (λ h. absurd (true≢false (sym h ∙ n.0)), none-behind l n.1)

  module _ (apart : (f : Fate) → C f ≡ true → P f ≡ false) where
    joined : (l : Ledger) → Behind l → lengths_of (λ f. pick (C f) true (P f)) l ≡ lengths_of P l ++ lengths_of C l
    joined [] b = refl
    joined (a ∷ l) b = by (P a.fate) (C a.fate) b.0 (apart a.fate) (joined l b.1)
      where
        n : List ℕ
        n = a.length ∷ []

        by : (p c : Bool) → (p ≡ true → None C l) → (c ≡ true → p ≡ false) → {q : List ℕ} → q ≡ lengths_of P l ++ lengths_of C l
            → q ++ pick (pick c true p) n [] ≡ (lengths_of P l ++ pick p n []) ++ (lengths_of C l ++ pick c n [])
        by true true h d e = absurd (true≢false (d refl))
        by true false h d e = rw (e, empty_of C l (h refl)) (simp append-nil)
        by false true h d e = rw e (simp (append-nil, append_assoc))
        by false false h d e = rw e (simp append-nil)

    same : (c p : Bool) → (c ≡ true → p ≡ false) → pick c false p ≡ p
    same true p d = sym (d refl)
    same false p d = refl

    kept : (l : Ledger) → lengths_of (λ f. pick (C f) false (P f)) l ≡ lengths_of P l
    kept [] = refl
    kept (a ∷ l) = λ i. kept l i ++ pick (same (C a.fate) (P a.fate) (apart a.fate) i) (a.length ∷ []) []

    -- where g is one of P, they come behind its own
    pub moved : (g : Fate) (l : Ledger) → (P g ≡ true → Behind l) → lengths_of P (turn C g l) ≡ lengths_of P l ++ pick (P g) (lengths_of C l) []
    moved g l b = turned g l ∙ by (P g) b
      where
        by : (p : Bool) → (p ≡ true → Behind l) → lengths_of (λ f. pick (C f) p (P f)) l ≡ lengths_of P l ++ pick p (lengths_of C l) []
        by true h = joined l (h refl)
        by false h = kept l ∙ sym (append-nil (lengths_of P l))

-- of C itself
module _ (C : Fate → Bool) where
  self : (b c : Bool) → pick c b c ≡ pick b c false
  self true true = refl
  self true false = refl
  self false true = refl
  self false false = refl

  selves : (b : Bool) (l : Ledger) → lengths_of (λ f. pick (C f) b (C f)) l ≡ pick b (lengths_of C l) []
  selves true [] = refl
  selves true (a ∷ l) = λ i. selves true l i ++ pick (self true (C a.fate) i) (a.length ∷ []) []
  selves false [] = refl
  selves false (a ∷ l) = λ i. selves false l i ++ pick (self false (C a.fate) i) (a.length ∷ []) []

  own : (g : Fate) (l : Ledger) → lengths_of C (turn C g l) ≡ pick (C g) (lengths_of C l) []
  own g l = turned C C g l ∙ selves (C g) l

-- ---- a payload is one thing at a time

held-waiting : (e : ℕ) (f : Fate) → is_held f ≡ true → is_waiting e f ≡ false
held-waiting e Held h = refl
held-waiting e (Waiting y) h = absurd (true≢false (sym h))
held-waiting e (Counted y) h = refl
held-waiting e (Passed why y) h = refl

held-counted : (e : ℕ) (f : Fate) → is_held f ≡ true → is_counted e f ≡ false
held-counted e Held h = refl
held-counted e (Waiting y) h = refl
held-counted e (Counted y) h = absurd (true≢false (sym h))
held-counted e (Passed why y) h = refl

waiting-held : (x : ℕ) (f : Fate) → is_waiting x f ≡ true → is_held f ≡ false
waiting-held x Held h = sym h
waiting-held x (Waiting y) h = refl
waiting-held x (Counted y) h = refl
waiting-held x (Passed why y) h = refl

waiting-counted : (x e : ℕ) (f : Fate) → is_waiting x f ≡ true → is_counted e f ≡ false
waiting-counted x e Held h = refl
waiting-counted x e (Waiting y) h = refl
waiting-counted x e (Counted y) h = absurd (true≢false (sym h))
waiting-counted x e (Passed why y) h = refl

waiting_elsewhere : (x e : ℕ) → ¬ (e ≡ x) → (f : Fate) → is_waiting x f ≡ true → is_waiting e f ≡ false
waiting_elsewhere x e d Held h = refl
waiting_elsewhere x e d (Waiting y) h = ne_eqb e y (λ q. d (q ∙ sym (eqb-true x y h)))
waiting_elsewhere x e d (Counted y) h = refl
waiting_elsewhere x e d (Passed why y) h = refl

closed-held : (e : ℕ) (f : Fate) → is_open e f ≡ false → is_held f ≡ false
closed-held e Held h = h
closed-held e (Waiting y) h = refl
closed-held e (Counted y) h = refl
closed-held e (Passed why y) h = refl

closed-waiting : (e : ℕ) (f : Fate) → is_open e f ≡ false → is_waiting e f ≡ false
closed-waiting e Held h = refl
closed-waiting e (Waiting y) h = h
closed-waiting e (Counted y) h = refl
closed-waiting e (Passed why y) h = refl

counted-closed : (e : ℕ) (f : Fate) → is_counted e f ≡ true → is_open e f ≡ false
counted-closed e Held h = absurd (true≢false (sym h))
counted-closed e (Waiting y) h = absurd (true≢false (sym h))
counted-closed e (Counted y) h = refl
counted-closed e (Passed why y) h = refl

or_else : (b : Bool) → (b ≡ true → ⊥) → b ≡ false
or_else true h = absurd (h refl)
or_else false h = refl

open_is : (e : ℕ) (f : Fate) → is_held f ≡ false → is_waiting e f ≡ false → is_open e f ≡ false
open_is e Held h w = h
open_is e (Waiting y) h w = w
open_is e (Counted y) h w = refl
open_is e (Passed why y) h w = refl

-- ---- the order

order-behind : (e : ℕ) (C : Fate → Bool) → ((f : Fate) → is_open e f ≡ false → C f ≡ false) → (l : Ledger) → InOrder e l → Behind (is_counted e) C l
order-behind e C h [] o = tt
order-behind e C h (a ∷ l) o = (λ q. all_map h l (o.0 q), order-behind e C h l o.1)

none_order : (e : ℕ) (l : Ledger) → None (is_open e) l → InOrder e l
none_order e [] n = tt
none_order e (a ∷ l) n = (λ q. n.1, none_order e l n.1)

module _ (e : ℕ) (C : Fate → Bool) (g : Fate) (no : is_counted e g ≡ false) (closed : (f : Fate) → is_open e f ≡ false → is_open e (pick (C f) g f) ≡ false) where
  was : (b : Bool) (f : Fate) → is_counted e (pick b g f) ≡ true → is_counted e f ≡ true
  was true f h = absurd (true≢false (sym h ∙ no))
  was false f h = h

  order-turned : (l : Ledger) → InOrder e l → InOrder e (turn C g l)
  order-turned [] o = tt
  order-turned (a ∷ l) o = (λ q. none-turned (is_open e) (is_open e) C g closed l (o.0 (was (C a.fate) a.fate q)), order-turned l o.1)

-- ---- what it says of the payloads that are not settled yet: h are held, and w e wait at e

pub record Tells (l : Ledger) (h : List ℕ) (w : ℕ → List ℕ) : Type 0 where
  pub held : lengths_of is_held l ≡ h
  pub waiting : (e : ℕ) → lengths_of (is_waiting e) l ≡ w e
  pub ordered : (e : ℕ) → InOrder e l

pub retold : {l : Ledger} {h h' : List ℕ} {w w' : ℕ → List ℕ} → h ≡ h' → ((e : ℕ) → w e ≡ w' e) → Tells l h w → Tells l h' w'
retold p q t = record { held = t.held ∙ p; waiting = λ e. t.waiting e ∙ q e; ordered = t.ordered }

-- what was counted at e, and n more
abbrev Counts : Ledger → Ledger → (ℕ → List ℕ) → Type 0
Counts l l' n = (e : ℕ) → lengths_of (is_counted e) l' ≡ lengths_of (is_counted e) l ++ n e

-- ---- what is held becomes g; at an endpoint where it comes to wait or to be counted, nothing waits

module _ (g : Fate) (no : is_held g ≡ false) {l : Ledger} {h : List ℕ} {w : ℕ → List ℕ} (t : Tells l h w) where
  pub held-counts : Counts l (turn is_held g l) (λ e. pick (is_counted e g) h [])
  held-counts e =
      moved (is_counted e) is_held (held-counted e) g l (λ q. order-behind e is_held (closed-held e) l (t.ordered e))
      ∙ ap (λ (n : List ℕ). lengths_of (is_counted e) l ++ pick (is_counted e g) n []) t.held

  module _ (none : (e : ℕ) → is_waiting e g ≡ true → w e ≡ []) (clear : (e : ℕ) → is_counted e g ≡ true → w e ≡ []) where
    held_order : (e : ℕ) → InOrder e (turn is_held g l)
    held_order e = by (is_counted e g) refl
      where
        open-held : (f : Fate) → is_open e f ≡ false → is_open e (pick (is_held f) g f) ≡ false
        open-held Held q = absurd (true≢false q)
        open-held (Waiting y) q = q
        open-held (Counted y) q = q
        open-held (Passed why y) q = q

        shut : is_open e g ≡ false → (f : Fate) → is_waiting e f ≡ false → is_open e (pick (is_held f) g f) ≡ false
        shut c Held q = c
        shut c (Waiting y) q = q
        shut c (Counted y) q = refl
        shut c (Passed why y) q = refl

        by : (b : Bool) → is_counted e g ≡ b → InOrder e (turn is_held g l)
        by true q = none_order e (turn is_held g l) (none-turned (is_open e) (is_waiting e) is_held g (shut (counted-closed e g q)) l (none_of (is_waiting e) l (t.waiting e ∙ clear e q)))
        by false q = order-turned e is_held g q open-held l (t.ordered e)

    pub held_tells : Tells (turn is_held g l) [] (λ e. w e ++ pick (is_waiting e g) h [])
    held_tells =
        record {
          held = own is_held g l ∙ ap (λ (b : Bool). pick b (lengths_of is_held l) []) no;
          waiting = λ e. moved (is_waiting e) is_held (held-waiting e) g l (λ q. none-behind (is_waiting e) is_held l (none_of (is_waiting e) l (t.waiting e ∙ none e q)))
              ∙ (λ i. t.waiting e i ++ pick (is_waiting e g) (t.held i) []);
          ordered = held_order;
        }

-- ---- what waits at x becomes g; where that is counted, nothing is held

module _ (x : ℕ) (g : Fate) (no : is_held g ≡ false) (here : (e : ℕ) → is_waiting e g ≡ true → e ≡ x) (there : (e : ℕ) → is_counted e g ≡ true → e ≡ x) {l : Ledger} {h : List ℕ} {w : ℕ → List ℕ} (t : Tells l h w) where
  waiting-counts : Counts l (turn (is_waiting x) g l) (λ e. pick (is_counted e g) (w x) [])
  waiting-counts e =
      moved (is_counted e) (is_waiting x) (waiting-counted x e) g l (λ q. order-behind e (is_waiting x) (λ f c. rw (← there e q) (closed-waiting e f c)) l (t.ordered e))
      ∙ ap (λ (n : List ℕ). lengths_of (is_counted e) l ++ pick (is_counted e g) n []) (t.waiting x)

  module _ (clear : (e : ℕ) → is_counted e g ≡ true → h ≡ []) where
    waiting_order : (e : ℕ) → InOrder e (turn (is_waiting x) g l)
    waiting_order e = by (is_counted e g) refl
      where
        -- one that waits at x and is not open at e is not at e, and neither is g
        away : (y : ℕ) (b : Bool) → eqb x y ≡ b → eqb e y ≡ false → is_open e (pick b g (Waiting y)) ≡ false
        away y true q c = open_is e g no (or_else (is_waiting e g) (λ o. eqb-false e y c (here e o ∙ eqb-true x y q)))
        away y false q c = c

        kept_open : (f : Fate) → is_open e f ≡ false → is_open e (pick (is_waiting x f) g f) ≡ false
        kept_open Held q = q
        kept_open (Waiting y) q = away y (eqb x y) refl q
        kept_open (Counted y) q = q
        kept_open (Passed why y) q = q

        shut : e ≡ x → is_open e g ≡ false → (f : Fate) → is_held f ≡ false → is_open e (pick (is_waiting x f) g f) ≡ false
        shut p c Held q = absurd (true≢false q)
        shut p c (Waiting y) q = at (eqb x y) refl
          where
            at : (b : Bool) → eqb x y ≡ b → is_open e (pick b g (Waiting y)) ≡ false
            at true r = c
            at false r = rw p r
        shut p c (Counted y) q = refl
        shut p c (Passed why y) q = refl

        by : (b : Bool) → is_counted e g ≡ b → InOrder e (turn (is_waiting x) g l)
        by true q = none_order e (turn (is_waiting x) g l) (none-turned (is_open e) is_held (is_waiting x) g (shut (there e q) (counted-closed e g q)) l (none_of is_held l (t.held ∙ clear e q)))
        by false q = order-turned e (is_waiting x) g q kept_open l (t.ordered e)

    not-here : (e : ℕ) → ¬ (e ≡ x) → is_waiting e g ≡ false
    not-here e d = or_else (is_waiting e g) (λ o. d (here e o))

    waiting-tells : Tells (turn (is_waiting x) g l) h (λ e. pick (eqb e x) (pick (is_waiting x g) (w x) []) (w e))
    waiting-tells =
        record {
          held = moved is_held (is_waiting x) (waiting-held x) g l (λ q. absurd (true≢false (sym q ∙ no))) ∙ ((λ i. t.held i ++ pick (no i) (t.waiting x i) []) ∙ append-nil h);
          waiting = λ e. by e (eqb e x) refl;
          ordered = waiting_order;
        }
      where
        by : (e : ℕ) (b : Bool) → eqb e x ≡ b → lengths_of (is_waiting e) (turn (is_waiting x) g l) ≡ pick b (pick (is_waiting x g) (w x) []) (w e)
        by e true q = rw (eqb-true e x q) (own (is_waiting x) g l ∙ ap (λ (n : List ℕ). pick (is_waiting x g) n []) (t.waiting x))
        by e false q =
            let d = eqb-false e x q in
            moved (is_waiting e) (is_waiting x) (waiting_elsewhere x e d) g l (λ o. absurd (d (here e o)))
            ∙ (ap (λ (b : Bool). lengths_of (is_waiting e) l ++ pick b (lengths_of (is_waiting x) l) []) (not-here e d) ∙ (append-nil (lengths_of (is_waiting e) l) ∙ t.waiting e))

-- ---- transaction_end on the endpoint x

-- what its effect leaves waiting there, and what it counts, of the payload that it used
abbrev pub left_by : Effect → List ℕ → List ℕ
left_by NoEffect u = []
left_by (NewDevice address) u = []
left_by (Request n) u = []
left_by (PendingData n) u = u
left_by (IndexData n waited i) u = []

abbrev pub counted_by : Effect → List ℕ → List ℕ
counted_by NoEffect u = []
counted_by (NewDevice address) u = []
counted_by (Request n) u = []
counted_by (PendingData n) u = []
counted_by (IndexData n waited i) u = u

module _ (x : ℕ) (why : Why) where
  abbrev used : Effect → Fate
  used f = used_at x f (Passed why x)

  used-no : (f : Effect) → is_held (used f) ≡ false
  used-no NoEffect = refl
  used-no (NewDevice address) = refl
  used-no (Request n) = refl
  used-no (PendingData n) = refl
  used-no (IndexData n waited i) = refl

  used-here : (f : Effect) (e : ℕ) → is_waiting e (used f) ≡ true → e ≡ x
  used-here NoEffect e h = absurd (true≢false (sym h))
  used-here (NewDevice address) e h = absurd (true≢false (sym h))
  used-here (Request n) e h = absurd (true≢false (sym h))
  used-here (PendingData n) e h = eqb-true e x h
  used-here (IndexData n waited i) e h = absurd (true≢false (sym h))

  used-there : (f : Effect) (e : ℕ) → is_counted e (used f) ≡ true → e ≡ x
  used-there NoEffect e h = absurd (true≢false (sym h))
  used-there (NewDevice address) e h = absurd (true≢false (sym h))
  used-there (Request n) e h = absurd (true≢false (sym h))
  used-there (PendingData n) e h = absurd (true≢false (sym h))
  used-there (IndexData n waited i) e h = eqb-true e x h

  used-left : (f : Effect) (u : List ℕ) → pick (is_waiting x (used f)) u [] ≡ left_by f u
  used-left NoEffect u = refl
  used-left (NewDevice address) u = refl
  used-left (Request n) u = refl
  used-left (PendingData n) u = rw (eq-eqb x x refl)
  used-left (IndexData n waited i) u = refl

  either : (b : Bool) → ◌≡◌ {A = List ℕ} [] (pick b [] [])
  either true = refl
  either false = refl

  used-counted : (f : Effect) (e : ℕ) (u : List ℕ) → pick (is_counted e (used f)) u [] ≡ pick (eqb e x) (counted_by f u) []
  used-counted NoEffect e u = either (eqb e x)
  used-counted (NewDevice address) e u = either (eqb e x)
  used-counted (Request n) e u = either (eqb e x)
  used-counted (PendingData n) e u = either (eqb e x)
  used-counted (IndexData n waited i) e u = refl

pub record Ended (x : ℕ) (f : Effect) (u : List ℕ) (w : ℕ → List ℕ) (l l' : Ledger) : Type 0 where
  pub tells : Tells l' [] (λ e. pick (eqb e x) (left_by f u) (w e))
  pub counts : (e : ℕ) → lengths_of (is_counted e) l' ≡ lengths_of (is_counted e) l ++ pick (eqb e x) (counted_by f u) []

module _ (x : ℕ) (success : Bool) (f : Effect) {l : Ledger} {h : List ℕ} {w : ℕ → List ℕ} (t : Tells l h w) where
  -- the transaction has a payload, and what waited has become one that nobody waits for
  module _ (why : Why) (g : Fate) (unheld : is_held g ≡ false) (unwaited : (e : ℕ) → is_waiting e g ≡ false) (uncounted : (e : ℕ) → is_counted e g ≡ false) where
    here : (e : ℕ) → is_waiting e g ≡ true → e ≡ x
    here e q = absurd (true≢false (sym q ∙ unwaited e))

    there : (e : ℕ) → is_counted e g ≡ true → e ≡ x
    there e q = absurd (true≢false (sym q ∙ uncounted e))

    passed : Tells (turn (is_waiting x) g l) h (λ e. pick (eqb e x) [] (w e))
    passed = retold refl (λ e. ap (λ (b : Bool). pick (eqb e x) (pick b (w x) []) (w e)) (unwaited x)) (waiting-tells x g unheld here there t (λ e q. absurd (true≢false (sym q ∙ uncounted e))))

    same-counted : (e : ℕ) → lengths_of (is_counted e) (turn (is_waiting x) g l) ≡ lengths_of (is_counted e) l
    same-counted e = waiting-counts x g unheld here there t e ∙ (ap (λ (b : Bool). lengths_of (is_counted e) l ++ pick b (w x) []) (uncounted e) ∙ append-nil (lengths_of (is_counted e) l))

    none : (e : ℕ) → e ≡ x → pick (eqb e x) [] (w e) ≡ []
    none e q = rw (eq-eqb e x q)

    full_by : Ended x f h w l (turn is_held (used x why f) (turn (is_waiting x) g l))
    full_by =
        record {
          tells = retold refl (λ e. by e (eqb e x) refl) (held_tells (used x why f) (used-no x why f) passed (λ e q. none e (used-here x why f e q)) (λ e q. none e (used-there x why f e q)));
          counts = λ e. held-counts (used x why f) (used-no x why f) passed e ∙ (λ i. same-counted e i ++ used-counted x why f e h i);
        }
      where
        by : (e : ℕ) (b : Bool) → eqb e x ≡ b → pick b [] (w e) ++ pick (is_waiting e (used x why f)) h [] ≡ pick b (left_by f h) (w e)
        by e true q = rw (eqb-true e x q) (used-left x why f h)
        by e false q = rw (or_else (is_waiting e (used x why f)) (λ o. eqb-false e x q (used-here x why f e o))) (append-nil (w e))

  pub full-ended : Ended x f h w l (end_at true x success f l)
  full-ended = full_by _ _ refl (λ e. refl) (λ e. refl)

  -- it has none
  pub bare-ended : h ≡ [] → Ended x f (w x) w l (end_at false x success f l)
  bare-ended z =
      record {
        tells = retold z (λ e. ap (λ (u : List ℕ). pick (eqb e x) u (w e)) (used-left x Waited f (w x))) (waiting-tells x (used x Waited f) (used-no x Waited f) (used-here x Waited f) (used-there x Waited f) t (λ e q. z));
        counts = λ e. waiting-counts x (used x Waited f) (used-no x Waited f) (used-here x Waited f) (used-there x Waited f) t e ∙ ap (λ (u : List ℕ). lengths_of (is_counted e) l ++ u) (used-counted x Waited f e (w x));
      }
