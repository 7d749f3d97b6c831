-- A transaction's end keeps the account.
use mathlib.Core.Bool.{Bool, true, false, true≢false}
use mathlib.Core.List.{List, [], ◌∷◌, ◌++◌, append-nil}
use mathlib.Core.Path.{◌≡◌, refl, sym, ap, ◌∙◌}
use Prim.Native.Nat.{ℕ, ◌+◌, ◌<◌}
use native.Mathlib.Omega.{arith}
use borrow.Author.Tests.{eqb-true, lt-ltb}
use lib.Dec.{eqb, ltb}
use Rattle.transaction.specs.Table.{pick}
use Rattle.endpoints.specs.declared.Endpoint.{Endpoint}
use Rattle.group.specs.Step.{payload, payload_of}
use Rattle.group.specs.declared.Effect.{Effect}
use Rattle.group.specs.declared.Effect.TheVariants.{NoEffect, NewDevice, Request, PendingData, IndexData}
use Rattle.group.specs.declared.Grouped.{Grouped}
use Rattle.group.proofs.Laws.{group-keeps}
use Rattle.rules.specs.Rows.{Row}
use Rattle.rules.specs.World.{World, change, with_slot, with_pending, with_total}
use Rattle.rules.specs.Endpoints.{detail_of}
use Rattle.rules.specs.Groups.{group_step, effect_step, grouped, becomes, group_update}
use Rattle.rules.specs.Transactions.{transaction_end_at, transaction_end}
use Rattle.rules.specs.declared.Slot.{Slot}
use Rattle.rules.specs.declared.Slot.TheVariants.{Empty, Current, Suspended}
use Rattle.plan.proofs.Frame.{Rest}
use Rattle.ledger.specs.Ledger.{Why, Forgotten, Passed, Ledger, is_held, is_counted, lengths_of, sum, running, turn, pass_held, end_at, end_by, ends}
use Rattle.ledger.proofs.Account.{Tally, tally, blank, View, view, Account, InsideAt, Inside}
use Rattle.ledger.proofs.Feeds.{Feeds, group_feeds}
use Rattle.ledger.proofs.Turns.{Tells, held_tells, held-counts, left_by, counted_by, Ended, full-ended, bare-ended}
use Rattle.ledger.proofs.Views.{seen, group-seen, group-rest}

-- ---- sums

sum_more : (ns : List ℕ) (n : ℕ) → sum (ns ++ (n ∷ [])) ≡ sum ns + n
sum_more [] n = omega arith
sum_more (m ∷ ns) n = omega (arith, sum_more ns n)

running_more : (k : ℕ) (ns : List ℕ) (n : ℕ) → running k (ns ++ (n ∷ [])) ≡ running k ns ++ ((k + sum ns) ∷ [])
running_more k [] n = let e : k ≡ k + 0 = omega arith in ap (λ (m : ℕ). m ∷ []) e
running_more k (m ∷ ns) n = let e : (k + m) + sum ns ≡ k + (m + sum ns) = omega arith in ap (λ (l : List ℕ). k ∷ l) (running_more (k + m) ns n ∙ ap (λ (t : ℕ). running (k + m) ns ++ (t ∷ [])) e)

-- ---- what is not settled, by the account

pub tells : {v : View} {l : Ledger} → Account v l → Tells l v.held (λ e. (v.entry e).waits)
tells a = record { held = a.held; waiting = a.waiting; ordered = a.ordered }

-- ---- a payload that is held is passed over: the account of a view that holds nothing

abbrev pub bare : View → View
bare v = record { held = []; entry = v.entry; rows = v.rows }

never : (e : ℕ) (w : List ℕ) → false ≡ true → w ≡ []
never e w q = absurd (true≢false (sym q))

pub pass_account : (why : Why) (x : ℕ) {v : View} {l : Ledger} → Account v l → Account (bare v) (turn is_held (Passed why x) l)
pass_account why x {v} {l} a =
    let t = held_tells (Passed why x) refl (tells a) (λ e. never e _) (λ e. never e _) in
    let c : (e : ℕ) → lengths_of (is_counted e) (turn is_held (Passed why x) l) ≡ lengths_of (is_counted e) l = λ e. held-counts (Passed why x) refl (tells a) e ∙ append-nil (lengths_of (is_counted e) l) in
    record {
      held = t.held;
      waiting = λ e. t.waiting e ∙ append-nil (v.entry e).waits;
      total = λ e. a.total e ∙ ap sum (sym (c e));
      rows = λ e. a.rows e ∙ ap (running 0) (sym (c e));
      ordered = t.ordered;
    }

-- ---- one endpoint changed

module _ (js : List Row) where
  change-entry : (x : ℕ) (f : Endpoint → Endpoint) (g : Tally → Tally) (w : World) → x < w.count → tally (f (w.endpoints x)) ≡ g (tally (w.endpoints x))
      → (e : ℕ) → (seen js (change x f w)).entry e ≡ pick (eqb e x) (g ((seen js w).entry e)) ((seen js w).entry e)
  change-entry x f g w h q e = by (eqb e x) refl
    where
      by : (b : Bool) → eqb e x ≡ b → pick (ltb e w.count) (tally (pick b (f (w.endpoints e)) (w.endpoints e))) blank ≡ pick b (g (pick (ltb e w.count) (tally (w.endpoints e)) blank)) (pick (ltb e w.count) (tally (w.endpoints e)) blank)
      by true p = rw (eqb-true e x p, lt-ltb x w.count h) q
      by false p = refl

-- what the effect makes of the endpoint's tally, from which what waits was taken, and of its rows
abbrev tally_by : Effect → Tally → Tally
tally_by NoEffect t = record { total = t.total; waits = [] }
tally_by (NewDevice address) t = record { total = t.total; waits = [] }
tally_by (Request n) t = record { total = t.total; waits = [] }
tally_by (PendingData n) t = record { total = t.total; waits = n ∷ [] }
tally_by (IndexData n waited i) t = record { total = t.total + n; waits = [] }

abbrev rows_by : Effect → ℕ → List ℕ → List ℕ
rows_by NoEffect n ns = ns
rows_by (NewDevice address) n ns = ns
rows_by (Request m) n ns = ns
rows_by (PendingData m) n ns = ns
rows_by (IndexData m waited i) n ns = ns ++ (n ∷ [])

-- at x
pub record Updated (x : ℕ) (f : Effect) (v v' : View) : Type 0 where
  pub entry : (e : ℕ) → v'.entry e ≡ pick (eqb e x) (tally_by f (v.entry e)) (v.entry e)
  pub rows : (e : ℕ) → v'.rows e ≡ pick (eqb e x) (rows_by f (v.entry e).total (v.rows e)) (v.rows e)

abbrev taken : Tally → Tally
taken t = record { total = t.total; waits = [] }

-- ---- group_update

either : {A : Type 0} (b : Bool) (a : A) → a ≡ pick b a a
either true a = refl
either false a = refl

chosen : (b : Bool) (g : Tally → Tally) (t : Tally) → pick b (g (pick b (taken t) t)) (pick b (taken t) t) ≡ pick b (g (taken t)) t
chosen true g t = refl
chosen false g t = refl

chosen-total : (b : Bool) (t : Tally) → (pick b (taken t) t).total ≡ t.total
chosen-total true t = refl
chosen-total false t = refl

module _ (js : List Row) (x : ℕ) (success complete : Bool) (w : World) (there : x < w.count) where
  r : Grouped
  r = grouped x success complete w

  u : World
  u = change x (becomes r.endpoint) w

  v : World
  v = group_step r.status x u

  -- what waited is taken
  became : (e : ℕ) → (seen js v).entry e ≡ pick (eqb e x) (taken ((seen js w).entry e)) ((seen js w).entry e)
  unfolding r u v
  became e =
      let k = group-keeps (w.endpoints x) w.transaction (detail_of x w) success complete in
      ap (λ (z : View). z.entry e) (group-seen js r.status x u)
      ∙ change-entry js x (becomes r.endpoint) taken w there (λ i. record { total = k.total i; waits = pick (k.pending i) (k.pendinglength i ∷ []) [] }) e

  rows_same : (e : ℕ) → (seen js v).rows e ≡ (seen js w).rows e
  unfolding u v
  rows_same e = ap (λ (z : View). z.rows e) (group-seen js r.status x u)

  still-there : x < v.count
  unfolding u v
  still-there = omega (arith, ap (λ (z : Rest). z.count) (group-rest r.status x u))

  total_same : (v.endpoints x).total ≡ ((seen js w).entry x).total
  total_same = unmasked ∙ (ap (λ (t : Tally). t.total) (became x) ∙ chosen-total (eqb x x) ((seen js w).entry x))
    where
      unmasked : (v.endpoints x).total ≡ (pick (ltb x v.count) (tally (v.endpoints x)) blank).total
      unmasked = rw (lt-ltb x v.count still-there)

  quiet : (e : ℕ) → (seen js v).rows e ≡ pick (eqb e x) ((seen js w).rows e) ((seen js w).rows e)
  quiet e = rows_same e ∙ either (eqb e x) ((seen js w).rows e)

  effect-updated : (f : Effect) → Updated x f (seen js w) (seen js (effect_step f x v))
  effect-updated NoEffect = record { entry = became; rows = quiet }
  effect-updated (NewDevice address) = record { entry = became; rows = quiet }
  effect-updated (Request n) = record { entry = became; rows = quiet }
  effect-updated (PendingData n) =
      record {
        entry = λ e. change-entry js x (with_pending n v.transaction.link) g v still-there refl e ∙ (ap (λ (t : Tally). pick (eqb e x) (g t) t) (became e) ∙ chosen (eqb e x) g ((seen js w).entry e));
        rows = quiet;
      }
    where
      g : Tally → Tally
      g t = record { total = t.total; waits = n ∷ [] }
  effect-updated (IndexData n waited i) =
      record {
        entry = λ e. change-entry js x (with_total ((v.endpoints x).total + n)) g v still-there refl e ∙ (ap (λ (t : Tally). pick (eqb e x) (g t) t) (became e) ∙ chosen (eqb e x) g ((seen js w).entry e));
        rows = λ e. by e (eqb e x) refl;
      }
    where
      g : Tally → Tally
      g t = record { total = t.total + n; waits = t.waits }

      by : (e : ℕ) (b : Bool) → eqb e x ≡ b → pick b ((seen js v).rows e ++ ((v.endpoints x).total ∷ [])) ((seen js v).rows e) ≡ pick b ((seen js w).rows e ++ (((seen js w).entry e).total ∷ [])) ((seen js w).rows e)
      by e true q = λ i. rows_same e i ++ ((total_same ∙ ap (λ (y : ℕ). ((seen js w).entry y).total) (sym (eqb-true e x q))) i ∷ [])
      by e false q = rows_same e

  updated : Updated x r.effect (seen js w) (seen js (group_update x success complete w))
  unfolding group_update r u v
  updated = effect-updated r.effect

-- ---- the account of it

-- the payload that was used is the one that the effect tells
abbrev FedBy : Effect → List ℕ → Type 0
FedBy NoEffect u = Unit {0}
FedBy (NewDevice address) u = Unit {0}
FedBy (Request n) u = Unit {0}
FedBy (PendingData n) u = u ≡ n ∷ []
FedBy (IndexData n waited i) u = u ≡ n ∷ []

fed_by : (f : Effect) (success known : Bool) (n : ℕ) (u : List ℕ) → Feeds success known n f → (known ≡ true → u ≡ n ∷ []) → FedBy f u
fed_by NoEffect success known n u k h = tt
fed_by (NewDevice address) success known n u k h = tt
fed_by (Request m) success known n u k h = tt
fed_by (PendingData m) success known n u k h = h k.1 ∙ ap (λ (z : ℕ). z ∷ []) (sym k.2)
fed_by (IndexData m waited i) success known n u k h = h k.1 ∙ ap (λ (z : ℕ). z ∷ []) (sym k.2)

left-waits : (f : Effect) (u : List ℕ) (t : Tally) → FedBy f u → left_by f u ≡ (tally_by f t).waits
left-waits NoEffect u t h = refl
left-waits (NewDevice address) u t h = refl
left-waits (Request n) u t h = refl
left-waits (PendingData n) u t h = h
left-waits (IndexData n waited i) u t h = refl

counted-total : (f : Effect) (u : List ℕ) (t : Tally) (c : List ℕ) → FedBy f u → t.total ≡ sum c → (tally_by f t).total ≡ sum (c ++ counted_by f u)
counted-total NoEffect u t c h q = rw (append-nil c) q
counted-total (NewDevice address) u t c h q = rw (append-nil c) q
counted-total (Request n) u t c h q = rw (append-nil c) q
counted-total (PendingData n) u t c h q = rw (append-nil c) q
counted-total (IndexData n waited i) u t c h q = rw h (omega (arith, sum_more c n))

counted-rows : (f : Effect) (u : List ℕ) (n : ℕ) (c ns : List ℕ) → FedBy f u → n ≡ sum c → ns ≡ running 0 c → rows_by f n ns ≡ running 0 (c ++ counted_by f u)
counted-rows NoEffect u n c ns h q p = rw (append-nil c) p
counted-rows (NewDevice address) u n c ns h q p = rw (append-nil c) p
counted-rows (Request m) u n c ns h q p = rw (append-nil c) p
counted-rows (PendingData m) u n c ns h q p = rw (append-nil c) p
counted-rows (IndexData m waited i) u n c ns h q p = let z : 0 + sum c ≡ n = omega arith in rw (h, running_more 0 c m, z) (ap (λ (l : List ℕ). l ++ (n ∷ [])) p)

module _ {x : ℕ} {f : Effect} {u : List ℕ} {was now : View} {l l' : Ledger} (a : Account was l) (d : Ended x f u (λ e. (was.entry e).waits) l l') (p : Updated x f was now) (z : now.held ≡ []) (h : FedBy f u) where
  account-ended : Account now l'
  account-ended =
      record {
        held = d.tells.held ∙ sym z;
        waiting = λ e. d.tells.waiting e ∙ (waits (eqb e x) (was.entry e) ∙ ap (λ (t : Tally). t.waits) (sym (p.entry e)));
        total = λ e. ap (λ (t : Tally). t.total) (p.entry e) ∙ (totals (eqb e x) (was.entry e) (lengths_of (is_counted e) l) (a.total e) ∙ ap sum (sym (d.counts e)));
        rows = λ e. p.rows e ∙ (rows (eqb e x) (was.entry e).total (lengths_of (is_counted e) l) (was.rows e) (a.total e) (a.rows e) ∙ ap (running 0) (sym (d.counts e)));
        ordered = d.tells.ordered;
      }
    where
      waits : (b : Bool) (t : Tally) → pick b (left_by f u) t.waits ≡ (pick b (tally_by f t) t).waits
      waits true t = left-waits f u t h
      waits false t = refl

      totals : (b : Bool) (t : Tally) (c : List ℕ) → t.total ≡ sum c → (pick b (tally_by f t) t).total ≡ sum (c ++ pick b (counted_by f u) [])
      totals true t c q = counted-total f u t c h q
      totals false t c q = rw (append-nil c) q

      rows : (b : Bool) (n : ℕ) (c ns : List ℕ) → n ≡ sum c → ns ≡ running 0 c → pick b (rows_by f n ns) ns ≡ running 0 (c ++ pick b (counted_by f u) [])
      rows true n c ns q r = counted-rows f u n c ns h q r
      rows false n c ns q r = rw (append-nil c) r

-- ---- transaction_end

used-is : (f p : Bool) (n m i : ℕ) → (let q = pick f (payload true n false 0) (pick p (payload true m true i) (payload false 0 false 0)) in
    q.known ≡ true → pick f (pick f (n ∷ []) []) (pick p (m ∷ []) []) ≡ q.len ∷ [])
used-is true p n m i h = refl
used-is false true n m i h = refl
used-is false false n m i h = absurd (true≢false (sym h))

module _ (js : List Row) (success complete : Bool) (w : World) (l : Ledger) (s : w.slot ≡ Current) (a : Account (view js w) l) where
  has : (view js w).held ≡ pick w.transaction.filled (w.transaction.payload ∷ []) []
  has = rw s

  waits : w.transaction.endpoint < w.count → ((view js w).entry w.transaction.endpoint).waits ≡ pick (w.endpoints w.transaction.endpoint).pending ((w.endpoints w.transaction.endpoint).pendinglength ∷ []) []
  waits h = rw (lt-ltb w.transaction.endpoint w.count h)

  end-ended : (f : Effect) → Ended w.transaction.endpoint f (pick w.transaction.filled (view js w).held ((view js w).entry w.transaction.endpoint).waits) (λ e. ((view js w).entry e).waits) l (end_at w.transaction.filled w.transaction.endpoint success f l)
  end-ended f = by w.transaction.filled (λ q. has ∙ rw q)
    where
      by : (b : Bool) → (b ≡ false → (view js w).held ≡ []) → Ended w.transaction.endpoint f (pick b (view js w).held ((view js w).entry w.transaction.endpoint).waits) (λ e. ((view js w).entry e).waits) l (end_at b w.transaction.endpoint success f l)
      by true q = full-ended w.transaction.endpoint success f (tells a)
      by false q = bare-ended w.transaction.endpoint success f (tells a) (q refl)

  end_current : w.transaction.endpoint < w.count
      → Account (view js (with_slot Empty (group_update w.transaction.endpoint success complete w))) (end_at w.transaction.filled w.transaction.endpoint success (grouped w.transaction.endpoint success complete w).effect l)
  unfolding r
  end_current h =
      let t = w.transaction in
      let e = w.endpoints t.endpoint in
      let q = updated js t.endpoint success complete w h in
      let f = (grouped t.endpoint success complete w).effect in
      account-ended a (end-ended f) (record { entry = q.entry; rows = q.rows }) refl
      (fed_by f success (payload_of e t).known (payload_of e t).len _ (group_feeds e t (detail_of t.endpoint w) success complete) (λ k. rw (has, waits h) (used-is t.filled e.pending t.payload e.pendinglength e.pendinglink k)))

pub end_account : (js : List Row) (success complete : Bool) (w : World) (l : Ledger) → Inside w → Account (view js w) l → Account (view js (transaction_end success complete w)) (ends success complete w l)
end_account js success complete w l = at w.slot refl
  where
    at : (s : Slot) → w.slot ≡ s → InsideAt s w.transaction.endpoint w.count → Account (view js w) l → Account (view js (transaction_end_at s success complete w)) (end_by s success complete w l)
    at Empty q i a = a
    at Current q i a = by (eqb w.transaction.endpoint 0)
      where
        by : (z : Bool) → Account (view js (with_slot Empty (pick z w (group_update w.transaction.endpoint success complete w)))) (pick z (pass_held Forgotten w l) (end_at w.transaction.filled w.transaction.endpoint success (grouped w.transaction.endpoint success complete w).effect l))
        by true = pass_account Forgotten w.transaction.endpoint a
        by false = end_current js success complete w l q a i
    at Suspended q i a = a
