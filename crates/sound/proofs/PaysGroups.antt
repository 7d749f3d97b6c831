-- What endpoints have in hand: no step of a group adds to it, and what a transaction's end adds the transaction brought.
use mathlib.Core.Path.{◌≡◌, refl, sym, ap, subst, ◌∙◌}
use mathlib.Core.Bool.{Bool, true, false, ◌&&◌, ◌||◌}
use Prim.Native.Nat.{ℕ, ◌+◌, ◌≤◌, ◌<◌, zero-le}
use native.Mathlib.Nat.{le_refl}
use native.Mathlib.Omega.{arith}
use borrow.Author.Tests.{eqb-true, eq-eqb}
use lib.Dec.{eqb}
use Rattle.transaction.specs.Table.{pick}
use Rattle.transaction.specs.Payload.{start_pid}
use Rattle.transaction.specs.declared.Transaction.{Transaction}
use Rattle.endpoints.specs.Table.{with_phase}
use Rattle.details.specs.declared.Detail.{Detail}
use Rattle.endpoints.specs.declared.Endpoint.{Endpoint}
use Rattle.endpoints.specs.declared.Phase.TheVariants.{Early, Ended}
use Rattle.group.specs.Step.{payload}
use Rattle.group.specs.Group.{group_status}
use Rattle.group.specs.declared.Effect.{Effect}
use Rattle.group.specs.declared.Effect.TheVariants.{NoEffect, NewDevice, Request, PendingData, IndexData}
use Rattle.group.specs.declared.Grouped.{Grouped}
use Rattle.group.specs.declared.GroupStatus.{GroupStatus}
use Rattle.group.proofs.Laws.{leaves, group-keeps}
use Rattle.rules.specs.World.{World, phase, change, with_slot, more_transactions, more_groups, with_last, cleared, with_pending, with_total}
use Rattle.rules.specs.Endpoints.{detail_of}
use Rattle.rules.specs.Groups.{link, activated, group_step, effect_step, grouped, becomes, group_update, group_early_start, group_early_append}
use Rattle.rules.specs.Transactions.{transaction_end_at, transaction_end}
use Rattle.rules.specs.declared.Slot.{Slot}
use Rattle.rules.specs.declared.Slot.TheVariants.{Empty, Current, Suspended}
use Rattle.update.specs.Update.{when, become, act, decide_update, decide_early_start, decide_early_append}
use Rattle.update.specs.declared.Update.{Update}
use Rattle.update.specs.declared.Then.{Then}
use Rattle.update.specs.declared.Then.TheVariants.{Keep, Begin, BeginFailed, Last, BeginEarly}
use Rattle.update.proofs.Decided.{update-is, early-start-is, early-append-is}
use Rattle.plan.proofs.Frame.{Parts, by_parts}
use Rattle.sound.specs.Fit.{in_hand, brings, Paid}

-- ---- what Paid goes by

-- of each endpoint: what it has in hand, and what the transaction may bring to it
pub record Purse : Type 0 where
  pub count : ℕ
  pub bytes : ℕ
  pub hand : ℕ → ℕ
  pub brought : ℕ → ℕ

abbrev pub purse : World → Purse
purse w = record { count = w.count; bytes = w.bytes; hand = λ i. in_hand (w.endpoints i); brought = λ i. brings w.slot w.transaction i }

-- Paid w is PaidBy (purse w)
abbrev pub PaidBy : Purse → Type 0
PaidBy p = (i : ℕ) → i < p.count → p.hand i + p.brought i ≤ p.bytes

-- and k bytes are to spare
abbrev pub Spare : ℕ → Purse → Type 0
Spare k p = (i : ℕ) → i < p.count → p.hand i + p.brought i + k ≤ p.bytes

-- the same endpoints and bytes, and nowhere more
pub record Less (p q : Purse) : Type 0 where
  pub count : q.count ≡ p.count
  pub bytes : q.bytes ≡ p.bytes
  pub hand : (i : ℕ) → q.hand i ≤ p.hand i
  pub brought : (i : ℕ) → q.brought i ≤ p.brought i

pub level : {p : Purse} → Less p p
level {p} = record { count = refl; bytes = refl; hand = λ i. le_refl (p.hand i); brought = λ i. le_refl (p.brought i) }

pub then : {p q r : Purse} → Less p q → Less q r → Less p r
then a b =
    record { count = b.count ∙ a.count; bytes = b.bytes ∙ a.bytes; hand = λ i. omega (arith, a.hand i, b.hand i); brought = λ i. omega (arith, a.brought i, b.brought i) }

pub spared : (k : ℕ) {p q : Purse} → Less p q → Spare k p → Spare k q
spared k l s i h = omega (arith, l.count, l.bytes, l.hand i, l.brought i, s i (omega (arith, l.count)))

pub paid_less : {p q : Purse} → Less p q → PaidBy p → PaidBy q
paid_less l s i h = omega (arith, spared 0 l (λ j g. (omega (arith, s j g))) i h)

-- a step that adds nothing
abbrev pub Spares : (World → World) → Type 0
Spares f = (w : World) → Less (purse w) (purse (f w))

-- ---- one endpoint changed

pub changes : (x : ℕ) (f : Endpoint → Endpoint) → ((a : Endpoint) → in_hand (f a) ≤ in_hand a) → Spares (change x f)
changes x f h w = record { count = refl; bytes = refl; hand = λ i. by (eqb i x) (w.endpoints i); brought = λ i. le_refl _ }
  where
    by : (b : Bool) (a : Endpoint) → in_hand (pick b (f a) a) ≤ in_hand a
    by true a = h a
    by false a = le_refl (in_hand a)

pub link_spares : (x : ℕ) → Spares (link x)
link_spares x w = changes x more_transactions (λ a. le_refl (in_hand a)) w

-- ---- an update, part by part

parts : (x : ℕ) → Parts Spares x
parts x =
    record {
      over = λ w. changes x (with_phase Ended) (λ a. le_refl (in_hand a)) w;
      cut = λ w. changes x (with_phase Ended) (λ a. le_refl (in_hand a)) w;
      link = link_spares x;
      start = λ w. changes x more_groups (λ a. le_refl (in_hand a)) w;
      group = becoming;
      end = λ w. then (changes x cleared clear w) (changes x (with_phase Ended) (λ a. le_refl (in_hand a)) (change x cleared w));
      item = λ w. level;
    }
  where
    clear : (a : Endpoint) → in_hand (cleared a) ≤ in_hand a
    clear a = omega arith

    becoming : (g : Then) → Spares (become g x)
    becoming Keep w = level
    becoming Begin w = changes x (activated true (start_pid w.transaction.style)) clear w
    becoming BeginFailed w = changes x (activated false (start_pid w.transaction.style)) clear w
    becoming Last w = changes x (with_last (start_pid w.transaction.style)) (λ a. le_refl (in_hand a)) w
    becoming BeginEarly w = changes x (with_phase Early) (λ a. le_refl (in_hand a)) w

act_spares : (u : Update) (x : ℕ) → Spares (act u x)
act_spares u x = by_parts Spares may (λ f h p q w. then (p w) (q (f w))) x (parts x) u
  where
    may : (b : Bool) (f : World → World) → Spares f → Spares (when b f)
    may true f s w = s w
    may false f s w = level

group_spares : (s : GroupStatus) (x : ℕ) → Spares (group_step s x)
group_spares s x w = subst (λ (v : World). Less (purse w) (purse v)) (sym (update-is s x w)) (act_spares (decide_update s (phase x w) w.transaction.linked (eqb w.last_item x)) x w)

pub start_spares : (pid x : ℕ) → Spares (group_early_start pid x)
start_spares pid x w = subst (λ (v : World). Less (purse w) (purse v)) (sym (early-start-is pid x w)) (act_spares (decide_early_start pid (phase x w) w.transaction.linked) x w)

pub append_spares : Spares group_early_append
append_spares w = subst (λ (v : World). Less (purse w) (purse v)) (sym (early-append-is w)) (act_spares (decide_early_append w.transaction (w.endpoints w.transaction.endpoint)) w.transaction.endpoint w)

-- ---- a transaction's end

-- the payload that is taken is the transaction's, or the one that waits
taken_le : (f w : Bool) (n m i : ℕ) → (pick f (payload true n false 0) (pick w (payload true m true i) (payload false 0 false 0))).len ≤ pick w m 0 + pick f n 0
taken_le true w n m i = omega arith
taken_le false true n m i = omega arith
taken_le false false n m i = omega arith

abbrev own : Transaction → ℕ
own t = pick t.filled t.payload 0

-- what group_status leaves in hand, and its effect leaves waiting, was in hand or is the transaction's
status-hand : (e : Endpoint) (t : Transaction) (d : Detail) (success complete : Bool)
    → (let g = group_status e t d success complete in in_hand g.endpoint + leaves g.effect ≤ in_hand e + own t)
status-hand e t d success complete =
    let g = group_status e t d success complete in
    let k = group-keeps e t d success complete in
    let none : pick g.endpoint.pending g.endpoint.pendinglength 0 ≡ 0 = rw k.pending in
    omega (arith, none, k.payload, taken_le t.filled e.pending t.payload e.pendinglength e.pendinglink)

-- n more in hand at x
abbrev more : ℕ → ℕ → Purse → Purse
more x n p = record { count = p.count; bytes = p.bytes; hand = λ i. p.hand i + pick (eqb i x) n 0; brought = p.brought }

adds : (x n : ℕ) (f : Endpoint → Endpoint) → ((a : Endpoint) → in_hand (f a) ≤ in_hand a + n) → (w : World) → Less (more x n (purse w)) (purse (change x f w))
adds x n f h w = record { count = refl; bytes = refl; hand = λ i. by (eqb i x) (w.endpoints i); brought = λ i. le_refl _ }
  where
    by : (b : Bool) (a : Endpoint) → in_hand (pick b (f a) a) ≤ in_hand a + pick b n 0
    by true a = h a
    by false a = omega arith

nothing-more : (x : ℕ) (w : World) → Less (more x 0 (purse w)) (purse w)
nothing-more x w = record { count = refl; bytes = refl; hand = λ i. omega arith; brought = λ i. le_refl _ }

effect-adds : (f : Effect) (x : ℕ) (w : World) → Less (more x (leaves f) (purse w)) (purse (effect_step f x w))
effect-adds NoEffect x w = nothing-more x w
effect-adds (NewDevice address) x w = nothing-more x w
effect-adds (Request n) x w = nothing-more x w
effect-adds (PendingData n) x w = adds x n (with_pending n w.transaction.link) (λ a. omega arith) w
effect-adds (IndexData n waited i) x w = adds x 0 (with_total ((w.endpoints x).total + n)) (λ a. omega arith) w

update-adds : (x : ℕ) (success complete : Bool) (w : World) → Less (more x (own w.transaction) (purse w)) (purse (group_update x success complete w))
unfolding group_update
update-adds x success complete w =
    record { count = e.count ∙ s.count; bytes = e.bytes ∙ s.bytes; hand = λ i. at i (eqb i x) refl (e.hand i) (s.hand i); brought = λ i. omega (arith, e.brought i, s.brought i) }
  where
    r : Grouped
    r = grouped x success complete w

    u : World
    u = change x (becomes r.endpoint) w

    v : World
    v = group_step r.status x u

    s : Less (purse u) (purse v)
    s = group_spares r.status x u

    e : Less (more x (leaves r.effect) (purse v)) (purse (effect_step r.effect x v))
    e = effect-adds r.effect x v

    at : (i : ℕ) (b : Bool) → eqb i x ≡ b → {m n : ℕ} → m ≤ n + pick b (leaves r.effect) 0 → n ≤ in_hand (pick b r.endpoint (w.endpoints i)) → m ≤ in_hand (w.endpoints i) + pick b (own w.transaction) 0
    at i true h {m} {n} k l =
        let q : in_hand (w.endpoints i) ≡ in_hand (w.endpoints x) = ap (λ (j : ℕ). in_hand (w.endpoints j)) (eqb-true i x h) in
        omega (arith, k, l, q, status-hand (w.endpoints x) w.transaction (detail_of x w) success complete)
    at i false h k l = omega (arith, k, l)

-- on its endpoint a current transaction brings all its payload
own-brought : (t : Transaction) (i : ℕ) → pick (eqb i t.endpoint) (own t) 0 ≤ brings Current t i
own-brought t i = by t.filled (eqb i t.endpoint) (eqb t.endpoint 0) (eqb t.endpoint i) t.payload (λ h. eq-eqb t.endpoint i (sym (eqb-true i t.endpoint h)))
  where
    by : (f b z y : Bool) (n : ℕ) → (b ≡ true → y ≡ true) → pick b (pick f n 0) 0 ≤ pick (f && (z || y)) n 0
    by true true true y n g = le_refl n
    by true true false y n g = rw (g refl) (le_refl n)
    by true false z y n g = zero-le
    by false true z y n g = zero-le
    by false false z y n g = zero-le

end_at : (s : Slot) (success complete : Bool) (w : World) → w.slot ≡ s → Paid w → Paid (transaction_end_at s success complete w)
end_at Empty success complete w q p = p
end_at Current success complete w q p = by (eqb x 0)
  where
    x : ℕ
    x = w.transaction.endpoint

    paid : (i : ℕ) → i < w.count → in_hand (w.endpoints i) + brings Current w.transaction i ≤ w.bytes
    paid = subst (λ (s : Slot). (i : ℕ) → i < w.count → in_hand (w.endpoints i) + brings s w.transaction i ≤ w.bytes) q p

    by : (z : Bool) → Paid (with_slot Empty (pick z w (group_update x success complete w)))
    by true i h = omega (arith, paid i h)
    by false i h =
        let u = update-adds x success complete w in
        omega (arith, u.count, u.bytes, u.hand i, own-brought w.transaction i, paid i (omega (arith, u.count)))
end_at Suspended success complete w q p = p

pub end_pays : (success complete : Bool) (w : World) → Paid w → Paid (transaction_end success complete w)
end_pays success complete w p = end_at w.slot success complete w refl p
