-- What a packet reads of the shelf: where a request completes, the bytes of its payload that count and the entries that its device keeps. So from two shelves that hold
-- the same there, a packet leaves worlds that differ in their shelves alone.
use Prim.Native.Nat.{ℕ}
use mathlib.Core.Path.{◌≡◌, refl, sym, ap, subst, ◌∙◌}
use mathlib.Core.Bool.{Bool, true, false}
use mathlib.Core.List.{List}
use Rattle.group.specs.declared.Effect.{Effect}
use Rattle.group.specs.declared.Effect.TheVariants.{NoEffect, NewDevice, Request, PendingData, IndexData}
use Rattle.descriptors.specs.Complete.{shelf_by}
use Rattle.rules.specs.Rows.{RequestRow, asking}
use Rattle.rules.specs.World.{World, push, change, change_device, with_transaction, with_shelf}
use Rattle.rules.specs.Endpoints.{add_device, push_endpoint, typed}
use Rattle.rules.specs.Groups.{asked_of, decode_request, effect_step, becomes}
use Rattle.rules.specs.Transactions.{push_transaction}
use Rattle.update.specs.Update.{when, become, act}
use Rattle.update.specs.declared.Then.{Then}
use Rattle.update.specs.declared.Then.TheVariants.{Keep, Begin, BeginFailed, Last, BeginEarly}
use Rattle.update.specs.declared.Update.{Update}
use Rattle.plan.specs.Step.{opened, begun, ended}
use Rattle.plan.specs.declared.Begin.{Begin as Beginning}
use Rattle.plan.specs.declared.End.{End}
use Rattle.plan.proofs.Devices.{updated}
use Rattle.plan.proofs.Frame.{Past, act_past}
use Rattle.demands.proofs.Alike.{Asks, note_same, row_same}

-- v is w with another shelf
pub record Twin (w v : World) : Type 0 where
  pub shelf : List ℕ
  pub same : v ≡ with_shelf shelf w

module _ (g : List ℕ) where
  -- ---- steps that do not look at the shelf

  become_past : (x : ℕ) (t : Then) → Past (with_shelf g) (become t x)
  become_past x Keep w = refl
  become_past x Begin w = refl
  become_past x BeginFailed w = refl
  become_past x Last w = refl
  become_past x BeginEarly w = refl

  pub act-shelf : (u : Update) (x : ℕ) → Past (with_shelf g) (act u x)
  act-shelf u x = act_past (with_shelf g) x (record { over = λ w. refl; cut = λ w. refl; link = λ w. refl; start = λ w. refl; group = become_past x; end = λ w. refl; item = λ w. refl }) u

  opened-shelf : (id : ℕ) (s : Beginning) → Past (with_shelf g) (opened id s)
  unfolding opened
  opened-shelf id s w = by s.row s.device s.endpoint s.types
    where
      by : (a b c d : Bool)
          → when d (change_device s.place (typed s.number s.kind)) (when c (push_endpoint s.place s.number) (when b (add_device s.owner) (when a (push_transaction id) (with_shelf g w))))
          ≡ with_shelf g (when d (change_device s.place (typed s.number s.kind)) (when c (push_endpoint s.place s.number) (when b (add_device s.owner) (when a (push_transaction id) w))))
      by true true true true = refl
      by true true true false = refl
      by true true false true = refl
      by true true false false = refl
      by true false true true = refl
      by true false true false = refl
      by true false false true = refl
      by true false false false = refl
      by false true true true = refl
      by false true true false = refl
      by false true false true = refl
      by false true false false = refl
      by false false true true = refl
      by false false true false = refl
      by false false false true = refl
      by false false false false = refl

  pub begun-shelf : (id : ℕ) (s : Beginning) → Past (with_shelf g) (begun id s)
  unfolding begun
  begun-shelf id s w =
      ap (λ (v : World). act s.update s.transaction.endpoint (with_transaction s.transaction v)) (opened-shelf id s w)
      ∙ act-shelf s.update s.transaction.endpoint (with_transaction s.transaction (opened id s w))

  updated-shelf : (x : ℕ) (s : End) → Past (with_shelf g) (updated x s)
  updated-shelf x s w = act-shelf s.update x (change x (becomes s.entry) w)

  pub quiet-shelf : (x : ℕ) (s : End) → s.effect ≡ NoEffect → Past (with_shelf g) (ended x s)
  unfolding ended
  quiet-shelf x s q w =
      ap (λ (f : Effect). effect_step f x (updated x s (with_shelf g w))) q
      ∙ updated-shelf x s w
      ∙ ap (λ (f : Effect). with_shelf g (effect_step f x (updated x s w))) (sym q)

  -- ---- the effect of one

  -- a request that completes stores on each shelf what it reads there
  pub request-shelf : (n x : ℕ) (w : World) → Asks (asked_of n x w) w.shelf g → decode_request n x (with_shelf g w) ≡ with_shelf (shelf_by (asked_of n x w) g) (decode_request n x w)
  request-shelf n x w h =
      let a = asked_of n x w in
      let note = note_same a w.shelf g h in
      let row = row_same a w.shelf g h in
      λ i. with_shelf (shelf_by a g) (change_device (w.endpoints x).device (λ d. sym (row d) i) (push (RequestRow (asking x (w.endpoints x).setup n (sym note i))) w))

  effect_twin : (f : Effect) (x : ℕ) (w : World) → ((n : ℕ) → f ≡ Request n → Asks (asked_of n x w) w.shelf g) → Twin (effect_step f x w) (effect_step f x (with_shelf g w))
  effect_twin NoEffect x w h = record { shelf = g; same = refl }
  effect_twin (NewDevice address) x w h = record { shelf = g; same = refl }
  effect_twin (Request n) x w h = record { shelf = shelf_by (asked_of n x w) g; same = request-shelf n x w (h n refl) }
  effect_twin (PendingData n) x w h = record { shelf = g; same = refl }
  effect_twin (IndexData n waited i) x w h = record { shelf = g; same = refl }

  pub ended_twin : (x : ℕ) (s : End) (w : World) → ((n : ℕ) → s.effect ≡ Request n → Asks (asked_of n x (updated x s w)) w.shelf g) → (updated x s w).shelf ≡ w.shelf
      → Twin (ended x s w) (ended x s (with_shelf g w))
  unfolding ended
  ended_twin x s w h k =
      let t = effect_twin s.effect x (updated x s w) (λ n q. subst (λ (l : List ℕ). Asks (asked_of n x (updated x s w)) l g) (sym k) (h n q)) in
      record { shelf = t.shelf; same = ap (effect_step s.effect x) (updated-shelf x s w) ∙ t.same }
