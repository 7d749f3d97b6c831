-- What the steps of a packet leave as its rows left it, and the devices that they leave.
use mathlib.Core.Path.{◌≡◌, refl, sym, ap, subst, ◌∙◌}
use mathlib.Core.Bool.{Bool, true, false}
use mathlib.Core.List.{List}
use Prim.Native.Nat.{ℕ}
use lib.Dec.{eqb}
use Rattle.transaction.specs.Table.{pick}
use Rattle.transaction.specs.declared.Transaction.{Transaction}
use Rattle.details.specs.declared.Device.{Device}
use Rattle.endpoints.specs.declared.Endpoint.{Endpoint}
use Rattle.group.specs.declared.Effect.{Effect}
use Rattle.rules.specs.World.{World, ◌▷◌, with_slot, with_transaction, with_link, change, change_device}
use Rattle.rules.specs.Rows.{log, TransactionRow, naming, DeviceRow, EndpointRow}
use Rattle.rules.specs.Endpoints.{add_device, push_endpoint, typed}
use Rattle.rules.specs.Groups.{becomes, effect_step}
use Rattle.rules.specs.Transactions.{push_transaction}
use Rattle.rules.specs.declared.EventState.{EventState}
use Rattle.rules.specs.declared.EventState.TheVariants.{Idle}
use Rattle.rules.specs.declared.Slot.{Slot}
use Rattle.update.specs.Update.{when, act}
use Rattle.update.specs.Entry.{transaction_after}
use Rattle.update.specs.declared.Update.{Update}
use Rattle.update.proofs.After.{act-transaction}
use Rattle.plan.specs.Step.{opened, begun, ended}
use Rattle.plan.specs.Packet.{played}
use Rattle.plan.specs.Sound.{world1, world2, world3, world4}
use Rattle.plan.specs.declared.Begin.{Begin}
use Rattle.plan.specs.declared.End.{End}
use Rattle.plan.specs.declared.Plan.{Plan}
use Rattle.plan.proofs.Frame.{Keeps, when-keeps, act-rest, effect_base, act-log, effect-log, row-log, Rest, Base}

-- a part of the world that no part of a step changes
pub record Untouched {A : Type 0} (field : World → A) : Type 0 where
  pub row : (id : ℕ) → Keeps field (push_transaction id)
  pub device : (a : ℕ) → Keeps field (add_device a)
  pub endpoint : (d a : ℕ) → Keeps field (push_endpoint d a)
  pub types : (d : ℕ) (f : Device → Device) → Keeps field (change_device d f)
  pub transaction : (t : Transaction) → Keeps field (with_transaction t)
  pub change : (x : ℕ) (f : Endpoint → Endpoint) → Keeps field (change x f)
  pub act : (u : Update) (x : ℕ) → Keeps field (act u x)
  pub effect : (f : Effect) (x : ℕ) → Keeps field (effect_step f x)

module _ {A : Type 0} (field : World → A) (k : Untouched field) where
  pub opened-keeps : (id : ℕ) (s : Begin) → Keeps field (opened id s)
  unfolding opened
  opened-keeps id s w =
      when-keeps field s.types (change_device s.place (typed s.number s.kind)) (k.types s.place (typed s.number s.kind)) _
      ∙ (when-keeps field s.endpoint (push_endpoint s.place s.number) (k.endpoint s.place s.number) _
      ∙ (when-keeps field s.device (add_device s.owner) (k.device s.owner) _
      ∙ when-keeps field s.row (push_transaction id) (k.row id) w))

  pub begun-keeps : (id : ℕ) (s : Begin) → Keeps field (begun id s)
  unfolding begun
  begun-keeps id s w = k.act s.update s.transaction.endpoint _ ∙ (k.transaction s.transaction _ ∙ opened-keeps id s w)

  pub ended-keeps : (x : ℕ) (s : End) → Keeps field (ended x s)
  unfolding ended
  ended-keeps x s w = k.effect s.effect x _ ∙ (k.act s.update x _ ∙ k.change x (becomes s.entry) w)

  -- of the steps of a packet, but for the slot
  pub played-keeps : ((s : Slot) → Keeps field (with_slot s)) → (p : Plan) (packet : List ℕ) (time : ℕ) (w : World) → field (played p packet time w) ≡ field (world1 packet time w)
  unfolding played
  played-keeps slot p packet time w =
      slot p.slot _
      ∙ (when-keeps field p.closes (ended p.begin.transaction.endpoint p.close) (ended-keeps p.begin.transaction.endpoint p.close) (world4 p packet time w)
      ∙ (begun-keeps w.packets p.begin (world3 p packet time w)
      ∙ (when-keeps field p.ends (λ v. ended p.old p.end (with_transaction p.brought v)) (λ v. ended-keeps p.old p.end (with_transaction p.brought v) ∙ k.transaction p.brought v) (world2 p packet time w)
      ∙ when-keeps field p.resumes (begun w.packets p.resume) (begun-keeps w.packets p.resume) (world1 packet time w))))

abbrev event_state : World → EventState
event_state w = w.event_state

abbrev keepalive : World → Bool
keepalive w = w.keepalive

pub event_untouched : Untouched event_state
event_untouched =
    record { row = λ id v. refl; device = λ a v. refl; endpoint = λ d a v. refl; types = λ d f v. refl; transaction = λ t v. refl; change = λ x f v. refl; act = λ u x v. ap (λ (r : Rest). r.event_state) (act-rest u x v); effect = λ f x v. ap (λ (b : Base). b.event_state) (effect_base f x v) }

pub keepalive_untouched : Untouched keepalive
keepalive_untouched =
    record { row = λ id v. refl; device = λ a v. refl; endpoint = λ d a v. refl; types = λ d f v. refl; transaction = λ t v. refl; change = λ x f v. refl; act = λ u x v. ap (λ (r : Rest). r.keepalive) (act-rest u x v); effect = λ f x v. ap (λ (b : Base). b.keepalive) (effect_base f x v) }

-- the rows of packet bytes, packets and events
module _ (k : ℕ) (one : eqb 1 k ≡ false) (two : eqb 2 k ≡ false) (five : eqb 5 k ≡ false) (six : eqb 6 k ≡ false) (seven : eqb 7 k ≡ false) (eight : eqb 8 k ≡ false) (nine : eqb 9 k ≡ false) (ten : eqb 10 k ≡ false) (eleven : eqb 11 k ≡ false) where
  abbrev rows_in : World → List ℕ
  rows_in w = log k w.journal

  pub log_untouched : Untouched rows_in
  log_untouched =
      record { row = λ id v. row-log k (TransactionRow (naming id v.context.reason)) v.journal five; device = λ a v. row-log k (DeviceRow a) v.journal one; endpoint = λ d a v. row-log k (EndpointRow d _ _) v.journal two; types = λ d f v. refl; transaction = λ t v. refl; change = λ x f v. refl; act = λ u x v. act-log k six seven eight nine ten u x v; effect = λ f x v. effect-log k one ten eleven f x v }

  pub played-log : (p : Plan) (packet : List ℕ) (time : ℕ) (w : World) → log k (played p packet time w).journal ≡ log k (world1 packet time w).journal
  played-log p packet time w = played-keeps rows_in log_untouched (λ s v. refl) p packet time w

pub played-event : (p : Plan) (packet : List ℕ) (time : ℕ) (w : World) → (played p packet time w).event_state ≡ Idle
played-event p packet time w = played-keeps event_state event_untouched (λ s v. refl) p packet time w

pub played-keepalive : (p : Plan) (packet : List ℕ) (time : ℕ) (w : World) → (played p packet time w).keepalive ≡ w.keepalive
played-keepalive p packet time w = played-keeps keepalive keepalive_untouched (λ s v. refl) p packet time w

pub played-slot : (p : Plan) (packet : List ℕ) (time : ℕ) (w : World) → (played p packet time w).slot ≡ p.slot
unfolding played
played-slot p packet time w = refl

-- ---- the transaction: that of the step that begins, but for its T row

abbrev pub tied_to : Transaction → Bool → ℕ → Transaction
tied_to t linked link = record { style = t.style; id = t.id; last = t.last; endpoint = t.endpoint; kind = t.kind; linked = linked; link = link; ready = t.ready; setup = t.setup; filled = t.filled; payload = t.payload }

abbrev pub Tied : Transaction → Transaction → Type 0
Tied t a = a ≡ tied_to t a.linked a.link

tied-after : (t a : Transaction) (u : Update) (n : ℕ) → Tied t a → Tied t (transaction_after u n a)
tied-after t a u n h = by u.link
  where
    by : (b : Bool) → Tied t (when b (with_link n) a)
    by true = ap (with_link n) h
    by false = h

act-tied : (t : Transaction) (u : Update) (x : ℕ) (w : World) → Tied t w.transaction → Tied t (act u x w).transaction
act-tied t u x w h = subst (Tied t) (sym (act-transaction u x w)) (tied-after t w.transaction u (w.endpoints x).transactions h)

begun-tied : (id : ℕ) (s : Begin) (w : World) → Tied s.transaction (begun id s w).transaction
unfolding begun
begun-tied id s w = act-tied s.transaction s.update s.transaction.endpoint (with_transaction s.transaction (opened id s w)) refl

pub ended-tied : (t : Transaction) (x : ℕ) (s : End) (w : World) → Tied t w.transaction → Tied t (ended x s w).transaction
unfolding ended
ended-tied t x s w h =
    let v = act s.update x (change x (becomes s.entry) w) in
    subst (Tied t) (sym (ap (λ (b : Base). b.transaction) (effect_base s.effect x v))) (act-tied t s.update x (change x (becomes s.entry) w) h)

pub played-tied : (p : Plan) (packet : List ℕ) (time : ℕ) (w : World) → Tied p.begin.transaction (played p packet time w).transaction
unfolding played
played-tied p packet time w = by p.closes
  where
    by : (b : Bool) → Tied p.begin.transaction (when b (ended p.begin.transaction.endpoint p.close) (world4 p packet time w)).transaction
    by true = ended-tied p.begin.transaction p.begin.transaction.endpoint p.close (world4 p packet time w) (begun-tied w.packets p.begin (world3 p packet time w))
    by false = begun-tied w.packets p.begin (world3 p packet time w)
