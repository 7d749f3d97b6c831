-- group_update and group_early_append keep what stands. A payload that comes to wait does so under the transaction's T row, which is there by then.
use Prim.Native.Nat.{ℕ, ◌+◌, ◌<◌}
use native.Mathlib.Nat.{le_refl}
use native.Mathlib.Omega.{arith}
use mathlib.Core.Bool.{Bool, true, false, ◌||◌, true≢false}
use mathlib.Core.Path.{◌≡◌, refl, sym, ap, ◌∙◌}
use borrow.Author.Tests.{eqb-false, eq-eqb, ne_eqb}
use lib.Dec.{eqb}
use Rattle.usb.specs.Pid.{OUT}
use Rattle.transaction.specs.Payload.{start_pid}
use Rattle.transaction.specs.Table.{pick}
use Rattle.transaction.specs.declared.Transaction.{Transaction}
use Rattle.details.specs.Details.{fresh}
use Rattle.details.specs.declared.Device.{Device}
use Rattle.endpoints.specs.declared.Endpoint.{Endpoint}
use Rattle.endpoints.specs.declared.Phase.{Phase}
use Rattle.endpoints.specs.declared.Phase.TheVariants.{None, Early, Active, Ended}
use Rattle.group.proofs.Laws.{group-keeps}
use Rattle.group.specs.declared.Effect.{Effect}
use Rattle.group.specs.declared.Effect.TheVariants.{NoEffect, NewDevice, Request, PendingData, IndexData}
use Rattle.group.specs.declared.Grouped.{Grouped}
use Rattle.group.specs.declared.GroupStatus.{GroupStatus}
use Rattle.group.specs.declared.GroupStatus.TheVariants.{Single, New, Continue, Retry, Done, Invalid}
use Rattle.rules.proofs.Keeps.{early}
use Rattle.descriptors.specs.Complete.{note_by, row_by}
use Rattle.descriptors.specs.Kind.{kind_of}
use Rattle.descriptors.proofs.RowLaws.{row-address}
use Rattle.rules.specs.Rows.{RequestRow, asking}
use Rattle.rules.specs.World.{World, push, phase, change, change_device, with_last, with_pending, with_total}
use Rattle.rules.specs.Endpoints.{add_device, detail_of}
use Rattle.rules.specs.Groups.{link, link_once, end_active, add_item, group_start_at, group_start, group_append_at, group_append, group_end_at, group_end, group_step, asked_of, effect_step, grouped, becomes, group_update, undecided, group_early_append}
use Rattle.rules.specs.Linked.{excused, linked_at}
use Rattle.sound.proofs.FitsTame.{StandsIn, spread, one-changed, alike, longer, deviced}
use Rattle.sound.proofs.FitsGroups.{once_stands, group_step_stands}
use Rattle.sound.proofs.FitsWaits.{pends, waits-well, waits-out}

-- ---- group_update's step leaves the transaction with its T row, unless it began early without one

once-linked : (x : ℕ) (w : World) → (link_once x w).transaction.linked ≡ true
once-linked x w = by w.transaction.linked refl
  where
    by : (q : Bool) → w.transaction.linked ≡ q → (pick q w (link x w)).transaction.linked ≡ true
    by true q = q
    by false q = refl

module _ (x : ℕ) where
  start_at-linked : (p : Phase) (done : Bool) (w : World) → (early p ≡ true → w.transaction.linked ≡ true) → (group_start_at p done x w).transaction.linked ≡ true
  start_at-linked None done w h = once-linked x (end_active (phase x w) x w)
  start_at-linked Early done w h = h refl
  start_at-linked Active done w h = once-linked x (end_active (phase x w) x w)
  start_at-linked Ended done w h = once-linked x (end_active (phase x w) x w)

  start-linked : (done : Bool) (w : World) → (early (phase x w) ≡ true → w.transaction.linked ≡ true) → (group_start done x w).transaction.linked ≡ true
  start-linked done w h = start_at-linked (phase x w) done w h

  last-transaction : (done : Bool) (w : World) → (pick done (change x (with_last (start_pid w.transaction.style)) w) w).transaction ≡ w.transaction
  last-transaction true w = refl
  last-transaction false w = refl

  append_at-linked : (p : Phase) (done : Bool) (w : World) → (early (phase x w) ≡ true → w.transaction.linked ≡ true) → (group_append_at p done x w).transaction.linked ≡ true
  append_at-linked None done w h = start-linked done w h
  append_at-linked Early done w h = start-linked done w h
  append_at-linked Active done w h = ap (λ (t : Transaction). t.linked) (last-transaction done (link_once x w)) ∙ once-linked x w
  append_at-linked Ended done w h = start-linked done w h

  append-linked : (done : Bool) (w : World) → (early (phase x w) ≡ true → w.transaction.linked ≡ true) → (group_append done x w).transaction.linked ≡ true
  append-linked done w h = append_at-linked (phase x w) done w h

  may_add : (q : Bool) (w : World) → (pick q w (add_item x w)).transaction ≡ w.transaction
  may_add true w = refl
  may_add false w = refl

  end_at-transaction : (p : Phase) (w : World) → (group_end_at p x w).transaction ≡ w.transaction
  end_at-transaction None w = refl
  end_at-transaction Early w = refl
  end_at-transaction Active w = may_add (eqb w.last_item x) _
  end_at-transaction Ended w = refl

  ended : (w : World) → w.transaction.linked ≡ true → (group_end x w).transaction.linked ≡ true
  ended w h = ap (λ (t : Transaction). t.linked) (end_at-transaction (phase x w) _) ∙ h

  step-linked : (g : GroupStatus) (w : World) → (early (phase x w) ≡ true → w.transaction.linked ≡ true) → (group_step g x w).transaction.linked ≡ true
  step-linked Single w h = ended (group_start true x w) (start-linked true w h)
  step-linked New w h = start-linked true w h
  step-linked Continue w h = append-linked true w h
  step-linked Retry w h = append-linked false w h
  step-linked Done w h = ended (group_append true x w) (append-linked true w h)
  step-linked Invalid w h = ended (group_start false x w) (start-linked false w h)

-- ---- its effect

first-device : (b : Bool) (a : ℕ) (d : Device) → b ≡ false → (pick b (fresh a) d).address ≡ d.address
first-device b a d h = rw h

pub device_stands : (n : ℕ) (b : Bool) (y a : ℕ) (w : World) → StandsIn n b y w → StandsIn n b y (add_device a w)
device_stands n b y a w s =
    deviced (first-device (eqb 0 w.device_count) a (w.devices 0) (ne_eqb 0 w.device_count (λ z. omega (arith, s.device)))) (omega arith) (longer (omega arith) s)

-- a device that keeps its address

kept-address : (q : Bool) (d e : Device) → e.address ≡ d.address → (pick q e d).address ≡ d.address
kept-address true d e h = h
kept-address false d e h = refl

pub changed-device : (n : ℕ) (b : Bool) (y d : ℕ) (f : Device → Device) (w : World) → ((e : Device) → (f e).address ≡ e.address) → StandsIn n b y w → StandsIn n b y (change_device d f w)
changed-device n b y d f w h s = deviced (kept-address (eqb 0 d) (w.devices 0) (f (w.devices 0)) (h (w.devices 0))) (le_refl _) s

-- where it may have a payload wait, the transaction has its T row or a reason to lack it
abbrev pub Prompt : Bool → World → Type 0
Prompt success w = success ≡ true → start_pid w.transaction.style ≡ OUT → linked_at w.transaction w.endpoints ≡ true

module _ (n y : ℕ) (real : ¬ (y ≡ 0)) where
  linked-below : (w : World) → StandsIn n true y w → w.transaction.linked ≡ true → w.transaction.link < (w.endpoints y).transactions
  linked-below w s h = let u = ((s.held refl).link h).1 in rw s.target at u

  effect_stands : (g : Effect) (w : World) → (pends g ≡ true → w.transaction.linked ≡ true) → StandsIn n true y w → StandsIn n true y (effect_step g y w)
  effect_stands NoEffect w h s = s
  effect_stands (NewDevice a) w h s = device_stands n true y a w s
  effect_stands (Request m) w h s =
      changed-device n true y (w.endpoints y).device (row_by (asked_of m y w) w.shelf) (push (RequestRow (asking y (w.endpoints y).setup m (note_by (asked_of m y w) w.shelf))) w) (λ d. row-address (kind_of (w.endpoints y).setup) (asked_of m y w) w.shelf d) (longer (omega arith) s)
  effect_stands (PendingData m) w h s =
      spread (one-changed y (with_pending m w.transaction.link) w.endpoints (le_refl _) (alike (w.endpoints y) _ refl refl refl refl refl (λ e q. linked-below w s (h refl)))) s
  effect_stands (IndexData m v i) w h s =
      longer (omega arith) (spread (one-changed y (with_total ((w.endpoints y).total + m)) w.endpoints (le_refl _) (alike (w.endpoints y) _ refl refl refl refl refl (λ e. e.pendinglink))) s)

  -- ---- group_update

  early-linked : (z l : Bool) (p : Phase) (first : ℕ) → z ≡ false → (z || (l || excused p first)) ≡ true → early p ≡ true → l ≡ true
  early-linked true l p first h g e = absurd (true≢false h)
  early-linked false true p first h g e = refl
  early-linked false false None first h g e = absurd (true≢false (sym e))
  early-linked false false Early first h g e = g
  early-linked false false Active first h g e = absurd (true≢false (sym e))
  early-linked false false Ended first h g e = absurd (true≢false (sym e))

  become : (q : Bool) (a c : Endpoint) → q ≡ true → (pick q a c).phase ≡ a.phase
  become q a c h = rw h

  pub update_stands : (s k : Bool) (w : World) → Prompt s w → StandsIn n true y w → StandsIn n true y (group_update y s k w)
  unfolding group_update
  update_stands s k w prompt l = effect_stands r.effect v linked (group_step_stands n y real r.status u changed)
    where
      r : Grouped
      r = grouped y s k w

      u : World
      u = change y (becomes r.endpoint) w

      v : World
      v = group_step r.status y u

      changed : StandsIn n true y u
      changed =
          let h = group-keeps (w.endpoints y) w.transaction (detail_of y w) s k in
          spread (one-changed y (becomes r.endpoint) w.endpoints (le_refl _) (alike (w.endpoints y) r.endpoint h.device h.address h.phase h.transactions h.groups (λ e q. absurd (true≢false (sym q ∙ h.pending))))) l

      linked : pends r.effect ≡ true → v.transaction.linked ≡ true
      linked h =
          let g = prompt (waits-well (w.endpoints y) w.transaction (detail_of y w) k s h) (waits-out (w.endpoints y) w.transaction (detail_of y w) k s h) in
          let p = become (eqb y y) r.endpoint (w.endpoints y) (eq-eqb y y refl) ∙ (group-keeps (w.endpoints y) w.transaction (detail_of y w) s k).phase in
          step-linked y r.status u (λ e. early-linked (eqb y 0) w.transaction.linked (phase y w) (w.endpoints y).first (ne_eqb y 0 real) (rw l.target at g) (sym (ap early p) ∙ e))

-- ---- group_early_append

pub append_stands : (n : ℕ) (b : Bool) (w : World) → StandsIn n b w.transaction.endpoint w → StandsIn n b w.transaction.endpoint (group_early_append w)
unfolding group_early_append
append_stands n b w s = by (eqb w.transaction.endpoint 0) (undecided (w.endpoints w.transaction.endpoint)) refl
  where
    x : ℕ
    x = w.transaction.endpoint

    by : (z u : Bool) → eqb x 0 ≡ z → StandsIn n b x (pick (z || u) w (link_once x w))
    by true u h = s
    by false true h = s
    by false false h = once_stands n b x w (eqb-false x 0 h) s
