-- What group_status makes of an endpoint's control payload: it grows by what an IN brought to a request that awaits data; what a request is asked is what it has; and
-- a payload that waits came with an OUT.
use Prim.Native.Nat.{ℕ, ◌+◌, ◌%◌, ◌^◌, ◌≤◌}
use native.Mathlib.Nat.{le_refl}
use native.Mathlib.Omega.{arith}
use mathlib.Core.Path.{◌≡◌, refl, sym, ap, subst, ◌∙◌}
use mathlib.Core.Bool.{Bool, true, false, ◌&&◌}
use mathlib.Core.List.{List, [], ◌∷◌}
use mathlib.Core.Logic.{◌⊎◌, inl, inr}
use borrow.Author.Tests.{eqb-true, eq-eqb}
use lib.Dec.{eqb}
use Rattle.usb.specs.Pid.{SETUP, IN, OUT}
use Rattle.usb.specs.Types.{Control, Start, Complete}
use Rattle.transaction.specs.Table.{pick, Row, fits, look}
use Rattle.transaction.specs.declared.Transaction.{Transaction}
use Rattle.details.specs.declared.Detail.{Detail}
use Rattle.endpoints.specs.declared.Endpoint.{Endpoint}
use Rattle.group.specs.Control.{with_payload, counted_of, is_set_address, outcome_of, stage_of, at_stage, control_group, setup_group}
use Rattle.group.specs.Data.{begin_group, repeat_group, other_rows, other_group}
use Rattle.group.specs.Group.{group_rows, group_at, group_status}
use Rattle.group.specs.Setup.{direction, with_data}
use Rattle.group.specs.Step.{grouped, waits_of, data_effect, effect_of, is_active, step_of, taken}
use Rattle.group.specs.declared.Grouped.{Grouped}
use Rattle.group.specs.declared.GroupStatus.TheVariants.{New, Continue, Retry, Invalid}
use Rattle.group.specs.declared.Effect.{Effect}
use Rattle.group.specs.declared.Effect.TheVariants.{NoEffect, NewDevice, Request, PendingData, IndexData}
use Rattle.group.specs.declared.control.Stage.{Stage}
use Rattle.group.specs.declared.control.Stage.TheVariants.{Data, Status as Closing, Ping, Wrong as Bad}
use Rattle.group.specs.declared.step.Step.{Step}
use Rattle.descriptors.specs.Kind.{kind_of}
use Rattle.descriptors.specs.Laid.{is_laid}
use Rattle.plan.specs.Devices.{asks, length_of}
use Rattle.record.specs.Bools.{both}
use Rattle.unread.proofs.Stages.{never, is_data, Tokens, data_tokens, read-direction, awaits}

-- whether a payload waits behind an effect
abbrev pub leaves : Effect → Bool
leaves NoEffect = false
leaves (NewDevice a) = false
leaves (Request n) = false
leaves (PendingData n) = true
leaves (IndexData n w i) = false

module _ (e : Endpoint) (s : Step) where
  -- an IN that went well, on an endpoint that awaits one
  pub record Grew : Type 0 where
    pub success : s.success ≡ true
    pub next : s.next ≡ IN
    pub awaited : awaits e ≡ true

  -- the setup data are the old ones, and where they are a read the payload is the old one, or grew
  pub record Steady (g : Grouped) : Type 0 where
    pub setup : g.endpoint.setup ≡ e.setup
    pub payload : is_laid (kind_of e.setup) ≡ true → (g.endpoint.payload ≤ e.payload) ⊎ Grew

  pub record Fair (g : Grouped) : Type 0 where
    -- or a new group begins, which clears the payload
    pub kept : (g.status ≡ New) ⊎ Steady g
    pub asked : asks g.effect ≡ true → (length_of g.effect ≡ e.payload) × (g.endpoint.setup ≡ e.setup)
    -- a payload that waits came with an OUT, and on an endpoint that is known as control and has a transfer under way in a request to the device
    pub waits : leaves g.effect ≡ true → (s.next ≡ OUT) × ((g.endpoint.setup ≡ e.setup) × (s.kind ≡ Control → (is_active e.phase && e.done) ≡ true → direction e.setup ≡ 0))

  either_fair : (b : Bool) (x y : Grouped) → Fair x → Fair y → Fair (pick b x y)
  either_fair true x y p q = p
  either_fair false x y p q = q

  abbrev All : List (Row Grouped) → Type 0
  All [] = Unit {0}
  All (r ∷ rs) = Fair r.answer × All rs

  look_fair : (rs : List (Row Grouped)) (none : Grouped) (xs : List ℕ) → All rs → Fair none → Fair (look rs none xs)
  look_fair [] none xs a k = k
  look_fair (r ∷ rs) none xs a k = either_fair (fits r.tests xs && r.guard) r.answer (look rs none xs) a.0 (look_fair rs none xs a.1 k)

  -- ---- a payload's effect

  pub data-waits : (c : Bool) → leaves (data_effect s c) ≡ true → s.next ≡ OUT
  data-waits c = by s.known (eqb s.sc Start) (eqb s.next OUT) c refl
    where
      by : (a b d c : Bool) → eqb s.next OUT ≡ d → leaves (pick a (pick (b && d) (PendingData s.len) (pick c (IndexData s.len s.waited s.id) NoEffect)) NoEffect) ≡ true → s.next ≡ OUT
      by true true true c q h = eqb-true s.next OUT q
      by true true false true q h = never h
      by true true false false q h = never h
      by true false d true q h = never h
      by true false d false q h = never h
      by false b d c q h = never h

  data-asks : (c : Bool) → asks (data_effect s c) ≡ false
  data-asks c = by s.known (waits_of s) c
    where
      by : (a b c : Bool) → asks (pick a (pick b (PendingData s.len) (pick c (IndexData s.len s.waited s.id) NoEffect)) NoEffect) ≡ false
      by true true c = refl
      by true false true = refl
      by true false false = refl
      by false b c = refl

  effect-waits : (c : Bool) → leaves (effect_of s c) ≡ true → s.next ≡ OUT
  effect-waits c = by s.success
    where
      by : (b : Bool) → leaves (pick b (data_effect s c) NoEffect) ≡ true → s.next ≡ OUT
      by true = data-waits c
      by false = λ h. never h

  effect-asks : (c : Bool) → asks (effect_of s c) ≡ false
  effect-asks c = by s.success
    where
      by : (b : Bool) → asks (pick b (data_effect s c) NoEffect) ≡ false
      by true = data-asks c
      by false = refl

  -- ---- an endpoint as it was

  steady : {g : Grouped} → g.endpoint.setup ≡ e.setup → g.endpoint.payload ≡ e.payload → Steady g
  steady q p = record { setup = q; payload = λ r. inl (omega arith) }

  still : {g : Grouped} → g.endpoint.setup ≡ e.setup → g.endpoint.payload ≡ e.payload → g.effect ≡ NoEffect → Fair g
  still q p f = record { kept = inr (steady q p); asked = λ h. never (sym (ap asks f) ∙ h); waits = λ h. never (sym (ap leaves f) ∙ h) }

  -- ---- a control transfer in which a transaction went well

  module _ (active : (is_active e.phase && e.done) ≡ true) where
    abbrev stage : Stage
    stage = stage_of (direction e.setup) (with_data e.setup) e.last s.next

    grew : s.success ≡ true → is_data stage ≡ true → is_laid (kind_of e.setup) ≡ true → Grew
    grew c h r = by (data_tokens (direction e.setup) (with_data e.setup) e.last s.next h)
      where
        by : Tokens (direction e.setup) e.last s.next → Grew
        by (inl p) =
            let n = p.0.1 in
            let a = both (is_active e.phase) e.done active in
            let d : is_data (stage_of (direction e.setup) (with_data e.setup) e.last IN) ≡ true = subst (λ (k : ℕ). is_data (stage_of (direction e.setup) (with_data e.setup) e.last k) ≡ true) n h in
            record { success = c; next = n; awaited = ap (λ (b : Bool). b && (e.done && is_data (stage_of (direction e.setup) (with_data e.setup) e.last IN))) a.0 ∙ (ap (λ (b : Bool). b && is_data (stage_of (direction e.setup) (with_data e.setup) e.last IN)) a.1 ∙ d) }
        by (inr p) = let d = read-direction e.setup r in let z = p.0 in absurd (omega arith)

    to-device : s.next ≡ OUT → is_data stage ≡ true → direction e.setup ≡ 0
    to-device n h = by (data_tokens (direction e.setup) (with_data e.setup) e.last s.next h)
      where
        by : Tokens (direction e.setup) e.last s.next → direction e.setup ≡ 0
        by (inl p) = let i = p.0.1 in absurd (omega arith)
        by (inr p) = p.0

    outcome-asks : (b : Bool) (a : ℕ) → asks (pick b (NewDevice a) (Request e.payload)) ≡ true → length_of (pick b (NewDevice a) (Request e.payload)) ≡ e.payload
    outcome-asks true a q = never q
    outcome-asks false a q = refl

    outcome-leaves : (b : Bool) (a : ℕ) → leaves (pick b (NewDevice a) (Request e.payload)) ≡ false
    outcome-leaves true a = refl
    outcome-leaves false a = refl

    stage_fair : (g : Stage) → is_data g ≡ is_data stage → Fair (at_stage g (taken e) s)
    stage_fair Data d = by s.success refl
      where
        by : (c : Bool) → s.success ≡ c → Fair (pick c (grouped Continue (data_effect s true) (with_payload (taken e) ((e.payload + counted_of (data_effect s true)) % 2 ^ 64))) (grouped Retry NoEffect (taken e)))
        by true q =
            record {
              kept = inr (record { setup = refl; payload = λ r. inr (grew q (sym d) r) });
              asked = λ h. never (sym (data-asks true) ∙ h);
              waits = λ h. (data-waits true h, (refl, λ k a. to-device (data-waits true h) (sym d)));
            }
        by false q = still refl refl refl
    stage_fair Closing d =
        either_fair (s.success && s.complete) _ _
        (record {
          kept = inr (steady refl refl);
          asked = λ h. (outcome-asks (is_set_address e.setup) _ h, refl);
          waits = λ h. never (sym (outcome-leaves (is_set_address e.setup) _) ∙ h);
        })
        (still refl refl refl)
    stage_fair Ping d = still refl refl refl
    stage_fair Bad d = still refl refl refl

    control_fair : Fair (control_group (taken e) s)
    unfolding control_group
    control_fair = either_fair e.ready _ _ (stage_fair stage refl) (still refl refl refl)

  -- ---- any other transaction

  module _ (idle : s.kind ≡ Control → (is_active e.phase && e.done) ≡ true → ⊥) where
    other : (c : Bool) (g : Grouped) → g.endpoint.setup ≡ e.setup → g.endpoint.payload ≡ e.payload → g.effect ≡ effect_of s c → Fair g
    other c g q p f =
        record {
          kept = inr (steady q p);
          asked = λ h. never (sym (ap asks f ∙ effect-asks c) ∙ h);
          waits = λ h. (effect-waits c (sym (ap leaves f) ∙ h), (q, λ k a. absurd (idle k a)));
        }

    begin_fair : Fair (begin_group (taken e) s)
    unfolding begin_group
    begin_fair = either_fair s.complete _ _ (other true _ refl refl refl) (other true _ refl refl refl)

    repeat_fair : Fair (repeat_group (taken e) s)
    unfolding repeat_group
    repeat_fair = either_fair s.complete _ _ (other s.complete _ refl refl refl) (other s.complete _ refl refl refl)

    other_fair : (a : Bool) → Fair (other_group a (taken e) s)
    unfolding other_group
    other_fair a =
        look_fair (other_rows a (taken e) s) (grouped Invalid NoEffect (taken e)) (s.kind ∷ s.next ∷ [])
        (begin_fair, (repeat_fair, (repeat_fair, (still refl refl refl, (still refl refl refl, (still refl refl refl, tt))))))
        (still refl refl refl)

  setup_fair : (t : Transaction) → Fair (setup_group (taken e) t s)
  unfolding setup_group
  setup_fair t = either_fair (eqb s.sc Complete) _ _ (still refl refl refl) (record { kept = inl refl; asked = λ h. never h; waits = λ h. never h })

  at_fair : (t : Transaction) → Fair (group_at (is_active e.phase) (taken e) t s)
  at_fair t = by (eqb s.kind Control) (eqb s.next SETUP) (is_active e.phase && e.done) refl refl
    where
      a : Bool
      a = is_active e.phase

      by : (k n d : Bool) → eqb s.kind Control ≡ k → (a && e.done) ≡ d
          → Fair (pick ((k && (n && true)) && true) (setup_group (taken e) t s) (pick ((k && true) && d) (control_group (taken e) s) (other_group a (taken e) s)))
      by true true d q r = setup_fair t
      by true false true q r = control_fair r
      by true false false q r = other_fair (λ k h. absurd (never (sym r ∙ h))) a
      by false n d q r = other_fair (λ k h. absurd (never (sym q ∙ eq-eqb s.kind Control k))) a

pub group_fair : (e : Endpoint) (t : Transaction) (d : Detail) (success complete : Bool) → Fair e (step_of e t d success complete) (group_status e t d success complete)
unfolding group_status
group_fair e t d success complete = at_fair e (step_of e t d success complete) t
