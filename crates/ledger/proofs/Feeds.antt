-- group_status counts, and lets wait, no payload but the one that it was given, and only where the transaction went well.
use mathlib.Core.Bool.{Bool, true, false, ◌&&◌}
use mathlib.Core.List.{List, [], ◌∷◌}
use mathlib.Core.Path.{◌≡◌, refl}
use Prim.Native.Nat.{ℕ}
use lib.Dec.{eqb}
use Rattle.usb.specs.Types.{Complete}
use Rattle.details.specs.declared.Detail.{Detail}
use Rattle.endpoints.specs.declared.Endpoint.{Endpoint}
use Rattle.transaction.specs.Table.{pick, Row, fits, look}
use Rattle.transaction.specs.declared.Transaction.{Transaction}
use Rattle.group.specs.declared.Grouped.{Grouped}
use Rattle.group.specs.declared.Effect.{Effect}
use Rattle.group.specs.declared.Effect.TheVariants.{NoEffect, NewDevice, Request, PendingData, IndexData}
use Rattle.group.specs.declared.GroupStatus.TheVariants.{Invalid}
use Rattle.group.specs.declared.control.Stage.{Stage}
use Rattle.group.specs.declared.control.Stage.TheVariants.{Data, Status, Ping, Wrong}
use Rattle.group.specs.declared.step.Step.{Step}
use Rattle.group.specs.Step.{grouped, taken, step_of, is_active, data_effect, effect_of, waits_of, payload_of}
use Rattle.group.specs.Control.{stage_of, at_stage, is_set_address, control_group, setup_group}
use Rattle.group.specs.Setup.{direction, with_data}
use Rattle.group.specs.Data.{begin_group, repeat_group, other_rows, other_group}
use Rattle.group.specs.Group.{group_rows, group_at, group_status}

-- of a payload that is known or not, with its length
abbrev pub Feeds : Bool → Bool → ℕ → Effect → Type 0
Feeds success known n NoEffect = Unit {0}
Feeds success known n (NewDevice address) = Unit {0}
Feeds success known n (Request m) = Unit {0}
Feeds success known n (PendingData m) = (success ≡ true) × (known ≡ true) × (m ≡ n)
Feeds success known n (IndexData m waited i) = (success ≡ true) × (known ≡ true) × (m ≡ n)

abbrev Fed : Step → Grouped → Type 0
Fed s g = Feeds s.success s.known s.len g.effect

-- a choice, and a table
either_fed : (s : Step) (b : Bool) (x y : Grouped) → Fed s x → Fed s y → Fed s (pick b x y)
either_fed s true x y p q = p
either_fed s false x y p q = q

abbrev All : Step → List (Row Grouped) → Type 0
All s [] = Unit {0}
All s (r ∷ rs) = Fed s r.answer × All s rs

look_fed : (s : Step) (rs : List (Row Grouped)) (none : Grouped) (xs : List ℕ) → All s rs → Fed s none → Fed s (look rs none xs)
look_fed s [] none xs a k = k
look_fed s (r ∷ rs) none xs a k = either_fed s (fits r.tests xs && r.guard) r.answer (look rs none xs) a.0 (look_fed s rs none xs a.1 k)

-- ---- what a payload comes to

by_tests : (k w b : Bool) (n : ℕ) (v : Bool) (i : ℕ) (success : Bool) → success ≡ true → Feeds success k n (pick k (pick w (PendingData n) (pick b (IndexData n v i) NoEffect)) NoEffect)
by_tests false w b n v i success q = tt
by_tests true true b n v i success q = (q, refl, refl)
by_tests true false true n v i success q = (q, refl, refl)
by_tests true false false n v i success q = tt

module _ (s : Step) where
  data_fed : (b : Bool) → s.success ≡ true → Feeds s.success s.known s.len (data_effect s b)
  data_fed b q = by_tests s.known (waits_of s) b s.len s.waited s.id s.success q

  -- a choice by the success
  success_fed : (c : Bool) → s.success ≡ c → (x y : Grouped) → (s.success ≡ true → Fed s x) → Fed s y → Fed s (pick c x y)
  success_fed true q x y f k = f q
  success_fed false q x y f k = k

  effect_fed : (b : Bool) → Feeds s.success s.known s.len (effect_of s b)
  effect_fed b = by s.success refl
    where
      by : (c : Bool) → s.success ≡ c → Feeds s.success s.known s.len (pick c (data_effect s b) NoEffect)
      by true q = data_fed b q
      by false q = tt

  outcome_fed : (b : Bool) (a n : ℕ) → Feeds s.success s.known s.len (pick b (NewDevice a) (Request n))
  outcome_fed true a n = tt
  outcome_fed false a n = tt

  stage_fed : (g : Stage) (e : Endpoint) → Fed s (at_stage g e s)
  stage_fed Data e = success_fed s.success refl _ _ (data_fed true) tt
  stage_fed Status e = either_fed s (s.success && s.complete) _ _ (outcome_fed (is_set_address e.setup) _ _) tt
  stage_fed Ping e = tt
  stage_fed Wrong e = tt

  control_fed : (e : Endpoint) → Fed s (control_group e s)
  unfolding control_group
  control_fed e = either_fed s e.ready _ _ (stage_fed (stage_of (direction e.setup) (with_data e.setup) e.last s.next) e) tt

  setup_fed : (e : Endpoint) (t : Transaction) → Fed s (setup_group e t s)
  unfolding setup_group
  setup_fed e t = either_fed s (eqb s.sc Complete) _ _ tt tt

  begin_fed : (e : Endpoint) → Fed s (begin_group e s)
  unfolding begin_group
  begin_fed e = either_fed s s.complete _ _ (effect_fed true) (effect_fed true)

  repeat_fed : (e : Endpoint) → Fed s (repeat_group e s)
  unfolding repeat_group
  repeat_fed e = either_fed s s.complete _ _ (effect_fed s.complete) (effect_fed s.complete)

  other_fed : (a : Bool) (e : Endpoint) → Fed s (other_group a e s)
  unfolding other_group
  other_fed a e =
      look_fed s (other_rows a e s) (grouped Invalid NoEffect e) (s.kind ∷ s.next ∷ [])
      (begin_fed e, (repeat_fed e, (repeat_fed e, (tt, (tt, (tt, tt))))))
      tt

  at_fed : (a : Bool) (e : Endpoint) (t : Transaction) → Fed s (group_at a e t s)
  at_fed a e t = look_fed s (group_rows a e t s) (other_group a e s) (s.kind ∷ s.next ∷ []) (setup_fed e t, (control_fed e, tt)) (other_fed a e)

pub group_feeds : (e : Endpoint) (t : Transaction) (d : Detail) (success complete : Bool) → Feeds success (payload_of e t).known (payload_of e t).len (group_status e t d success complete).effect
unfolding group_status
group_feeds e t d success complete = at_fed (step_of e t d success complete) (is_active e.phase) (taken e) t
