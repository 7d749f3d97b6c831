-- What can't happen: a transaction without success has no effect on its group, and where there is no transaction a packet begins one or is invalid.
use mathlib.Core.Path.{◌≡◌, refl, ap, sym, subst, ◌∙◌}
use mathlib.Core.Bool.{Bool, true, false, ◌&&◌}
use mathlib.Core.List.{List, [], ◌∷◌}
use Prim.Native.Nat.{ℕ}
use lib.Dec.{eqb}
use lib.ListN.{length}
use Rattle.usb.specs.Packet.{checked_of}
use Rattle.usb.specs.Pid.{OUT, IN, SOF, PING, MALFORMED, SETUP, SPLIT}
use Rattle.usb.specs.Types.{Complete}
use Rattle.std.specs.Prelude.{Result, Ok, Err}
use Rattle.usb.specs.declared.reason.Reason.{Reason}
use Rattle.details.specs.declared.Detail.{Detail}
use Rattle.endpoints.specs.declared.Endpoint.{Endpoint}
use Rattle.transaction.specs.Table.{pick, Row, only, ◌or◌, fits, look}
use Rattle.transaction.specs.Status.{status_of, judged_of, transaction_status}
use Rattle.transaction.specs.declared.Status.{Status}
use Rattle.transaction.specs.declared.Status.TheVariants.{New, Invalid}
use Rattle.transaction.specs.declared.Style.{Style}
use Rattle.transaction.specs.declared.Style.TheVariants.{Nothing}
use Rattle.transaction.specs.declared.Transaction.{Transaction}
use Rattle.group.specs.Control.{stage_of, at_stage, control_group, setup_group}
use Rattle.group.specs.Data.{begin_group, repeat_group, other_rows, other_group}
use Rattle.group.specs.Group.{group_rows, group_status}
use Rattle.group.specs.Setup.{direction, with_data}
use Rattle.group.specs.Step.{grouped, data_effect, is_active, step_of, taken}
use Rattle.group.specs.declared.Grouped.{Grouped}
use Rattle.group.specs.declared.GroupStatus.TheVariants.{Invalid as Wrong}
use Rattle.group.specs.declared.Effect.{Effect}
use Rattle.group.specs.declared.Effect.TheVariants.{NoEffect}
use Rattle.group.specs.declared.control.Stage.{Stage}
use Rattle.group.specs.declared.control.Stage.TheVariants.{Data, Status as Closing, Ping, Wrong as Bad}
use Rattle.group.specs.declared.step.Step.{Step}

-- ---- without success no effect

abbrev Quiet : Grouped → Type 0
Quiet g = g.effect ≡ NoEffect

-- a choice between two that have none; one whose test fails; a table whose answers have none
either-quiet : (b : Bool) (x y : Grouped) → Quiet x → Quiet y → Quiet (pick b x y)
either-quiet true x y p q = p
either-quiet false x y p q = q

failed-quiet : {b : Bool} (x y : Grouped) → b ≡ false → Quiet y → Quiet (pick b x y)
failed-quiet x y h q = ap (λ (b : Bool). (pick b x y).effect) h ∙ q

failed : {b : Bool} (f : Effect) → b ≡ false → pick b f NoEffect ≡ NoEffect
failed f h = rw h

abbrev All : List (Row Grouped) → Type 0
All [] = Unit {0}
All (r ∷ rs) = Quiet r.answer × All rs

look-quiet : (rs : List (Row Grouped)) (none : Grouped) (xs : List ℕ) → All rs → Quiet none → Quiet (look rs none xs)
look-quiet [] none xs a k = k
look-quiet (r ∷ rs) none xs a k = either-quiet (fits r.tests xs && r.guard) r.answer (look rs none xs) a.0 (look-quiet rs none xs a.1 k)

module _ (e : Endpoint) (s : Step) (h : s.success ≡ false) where
  stage-quiet : (g : Stage) → Quiet (at_stage g e s)
  stage-quiet Data = failed-quiet _ _ h refl
  stage-quiet Closing = failed-quiet _ _ (ap (λ (b : Bool). b && s.complete) h) refl
  stage-quiet Ping = refl
  stage-quiet Bad = refl

  control-quiet : Quiet (control_group e s)
  unfolding control_group
  control-quiet = either-quiet e.ready _ _ (stage-quiet (stage_of (direction e.setup) (with_data e.setup) e.last s.next)) refl

  begin-quiet : Quiet (begin_group e s)
  unfolding begin_group
  begin-quiet = either-quiet s.complete _ _ (failed (data_effect s true) h) (failed (data_effect s true) h)

  repeat-quiet : Quiet (repeat_group e s)
  unfolding repeat_group
  repeat-quiet = either-quiet s.complete _ _ (failed (data_effect s s.complete) h) (failed (data_effect s s.complete) h)

  other-quiet : (a : Bool) → Quiet (other_group a e s)
  unfolding other_group
  other-quiet a = look-quiet (other_rows a e s) (grouped Wrong NoEffect e) (s.kind ∷ s.next ∷ []) (begin-quiet, (repeat-quiet, (repeat-quiet, (refl, (refl, (refl, tt)))))) refl

setup-quiet : (e : Endpoint) (t : Transaction) (s : Step) → Quiet (setup_group e t s)
unfolding setup_group
setup-quiet e t s = either-quiet (eqb s.sc Complete) _ _ refl refl

pub no_effect : (e : Endpoint) (t : Transaction) (d : Detail) (complete : Bool) → (group_status e t d false complete).effect ≡ NoEffect
unfolding group_status
no_effect e t d complete =
    let s = step_of e t d false complete in
    let a = is_active e.phase in
    look-quiet (group_rows a (taken e) t s) (other_group a (taken e) s) (s.kind ∷ s.next ∷ []) (setup-quiet (taken e) t s, (control-quiet (taken e) s refl, tt)) (other-quiet (taken e) s refl a)

-- ---- with no transaction

-- what holds of New and of Invalid holds of the status of a packet where there is no transaction
pub no-transaction : (high : Bool) (P : Status → Type 0) → P New → P Invalid → (t : Transaction) → t.style ≡ Nothing → (packet : List ℕ) → P (transaction_status high t packet).status
unfolding transaction_status
no-transaction high P new invalid t h packet = by (checked_of packet)
  where
    -- the two rows of start_rows
    rows : (a b : Bool) → P (pick a New (pick b New Invalid))
    rows true b = new
    rows false true = new
    rows false false = invalid

    by : (c : Result ℕ Reason) → P (judged_of high t c (length packet)).status
    by (Err reason) = invalid
    by (Ok next) =
        subst (λ (s : Style). P (status_of high s t next (length packet))) (sym h)
        (rows (fits (SOF or SETUP or IN or OUT or PING or only SPLIT ∷ []) (next ∷ []) && true) (fits (only MALFORMED ∷ []) (next ∷ []) && true))
