-- When a payload comes to wait: the transaction's token is OUT. And a split's token that ends it at once is not OUT.
use Prim.Native.Nat.{ℕ}
use mathlib.Core.Bool.{Bool, true, false, ◌&&◌, ◌||◌, true≢false}
use mathlib.Core.List.{List, [], ◌∷◌}
use mathlib.Core.Path.{◌≡◌, refl, sym, ap, ◌∙◌}
use borrow.Author.Tests.{eqb-true}
use lib.Dec.{eqb}
use lib.ListN.{length}
use Rattle.usb.specs.Packet.{checked_of}
use Rattle.usb.specs.Pid.{OUT}
use Rattle.usb.specs.Types.{Start, Complete}
use Rattle.std.specs.Prelude.{Result, Ok, Err}
use Rattle.usb.specs.declared.reason.Reason.{Reason}
use Rattle.transaction.specs.Payload.{start_pid}
use Rattle.transaction.specs.Split.{split_rows}
use Rattle.transaction.specs.Status.{judged_of, transaction_status}
use Rattle.transaction.specs.Table.{pick, Row, fits, look}
use Rattle.transaction.specs.declared.Status.{Status}
use Rattle.transaction.specs.declared.Status.TheVariants.{New, Continue, Retry, Done, Fail, Ambiguous, Invalid}
use Rattle.transaction.specs.declared.Style.TheVariants.{Split}
use Rattle.transaction.specs.declared.Transaction.{Transaction}
use Rattle.details.specs.declared.Detail.{Detail}
use Rattle.endpoints.specs.declared.Endpoint.{Endpoint}
use Rattle.group.specs.Control.{stage_of, is_set_address, at_stage, control_group, setup_group}
use Rattle.group.specs.Data.{begin_group, repeat_group, other_rows, other_group}
use Rattle.group.specs.Group.{group_rows, group_status}
use Rattle.group.specs.Setup.{direction, with_data}
use Rattle.group.specs.Step.{grouped, split_sc, waits_of, data_effect, is_active, step_of, taken}
use Rattle.group.specs.declared.Effect.{Effect}
use Rattle.group.specs.declared.Effect.TheVariants.{NoEffect, NewDevice, Request, PendingData, IndexData}
use Rattle.group.specs.declared.Grouped.{Grouped}
use Rattle.group.specs.declared.GroupStatus.TheVariants.{Invalid as Wrong}
use Rattle.group.specs.declared.control.Stage.{Stage}
use Rattle.group.specs.declared.control.Stage.TheVariants.{Data, Status as Closing, Ping, Wrong as Bad}
use Rattle.group.specs.declared.step.Step.{Step}
use Rattle.record.specs.Bools.{both, neither}
use Rattle.plan.proofs.Quiet.{no_effect}

-- ---- group_status: a payload waits

abbrev pub pends : Effect → Bool
pends NoEffect = false
pends (NewDevice a) = false
pends (Request n) = false
pends (PendingData n) = true
pends (IndexData n w i) = false

abbrev Calm : Grouped → Type 0
Calm g = pends g.effect ≡ false

either-calm : (b : Bool) (x y : Grouped) → Calm x → Calm y → Calm (pick b x y)
either-calm true x y p q = p
either-calm false x y p q = q

abbrev All : List (Row Grouped) → Type 0
All [] = Unit {0}
All (r ∷ rs) = Calm r.answer × All rs

look-calm : (rs : List (Row Grouped)) (none : Grouped) (xs : List ℕ) → All rs → Calm none → Calm (look rs none xs)
look-calm [] none xs a k = k
look-calm (r ∷ rs) none xs a k = either-calm (fits r.tests xs && r.guard) r.answer (look rs none xs) a.0 (look-calm rs none xs a.1 k)

by_tests : (k w c : Bool) (n : ℕ) (v : Bool) (i : ℕ) → w ≡ false → pends (pick k (pick w (PendingData n) (pick c (IndexData n v i) NoEffect)) NoEffect) ≡ false
by_tests false w c n v i h = refl
by_tests true false true n v i h = refl
by_tests true false false n v i h = refl
by_tests true true c n v i h = absurd (true≢false h)

outcome-calm : (b : Bool) (a n : ℕ) → pends (pick b (NewDevice a) (Request n)) ≡ false
outcome-calm true a n = refl
outcome-calm false a n = refl

-- where nothing of the step waits
module _ (e : Endpoint) (s : Step) (h : waits_of s ≡ false) where
  data-calm : (c : Bool) → pends (data_effect s c) ≡ false
  data-calm c = by_tests s.known (waits_of s) c s.len s.waited s.id h

  effect-calm : (c b : Bool) → pends (pick b (data_effect s c) NoEffect) ≡ false
  effect-calm c true = data-calm c
  effect-calm c false = refl

  stage-calm : (g : Stage) → Calm (at_stage g e s)
  stage-calm Data = either-calm s.success _ _ (data-calm true) refl
  stage-calm Closing = either-calm (s.success && s.complete) _ _ (outcome-calm (is_set_address e.setup) _ _) refl
  stage-calm Ping = refl
  stage-calm Bad = refl

  control-calm : Calm (control_group e s)
  unfolding control_group
  control-calm = either-calm e.ready _ _ (stage-calm (stage_of (direction e.setup) (with_data e.setup) e.last s.next)) refl

  begin-calm : Calm (begin_group e s)
  unfolding begin_group
  begin-calm = either-calm s.complete _ _ (effect-calm true s.success) (effect-calm true s.success)

  repeat-calm : Calm (repeat_group e s)
  unfolding repeat_group
  repeat-calm = either-calm s.complete _ _ (effect-calm s.complete s.success) (effect-calm s.complete s.success)

  other-calm : (a : Bool) → Calm (other_group a e s)
  unfolding other_group
  other-calm a = look-calm (other_rows a e s) (grouped Wrong NoEffect e) (s.kind ∷ s.next ∷ []) (begin-calm, (repeat-calm, (repeat-calm, (refl, (refl, (refl, tt)))))) refl

setup-calm : (e : Endpoint) (t : Transaction) (s : Step) → Calm (setup_group e t s)
unfolding setup_group
setup-calm e t s = either-calm (eqb s.sc Complete) _ _ refl refl

group-calm : (e : Endpoint) (t : Transaction) (d : Detail) (success complete : Bool) → waits_of (step_of e t d success complete) ≡ false → Calm (group_status e t d success complete)
unfolding group_status
group-calm e t d success complete h =
    let s = step_of e t d success complete in
    let a = is_active e.phase in
    look-calm (group_rows a (taken e) t s) (other_group a (taken e) s) (s.kind ∷ s.next ∷ []) (setup-calm (taken e) t s, (control-calm (taken e) s h, tt)) (other-calm (taken e) s h a)

module _ (e : Endpoint) (t : Transaction) (d : Detail) (complete : Bool) where
  -- it went well, and its token is OUT
  pub waits-well : (success : Bool) → pends (group_status e t d success complete).effect ≡ true → success ≡ true
  waits-well true h = refl
  waits-well false h = absurd (true≢false (sym h ∙ ap pends (no_effect e t d complete)))

  pub waits-out : (success : Bool) → pends (group_status e t d success complete).effect ≡ true → start_pid t.style ≡ OUT
  waits-out success h = by (waits_of (step_of e t d success complete)) refl
    where
      by : (b : Bool) → waits_of (step_of e t d success complete) ≡ b → start_pid t.style ≡ OUT
      by true q = eqb-true (start_pid t.style) OUT (both (eqb (split_sc t.style) Start) (eqb (start_pid t.style) OUT) q).1
      by false q = absurd (true≢false (sym h ∙ group-calm e t d success complete q))

-- ---- transaction_status: of a split, OUT is never Done and never Retry

abbrev pub closing : Status → Bool
closing New = false
closing Continue = false
closing Retry = true
closing Done = true
closing Fail = false
closing Ambiguous = false
closing Invalid = false

-- whether the fourth test takes the PID
abbrev takes : List (ℕ → Bool) → ℕ → Bool
takes [] pid = true
takes (a ∷ []) pid = true
takes (a ∷ b ∷ []) pid = true
takes (a ∷ b ∷ c ∷ []) pid = true
takes (a ∷ b ∷ c ∷ d ∷ ts) pid = d pid

fourth : (a b c d e : Bool) → (a && (b && (c && (d && e)))) ≡ true → d ≡ true
fourth a b c d e h = (both d e (both c _ (both b _ (both a _ h).1).1).1).0

fits-takes : (ts : List (ℕ → Bool)) (k s l pid : ℕ) → fits ts (k ∷ s ∷ l ∷ pid ∷ []) ≡ true → takes ts pid ≡ true
fits-takes [] k s l pid h = refl
fits-takes (a ∷ []) k s l pid h = refl
fits-takes (a ∷ b ∷ []) k s l pid h = refl
fits-takes (a ∷ b ∷ c ∷ []) k s l pid h = refl
fits-takes (a ∷ b ∷ c ∷ d ∷ ts) k s l pid h = fourth (a k) (b s) (c l) (d pid) (fits ts []) h

abbrev any_of : List (Row Status) → ℕ → Bool
any_of [] pid = false
any_of (r ∷ rs) pid = (closing r.answer && takes r.tests pid) || any_of rs pid

none_of : (rs : List (Row Status)) (k s l pid : ℕ) → any_of rs pid ≡ false → closing (look rs Invalid (k ∷ s ∷ l ∷ pid ∷ [])) ≡ false
none_of [] k s l pid h = refl
none_of (r ∷ rs) k s l pid h = by (fits r.tests (k ∷ s ∷ l ∷ pid ∷ []) && r.guard) refl (none_of rs k s l pid (neither here (any_of rs pid) h).1)
  where
    here : Bool
    here = closing r.answer && takes r.tests pid

    by : (b : Bool) → (fits r.tests (k ∷ s ∷ l ∷ pid ∷ []) && r.guard) ≡ b → closing (look rs Invalid (k ∷ s ∷ l ∷ pid ∷ [])) ≡ false → closing (pick b r.answer (look rs Invalid (k ∷ s ∷ l ∷ pid ∷ []))) ≡ false
    by false q rest = rest
    by true q rest = shut (closing r.answer) (takes r.tests pid) (neither here (any_of rs pid) h).0 (fits-takes r.tests k s l pid (both (fits r.tests (k ∷ s ∷ l ∷ pid ∷ [])) r.guard q).0)
      where
        shut : (a t : Bool) → (a && t) ≡ false → t ≡ true → a ≡ false
        shut true t u v = absurd (true≢false (sym v ∙ u))
        shut false t u v = refl

split_goes_on : (high : Bool) (t : Transaction) (sc kind : ℕ) → t.style ≡ Split sc kind → (c : Result ℕ Reason) (n : ℕ) → closing (judged_of high t c n).status ≡ true → ¬ ((judged_of high t c n).pid ≡ OUT)
split_goes_on high t sc kind q (Err reason) n h = absurd (true≢false (sym h))
split_goes_on high t sc kind q (Ok pid) n h = λ z. absurd (true≢false (sym (rw (q, z) at h) ∙ none_of (split_rows n) kind sc t.last OUT refl))

pub split_on : (high : Bool) (t : Transaction) (sc kind : ℕ) (p : List ℕ) → t.style ≡ Split sc kind → closing (transaction_status high t p).status ≡ true → ¬ ((transaction_status high t p).pid ≡ OUT)
unfolding transaction_status
split_on high t sc kind p q = split_goes_on high t sc kind q (checked_of p) (length p)
