-- What group_status leaves of an endpoint as it was, and how far its control payload can grow, for the crates above.
use Rattle.std.proofs.Common.{◌≡◌, ℕ, ◌+◌, ◌%◌, ◌^◌, ◌≤◌, Bool, true, false, ◌&&◌, eqb, List, [], ◌∷◌, refl, zero-le, arith}
use native.Mathlib.Nat.{mod-le}
use Rattle.usb.specs.Types.{Complete}
use Rattle.details.specs.declared.Detail.{Detail}
use Rattle.endpoints.specs.declared.Endpoint.{Endpoint}
use Rattle.transaction.specs.Table.{pick, Row, fits, look}
use Rattle.transaction.specs.declared.Transaction.{Transaction}
use Rattle.group.specs.declared.Grouped.{Grouped}
use Rattle.group.specs.declared.GroupStatus.{GroupStatus}
use Rattle.group.specs.declared.GroupStatus.TheVariants.{Invalid}
use Rattle.group.specs.declared.Effect.{Effect}
use Rattle.group.specs.declared.Effect.TheVariants.{NoEffect, NewDevice, Request, PendingData, IndexData}
use Rattle.group.specs.declared.control.Stage.{Stage}
use Rattle.group.specs.declared.control.Stage.TheVariants.{Data, Status, Ping, Wrong}
use Rattle.group.specs.declared.step.Step.{Step}
use Rattle.group.specs.Step.{grouped, changed, taken, step_of, is_active, data_effect, effect_of, waits_of, payload_of}
use Rattle.group.specs.Control.{with_setup, with_payload, stage_of, at_stage, counted_of, is_set_address, outcome_of, control_group, setup_group}
use Rattle.group.specs.Setup.{direction, with_data}
use Rattle.group.specs.Data.{with_success, begin_group, repeat_group, other_rows, other_group}
use Rattle.group.specs.Group.{group_rows, group_at, group_status}

-- how much an effect leaves waiting at the endpoint
abbrev pub leaves : Effect → ℕ
leaves NoEffect = 0
leaves (NewDevice a) = 0
leaves (Request n) = 0
leaves (PendingData n) = n
leaves (IndexData n w i) = 0

-- g's endpoint is e but for setup and success, and its payload, with what is left waiting, is at most n more
pub record Kept (e : Endpoint) (n : ℕ) (g : Grouped) : Type 0 where
  pub device : g.endpoint.device ≡ e.device
  pub address : g.endpoint.address ≡ e.address
  pub phase : g.endpoint.phase ≡ e.phase
  pub state : g.endpoint.state ≡ e.state
  pub transactions : g.endpoint.transactions ≡ e.transactions
  pub groups : g.endpoint.groups ≡ e.groups
  pub total : g.endpoint.total ≡ e.total
  pub first : g.endpoint.first ≡ e.first
  pub done : g.endpoint.done ≡ e.done
  pub last : g.endpoint.last ≡ e.last
  pub pending : g.endpoint.pending ≡ e.pending
  pub pendinglength : g.endpoint.pendinglength ≡ e.pendinglength
  pub pendinglink : g.endpoint.pendinglink ≡ e.pendinglink
  pub payload : g.endpoint.payload + leaves g.effect ≤ e.payload + n

-- a choice keeps what both sides keep
either-kept : (b : Bool) {e : Endpoint} {n : ℕ} (x y : Grouped) → Kept e n x → Kept e n y → Kept e n (pick b x y)
either-kept true x y p q = p
either-kept false x y p q = q

-- and so does a table whose answers all do
abbrev All : Endpoint → ℕ → List (Row Grouped) → Type 0
All e n [] = Unit {0}
All e n (r ∷ rs) = Kept e n r.answer × All e n rs

look-kept : (e : Endpoint) (n : ℕ) (rs : List (Row Grouped)) (none : Grouped) (xs : List ℕ) → All e n rs → Kept e n none → Kept e n (look rs none xs)
look-kept e n [] none xs a k = k
look-kept e n (r ∷ rs) none xs a k = either-kept (fits r.tests xs && r.guard) r.answer (look rs none xs) a.0 (look-kept e n rs none xs a.1 k)

module _ {g : GroupStatus} (e : Endpoint) (n : ℕ) (f : Effect) (l : leaves f ≤ n) where
  changed-kept : (b r : Bool) (s p : ℕ) → p + leaves f ≤ e.payload + n → Kept e n (grouped g f (changed e b r s p e.pending))
  changed-kept b r s p h = record { device = refl; address = refl; phase = refl; state = refl; transactions = refl; groups = refl; total = refl; first = refl; done = refl; last = refl; pending = refl; pendinglength = refl; pendinglink = refl; payload = h }

  same : Kept e n (grouped g f e)
  same = changed-kept e.success e.ready e.setup e.payload (omega arith)

  setup-kept : (r : Bool) (s : ℕ) → Kept e n (grouped g f (with_setup e r s))
  setup-kept r s = changed-kept e.success r s e.payload (omega arith)

  success-kept : (b : Bool) → Kept e n (grouped g f (with_success e b))
  success-kept b = changed-kept b e.ready e.setup e.payload (omega arith)

  payload-kept : (k : ℕ) → k + leaves f ≤ n → Kept e n (grouped g f (with_payload e ((e.payload + k) % 2 ^ 64)))
  payload-kept k h = changed-kept e.success e.ready e.setup ((e.payload + k) % 2 ^ 64) (omega (arith, mod-le (e.payload + k) (2 ^ 64)))

still : {g : GroupStatus} (e : Endpoint) (n : ℕ) → Kept e n (grouped g NoEffect e)
still e n = same e n NoEffect zero-le

-- an effect counts and leaves no more than the payload
by_tests : (k w b : Bool) (n : ℕ) (v : Bool) (i : ℕ) → (let f = pick k (pick w (PendingData n) (pick b (IndexData n v i) NoEffect)) NoEffect in counted_of f + leaves f ≤ n)
by_tests false w b n v i = zero-le
by_tests true true b n v i = omega arith
by_tests true false true n v i = omega arith
by_tests true false false n v i = zero-le

counted_le : (s : Step) (b : Bool) → counted_of (data_effect s b) + leaves (data_effect s b) ≤ s.len
counted_le s b = by_tests s.known (waits_of s) b s.len s.waited s.id

data_le : (s : Step) (b : Bool) → leaves (data_effect s b) ≤ s.len
data_le s b = omega (arith, counted_le s b)

effect_le : (s : Step) (b : Bool) → leaves (effect_of s b) ≤ s.len
effect_le s b = by s.success
  where
    by : (c : Bool) → leaves (pick c (data_effect s b) NoEffect) ≤ s.len
    by true = data_le s b
    by false = zero-le

outcome_le : (b : Bool) (a k n : ℕ) → leaves (pick b (NewDevice a) (Request k)) ≤ n
outcome_le true a k n = zero-le
outcome_le false a k n = zero-le

at-stage-kept : (g : Stage) (e : Endpoint) (s : Step) → Kept e s.len (at_stage g e s)
at-stage-kept Data e s = either-kept s.success _ _ (payload-kept e s.len (data_effect s true) (data_le s true) _ (counted_le s true)) (still e s.len)
at-stage-kept Status e s =
    either-kept (s.success && s.complete) _ _ (same e s.len (outcome_of e) (outcome_le (is_set_address e.setup) _ _ s.len)) (still e s.len)
at-stage-kept Ping e s = still e s.len
at-stage-kept Wrong e s = still e s.len

control-kept : (e : Endpoint) (s : Step) → Kept e s.len (control_group e s)
unfolding control_group
control-kept e s = either-kept e.ready _ _ (at-stage-kept (stage_of (direction e.setup) (with_data e.setup) e.last s.next) e s) (still e s.len)

setup-group-kept : (e : Endpoint) (t : Transaction) (s : Step) → Kept e s.len (setup_group e t s)
unfolding setup_group
setup-group-kept e t s = either-kept (eqb s.sc Complete) _ _ (still e s.len) (setup-kept e s.len NoEffect zero-le t.ready t.setup)

begin-kept : (e : Endpoint) (s : Step) → Kept e s.len (begin_group e s)
unfolding begin_group
begin-kept e s =
    let l = effect_le s true in
    either-kept s.complete _ _ (success-kept e s.len (effect_of s true) l s.success) (same e s.len (effect_of s true) l)

repeat-kept : (e : Endpoint) (s : Step) → Kept e s.len (repeat_group e s)
unfolding repeat_group
repeat-kept e s =
    let l = effect_le s s.complete in
    either-kept s.complete _ _ (success-kept e s.len (effect_of s s.complete) l s.success) (same e s.len (effect_of s s.complete) l)

other-kept : (a : Bool) (e : Endpoint) (s : Step) → Kept e s.len (other_group a e s)
unfolding other_group
other-kept a e s =
    look-kept e s.len (other_rows a e s) (grouped Invalid NoEffect e) (s.kind ∷ s.next ∷ [])
    (begin-kept e s, (repeat-kept e s, (repeat-kept e s, (still e s.len, (still e s.len, (still e s.len, tt))))))
    (still e s.len)

at-kept : (a : Bool) (e : Endpoint) (t : Transaction) (s : Step) → Kept e s.len (group_at a e t s)
at-kept a e t s =
    look-kept e s.len (group_rows a e t s) (other_group a e s) (s.kind ∷ s.next ∷ [])
    (setup-group-kept e t s, (control-kept e s, tt))
    (other-kept a e s)

-- the law: of the endpoint with nothing waiting any more, and of the payload that was used
pub group-keeps : (e : Endpoint) (t : Transaction) (d : Detail) (success complete : Bool) → Kept (taken e) (payload_of e t).len (group_status e t d success complete)
unfolding group_status
group-keeps e t d success complete = at-kept (is_active e.phase) (taken e) t (step_of e t d success complete)
