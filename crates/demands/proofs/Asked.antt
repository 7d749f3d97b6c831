-- What a request that completes is asked: as many bytes as its endpoint counts, and no more entries than its device keeps.
use Prim.Native.Nat.{ℕ, ◌+◌, ◌*◌, ◌≤◌, min}
use native.Mathlib.Nat.{le_refl}
use native.Mathlib.Omega.{arith}
use mathlib.Core.Path.{◌≡◌, refl, sym, ap, subst, ◌∙◌}
use mathlib.Core.Bool.{Bool, true, false, ◌&&◌, not, true≢false}
use mathlib.Core.List.{List, [], ◌∷◌}
use borrow.Author.Tests.{eqb-true}
use lib.Dec.{eqb}
use lib.ListN.{length}
use Rattle.rows.specs.One.{one}
use Rattle.usb.specs.Fields.{token_of, setup_data_of}
use Rattle.usb.specs.Types.{Complete}
use Rattle.transaction.specs.Payload.{start_pid, extract_payload}
use Rattle.transaction.specs.Status.{transaction_status}
use Rattle.transaction.specs.Table.{pick, Row, fits, look}
use Rattle.transaction.specs.declared.Judged.{Judged}
use Rattle.transaction.specs.declared.Status.{Status}
use Rattle.transaction.specs.declared.Status.TheVariants.{New, Continue, Retry, Done, Fail, Ambiguous, Invalid}
use Rattle.transaction.specs.declared.Style.{Style}
use Rattle.transaction.specs.declared.Style.TheVariants.{Nothing, Simple, Split, Token}
use Rattle.transaction.specs.declared.Transaction.{Transaction}
use Rattle.details.specs.Details.{fresh}
use Rattle.details.proofs.DetailsLaws.{type-kept}
use Rattle.details.specs.declared.Detail.{Detail}
use Rattle.details.specs.declared.Device.{Device}
use Rattle.std.specs.Prelude.{Option, Some, None}
use Rattle.endpoints.specs.Table.{new_endpoint}
use Rattle.endpoints.specs.declared.Endpoint.{Endpoint}
use Rattle.group.proofs.Laws.{group-keeps}
use Rattle.group.specs.Control.{is_set_address, stage_of, at_stage, control_group, setup_group}
use Rattle.group.specs.Data.{begin_group, repeat_group, other_rows, other_group}
use Rattle.group.specs.Group.{group_rows, group_at, group_status}
use Rattle.group.specs.Setup.{direction, with_data}
use Rattle.group.specs.Step.{grouped, waits_of, data_effect, effect_of, is_active, step_of, taken}
use Rattle.group.specs.declared.Grouped.{Grouped}
use Rattle.group.specs.declared.GroupStatus.TheVariants.{Invalid as Wrong}
use Rattle.group.specs.declared.Effect.{Effect}
use Rattle.group.specs.declared.Effect.TheVariants.{NoEffect, NewDevice, Request, PendingData, IndexData}
use Rattle.group.specs.declared.control.Stage.{Stage}
use Rattle.group.specs.declared.control.Stage.TheVariants.{Data, Status as Closing, Ping, Wrong as Bad}
use Rattle.group.specs.declared.step.Step.{Step}
use Rattle.rules.specs.World.{World, more_transactions}
use Rattle.rules.specs.Endpoints.{device_for, address_for, found, detail_of}
use Rattle.rules.specs.Transactions.{state_at}
use Rattle.rules.specs.declared.Slot.{Slot}
use Rattle.rules.specs.declared.Slot.TheVariants.{Empty, Current, Suspended}
use Rattle.update.specs.Entry.{over_entry, end_entry, ended_entry, close_entry, start_entry, become_entry, entry_after, transaction_after}
use Rattle.update.specs.Update.{when}
use Rattle.update.specs.declared.Then.{Then}
use Rattle.update.specs.declared.Then.TheVariants.{Keep, Begin, BeginFailed, Last, BeginEarly}
use Rattle.update.specs.declared.Update.{Update}
use Rattle.plan.specs.Devices.{changes, row_then, asks, length_of}
use Rattle.plan.specs.Step.{end_of}
use Rattle.plan.specs.Packet.{resumes, slot_then, old_endpoint, transaction_then, entry_then, standing, new_on, place_at, place_of, appending_at, appending, middle_of, is_new, is_last, succeeds, completes_by, entry_ended, last_ended, close_of, end_if, plan_by, plan_of}
use Rattle.plan.specs.declared.End.{End}
use Rattle.plan.specs.declared.Middle.{Middle}
use Rattle.plan.specs.declared.Place.{Place}
use Rattle.plan.proofs.Devices.{device_begun}
use Rattle.plan.proofs.Frame.{own_fixed, device_fixed}
use Rattle.plan.proofs.Quiet.{no_effect}
use Rattle.demands.specs.Shelf.{Agree}
use Rattle.demands.proofs.Alike.{fewer}

-- ---- a request has the length of the endpoint's payload

never : {A : Type 0} → false ≡ true → A
never h = absurd (true≢false (sym h))

abbrev ToldBy : Endpoint → Grouped → Type 0
ToldBy e g = asks g.effect ≡ true → length_of g.effect ≡ e.payload

either-told : (e : Endpoint) (b : Bool) (x y : Grouped) → ToldBy e x → ToldBy e y → ToldBy e (pick b x y)
either-told e true x y p q = p
either-told e false x y p q = q

abbrev All : Endpoint → List (Row Grouped) → Type 0
All e [] = Unit {0}
All e (r ∷ rs) = ToldBy e r.answer × All e rs

look-told : (e : Endpoint) (rs : List (Row Grouped)) (none : Grouped) (xs : List ℕ) → All e rs → ToldBy e none → ToldBy e (look rs none xs)
look-told e [] none xs a k = k
look-told e (r ∷ rs) none xs a k = either-told e (fits r.tests xs && r.guard) r.answer (look rs none xs) a.0 (look-told e rs none xs a.1 k)

data-asks : (s : Step) (c : Bool) → asks (data_effect s c) ≡ false
data-asks s c = by s.known (waits_of s) c
  where
    by : (a b c : Bool) → asks (pick a (pick b (PendingData s.len) (pick c (IndexData s.len s.waited s.id) NoEffect)) NoEffect) ≡ false
    by true true c = refl
    by true false true = refl
    by true false false = refl
    by false b c = refl

effect-asks : (s : Step) (c : Bool) → asks (effect_of s c) ≡ false
effect-asks s c = by s.success
  where
    by : (b : Bool) → asks (pick b (data_effect s c) NoEffect) ≡ false
    by true = data-asks s c
    by false = refl

module _ (e : Endpoint) (s : Step) where
  silent : (f : Effect) → asks f ≡ false → asks f ≡ true → length_of f ≡ e.payload
  silent f h q = never (sym h ∙ q)

  outcome-told : (b : Bool) (a : ℕ) → asks (pick b (NewDevice a) (Request e.payload)) ≡ true → length_of (pick b (NewDevice a) (Request e.payload)) ≡ e.payload
  outcome-told true a q = never q
  outcome-told false a q = refl

  stage-told : (g : Stage) → ToldBy e (at_stage g e s)
  stage-told Data = either-told e s.success _ _ (silent (data_effect s true) (data-asks s true)) (λ q. never q)
  stage-told Closing = either-told e (s.success && s.complete) _ _ (outcome-told (is_set_address e.setup) _) (λ q. never q)
  stage-told Ping = λ q. never q
  stage-told Bad = λ q. never q

  control-told : ToldBy e (control_group e s)
  unfolding control_group
  control-told = either-told e e.ready _ _ (stage-told (stage_of (direction e.setup) (with_data e.setup) e.last s.next)) (λ q. never q)

  begin-told : ToldBy e (begin_group e s)
  unfolding begin_group
  begin-told = either-told e s.complete _ _ (silent (effect_of s true) (effect-asks s true)) (silent (effect_of s true) (effect-asks s true))

  repeat-told : ToldBy e (repeat_group e s)
  unfolding repeat_group
  repeat-told = either-told e s.complete _ _ (silent (effect_of s s.complete) (effect-asks s s.complete)) (silent (effect_of s s.complete) (effect-asks s s.complete))

  other-told : (a : Bool) → ToldBy e (other_group a e s)
  unfolding other_group
  other-told a =
      look-told e (other_rows a e s) (grouped Wrong NoEffect e) (s.kind ∷ s.next ∷ [])
      (begin-told, (repeat-told, (repeat-told, ((λ q. never q), ((λ q. never q), ((λ q. never q), tt))))))
      (λ q. never q)

  setup-told : (t : Transaction) → ToldBy e (setup_group e t s)
  unfolding setup_group
  setup-told t = either-told e (eqb s.sc Complete) _ _ (λ q. never q) (λ q. never q)

  at_told : (a : Bool) (t : Transaction) → ToldBy e (group_at a e t s)
  at_told a t = look-told e (group_rows a e t s) (other_group a e s) (s.kind ∷ s.next ∷ []) (setup-told t, (control-told, tt)) (other-told a)

status-told : (e : Endpoint) (t : Transaction) (d : Detail) (success complete : Bool) → ToldBy e (group_status e t d success complete)
unfolding group_status
status-told e t d success complete = at_told (taken e) (step_of e t d success complete) (is_active e.phase) t

-- ---- an update leaves the payload, or clears it

less-when : (b : Bool) (f : Endpoint → Endpoint) (e : Endpoint) → (f e).payload ≤ e.payload → (when b f e).payload ≤ e.payload
less-when true f e h = h
less-when false f e h = le_refl e.payload

become_less : (t : Then) (pid : ℕ) (e : Endpoint) → (become_entry t pid e).payload ≤ e.payload
become_less Keep pid e = le_refl e.payload
become_less Begin pid e = omega arith
become_less BeginFailed pid e = omega arith
become_less Last pid e = le_refl e.payload
become_less BeginEarly pid e = le_refl e.payload

after_less : (u : Update) (pid : ℕ) (e : Endpoint) → (entry_after u pid e).payload ≤ e.payload
unfolding entry_after
after_less u pid e =
    let a = when u.over over_entry e in
    let b = when u.cut end_entry a in
    let c = when u.link more_transactions b in
    let d = when u.start start_entry c in
    let f = become_entry u.group pid d in
    let g = when u.end ended_entry f in
    omega (
      arith,
      less-when u.over over_entry e (le_refl e.payload),
      less-when u.cut end_entry a (le_refl a.payload),
      less-when u.link more_transactions b (le_refl b.payload),
      less-when u.start start_entry c (le_refl c.payload),
      become_less u.group pid d,
      less-when u.end ended_entry f (omega arith),
      less-when u.item close_entry g (le_refl g.payload),
    )

-- ---- so what it is asked agrees, where the bytes that each endpoint counts do

module _ (w : World) (h g : List ℕ) (same : (x : ℕ) → Agree ((w.endpoints x).device * 8192) (min (w.endpoints x).payload 4096) h g) where
  abbrev Good : Endpoint → Type 0
  Good e = Agree (e.device * 8192) (min e.payload 4096) h g

  good_less : (a b : Endpoint) → b.device ≡ a.device → b.payload ≤ a.payload → Good a → Good b
  good_less a b q l k =
      subst (λ (d : ℕ). Agree (d * 8192) (min b.payload 4096) h g) (sym q)
      (fewer (a.device * 8192) (min b.payload 4096) (min a.payload 4096) h g (omega arith) k)

  standing_good : (x0 : ℕ) (e0 : Endpoint) → Good e0 → (i : ℕ) → Good (standing x0 e0 i w).entry
  standing_good x0 e0 k i = by (eqb i x0)
    where
      by : (b : Bool) → Good (pick b e0 (w.endpoints i))
      by true = k
      by false = same i

  new_good : (f : Option ℕ) (owner address : ℕ) → Good (new_on f owner address w).entry
  new_good (Some d) owner address = refl
  new_good None owner address = refl

  place_good : (x0 : ℕ) (e0 : Endpoint) → Good e0 → (pid : ℕ) (packet : List ℕ) → Good (place_of x0 e0 pid packet w).entry
  unfolding place_of
  place_good x0 e0 k pid packet = by (found pid packet w)
    where
      by : (f : Option ℕ) → Good (place_at f x0 e0 pid packet w).entry
      by (Some i) = standing_good x0 e0 k i
      by None = new_good (device_for (token_of packet).address w) (token_of packet).address (address_for pid (token_of packet).number)

  appending_good : (s : Status) (x0 : ℕ) (e0 : Endpoint) → Good e0 → (pid : ℕ) (packet : List ℕ) (b : Transaction) → Good (appending s x0 e0 pid packet b w).entry
  unfolding appending
  appending_good s x0 e0 k pid packet b = by b.style
    where
      by : (y : Style) → Good (appending_at y s x0 e0 pid packet b w).entry
      by Nothing = standing_good x0 e0 k x0
      by (Simple first) = standing_good x0 e0 k x0
      by (Split sc kind) = place_good x0 e0 k pid packet
      by (Token sc kind token) = standing_good x0 e0 k x0

  -- of an end: its device, and the length of its request
  abbrev AsksGood : End → Type 0
  AsksGood c = asks c.effect ≡ true → Agree (c.entry.device * 8192) (min (length_of c.effect) 4096) h g

  close_good : (m : Middle) (last : ℕ) (success complete : Bool) → Good m.entry → AsksGood (close_of m last success complete)
  unfolding close_of end_of
  close_good m last success complete k q =
      let s = m.begin in
      let t = s.transaction in
      let e = entry_after s.update (start_pid t.style) m.entry in
      let r = group_status e (transaction_after s.update m.entry.transactions t) m.detail success complete in
      let d : r.endpoint.device ≡ m.entry.device =
      (group-keeps e (transaction_after s.update m.entry.transactions t) m.detail success complete).device
      ∙ own_fixed (λ a. a.device) device_fixed s.update (start_pid t.style) m.entry in
      let n : length_of r.effect ≡ e.payload = status-told e (transaction_after s.update m.entry.transactions t) m.detail success complete q in
      let l = after_less s.update (start_pid t.style) m.entry in
      subst (λ (d : ℕ). Agree (d * 8192) (min (length_of r.effect) 4096) h g) (sym d)
      (fewer (m.entry.device * 8192) (min (length_of r.effect) 4096) (min m.entry.payload 4096) h g (omega arith) k)

  fail_good : (m : Middle) (last : ℕ) (complete : Bool) → AsksGood (close_of m last false complete)
  unfolding close_of end_of
  fail_good m last complete q = never (sym (ap asks (no_effect _ _ _ complete)) ∙ q)

  if_good : (b : Bool) (c : End) (e : Endpoint) → AsksGood c → AsksGood (end_if b c e)
  if_good true c e k = k
  if_good false c e k = λ q. never q

  module _ (high : Bool) (x0 : ℕ) (e : Endpoint) (k : Good e) (t : Transaction) (packet : List ℕ) where
    by_good : (j : Judged) → AsksGood (plan_by high j x0 e t packet w).close
    unfolding plan_by
    by_good j = at j.status
      where
        b : Transaction
        b = extract_payload high t j.pid (length packet) (setup_data_of packet)

        end : End
        end = end_of x0 e b (detail_of x0 w) w.last_item false false

        n : ℕ
        n = w.transactions + one (resumes w.slot)

        ends : Status → Bool
        ends s = is_new s && not (eqb x0 0)

        last : Status → ℕ
        last s = last_ended (ends s) end x0 w.last_item

        middle : Status → Middle
        middle s = middle_of s x0 (entry_ended (ends s) end (start_pid b.style) e) j.pid packet n b w

        closes : Status → Bool
        closes s = is_last s && not (eqb (middle s).begin.transaction.endpoint 0)

        close : Status → End
        close s = close_of (middle s) (last s) (succeeds s) (completes_by s t.style)

        at : (s : Status) → AsksGood (end_if (closes s) (close s) (middle s).entry)
        at New = λ q. never q
        at Continue = λ q. never q
        at Retry = if_good (closes Retry) (close Retry) (middle Retry).entry (close_good (middle Retry) (last Retry) true (completes_by Retry t.style) (appending_good Retry x0 e k j.pid packet b))
        at Done = if_good (closes Done) (close Done) (middle Done).entry (close_good (middle Done) (last Done) true (completes_by Done t.style) (appending_good Done x0 e k j.pid packet b))
        at Fail = if_good (closes Fail) (close Fail) (middle Fail).entry (fail_good (middle Fail) (last Fail) (completes_by Fail t.style))
        at Ambiguous = λ q. never q
        at Invalid = if_good (closes Invalid) (close Invalid) (middle Invalid).entry (fail_good (middle Invalid) (last Invalid) (completes_by Invalid t.style))

  then_good : (s : Slot) (e : Endpoint) → Good e → Good (entry_then s e)
  then_good Empty e k = k
  then_good Current e k = k
  then_good Suspended e k = k

  -- the payload of a request that a packet completes
  pub plan_good : (high : Bool) (packet : List ℕ) → AsksGood (plan_of high packet w).close
  unfolding plan_of
  plan_good high packet =
      let x0 = old_endpoint w.slot w.transaction in
      let e = w.endpoints x0 in
      let t = transaction_then w.slot w.transactions e w.transaction in
      by_good high x0 (entry_then w.slot e) (then_good w.slot e (same x0)) t packet (transaction_status high (state_at (slot_then w.slot) t) packet)

-- ---- entries: the step that begins makes a new row, which keeps none, or stores a type

type-count : (b : Bool) (number kind : ℕ) (d : Device) → (row_then false 0 b number kind d).kept ≡ d.kept
type-count true number kind d = (type-kept d number kind).kept
type-count false number kind d = refl

row_few : (device : Bool) (owner : ℕ) (types : Bool) (number kind : ℕ) (d : Device) → (row_then device owner types number kind d).kept ≤ d.kept
unfolding fresh
row_few true owner types number kind d = let q = type-count types number kind (fresh owner) in omega (arith, q)
row_few false owner types number kind d = let q = type-count types number kind d in omega (arith, q)

pub begun_few : (high : Bool) (packet : List ℕ) (time : ℕ) (w : World) (j : ℕ) → (device_begun high packet time w j).kept ≤ (w.devices j).kept
begun_few high packet time w j = by (changes (plan_of high packet w).begin) (eqb j (plan_of high packet w).begin.place) refl
  where
    by : (b c : Bool) → eqb j (plan_of high packet w).begin.place ≡ c
        → (pick (b && c) (row_then (plan_of high packet w).begin.device (plan_of high packet w).begin.owner (plan_of high packet w).begin.types (plan_of high packet w).begin.number (plan_of high packet w).begin.kind (w.devices (plan_of high packet w).begin.place)) (w.devices j)).kept
        ≤ (w.devices j).kept
    by false c q = le_refl _
    by true false q = le_refl _
    by true true q =
        let s = (plan_of high packet w).begin in
        let e : (w.devices s.place).kept ≡ (w.devices j).kept = ap (λ (i : ℕ). (w.devices i).kept) (sym (eqb-true j s.place q)) in
        let r = row_few s.device s.owner s.types s.number s.kind (w.devices s.place) in
        omega (arith, e, r)
