-- The start of a transaction, decided from the world that it starts in and done, is that of the rules (transaction_start).
use mathlib.Core.Path.{◌≡◌, refl, ap, ◌∙◌}
use mathlib.Core.Bool.{Bool, true, false, ◌||◌}
use mathlib.Core.List.{List}
use Prim.Native.Nat.{ℕ}
use borrow.Author.Tests.{eqb-true, eq-eqb}
use lib.Dec.{eqb}
use Rattle.usb.specs.Pid.{SPLIT, MALFORMED}
use Rattle.usb.specs.Fields.{token_of}
use Rattle.transaction.specs.Table.{pick}
use Rattle.transaction.specs.declared.Status.{Status}
use Rattle.transaction.specs.declared.Status.TheVariants.{New, Continue, Retry, Done, Fail, Ambiguous, Invalid}
use Rattle.transaction.specs.declared.Style.TheVariants.{Simple}
use Rattle.transaction.specs.declared.Transaction.{Transaction}
use Rattle.details.specs.Kind.{Unknown}
use Rattle.details.specs.Details.{details_of, fresh}
use Rattle.details.specs.declared.Device.{Device}
use Rattle.endpoints.specs.declared.Endpoint.{Endpoint}
use Rattle.std.specs.Prelude.{Option, Some, None as Absent}
use Rattle.endpoints.specs.declared.Phase.{Phase}
use Rattle.endpoints.specs.declared.Phase.TheVariants.{None, Early, Active, Ended}
use Rattle.rules.specs.World.{World, invalid_ep, with_slot, with_transaction, new_transaction}
use Rattle.endpoints.specs.Table.{new_endpoint}
use Rattle.rules.specs.Endpoints.{add_device, device_for, address_for, found, push_endpoint, add_endpoint_on, packet_endpoint_at, number_at}
use Rattle.rules.specs.Groups.{link_once, link, undecided, group_early_append, starts_early}
use Rattle.rules.specs.Transactions.{push_transaction, type_of, begin_on, begin_split, begin_plain, transaction_start}
use Rattle.rules.specs.declared.Slot.TheVariants.{Current}
use Rattle.update.specs.Update.{links, early, decide_early_start, decide_early_append, act}
use Rattle.update.specs.Entry.{transaction_after}
use Rattle.update.specs.declared.Update.{Update}
use Rattle.update.specs.declared.Then.TheVariants.{Keep}
use Rattle.update.proofs.Decided.{early-start-is, early-append-is}
use Rattle.update.proofs.After.{act-transaction}
use Rattle.plan.specs.Step.{opened, begun}
use Rattle.plan.specs.Packet.{entry_by, standing, new_on, place_at, place_of, start_by, update_for, type_by, start_on, start_split, start_plain, starting}
use Rattle.plan.proofs.Frame.{act-slot}
use Rattle.plan.proofs.Alike.{Alike, same-found}

-- ---- group_early_start, and then perhaps group_early_append

-- where it has its link, nothing is appended
linked-append : (w : World) → w.transaction.linked ≡ true → group_early_append w ≡ w
unfolding group_early_append
linked-append w h = by (eqb w.transaction.endpoint 0 || undecided (w.endpoints w.transaction.endpoint))
  where
    by : (b : Bool) → pick b w (link_once w.transaction.endpoint w) ≡ w
    by true = refl
    by false = ap (λ (l : Bool). pick l w (link w.transaction.endpoint w)) h

early-links : (p : Phase) (n : ℕ) (t : Transaction) → (transaction_after (early p false) n t).linked ≡ true
early-links None n t = refl
early-links Early n t = refl
early-links Active n t = refl
early-links Ended n t = refl

early-starts : (p : Phase) → (early p false).start ≡ true
early-starts None = refl
early-starts Early = refl
early-starts Active = refl
early-starts Ended = refl

chosen : {b : Bool} (u r : Update) → b ≡ true → u ≡ pick b u r
chosen u r h = rw h

module _ (pid x : ℕ) (t : Transaction) (v : World) (at : t.endpoint ≡ x) where
  then_append : (b : Bool) (p : Phase) → group_early_append (with_slot Current (act (pick b (early p false) (links false Keep)) x (with_transaction t v))) ≡ with_slot Current (act (start_by (pick b (early p false) (links false Keep)) t (v.endpoints x)) x (with_transaction t v))
  then_append true p =
      linked-append (with_slot Current (act (early p false) x (with_transaction t v))) (ap (λ (s : Transaction). s.linked) (act-transaction (early p false) x (with_transaction t v)) ∙ early-links p (v.endpoints x).transactions t)
      ∙ ap (λ (u : Update). with_slot Current (act u x (with_transaction t v))) (chosen (early p false) (decide_early_append t (v.endpoints x)) (early-starts p))
  then_append false p =
      early-append-is (with_slot Current (with_transaction t v))
      ∙ (ap (λ (y : ℕ). act (decide_early_append t (v.endpoints y)) y (with_slot Current (with_transaction t v))) at ∙ act-slot (decide_early_append t (v.endpoints x)) x Current (with_transaction t v))

-- what follows the start: group_early_append where the packet is New
abbrev pub following : Status → World → World
following New w = group_early_append w
following Continue w = w
following Retry w = w
following Done w = w
following Fail w = w
following Ambiguous w = w
following Invalid w = w

-- the two statuses by which a transaction starts
pub data Begins : Status → Type 0 where
  new : Begins New
  invalid : Begins Invalid

-- a plain transaction begins on endpoint x, whose entry is e
module _ (pid n x kind : ℕ) (e : Endpoint) (v : World) (entry : v.endpoints x ≡ e) where
  abbrev plain : Transaction
  plain = new_transaction (Simple pid) n pid x kind

  early-is : begin_on x kind pid n v ≡ with_slot Current (act (decide_early_start pid (v.endpoints x).phase false) x (with_transaction plain v))
  early-is = early-start-is pid x (with_slot Current (with_transaction plain v)) ∙ act-slot (decide_early_start pid (v.endpoints x).phase false) x Current (with_transaction plain v)

  on-is : (s : Status) → Begins s → following s (begin_on x kind pid n v) ≡ with_slot Current (act (update_for s pid plain e) x (with_transaction plain v))
  on-is New new =
      ap group_early_append early-is
      ∙ (then_append pid x plain v refl (starts_early pid (v.endpoints x).phase) (v.endpoints x).phase ∙ ap (λ (a : Endpoint). with_slot Current (act (update_for New pid plain a) x (with_transaction plain v))) entry)
  on-is Invalid invalid = early-is ∙ ap (λ (a : Endpoint). with_slot Current (act (update_for Invalid pid plain a) x (with_transaction plain v))) entry
  on-is Continue x'' = elim x'' [ ]
  on-is Retry x3 = elim x3 [ ]
  on-is Done x4 = elim x4 [ ]
  on-is Fail x5 = elim x5 [ ]
  on-is Ambiguous x6 = elim x6 [ ]

-- ---- the entry of an endpoint that stands, and of a new one

module _ (x0 i : ℕ) (w : World) where
  pub own-entry : w.endpoints i ≡ entry_by x0 (w.endpoints x0) i w
  own-entry = by (eqb i x0) refl
    where
      by : (b : Bool) → eqb i x0 ≡ b → w.endpoints i ≡ pick b (w.endpoints x0) (w.endpoints i)
      by true q = ap w.endpoints (eqb-true i x0 q)
      by false q = refl

pub new-entry : (d address : ℕ) (w : World) → (push_endpoint d address w).endpoints w.count ≡ new_endpoint d address
new-entry d address w = ap (λ (b : Bool). pick b (new_endpoint d address) (w.endpoints w.count)) (eq-eqb w.count w.count refl)

pub new-device : (address : ℕ) (w : World) → (add_device address w).devices w.device_count ≡ fresh address
new-device address w = ap (λ (b : Bool). pick b (fresh address) (w.devices w.device_count)) (eq-eqb w.device_count w.device_count refl)

-- ---- transaction_start

module _ (s : Status) (begins : Begins s) (id pid x0 : ℕ) (packet : List ℕ) (w : World) where
  abbrev n : ℕ
  n = w.transactions

  abbrev pushed : World
  pushed = push_transaction id w

  abbrev known : Endpoint
  known = w.endpoints x0

  split-is : following s (begin_split packet pid n pushed) ≡ with_slot Current (begun id (start_split packet pid n (standing x0 known invalid_ep w)).begin w)
  unfolding begun opened group_early_append
  split-is = by s begins
    where
      by : (s : Status) → Begins s → following s (begin_split packet pid n pushed) ≡ begin_split packet pid n pushed
      by New new = refl
      by Invalid invalid = refl
      by Continue x' = elim x' [ ]
      by Retry x'' = elim x'' [ ]
      by Done x3 = elim x3 [ ]
      by Fail x4 = elim x4 [ ]
      by Ambiguous x5 = elim x5 [ ]

  standing-is : (i kind owner : ℕ) → following s (begin_on i kind pid n pushed) ≡ with_slot Current (begun id (start_on s (standing x0 known i w) kind owner pid n).begin w)
  unfolding begun opened
  standing-is i kind owner = on-is pid n i kind (entry_by x0 known i w) pushed (own-entry x0 i w) s begins

  -- a new endpoint, on a device that stands or on a new one
  abbrev owner : ℕ
  owner = (token_of packet).address

  on-new : (v : World) (d address : ℕ) (k : Device) → v.devices d ≡ k
      → following s (begin_on v.count (type_of v.count (push_endpoint d address v)) pid n (push_endpoint d address v))
      ≡ (let t = new_transaction (Simple pid) n pid v.count (type_by (details_of k address).kind) in
      with_slot Current (act (update_for s pid t (new_endpoint d address)) v.count (with_transaction t (push_endpoint d address v))))
  on-new v d address k h =
      let u = push_endpoint d address v in
      ap (λ (z : ℕ). following s (begin_on v.count z pid n u)) (λ i. type_by (details_of (h' i) (new-entry d address v i).address).kind)
      ∙ on-is pid n v.count (type_by (details_of k address).kind) (new_endpoint d address) u (new-entry d address v) s begins
    where
      h' : v.devices ((push_endpoint d address v).endpoints v.count).device ≡ k
      h' = ap (λ (e : Endpoint). v.devices e.device) (new-entry d address v) ∙ h

  new_is : (g : Option ℕ) (address : ℕ)
      → (let v = add_endpoint_on g owner address pushed in following s (begin_on w.count (type_of w.count v) pid n v))
      ≡ with_slot Current (begun id (start_plain s (new_on g owner address w) pid packet n).begin w)
  unfolding begun opened
  new_is (Some d) address = on-new pushed d address (w.devices d) refl
  new_is Absent address = on-new (add_device owner pushed) w.device_count address (fresh owner) (new-device owner pushed)

  plain-is : (f : Option ℕ)
      → (let v = packet_endpoint_at f pid packet pushed in following s (begin_on (number_at f pushed) (type_of (number_at f pushed) v) pid n v))
      ≡ with_slot Current (begun id (start_plain s (place_at f x0 known pid packet w) pid packet n).begin w)
  plain-is (Some i) = standing-is i (type_of i pushed) owner
  plain-is Absent = new_is (device_for owner w) (address_for pid (token_of packet).number)

  pushed_alike : Alike w pushed
  pushed_alike = record { count = refl; devices = refl; device_count = refl; device = λ j. refl; address = λ j. refl }

  begin-plain-is : following s (begin_plain pid packet n pushed) ≡ with_slot Current (begun id (start_plain s (place_at (found pid packet w) x0 known pid packet w) pid packet n).begin w)
  begin-plain-is =
      plain-is (found pid packet pushed)
      ∙ ap (λ (f : Option ℕ). with_slot Current (begun id (start_plain s (place_at f x0 known pid packet w) pid packet n).begin w)) (same-found pushed_alike pid packet)

  pub start_is : following s (transaction_start id pid packet w) ≡ with_slot Current (begun id (starting s x0 known pid packet n w).begin w)
  unfolding starting place_of
  start_is = by (eqb pid MALFORMED) (eqb pid SPLIT)
    where
      by : (a b : Bool) → following s (pick a (begin_on invalid_ep Unknown pid n pushed) (pick b (begin_split packet pid n pushed) (begin_plain pid packet n pushed)))
          ≡ with_slot Current (begun id (pick a (start_on s (standing x0 known invalid_ep w) Unknown 0 pid n) (pick b (start_split packet pid n (standing x0 known invalid_ep w)) (start_plain s (place_at (found pid packet w) x0 known pid packet w) pid packet n))).begin w)
      by true b = standing-is invalid_ep Unknown 0
      by false true = split-is
      by false false = begin-plain-is
