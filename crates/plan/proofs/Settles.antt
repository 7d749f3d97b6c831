-- What a step that begins leaves is what its end is decided from: the endpoint's entry and its details.
use mathlib.Core.Path.{◌≡◌, refl, ap, ◌∙◌}
use mathlib.Core.Bool.{Bool, true, false, not}
use mathlib.Core.List.{List}
use Prim.Native.Nat.{ℕ}
use borrow.Author.Tests.{eqb-false, eq-eqb}
use lib.Dec.{eqb}
use Rattle.usb.specs.Pid.{SPLIT, MALFORMED}
use Rattle.usb.specs.Fields.{token_of}
use Rattle.transaction.specs.Payload.{start_pid}
use Rattle.transaction.specs.Table.{pick}
use Rattle.transaction.specs.declared.Status.{Status}
use Rattle.transaction.specs.declared.Style.{Style}
use Rattle.transaction.specs.declared.Style.TheVariants.{Nothing, Simple, Split, Token}
use Rattle.transaction.specs.declared.Transaction.{Transaction}
use Rattle.details.specs.Kind.{Unknown}
use Rattle.details.specs.Details.{details_of, with_type, fresh}
use Rattle.details.specs.declared.Device.{Device}
use Rattle.endpoints.specs.declared.Endpoint.{Endpoint}
use Rattle.std.specs.Prelude.{Option, Some, None}
use Rattle.rules.specs.World.{World, invalid_ep, with_slot, with_transaction, change_device}
use Rattle.rules.specs.Endpoints.{device_for, address_for, found, add_device, push_endpoint, typed, detail_of}
use Rattle.rules.specs.Transactions.{transaction_end_at}
use Rattle.rules.specs.declared.Slot.TheVariants.{Empty, Current}
use Rattle.update.specs.Update.{when, act}
use Rattle.update.specs.Entry.{entry_after, transaction_after, item_after}
use Rattle.update.specs.declared.Update.{Update}
use Rattle.update.proofs.After.{act-entry, act-transaction, act-item}
use Rattle.plan.specs.Step.{opened, begun, ended, end_of}
use Rattle.plan.specs.Packet.{standing, new_on, place_at, place_of, start_on, start_split, start_plain, starting, with_token_on, going_on, appending_at, appending, close_of, type_by, typed_detail}
use Rattle.plan.specs.declared.Middle.{Middle}
use Rattle.plan.specs.declared.End.{End}
use Rattle.plan.proofs.Frame.{Still, opened_still, Rest, act-rest, act_fixed, device_fixed, address_fixed}
use Rattle.plan.proofs.Ends.{end_in, end_on}
use Rattle.plan.proofs.Starts.{own-entry, new-entry, new-device}
use Rattle.plan.proofs.Typed.{typed-detail}

pub record Settled (id : ℕ) (w : World) (m : Middle) : Type 0 where
  pub entry : (opened id m.begin w).endpoints m.begin.transaction.endpoint ≡ m.entry
  pub detail : detail_of m.begin.transaction.endpoint (opened id m.begin w) ≡ m.detail

-- a device that is changed
pub changed-device : (d : ℕ) (f : Device → Device) (w : World) → (change_device d f w).devices d ≡ f (w.devices d)
changed-device d f w = ap (λ (b : Bool). pick b (f (w.devices d)) (w.devices d)) (eq-eqb d d refl)

-- ---- transaction_start

module _ (s : Status) (id pid x0 n : ℕ) (packet : List ℕ) (w : World) where
  abbrev old : Endpoint
  old = w.endpoints x0

  abbrev owner : ℕ
  owner = (token_of packet).address

  settled-standing : (i kind owner : ℕ) → Settled id w (start_on s (standing x0 old i w) kind owner pid n)
  unfolding opened
  settled-standing i kind owner = record { entry = own-entry x0 i w; detail = refl }

  settled-new : (g : Option ℕ) (address : ℕ) → Settled id w (start_plain s (new_on g owner address w) pid packet n)
  unfolding opened
  settled-new (Some d) address =
      record { entry = new-entry d address w; detail = ap (λ (e : Endpoint). details_of (w.devices e.device) e.address) (new-entry d address w) }
  settled-new None address =
      let v = add_device owner w in
      let e = new-entry w.device_count address v in
      record { entry = e; detail = ap (λ (e : Endpoint). details_of (v.devices e.device) e.address) e ∙ ap (λ (d : Device). details_of d address) (new-device owner w) }

  settled_plain : (f : Option ℕ) → Settled id w (start_plain s (place_at f x0 old pid packet w) pid packet n)
  settled_plain (Some i) = settled-standing i (type_by (detail_of i w).kind) owner
  settled_plain None = settled-new (device_for owner w) (address_for pid (token_of packet).number)

  -- but for a split, which has no endpoint yet
  pub start-settled : eqb (starting s x0 old pid packet n w).begin.transaction.endpoint 0 ≡ false → Settled id w (starting s x0 old pid packet n w)
  unfolding starting place_of
  start-settled = by (eqb pid MALFORMED) (eqb pid SPLIT)
    where
      by : (a b : Bool)
          → eqb (pick a (start_on s (standing x0 old invalid_ep w) Unknown 0 pid n) (pick b (start_split packet pid n (standing x0 old invalid_ep w)) (start_plain s (place_at (found pid packet w) x0 old pid packet w) pid packet n))).begin.transaction.endpoint 0 ≡ false
          → Settled id w (pick a (start_on s (standing x0 old invalid_ep w) Unknown 0 pid n) (pick b (start_split packet pid n (standing x0 old invalid_ep w)) (start_plain s (place_at (found pid packet w) x0 old pid packet w) pid packet n)))
      by true b h = settled-standing invalid_ep Unknown 0
      by false true h = absurd (eqb-false 0 0 h refl)
      by false false h = settled_plain (found pid packet w)

-- ---- transaction_append, of the transaction b on the endpoint x0

module _ (s : Status) (id pid x0 : ℕ) (packet : List ℕ) (b : Transaction) (w : World) where
  abbrev before : Endpoint
  before = w.endpoints x0

  abbrev address : ℕ
  address = address_for pid (token_of packet).number

  settled-going : b.endpoint ≡ x0 → Settled id w (going_on s x0 before pid b w)
  unfolding opened
  settled-going at =
      record { entry = ap w.endpoints at ∙ own-entry x0 x0 w; detail = ap (λ (x : ℕ). detail_of x w) at }

  -- the split's type is stored
  typed-new : (kind d : ℕ) (v : World) (k : Device) → v.devices d ≡ k
      → detail_of v.count (change_device d (typed address kind) (push_endpoint d address v)) ≡ typed_detail address kind (details_of k address)
  typed-new kind d v k h =
      let u = change_device d (typed address kind) (push_endpoint d address v) in
      ap (λ (e : Endpoint). details_of (u.devices e.device) e.address) (new-entry d address v)
      ∙ (ap (λ (z : Device). details_of z address) (changed-device d (typed address kind) (push_endpoint d address v))
      ∙ (ap (λ (z : Device). details_of (with_type z address kind) address) h ∙ typed-detail k address kind))

  settled-token : (sc kind : ℕ) (f : Option ℕ) → Settled id w (with_token_on s (place_at f x0 before pid packet w) sc kind (token_of packet).address pid b)
  unfolding opened
  settled-token sc kind (Some i) =
      let a = (w.endpoints i).address in
      record {
        entry = own-entry x0 i w;
        detail = ap (λ (z : Device). details_of z a) (changed-device (w.endpoints i).device (typed a kind) w) ∙ typed-detail (w.devices (w.endpoints i).device) a kind;
      }
  settled-token sc kind None = by (device_for (token_of packet).address w)
    where
      by : (g : Option ℕ) → Settled id w (with_token_on s (new_on g (token_of packet).address address w) sc kind (token_of packet).address pid b)
      by (Some d) = record { entry = new-entry d address w; detail = typed-new kind d w (w.devices d) refl }
      by None =
          let a = (token_of packet).address in
          let v = add_device a w in
          record { entry = new-entry w.device_count address v; detail = typed-new kind w.device_count v (fresh a) (new-device a w) }

  pub append-settled : b.endpoint ≡ x0 → Settled id w (appending s x0 before pid packet b w)
  unfolding appending place_of
  append-settled at = by b.style
    where
      by : (t : Style) → Settled id w (appending_at t s x0 before pid packet b w)
      by Nothing = settled-going at
      by (Simple first) = settled-going at
      by (Split sc kind) = settled-token sc kind (found pid packet w)
      by (Token sc kind token) = settled-going at

-- ---- the end of a transaction that has just begun or gone on

module _ (id : ℕ) (m : Middle) (w : World) where
  abbrev x : ℕ
  x = m.begin.transaction.endpoint

  abbrev u : Update
  u = m.begin.update

  abbrev rows : World
  rows = with_transaction m.begin.transaction (opened id m.begin w)

  opened-item : (opened id m.begin w).last_item ≡ w.last_item
  opened-item = ap (λ (z : Still). z.last_item) (opened_still id m.begin w)

  module _ (settled : Settled id w m) (success complete : Bool) where
    detail : detail_of x (act u x rows) ≡ m.detail
    detail =
        (λ i. details_of ((act-rest u x rows i).devices (act_fixed (λ e. e.device) device_fixed u x x rows i)) (act_fixed (λ e. e.address) address_fixed u x x rows i))
        ∙ settled.detail

    close-end : end_in x success complete (begun id m.begin w) ≡ close_of m w.last_item success complete
    unfolding begun close_of
    close-end =
        let e = act-entry u x rows ∙ ap (entry_after u (start_pid m.begin.transaction.style)) settled.entry in
        let t = act-transaction u x rows ∙ ap (λ (a : Endpoint). transaction_after u a.transactions m.begin.transaction) settled.entry in
        let l = act-item u x rows ∙ ap (item_after u x) opened-item in
        λ i. end_of x (e i) (t i) (detail i) (l i) success complete

  at : (begun id m.begin w).transaction.endpoint ≡ x
  unfolding begun
  at = ap (λ (r : Rest). r.endpoint) (act-rest u x rows)

  -- transaction_end after it
  pub close-is : (eqb x 0 ≡ false → Settled id w m) → (success complete : Bool)
      → transaction_end_at Current success complete (with_slot Current (begun id m.begin w))
      ≡ with_slot Empty (when (not (eqb x 0)) (ended x (close_of m w.last_item success complete)) (begun id m.begin w))
  close-is settled success complete = end_on x success complete (begun id m.begin w) at ∙ ap (with_slot Empty) (by (eqb x 0) refl)
    where
      by : (b : Bool) → eqb x 0 ≡ b → when (not b) (ended x (end_in x success complete (begun id m.begin w))) (begun id m.begin w) ≡ when (not b) (ended x (close_of m w.last_item success complete)) (begun id m.begin w)
      by true h = refl
      by false h = ap (λ (s : End). ended x s (begun id m.begin w)) (close-end (settled h) success complete)
