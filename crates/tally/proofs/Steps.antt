-- The tally of the other steps of a call: the rows of packets, events, devices, endpoints and transactions, and those of an effect.
use mathlib.Core.Path.{◌≡◌, refl, ap, ◌∙◌}
use mathlib.Core.Bool.{Bool, true, false}
use mathlib.Core.List.{List, ◌∷◌}
use Prim.Native.Nat.{ℕ, suc, ◌+◌, ◌*◌, ◌/◌, ◌<◌, ◌≤◌}
use native.Mathlib.Omega.{arith}
use borrow.Author.Tests.{eq-eqb, ne_eqb}
use lib.Dec.{eqb}
use lib.ListN.{length}
use Rattle.rows.specs.Widths.{endpoint_width, event_width, link_width, packet_width, request_width, transaction_width}
use Rattle.rows.specs.One.{one}
use Rattle.transaction.specs.Table.{pick}
use Rattle.details.specs.Details.{number_of}
use Rattle.endpoints.specs.Phases.{count}
use Rattle.endpoints.proofs.PhasesLaws.{count_ext}
use Rattle.endpoints.specs.declared.Endpoint.{Endpoint}
use Rattle.group.specs.declared.Effect.{Effect}
use Rattle.group.specs.declared.Effect.TheVariants.{NoEffect, NewDevice, Request, PendingData, IndexData}
use Rattle.rules.specs.Rows.{BytesRow, DeviceRow, EndpointRow, PacketRow, EventRow, TransactionRow, naming, D, RequestRow, asking}
use Rattle.rules.specs.World.{World, ◌▷◌, push, with_pending, with_total, ended_in, waiting_of}
use Rattle.endpoints.specs.Table.{new_endpoint}
use Rattle.rules.specs.Endpoints as rules
use Rattle.descriptors.specs.Complete.{note_by}
use Rattle.rules.specs.Groups.{asked_of, effect_step}
use Rattle.rules.specs.Transactions.{push_transaction}
use Rattle.rules.specs.Decoder.{append_bytes, push_packet}
use Rattle.update.specs.Effect.{effect_entry}
use Rattle.tally.specs.Tally.{add_device, add_endpoint, add_packet, add_event, add_transaction, add_link, add_request, tally_effect, Adds}
use Rattle.tally.specs.declared.add.Tally.{Tally}
use Rattle.tally.proofs.Added.{more, row, nothing, count-last, waiting-change}

module _ {t : Tally} {w₀ w : World} (a : Adds t w₀ w) where
  pub device-adds : (address : ℕ) → Adds (add_device t) w₀ (rules.add_device address w)
  device-adds address =
      record { words = (λ k. omega (arith, row k (DeviceRow address) w.journal, more 1 k t.devices 1 (t.devices + 1) refl, a.words k)); waiting = a.waiting; bytes = a.bytes; devices = omega (arith, a.devices); endpoints = a.endpoints; packets = a.packets; transactions = a.transactions; groups = a.groups; statebytes = a.statebytes; items = a.items }

  -- a new endpoint has no group, so it does not wait
  pub endpoint-adds : (d address : ℕ) → Adds (add_endpoint t) w₀ (rules.push_endpoint d address w)
  endpoint-adds d address =
      record { words = (λ k. omega (arith, row k (EndpointRow d (number_of address) (address / 128)) w.journal, more 2 k (t.endpoints * endpoint_width) 3 ((t.endpoints + 1) * endpoint_width) (omega arith), a.words k)); waiting = omega (arith, last, none, before, a.waiting); bytes = a.bytes; devices = a.devices; endpoints = omega (arith, a.endpoints); packets = a.packets; transactions = a.transactions; groups = a.groups; statebytes = a.statebytes; items = a.items }
    where
      f : ℕ → Endpoint
      f j = pick (eqb j w.count) (new_endpoint d address) (w.endpoints j)

      last : count (ended_in f) 0 (suc w.count) ≡ count (ended_in f) 0 w.count + one (ended_in f (0 + w.count))
      last = count-last w.count (ended_in f) 0

      none : one (ended_in f (0 + w.count)) ≡ 0
      none = let e : 0 + w.count ≡ w.count = omega arith in rw (e, eq-eqb w.count w.count refl)

      before : count (ended_in f) 0 w.count ≡ waiting_of w
      before = count_ext w.count (ended_in w.endpoints) (ended_in f) 0 (λ j u v. rw (ne_eqb j w.count (λ e. omega arith)))

  pub packet-adds : (packet : List ℕ) (time : ℕ) → Adds (add_packet (length packet) t) w₀ (w ▷ append_bytes packet ▷ push_packet w.bytes time)
  packet-adds packet time =
      record { words = (λ k. omega (arith, row k (BytesRow packet) w.journal, row k (PacketRow w.bytes time) (BytesRow packet ∷ w.journal), more 0 k t.bytes (length packet) (t.bytes + length packet) refl, more 3 k (t.packets * packet_width) 2 ((t.packets + 1) * packet_width) (omega arith), a.words k)); waiting = a.waiting; bytes = omega (arith, a.bytes); devices = a.devices; endpoints = a.endpoints; packets = omega (arith, a.packets); transactions = a.transactions; groups = a.groups; statebytes = a.statebytes; items = a.items }

  -- the packet row of an event has no bytes
  pub event-packet-adds : (start time : ℕ) → Adds (add_packet 0 t) w₀ (push_packet start time w)
  event-packet-adds start time =
      record { words = (λ k. omega (arith, row k (PacketRow start time) w.journal, more 0 k t.bytes 0 (t.bytes + 0) refl, nothing 0 k, more 3 k (t.packets * packet_width) 2 ((t.packets + 1) * packet_width) (omega arith), a.words k)); waiting = a.waiting; bytes = omega (arith, a.bytes); devices = a.devices; endpoints = a.endpoints; packets = omega (arith, a.packets); transactions = a.transactions; groups = a.groups; statebytes = a.statebytes; items = a.items }

  pub event-adds : (packet code : ℕ) → Adds (add_event t) w₀ (push (EventRow packet code) w)
  event-adds packet code =
      record { words = (λ k. omega (arith, row k (EventRow packet code) w.journal, more 4 k (t.events * event_width) 2 ((t.events + 1) * event_width) (omega arith), a.words k)); waiting = a.waiting; bytes = a.bytes; devices = a.devices; endpoints = a.endpoints; packets = a.packets; transactions = a.transactions; groups = a.groups; statebytes = a.statebytes; items = a.items }

  pub transaction-adds : (packet : ℕ) → Adds (add_transaction t) w₀ (push_transaction packet w)
  transaction-adds packet =
      record { words = (λ k. omega (arith, row k (TransactionRow (naming packet w.context.reason)) w.journal, more 5 k (t.transactions * transaction_width) transaction_width ((t.transactions + 1) * transaction_width) (omega arith), a.words k)); waiting = a.waiting; bytes = a.bytes; devices = a.devices; endpoints = a.endpoints; packets = a.packets; transactions = omega (arith, a.transactions); groups = a.groups; statebytes = a.statebytes; items = a.items }

  -- ---- effects

  pub effect-adds : (f : Effect) (x : ℕ) → x < w.count → Adds (tally_effect f t) w₀ (effect_step f x w)
  effect-adds NoEffect x h = a
  effect-adds (NewDevice address) x h = device-adds address
  effect-adds (Request n) x h =
      record { words = (λ k. omega (arith, row k (RequestRow (asking x (w.endpoints x).setup n (note_by (asked_of n x w) w.shelf))) w.journal, more 11 k (t.requests * request_width) 4 ((t.requests + 1) * request_width) (omega arith), a.words k)); waiting = a.waiting; bytes = a.bytes; devices = a.devices; endpoints = a.endpoints; packets = a.packets; transactions = a.transactions; groups = a.groups; statebytes = a.statebytes; items = a.items }
  effect-adds (PendingData n) x h =
      let c = waiting-change x (with_pending n w.transaction.link) w h in
      record { words = a.words; waiting = omega (arith, c, a.waiting); bytes = a.bytes; devices = a.devices; endpoints = a.endpoints; packets = a.packets; transactions = a.transactions; groups = a.groups; statebytes = a.statebytes; items = a.items }
  effect-adds (IndexData n waited i) x h =
      let c = waiting-change x (with_total ((w.endpoints x).total + n)) w h in
      record { words = (λ k. omega (arith, row k (D x (pick waited i w.transaction.link) (w.endpoints x).total) w.journal, more 10 k (t.links * link_width) 4 ((t.links + 1) * link_width) (omega arith), a.words k)); waiting = omega (arith, c, a.waiting); bytes = a.bytes; devices = a.devices; endpoints = a.endpoints; packets = a.packets; transactions = a.transactions; groups = a.groups; statebytes = a.statebytes; items = a.items }

-- the endpoint's entry after an effect; every other entry stays
here : {b : Bool} (a c : Endpoint) → b ≡ true → pick b a c ≡ a
here a c h = rw h

pub effect-entry : (f : Effect) (x : ℕ) (w : World) → (effect_step f x w).endpoints x ≡ effect_entry f (w.endpoints x) w.transaction.link
effect-entry NoEffect x w = refl
effect-entry (NewDevice address) x w = refl
effect-entry (Request n) x w = refl
effect-entry (PendingData n) x w = here _ _ (eq-eqb x x refl)
effect-entry (IndexData n waited i) x w = here _ _ (eq-eqb x x refl)

there : {b : Bool} (a c : Endpoint) → b ≡ false → pick b a c ≡ c
there a c h = rw h

pub effect-other : (f : Effect) (x j : ℕ) (w : World) → (j ≡ x → ⊥) → (effect_step f x w).endpoints j ≡ w.endpoints j
effect-other NoEffect x j w ne = refl
effect-other (NewDevice address) x j w ne = refl
effect-other (Request n) x j w ne = refl
effect-other (PendingData n) x j w ne = there _ _ (ne_eqb j x ne)
effect-other (IndexData n waited i) x j w ne = there _ _ (ne_eqb j x ne)
