-- What `shelve` leaves, by the plan of a packet, is what the rules leave: the shelf after it, the note of a request's row, and the row of its device.
-- Assumes nothing.
use Prim.Native.Nat.{ℕ, ◌*◌}
use mathlib.Core.Path.{◌≡◌, refl, sym, ap, ◌∙◌}
use mathlib.Core.Bool.{Bool, true, false}
use mathlib.Core.List.{List, [], ◌++◌}
use lib.Seq.{sets}
use Rattle.usb.specs.Packet.{payload_of}
use Rattle.transaction.specs.Table.{pick}
use Rattle.details.specs.declared.Device.{Device}
use Rattle.descriptors.specs.Laid.{laid}
use Rattle.descriptors.specs.Complete.{note_by, row_by, shelf_by}
use Rattle.descriptors.specs.declared.complete.Asked.{Asked}
use Rattle.endpoints.specs.declared.Endpoint.{Endpoint}
use Rattle.rules.specs.Rows.{Row, asking, request_words, log}
use Rattle.rules.specs.World.{World}
use Rattle.rules.specs.Decoder.{handle_raw_packet}
use Rattle.rules.specs.Transactions.{is_dropped, shelf_with}
use Rattle.plan.specs.Devices.{length_of, asked_by}
use Rattle.plan.specs.Packet.{keeps, plan_of, kept as laden}
use Rattle.plan.specs.declared.Plan.{Plan}
use Rattle.plan.proofs.Devices.{device_begun, asked_close, played-shelf}
use Rattle.plan.proofs.Requests.{played-requests}
use Rattle.plan.proofs.Packet.{plan-shelf, packet-laden}
use Rattle.shelving.specs.Shelve.{is_asked, reading_of, asked_with, laid_shelf, Shelves}
use Rattle.shelving.specs.declared.Shelved.{Shelved}

-- the device is only named where something is done for it
module _ (high : Bool) (p : Plan) where
  pub laid_same : (packet shelf : List ℕ) → laid_shelf (reading_of high p) packet shelf ≡ shelf_with (keeps high p) p.end.entry packet shelf
  laid_same packet shelf = by (keeps high p)
    where
      e : Endpoint
      e = p.end.entry

      by : (b : Bool) → pick b (laid (pick b e.device 0 * 8192) e.payload (payload_of packet) shelf) shelf ≡ shelf_with b e packet shelf
      by true = refl
      by false = refl

  -- what is asked: of the row d
  asked-at : (b : Bool) (d : Device) → Asked
  asked-at b d =
      record { setup = p.close.entry.setup; length = length_of p.close.effect; start = pick b p.close.entry.device 0 * 8192; kept = d.kept; chosen = d.chosen }

  asked_same : {A : Type 0} (f : Asked → A) (x : A) (d : Device)
      → pick (is_asked p) (f (asked_with (reading_of high p) d.kept d.chosen)) x ≡ pick (is_asked p) (f (asked-at true d)) x
  unfolding asked-at
  asked_same f x d = by (is_asked p)
    where
      by : (b : Bool) → pick b (f (asked-at b d)) x ≡ pick b (f (asked-at true d)) x
      by true = refl
      by false = refl

module _ (high : Bool) (packet : List ℕ) (time : ℕ) (w : World) where
  -- the world with the packet's payload on the shelf, and the plan of the packet there
  abbrev pub v : World
  v = laden high (plan_of high packet w) packet w

  abbrev plan : Plan
  plan = plan_of high packet v

  same : plan ≡ plan_of high packet w
  same = plan-shelf high packet v.shelf w

  -- the row of the device that a request would complete on
  abbrev pub row_of : Device
  row_of = device_begun high packet time v plan.close.entry.device

  module _ (h : List ℕ) (r : Shelved) (s : Shelves (reading_of high (plan_of high packet w)) row_of packet w.shelf h r) where
    abbrev p : Plan
    p = plan_of high packet w

    abbrev b : Bool
    b = is_asked p

    -- of a part of what is done, on the shelf with the payload and by what is asked
    as_ruled : {A : Type 0} (f : Asked → List ℕ → A) (g : List ℕ → A) (y : A)
        → y ≡ pick b (f (asked_with (reading_of high p) row_of.kept row_of.chosen) (laid_shelf (reading_of high p) packet w.shelf)) (g (laid_shelf (reading_of high p) packet w.shelf))
        → y ≡ pick (is_asked plan) (f (asked_close high packet time v) v.shelf) (g v.shelf)
    unfolding asked-at
    as_ruled f g y e =
        let l = laid_same high p packet w.shelf in
        e
        ∙ (λ i. pick b (f (asked_with (reading_of high p) row_of.kept row_of.chosen) (l i)) (g (l i)))
        ∙ asked_same high p (λ a. f a v.shelf) (g v.shelf) row_of
        ∙ (λ i. pick (is_asked (sym same i)) (f (record { setup = (sym same i).close.entry.setup; length = length_of (sym same i).close.effect; start = (sym same i).close.entry.device * 8192; kept = row_of.kept; chosen = row_of.chosen }) v.shelf) (g v.shelf))

    -- the shelf
    pub shelf-is : is_dropped w.slot w.transaction ≡ false → h ≡ (handle_raw_packet high packet time w).shelf
    shelf-is go =
        as_ruled (λ a l. shelf_by a l) (λ l. l) h s.stored
        ∙ sym (played-shelf high packet time v)
        ∙ sym (ap (λ (u : World). u.shelf) (packet-laden high packet time w go))

    -- the note
    pub note-is : r.note ≡ pick (is_asked plan) (note_by (asked_close high packet time v) v.shelf) 0
    note-is = as_ruled (λ a l. note_by a l) (λ l. 0) r.note s.note

    -- the device's row
    pub row_is : r.row ≡ pick (is_asked plan) (row_by (asked_close high packet time v) v.shelf row_of) row_of
    row_is = as_ruled (λ a l. row_by a l row_of) (λ l. row_of) r.row s.row

    -- and the row itself, in a log of requests that has n words
    pub request-is : is_dropped w.slot w.transaction ≡ false → w.journal ≡ [] → (requests : List ℕ) (n : ℕ)
        → pick (reading_of high p).asks (sets requests n (request_words (asking (reading_of high p).endpoint (reading_of high p).setup (reading_of high p).length r.note))) requests
        ≡ sets requests n (log 11 (handle_raw_packet high packet time w).journal)
    request-is go empty requests n =
        (λ i. let q = sym same i in pick (is_asked q) (sets requests n (request_words (asking q.begin.transaction.endpoint q.close.entry.setup (length_of q.close.effect) (note-is i)))) requests)
        ∙ by (is_asked plan)
        ∙ sym (ap (sets requests n)
        (ap (λ (u : World). log 11 u.journal) (packet-laden high packet time w go) ∙ played-requests high packet time v ∙ ap (λ (js : List Row). log 11 js ++ pick (is_asked plan) row []) empty))
      where
        row : List ℕ
        row = request_words (asking plan.begin.transaction.endpoint plan.close.entry.setup (length_of plan.close.effect) (note_by (asked_close high packet time v) v.shelf))

        by : (c : Bool) → pick c (sets requests n (request_words (asking plan.begin.transaction.endpoint plan.close.entry.setup (length_of plan.close.effect) (pick c (note_by (asked_close high packet time v) v.shelf) 0)))) requests ≡ sets requests n ([] ++ pick c row [])
        by true = refl
        by false = refl
