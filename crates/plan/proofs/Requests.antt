-- The log of requests: a packet appends the row of the request that it completes, if any, and no other.
use mathlib.Core.Path.{◌≡◌, refl, sym, ap, ◌∙◌}
use mathlib.Core.Bool.{Bool, true, false, ◌&&◌}
use mathlib.Core.List.{List, [], ◌∷◌, ◌++◌, append-nil}
use Prim.Native.Nat.{ℕ}
use Rattle.transaction.specs.Table.{pick}
use Rattle.endpoints.specs.declared.Endpoint.{Endpoint}
use Rattle.descriptors.specs.Complete.{note_by}
use Rattle.descriptors.specs.declared.complete.Asked.{Asked}
use Rattle.group.specs.declared.Effect.{Effect}
use Rattle.group.specs.declared.Effect.TheVariants.{NoEffect, NewDevice, Request, PendingData, IndexData}
use Rattle.rules.specs.Rows.{BytesRow, PacketRow, asking, request_words, log}
use Rattle.rules.specs.World.{World, with_transaction, change}
use Rattle.rules.specs.Groups.{becomes, asked_at, asked_of, effect_step}
use Rattle.update.specs.Update.{when, act}
use Rattle.update.specs.declared.Update.{Update}
use Rattle.plan.specs.Devices.{asks, length_of, asked_by}
use Rattle.plan.specs.Packet.{plan_of, played}
use Rattle.plan.specs.Sound.{world1, world2, world3, world4}
use Rattle.plan.specs.Step.{opened, begun, ended}
use Rattle.plan.specs.declared.Begin.{Begin}
use Rattle.plan.specs.declared.End.{End}
use Rattle.plan.specs.declared.Plan.{Plan}
use Rattle.plan.proofs.Frame.{act-log, opened-log, row-log, setup_fixed}
use Rattle.plan.proofs.Devices.{updated, own-entry, asked-ended, shelf-ended, begun_at, shelf-begun, device_begun, asked_close, plan-quiet}

abbrev requests_in : World → List ℕ
requests_in w = log 11 w.journal

act-requests : (u : Update) (x : ℕ) (w : World) → requests_in (act u x w) ≡ requests_in w
act-requests u x w = act-log 11 refl refl refl refl refl u x w

begun-requests : (id : ℕ) (s : Begin) (w : World) → requests_in (begun id s w) ≡ requests_in w
unfolding begun
begun-requests id s w =
    act-requests s.update s.transaction.endpoint (with_transaction s.transaction (opened id s w)) ∙ opened-log 11 refl refl refl id s w

-- the row of an end on the endpoint x with these setup data, by what it is asked
abbrev pub row_words : Effect → ℕ → ℕ → Asked → List ℕ → List ℕ
row_words f x setup a shelf = pick (asks f) (request_words (asking x setup (length_of f) (note_by a shelf))) []

effect-requests : (f : Effect) (x : ℕ) (w : World) → requests_in (effect_step f x w) ≡ requests_in w ++ row_words f x (w.endpoints x).setup (asked_of (length_of f) x w) w.shelf
effect-requests NoEffect x w = sym (append-nil (requests_in w))
effect-requests (NewDevice a) x w = refl
effect-requests (Request n) x w = refl
effect-requests (PendingData n) x w = sym (append-nil (requests_in w))
effect-requests (IndexData n waited i) x w = refl

ended-requests : (x : ℕ) (s : End) (w : World) → requests_in (ended x s w) ≡ requests_in w ++ row_words s.effect x s.entry.setup (asked_by s w.devices) w.shelf
unfolding ended
ended-requests x s w =
    let u = own-entry x s w (λ e. e.setup) setup_fixed in
    let q = asked-ended x s w (length_of s.effect) in
    let h = shelf-ended x s w in
    let l = act-requests s.update x (change x (becomes s.entry) w) in
    effect-requests s.effect x (updated x s w) ∙ λ i. l i ++ row_words s.effect x (u i) (q i) (h i)

module _ (high : Bool) (packet : List ℕ) (time : ℕ) (w : World) where
  abbrev plan : Plan
  plan = plan_of high packet w

  begun-log : requests_in (world4 plan packet time w) ≡ requests_in w
  begun-log = begun-requests w.packets plan.begin (world3 plan packet time w) ∙ ends plan.ends ∙ resume plan.resumes ∙ own
    where
      own : requests_in (world1 packet time w) ≡ requests_in w
      own = row-log 11 (PacketRow w.bytes time) (BytesRow packet ∷ w.journal) refl ∙ row-log 11 (BytesRow packet) w.journal refl

      resume : (b : Bool) → requests_in (when b (begun w.packets plan.resume) (world1 packet time w)) ≡ requests_in (world1 packet time w)
      resume true = begun-requests w.packets plan.resume (world1 packet time w)
      resume false = refl

      ends : (b : Bool) → requests_in (when b (λ v. ended plan.old plan.end (with_transaction plan.brought v)) (world2 plan packet time w)) ≡ requests_in (world2 plan packet time w)
      ends true =
          let v = with_transaction plan.brought (world2 plan packet time w) in
          let d = plan.end.entry.device in
          ended-requests plan.old plan.end v
          ∙ ap (λ (f : Effect). requests_in v ++ row_words f plan.old plan.end.entry.setup (asked_at plan.end.entry.setup (length_of f) d (v.devices d)) v.shelf) (plan-quiet w high packet)
          ∙ append-nil (requests_in v)
      ends false = refl

  -- the row of the request that completes: its endpoint, its setup data, the length of its payload, its note
  pub played-requests : requests_in (played plan packet time w)
      ≡ requests_in w ++ pick (plan.closes && asks plan.close.effect) (request_words (asking plan.begin.transaction.endpoint plan.close.entry.setup (length_of plan.close.effect) (note_by (asked_close high packet time w) w.shelf))) []
  unfolding played
  played-requests = by plan.closes
    where
      row : List ℕ
      row = request_words (asking plan.begin.transaction.endpoint plan.close.entry.setup (length_of plan.close.effect) (note_by (asked_close high packet time w) w.shelf))

      by : (b : Bool) → requests_in (when b (ended plan.begin.transaction.endpoint plan.close) (world4 plan packet time w)) ≡ requests_in w ++ pick (b && asks plan.close.effect) row []
      by true =
          ended-requests plan.begin.transaction.endpoint plan.close (world4 plan packet time w)
          ∙ λ i. begun-log i ++ row_words plan.close.effect plan.begin.transaction.endpoint plan.close.entry.setup (asked_by plan.close (λ k. begun_at high packet time w k i)) (shelf-begun high packet time w i)
      by false = begun-log ∙ sym (append-nil (requests_in w))
