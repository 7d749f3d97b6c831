-- What specs/Kept.antt claims: every call keeps `sound`, since it keeps the four parts of it on worlds, and a fresh decoder has it.
use Prim.Native.Nat.{ℕ, zero, suc, ◌<◌, ◌+◌}
use native.Mathlib.Omega.{arith}
use mathlib.Core.Path.{◌≡◌, refl, ap, ◌∙◌, subst}
use mathlib.Core.Bool.{Bool, true, false}
use mathlib.Core.Logic.{◌⊎◌, inl, inr}
use mathlib.Core.List.{List}
use borrow.Author.Tests.{eqb-true}
use lib.Dec.{eqb}
use lib.ListN.{length}
use Rattle.endpoints.specs.Word as word
use Rattle.details.specs.Details.{fresh}
use Rattle.details.specs.declared.Device.{Device}
use Rattle.std.specs.Prelude.{Option, Some, None}
use Rattle.rules.specs.Decoder as rules
use Rattle.rules.specs.Decoder.{handle_detail}
use Rattle.rules.specs.Demand.{Call, packet, event, detail, finishing, call}
use Rattle.rules.specs.Endpoints.{device_for, set_detail_on}
use Rattle.rules.specs.Tokened.{Tokened}
use Rattle.rules.specs.World.{World, with_devices}
use Rattle.rules.proofs.Linked.{linked-after}
use Rattle.rules.proofs.Tokened.{tokened-after}
use Rattle.record.specs.Answers.{Tests, first_of, detail_tests}
use Rattle.record.proofs.AnswersLaws.{Passed, accepted, answer_8}
use Rattle.record.specs.Bools.{either_true}
use Rattle.record.specs.Room.{roomy}
use Rattle.record.proofs.FormedLaws.{WellFormed}
use Rattle.record.specs.RoomLaws.{Roomy, roomy-is, roomy_same}
use Rattle.record.proofs.FreshLaws.{Agrees}
use Rattle.record.specs.declared.Counts.{Counts}
use Rattle.call.specs.Outcome.{is_ill, is_full, counts_after, Answers, accepts, world_at}
use Rattle.call.proofs.OutcomeLaws.{not_true, sound}
use Rattle.call.specs.State.{Logs, State, room_of}
use Rattle.typed.specs.Detail.{Details}
use Rattle.start.specs.Fresh.{Makes}
use Rattle.start.proofs.FreshLaws.{fresh-well, fresh_stands}
use Rattle.packet.specs.Call.{PacketCall, tests_of}
use Rattle.events.specs.Call.{EventCall, event_tests_of, FinishCall, finish_tests_of}
use Rattle.sound.specs.Fit.{Fit, Paid}
use Rattle.sound.specs.Kept.{Keeps, Kept}
use Rattle.sound.specs.Sound.{is_sound}
use Rattle.sound.proofs.Fits.{fit-after}
use Rattle.sound.proofs.Pays.{paid-after}
use Rattle.sound.proofs.Ties.{sound-well, fit_of, tokened_of, linked_of, paid_of, sound-is, left_sound}

-- ---- a call that is accepted passed all tests but the last

pub passed : (q : Tests) → accepts (first_of q) ≡ true → Passed q
passed q h = by (either_true (eqb (first_of q) 0) (eqb (first_of q) 8) h)
  where
    by : (eqb (first_of q) 0 ≡ true) ⊎ (eqb (first_of q) 8 ≡ true) → Passed q
    by (inl e) = (accepted q (eqb-true (first_of q) 0 e)).0
    by (inr e) = (answer_8 q (eqb-true (first_of q) 8 e)).0

pub room-left : (s : State) (w : World) → is_full s w ≡ false → Roomy s.table (counts_after s.decoder.counts w) (room_of s.logs)
unfolding is_full
room-left s w h = roomy-is _ _ _ (not_true (roomy s.table (counts_after s.decoder.counts w) (room_of s.logs)) h)

-- a detail appends nothing: its room is that of the record
still : (s : State) (f : ℕ → Device) → counts_after s.decoder.counts (with_devices f (world_at s)) ≡ s.decoder.counts
unfolding counts_after
still s f =
    let n = s.decoder.counts in
    λ i. record {
      bytes = n.bytes;
      devices = n.devices;
      endpoints = n.endpoints;
      packets = n.packets;
      events = none n.events i;
      transactions = n.transactions;
      groups = n.groups;
      statebytes = n.statebytes;
      states = none n.states i;
      items = n.items;
      links = none n.links i;
      requests = none n.requests i;
    }
  where
    none : (m : ℕ) → m + 0 ≡ m
    none m = omega arith

pub detail-room : (address number direction kind max : ℕ) (s : State) → WellFormed s.decoder s.devices s.table (room_of s.logs)
    → Roomy s.table (counts_after s.decoder.counts (handle_detail address number direction kind max (world_at s))) (room_of s.logs)
unfolding handle_detail
detail-room address number direction kind max s w = on (device_for address (world_at s))
  where
    before : Roomy s.table s.decoder.counts (room_of s.logs)
    before = record { begun = w.begun; held = w.counts; numbered = w.numbered }

    on : (g : Option ℕ) → Roomy s.table (counts_after s.decoder.counts (set_detail_on g number direction kind max (world_at s))) (room_of s.logs)
    on (Some i) = roomy_same (λ k. refl) (still s _) before
    on None = roomy_same (λ k. refl) (still s (world_at s).devices) before

-- ---- a fresh decoder

fresh_paid : Paid rules.fresh
unfolding fresh
fresh_paid zero u = omega arith
fresh_paid (suc zero) u = omega arith
fresh_paid (suc (suc zero)) u = omega arith
fresh_paid (suc (suc (suc i))) u = absurd (omega arith)

agreed : (w v : World) → Agrees w v → Paid v → Paid w
agreed w v a p i u =
    let h : i < v.count = subst (λ (c : ℕ). i < c) a.count u in
    let e = a.endpoints i h in
    let z = a.slot in
    let t = a.transaction in
    let b = a.bytes in
    rw (e, z, t, b) (p i h)

pub sound-fresh : (high : Bool) (v : List Device) (t : List ℕ) (l : Logs) (s : State) → Makes high v t l 0 s → length t ≡ word.table → 0 < length v → is_sound s ≡ true
sound-fresh high v t l s m ht hv =
    let g = sound s (fresh-well m ht hv) in
    sound-is s g.1 g.0 (agreed (world_at s) rules.fresh (fresh_stands m ht hv) fresh_paid)

-- ---- every call

-- one that is accepted leaves what the rules leave, and any other leaves all as it was
keeps : (k : Call) (s : State) (q : Tests) (f : Bool) (a : ℕ) (s' : State) → (Passed q → Roomy s.table (counts_after s.decoder.counts (call s.decoder.high k (world_at s))) (room_of s.logs))
    → Answers q (call s.decoder.high k (world_at s)) f s a s' → is_sound s ≡ true → is_sound s' ≡ true
keeps k s q f a s' room x h = by (accepts (first_of q)) refl
  where
    fits : Fit s.decoder.counts.links (world_at s)
    fits = fit_of s h

    tokened : Tokened (world_at s)
    tokened = tokened_of s h

    some : 0 < (world_at s).count
    some = let l = fits.three in omega arith

    by : (b : Bool) → accepts (first_of q) ≡ b → is_sound s' ≡ true
    by true e =
        left_sound s s' (call s.decoder.high k (world_at s)) f (x.left e) (fit-after s.decoder.high k _ (world_at s) fits tokened (linked_of s h)) (paid-after s.decoder.high k (world_at s) some tokened (paid_of s h))
        (sound s (sound-well s h)).1 (room (passed q e)) (tokened-after s.decoder.high k (world_at s) (fits.three, fits.event.address) tokened) (linked-after s.decoder.high k (world_at s) (linked_of s h))
    by false e = ap is_sound (x.kept e) ∙ h

pub sound-packet : (bytes : List ℕ) (time : ℕ) (shelf shelf' : List ℕ) → Keeps (λ s a s'. PacketCall bytes time s shelf a s' shelf')
sound-packet bytes time shelf shelf' s a s' x h = keeps (packet bytes time shelf) s (tests_of bytes time s shelf) s.decoder.finished a s' (λ p. room-left s _ p.full) x.answers h

pub sound-event : (kind code time : ℕ) → Keeps (EventCall kind code time)
sound-event kind code time s a s' x h = keeps (event kind code time) s (event_tests_of kind (call s.decoder.high (event kind code time) (world_at s)) s) s.decoder.finished a s' (λ p. room-left s _ p.full) x h

pub sound-finish : Keeps FinishCall
sound-finish s a s' x h = keeps finishing s (finish_tests_of (call s.decoder.high finishing (world_at s)) s) true a s' (λ p. room-left s _ p.full) x h

pub sound-detail : (address number direction kind max : ℕ) → Keeps (Details address number direction kind max)
unfolding Details
sound-detail address number direction kind max s a s' x h =
    keeps (detail address number direction kind max) s (detail_tests (is_ill s) s.decoder.finished number direction kind (device_for address (world_at s))) s.decoder.finished a s'
    (λ p. detail-room address number direction kind max s (sound s (sound-well s h)).0) x h

pub kept : Kept
kept = record { well = sound-well; fresh = sound-fresh; packet = sound-packet; event = sound-event; detail = sound-detail; finish = sound-finish }
