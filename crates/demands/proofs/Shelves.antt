-- What specs/Shelf.antt claims: the steps of a packet from two shelves that hold the same where something is kept, and so the answer and the state that are left.
use Prim.Native.Nat.{ℕ, zero, suc, ◌+◌, ◌*◌, ◌≤◌, min}
use native.Mathlib.Omega.{arith}
use mathlib.Core.Path.{◌≡◌, refl, sym, ap, subst, ◌∙◌}
use mathlib.Core.Bool.{Bool, true, false, ◌||◌}
use mathlib.Core.List.{List}
use lib.Dec.{ltb}
use lib.ListN.{length}
use Rattle.usb.specs.Packet.{payload_of}
use Rattle.transaction.specs.Table.{pick}
use Rattle.endpoints.specs.declared.Endpoint.{Endpoint}
use Rattle.group.specs.declared.Effect.{Effect}
use Rattle.group.specs.declared.Effect.TheVariants.{Request}
use Rattle.descriptors.specs.declared.complete.Asked.{Asked}
use Rattle.rules.specs.World.{World, with_shelf, with_slot, with_transaction}
use Rattle.rules.specs.Decoder.{handle_raw_packet}
use Rattle.rules.specs.Groups.{asked_at, asked_of}
use Rattle.rules.specs.Transactions.{is_dropped, shelf_with}
use Rattle.rules.specs.declared.Slot.TheVariants.{Empty}
use Rattle.record.specs.Answers.{Tests, packet_tests}
use Rattle.call.specs.Outcome.{is_ill, is_full, is_over, any_over, counts_after, decoder_of, Left, Answers, world_at}
use Rattle.call.proofs.OutcomeLaws.{unique}
use Rattle.call.specs.State.{State}
use Rattle.update.specs.Update.{when}
use Rattle.plan.specs.Devices.{asks, length_of}
use Rattle.plan.specs.Packet.{keeps, kept, with_packet, plan_of, played}
use Rattle.plan.specs.Sound.{world1, world2, world3, world4}
use Rattle.plan.specs.Step.{begun, ended}
use Rattle.plan.specs.declared.Plan.{Plan}
use Rattle.plan.proofs.Devices.{updated, shelf-ended, plan-quiet, device_begun, shelf-begun, closing-asked, closing-shelf}
use Rattle.plan.proofs.Frame.{when_past}
use Rattle.plan.proofs.Packet.{plan-shelf, packet-is, packet-laden, dropped-is}
use Rattle.packet.specs.Call.{after, tests_of, PacketCall}
use Rattle.demands.specs.Shelf.{Agree, SameKept, Reads}
use Rattle.demands.proofs.Alike.{fewer, laid-agree, Asks}
use Rattle.demands.proofs.Asked.{plan_good, begun_few}
use Rattle.demands.proofs.Unread.{Twin, begun-shelf, quiet-shelf, ended_twin}

-- ---- the steps of a packet

module _ (high : Bool) (packet : List ℕ) (time : ℕ) (v : World) (g : List ℕ) where
  abbrev plan : Plan
  plan = plan_of high packet v

  -- up to the end of the packet's own transaction
  before-close : world4 plan packet time (with_shelf g v) ≡ with_shelf g (world4 plan packet time v)
  before-close =
      let resume = begun v.packets plan.resume in
      let end : World → World = λ u. ended plan.old plan.end (with_transaction plan.brought u) in
      let a = when_past (with_shelf g) plan.resumes resume (begun-shelf g v.packets plan.resume) (world1 packet time v) in
      let b = when_past (with_shelf g) plan.ends end (λ u. quiet-shelf g plan.old plan.end (plan-quiet v high packet) (with_transaction plan.brought u)) (world2 plan packet time v) in
      ap (λ (u : World). begun v.packets plan.begin (when plan.ends end u)) a
      ∙ ap (begun v.packets plan.begin) b
      ∙ begun-shelf g v.packets plan.begin (world3 plan packet time v)

  module _ (payload : asks plan.close.effect ≡ true → Agree (plan.close.entry.device * 8192) (min (length_of plan.close.effect) 4096) v.shelf g)
      (entries : (i : ℕ) → Agree (i * 8192 + 4096) (min (v.devices i).kept 585 * 7) v.shelf g) where
    -- what a request that completes is asked
    asked : (n : ℕ) → plan.close.effect ≡ Request n
        → Asks (asked_of n plan.begin.transaction.endpoint (updated plan.begin.transaction.endpoint plan.close (world4 plan packet time v))) (world4 plan packet time v).shelf g
    asked n q =
        let d = plan.close.entry.device in
        let l : length_of plan.close.effect ≡ n = ap length_of q in
        let few = begun_few high packet time v d in
        let a = asked_at plan.close.entry.setup n d (device_begun high packet time v d) in
        let known : Asks a v.shelf g =
        record {
          payload = λ r. subst (λ (m : ℕ). Agree (d * 8192) (min m 4096) v.shelf g) l (payload (ap asks q));
          entries = fewer (d * 8192 + 4096) (min (device_begun high packet time v d).kept 585 * 7) (min (v.devices d).kept 585 * 7) v.shelf g (omega arith) (entries d);
        } in
        subst (λ (b : Asked). Asks b (world4 plan packet time v).shelf g) (sym (closing-asked high packet time v n))
        (subst (λ (h : List ℕ). Asks a h g) (sym (shelf-begun high packet time v)) known)

    pub played_twin : Twin (played plan packet time v) (played plan packet time (with_shelf g v))
    unfolding played
    played_twin = by plan.closes
      where
        x : ℕ
        x = plan.begin.transaction.endpoint

        w4 : World
        w4 = world4 plan packet time v

        by : (b : Bool) → Twin (with_slot plan.slot (when b (ended x plan.close) w4)) (with_slot plan.slot (when b (ended x plan.close) (world4 plan packet time (with_shelf g v))))
        by true =
            let t = ended_twin g x plan.close w4 asked (shelf-ended x plan.close w4) in
            record { shelf = t.shelf; same = ap (λ (u : World). with_slot plan.slot (ended x plan.close u)) before-close ∙ ap (with_slot plan.slot) t.same }
        by false = record { shelf = g; same = ap (with_slot plan.slot) before-close }

-- ---- a packet

-- the payload that it brings is laid by on both
shelf-agree : (b : Bool) (e : Endpoint) (packet h g : List ℕ) → length h ≡ length g → (at k : ℕ) → Agree at k h g → Agree at k (shelf_with b e packet h) (shelf_with b e packet g)
shelf-agree true e packet h g l at k q = laid-agree (e.device * 8192) e.payload (payload_of packet) h g l at k q
shelf-agree false e packet h g l at k q = q

module _ (high : Bool) (packet : List ℕ) (time : ℕ) (w : World) (h g : List ℕ) (same : SameKept w h g) where
  pub packet_twin : Twin (handle_raw_packet high packet time (with_shelf h w)) (handle_raw_packet high packet time (with_shelf g w))
  packet_twin = by (is_dropped w.slot w.transaction) refl
    where
      -- the worlds with the payload on the shelf
      v : World
      v = kept high (plan_of high packet (with_shelf h w)) packet (with_shelf h w)

      r : plan_of high packet (with_shelf h w) ≡ plan_of high packet v
      r = plan-shelf high packet h w ∙ sym (plan-shelf high packet v.shelf w)

      q : plan_of high packet (with_shelf g w) ≡ plan_of high packet v
      q = plan-shelf high packet g w ∙ sym (plan-shelf high packet v.shelf w)

      k : List ℕ
      k = shelf_with (keeps high (plan_of high packet v)) (plan_of high packet v).end.entry packet g

      laden : (at n : ℕ) → Agree at n h g → Agree at n v.shelf k
      laden at n e =
          subst (λ (p : Plan). Agree at n v.shelf (shelf_with (keeps high p) p.end.entry packet g)) r
          (shelf-agree (keeps high (plan_of high packet (with_shelf h w))) (plan_of high packet (with_shelf h w)).end.entry packet h g same.long at n e)

      by : (b : Bool) → is_dropped w.slot w.transaction ≡ b → Twin (handle_raw_packet high packet time (with_shelf h w)) (handle_raw_packet high packet time (with_shelf g w))
      by true d =
          record { shelf = g; same = dropped-is high packet time (with_shelf g w) d ∙ sym (ap (with_shelf g) (dropped-is high packet time (with_shelf h w) d)) }
      by false d =
          let t = played_twin high packet time v k
          (plan_good v v.shelf k (λ x. laden ((w.endpoints x).device * 8192) (min (w.endpoints x).payload 4096) (same.payload x)) high packet)
          (λ i. laden (i * 8192 + 4096) (min (w.devices i).kept 585 * 7) (same.entries i)) in
          let left = packet-laden high packet time (with_shelf h w) d in
          record {
            shelf = t.shelf;
            same = packet-is high packet time (with_shelf g w) d
                ∙ ap (λ (p : Plan). played p packet time (kept high p packet (with_shelf g w))) q
                ∙ t.same
                ∙ sym (ap (with_shelf t.shelf) left);
          }

-- ---- a call: no test and nothing that is left goes by the shelf

any-shelf : (n : ℕ) (z : List ℕ) (w : World) → any_over n (with_shelf z w) ≡ any_over n w
any-shelf zero z w = refl
any-shelf (suc n) z w = ap (λ (b : Bool). ltb 18446744073709551615 (w.endpoints n).total || b) (any-shelf n z w)

over-shelf : (z : List ℕ) (w : World) → is_over (with_shelf z w) ≡ is_over w
unfolding is_over
over-shelf z w = any-shelf w.count z w

full-shelf : (s : State) (z : List ℕ) (w : World) → is_full s (with_shelf z w) ≡ is_full s w
unfolding is_full counts_after
full-shelf s z w = refl

left-shelf : {f : Bool} {s s' : State} (z : List ℕ) (w : World) → Left (with_shelf z w) f s s' → Left w f s s'
unfolding decoder_of counts_after
left-shelf z w x =
    record {
      decoder = x.decoder;
      devices = record { size = x.devices.size; there = x.devices.there; beyond = x.devices.beyond };
      table = record { size = x.table.size; entries = x.table.entries; words = x.table.words; beyond = x.table.beyond; firsts = x.table.firsts };
      logs = x.logs;
    }

answers-shelf : {q r : Tests} {f : Bool} {s : State} {a : ℕ} {s' : State} (z : List ℕ) (w : World) → q ≡ r → Answers q (with_shelf z w) f s a s' → Answers r w f s a s'
answers-shelf {q} {r} {f} {s} {a} {s'} z w e x =
    let y : Answers r (with_shelf z w) f s a s' = subst (λ (t : Tests). Answers t (with_shelf z w) f s a s') e x in
    record { answer = y.answer; left = λ h. left-shelf z w (y.left h); kept = y.kept }

-- so two calls that leave worlds which differ in their shelves alone leave the same state, with the same answer
module _ (packet : List ℕ) (time : ℕ) (s : State) (h g : List ℕ) (t : Twin (after packet time s h) (after packet time s g)) where
  abbrev tests_from : World → Tests
  tests_from v = packet_tests (is_ill s) s.decoder.finished (length packet) (is_full s v) (is_over v) (is_dropped s.decoder.slot s.decoder.transaction)

  pub twins-answer : (a b : ℕ) (s' s'' : State) (h' g' : List ℕ) → PacketCall packet time s h a s' h' → PacketCall packet time s g b s'' g' → (a ≡ b) × (s' ≡ s'')
  twins-answer a b s' s'' h' g' x y =
      let w = after packet time s h in
      let full = full-shelf s t.shelf w in
      let over = over-shelf t.shelf w in
      let moved : Answers (tests_from (with_shelf t.shelf w)) (with_shelf t.shelf w) s.decoder.finished s b s'' =
      subst (λ (v : World). Answers (tests_from v) v s.decoder.finished s b s'') t.same y.answers in
      let same : tests_from (with_shelf t.shelf w) ≡ tests_from w = λ i. packet_tests (is_ill s) s.decoder.finished (length packet) (full i) (over i) (is_dropped s.decoder.slot s.decoder.transaction) in
      unique x.answers (answers-shelf t.shelf w same moved)

pub packet_reads : Reads
packet_reads packet time s h g a b s' s'' h' g' k x y = twins-answer packet time s h g (packet_twin s.decoder.high packet time (world_at s) h g k) a b s' s'' h' g' x y
