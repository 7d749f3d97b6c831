-- The laws of one record by its public call: what it gives is a step of the block.
use Prim.Native.Nat.{ℕ, ◌-◌, ◌≤◌, ◌<◌}
use native.Mathlib.Omega.{arith}
use mathlib.Core.Bool.{Bool, true, false, true≢false}
use mathlib.Core.List.{List}
use mathlib.Core.Path.{◌≡◌, refl, sym, ap, subst, ◌∙◌}
use lib.ListN.{length, take, drop}
use Rattle.details.specs.declared.Device.{Device}
use Rattle.record.specs.declared.Decoder.{Decoder}
use Rattle.trace.specs.Clock.{tick_of}
use Rattle.trace.proofs.Laws.{packet_inside, event_inside, detail_inside}
use Rattle.trace.specs.Trace.{next_at, answer_of}
use Rattle.trace.specs.declared.Cursor.{Cursor}
use Rattle.trace.specs.declared.Next.{Next}
use Rattle.trace.specs.declared.Next.TheVariants.{Packet, Event, Detail, Unknown, Cut, End}
use Rattle.trace.specs.declared.clock.Clock.{Clock}
use Rattle.call.specs.State.{Logs, state}
use Rattle.typed.specs.Detail.{Details}
use Rattle.packet.specs.Call.{PacketCall}
use Rattle.events.specs.Call.{EventCall}
use Rattle.step.specs.Block.{Stand, stand, clock_after, behind, Typed, Gives, Takes}
use Rattle.step.specs.Block.Takes.{done, stops}
use Rattle.step.specs.Step.{went_with, over_with, Goes, Steps}
use Rattle.step.specs.declared.Stepped.{Stepped}

pub packet_bounds : (t : List ℕ) (at : ℕ) {ticks start end : ℕ} {next : Cursor} → next_at t at ≡ Packet ticks start end next → (start ≤ end) × (end ≤ length t)
packet_bounds t at {ticks} {start} {end} {next} e =
    let i = packet_inside t at ticks start end next (sym e) in
    let last = i.last in
    let stays = i.whole.stays in
    (i.part, omega arith)

-- what was found at the place stands there
pub here : (typed : Bool) (t : List ℕ) (at : ℕ) (c : Clock) (s : Stand) (n : Next) (a : ℕ) (s' : Stand) → next_at t at ≡ n → Gives typed t n c s a s' → Gives typed t (next_at t at) c s a s'
here typed t at c s n a s' e x = subst (λ (m : Next). Gives typed t m c s a s') (sym e) x

module _ {typed : Bool} {t : List ℕ} {at : ℕ} {c : Clock} {s : Stand} {r : Stepped} {table : List ℕ} {l : Logs} {h : List ℕ} where
  -- nothing goes on from here
  over-step : {a : ℕ} {c' : Clock} {d : Decoder} {v : List Device} → Takes typed t at c s 0 0 a at c (stand (state d v table l) h) → r ≡ over_with a at c' d v → Steps typed t at c s r table l h
  over-step x e = subst (λ (q : Stepped). Steps typed t at c s q table l h) (sym e) (record { over = λ z. x; goes = λ z. absurd (true≢false (sym z)) })

  -- a whole record, with the clock behind it
  record-step : (n : Next) (a : ℕ) (d : Decoder) (v : List Device) {c' : Clock}
      → next_at t at ≡ n
      → c' ≡ clock_after n c
      → Gives typed t n c s a (stand (state d v table l) h)
      → (at < behind n at) × (behind n at ≤ length t)
      → r ≡ went_with a (behind n at) c' d v
      → Steps typed t at c s r table l h
  record-step n a d v e k x f q =
      let y = here typed t at c s n a (stand (state d v table l) h) e x in
      subst (λ (q : Stepped). Steps typed t at c s q table l h) (sym q)
      (record { over = stops y; goes = λ z. record { gives = y; accepted = z; place = ap (λ (m : Next). behind m at) (sym e); clock = k ∙ ap (λ (m : Next). clock_after m c) (sym e); further = f } })

  pub packet-step : {ticks start end a : ℕ} {next : Cursor} {c' : Clock} {d : Decoder} {v : List Device}
      → next_at t at ≡ Packet ticks start end next
      → c' ≡ tick_of c ticks
      → PacketCall (take (end - start) (drop start t)) c'.time s.state s.shelf a (state d v table l) h
      → r ≡ went_with a next.at c' d v
      → Steps typed t at c s r table l h
  packet-step {ticks} {start} {end} {a} {next} {d = d} {v = v} e k x q =
      let i = (packet_inside t at ticks start end next (sym e)).whole in
      let y = subst (λ (u : Clock). PacketCall (take (end - start) (drop start t)) u.time s.state s.shelf a (state d v table l) h) k x in
      record-step (Packet ticks start end next) a d v e k y (i.grows, i.stays) q

  pub event-step : {ticks kind code a : ℕ} {next : Cursor} {c' : Clock} {d : Decoder} {v : List Device}
      → next_at t at ≡ Event ticks kind code next
      → c' ≡ tick_of c ticks
      → EventCall kind code c'.time s.state a (state d v table l)
      → h ≡ s.shelf
      → r ≡ went_with a next.at c' d v
      → Steps typed t at c s r table l h
  event-step {ticks} {kind} {code} {a} {next} {d = d} {v = v} e k x z q =
      let i = event_inside t at ticks kind code next (sym e) in
      let y = subst (λ (u : Clock). EventCall kind code u.time s.state a (state d v table l)) k x in
      record-step (Event ticks kind code next) a d v e k (y, z) (i.grows, i.stays) q

  -- a detail that is obeyed
  pub detail-step : {address number direction kind max a : ℕ} {next : Cursor} {d : Decoder} {v : List Device}
      → typed ≡ true
      → next_at t at ≡ Detail address number direction kind max next
      → Details address number direction kind max s.state a (state d v table l)
      → h ≡ s.shelf
      → r ≡ went_with a next.at c d v
      → Steps typed t at c s r table l h
  detail-step {address} {number} {direction} {kind} {max} {a} {next} {d} {v} w e x z q =
      let i = detail_inside t at address number direction kind max next (sym e) in
      let y = subst (λ (b : Bool). Typed b address number direction kind max s a (stand (state d v table l) h)) (sym w) (x, z) in
      record-step (Detail address number direction kind max next) a d v e refl y (i.grows, i.stays) q

-- a detail in a block, and no whole record
module _ {typed : Bool} {t : List ℕ} {at : ℕ} {c c' : Clock} {s : Stand} {r : Stepped} where
  pub refused-step : {address number direction kind max : ℕ} {next : Cursor}
      → typed ≡ false
      → next_at t at ≡ Detail address number direction kind max next
      → r ≡ over_with 20 at c' s.state.decoder s.state.devices
      → Steps typed t at c s r s.state.table s.state.logs s.shelf
  refused-step {address} {number} {direction} {kind} {max} {next} w e k =
      let y = subst (λ (b : Bool). Typed b address number direction kind max s 20 s) (sym w) (refl, refl) in
      over-step (stops (here typed t at c s (Detail address number direction kind max next) 20 s e y) refl) k

  pub unknown-step : {a : ℕ} → next_at t at ≡ Unknown → a ≡ answer_of Unknown → r ≡ over_with a at c' s.state.decoder s.state.devices → Steps typed t at c s r s.state.table s.state.logs s.shelf
  unknown-step e q k =
      over-step (stops (here typed t at c s Unknown 12 s e (refl, refl)) refl) (k ∙ ap (λ (a : ℕ). over_with a at c' s.state.decoder s.state.devices) q)

  pub cut_step : {a : ℕ} → next_at t at ≡ Cut → a ≡ answer_of Cut → r ≡ over_with a at c' s.state.decoder s.state.devices → Steps typed t at c s r s.state.table s.state.logs s.shelf
  cut_step e q k =
      over-step (stops (here typed t at c s Cut 13 s e (refl, refl)) refl) (k ∙ ap (λ (a : ℕ). over_with a at c' s.state.decoder s.state.devices) q)

  pub end_step : {a : ℕ} → next_at t at ≡ End → a ≡ answer_of End → r ≡ over_with a at c' s.state.decoder s.state.devices → Steps typed t at c s r s.state.table s.state.logs s.shelf
  end_step e q k = over-step (done e) (k ∙ ap (λ (a : ℕ). over_with a at c' s.state.decoder s.state.devices) q)
