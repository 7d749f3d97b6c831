-- Laws (proved): the mode for high-bandwidth isochronous data (02, 6) stays the one that was chosen at the fresh decoder: every call leaves it, refused ones among them, and so does
-- a block or a trace.
use Prim.Native.Nat.{ℕ, ◌-◌}
use mathlib.Core.Bool.{Bool, true, false}
use mathlib.Core.List.{List}
use mathlib.Core.Path.{◌≡◌, refl, ap, ◌∙◌}
use lib.ListN.{take, drop}
use Rattle.trace.specs.Clock.{tick_of}
use Rattle.trace.specs.Trace.{next_at}
use Rattle.trace.specs.declared.Next.{Next}
use Rattle.trace.specs.declared.Next.TheVariants.{Packet, Event, Detail, Unknown, Cut, End}
use Rattle.trace.specs.declared.clock.Clock.{Clock}
use Rattle.details.specs.declared.Device.{Device}
use Rattle.rules.specs.Demand.{Call, packet, event, detail}
use Rattle.record.specs.declared.Decoder.{Decoder}
use Rattle.call.specs.Outcome.{decoder_of, accepts}
use Rattle.call.specs.State.{Logs, State}
use Rattle.start.specs.Fresh.{made, Makes}
use Rattle.step.specs.Block.{Stand, Gives, Takes}
use Rattle.step.specs.Block.Takes.{done, stops, goes}
use Rattle.demands.specs.Sequence.{Does}
use Rattle.demands.proofs.Steps.{moved, stayed}

-- the fresh decoder has it
pub high-chosen : {high : Bool} {v : List Device} {t : List ℕ} {l : Logs} {s : State} → Makes high v t l 0 s → s.decoder.high ≡ high
unfolding made
high-chosen m = ap (λ (s : State). s.decoder.high) (m.accepted refl)

pub high-kept : (k : Call) (s : State) (a : ℕ) (s' : State) → Does k s a s' → s'.decoder.high ≡ s.decoder.high
unfolding decoder_of
high-kept k s a s' d = by (accepts a) refl
  where
    by : (b : Bool) → accepts a ≡ b → s'.decoder.high ≡ s.decoder.high
    by true e = ap (λ (x : Decoder). x.high) (moved k s a s' d e).left.decoder
    by false e = ap (λ (x : State). x.decoder.high) (stayed k s a s' d e)

-- a record is a call, or none
one-high : (typed : Bool) (t : List ℕ) (n : Next) (c : Clock) (s : Stand) (a : ℕ) (s' : Stand) → Gives typed t n c s a s' → s'.state.decoder.high ≡ s.state.decoder.high
one-high typed t (Packet ticks start end next) c s a s' g =
    high-kept (packet (take (end - start) (drop start t)) (tick_of c ticks).time s.shelf) s.state a s'.state (record { left = s'.shelf; does = g })
one-high typed t (Event ticks kind code next) c s a s' g = high-kept (event kind code (tick_of c ticks).time) s.state a s'.state g.0
one-high false t (Detail address number direction kind max next) c s a s' g = ap (λ (z : Stand). z.state.decoder.high) g.1
one-high true t (Detail address number direction kind max next) c s a s' g = high-kept (detail address number direction kind max) s.state a s'.state g.0
one-high typed t Unknown c s a s' g = ap (λ (z : Stand). z.state.decoder.high) g.1
one-high typed t Cut c s a s' g = ap (λ (z : Stand). z.state.decoder.high) g.1
one-high typed t End c s a s' g = absurd g

pub block-high : {typed : Bool} {t : List ℕ} {at n e a p : ℕ} {c c' : Clock} {s s' : Stand} → Takes typed t at c s n e a p c' s' → s'.state.decoder.high ≡ s.state.decoder.high
block-high (done x) = refl
block-high {typed} {t} {at} {a = a} {c = c} {s = s} {s' = s'} (stops x h) = one-high typed t (next_at t at) c s a s' x
block-high {typed} {t} {at} {c = c} {s = s} {s' = s''} (goes {s' = s'} b x h r) = block-high r ∙ one-high typed t (next_at t at) c s b s' x
