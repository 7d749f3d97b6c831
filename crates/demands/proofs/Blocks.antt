-- What specs/Blocks.antt claims: each record of a block is a call of the sequence, or none.
use Prim.Native.Nat.{ℕ, ◌-◌}
use native.Mathlib.Omega.{arith}
use mathlib.Core.Bool.{Bool, true, false}
use mathlib.Core.List.{List, [], ◌∷◌, ◌++◌}
use mathlib.Core.Path.{◌≡◌, refl, sym, ap, subst, ◌∙◌}
use lib.ListN.{take, drop}
use Rattle.rules.specs.Demand.{Call, packet, event, detail}
use Rattle.rules.specs.Rows.{Row}
use Rattle.trace.specs.Clock.{tick_of}
use Rattle.trace.specs.Trace.{next_at}
use Rattle.trace.specs.declared.Next.{Next}
use Rattle.trace.specs.declared.Next.TheVariants.{Packet, Event, Detail, Unknown, Cut, End}
use Rattle.trace.specs.declared.clock.Clock.{Clock}
use Rattle.call.specs.Outcome.{accepts}
use Rattle.call.specs.State.{State}
use Rattle.step.specs.Block.{Stand, Gives, Takes}
use Rattle.step.specs.Block.Takes.{done, stops, goes}
use Rattle.demands.specs.Sequence.{Does, adds, Sequence, then, Meets}
use Rattle.demands.specs.Blocks.{Continues, Blocks}
use Rattle.demands.proofs.Meets.{meets}

joined : (a b c : List Row) → a ++ (b ++ c) ≡ (a ++ b) ++ c
joined [] b c = refl
joined (x ∷ a) b c = ap (λ (l : List Row). x ∷ l) (joined a b c)

-- one call
called : {js : List Row} {s : State} (k : Call) (a : ℕ) (s' : State) → Sequence js s → Does k s a s' → Continues js s'
called {s = s} k a s' q d = record { rows = adds k s a; sequence = then k a s' q d }

-- a record is a call, or none, as a detail in a block
one : (typed : Bool) (t : List ℕ) (n : Next) (c : Clock) (s : Stand) {js : List Row} (a : ℕ) (s' : Stand) → Sequence js s.state → Gives typed t n c s a s' → Continues js s'.state
one typed t (Packet ticks start end next) c s a s' q g =
    called (packet (take (end - start) (drop start t)) (tick_of c ticks).time s.shelf) a s'.state q (record { left = s'.shelf; does = g })
one typed t (Event ticks kind code next) c s a s' q g = called (event kind code (tick_of c ticks).time) a s'.state q g.0
one false t (Detail address number direction kind max next) c s {js = js} a s' q g = record { rows = []; sequence = subst (λ (z : Stand). Sequence js z.state) (sym g.1) q }
one true t (Detail address number direction kind max next) c s a s' q g = called (detail address number direction kind max) a s'.state q g.0
one typed t Unknown c s {js = js} a s' q g = record { rows = []; sequence = subst (λ (z : Stand). Sequence js z.state) (sym g.1) q }
one typed t Cut c s {js = js} a s' q g = record { rows = []; sequence = subst (λ (z : Stand). Sequence js z.state) (sym g.1) q }
one typed t End c s a s' q g = absurd g

-- and none answers 1
not_1 : (typed : Bool) (t : List ℕ) (n : Next) (c : Clock) (s : Stand) {js : List Row} (a : ℕ) (s' : Stand) → Sequence js s.state → Gives typed t n c s a s' → ¬ (a ≡ 1)
not_1 typed t (Packet ticks start end next) c s a s' q g =
    (meets q).never_1 (packet (take (end - start) (drop start t)) (tick_of c ticks).time s.shelf) a s'.state (record { left = s'.shelf; does = g })
not_1 typed t (Event ticks kind code next) c s a s' q g = (meets q).never_1 (event kind code (tick_of c ticks).time) a s'.state g.0
not_1 false t (Detail address number direction kind max next) c s a s' q g = λ e. let h = g.0 in omega arith
not_1 true t (Detail address number direction kind max next) c s a s' q g = (meets q).never_1 (detail address number direction kind max) a s'.state g.0
not_1 typed t Unknown c s a s' q g = λ e. let h = g.0 in omega arith
not_1 typed t Cut c s a s' q g = λ e. let h = g.0 in omega arith
not_1 typed t End c s a s' q g = absurd g

pub block-sequence : {typed : Bool} {t : List ℕ} {at n e a p : ℕ} {c c' : Clock} {s s' : Stand} {js : List Row} → Sequence js s.state → Takes typed t at c s n e a p c' s' → Continues js s'.state
block-sequence q (done x) = record { rows = []; sequence = q }
block-sequence {typed} {t} {at} {a = a} {c = c} {s = s} {s' = s'} q (stops x h) = one typed t (next_at t at) c s a s' q x
block-sequence {typed} {t} {at} {c = c} {s = s} {s' = s''} {js = js} q (goes {s' = s'} b x h r) =
    let o = one typed t (next_at t at) c s b s' q x in
    let z = block-sequence o.sequence r in
    record { rows = z.rows ++ o.rows; sequence = subst (λ (l : List Row). Sequence l s''.state) (joined z.rows o.rows js) z.sequence }

pub block_never_1 : {typed : Bool} {t : List ℕ} {at n e a p : ℕ} {c c' : Clock} {s s' : Stand} {js : List Row} → Sequence js s.state → Takes typed t at c s n e a p c' s' → ¬ (a ≡ 1)
block_never_1 q (done x) = λ e. omega arith
block_never_1 {typed} {t} {at} {a = a} {c = c} {s = s} {s' = s'} q (stops x h) = not_1 typed t (next_at t at) c s a s' q x
block_never_1 {typed} {t} {at} {c = c} {s = s} q (goes {s' = s'} b x h r) = block_never_1 (one typed t (next_at t at) c s b s' q x).sequence r

pub blocks : Blocks
blocks = record { sequence = block-sequence; meets = λ q x. meets (block-sequence q x).sequence; never_1 = block_never_1 }
