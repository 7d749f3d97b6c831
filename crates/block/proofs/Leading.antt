-- The laws of records that lead from one state to another (Leads): none, one, one run behind another, packets by the inner call, and where the block is over.
use Prim.Native.Nat.{ℕ, suc, ◌+◌, ◌≤◌, ◌<◌}
use native.Mathlib.Omega.{arith}
use mathlib.Core.Bool.{Bool, true, false, cond}
use mathlib.Core.List.{List}
use mathlib.Core.Path.{◌≡◌, refl, sym, ap, subst, ◌∙◌}
use lib.Dec.{eqb}
use Rattle.rows.specs.One.{one}
use Rattle.trace.specs.Clock.{tick_of}
use Rattle.trace.specs.Trace.{next_at}
use Rattle.trace.specs.declared.Next.{Next}
use Rattle.trace.specs.declared.Next.TheVariants.{Packet, Event, Detail, Unknown, Cut, End}
use Rattle.trace.specs.declared.clock.Clock.{Clock}
use Rattle.call.specs.Outcome.{accepts}
use Rattle.call.specs.State.{Logs}
use Rattle.typed.specs.Detail.{Details}
use Rattle.packet.specs.Call.{PacketCall}
use Rattle.sound.proofs.Keeps.{kept}
use Rattle.step.specs.Block.{Stand, clock_after, behind, Gives, Takes}
use Rattle.step.specs.Block.Takes.{stops, goes}
use Rattle.step.specs.Step.{Goes}
use Rattle.step.proofs.Stepping.{here}
use Rattle.stream.specs.Led as stream
use Rattle.stream.specs.Led.{bytes_of, Calls, Led}
use Rattle.stream.specs.Led.Led.{none, more}
use Rattle.stream.specs.Part.{clock_by}
use Rattle.stream.specs.declared.Run.{Run}
use Rattle.stream.specs.declared.part.Part.{Part}
use Rattle.stream.specs.declared.part.Reader.TheVariants.{Trace}
use Rattle.stream.proofs.Finding.{finds_inside}
use Rattle.stream.proofs.Staying.{Stays, stays_same, stays_fit, answers_stay, eight_small}
use Rattle.block.specs.Leads.{Leads, Runs}

-- ---- what an accepted record leaves

gives_stay : (typed : Bool) (t : List ℕ) (n : Next) (c : Clock) (s : Stand) (a : ℕ) (s' : Stand) → Gives typed t n c s a s' → accepts a ≡ true → Stays s.state s'.state
unfolding Details
gives_stay typed t (Packet ticks start end next) c s a s' x e = answers_stay (kept.packet _ _ s.shelf s'.shelf s.state a s'.state x) x.answers e
gives_stay typed t (Event ticks kind code next) c s a s' x e = answers_stay (kept.event kind code _ s.state a s'.state x.0) x.0 e
gives_stay false t (Detail address number direction kind max next) c s a s' x e = subst (λ (u : Stand). Stays s.state u.state) (sym x.1) (stays_same s.state)
gives_stay true t (Detail address number direction kind max next) c s a s' x e = answers_stay (kept.detail address number direction kind max s.state a s'.state x.0) x.0 e
gives_stay typed t Unknown c s a s' x e = subst (λ (u : Stand). Stays s.state u.state) (sym x.1) (stays_same s.state)
gives_stay typed t Cut c s a s' x e = subst (λ (u : Stand). Stays s.state u.state) (sym x.1) (stays_same s.state)
gives_stay typed t End c s a s' x e = absurd x

-- ---- records that lead on

-- with other words for the counts
counted : {typed : Bool} {t : List ℕ} {at n n' e e' a p : ℕ} {c c' : Clock} {s s' : Stand} → n ≡ n' → e ≡ e' → Takes typed t at c s n e a p c' s' → Takes typed t at c s n' e' a p c' s'
counted {typed} {t} {at} {n} {n'} {e} {e'} {a} {p} {c} {c'} {s} {s'} h k x =
    subst (λ (m : ℕ). Takes typed t at c s m e' a p c' s') h (subst (λ (f : ℕ). Takes typed t at c s n f a p c' s') k x)

pub leads-start : {typed : Bool} (t : List ℕ) (at : ℕ) (c : Clock) (s : Stand) → Leads typed t at c s 0 0 at c s
leads-start t at c s = record { few = omega arith; eights = omega arith; fits = λ b h. h; many = refl; rest = λ x. counted (omega arith) (omega arith) x }

pub leads_one : {typed : Bool} {t : List ℕ} {at a next : ℕ} {c c' : Clock} {s s' : Stand} → Goes typed t at c s a next c' s' → Leads typed t at c s 1 (one (eqb a 8)) next c' s'
leads_one {typed} {t} {at} {a} {next} {c} {c'} {s} {s'} g =
    let f = g.further in
    let h = gives_stay typed t (next_at t at) c s a s' g.gives g.accepted in
    record {
      few = omega (arith, f.0);
      eights = eight_small a refl;
      fits = stays_fit h;
      many = h.many;
      rest = λ {m} {f} {a = b} {p} {c''} {s''} x. counted (omega arith) refl
          (goes a g.gives g.accepted (subst (λ (i : ℕ). Takes typed t i (clock_after (next_at t at) c) s' m f b p c'' s'') g.place (subst (λ (u : Clock). Takes typed t next u s' m f b p c'' s'') g.clock x)));
    }

pub leads-then : {typed : Bool} {t : List ℕ} {at at' at'' n m e f : ℕ} {c c' c'' : Clock} {s s' s'' : Stand} → Leads typed t at c s n e at' c' s' → Leads typed t at' c' s' m f at'' c'' s'' → Leads typed t at c s (n + m) (e + f) at'' c'' s''
leads-then {n = n} {m = m} {e = e} {f = f} x y =
    record {
      few = omega (arith, x.few, y.few);
      eights = omega (arith, x.eights, y.eights);
      fits = λ b h. y.fits b (x.fits b h);
      many = y.many ∙ x.many;
      rest = λ z. counted (omega arith) (omega arith) (x.rest (y.rest z));
    }

-- the block is over where they lead to
pub leads-over : {typed : Bool} {t : List ℕ} {at at' n e a p : ℕ} {c c' c'' : Clock} {s s' s'' : Stand} → Leads typed t at c s n e at' c' s' → Takes typed t at' c' s' 0 0 a p c'' s'' → Takes typed t at c s n e a p c'' s''
leads-over x z = counted (omega arith) (omega arith) (x.rest z)

-- ---- packets by the inner call

module _ {t : List ℕ} {at a : ℕ} {c : Clock} {s s' : Stand} {p : Part} (typed : Bool) (x : Calls Trace t at c s p a s') where
  packet_gives : Gives typed t (next_at t at) c s a s'
  packet_gives =
      let k = x.finds in
      here typed t at c s (Packet p.ticks p.start p.end k.next) a s' k.found
      (subst (λ (i : ℕ). PacketCall (bytes_of t p) i s.state s.shelf a s'.state s'.shelf) k.told x.call)

  packet_goes : accepts a ≡ true → Goes typed t at c s a p.next (clock_by p) s'
  packet_goes h =
      let k = x.finds in
      let i = finds_inside Trace t at c p k in
      let q : clock_by p ≡ tick_of c p.ticks = λ j. record { started = true; last = p.ticks; time = k.told j } in
      record {
        gives = packet_gives;
        accepted = h;
        place = k.place ∙ ap (λ (m : Next). behind m at) (sym k.found);
        clock = q ∙ ap (λ (m : Next). clock_after m c) (sym k.found);
        further = (i.grows, i.stays);
      }

led_leads : {t : List ℕ} {at n e at' : ℕ} {c c' : Clock} {s s' : Stand} (typed : Bool) → Led Trace t at c s n e at' c' s' → Leads typed t at c s n e at' c' s'
led_leads {t} {at} {c = c} {s = s} typed none = leads-start t at c s
led_leads typed (more p a l x h) = leads-then (led_leads typed l) (leads_one (packet_goes typed x h))

-- whether typed-in details are obeyed or not
pub runs_by : {t : List ℕ} {at : ℕ} {c : Clock} {s : Stand} {r : Run} {table : List ℕ} {l : Logs} {h : List ℕ} (typed : Bool) → stream.Runs Trace t at c s r table l h → Runs typed t at c s r table l h
runs_by typed x =
    record {
      leads = λ z. led_leads typed x.led;
      over = λ z. let o = x.over z in leads-over (led_leads typed x.led) (stops (packet_gives typed o.calls) o.refused);
      counted = x.counted;
    }
