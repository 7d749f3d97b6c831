-- The laws of a run: its records as one block from behind the header on, finish behind them, and the header and `fresh` before them.
use Prim.Native.Nat.{ℕ}
use mathlib.Core.Bool.{Bool, true}
use mathlib.Core.List.{List, replicate}
use mathlib.Core.Path.{◌≡◌, sym, ap, subst, ◌∙◌}
use lib.ListN.{length}
use Rattle.std.specs.Prelude.{Result}
use Rattle.details.specs.Details.{fresh}
use Rattle.details.specs.declared.Device.{Device}
use Rattle.record.specs.Fresh.{refused_decoder}
use Rattle.record.specs.declared.Decoder.{Decoder}
use Rattle.trace.specs.Clock.{stopped}
use Rattle.trace.specs.Trace.{header_of, header_answer, header_place}
use Rattle.trace.specs.declared.HeaderError.{HeaderError}
use Rattle.trace.specs.declared.clock.Clock.{Clock}
use Rattle.call.specs.State.{Logs, State, state}
use Rattle.start.specs.Fresh.{Makes, unmade, no_devices}
use Rattle.start.proofs.FreshLaws.{made_on}
use Rattle.events.specs.Call.{FinishCall}
use Rattle.step.specs.Block.{Stand, stand, Takes}
use Rattle.run.specs.NotMade.{not_made}
use Rattle.run.specs.Run.{Runs, Ran}
use Rattle.run.specs.Run.Ran.{wrong, refused, runs}
use Rattle.run.specs.Run.Runs.{ends, stops}
use Rattle.run.specs.declared.Done.{Done}

-- ---- the records, and finish

module _ {trace : List ℕ} {at n e b p : ℕ} {c c' : Clock} {s s' : Stand} (h : at ≡ 5) (k : c ≡ stopped) (x : Takes true trace at c s n e b p c' s') where
  begun : Takes true trace 5 stopped s n e b p c' s'
  begun = subst (λ (i : ℕ). Takes true trace i stopped s n e b p c' s') h (subst (λ (u : Clock). Takes true trace at u s n e b p c' s') k x)

  pub runs_stops : (b ≡ 0 → ⊥) → Runs trace 5 stopped s b p s'
  runs_stops ne = stops begun ne

  pub runs-ends : {a : ℕ} {s'' : State} → b ≡ 0 → FinishCall s'.state a s'' → Runs trace 5 stopped s a (length trace) (stand s'' s'.shelf)
  runs-ends z f = ends (subst (λ (i : ℕ). Takes true trace 5 stopped s n e i p c' s') z begun) f

-- ---- the whole trace

answered : (trace : List ℕ) {h : Result (Unit {0}) HeaderError} {a : ℕ} → h ≡ header_of trace → a ≡ header_answer h → a ≡ header_answer (header_of trace)
answered trace f k = k ∙ ap header_answer f

module _ {high : Bool} {trace t : List ℕ} {l : Logs} {shelf : List ℕ} {d : Device} {h : Result (Unit {0}) HeaderError} {a : ℕ} (e : d ≡ fresh 0) (f : h ≡ header_of trace) (k : a ≡ header_answer h) where
  pub ran-wrong : {p : ℕ} {r : Decoder} → (a ≡ 0 → ⊥) → r ≡ refused_decoder → p ≡ header_place h → Ran high trace t l shelf a p (stand (state r (replicate 64 d) t l) shelf)
  unfolding unmade
  ran-wrong {p} {r} n u v =
      let g = answered trace f k in
      let left : state r (replicate 64 d) t l ≡ unmade no_devices t l = λ i. state (u i) (replicate 64 (e i)) t l in
      subst (λ (x : ℕ). Ran high trace t l shelf x p (stand (state r (replicate 64 d) t l) shelf)) (sym g)
      (subst (λ (x : ℕ). Ran high trace t l shelf (header_answer (header_of trace)) x (stand (state r (replicate 64 d) t l) shelf)) (sym (v ∙ ap header_place f))
      (subst (λ (x : State). Ran high trace t l shelf (header_answer (header_of trace)) (header_place (header_of trace)) (stand x shelf)) (sym left) (wrong (λ z. n (g ∙ z)))))

  pub ran-refused : {b : ℕ} {d' : Decoder} {v : List Device} {t' : List ℕ} {l' : Logs} {r : Done}
      → Makes high (replicate 64 d) t l b (state d' v t' l')
      → a ≡ 0
      → (b ≡ 0 → ⊥)
      → r ≡ not_made b d' v
      → Ran high trace t l shelf r.answer r.place (stand (state r.decoder r.devices t' l') shelf)
  ran-refused {t' = t'} {l'} m z n q =
      subst (λ (r : Done). Ran high trace t l shelf r.answer r.place (stand (state r.decoder r.devices t' l') shelf)) (sym q)
      (refused (sym (answered trace f k) ∙ z) (made_on e m) n)

  pub ran-made : {b j p : ℕ} {s : State} {s' : Stand} → Makes high (replicate 64 d) t l b s → a ≡ 0 → b ≡ 0 → Runs trace 5 stopped (stand s shelf) j p s' → Ran high trace t l shelf j p s'
  ran-made {s = s} m z y r = runs (sym (answered trace f k) ∙ z) (subst (λ (x : ℕ). Makes high no_devices t l x s) y (made_on e m)) r
