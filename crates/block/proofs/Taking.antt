-- The laws of the block's loop: what one round is, what holds before each, and how the round carries it on.
use Prim.Native.Nat.{ℕ, ◌+◌, ◌≤◌, ◌<◌}
use native.Mathlib.Omega.{arith}
use mathlib.Core.Bool.{Bool, true, false, cond, false≢true, true≢false}
use mathlib.Core.List.{List}
use mathlib.Core.Path.{◌≡◌, refl, sym, subst, ◌∙◌}
use lib.ListN.{length}
use Rattle.record.specs.declared.Decoder.{Decoder}
use Rattle.details.specs.declared.Device.{Device}
use Rattle.trace.specs.declared.clock.Clock.{Clock}
use Rattle.call.specs.State.{Logs, State, state}
use Rattle.call.proofs.StateLaws.{SameSizes}
use Rattle.step.specs.Block.{Stand, stand, Takes}
use Rattle.step.specs.Step.{Steps}
use Rattle.step.specs.declared.Stepped.{Stepped}
use Rattle.stream.specs.Led.{Fits, ran_by}
use Rattle.stream.specs.Rounds.{none_yet, gone_on, halted, with_step, with_round}
use Rattle.stream.specs.declared.Run.{Run}
use Rattle.block.specs.Leads.{Leads, Runs}
use Rattle.block.specs.Round.{taken_of, Rounds}
use Rattle.block.specs.declared.Taken.{Taken}
use Rattle.block.proofs.Leading.{leads-start, leads_one, leads-then, leads-over}

-- ---- one round

module _ {typed : Bool} {t : List ℕ} {at : ℕ} {c : Clock} {s : Stand} {r : Run} {table : List ℕ} {l : Logs} {h₁ : List ℕ} (p : Runs typed t at c s r table l h₁) where
  -- a packet was refused
  pub round_stops : r.going ≡ false → Rounds typed t at c s r table l h₁
  round_stops e = record { runs = p; further = λ g. absurd (true≢false (sym g ∙ e)) }

  module _ (e : r.going ≡ true) {q : Stepped} {table' : List ℕ} {l' : Logs} {h₂ : List ℕ} (x : Steps typed t r.place r.clock (ran_by r table l h₁) q table' l' h₂) where
    stepped : (b : Bool) → q.going ≡ b → Rounds typed t at c s (cond b (gone_on r q) (halted r q)) table' l' h₂
    stepped true k =
        let f = (x.goes k).further in
        let o = leads-then (p.leads e) (leads_one (x.goes k)) in
        record {
          runs = record { leads = λ g. o; over = λ g. absurd (true≢false g); counted = (o.few, o.eights) };
          further = λ g. (omega (arith, p.counted.0, f.0), f.1);
        }
    stepped false k =
        record {
          runs = record { leads = λ g. absurd (false≢true g); over = λ g. leads-over (p.leads e) (x.over k); counted = p.counted };
          further = λ g. absurd (false≢true g);
        }

    -- the counts go no further than the bytes
    pub round_few : q.going ≡ true → (r.taken + 1 ≤ length t) × (r.eights + 1 ≤ length t)
    round_few k =
        let f = (x.goes k).further in
        (omega (arith, p.counted.0, f.0, f.1), omega (arith, p.counted.0, p.counted.1, f.0, f.1))

    pub round_goes : {u : Run} → u ≡ with_step r q → Rounds typed t at c s u table' l' h₂
    round_goes v = subst (λ (u : Run). Rounds typed t at c s u table' l' h₂) (sym v) (stepped q.going refl)

-- ---- the rounds

pub record Taking (typed : Bool) (b : Bool) (t : List ℕ) (at : ℕ) (c : Clock) (s : Stand) (r : Run) (table : List ℕ) (l : Logs) (h : List ℕ) : Type 0 where
  pub leads : Leads typed t at c s r.taken r.eights r.place r.clock (ran_by r table l h)
  pub sizes : SameSizes s.state.logs l
  pub fits : Fits b (ran_by r table l h).state

-- before the first round
module _ {typed : Bool} {t : List ℕ} {at : ℕ} {c : Clock} {d : Decoder} {v : List Device} {r : Run} (e : r ≡ none_yet d v c at) (table : List ℕ) (l : Logs) (h : List ℕ) where
  pub taking-start : {b : Bool} → Fits b (state d v table l) → Taking typed b t r.place r.clock (ran_by r table l h) r table l h
  taking-start {b} f =
      subst (λ (u : Run). Taking typed b t u.place u.clock (ran_by u table l h) u table l h) (sym e)
      (record { leads = leads-start t at c (stand (state d v table l) h); sizes = λ k u. refl; fits = f })

  pub taken-from : {n f a p : ℕ} {c' : Clock} {s' : Stand} → Takes typed t r.place r.clock (ran_by r table l h) n f a p c' s' → Takes typed t at c (stand (state d v table l) h) n f a p c' s'
  taken-from {n} {f} {a} {p} {c'} {s'} x = subst (λ (u : Run). Takes typed t u.place u.clock (ran_by u table l h) n f a p c' s') e x

module _ {typed : Bool} {b : Bool} {t : List ℕ} {at : ℕ} {c : Clock} {s : Stand} {r : Run} {table : List ℕ} {l : Logs} {h₁ : List ℕ} (g : Taking typed b t at c s r table l h₁) {m : Run} {table' : List ℕ} {l' : Logs} {h₂ : List ℕ} (x : Rounds typed t r.place r.clock (ran_by r table l h₁) m table' l' h₂) where
  -- the counts stay below the place
  pub taking-counts : (r.taken + m.taken ≤ m.place) × (r.eights + m.eights ≤ m.place)
  taking-counts =
      let k = x.runs.counted in
      (omega (arith, g.leads.few, k.0), omega (arith, g.leads.few, g.leads.eights, k.0, k.1))

  module _ {u : Run} (v : u ≡ with_round r m) where
    -- a record was refused, or there is none
    pub taking_stops : u.going ≡ false → {y : Taken} → y ≡ taken_of u → Takes typed t at c s y.taken y.eights y.answer y.place y.clock (stand (state y.decoder y.devices table' l') h₂)
    taking_stops e w =
        subst (λ (y : Taken). Takes typed t at c s y.taken y.eights y.answer y.place y.clock (stand (state y.decoder y.devices table' l') h₂)) (sym w)
        (subst (λ (u : Run). u.going ≡ false → Takes typed t at c s u.taken u.eights u.answer u.place u.clock (ran_by u table' l' h₂)) (sym v) (λ k. g.leads.rest (x.runs.over k)) e)

    module _ (e : u.going ≡ true) where
      pub taking_further : (r.place < u.place) × (u.place ≤ length t)
      taking_further = subst (λ (u : Run). u.going ≡ true → (r.place < u.place) × (u.place ≤ length t)) (sym v) x.further e

      pub taking-more : SameSizes l l' → Taking typed b t at c s u table' l' h₂
      taking-more z =
          subst (λ (u : Run). u.going ≡ true → Taking typed b t at c s u table' l' h₂) (sym v)
          (λ k. let o = x.runs.leads k in record { leads = leads-then g.leads o; sizes = λ j w. z j w ∙ g.sizes j w; fits = o.fits b g.fits })
          e
