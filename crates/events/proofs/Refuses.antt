-- The tests that both calls make first, as the code makes them: what they refuse, and what is known past them.
use Prim.Native.Nat.{ℕ}
use native.Mathlib.Omega.{arith}
use mathlib.Core.Bool.{Bool, true, false, not, cond}
use mathlib.Core.Path.{◌≡◌, refl, sym, ap, ◌∙◌}
use lib.Dec.{ltb}
use Rattle.rules.specs.World.{World}
use Rattle.record.specs.Answers.{first_of, event_tests}
use Rattle.record.specs.declared.Counts.{Counts}
use Rattle.call.specs.Outcome.{Answers, accepts, is_ill}
use Rattle.call.proofs.OutcomeLaws.{refused, ill_by}
use Rattle.call.specs.State.{State, room_of}
use Rattle.call.specs.Share.{first_tests}

pub flipped : (b c : Bool) → not b ≡ c → b ≡ not c
flipped true c e = ap not e
flipped false c e = ap not e

-- by what they give
refuses : (ill finished kind : Bool) (a : ℕ) → a ≡ cond ill 1 (cond finished 2 (cond kind 4 0)) → (a ≡ 0 → ⊥) → (rest : ℕ) → (a ≡ cond ill 1 (cond finished 2 (cond kind 4 rest))) × (accepts a ≡ false)
refuses true finished kind a e n rest = (e, rw e)
refuses false true kind a e n rest = (e, rw e)
refuses false false true a e n rest = (e, rw e)
refuses false false false a e n rest = absurd (n e)

passes : (ill finished kind : Bool) → ◌≡◌ {A = ℕ} (cond ill 1 (cond finished 2 (cond kind 4 0))) 0 → (ill ≡ false) × ((finished ≡ false) × (kind ≡ false))
passes true finished kind e = absurd (omega arith)
passes false true kind e = absurd (omega arith)
passes false false true e = absurd (omega arith)
passes false false false e = (refl, (refl, refl))

-- what both calls answer by their first tests
abbrev pub First : State → ℕ → ℕ → Type 0
First s kind a = a ≡ cond (is_ill s) 1 (cond s.decoder.finished 2 (cond (ltb 7 kind) 4 0))

module _ (s : State) (kind a : ℕ) where
  pub first-is : (room : Counts) → room ≡ room_of s.logs → a ≡ first_tests s.decoder s.devices s.table room kind 7 4 → First s kind a
  first-is room r h = h ∙ ap (λ (b : Bool). cond b 1 (cond s.decoder.finished 2 (cond (ltb 7 kind) 4 0))) (ill_by s room r)

  -- another answer than 0: whatever the rules would leave, all is as it was
  pub first_refuses : (a ≡ 0 → ⊥) → First s kind a → (full over : Bool) (w : World) (f : Bool) → Answers (event_tests (is_ill s) s.decoder.finished kind full over) w f s a s
  unfolding first_of
  first_refuses n h full over w f = let g = refuses (is_ill s) s.decoder.finished (ltb 7 kind) a h n (cond full 7 (cond over 9 0)) in refused a g.0 g.1

  pub first_passes : First s kind a → a ≡ 0 → (is_ill s ≡ false) × ((s.decoder.finished ≡ false) × (ltb 7 kind ≡ false))
  first_passes h z = passes (is_ill s) s.decoder.finished (ltb 7 kind) (sym h ∙ z)
