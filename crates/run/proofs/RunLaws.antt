-- Laws (proved): what the contract of `run` rules out: any two outcomes coincide.
use Rattle.std.specs.Prelude.{ℕ, Bool, List, ◌≡◌, refl}
use Rattle.std.proofs.Common.{sym, subst}
use Rattle.trace.specs.declared.clock.Clock.{Clock}
use Rattle.call.proofs.OutcomeLaws.{unique}
use Rattle.call.specs.State.{Logs}
use Rattle.start.proofs.FreshLaws.{fresh_unique}
use Rattle.events.specs.Call.{FinishCall}
use Rattle.step.specs.Block.{Stand, stand}
use Rattle.step.proofs.BlockLaws.{block_unique}
use Rattle.run.specs.Run.{Runs, Ran}
use Rattle.run.specs.Run.Runs.{ends, stops}
use Rattle.run.specs.Run.Ran.{wrong, refused, runs}

-- an answer, a place, and a state with its shelf
pub record Same (a b p q : ℕ) (s s' : Stand) : Type 0 where
  pub answer : a ≡ b
  pub place : p ≡ q
  pub final : s ≡ s'

-- the same records from the same state
pub same-run : {trace : List ℕ} {at p q a b : ℕ} {c : Clock} {s s' s'' : Stand} → Runs trace at c s a p s' → Runs trace at c s b q s'' → Same a b p q s' s''
same-run {b = b} (ends x f) (ends {s'' = s''} y g) =
    let same = (block_unique x y).final in
    let u = unique f (subst (λ (s : Stand). FinishCall s.state b s'') (sym same) g) in
    record { answer = u.0; place = refl; final = λ i. stand (u.1 i) (same i).shelf }
same-run (ends x f) (stops y k) = absurd (k (sym (block_unique x y).answer))
same-run (stops x h) (ends y g) = absurd (h (block_unique x y).answer)
same-run (stops x h) (stops y k) = let u = block_unique x y in record { answer = u.answer; place = u.place; final = u.final }

-- 01: "any two permitted outcomes coincide"
pub run-unique : {high : Bool} {trace t : List ℕ} {l : Logs} {h : List ℕ} {a b p q : ℕ} {s s' : Stand} → Ran high trace t l h a p s → Ran high trace t l h b q s' → Same a b p q s s'
run-unique (wrong h) (wrong k) = record { answer = refl; place = refl; final = refl }
run-unique (wrong h) (refused k m n) = absurd (h k)
run-unique (wrong h) (runs k m r) = absurd (h k)
run-unique (refused h m n) (wrong k) = absurd (k h)
run-unique {h = shelf} (refused h m n) (refused k o z) = let u = fresh_unique m o in record { answer = u.0; place = refl; final = λ i. stand (u.1 i) shelf }
run-unique (refused h m n) (runs k o r) = absurd (n (fresh_unique m o).0)
run-unique (runs h m r) (wrong k) = absurd (k h)
run-unique (runs h m r) (refused k o z) = absurd (z (sym (fresh_unique m o).0))
run-unique (runs h m r) (runs k o z) = same-run r (rw (fresh_unique m o).1 z)
