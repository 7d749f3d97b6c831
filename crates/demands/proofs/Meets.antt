-- Demand 3 over every sequence of calls, on the rows in the logs (specs/Sequence.antt, Meets): from what every call keeps.
use Prim.Native.Nat.{ℕ, ◌+◌, ◌<◌}
use native.Mathlib.Omega.{arith}
use mathlib.Core.Path.{◌≡◌, refl, sym, ap, ◌∙◌}
use mathlib.Core.List.{List, [], ◌∷◌, ◌++◌}
use borrow.Author.Tests.{eq-eqb}
use lib.ListN.{length, get_or}
use Rattle.rows.proofs.WidthsLaws.{log-number}
use Rattle.std.specs.Prelude.{Some}
use Rattle.endpoints.specs.declared.Phase.{Phase}
use Rattle.endpoints.specs.declared.Phase.TheVariants.{None, Early, Active, Ended}
use Rattle.rules.specs.Demand.{Demand3, links_of}
use Rattle.rules.proofs.Reach.{OnLinks}
use Rattle.rules.specs.Marks.{Mark, other, started, ended, item, closed, mark, marks, closings, items, last_ended, Asserted}
use Rattle.rules.specs.Rows.{Row, E}
use Rattle.rules.specs.World.{phase}
use Rattle.rules.proofs.Demand.{ended-length, groups_of, unclosed}
use Rattle.rules.proofs.Facts.{extra, first-there}
use Rattle.rules.proofs.Links.{start-rows, closing-rows, links-of, event-of}
use Rattle.rules.proofs.Loops.{wait_of}
use Rattle.call.specs.Outcome.{world_at}
use Rattle.call.specs.State.{State}
use Rattle.demands.specs.Sequence.{Sequence, Extra, groups_started, closing_items, groups_ended, AssertHolds, Meets}
use Rattle.demands.proofs.Kept.{Kept, kept}
use Rattle.demands.proofs.Never.{not_1, never-ill}

-- ---- the extra group, by its phase

by-phase : (p : Phase) (x y z : ℕ) → x ≡ z + unclosed p → y ≡ z + extra (wait_of p) → Extra p x y z
by-phase None x y z a b = (omega arith, omega arith)
by-phase Early x y z a b = (omega arith, omega arith)
by-phase Active x y z a b = (omega arith, omega arith)
by-phase Ended x y z a b = (omega arith, omega arith)

-- ---- the assert at one row

asserted-rest : (m : Mark) (ms : List Mark) → Asserted (m ∷ ms) → Asserted ms
asserted-rest other ms h = h
asserted-rest started ms h = h
asserted-rest (ended k) ms h = h
asserted-rest item ms h = h
asserted-rest (closed i) ms h = h.1

module _ (e i : ℕ) (before : List Row) where
  asserted_at : (later : List Row) → Asserted (marks e (later ++ (E e i ∷ before))) → last_ended (marks e before) ≡ Some (length (closings (marks e before)))
  asserted_at [] h = (rw (eq-eqb e e refl) at h).0
  asserted_at (r ∷ later) h = asserted_at later (asserted-rest (mark e r) (marks e (later ++ (E e i ∷ before))) h)

-- ---- the claim

module _ {js : List Row} {s : State} (h : Kept js s) where
  -- of the history's log, and so of the log
  demand : (e : ℕ) → ¬ (e ≡ 0) → Demand3 (groups_started e s) (closing_items e s) (marks e js)
  demand e d = let l : OnLinks e js = links-of h.rules e d in rw (h.told 10 (log-number 10 refl)) l

  closed_are : (e : ℕ) → closing_items e s ≡ closings (marks e js)
  closed_are e = ap (links_of 3 e) (h.told 10 (log-number 10 refl)) ∙ closing-rows e js

  extra-is : (e : ℕ) → ¬ (e ≡ 0) → Extra (phase e (world_at s)) (groups_started e s) (groups_ended e js) (length (closing_items e s))
  extra-is e d =
      let g = groups_of h.rules e d in
      let c = closed_are e in
      by-phase (phase e (world_at s)) _ _ _
      (ap (λ (l : List ℕ). length (links_of 1 e l)) (h.told 10 (log-number 10 refl)) ∙ (start-rows e js ∙ (g.0 ∙ rw c g.1)))
      (rw c (ended-length (phase e (world_at s)) (h.rules.keeps e).facts))

  named : (e k : ℕ) → k < length (closing_items e s) → get_or (closing_items e s) k 0 < s.decoder.counts.items
  named e k l =
      let c = closed_are e in
      let f = (h.rules.keeps e).facts in
      let a = f.added in
      rw c (omega (arith, first-there k _ (marks e js) (f.named k (rw c at l))))

  assert : (e : ℕ) → AssertHolds e js
  assert e later before i q = asserted_at e i before later (rw q at (h.rules.keeps e).facts.asserted) ∙ ap (λ (l : List ℕ). Some (length l)) (sym (closing-rows e before))

pub meets : {js : List Row} {s : State} → Sequence js s → Meets js s
meets {js} {s} q =
    let h = kept q in
    record {
      told = h.told;
      demand = demand h;
      extra = extra-is h;
      named = named h;
      assert = assert h;
      event = event-of h.rules;
      well = never-ill q;
      never_1 = λ k a s'. not_1 k s a s' (never-ill q);
    }
