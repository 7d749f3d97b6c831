-- The counts stored in the first words of a slice are the counts stored, and the outcome of the entry is put together.
use Prim.Native.Nat.{ℕ, ◌/◌, ◌%◌, ◌≤◌, ◌<◌}
use native.Mathlib.Omega.{arith}
use mathlib.Core.Bool.{Bool}
use mathlib.Core.List.{List, ◌++◌}
use mathlib.Core.Path.{◌≡◌, refl, sym}
use borrow.Author.Tests.{le-leb, lt-leb}
use lib.ListN.{length, drop}
use lib.Seq.{sets-eq}
use Rattle.record.specs.declared.Counts.{Counts}
use Rattle.call.specs.State.{Logs, count_words}
use Rattle.step.specs.Block.{Stand}
use Rattle.run.specs.Run.{Ran}
use Rattle.pivotspark.specs.Told.{told, counted, Told}

module _ (l : List ℕ) (n : Counts) where
  pub too_few : length l < 12 → l ≡ counted l n
  unfolding counted
  too_few h = rw (lt-leb 12 (length l) h) refl

  pub enough : {ws : List ℕ} → 12 ≤ length l → ws ≡ count_words n → ws ++ drop 12 l ≡ counted l n
  unfolding counted
  enough h e = rw (le-leb 12 (length l) h, e) (sym (sets-eq (count_words n) l 0 h))

pub told_by : {high : Bool} {trace t h counts counts' : List ℕ} {l : Logs} {a p r : ℕ} {s : Stand}
    → Ran high trace t l h a p s
    → counts' ≡ counted counts s.state.decoder.counts
    → r ≡ told a p
    → Told high trace t l h counts r s.state.table s.state.logs s.shelf counts'
told_by {a = a} {p} {s = s} x n h = record { answer = a; place = p; final = s; ran = x; result = h; table = refl; logs = refl; shelf = refl; counted = n }
