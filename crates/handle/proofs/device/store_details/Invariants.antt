use Prim.Native.Nat.{ℕ, ◌+◌, ◌-◌, ◌<◌, ◌≤◌}
use native.Mathlib.Nat.{add-zero}
use native.Mathlib.Omega.{arith}
use mathlib.Core.List.{List, map}
use mathlib.Core.Path.{◌≡◌, sym, ◌∙◌}
use lib.ListN.{length, get_or, drop}
use lib.Seq.{sets}
use Rattle.details.specs.Details.{bare}
use Rattle.details.specs.declared.Detail.{Detail}
use Rattle.handle.specs.Fits.{DetailFits}
use Rattle.handle.specs.Words.{detail_word}
use Rattle.handle.proofs.Turns.{detail-turn, all-dropped, passed-next}
use Rattle.handle.proofs.device.store_details.Given as goal

abbrev pub DetailsPassed : ℕ → List Detail → Type 0
DetailsPassed i details = (j : ℕ) → j < i → DetailFits (get_or details j (bare 0))

abbrev pub invariant-loop-i : goal.invariant-loop-i
invariant-loop-i l = (length l.details ≡ 32) × ((sets l.initial.words l.at (map detail_word l.details) ≡ sets l.words (l.at + l.i) (drop l.i (map detail_word l.details))) × DetailsPassed l.i l.details)
