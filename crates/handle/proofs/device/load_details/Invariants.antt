use Prim.Native.Nat.{ℕ, ◌+◌, ◌-◌, ◌≤◌}
use mathlib.Core.List.{List}
use mathlib.Core.Path.{◌≡◌, refl, ◌∙◌}
use lib.ListN.{length, replicate, length-set}
use lib.Seq.{sets}
use Rattle.details.specs.Details.{bare}
use Rattle.details.specs.declared.Detail.{Detail}
use Rattle.handle.specs.Words.{from, word_in, detail_of}
use Rattle.handle.proofs.Turns.{fill_start, fill-turn, fill_end}
use Rattle.handle.proofs.device.load_details.Given as goal

abbrev pub details-in : List ℕ → ℕ → Detail
details-in words k = detail_of (word_in words k)

abbrev pub invariant-loop-i : goal.invariant-loop-i
invariant-loop-i l = (length l.details ≡ 32) × (sets l.details l.i (from (details-in l.words) (l.at + l.i) (32 - l.i)) ≡ from (details-in l.words) l.at 32)
