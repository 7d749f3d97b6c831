use Rattle.std.proofs.Common.{◌+◌, ◌≡◌, drop}
use Rattle.std.proofs.lemmas.List.Edits.{sets}
use Rattle.rows.proofs.put.Given as goal

abbrev pub invariant-loop-i : goal.invariant-loop-i
invariant-loop-i g l = sets l.initial.log l.at l.row ≡ sets l.log (l.at + l.i) (drop l.i l.row)
