use Rattle.descriptors.proofs.ChosenLaws.{Counting}
use Rattle.descriptors.proofs.choose.count_set.Given as goal

abbrev pub invariant-loop-i : goal.invariant-loop-i
invariant-loop-i l = Counting l.choice l.base l.kept l.store l.n l.i
