use Rattle.descriptors.proofs.ChosenLaws.{Applying}
use Rattle.descriptors.proofs.choose.apply.Given as goal

abbrev pub invariant-loop-i : goal.invariant-loop-i
invariant-loop-i l = Applying l.choice l.base l.kept l.store l.initial.d l.d l.i
