use Rattle.descriptors.proofs.ForgetLaws.{Passed}
use Rattle.descriptors.proofs.store.forget.Given as goal

abbrev pub invariant-loop-i : goal.invariant-loop-i
invariant-loop-i l = Passed l.base l.kept l.value l.initial.store l.store l.n l.i
