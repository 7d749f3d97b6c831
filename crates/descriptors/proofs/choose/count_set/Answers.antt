use Rattle.std.proofs.Common.{arith, sym, ◌∙◌, true, false}
use Rattle.descriptors.proofs.ChosenLaws.{counting-turn, counting-end}
use Rattle.descriptors.proofs.choose.count_set.Goals as goal
use Rattle.descriptors.proofs.choose.count_set.Goals.{then-is_chosen, else-is_chosen}

pub loop-i-preserved : goal.loop-i-preserved
loop-i-preserved c =
    elim c.if-is_chosen.branch [
      | then-is_chosen w ↦ counting-turn c.loop-i.invariant true _ c.loop-i-test.true (sym w.if-is_chosen.true ∙ c.is_chosen.ensures) (omega (arith, w.n-is))
      | else-is_chosen w ↦ counting-turn c.loop-i.invariant false _ c.loop-i-test.true (sym w.if-is_chosen.false ∙ c.is_chosen.ensures) (omega (arith, w.n-is))
    ]

pub returns : goal.returns
returns c = counting-end c.loop-i.invariant c.loop-i-test.false
