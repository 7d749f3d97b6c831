use Rattle.std.proofs.Common.{sym, ◌∙◌, true, false}
use Rattle.descriptors.specs.Chosen.{set_if}
use Rattle.descriptors.proofs.ChosenLaws.{applying-turn, applying-end}
use Rattle.descriptors.proofs.choose.apply.Goals as goal
use Rattle.descriptors.proofs.choose.apply.Goals.{then-is_chosen, else-is_chosen}

pub loop-i-preserved : goal.loop-i-preserved
unfolding set_if
loop-i-preserved c =
    elim c.if-is_chosen.branch [
      | then-is_chosen w ↦ applying-turn c.loop-i.invariant true _ c.loop-i-test.true (sym w.if-is_chosen.true ∙ c.is_chosen.ensures) (w.d-is ∙ w.set_entry-d.ensures)
      | else-is_chosen w ↦ applying-turn c.loop-i.invariant false _ c.loop-i-test.true (sym w.if-is_chosen.false ∙ c.is_chosen.ensures) w.d-is
    ]

pub returns : goal.returns
returns c = applying-end c.loop-i.invariant c.loop-i-test.false
