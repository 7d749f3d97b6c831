use Rattle.std.proofs.Common.{◌∙◌}
use Rattle.endpoints.proofs.Turns.{change_hit, change_miss}
use Rattle.endpoints.proofs.phases.change_phases.Goals as goal
use Rattle.endpoints.proofs.phases.change_phases.Goals.{then-table-at, else-table-at}

pub loop-i-preserved : goal.loop-i-preserved
loop-i-preserved c =
    elim c.if-table-at.branch [
      | then-table-at w ↦ rw w.table-is (c.loop-i.invariant ∙ change_hit _ _ _ c.loop-i-test.true _ _ w.if-table-at.true)
      | else-table-at w ↦ rw w.table-is (c.loop-i.invariant ∙ change_miss _ _ _ c.loop-i-test.true _ _ w.if-table-at.false)
    ]
