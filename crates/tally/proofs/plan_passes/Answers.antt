use Rattle.tally.specs.Passes.{plan_passes}
use Rattle.tally.proofs.plan_passes.Goals as goal

pub returns : goal.returns
unfolding plan_passes
returns c = simp c.total_passes.ensures
