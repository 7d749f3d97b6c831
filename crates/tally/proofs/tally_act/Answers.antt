use Rattle.std.proofs.Common.{rules}
use Rattle.tally.specs.Tally.{tally_act}
use Rattle.tally.proofs.tally_act.Goals as goal

pub returns-then-adds_group : goal.returns-then-adds_group
unfolding tally_act
returns-then-adds_group c = search rules

pub returns-else-adds_group : goal.returns-else-adds_group
unfolding tally_act
returns-else-adds_group c = search rules
