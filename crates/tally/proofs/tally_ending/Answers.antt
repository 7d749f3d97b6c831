use Rattle.tally.specs.Tallies.{tally_ending}
use Rattle.std.proofs.Common.{rules}
use Rattle.tally.proofs.tally_ending.Goals as goal

pub returns-then-not-e : goal.returns-then-not-e
unfolding tally_ending
returns-then-not-e c = search rules

pub returns : goal.returns
unfolding tally_ending
returns c = search rules
