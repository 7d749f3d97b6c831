use mathlib.Core.Path.{refl}
use Rattle.tally.specs.Tallies.{add_counts}
use Rattle.tally.proofs.add_counts.Goals as goal

pub returns : goal.returns
unfolding add_counts
returns c = refl
