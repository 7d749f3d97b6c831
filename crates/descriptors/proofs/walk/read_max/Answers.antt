use Rattle.descriptors.specs.Entries.{max_of}
use Rattle.descriptors.proofs.walk.read_max.Goals as goal

pub returns : goal.returns
unfolding max_of
returns c = c.first_of.ensures
