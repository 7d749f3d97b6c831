use Rattle.descriptors.specs.Entries.{value_of}
use Rattle.descriptors.proofs.walk.read_value.Goals as goal

pub returns : goal.returns
unfolding value_of
returns c = c.first_of.ensures
