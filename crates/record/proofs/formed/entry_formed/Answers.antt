use Rattle.record.specs.Formed.{entry_formed}
use Rattle.record.proofs.formed.entry_formed.Goals as goal

pub returns : goal.returns
unfolding entry_formed
returns c = simp c.stands.ensures
