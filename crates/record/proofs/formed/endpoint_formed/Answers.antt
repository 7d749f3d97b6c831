use Rattle.record.specs.Formed.{endpoint_formed}
use Rattle.record.proofs.formed.endpoint_formed.Goals as goal
use Rattle.std.proofs.Common.{◌-◌}

pub returns : goal.returns
unfolding endpoint_formed
returns c = simp (c.words_stored.ensures, c.entry_formed.ensures, c.load.ensures)
