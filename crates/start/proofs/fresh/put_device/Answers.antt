use Rattle.details.specs.Details.{fresh}
use Rattle.start.proofs.fresh.put_device.Goals as goal

pub returns : goal.returns
unfolding fresh
returns c = c.put.ensures
