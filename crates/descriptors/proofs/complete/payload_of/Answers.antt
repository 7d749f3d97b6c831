use Rattle.descriptors.proofs.CompleteLaws.{part-is}
use Rattle.descriptors.proofs.complete.payload_of.Goals as goal

pub returns : goal.returns
returns c = let a = c.args in part-is a.a.start a.a.length _ a.shelf.now c.min-count.ensures
