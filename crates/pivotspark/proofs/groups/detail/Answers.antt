use Rattle.pivotspark.specs.Words.{detail_of}
use Rattle.pivotspark.proofs.groups.detail.Goals as goal

pub returns : goal.returns
unfolding detail_of
returns c = simp (c.size.ensures, c.byte.ensures)
