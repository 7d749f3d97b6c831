use Rattle.descriptors.specs.Kind.{is_read}
use Rattle.descriptors.proofs.request.is_read.Goals as goal

pub returns : goal.returns
unfolding is_read
returns c = simp (c.kind-bits.ensures, c.request-request.ensures, c.value-value.ensures)
