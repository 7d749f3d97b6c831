use Rattle.descriptors.specs.Kind.{is_set_interface}
use Rattle.descriptors.proofs.request.is_set_interface.Goals as goal

pub returns : goal.returns
unfolding is_set_interface
returns c = simp (c.request_type-standard.ensures, c.request-request.ensures, c.value-value.ensures, c.index-index.ensures)
