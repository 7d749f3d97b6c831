use Rattle.descriptors.specs.Kind.{is_set_configuration}
use Rattle.descriptors.proofs.request.is_set_configuration.Goals as goal

pub returns : goal.returns
unfolding is_set_configuration
returns c = simp (c.request_type-standard.ensures, c.request-request.ensures, c.value-value.ensures)
