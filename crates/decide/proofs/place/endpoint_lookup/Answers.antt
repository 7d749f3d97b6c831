use Rattle.endpoints.specs.Find.{found_endpoint}
use Rattle.endpoints.specs.Table.{entry_at}
use Rattle.decide.proofs.place.endpoint_lookup.Goals as goal

pub returns : goal.returns
unfolding entry_at found_endpoint
returns c = simp c.in_ok-device.was c.find_endpoint.ensures
