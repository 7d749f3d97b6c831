use Rattle.pivotspark.specs.Words.{endpoint_of}
use Rattle.pivotspark.proofs.groups.endpoint.Goals as goal
use Rattle.std.proofs.Common.{◌-◌}

pub returns : goal.returns
unfolding endpoint_of
returns c = simp (c.flag-4.ensures, c.flag-3.ensures, c.flag-2.ensures, c.byte-2.ensures, c.flag.ensures, c.byte.ensures, c.phase-place.ensures)
