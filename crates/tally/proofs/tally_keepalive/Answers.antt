use Rattle.tally.specs.Tallies.{tally_keepalive}
use Rattle.tally.proofs.tally_keepalive.Goals as goal
use Rattle.std.proofs.Common.{◌-◌}

pub returns : goal.returns
unfolding tally_keepalive
returns c = rw c.tally_none-t.ensures at c.tally_rows.ensures
