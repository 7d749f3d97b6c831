use Rattle.std.proofs.Common.{rules}
use Rattle.tally.specs.Tallies.{tally_begin}
use Rattle.tally.proofs.tally_begin.Goals as goal

pub returns : goal.returns
unfolding tally_begin
returns c = search rules
