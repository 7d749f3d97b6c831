use Rattle.pivotspark.specs.Words.{transaction_of}
use Rattle.pivotspark.proofs.groups.transaction.Goals as goal
use Rattle.std.proofs.Common.{◌-◌}

pub returns : goal.returns
unfolding transaction_of
returns c = simp (c.flag-2.ensures, c.flag.ensures, c.style-began.ensures, c.byte-3.ensures, c.byte-2.ensures, c.byte.ensures)
