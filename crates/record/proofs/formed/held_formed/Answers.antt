use borrow.Author.Tests.{le-ltb}
use Rattle.record.specs.Formed.{held_formed}
use Rattle.record.proofs.formed.held_formed.Goals as goal
use Rattle.std.proofs.Common.{◌-◌}

pub returns-else-t-counts : goal.returns-else-t-counts
unfolding held_formed
returns-else-t-counts c = simp (le-ltb _ _ c.if-t-counts.false)
