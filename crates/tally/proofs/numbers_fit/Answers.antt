use Rattle.record.specs.Room.{numbered}
use Rattle.tally.specs.Tallies.{add_counts}
use Rattle.tally.proofs.numbers_fit.Goals as goal
use Rattle.std.proofs.Common.{◌-◌}

pub returns : goal.returns
unfolding numbered add_counts
returns c = simp (c.up_to.ensures, c.up_to-2.ensures, c.up_to-3.ensures, c.up_to-4.ensures, c.up_to-5.ensures, c.up_to-6.ensures, c.up_to-7.ensures, c.up_to-8.ensures, c.up_to-9.ensures)
