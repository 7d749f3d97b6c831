use Rattle.record.specs.Room.{begun}
use Rattle.record.proofs.room.is_begun.Goals as goal
use Rattle.std.proofs.Common.{◌-◌}

pub returns : goal.returns
unfolding begun
returns c = simp (c.first.ensures, c.first-2.ensures, c.first-3.ensures, c.first-4.ensures, c.first-5.ensures, c.first-6.ensures, c.first-7.ensures, c.first-8.ensures, c.first-9.ensures)
