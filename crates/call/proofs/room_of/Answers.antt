use Rattle.std.proofs.Common.{rules}
use Rattle.call.specs.State.{room_by}
use Rattle.call.proofs.room_of.Goals as goal

pub returns : goal.returns
unfolding room_by
returns c = search rules
