use mathlib.Core.Path.{refl}
use Rattle.record.specs.Room.{numbered}
use Rattle.record.proofs.room.is_numbered.Goals as goal

pub returns : goal.returns
unfolding numbered
returns c = refl
