use mathlib.Core.Path.{refl}
use Rattle.record.specs.Room.{long}
use Rattle.record.proofs.room.too_long.Goals as goal

pub returns : goal.returns
unfolding long
returns c = refl
