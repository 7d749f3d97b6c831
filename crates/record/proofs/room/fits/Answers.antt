use mathlib.Core.Path.{refl}
use Rattle.record.specs.Room.{fitting}
use Rattle.record.proofs.room.fits.Goals as goal

pub returns : goal.returns
unfolding fitting
returns c = refl
