use mathlib.Core.Path.{sym, ◌∙◌}
use Rattle.record.specs.Room.{roomy}
use Rattle.record.specs.RoomLaws.{begun-is}
use Rattle.record.proofs.room.has_room.Goals as goal
use Rattle.std.proofs.Common.{◌-◌}

pub held_of-requires : goal.held_of-requires
held_of-requires c = begun-is _ _ (sym c.is_begun.ensures ∙ c.if-is_begun.true)

pub returns-then-is_begun : goal.returns-then-is_begun
unfolding roomy
returns-then-is_begun c = simp (sym c.is_begun.ensures ∙ c.if-is_begun.true, c.is_numbered.ensures, c.fits.ensures, c.held_of.ensures)

pub returns-else-is_begun : goal.returns-else-is_begun
unfolding roomy
returns-else-is_begun c = simp (c.if-is_begun.false, sym c.is_begun.ensures ∙ c.if-is_begun.false)
