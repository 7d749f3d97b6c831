use mathlib.Core.Path.{sym, ◌∙◌}
use Rattle.tally.proofs.Bounds.{sums-room}
use Rattle.events.specs.After.{sum_of}
use Rattle.events.proofs.sum.sum_of.Goals as goal
use Rattle.std.proofs.Common.{◌-◌}

pub add_counts-requires : goal.add_counts-requires
add_counts-requires c = let s = c in sums-room _ _ s.requires.countable s.requires.within (sym c.has_room_for.ensures ∙ c.if-has_room_for.true)

pub returns-then-has_room_for : goal.returns-then-has_room_for
unfolding sum_of
returns-then-has_room_for c = rw (← c.has_room_for.ensures, c.if-has_room_for.true, c.add_counts.ensures)

pub returns-else-has_room_for : goal.returns-else-has_room_for
unfolding sum_of
returns-else-has_room_for c = rw (← c.has_room_for.ensures, c.if-has_room_for.false)
