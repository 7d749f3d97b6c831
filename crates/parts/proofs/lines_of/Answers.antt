-- The rows that are left of the part give the lines that are left of it.
-- Assumes nothing.
use Rattle.parts.specs.Sorts.{line_at}
use Rattle.parts.proofs.Going.{line-room, turn, no_row, no_room}
use Rattle.parts.proofs.Sorted.{short}
use Rattle.parts.proofs.lines_of.Goals as goal

pub line_at-len-requires-clause-room : goal.line_at-len-requires-clause-room
line_at-len-requires-clause-room c = let a = c.args in line-room (line_at a.lent a.n a.log.now a.m a.statebytes.now) (short a.lent a.n a.log.now a.m a.statebytes.now) c.loop-next.invariant c.if-out-len-ge-LONGEST.true

pub loop-next-preserved : goal.loop-next-preserved
loop-next-preserved c = let a = c.args in turn (line_at a.lent a.n a.log.now a.m a.statebytes.now) (short a.lent a.n a.log.now a.m a.statebytes.now) c.loop-next.invariant c.loop-next-test.true c.if-out-len-ge-LONGEST.true c.line_at-len.ensures

pub returns-else-out-len-ge-LONGEST : goal.returns-else-out-len-ge-LONGEST
returns-else-out-len-ge-LONGEST c = let a = c.args in no_room (line_at a.lent a.n a.log.now a.m a.statebytes.now) (short a.lent a.n a.log.now a.m a.statebytes.now) c.loop-next.invariant c.if-out-len-ge-LONGEST.false

pub returns-after-loop-next : goal.returns-after-loop-next
returns-after-loop-next c = let a = c.args in no_row (line_at a.lent a.n a.log.now a.m a.statebytes.now) (short a.lent a.n a.log.now a.m a.statebytes.now) c.loop-next.invariant c.loop-next-test.false
