-- Assumes nothing.
use Rattle.lines.specs.Listing.{lines_of}
use Rattle.lines.proofs.Turns.{begin, turn-room, turn, finished}
use Rattle.lines.proofs.lines.Invariants.{line_at}
use Rattle.lines.proofs.lines.Goals as goal

pub loop-i-init : goal.loop-i-init
unfolding lines_of
loop-i-init c = let a = c.args in begin (line_at a.kind a.log.now) a.n

pub row_at-next-requires-clause-room : goal.row_at-next-requires-clause-room
row_at-next-requires-clause-room c = let a = c.args in turn-room (line_at a.kind a.log.now) c.loop-i.i a.n c.loop-i.invariant c.loop-i-test.true c.requires.room

pub loop-i-preserved : goal.loop-i-preserved
loop-i-preserved c = let a = c.args in turn (line_at a.kind a.log.now) c.loop-i.i a.n c.loop-i.invariant c.loop-i-test.true c.row_at-next.ensures

pub returns : goal.returns
returns c = let a = c.args in finished (line_at a.kind a.log.now) c.loop-i.i a.n c.loop-i.invariant c.loop-i-test.false
