-- Assumes nothing.
use Rattle.lines.specs.Listing.{state_lines}
use Rattle.lines.proofs.Turns.{begin, turn-room, turn, finished}
use Rattle.lines.proofs.state.state_lines.Invariants.{line_at}
use Rattle.lines.proofs.state.state_lines.Goals as goal

pub loop-i-init : goal.loop-i-init
unfolding state_lines
loop-i-init c = let a = c.args in begin (line_at a.n a.states.now a.m a.statebytes.now) a.n

pub state_at-next-requires-clause-room : goal.state_at-next-requires-clause-room
state_at-next-requires-clause-room c = let a = c.args in turn-room (line_at a.n a.states.now a.m a.statebytes.now) c.loop-i.i a.n c.loop-i.invariant c.loop-i-test.true c.requires.room

pub loop-i-preserved : goal.loop-i-preserved
loop-i-preserved c = let a = c.args in turn (line_at a.n a.states.now a.m a.statebytes.now) c.loop-i.i a.n c.loop-i.invariant c.loop-i-test.true c.state_at-next.ensures

pub returns : goal.returns
returns c = let a = c.args in finished (line_at a.n a.states.now a.m a.statebytes.now) c.loop-i.i a.n c.loop-i.invariant c.loop-i-test.false
