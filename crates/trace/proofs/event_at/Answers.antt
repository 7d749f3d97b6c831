use Rattle.trace.specs.Trace.{event_at}
use Rattle.std.proofs.Common.{◌+◌, ◌<◌, ◌≤◌, length, arith, le-leb}
use borrow.Author.Tests.{lt-leb}
use Rattle.trace.proofs.event_at.Goals as goal

pub returns-then-trace-at-lt-HEAD : goal.returns-then-trace-at-lt-HEAD
unfolding event_at
returns-then-trace-at-lt-HEAD c = let a = c.args in let h : length a.trace.now < a.at + 7 = omega arith in simp (lt-leb _ _ h)

pub returns : goal.returns
unfolding event_at
returns c = let u = c in let a = u.args in let h : a.at + 7 ≤ length a.trace.now = omega arith in simp (le-leb _ _ h, u.u32_at-ticks.ensures)
