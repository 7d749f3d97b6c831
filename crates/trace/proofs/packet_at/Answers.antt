use Rattle.trace.specs.Trace.{packet_at, little_endian}
use Rattle.std.proofs.Common.{◌+◌, ◌<◌, ◌≤◌, length, arith, le-leb}
use borrow.Author.Tests.{lt-leb}
use Rattle.trace.proofs.packet_at.Goals as goal

pub returns-then-left-lt-HEAD : goal.returns-then-left-lt-HEAD
unfolding packet_at
returns-then-left-lt-HEAD c = let a = c.args in let h : length a.trace.now < a.at + (7 + little_endian 2 (a.at + 5) a.trace.now) = omega arith in simp (lt-leb _ _ h)

pub returns-then-left-count : goal.returns-then-left-count
unfolding packet_at
returns-then-left-count c = let a = c.args in let h : length a.trace.now < a.at + (7 + little_endian 2 (a.at + 5) a.trace.now) = omega arith in simp (lt-leb _ _ h)

pub returns : goal.returns
unfolding packet_at
returns c = let u = c in let a = u.args in let h : a.at + (7 + little_endian 2 (a.at + 5) a.trace.now) ≤ length a.trace.now = omega arith in simp (le-leb _ _ h, u.u16_at-count.ensures, c.u32_at-ticks.ensures)
