use Rattle.std.proofs.Common.{rules}
use borrow.Author.Tests.{lt-ltb, le-ltb}
use Rattle.stream.proofs.part.is_short.Goals as goal

pub returns-then-end-start : goal.returns-then-end-start
returns-then-end-start c = simp (lt-ltb _ _ c.if-end-start.true)

pub returns : goal.returns
returns c = simp (le-ltb _ _ c.if-end-start.false)
