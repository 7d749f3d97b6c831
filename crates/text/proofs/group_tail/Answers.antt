use borrow.Author.Tests.{ne_eqb}
use Rattle.text.specs.Lines as lines
use Rattle.text.proofs.group_tail.Goals as goal

pub line-requires : goal.line-requires
unfolding lines.group_tail
line-requires c = simp c.if-start-eq1.true at c.requires

pub returns-then-start-eq1 : goal.returns-then-start-eq1
unfolding lines.group_tail
returns-then-start-eq1 c = simp c.if-start-eq1.true c.line.ensures

pub line-requires-else-start-eq1 : goal.line-requires-else-start-eq1
unfolding lines.group_tail
line-requires-else-start-eq1 c = simp (ne_eqb, c.if-start-eq1.false) at c.requires

pub returns-else-start-eq1 : goal.returns-else-start-eq1
unfolding lines.group_tail
returns-else-start-eq1 c = simp (ne_eqb, c.if-start-eq1.false) c.line-else-start-eq1.ensures
