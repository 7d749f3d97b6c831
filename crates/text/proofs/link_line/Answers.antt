use borrow.Author.Tests.{ne_eqb}
use Rattle.text.specs.Lines as lines
use Rattle.text.proofs.link_line.Goals as goal

pub line-requires : goal.line-requires
unfolding lines.link_line
line-requires c = simp c.in-0.is at c.requires

pub line-requires-in-1 : goal.line-requires-in-1
unfolding lines.link_line
line-requires-in-1 c = simp c.in-1.is at c.requires

pub line-requires-in-2 : goal.line-requires-in-2
unfolding lines.link_line
line-requires-in-2 c = simp c.in-2.is at c.requires

pub line-requires-in_default : goal.line-requires-in_default
unfolding lines.link_line
line-requires-in_default c = let r = c.in_default.in_default-own.rest in simp (ne_eqb, r.1, r.0.1, r.0.0.1) at c.requires

pub returns-in-0 : goal.returns-in-0
unfolding lines.link_line
returns-in-0 c = simp c.in-0.is c.line.ensures

pub returns-in-1 : goal.returns-in-1
unfolding lines.link_line
returns-in-1 c = simp c.in-1.is c.line-in-1.ensures

pub returns-in-2 : goal.returns-in-2
unfolding lines.link_line
returns-in-2 c = simp c.in-2.is c.line-in-2.ensures

pub returns-in_default : goal.returns-in_default
unfolding lines.link_line
returns-in_default c = let r = c.in_default.in_default-own.rest in simp (ne_eqb, r.1, r.0.1, r.0.0.1) c.line-in_default.ensures
