use borrow.Author.Tests.{ne_eqb}
use Rattle.text.specs.Lines as lines
use Rattle.text.proofs.endpoint_line.Goals as goal

pub line-requires : goal.line-requires
unfolding lines.endpoint_line
line-requires c = simp c.in-16.is at c.requires

pub line-requires-in-17 : goal.line-requires-in-17
unfolding lines.endpoint_line
line-requires-in-17 c = simp c.in-17.is at c.requires

pub line-requires-in-18 : goal.line-requires-in-18
unfolding lines.endpoint_line
line-requires-in-18 c = simp c.in-18.is at c.requires

pub line-requires-in_default : goal.line-requires-in_default
unfolding lines.endpoint_line
line-requires-in_default c = let r = c.in_default.in_default-own.rest in simp (c.if-direction-eq1.true, ne_eqb, r.1, r.0.1, r.0.0.1) at c.requires

pub returns-in_default : goal.returns-in_default
unfolding lines.endpoint_line
returns-in_default c = let r = c.in_default.in_default-own.rest in simp (c.if-direction-eq1.true, ne_eqb, r.1, r.0.1, r.0.0.1) c.line-in_default.ensures

pub line-requires-in_default-2 : goal.line-requires-in_default-2
unfolding lines.endpoint_line
line-requires-in_default-2 c = let r = c.in_default.in_default-own.rest in simp (ne_eqb, c.if-direction-eq1.false, r.1, r.0.1, r.0.0.1) at c.requires

pub returns-in-16 : goal.returns-in-16
unfolding lines.endpoint_line
returns-in-16 c = simp c.in-16.is c.line.ensures

pub returns-in-17 : goal.returns-in-17
unfolding lines.endpoint_line
returns-in-17 c = simp c.in-17.is c.line-in-17.ensures

pub returns-in-18 : goal.returns-in-18
unfolding lines.endpoint_line
returns-in-18 c = simp c.in-18.is c.line-in-18.ensures

pub returns-in_default-2 : goal.returns-in_default-2
unfolding lines.endpoint_line
returns-in_default-2 c = let r = c.in_default.in_default-own.rest in simp (ne_eqb, c.if-direction-eq1.false, r.1, r.0.1, r.0.0.1) c.line-in_default-2.ensures
