use native.Mathlib.Omega.{arith}
use mathlib.Core.Path.{refl}
use borrow.Author.Tests.{ne_eqb}
use Rattle.text.specs.Lines as lines
use Rattle.text.proofs.details_line.Goals as goal

pub returns-then-n-eq0 : goal.returns-then-n-eq0
unfolding lines.details_line
returns-then-n-eq0 c = simp c.if-n-eq0.true (record { stored = refl; place = omega arith })

pub line-requires : goal.line-requires
unfolding lines.details_line
line-requires c = simp (ne_eqb, c.if-n-eq0.false) at c.requires

pub returns : goal.returns
unfolding lines.details_line
returns c = simp (ne_eqb, c.if-n-eq0.false) c.line.ensures
