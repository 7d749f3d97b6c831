use borrow.Author.Tests.{ne_eqb}
use Rattle.text.specs.Lines as lines
use Rattle.text.proofs.note_end.Goals as goal

pub line-requires : goal.line-requires
unfolding lines.note_end
line-requires c = simp c.in-1.is at c.requires

pub line-requires-in-2 : goal.line-requires-in-2
unfolding lines.note_end
line-requires-in-2 c = simp c.in-2.is at c.requires

pub line-requires-in-3 : goal.line-requires-in-3
unfolding lines.note_end
line-requires-in-3 c = simp c.in-3.is at c.requires

pub word-requires : goal.word-requires
unfolding lines.note_end
word-requires c = let r = c.in_default.in_default-own.rest in simp (ne_eqb, r.1, r.0.1, r.0.0.1) at c.requires

pub returns-in-1 : goal.returns-in-1
unfolding lines.note_end
returns-in-1 c = simp c.in-1.is c.line.ensures

pub returns-in-2 : goal.returns-in-2
unfolding lines.note_end
returns-in-2 c = simp c.in-2.is c.line-in-2.ensures

pub returns-in-3 : goal.returns-in-3
unfolding lines.note_end
returns-in-3 c = simp c.in-3.is c.line-in-3.ensures

pub returns-in_default : goal.returns-in_default
unfolding lines.note_end
returns-in_default c = let r = c.in_default.in_default-own.rest in simp (ne_eqb, r.1, r.0.1, r.0.0.1) c.word.ensures
