use mathlib.Core.List.{[], ◌∷◌}
use Rattle.text.specs.Words as words
use Rattle.text.specs.Lines as lines
use Rattle.text.proofs.Appends.{room-first, room_next, then}
use Rattle.text.proofs.refused_line.Goals as goal

pub line-next-requires : goal.line-next-requires
unfolding lines.refused_line
line-next-requires c = let s = c in let a = s.args in room-first a.out.now a.at (lines.line words.refused (a.answer ∷ []) []) (lines.line words.place (a.place ∷ []) words.newline) s.requires

pub line-requires : goal.line-requires
unfolding lines.refused_line
line-requires c = let l = c in let s = l in let a = s.args in room_next a.out.now a.at (lines.line words.refused (a.answer ∷ []) []) (lines.line words.place (a.place ∷ []) words.newline) l.line-next.ensures s.requires

pub returns : goal.returns
unfolding lines.refused_line
returns c = let m = c in let l = m in let a = l.args in then a.out.now a.at (lines.line words.refused (a.answer ∷ []) []) (lines.line words.place (a.place ∷ []) words.newline) l.line-next.ensures m.line.ensures
