use mathlib.Core.List.{[], ◌∷◌, ◌++◌, map}
use Rattle.text.specs.Words as words
use Rattle.text.specs.Lines as lines
use Rattle.text.specs.Numbers.{letter}
use Rattle.text.proofs.Appends.{room-first, room-second, room-third, then-third}
use Rattle.text.proofs.state_line.Goals as goal

pub line-next-requires : goal.line-next-requires
unfolding lines.state_line
line-next-requires c = let s = c in let a = s.args in room-first a.out.now a.at (lines.line words.state (a.row ∷ []) (words.space ∷ [])) (map letter a.states.now ++ words.newline) s.requires

pub letters-next-requires : goal.letters-next-requires
unfolding lines.state_line
letters-next-requires c = let l = c in let s = l in let a = s.args in room-second a.out.now a.at (lines.line words.state (a.row ∷ []) (words.space ∷ [])) (map letter a.states.now) words.newline l.line-next.ensures s.requires

pub byte-requires : goal.byte-requires
unfolding lines.state_line
byte-requires c = let h = c in let l = h in let s = l in let a = s.args in room-third a.out.now a.at (lines.line words.state (a.row ∷ []) (words.space ∷ [])) (map letter a.states.now) words.newline l.line-next.ensures h.letters-next.ensures s.requires

pub returns : goal.returns
unfolding lines.state_line
returns c = let m = c in let h = m in let l = h in let a = l.args in then-third a.out.now a.at (lines.line words.state (a.row ∷ []) (words.space ∷ [])) (map letter a.states.now) words.newline l.line-next.ensures h.letters-next.ensures m.byte.ensures
