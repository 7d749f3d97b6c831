use mathlib.Core.List.{[], ◌∷◌}
use Rattle.text.specs.Words as words
use Rattle.text.specs.Lines as lines
use Rattle.text.proofs.Appends.{room-first, room_next, then}
use Rattle.text.proofs.group_line.Goals as goal

pub line-next-requires : goal.line-next-requires
unfolding lines.group_line
line-next-requires c = let s = c in let a = s.args in room-first a.out.now a.at (lines.line words.group (a.row ∷ a.endpoint ∷ a.group ∷ []) []) (lines.group_tail a.start a.packet a.time) s.requires

pub group_tail-requires : goal.group_tail-requires
unfolding lines.group_line
group_tail-requires c = let l = c in let s = l in let a = s.args in room_next a.out.now a.at (lines.line words.group (a.row ∷ a.endpoint ∷ a.group ∷ []) []) (lines.group_tail a.start a.packet a.time) l.line-next.ensures s.requires

pub returns : goal.returns
unfolding lines.group_line
returns c = let m = c in let l = m in let a = l.args in then a.out.now a.at (lines.line words.group (a.row ∷ a.endpoint ∷ a.group ∷ []) []) (lines.group_tail a.start a.packet a.time) l.line-next.ensures m.group_tail.ensures
