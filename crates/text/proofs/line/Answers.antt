use mathlib.Core.List.{◌++◌}
use Rattle.text.specs.Lines as lines
use Rattle.text.proofs.Appends.{room-first, room-second, room-third, then-third}
use Rattle.text.proofs.line.Goals as goal

pub word-next-requires : goal.word-next-requires
unfolding lines.line
word-next-requires c = let s = c in let a = s.args in room-first a.out.now a.at a.word.now (lines.fields a.ns.now ++ a.ending.now) s.requires

pub fields-next-requires : goal.fields-next-requires
unfolding lines.line
fields-next-requires c = let w = c in let s = w in let a = s.args in room-second a.out.now a.at a.word.now (lines.fields a.ns.now) a.ending.now w.word-next.ensures s.requires

pub word-requires : goal.word-requires
unfolding lines.line
word-requires c = let f = c in let w = f in let s = w in let a = s.args in room-third a.out.now a.at a.word.now (lines.fields a.ns.now) a.ending.now w.word-next.ensures f.fields-next.ensures s.requires

pub returns : goal.returns
unfolding lines.line
returns c = let e = c in let f = e in let w = f in let a = w.args in then-third a.out.now a.at a.word.now (lines.fields a.ns.now) a.ending.now w.word-next.ensures f.fields-next.ensures e.word.ensures
