use Prim.Native.Nat.{◌/◌, ◌%◌}
use mathlib.Core.List.{[], ◌∷◌, ◌++◌}
use Rattle.text.specs.Words as words
use Rattle.text.specs.Lines as lines
use Rattle.text.specs.Numbers.{decimal, hex_setup}
use Rattle.text.proofs.Appends.{room-first, room-second, room-before-last, room-last, then-last}
use Rattle.text.proofs.request_line.Goals as goal

pub line-next-requires : goal.line-next-requires
unfolding lines.request_line
line-next-requires c = let s = c in
    let a = s.args in
    room-first a.out.now a.at (lines.line words.request (a.row ∷ a.endpoint ∷ []) (words.space ∷ []))
    (hex_setup a.setup ++ ((words.space ∷ decimal a.length) ++ lines.note_end (a.note % 4) (a.note / 4)))
    s.requires

pub hex_setup-next-requires : goal.hex_setup-next-requires
unfolding lines.request_line
hex_setup-next-requires c = let s = c in
    let a = s.args in
    room-second a.out.now a.at (lines.line words.request (a.row ∷ a.endpoint ∷ []) (words.space ∷ [])) (hex_setup a.setup)
    ((words.space ∷ decimal a.length) ++ lines.note_end (a.note % 4) (a.note / 4))
    c.line-next.ensures
    s.requires

pub field-next-requires : goal.field-next-requires
unfolding lines.request_line
field-next-requires c = let s = c in
    let a = s.args in
    room-before-last a.out.now a.at (lines.line words.request (a.row ∷ a.endpoint ∷ []) (words.space ∷ [])) (hex_setup a.setup)
    (words.space ∷ decimal a.length)
    (lines.note_end (a.note % 4) (a.note / 4))
    c.line-next.ensures
    c.hex_setup-next.ensures
    s.requires

pub note_end-requires : goal.note_end-requires
unfolding lines.request_line
note_end-requires c = let s = c in
    let a = s.args in
    room-last a.out.now a.at (lines.line words.request (a.row ∷ a.endpoint ∷ []) (words.space ∷ [])) (hex_setup a.setup)
    (words.space ∷ decimal a.length)
    (lines.note_end (a.note % 4) (a.note / 4))
    c.line-next.ensures
    c.hex_setup-next.ensures
    c.field-next.ensures
    s.requires

pub returns : goal.returns
unfolding lines.request_line
returns c = let a = c.args in
    then-last a.out.now a.at (lines.line words.request (a.row ∷ a.endpoint ∷ []) (words.space ∷ [])) (hex_setup a.setup)
    (words.space ∷ decimal a.length)
    (lines.note_end (a.note % 4) (a.note / 4))
    c.line-next.ensures
    c.hex_setup-next.ensures
    c.field-next.ensures
    c.note_end.ensures
