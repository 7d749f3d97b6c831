use Rattle.std.proofs.Common.{arith, ap, ◌∙◌, is_some}
use Rattle.descriptors.specs.Entries.{value_of}
use Rattle.descriptors.proofs.CompleteLaws.{reads_cut, reads_added, read_none, read_some}
use Rattle.descriptors.proofs.HeldLaws.{reads_few}
use Rattle.descriptors.proofs.complete.complete_read.Goals as goal

pub returns-then-is_none : goal.returns-then-is_none
returns-then-is_none c =
    let a = c.args in
    read_none a.a a.shelf.now _ (ap is_some (c.read_value.ensures ∙ ap value_of c.payload_of.ensures)) c.if-is_none.ensures _ c.only_noted.ensures

pub note_of-note-requires : goal.note_of-note-requires
note_of-note-requires c = let k = c.keep_own-left.ensures in omega (arith, reads_added k, reads_few k (omega (arith, c.min-kept.ensures)) (omega (arith, c.requires)))

pub overflow_cast-result : goal.overflow_cast-result
overflow_cast-result c = let k = c.keep_own-left.ensures in omega (arith, reads_few k (omega (arith, c.min-kept.ensures)) (omega (arith, c.requires)))

pub returns : goal.returns
returns c =
    let a = c.args in
    rw c.only_noted-2.ensures
    (read_some a.a a.shelf.now _ (ap is_some (c.read_value.ensures ∙ ap value_of c.payload_of.ensures)) c.if-is_none.ensures _
    (reads_cut a.a.start a.a.length _ _ a.a.kept a.shelf.now _ _ _ c.min-count.ensures (omega (arith, c.from.ensures, c.min-kept.ensures)) c.keep_own-left.ensures)
    c.note_of-note.ensures)
