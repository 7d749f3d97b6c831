use Rattle.std.proofs.Common.{arith, ◌+◌}
use Rattle.descriptors.proofs.CompleteLaws.{count_most}
use Rattle.descriptors.proofs.complete.set_note.Goals as goal

pub note_of-requires : goal.note_of-requires
note_of-requires c =
    let a = c.args in
    omega (arith, c.count_set-count.ensures, count_most a.choice (a.a.start + 4096) c.min-kept.result a.a.kept a.shelf.now (omega (arith, c.from.ensures, c.min-kept.ensures)))
