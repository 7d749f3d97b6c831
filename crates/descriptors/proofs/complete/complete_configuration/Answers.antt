use Rattle.std.proofs.Common.{ap, ◌∙◌}
use Rattle.descriptors.proofs.CompleteLaws.{configuration-told}
use Rattle.descriptors.specs.declared.choose.Choice.{Choice}
use Rattle.descriptors.specs.declared.complete.Completed.{Completed}
use Rattle.descriptors.proofs.complete.complete_configuration.Goals as goal

pub returns : goal.returns
returns c =
    let a = c.args in
    let k = c.configuration_choice-choice in
    ap (λ (r : Completed). record { note = r.note; kept = r.kept; chosen = k.result.value }) c.only_noted.ensures
    ∙ configuration-told a.a a.shelf.now _ _ _ k.ensures c.set_note-note.ensures (ap (λ (c : Choice). c.value) k.ensures)
