use mathlib.Core.Path.{◌∙◌}
use Rattle.descriptors.proofs.CompleteLaws.{interface-none, interface-told}
use Rattle.descriptors.proofs.complete.complete_interface.Goals as goal

pub returns-then-a-ge-UNCHOSEN : goal.returns-then-a-ge-UNCHOSEN
returns-then-a-ge-UNCHOSEN c = let a = c.args in c.only_noted.ensures ∙ interface-none a.a a.shelf.now c.if-a-ge-UNCHOSEN.true

pub returns : goal.returns
returns c = let a = c.args in c.only_noted-2.ensures ∙ interface-told a.a a.shelf.now _ _ c.if-a-ge-UNCHOSEN.false c.interface_choice-choice.ensures c.set_note.ensures
