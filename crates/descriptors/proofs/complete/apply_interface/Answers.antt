use Rattle.descriptors.proofs.CompleteLaws.{interface-unset, interface-set}
use Rattle.descriptors.proofs.complete.apply_interface.Goals as goal

pub returns-then-a-ge-UNCHOSEN : goal.returns-then-a-ge-UNCHOSEN
returns-then-a-ge-UNCHOSEN c = let a = c.args in interface-unset a.a a.shelf.now a.device c.if-a-ge-UNCHOSEN.true

pub returns : goal.returns
returns c = let a = c.args in interface-set a.a a.shelf.now _ a.device _ c.if-a-ge-UNCHOSEN.false c.interface_choice-one.ensures c.apply_kept.ensures
