use Rattle.std.proofs.Common.{◌∙◌}
use Rattle.descriptors.proofs.ChosenLaws.{set_at}
use Rattle.descriptors.proofs.choose.set_entry.Goals as goal

pub returns : goal.returns
returns c = c.set_from.ensures ∙ set_at c.args.store.now c.args.from c.args.device
