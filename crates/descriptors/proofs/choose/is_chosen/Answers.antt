use mathlib.Core.Path.{◌∙◌}
use Rattle.descriptors.proofs.ChosenLaws.{chosen_at}
use Rattle.descriptors.proofs.choose.is_chosen.Goals as goal

pub returns : goal.returns
returns c = let a = c.args in c.is_meant.ensures ∙ chosen_at a.store.now a.from a.c
