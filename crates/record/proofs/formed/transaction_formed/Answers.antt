use Rattle.record.specs.Formed.{held_formed}
use Rattle.record.proofs.formed.transaction_formed.Goals as goal

pub returns : goal.returns
unfolding held_formed
returns c = simp (c.style_formed.ensures, c.may_lack.ensures)
