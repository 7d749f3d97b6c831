use Rattle.details.specs.Details.{fresh}
use Rattle.start.proofs.fresh.put_specials.Goals as goal

pub returns : goal.returns
unfolding fresh
returns c = simp (c.put-2.ensures, c.put.ensures) at c.put-3.ensures
