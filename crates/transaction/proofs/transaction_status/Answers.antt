use Rattle.transaction.specs.Status.{transaction_status}
use Rattle.transaction.proofs.transaction_status.Goals as goal

pub returns : goal.returns
unfolding transaction_status
returns c = simp (← c.check-checked.ensures, c.status_by.ensures)
