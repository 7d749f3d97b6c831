use Rattle.descriptors.proofs.StepLaws.{entries_none, entries-taken, unplaced, keeps-none, keeps_same}
use Rattle.descriptors.proofs.store.keep.Goals as goal

pub returns-in_default : goal.returns-in_default
returns-in_default c = let a = c.args in keeps-none a.base a.kept _ a.store.now (entries_none a.payload.now c.in_default.ensures)

pub returns-in-Some-whole_at : goal.returns-in-Some-whole_at
returns-in-Some-whole_at c = let a = c.args in keeps_same (entries-taken a.payload.now c.in-Some.ensures c.in-Some-whole_at.ensures) c.keep_behind.ensures

pub returns-in-None : goal.returns-in-None
returns-in-None c = absurd (unplaced c.args.payload.now c.in-Some.ensures c.in-None.ensures)
