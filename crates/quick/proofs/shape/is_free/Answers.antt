use Rattle.std.proofs.Common.{rules}
use Rattle.quick.proofs.shape.is_free.Goals as goal

pub returns-in-Empty : goal.returns-in-Empty
returns-in-Empty c = simp c.in-Empty.is

pub returns-in-Current : goal.returns-in-Current
returns-in-Current c = simp c.in-Current.is c.rests.ensures

pub returns-in-Suspended : goal.returns-in-Suspended
returns-in-Suspended c = simp c.in-Suspended.is
