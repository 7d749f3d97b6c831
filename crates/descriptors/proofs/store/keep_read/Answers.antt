use Rattle.std.proofs.Common.{arith}
use Rattle.descriptors.proofs.HeldLaws.{reads_none, reads_some, forgets_few}
use Rattle.descriptors.proofs.store.keep_read.Goals as goal

pub returns-in_default : goal.returns-in_default
returns-in_default c = let a = c.args in reads_none a.base a.kept a.payload.now a.store.now c.in_default.ensures c.requires.kept_bound c.requires.base_in_bounds

pub keep-count-requires-clause-kept_bound : goal.keep-count-requires-clause-kept_bound
keep-count-requires-clause-kept_bound c = omega (arith, forgets_few c.forget-left.ensures, c.requires.kept_bound)

pub returns : goal.returns
returns c = let a = c.args in reads_some a.base a.kept a.payload.now a.store.now c.in-Some.ensures c.requires.kept_bound c.requires.base_in_bounds c.forget-left.ensures c.keep-count.ensures
