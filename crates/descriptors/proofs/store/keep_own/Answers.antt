use mathlib.Core.Path.{sym}
use native.Mathlib.Omega.{arith}
use Rattle.descriptors.proofs.HeldLaws.{reads_same}
use Rattle.descriptors.proofs.StepLaws.{copied}
use Rattle.descriptors.proofs.store.keep_own.Goals as goal

pub returns : goal.returns
returns c = let a = c.args in let p = c.put in reads_same (sym (copied _ p.new.log a.shelf.now a.start a.count p.ensures (omega arith) (omega arith))) c.keep_read.ensures
