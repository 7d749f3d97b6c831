use mathlib.Core.Path.{◌∙◌}
use Prim.Native.Nat.{◌+◌, ◌-◌}
use lib.ListN.{length}
use native.Mathlib.Omega.{arith}
use Rattle.descriptors.proofs.ChosenLaws.{laid_none, laid_part, laid-whole}
use Rattle.descriptors.proofs.payload.lay.Goals as goal

pub returns-then-count-ge-MOST : goal.returns-then-count-ge-MOST
returns-then-count-ge-MOST c = let a = c.args in laid_none a.start a.count a.packet.now a.shelf.now c.if-count-ge-MOST.true

pub returns-then-room-end : goal.returns-then-room-end
returns-then-room-end c = let a = c.args in c.put.ensures ∙ laid_part a.start a.count a.packet.now a.shelf.now (4096 - a.count + 1 - 1) (omega arith) (omega arith)

pub returns : goal.returns
returns c = let a = c.args in c.put-2.ensures ∙ laid-whole a.start a.count a.packet.now a.shelf.now (length a.packet.now - 2 - 1) (omega arith) (omega arith) (omega arith)
