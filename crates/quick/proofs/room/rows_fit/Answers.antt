use Rattle.std.proofs.Common.{rules}
use native.Mathlib.Omega.{arith}
use mathlib.Core.Bool.{◌&&◌}
use Prim.Native.Nat.{◌+◌}
use lib.Dec.{leb}
use Rattle.quick.proofs.room.rows_fit.Goals as goal

pub overflow_add-result : goal.overflow_add-result
overflow_add-result c = let a = c in let l = a.requires.len_bound in let u = a.requires.countable.few.bytes in omega (arith, l, u)

pub overflow_add-result-2 : goal.overflow_add-result-2
overflow_add-result-2 c = let u = c.requires.countable.few.packets in omega (arith, u)

pub overflow_add-result-3 : goal.overflow_add-result-3
overflow_add-result-3 c = let a = c in let l = a.requires.rows_bound in let u = a.requires.countable.few.transactions in omega (arith, l, u)

pub overflow_add-result-4 : goal.overflow_add-result-4
overflow_add-result-4 c = let a = c in let l = a.requires.links_bound in let u = a.requires.countable.few.links in omega (arith, l, u)

pub returns : goal.returns
returns c = let a = c.args in
    λ i. ((((((leb (a.held.bytes + a.len) a.room.bytes && leb (a.held.packets + 1) a.room.packets) && leb (a.held.transactions + a.rows) a.room.transactions) && leb (a.held.links + a.links) a.room.links)
    && c.up_to.ensures i) && c.up_to-2.ensures i) && c.up_to-3.ensures i) && c.up_to-4.ensures i
