use Rattle.std.proofs.Common.{rules}
use native.Mathlib.Omega.{arith}
use Rattle.decide.proofs.Bounds.{old-there}
use Rattle.quick.proofs.CloseOnly.{ends_by, rests_by}
use Rattle.quick.proofs.close.end_by.Goals as goal

pub load-e-requires : goal.load-e-requires
load-e-requires c = let s = c in
    let h = old-there s.args.d.transaction s.requires.three s.args.d.slot s.requires.held in
    let e = c.old_endpoint-x.ensures in
    omega (arith, h, e, s.requires.endpoints)

pub returns-then-q : goal.returns-then-q
returns-then-q c = let a = c.args in ends_by a.q a.d a.old a.table.now c.old_endpoint-x.ensures c.load-e.ensures c.if-q.true c.end_of.ensures

pub returns-else-q : goal.returns-else-q
returns-else-q c = let a = c.args in rests_by a.q a.d a.old a.table.now c.old_endpoint-x.ensures c.load-e.ensures c.if-q.false c.resting_end.ensures
