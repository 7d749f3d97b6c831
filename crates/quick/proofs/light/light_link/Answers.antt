use Rattle.std.proofs.Common.{rules}
use native.Mathlib.Omega.{arith}
use mathlib.Core.Path.{refl, ap}
use Rattle.rows.specs.One.{one}
use Rattle.quick.proofs.light.light_link.Goals as goal

pub put-requires : goal.put-requires
put-requires c = let e = ap one c.if-l.true in let h = c.requires in omega (arith, e, h)

pub returns-then-l : goal.returns-then-l
returns-then-l c = rw c.if-l.true (record { value = refl; links_after = c.put.ensures })

pub returns : goal.returns
returns c = rw c.if-l.false (record { value = refl; links_after = refl })
