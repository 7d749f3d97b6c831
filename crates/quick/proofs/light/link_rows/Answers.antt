use Rattle.std.proofs.Common.{rules}
use native.Mathlib.Omega.{arith}
use mathlib.Core.Path.{ap, ◌∙◌}
use Prim.Native.Nat.{◌+◌}
use Rattle.rows.specs.One.{one}
use Rattle.rows.specs.Sets.{one_small}
use Rattle.rows.proofs.FlagLaws.{from-one}
use Rattle.quick.proofs.light.link_rows.Goals as goal

pub overflow_add-result : goal.overflow_add-result
overflow_add-result c = let e = (c.from.ensures ∙ from-one _) in
    let h = one_small c.args.u.link in
    let f = (c.from-2.ensures ∙ from-one _) in
    let k = one_small c.is_total.result in
    omega (arith, e, h, f, k)

pub returns : goal.returns
returns c = let b = (c.from-2.ensures ∙ from-one _) ∙ ap one c.is_total.ensures in
    λ i. (c.from.ensures ∙ from-one _) i + b i
