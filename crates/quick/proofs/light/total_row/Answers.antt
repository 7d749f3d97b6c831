use Rattle.std.proofs.Common.{rules}
use native.Mathlib.Omega.{arith}
use mathlib.Core.Path.{refl, ap, ◌∙◌}
use Prim.Native.Nat.{ℕ, ◌*◌}
use mathlib.Core.List.{[], ◌∷◌}
use lib.Seq.{sets}
use Rattle.rows.specs.Widths.{link_width}
use Rattle.endpoints.specs.Link.{D}
use Rattle.rows.specs.One.{one}
use Rattle.group.specs.declared.Effect.{Effect}
use Rattle.quick.specs.Light.{is_total}
use Rattle.quick.proofs.light.total_row.Goals as goal

pub put-requires : goal.put-requires
put-requires c = let e = ap (λ (f : Effect). one (is_total f)) c.in-IndexData.is in let h = c.requires in omega (arith, e, h)

pub returns-in-IndexData : goal.returns-in-IndexData
returns-in-IndexData c = let a = c.args in
    rw c.in-IndexData.is
    (c.put.ensures ∙ ap (λ (r : ℕ). sets a.links.now (a.n * link_width) (D ∷ a.x ∷ r ∷ a.e.total ∷ [])) c.payload_row-row.ensures)
