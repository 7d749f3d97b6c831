use Rattle.std.proofs.Common.{rules}
use mathlib.Core.Path.{ap, ◌∙◌}
use Rattle.details.specs.declared.Detail.{Detail}
use Rattle.decide.specs.Near.{near_by}
use Rattle.stream.proofs.sight.near_by.Goals as goal

pub returns : goal.returns
returns c = let s = c.args in
    c.near_of.ensures ∙ ap (λ (old : Detail). near_by s.s.found s.s.number s.row old) c.endpoint_details-old.ensures
