use Rattle.std.proofs.Common.{rules}
use mathlib.Core.Path.{ap, ◌∙◌}
use Rattle.endpoints.specs.declared.Endpoint.{Endpoint}
use Rattle.rules.specs.Transactions.{is_kept}
use Rattle.quick.proofs.shape.lays.Goals as goal

pub returns : goal.returns
returns c = let a = c.args in let t = a.t in c.is_kept.ensures ∙ ap (λ (e : Endpoint). is_kept a.high t e t.last) c.load-e.ensures
