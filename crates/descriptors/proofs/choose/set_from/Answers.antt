use mathlib.Core.Path.{ap, ◌∙◌}
use Prim.Native.Nat.{ℕ, ◌/◌, ◌%◌}
use Rattle.details.specs.Details.{with_given}
use Rattle.descriptors.specs.Chosen.{set_from}
use Rattle.descriptors.proofs.choose.set_from.Goals as goal

pub returns : goal.returns
unfolding set_from
returns c = let a = c.args in c.set_given.ensures ∙ ap (λ (m : ℕ). with_given a.device (a.address % 16) (a.address / 128 % 2) (a.attributes % 4) (m % 2048)) c.pair-max.ensures
