use Rattle.std.proofs.Common.{ap, ◌∙◌}
use Rattle.details.specs.Details.{with_given}
use Rattle.descriptors.specs.Entries.{max_of}
use Rattle.descriptors.proofs.CompleteLaws.{max-given}
use Rattle.descriptors.proofs.complete.set_max.Goals as goal

pub returns-in-Some : goal.returns-in-Some
returns-in-Some c = c.set_given.ensures ∙ (ap (with_given c.args.device 0 0 0) c.from.ensures ∙ max-given _ _ (c.in-Some.ensures ∙ ap max_of c.payload_of.ensures) c.args.device)

pub returns-in-None : goal.returns-in-None
returns-in-None c = max-given _ _ (c.in-None.ensures ∙ ap max_of c.payload_of.ensures) c.args.device
