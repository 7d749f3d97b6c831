use mathlib.Core.Path.{◌∙◌}
use Rattle.usb.proofs.Numbers.{after_two}
use Rattle.usb.proofs.fields.two.Goals as goal

pub returns : goal.returns
returns c = c.pair.ensures ∙ after_two _
