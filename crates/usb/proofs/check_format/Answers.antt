use mathlib.Core.Path.{refl}
use Rattle.usb.specs.Packet.{format_reason}
use Rattle.usb.proofs.check_format.Goals as goal

pub returns-in-None : goal.returns-in-None
unfolding format_reason
returns-in-None c = rw c.in-None.is refl
