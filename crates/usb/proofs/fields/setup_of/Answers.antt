use Rattle.usb.proofs.Numbers.{eight_is}
use native.Mathlib.Omega.{arith}
use Rattle.usb.proofs.fields.setup_of.Goals as goal

pub returns : goal.returns
returns c = omega (arith, eight_is c.args.packet.now, c.four_from-2.ensures, c.four_from.ensures)
