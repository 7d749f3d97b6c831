use native.Mathlib.Omega.{arith}
use Rattle.usb.proofs.Numbers.{after-three}
use Rattle.usb.proofs.fields.three.Goals as goal

pub returns : goal.returns
returns c = omega (arith, after-three c.args.packet.now, c.from_le_bytes.ensures)
