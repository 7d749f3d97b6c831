use lib.ListN.{get_or}
use Prim.Native.Nat.{◌<◌}
use Rattle.usb.proofs.Numbers.{sc-is}
use native.Mathlib.Omega.{arith}
use Rattle.usb.proofs.fields.split_sc.Goals as goal

pub returns : goal.returns
returns c = let s = c.args.packet.now in let g : get_or s 1 0 < 256 = omega (arith, c.shared_slice_known-1.given 1) in omega (arith, sc-is s g, c.byte.ensures)
