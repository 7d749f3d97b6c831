use lib.ListN.{get_or}
use Prim.Native.Nat.{◌<◌}
use Rattle.usb.proofs.Numbers.{kind-is}
use native.Mathlib.Omega.{arith}
use Rattle.usb.proofs.fields.split_kind.Goals as goal

pub returns : goal.returns
returns c = let s = c.args.packet.now in let known = c.shared_slice_known-1.given in let g : get_or s 1 0 < 256 = omega (arith, known 1) in let h : get_or s 2 0 < 256 = omega (arith, known 2) in omega (arith, kind-is s g h, c.byte.ensures)
