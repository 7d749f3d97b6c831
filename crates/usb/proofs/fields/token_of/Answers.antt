use Rattle.usb.specs.Bits.{after}
use native.Mathlib.Nat.{div-one}
use Rattle.usb.proofs.fields.token_of.Goals as goal

pub returns : goal.returns
unfolding after
returns c = simp (c.two_from-x.ensures, div-one)
