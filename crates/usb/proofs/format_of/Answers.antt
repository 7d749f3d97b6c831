use Rattle.std.proofs.Common.{rules}
use borrow.Author.Tests.{eq-eqb, ne_eqb}
use Rattle.usb.proofs.Nibbles.{nibbles}
use Rattle.usb.proofs.format_of.Goals as goal

pub returns-then-pid-low : goal.returns-then-pid-low
returns-then-pid-low c = simp (ne_eqb _ _ c.if-pid-low.true) at (nibbles c.args.pid (search rules))

pub returns : goal.returns
returns c = simp (eq-eqb _ _ c.if-pid-low.false) at (nibbles c.args.pid (search rules))
