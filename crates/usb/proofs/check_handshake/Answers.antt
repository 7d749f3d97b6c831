use borrow.Author.Tests.{eq-eqb, ne_eqb}
use Rattle.usb.specs.Packet.{format_reason}
use Rattle.usb.proofs.check_handshake.Goals as goal

pub returns-then-p-ne1 : goal.returns-then-p-ne1
unfolding format_reason
returns-then-p-ne1 c = simp (ne_eqb _ _ c.if-p-ne1.true)

pub returns : goal.returns
unfolding format_reason
returns c = simp (eq-eqb _ _ c.if-p-ne1.false)
