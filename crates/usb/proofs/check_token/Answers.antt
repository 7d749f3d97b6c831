use borrow.Author.Tests.{eq-eqb, ne_eqb}
use Rattle.usb.specs.Packet.{format_reason}
use Rattle.usb.proofs.check_token.Goals as goal

pub returns-then-p-ne3 : goal.returns-then-p-ne3
unfolding format_reason
returns-then-p-ne3 c = simp (ne_eqb _ _ c.if-p-ne3.true)

pub returns-then-crc5_token-x : goal.returns-then-crc5_token-x
unfolding format_reason
returns-then-crc5_token-x c = simp (eq-eqb _ _ c.if-p-ne3.false, ← c.two-x.ensures, ← c.crc5_token.ensures, ne_eqb _ _ c.if-crc5_token-x.true)

pub returns : goal.returns
unfolding format_reason
returns c = simp (eq-eqb _ _ c.if-p-ne3.false, ← c.two-x.ensures, ← c.crc5_token.ensures, eq-eqb _ _ c.if-crc5_token-x.false)
