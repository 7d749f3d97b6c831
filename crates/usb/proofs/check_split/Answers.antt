use borrow.Author.Tests.{eq-eqb, ne_eqb}
use Rattle.usb.specs.Packet.{format_reason}
use Rattle.usb.proofs.check_split.Goals as goal

pub returns-then-p-ne4 : goal.returns-then-p-ne4
unfolding format_reason
returns-then-p-ne4 c = simp (ne_eqb _ _ c.if-p-ne4.true)

pub returns-then-crc5_split-x : goal.returns-then-crc5_split-x
unfolding format_reason
returns-then-crc5_split-x c = simp (eq-eqb _ _ c.if-p-ne4.false, ← c.three-x.ensures, ← c.crc5_split.ensures, ne_eqb _ _ c.if-crc5_split-x.true)

pub returns : goal.returns
unfolding format_reason
returns c = simp (eq-eqb _ _ c.if-p-ne4.false, ← c.three-x.ensures, ← c.crc5_split.ensures, eq-eqb _ _ c.if-crc5_split-x.false)
