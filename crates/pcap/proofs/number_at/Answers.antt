use Rattle.std.proofs.Common.{sym, ap, ◌∙◌, arith}
use Rattle.pcap.specs.Numbers.{number_at}
use Rattle.pcap.proofs.Bytes.{big-end, little-end}
use Rattle.pcap.proofs.number_at.Goals as goal

pub returns-then-big : goal.returns-then-big
returns-then-big c =
    let a = c.args in
    omega (arith, c.from_be_bytes.ensures, big-end a.file.now a.at c.requires) ∙ ap (λ b. number_at b a.at a.file.now) (sym c.if-big.true)

pub returns-else-big : goal.returns-else-big
returns-else-big c =
    let a = c.args in
    omega (arith, c.from_le_bytes.ensures, little-end a.file.now a.at c.requires) ∙ ap (λ b. number_at b a.at a.file.now) (sym c.if-big.false)
