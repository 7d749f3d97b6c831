use Rattle.std.proofs.Common.{rules}
use Rattle.crc.specs.Crc.{generator16}
use Rattle.crc.proofs.Bits.{cons}
use Rattle.crc.proofs.join.Goals as goal

pub returns : goal.returns
returns c = (search rules, λ n q. cons generator16 n q c.args.b c.args.after (search rules))
