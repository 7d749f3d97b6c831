use Rattle.std.proofs.Common.{arith}
use Rattle.trace.proofs.Bytes.{four}
use Rattle.trace.proofs.u32_at.Goals as goal

pub returns : goal.returns
returns c = omega (arith, four c.args.trace.now c.args.at c.requires)
