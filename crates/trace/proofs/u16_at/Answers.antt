use Rattle.std.proofs.Common.{◌∙◌}
use Rattle.trace.proofs.Bytes.{two}
use Rattle.trace.proofs.u16_at.Goals as goal

pub returns : goal.returns
returns c = c.from_le_bytes.ensures ∙ two c.args.trace.now c.args.at c.requires
