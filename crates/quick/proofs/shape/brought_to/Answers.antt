use Rattle.std.proofs.Common.{rules}
use Rattle.quick.proofs.shape.brought_to.Goals as goal

pub returns : goal.returns
returns c = rw (c.extract_payload.ensures, c.setup_of.ensures) at c.with_pid.ensures
