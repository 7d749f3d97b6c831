use Rattle.std.proofs.Common.{rules}
use Rattle.endpoints.specs.Table.{first_at}
use Rattle.record.proofs.room.first.Goals as goal

pub returns : goal.returns
unfolding first_at
returns c = search rules
