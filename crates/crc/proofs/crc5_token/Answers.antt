use lib.Dec.{lit<}
use Rattle.crc.specs.Crc.{step, bits}
use Rattle.crc.proofs.Linear.{id, ◌⊕◌, ◌▹◌, low, shr}
use Rattle.crc.proofs.AtOnce.{shl32, at_once}
use Rattle.crc.proofs.crc5_token.Goals as goal

pub returns : goal.returns
unfolding bits step
returns c = at_once (id ⊕ shl32 3 ⊕ shl32 5 ▹ id ⊕ shl32 6 ⊕ shl32 10 ▹ low 11 ▹ shr 6 ⊕ shr 8) 11 c.args.x (lit< tt) tt
