use Rattle.crc.proofs.Linear.{id, ◌⊕◌, ◌▹◌, low, shl, shr, bit, run, basis}
use Rattle.crc.proofs.advance8.Goals as goal

pub returns : goal.returns
returns c = basis (shr 8 ⊕ (low 8 ▹ shl 6) ⊕ (low 8 ▹ shl 7) ⊕ (low 8 ▹ id ⊕ shr 4 ▹ id ⊕ shr 2 ▹ id ⊕ shr 1 ▹ bit 0xC001)) (run 2) 64 tt c.args.v c.ranges.v.fits
