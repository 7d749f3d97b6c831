use Rattle.crc.proofs.Linear.{id, ◌⊕◌, ◌▹◌, shl, shr, run, basis}
use Rattle.crc.proofs.fold.Goals as goal

pub returns : goal.returns
returns c = basis (id ⊕ shl 61 ⊕ shl 56 ⊕ shl 46 ▹ shr 3 ⊕ shr 8 ⊕ shr 18 ▹ run 16) (run 32) 64 tt c.args.a c.ranges.a.fits
