use Rattle.crc.proofs.Linear.{id, ◌⊕◌, ◌▹◌, shl, shr, run, basis}
use Rattle.crc.proofs.advance64.Goals as goal

pub returns : goal.returns
returns c = basis
    (id ⊕ shl 1 ▹ id ⊕ shl 2 ▹ id ⊕ shl 4 ▹ id ⊕ shl 8 ▹ id ⊕ shl 16 ▹ id ⊕ shl 32
    ▹ id ⊕ shl 14 ⊕ shl 15 ▹ id ⊕ shl 28 ⊕ shl 30 ▹ id ⊕ shl 56 ⊕ shl 60 ▹ shr 48 ⊕ shr 50 ⊕ shr 63)
    (run 16) 64 tt c.args.a c.ranges.a.fits
