use mathlib.Core.Path.{◌≡◌}
use Prim.Native.Nat.{◌-◌}
use Rattle.crc.specs.Crc.{generator5, ones5, bits}
use Rattle.crc.proofs.crc5.Given as goal

abbrev pub invariant-loop : goal.invariant-loop
invariant-loop l = bits generator5 (l.n - l.counter) l.state l.input ≡ bits generator5 l.n ones5 l.x
