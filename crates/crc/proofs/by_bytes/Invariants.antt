use mathlib.Core.Path.{◌≡◌}
use lib.ListN.{drop}
use Rattle.crc.specs.Crc.{generator16, bytes}
use Rattle.crc.proofs.by_bytes.Given as goal

abbrev pub invariant-loop-b : goal.invariant-loop-b
invariant-loop-b l = bytes generator16 l.state (drop l.b-index l.s) ≡ bytes generator16 l.from l.s
