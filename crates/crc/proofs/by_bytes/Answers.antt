use native.Mathlib.Omega.{arith}
use mathlib.Core.Path.{◌∙◌}
use Rattle.crc.specs.Crc.{generator16}
use Rattle.crc.proofs.Bytes.{bytes-none, byte_on}
use Rattle.crc.proofs.by_bytes.Goals as goal

pub loop-b-preserved : goal.loop-b-preserved
loop-b-preserved c = byte_on generator16 _ _ _ _ c.loop-b-test.true (omega (arith, c.type_inv.s c.loop-b.b-index)) c.advance8-state.ensures ∙ c.loop-b.invariant

pub returns : goal.returns
returns c = bytes-none generator16 _ _ _ c.loop-b-test.false ∙ c.loop-b.invariant
