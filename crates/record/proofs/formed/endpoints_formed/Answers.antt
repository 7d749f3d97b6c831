use Prim.Native.Nat.{◌-◌}
use mathlib.Core.Path.{sym, ◌∙◌}
use Rattle.record.specs.Formed.{endpoint_formed}
use Rattle.record.proofs.Every.{every-next}
use Rattle.record.proofs.formed.endpoints_formed.Goals as goal

pub loop-i-preserved : goal.loop-i-preserved
loop-i-preserved c = c.loop-i.invariant ∙ every-next (endpoint_formed c.args.counts c.args.table.now) _ _ c.loop-i-test.true (sym c.endpoint_formed.ensures ∙ c.if-not-endpoint_formed.false)
