use Prim.Native.Nat.{◌-◌}
use mathlib.Core.Path.{sym, ◌∙◌}
use Rattle.record.proofs.Every.{every-next}
use Rattle.sound.specs.Sound.{is_paid}
use Rattle.sound.proofs.endpoints_paid.Goals as goal

pub loop-i-preserved : goal.loop-i-preserved
loop-i-preserved c = c.loop-i.invariant ∙ every-next (is_paid c.args.d c.args.table.now) _ _ c.loop-i-test.true (sym c.endpoint_paid.ensures ∙ c.if-not-endpoint_paid.false)
