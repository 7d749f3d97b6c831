use Prim.Native.Nat.{◌-◌}
use mathlib.Core.Path.{◌∙◌}
use lib.ListN.{length-set}
use Rattle.handle.proofs.Turns.{fill-turn}
use Rattle.handle.proofs.device.load_details.Invariants.{details-in}
use Rattle.handle.proofs.device.load_details.Goals as goal
use Rattle.handle.specs.Size as size

pub loop-i-preserved : goal.loop-i-preserved
loop-i-preserved c = let a = c.args in
    let l = c.loop-i in (
      length-set l.details l.i _ ∙ l.invariant.0,
      fill-turn l.details (details-in a.words.now) a.at 32 l.i c.detail_of.result c.loop-i-test.true c.detail_of.ensures ∙ l.invariant.1,
    )
