use Prim.Native.Nat.{◌-◌}
use native.Mathlib.Omega.{arith}
use mathlib.Core.Path.{◌∙◌}
use lib.ListN.{get_or}
use Rattle.details.specs.Details.{bare}
use Rattle.handle.specs.Fits.{DetailFits}
use Rattle.handle.proofs.Turns.{detail-turn, passed-next}
use Rattle.handle.proofs.device.store_details.Goals as goal
use Rattle.handle.specs.Size as size

pub loop-i-preserved : goal.loop-i-preserved
loop-i-preserved c = let a = c.args in
    let l = c.loop-i in
    let m = l.invariant.0 in (
      m,
      (
        l.invariant.1.0 ∙ detail-turn l.words a.details a.at l.i c.detail_word.result (omega (arith, m, c.loop-i-test.true)) c.detail_word.ensures.value,
        passed-next (λ j. DetailFits (get_or a.details j (bare 0))) l.i l.invariant.1.1 c.detail_word.ensures.detail_fits,
      ),
    )
