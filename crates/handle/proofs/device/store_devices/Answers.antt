use Prim.Native.Nat.{◌-◌}
use native.Mathlib.Omega.{arith}
use mathlib.Core.Path.{◌∙◌}
use lib.ListN.{get_or}
use Rattle.details.specs.Search.{blank}
use Rattle.handle.specs.Fits.{DeviceFits}
use Rattle.handle.proofs.Turns.{row-turn, passed-next}
use Rattle.handle.proofs.device.store_devices.Goals as goal
use Rattle.handle.specs.Size as size

pub loop-i-preserved : goal.loop-i-preserved
loop-i-preserved c = let a = c.args in
    let l = c.loop-i in
    let m = l.invariant.0 in (
      m,
      (
        l.invariant.1.0 ∙ row-turn l.words c.store_device.new.words a.devices l.i (omega (arith, m, c.loop-i-test.true)) c.store_device.ensures.words_after,
        passed-next (λ j. DeviceFits (get_or a.devices j blank)) l.i l.invariant.1.1 c.store_device.ensures.device_fits,
      ),
    )
