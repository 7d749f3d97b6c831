use Prim.Native.Nat.{◌+◌, ◌-◌}
use native.Mathlib.Omega.{arith}
use mathlib.Core.Path.{◌≡◌, ap, ◌∙◌}
use lib.ListN.{length-set}
use Rattle.handle.specs.Words.{device_at, devices_in}
use Rattle.handle.proofs.Turns.{fill-turn, fill_end}
use Rattle.handle.proofs.device.load_devices.Goals as goal
use Rattle.handle.specs.Size as size

pub loop-i-preserved : goal.loop-i-preserved
loop-i-preserved c = let a = c.args in
    let l = c.loop-i in
    let e : l.i ≡ 0 + l.i = omega arith in (
      length-set l.devices l.i _ ∙ l.invariant.0,
      fill-turn l.devices (device_at a.words.now) 0 64 l.i c.load_device.result c.loop-i-test.true (c.load_device.ensures ∙ ap (device_at a.words.now) e) ∙ l.invariant.1,
    )

pub returns : goal.returns
unfolding devices_in
returns c = let a = c.args in
    let l = c.loop-i in
    fill_end l.devices (device_at a.words.now) 0 64 l.i c.loop-i-test.false ∙ l.invariant.1
