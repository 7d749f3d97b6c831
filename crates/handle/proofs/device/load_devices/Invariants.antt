use Prim.Native.Nat.{◌+◌, ◌-◌, ◌≤◌}
use native.Mathlib.Omega.{arith}
use mathlib.Core.Path.{◌≡◌, refl, ap, ◌∙◌}
use lib.ListN.{length, replicate, length-set}
use lib.Seq.{sets}
use Rattle.details.specs.Search.{blank}
use Rattle.handle.specs.Words.{from, device_at, devices_in}
use Rattle.handle.proofs.Turns.{fill_start, fill-turn, fill_end}
use Rattle.handle.proofs.device.load_devices.Given as goal

abbrev pub invariant-loop-i : goal.invariant-loop-i
invariant-loop-i l = (length l.devices ≡ 64) × (sets l.devices l.i (from (device_at l.words) (0 + l.i) (64 - l.i)) ≡ from (device_at l.words) 0 64)
