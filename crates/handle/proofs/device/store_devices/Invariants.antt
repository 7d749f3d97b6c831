use Prim.Native.Nat.{ℕ, ◌-◌, ◌<◌, ◌≤◌}
use native.Mathlib.Omega.{arith}
use mathlib.Core.List.{List}
use mathlib.Core.Path.{◌≡◌, refl, sym, ap, ◌∙◌}
use lib.ListN.{length, get_or, drop, drop_of_length-le}
use Rattle.details.specs.Search.{blank}
use Rattle.details.specs.declared.Device.{Device}
use Rattle.handle.specs.Fits.{DeviceFits}
use Rattle.handle.specs.Words.{rows_stored}
use Rattle.handle.proofs.Turns.{row-turn, passed-next}
use Rattle.handle.proofs.device.store_devices.Given as goal

abbrev pub DevicesPassed : ℕ → List Device → Type 0
DevicesPassed i devices = (j : ℕ) → j < i → DeviceFits (get_or devices j blank)

abbrev pub invariant-loop-i : goal.invariant-loop-i
invariant-loop-i l = (length l.devices ≡ 64) × ((rows_stored l.initial.words 0 l.devices ≡ rows_stored l.words l.i (drop l.i l.devices)) × DevicesPassed l.i l.devices)
