use Prim.Native.Nat.{◌-◌, ◌≤◌}
use native.Mathlib.Omega.{arith}
use mathlib.Core.Path.{refl}
use Rattle.stream.specs.Addresses.{Addressed}
use Rattle.stream.proofs.Addresses.{addressed-none, addressed-next, addressed-all}
use Rattle.stream.proofs.address.addresses_of.Given as goal

abbrev pub invariant-loop-i : goal.invariant-loop-i
invariant-loop-i l = Addressed l.i l.addresses l.devices
