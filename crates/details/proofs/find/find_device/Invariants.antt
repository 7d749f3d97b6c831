use Prim.Native.Nat.{◌≤◌}
use mathlib.Core.Path.{◌≡◌}
use Rattle.details.specs.Lookup.{is_device}
use Rattle.details.specs.Search.{last_of}
use Rattle.details.proofs.find.find_device.Given as goal

abbrev pub invariant-loop-i : goal.invariant-loop-i
invariant-loop-i l = (l.i ≤ l.n) × (last_of (is_device l.devices l.address) l.n ≡ last_of (is_device l.devices l.address) l.i)

abbrev pub decreases-loop-i : goal.decreases-loop-i
decreases-loop-i l = l.i
