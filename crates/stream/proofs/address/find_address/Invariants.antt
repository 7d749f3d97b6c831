use Prim.Native.Nat.{◌≤◌}
use mathlib.Core.Path.{◌≡◌, refl, sym, ◌∙◌}
use borrow.Author.Tests.{eq-eqb, ne_eqb}
use Rattle.details.specs.Search.{last_of}
use Rattle.details.proofs.Searches.{last_hit, last_miss}
use Rattle.stream.specs.Addresses.{is_address, found_address}
use Rattle.stream.proofs.address.find_address.Given as goal

abbrev pub invariant-loop-i : goal.invariant-loop-i
invariant-loop-i l = (l.i ≤ l.n) × (last_of (is_address l.addresses l.address) l.n ≡ last_of (is_address l.addresses l.address) l.i)

abbrev pub decreases-loop-i : goal.decreases-loop-i
decreases-loop-i l = l.i
