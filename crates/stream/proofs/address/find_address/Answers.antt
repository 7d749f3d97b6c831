use Rattle.std.proofs.Common.{rules}
use Prim.Native.Nat.{◌≤◌}
use mathlib.Core.Path.{◌≡◌, refl, sym, ◌∙◌}
use borrow.Author.Tests.{eq-eqb, ne_eqb}
use Rattle.details.specs.Search.{last_of}
use Rattle.details.proofs.Searches.{last_hit, last_miss}
use Rattle.stream.specs.Addresses.{is_address, found_address}
use Rattle.stream.proofs.address.find_address.Goals as goal

pub loop-i-init : goal.loop-i-init
loop-i-init c = (search rules, refl)

pub loop-i-preserved : goal.loop-i-preserved
loop-i-preserved c = (search rules, c.loop-i.invariant.1 ∙ last_miss (is_address c.args.addresses c.args.address) _ c.if-i-eq0.false (ne_eqb _ _ c.if-addresses-i.false))

pub returns-then-i-eq0 : goal.returns-then-i-eq0
unfolding found_address
returns-then-i-eq0 c = sym (rw c.if-i-eq0.true at c.loop-i.invariant.1)

pub returns-then-addresses-i : goal.returns-then-addresses-i
unfolding found_address
returns-then-addresses-i c = sym (c.loop-i.invariant.1 ∙ last_hit (is_address c.args.addresses c.args.address) _ c.if-i-eq0.false (eq-eqb _ _ c.if-addresses-i.true))
