use mathlib.Core.Path.{refl}
use Rattle.stream.proofs.Addresses.{addressed-none, addressed-next, addressed-all}
use Rattle.stream.proofs.address.addresses_of.Goals as goal

pub loop-i-init : goal.loop-i-init
loop-i-init c = addressed-none refl

pub loop-i-preserved : goal.loop-i-preserved
loop-i-preserved c = addressed-next c.loop-i.invariant c.loop-i-test.true

pub returns : goal.returns
returns c = addressed-all c.loop-i.invariant c.loop-i-test.false
