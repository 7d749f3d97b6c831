use Prim.Native.Nat.{◌^◌}
use Rattle.std.proofs.Common.{rules}
use Rattle.tally.specs.Tally.{Within, tally_update}
use Rattle.tally.proofs.add.tally_update.Goals as goal

pub add_item-requires-then-u-6 : goal.add_item-requires-then-u-6
add_item-requires-then-u-6 c =
    let small : Within (2 ^ 52) c.if-u-3.t = search rules in
    search rules

pub returns-then-u-6 : goal.returns-then-u-6
unfolding tally_update
returns-then-u-6 c = search rules

pub returns-else-u-6 : goal.returns-else-u-6
unfolding tally_update
returns-else-u-6 c = search rules
