use native.Mathlib.Omega.{arith}
use Prim.Native.Nat.{◌^◌}
use Rattle.tally.specs.Tallies.{tally_end}
use Rattle.tally.proofs.Bounds.{from_within, looser, update_small}
use Rattle.tally.proofs.tally_end.Goals as goal
use Rattle.std.proofs.Common.{◌-◌}

pub tally_effect-requires : goal.tally_effect-requires
tally_effect-requires c = let a = update_small (from_within c.requires.within) c.args.s.update c.args.endpoints c.requires.endpoints_bound in
    rw c.tally_update-t.ensures (looser a (2 ^ 60) (omega arith))

pub returns : goal.returns
unfolding tally_end
returns c = rw c.tally_update-t.ensures at c.tally_effect.ensures
