use Prim.Native.Nat.{◌^◌}
use native.Mathlib.Omega.{arith}
use Rattle.tally.proofs.Bounds.{looser, ending_small}
use Rattle.events.proofs.sum.sum_finish.Goals as goal
use Rattle.std.proofs.Common.{◌-◌}

pub sum_of-requires : goal.sum_of-requires
sum_of-requires c = let s = c in
    let w = s.requires.waiting_bound in
    let a = ending_small s.args.e s.args.d.counts.endpoints s.args.d.waiting s.requires.endpoints_bound in
    record { countable = s.requires.countable; within = rw c.tally_ending-t.ensures (looser a (2 ^ 40) (omega (arith, w))) }
