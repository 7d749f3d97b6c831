use Prim.Native.Nat.{◌^◌}
use native.Mathlib.Omega.{arith}
use Rattle.event.specs.Event.{act_of}
use Rattle.tally.proofs.Bounds.{looser, keepalive_small, reset_small}
use Rattle.events.specs.After.{event_tally}
use Rattle.events.proofs.sum.sum_event.Goals as goal
use Rattle.std.proofs.Common.{◌-◌}

pub sum_of-requires : goal.sum_of-requires
sum_of-requires c = let s = c in
    let a = reset_small s.args.e (act_of s.args.act) s.args.d.counts.endpoints s.args.d.waiting s.args.active s.requires.endpoints_bound s.requires.waiting_bound s.requires.active_bound in
    record { countable = s.requires.countable; within = rw c.tally_reset-t.ensures (looser a (2 ^ 40) (omega arith)) }

pub sum_of-requires-else-resets : goal.sum_of-requires-else-resets
sum_of-requires-else-resets c = let s = c in
    let w = s.requires.waiting_bound in
    let a = keepalive_small (act_of s.args.act) s.args.d.keepalive s.args.d.counts.endpoints s.args.d.waiting s.requires.endpoints_bound in
    record { countable = s.requires.countable; within = rw c.tally_keepalive-t.ensures (looser a (2 ^ 40) (omega (arith, w))) }

pub returns-then-resets : goal.returns-then-resets
unfolding event_tally
returns-then-resets c = rw c.if-resets.true (rw c.tally_reset-t.ensures at c.sum_of.ensures)

pub returns-else-resets : goal.returns-else-resets
unfolding event_tally
returns-else-resets c = rw c.if-resets.false (rw c.tally_keepalive-t.ensures at c.sum_of-else-resets.ensures)
