use native.Mathlib.Omega.{arith}
use Prim.Native.Nat.{◌+◌, ◌≤◌, ◌^◌}
use Rattle.tally.specs.Tallies.{tally_event}
use Rattle.tally.proofs.Bounds.{Small, looser, ending_small, then_small, anew_small}
use Rattle.tally.proofs.tally_reset.Goals as goal

pub tally_rows-requires : goal.tally_rows-requires
tally_rows-requires c = let ended : Small (c.args.waiting + 4096) c.tally_ending-t.result = rw c.tally_ending-t.ensures (ending_small c.args.e c.args.endpoints c.args.waiting c.requires.endpoints_bound) in
    let then-few : c.waiting_then.result ≤ 16384 = let l = c.requires.waiting_bound in
    let a = c.requires.active_bound in
    let s = (ended).linked in
    let t = then_small c.args.e c.tally_ending-t.result.waiting c.args.active in
    rw c.waiting_then.ensures (omega (arith, l, a, s, t)) in
    let l = c.requires.waiting_bound in
    record { endpoints_bound = c.requires.endpoints_bound; within = looser (anew_small (ended) c.waiting_then.result (then-few)) (2 ^ 40) (omega (arith, l)) }

pub returns : goal.returns
unfolding tally_event
returns c = rw (c.waiting_then.ensures, c.tally_ending-t.ensures) at c.tally_rows.ensures

pub waiting_then-requires : goal.waiting_then-requires
waiting_then-requires c = let ended : Small (c.args.waiting + 4096) c.tally_ending-t.result = rw c.tally_ending-t.ensures (ending_small c.args.e c.args.endpoints c.args.waiting c.requires.endpoints_bound) in
    let l = c.requires.waiting_bound in let s = (ended).linked in record { waiting_bound = omega (arith, l, s); active_bound = c.requires.active_bound }
