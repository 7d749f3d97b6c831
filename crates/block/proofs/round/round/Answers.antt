use Rattle.std.proofs.Common.{rules}
use Prim.Native.Nat.{◌^◌, ◌<◌}
use native.Mathlib.Omega.{arith}
use borrow.Author.Tests.{not-true, not-false}
use mathlib.Core.Path.{◌≡◌, refl, ◌∙◌}
use lib.ListN.{length}
use Rattle.block.proofs.Leading.{runs_by}
use Rattle.block.proofs.Taking.{round_stops, round_goes, round_few}
use Rattle.block.proofs.round.round.Goals as goal

pub returns-then-not-p : goal.returns-then-not-p
returns-then-not-p c = round_stops (runs_by c.args.typed c.run_packets-p.ensures) (not-true _ c.if-not-p.true)

pub with_step-requires : goal.with_step-requires
with_step-requires c =
    let l : length c.args.records.now < 2 ^ 64 = search rules in
    let few = round_few (runs_by c.args.typed c.run_packets-p.ensures) (not-false _ c.if-not-p.false) c.single_step-q.ensures in
    record { taken = λ k. let f = few k in omega (arith, f.0, l); eights = λ k. let f = few k in omega (arith, f.1, l) }

pub returns : goal.returns
returns c = round_goes (runs_by c.args.typed c.run_packets-p.ensures) (not-false _ c.if-not-p.false) c.single_step-q.ensures c.with_step.ensures
