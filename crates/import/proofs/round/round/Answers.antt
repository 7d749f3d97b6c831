use Rattle.std.proofs.Common.{rules}
use Prim.Native.Nat.{◌^◌, ◌<◌}
use native.Mathlib.Omega.{arith}
use borrow.Author.Tests.{not-true}
use lib.ListN.{length}
use Rattle.stream.proofs.Pieces.{timed-is, timed_inside}
use Rattle.import.proofs.Importing.{round_stops, round-ends, round_few, round_goes}
use Rattle.import.proofs.round.round.Goals as goal

pub returns-then-not-p : goal.returns-then-not-p
returns-then-not-p c = round_stops c.run_packets-p.ensures (not-true _ c.if-not-p.true)

pub returns-in-Err : goal.returns-in-Err
returns-in-Err c = round-ends c.run_packets-p.ensures c.next_record.ensures c.in-Err.ensures.value c.stopped_at.ensures

pub slice_bounds-packet-count : goal.slice_bounds-packet-count
slice_bounds-packet-count c =
    let part = timed-is c.args.f c.args.file.now _ c.next_record.ensures c.piece_of.ensures.short c.in-Ok.ensures.value in
    (timed_inside part).part

pub slice_bounds-packet-start : goal.slice_bounds-packet-start
slice_bounds-packet-start c =
    let part = timed-is c.args.f c.args.file.now _ c.next_record.ensures c.piece_of.ensures.short c.in-Ok.ensures.value in
    (timed_inside part).part

pub slice_bounds-packet-end : goal.slice_bounds-packet-end
slice_bounds-packet-end c =
    let part = timed-is c.args.f c.args.file.now _ c.next_record.ensures c.piece_of.ensures.short c.in-Ok.ensures.value in
    (timed_inside part).stays

pub after_call-requires : goal.after_call-requires
after_call-requires c =
    let part = timed-is c.args.f c.args.file.now _ c.next_record.ensures c.piece_of.ensures.short c.in-Ok.ensures.value in
    let l : length c.args.file.now < 2 ^ 64 = search rules in
    let k = round_few c.run_packets-p.ensures part c.packet-r.ensures in
    record { taken = λ e. omega (arith, k.0, l); eights = λ e. omega (arith, k.1, l) }

pub returns : goal.returns
returns c =
    let part = timed-is c.args.f c.args.file.now _ c.next_record.ensures c.piece_of.ensures.short c.in-Ok.ensures.value in
    round_goes c.run_packets-p.ensures part c.packet-r.ensures c.after_call.ensures
