use Prim.Native.Nat.{ℕ, ◌+◌, ◌-◌, ◌^◌, ◌<◌, ◌≤◌}
use native.Mathlib.Omega.{arith}
use Rattle.std.proofs.Common.{rules}
use mathlib.Core.List.{List}
use mathlib.Core.Path.{◌≡◌, refl, sym, ◌∙◌}
use borrow.Author.Tests.{not-true, not-false}
use lib.ListN.{length, set}
use Rattle.rows.proofs.WidthsLaws.{each-log, log-number}
use Rattle.call.specs.State.{State, state, Logs, logs}
use Rattle.packet.proofs.Answers.{with_parts}
use Rattle.packet.proofs.Changes.{changed_by, shelved_by, requested_by, changed-none, shelved-none, requested-none}
use Rattle.step.specs.Block.{Stand, stand}
use Rattle.stream.specs.Led.{bytes_of}
use Rattle.stream.proofs.Addresses.{addressed-made}
use Rattle.stream.proofs.Finding.{IsPart, part-is}
use Rattle.stream.proofs.Staying.{eight_small}
use Rattle.stream.proofs.Streaming.{Streaming, streaming-start, streaming-ends, streaming_unfinished, streaming-ready, streaming_bounds, streaming_further, streaming-counts, streaming-short, streaming-place, streaming-owner, streaming-number, streaming-lent, streaming_stops, streaming-more}
use Rattle.stream.proofs.run_packets.Goals as goal

pub loop-reader-init : goal.loop-reader-init
loop-reader-init c =
    let many : length c.args.devices ≡ 64 = search rules in
    streaming-start c.args.records.now c.args.at c.args.clock {s = stand (state c.args.d c.args.devices c.args.table.now (logs c.args.bytes.now c.args.device_rows.now c.args.endpoint_rows.now c.args.packets.now c.args.events.now c.args.transactions.now c.args.groups.now c.args.statebytes.now c.args.states.now c.args.items.now c.args.links.now c.args.requests.now)) c.args.shelf.now} c.requires many c.addresses_of-addresses.ensures

pub returns-then-not-part : goal.returns-then-not-part
returns-then-not-part c = streaming-ends c.loop-reader.invariant

pub slice_bounds-packet-count : goal.slice_bounds-packet-count
slice_bounds-packet-count c =
    let k = part-is c.args.reader c.args.ready c.args.records.now c.loop-reader.at c.loop-reader.clock c.part_at-part.ensures.value c.part_at-part.ensures.seconds_at (not-false _ c.if-not-part.false) in
    (streaming_bounds c.loop-reader.invariant k).0

pub slice_bounds-packet-start : goal.slice_bounds-packet-start
slice_bounds-packet-start c =
    let k = part-is c.args.reader c.args.ready c.args.records.now c.loop-reader.at c.loop-reader.clock c.part_at-part.ensures.value c.part_at-part.ensures.seconds_at (not-false _ c.if-not-part.false) in
    (streaming_bounds c.loop-reader.invariant k).0

pub slice_bounds-packet-end : goal.slice_bounds-packet-end
slice_bounds-packet-end c =
    let k = part-is c.args.reader c.args.ready c.args.records.now c.loop-reader.at c.loop-reader.clock c.part_at-part.ensures.value c.part_at-part.ensures.seconds_at (not-false _ c.if-not-part.false) in
    (streaming_bounds c.loop-reader.invariant k).1

pub sight_of-sight-requires : goal.sight_of-sight-requires
sight_of-sight-requires c =
    let k = part-is c.args.reader c.args.ready c.args.records.now c.loop-reader.at c.loop-reader.clock c.part_at-part.ensures.value c.part_at-part.ensures.seconds_at (not-false _ c.if-not-part.false) in
    streaming-ready c.loop-reader.invariant k

pub offset_bounds-devices-place : goal.offset_bounds-devices-place
offset_bounds-devices-place c =
    let k = part-is c.args.reader c.args.ready c.args.records.now c.loop-reader.at c.loop-reader.clock c.part_at-part.ensures.value c.part_at-part.ensures.seconds_at (not-false _ c.if-not-part.false) in
    let h = streaming-place c.loop-reader.invariant k c.sight_of-sight.ensures in omega (arith, h)

pub bounds-devices-place : goal.bounds-devices-place
bounds-devices-place c =
    let k = part-is c.args.reader c.args.ready c.args.records.now c.loop-reader.at c.loop-reader.clock c.part_at-part.ensures.value c.part_at-part.ensures.seconds_at (not-false _ c.if-not-part.false) in
    streaming-place c.loop-reader.invariant k c.sight_of-sight.ensures

pub offset_bounds-devices-owner : goal.offset_bounds-devices-owner
offset_bounds-devices-owner c =
    let k = part-is c.args.reader c.args.ready c.args.records.now c.loop-reader.at c.loop-reader.clock c.part_at-part.ensures.value c.part_at-part.ensures.seconds_at (not-false _ c.if-not-part.false) in
    let h = streaming-owner c.loop-reader.invariant k c.sight_of-sight.ensures in omega (arith, h)

pub bounds-devices-owner : goal.bounds-devices-owner
bounds-devices-owner c =
    let k = part-is c.args.reader c.args.ready c.args.records.now c.loop-reader.at c.loop-reader.clock c.part_at-part.ensures.value c.part_at-part.ensures.seconds_at (not-false _ c.if-not-part.false) in
    streaming-owner c.loop-reader.invariant k c.sight_of-sight.ensures

pub near_by-near-requires : goal.near_by-near-requires
near_by-near-requires c =
    let k = part-is c.args.reader c.args.ready c.args.records.now c.loop-reader.at c.loop-reader.clock c.part_at-part.ensures.value c.part_at-part.ensures.seconds_at (not-false _ c.if-not-part.false) in
    streaming-number c.loop-reader.invariant k c.sight_of-sight.ensures

pub quick_in-r-requires : goal.quick_in-r-requires
quick_in-r-requires c =
    let k = part-is c.args.reader c.args.ready c.args.records.now c.loop-reader.at c.loop-reader.clock c.part_at-part.ensures.value c.part_at-part.ensures.seconds_at (not-false _ c.if-not-part.false) in
    let g = c.loop-reader in
    record { some_lent = record { devices = g.devices; lent = streaming-lent g.invariant k c.sight_of-sight.ensures c.near_by-near.ensures }; finished_value = streaming_unfinished g.invariant k; packet_len_bound = streaming-short g.invariant k }

pub slice_bounds-shelve-count : goal.slice_bounds-shelve-count
slice_bounds-shelve-count c =
    let k = part-is c.args.reader c.args.ready c.args.records.now c.loop-reader.at c.loop-reader.clock c.part_at-part.ensures.value c.part_at-part.ensures.seconds_at (not-false _ c.if-not-part.false) in
    (streaming_bounds c.loop-reader.invariant k).0

pub slice_bounds-shelve-start : goal.slice_bounds-shelve-start
slice_bounds-shelve-start c =
    let k = part-is c.args.reader c.args.ready c.args.records.now c.loop-reader.at c.loop-reader.clock c.part_at-part.ensures.value c.part_at-part.ensures.seconds_at (not-false _ c.if-not-part.false) in
    (streaming_bounds c.loop-reader.invariant k).0

pub slice_bounds-shelve-end-then-is_change : goal.slice_bounds-shelve-end-then-is_change
slice_bounds-shelve-end-then-is_change c =
    let k = part-is c.args.reader c.args.ready c.args.records.now c.loop-reader.at c.loop-reader.clock c.part_at-part.ensures.value c.part_at-part.ensures.seconds_at (not-false _ c.if-not-part.false) in
    (streaming_bounds c.loop-reader.invariant k).1

pub shelve-s-requires : goal.shelve-s-requires
shelve-s-requires c =
    let h = c.quick_in-r.ensures.placed in
    let l = c.told-shelf in
    record { in_bounds = omega (arith, l); device_bound = h.device; place_bound = h.owner; long_if = h.long }

pub put_request-requires : goal.put_request-requires
put_request-requires c = c.quick_in-r.ensures.placed.room

pub offset_bounds-devices-place-then-is_change : goal.offset_bounds-devices-place-then-is_change
offset_bounds-devices-place-then-is_change c = let h = c.quick_in-r.ensures.placed.place in omega (arith, h)

pub bounds-devices-place-then-is_change : goal.bounds-devices-place-then-is_change
bounds-devices-place-then-is_change c = c.quick_in-r.ensures.placed.place

pub offset_bounds-devices-place-then-is_change-2 : goal.offset_bounds-devices-place-then-is_change-2
offset_bounds-devices-place-then-is_change-2 c = let h = c.quick_in-r.ensures.placed.place in omega (arith, h)

pub bounds-devices-place-then-is_change-2 : goal.bounds-devices-place-then-is_change-2
bounds-devices-place-then-is_change-2 c = c.quick_in-r.ensures.placed.place

pub offset_bounds-devices-place-then-is_change-3 : goal.offset_bounds-devices-place-then-is_change-3
offset_bounds-devices-place-then-is_change-3 c = let h = c.quick_in-r.ensures.placed.owner in omega (arith, h)

pub bounds-devices-place-then-is_change-3 : goal.bounds-devices-place-then-is_change-3
bounds-devices-place-then-is_change-3 c = c.quick_in-r.ensures.placed.owner

pub offset_bounds-devices-place-then-is_change-4 : goal.offset_bounds-devices-place-then-is_change-4
offset_bounds-devices-place-then-is_change-4 c = let h = c.quick_in-r.ensures.placed.owner in omega (arith, h)

pub bounds-devices-place-then-is_change-4 : goal.bounds-devices-place-then-is_change-4
bounds-devices-place-then-is_change-4 c = c.quick_in-r.ensures.placed.owner

pub offset_bounds-devices-place-then-is_change-5 : goal.offset_bounds-devices-place-then-is_change-5
offset_bounds-devices-place-then-is_change-5 c = let h = c.quick_in-r.ensures.placed.at in omega (arith, h)

pub bounds-devices-place-then-is_change-5 : goal.bounds-devices-place-then-is_change-5
bounds-devices-place-then-is_change-5 c = c.quick_in-r.ensures.placed.at

pub offset_bounds-devices-place-then-is_change-6 : goal.offset_bounds-devices-place-then-is_change-6
offset_bounds-devices-place-then-is_change-6 c = let h = c.quick_in-r.ensures.placed.at in omega (arith, h)

pub bounds-devices-place-then-is_change-6 : goal.bounds-devices-place-then-is_change-6
bounds-devices-place-then-is_change-6 c = c.quick_in-r.ensures.placed.at

pub bounds-addresses-place : goal.bounds-addresses-place
bounds-addresses-place c = c.quick_in-r.ensures.placed.place

pub bounds-addresses-place-then-is_change : goal.bounds-addresses-place-then-is_change
bounds-addresses-place-then-is_change c = c.quick_in-r.ensures.placed.owner

pub bounds-addresses-place-then-is_change-2 : goal.bounds-addresses-place-then-is_change-2
bounds-addresses-place-then-is_change-2 c = c.quick_in-r.ensures.placed.at

pub returns-then-not-goes_on : goal.returns-then-not-goes_on
returns-then-not-goes_on c =
    let k = part-is c.args.reader c.args.ready c.args.records.now c.loop-reader.at c.loop-reader.clock c.part_at-part.ensures.value c.part_at-part.ensures.seconds_at (not-false _ c.if-not-part.false) in
    let g = c.loop-reader in
    let near = streaming-lent c.loop-reader.invariant k c.sight_of-sight.ensures c.near_by-near.ensures in
    streaming_stops g.invariant k (c.quick_in-r.ensures.for_lent g.devices near g.shelf) (sym c.goes_on.ensures ∙ c.if-not-goes_on.true)

pub overflow_add-taken : goal.overflow_add-taken
overflow_add-taken c =
    let k = part-is c.args.reader c.args.ready c.args.records.now c.loop-reader.at c.loop-reader.clock c.part_at-part.ensures.value c.part_at-part.ensures.seconds_at (not-false _ c.if-not-part.false) in
    let long : length c.args.records.now < 2 ^ 64 = search rules in
    let h = streaming-counts c.loop-reader.invariant k in
    omega (arith, h.0, long)

pub overflow_add-eights : goal.overflow_add-eights
overflow_add-eights c =
    let k = part-is c.args.reader c.args.ready c.args.records.now c.loop-reader.at c.loop-reader.clock c.part_at-part.ensures.value c.part_at-part.ensures.seconds_at (not-false _ c.if-not-part.false) in
    let long : length c.args.records.now < 2 ^ 64 = search rules in
    let h = streaming-counts c.loop-reader.invariant k in
    let e = eight_small c.quick_in-r.result.answer c.eight-eights.ensures in
    omega (arith, h.1, long, e)

pub loop-reader-smaller-then-is_change : goal.loop-reader-smaller-then-is_change
loop-reader-smaller-then-is_change c =
    let k = part-is c.args.reader c.args.ready c.args.records.now c.loop-reader.at c.loop-reader.clock c.part_at-part.ensures.value c.part_at-part.ensures.seconds_at (not-false _ c.if-not-part.false) in
    let f = streaming_further c.loop-reader.invariant k in omega (arith, f.0, f.1)

pub loop-reader-preserved-then-is_change : goal.loop-reader-preserved-then-is_change
loop-reader-preserved-then-is_change c =
    let k = part-is c.args.reader c.args.ready c.args.records.now c.loop-reader.at c.loop-reader.clock c.part_at-part.ensures.value c.part_at-part.ensures.seconds_at (not-false _ c.if-not-part.false) in
    let g = c.loop-reader in
    let x = c.quick_in-r.result.change in
    let q = bytes_of c.args.records.now c.part_at-part.result in
    let e = c.row_by-row.ensures in
    let f = c.shelve-s.ensures in
    let near = streaming-lent c.loop-reader.invariant k c.sight_of-sight.ensures c.near_by-near.ensures in
    streaming-more g.invariant k
    (with_parts _ _ _ _ (changed_by x q g.shelf g.devices e f.row c.added_by-added.ensures) (requested_by x q g.shelf g.devices g.requests e f.note c.put_request.ensures) (shelved_by x q g.shelf g.devices e f.stored) (c.quick_in-r.ensures.for_lent g.devices near g.shelf))
    refl
    (sym c.goes_on.ensures ∙ c.if-not-goes_on.false)
    c.eight-eights.ensures
    (addressed-made g.invariant.addressed g.invariant.many x c.quick_in-r.ensures.placed c.row_by-row.result c.shelve-s.result.row c.added_by-added.result)
    (each-log _ c.quick_in-r.auto.bytes c.quick_in-r.auto.device_rows c.quick_in-r.auto.endpoint_rows c.quick_in-r.auto.packets refl c.quick_in-r.auto.transactions c.quick_in-r.auto.groups c.quick_in-r.auto.statebytes c.quick_in-r.auto.states c.quick_in-r.auto.items c.quick_in-r.auto.links c.put_request.auto.requests)

pub loop-reader-smaller : goal.loop-reader-smaller
loop-reader-smaller c =
    let k = part-is c.args.reader c.args.ready c.args.records.now c.loop-reader.at c.loop-reader.clock c.part_at-part.ensures.value c.part_at-part.ensures.seconds_at (not-false _ c.if-not-part.false) in
    let f = streaming_further c.loop-reader.invariant k in omega (arith, f.0, f.1)

pub loop-reader-preserved : goal.loop-reader-preserved
loop-reader-preserved c =
    let k = part-is c.args.reader c.args.ready c.args.records.now c.loop-reader.at c.loop-reader.clock c.part_at-part.ensures.value c.part_at-part.ensures.seconds_at (not-false _ c.if-not-part.false) in
    let g = c.loop-reader in
    let x = c.quick_in-r.result.change in
    let q = bytes_of c.args.records.now c.part_at-part.result in
    let e = sym c.is_change.ensures ∙ c.if-is_change.false in
    let near = streaming-lent c.loop-reader.invariant k c.sight_of-sight.ensures c.near_by-near.ensures in
    streaming-more g.invariant k
    (with_parts _ _ _ _ (sym (changed-none x q g.shelf g.devices e)) (sym (requested-none x q g.shelf g.devices e g.requests)) (sym (shelved-none x q g.shelf g.devices e)) (c.quick_in-r.ensures.for_lent g.devices near g.shelf))
    refl
    (sym c.goes_on.ensures ∙ c.if-not-goes_on.false)
    c.eight-eights.ensures
    g.invariant.addressed
    (each-log _ c.quick_in-r.auto.bytes c.quick_in-r.auto.device_rows c.quick_in-r.auto.endpoint_rows c.quick_in-r.auto.packets refl c.quick_in-r.auto.transactions c.quick_in-r.auto.groups c.quick_in-r.auto.statebytes c.quick_in-r.auto.states c.quick_in-r.auto.items c.quick_in-r.auto.links refl)
