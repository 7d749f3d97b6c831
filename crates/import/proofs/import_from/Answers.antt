use Prim.Native.Nat.{◌^◌, ◌<◌}
use native.Mathlib.Omega.{arith}
use borrow.Author.Tests.{not-true, not-false}
use mathlib.Core.Path.{refl}
use Rattle.rows.proofs.WidthsLaws.{each-log}
use Rattle.call.specs.State.{State, state, logs}
use Rattle.call.proofs.StateLaws.{SameSizes}
use Rattle.stream.proofs.Rounding.{fits_by}
use Rattle.import.proofs.Importing.{importing-start, imports-from, importing-counts, importing_stops, importing_further, importing-more}
use Rattle.import.proofs.import_from.Goals as goal

pub loop-run-init : goal.loop-run-init
loop-run-init c =
    let s : State = (state c.args.d c.args.devices c.args.table.now (logs c.args.bytes.now c.args.device_rows.now c.args.endpoint_rows.now c.args.packets.now c.args.events.now c.args.transactions.now c.args.groups.now c.args.statebytes.now c.args.states.now c.args.items.now c.args.links.now c.args.requests.now)) in
    importing-start c.none_yet-run.ensures c.args.table.now s.logs c.args.shelf.now (fits_by s c.room_of-room.ensures c.is_sound-sound.ensures)

pub with_round-run-requires : goal.with_round-run-requires
with_round-run-requires c =
    let k = importing-counts c.loop-run.invariant c.round-more.ensures in
    let l : c.round-more.result.place < 2 ^ 64 = omega (arith, c.round-more.type_inv) in
    record { taken_bound = omega (arith, k.0, l); eights_bound = omega (arith, k.1, l) }

pub returns-then-not-run : goal.returns-then-not-run
returns-then-not-run c =
    imports-from c.none_yet-run.ensures c.args.table.now (logs c.args.bytes.now c.args.device_rows.now c.args.endpoint_rows.now c.args.packets.now c.args.events.now c.args.transactions.now c.args.groups.now c.args.statebytes.now c.args.states.now c.args.items.now c.args.links.now c.args.requests.now) c.args.shelf.now
    (importing_stops c.loop-run.invariant c.round-more.ensures c.with_round-run.ensures (not-true _ c.if-not-run.true) c.imported_of.ensures)

pub loop-run-smaller : goal.loop-run-smaller
loop-run-smaller c =
    let f = importing_further c.loop-run.invariant c.round-more.ensures c.with_round-run.ensures (not-false _ c.if-not-run.false) in
    omega (arith, f.0, f.1)

pub loop-run-preserved : goal.loop-run-preserved
loop-run-preserved c =
    let l : SameSizes (logs c.loop-run.bytes c.loop-run.device_rows c.loop-run.endpoint_rows c.loop-run.packets c.args.events.now c.loop-run.transactions c.loop-run.groups c.loop-run.statebytes c.loop-run.states c.loop-run.items c.loop-run.links c.loop-run.requests) (logs c.round-more.new.bytes c.round-more.new.device_rows c.round-more.new.endpoint_rows c.round-more.new.packets c.args.events.now c.round-more.new.transactions c.round-more.new.groups c.round-more.new.statebytes c.round-more.new.states c.round-more.new.items c.round-more.new.links c.round-more.new.requests) = each-log _
    c.round-more.auto.bytes
    c.round-more.auto.device_rows
    c.round-more.auto.endpoint_rows
    c.round-more.auto.packets
    refl
    c.round-more.auto.transactions
    c.round-more.auto.groups
    c.round-more.auto.statebytes
    c.round-more.auto.states
    c.round-more.auto.items
    c.round-more.auto.links
    c.round-more.auto.requests in
    importing-more c.loop-run.invariant c.round-more.ensures c.with_round-run.ensures (not-false _ c.if-not-run.false) l
