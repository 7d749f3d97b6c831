use mathlib.Core.Path.{◌≡◌, sym, ◌∙◌}
use mathlib.Core.List.{List}
use Prim.Native.Nat.{ℕ}
use Rattle.std.proofs.Common.{rules}
use borrow.Author.Tests.{not-true}
use lib.ListN.{length}
use Rattle.details.specs.declared.Device.{Device}
use Rattle.record.specs.declared.Decoder.{Decoder}
use Rattle.call.proofs.OutcomeLaws.{sound}
use Rattle.call.specs.State.{State, Logs, state, logs, room_of}
use Rattle.plan.specs.Packet.{old_endpoint}
use Rattle.record.specs.World.{world_of}
use Rattle.decide.specs.Near.{Seen}
use Rattle.decide.specs.Ready.{ready}
use Rattle.decide.specs.declared.near.Near.{Near}
use Rattle.packet.specs.Lent.{Lent}
use Rattle.packet.proofs.Answers.{Passes, with_parts}
use Rattle.packet.proofs.Changes.{changed-none, shelved-none, requested-none}
use Rattle.packet.proofs.First.{first-refused, first_passed}
use Rattle.packet.proofs.packet.Goals as goal

-- what packet_in goes by is taken from the devices
lends : {packet : List ℕ} {d : Decoder} {v : List Device} {table : List ℕ} {l : Logs} {near : Near} → Passes packet (state d v table l) → length v ≡ 64 → Seen near (old_endpoint d.slot d.transaction) packet (world_of d v table) → Lent near packet d v table l
lends p many seen = record { ill = p.ill; many = many; seen = seen }

pub returns-then-answer-ne0 : goal.returns-then-answer-ne0
returns-then-answer-ne0 c = let l = logs c.args.bytes.now c.args.device_rows.now c.args.endpoint_rows.now c.args.packets.now c.args.events.now c.args.transactions.now c.args.groups.now c.args.statebytes.now c.args.states.now c.args.items.now c.args.links.now c.args.requests.now in
    first-refused c.args.packet.now c.args.time (state c.args.d c.args.devices c.args.table.now l) c.args.shelf.now c.room_of-room.ensures c.first_tests-answer.ensures c.if-answer-ne0.true

pub look-near-requires : goal.look-near-requires
look-near-requires c = let l = logs c.args.bytes.now c.args.device_rows.now c.args.endpoint_rows.now c.args.packets.now c.args.events.now c.args.transactions.now c.args.groups.now c.args.statebytes.now c.args.states.now c.args.items.now c.args.links.now c.args.requests.now in
    let s = state c.args.d c.args.devices c.args.table.now l in
    let p = first_passed c.args.packet.now c.args.time s c.args.shelf.now c.room_of-room.ensures c.first_tests-answer.ensures c.if-answer-ne0.false in
    ready c.args.d c.args.devices c.args.table.now (room_of l) (sound s p.ill).0

pub packet_in-r-requires : goal.packet_in-r-requires
packet_in-r-requires c = let l = logs c.args.bytes.now c.args.device_rows.now c.args.endpoint_rows.now c.args.packets.now c.args.events.now c.args.transactions.now c.args.groups.now c.args.statebytes.now c.args.states.now c.args.items.now c.args.links.now c.args.requests.now in
    let p = first_passed c.args.packet.now c.args.time (state c.args.d c.args.devices c.args.table.now l) c.args.shelf.now c.room_of-room.ensures c.first_tests-answer.ensures c.if-answer-ne0.false in
    let many : length c.args.devices ≡ 64 = search rules in
    record { some_lent = record { devices = c.args.devices; lent = lends p many c.look-near.ensures }; finished_value = p.finished; packet_len_bound = p.short }

pub returns-then-not-is_change : goal.returns-then-not-is_change
returns-then-not-is_change c = let l = logs c.args.bytes.now c.args.device_rows.now c.args.endpoint_rows.now c.args.packets.now c.args.events.now c.args.transactions.now c.args.groups.now c.args.statebytes.now c.args.states.now c.args.items.now c.args.links.now c.args.requests.now in
    let a = c.args in
    let p = first_passed a.packet.now a.time (state a.d a.devices a.table.now l) a.shelf.now c.room_of-room.ensures c.first_tests-answer.ensures c.if-answer-ne0.false in
    let many : length a.devices ≡ 64 = search rules in
    let k = c.packet_in-r.result.change in
    let e = sym c.is_change.ensures ∙ c.if-not-is_change.true in
    with_parts a.packet.now a.time (state a.d a.devices a.table.now l) a.shelf.now
    (sym (changed-none k a.packet.now a.shelf.now a.devices e)) (sym (requested-none k a.packet.now a.shelf.now a.devices e a.requests.now)) (sym (shelved-none k a.packet.now a.shelf.now a.devices e))
    (c.packet_in-r.ensures.for_lent a.devices (lends p many c.look-near.ensures) a.shelf.now)

pub returns : goal.returns
returns c = let l = logs c.args.bytes.now c.args.device_rows.now c.args.endpoint_rows.now c.args.packets.now c.args.events.now c.args.transactions.now c.args.groups.now c.args.statebytes.now c.args.states.now c.args.items.now c.args.links.now c.args.requests.now in
    let a = c.args in
    let p = first_passed a.packet.now a.time (state a.d a.devices a.table.now l) a.shelf.now c.room_of-room.ensures c.first_tests-answer.ensures c.if-answer-ne0.false in
    let many : length a.devices ≡ 64 = search rules in
    let e = c.make_change-devices.ensures in
    with_parts a.packet.now a.time (state a.d a.devices a.table.now l) a.shelf.now e.value e.requests_after e.shelf_after
    (c.packet_in-r.ensures.for_lent a.devices (lends p many c.look-near.ensures) a.shelf.now)
