use borrow.Author.Tests.{ltb-false}
use Rattle.call.specs.State.{State, state, logs}
use Rattle.events.proofs.Refuses.{First, first-is, first_refuses, first_passes}
use Rattle.events.proofs.event.Goals as goal
use Rattle.std.proofs.Common.{◌-◌}

pub returns-then-answer-ne0 : goal.returns-then-answer-ne0
returns-then-answer-ne0 c = let begun : State = state c.args.d c.args.devices c.args.table.now
    (logs c.args.bytes.now c.args.device_rows.now c.args.endpoint_rows.now c.args.packets.now c.args.events.now c.args.transactions.now c.args.groups.now c.args.statebytes.now c.args.states.now c.args.items.now c.args.links.now c.args.requests.now) in
    let tested : First (begun) c.args.kind c.first_tests-answer.result = first-is (begun) c.args.kind _ _ c.room_of-room.ensures c.first_tests-answer.ensures in
    let s = c in first_refuses (begun) s.args.kind c.first_tests-answer.result c.if-answer-ne0.true (tested) _ _ _ _

pub event_in-r-requires : goal.event_in-r-requires
event_in-r-requires c = let begun : State = state c.args.d c.args.devices c.args.table.now
    (logs c.args.bytes.now c.args.device_rows.now c.args.endpoint_rows.now c.args.packets.now c.args.events.now c.args.transactions.now c.args.groups.now c.args.statebytes.now c.args.states.now c.args.items.now c.args.links.now c.args.requests.now) in
    let tested : First (begun) c.args.kind c.first_tests-answer.result = first-is (begun) c.args.kind _ _ c.room_of-room.ensures c.first_tests-answer.ensures in
    let s = c in
    let p = first_passes (begun) s.args.kind _ (tested) c.if-answer-ne0.false in
    record { requests_value = p.0; finished_value = p.1.0; kind_bound = ltb-false 7 s.args.kind p.1.1 }
