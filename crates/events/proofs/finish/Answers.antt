use Rattle.call.specs.State.{State, state, logs}
use Rattle.events.proofs.Refuses.{First, first-is, first_refuses, first_passes}
use Rattle.events.proofs.finish.Goals as goal
use Rattle.std.proofs.Common.{◌-◌}

pub returns-then-answer-ne0 : goal.returns-then-answer-ne0
returns-then-answer-ne0 c = let begun : State = state c.args.d c.args.devices c.args.table.now
    (logs c.args.bytes.now c.args.device_rows.now c.args.endpoint_rows.now c.args.packets.now c.args.events.now c.args.transactions.now c.args.groups.now c.args.statebytes.now c.args.states.now c.args.items.now c.args.links.now c.args.requests.now) in
    let tested : First (begun) 0 c.first_tests-answer.result = first-is (begun) 0 _ _ c.room_of-room.ensures c.first_tests-answer.ensures in
    first_refuses (begun) 0 c.first_tests-answer.result c.if-answer-ne0.true (tested) _ _ _ _

pub finish_in-r-requires : goal.finish_in-r-requires
finish_in-r-requires c = let begun : State = state c.args.d c.args.devices c.args.table.now
    (logs c.args.bytes.now c.args.device_rows.now c.args.endpoint_rows.now c.args.packets.now c.args.events.now c.args.transactions.now c.args.groups.now c.args.statebytes.now c.args.states.now c.args.items.now c.args.links.now c.args.requests.now) in
    let tested : First (begun) 0 c.first_tests-answer.result = first-is (begun) 0 _ _ c.room_of-room.ensures c.first_tests-answer.ensures in
    let p = first_passes (begun) 0 _ (tested) c.if-answer-ne0.false in
    record { requests_value = p.0; finished_value = p.1.0 }
