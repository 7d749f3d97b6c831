use Prim.Native.Nat.{◌<◌}
use native.Mathlib.Omega.{arith}
use mathlib.Core.Path.{◌≡◌, ◌∙◌}
use Rattle.transaction.specs.Payload.{start_pid}
use Rattle.write.specs.Memory.{memory}
use Rattle.call.specs.Share.{Known, last_stamp, written_of}
use Rattle.call.specs.State.{State, state, logs, held_at}
use Rattle.events.proofs.Sane.{formed, is-ready, sum-asks}
use Rattle.events.proofs.Finishes.{none_at, some_at, sum-at, finish-full, finish_endable, end-asks, ended-at, finish-accepted, finish_returns}
use Rattle.events.proofs.inner.finish_in.Goals as goal

pub held_of-rows-requires : goal.held_of-rows-requires
held_of-rows-requires c = let begun : State = state c.args.d c.args.devices c.args.table.now
    (logs c.args.bytes.now c.args.device_rows.now c.args.endpoint_rows.now c.args.packets.now c.args.events.now c.args.transactions.now c.args.groups.now c.args.statebytes.now c.args.states.now c.args.items.now c.args.links.now c.args.requests.now) in
    let s = c in (formed (begun) s.requires.requests_value).begun

pub plan_ending-e-requires : goal.plan_ending-e-requires
plan_ending-e-requires c = let begun : State = state c.args.d c.args.devices c.args.table.now
    (logs c.args.bytes.now c.args.device_rows.now c.args.endpoint_rows.now c.args.packets.now c.args.events.now c.args.transactions.now c.args.groups.now c.args.statebytes.now c.args.states.now c.args.items.now c.args.links.now c.args.requests.now) in
    is-ready (begun) c.requires.requests_value

pub sum_finish-requires : goal.sum_finish-requires
sum_finish-requires c = let begun : State = state c.args.d c.args.devices c.args.table.now
    (logs c.args.bytes.now c.args.device_rows.now c.args.endpoint_rows.now c.args.packets.now c.args.events.now c.args.transactions.now c.args.groups.now c.args.statebytes.now c.args.states.now c.args.items.now c.args.links.now c.args.requests.now) in
    let the_rest = sum-asks (begun) c.requires.requests_value c.held_of-rows.ensures in record { waiting_bound = the_rest.0; endpoints_bound = the_rest.1.0; countable = the_rest.1.1 }

pub returns-in_default : goal.returns-in_default
returns-in_default c =
    let known : Known c.args.table.now = record { size = c.told-table; words = c.fits-table } in
    let begun : State = state c.args.d c.args.devices c.args.table.now
    (logs c.args.bytes.now c.args.device_rows.now c.args.endpoint_rows.now c.args.packets.now c.args.events.now c.args.transactions.now c.args.groups.now c.args.statebytes.now c.args.states.now c.args.items.now c.args.links.now c.args.requests.now) in
    let s = c in
    let sum = sum-at (begun) _ _ _ c.plan_ending-e.ensures c.room_of-room.ensures c.held_of-rows.ensures c.in_default.ensures in
    finish-full (begun) s.requires.requests_value known s.requires.finished_value (none_at (begun) sum)

pub end_here-written-requires : goal.end_here-written-requires
end_here-written-requires c =
    let known : Known c.args.table.now = record { size = c.told-table; words = c.fits-table } in
    let begun : State = state c.args.d c.args.devices c.args.table.now
    (logs c.args.bytes.now c.args.device_rows.now c.args.endpoint_rows.now c.args.packets.now c.args.events.now c.args.transactions.now c.args.groups.now c.args.statebytes.now c.args.states.now c.args.items.now c.args.links.now c.args.requests.now) in
    let byte : start_pid c.args.d.transaction.style < 256 = let b : c.start_pid.result < 256 = omega (arith, c.start_pid.type_inv) in rw c.start_pid.ensures at b in
    let written : c.written_of.result ≡ written_of (last_stamp c.args.d) (held_at (begun)) c.args.d c.args.table.now = c.written_of.ensures ∙ λ i. written_of (c.last_stamp.ensures i) (c.held_of-rows.ensures i) c.args.d c.args.table.now in
    let s = c in
    let pid = c.start_pid.ensures in
    let sum = sum-at (begun) _ _ _ c.plan_ending-e.ensures c.room_of-room.ensures c.held_of-rows.ensures c.in-Some.ensures in
    end-asks (begun) _ _ _ c.plan_ending-e.ensures pid (written)
    (finish_endable (begun) s.requires.requests_value known (byte) s.requires.finished_value (some_at (begun) sum).0)

pub returns : goal.returns
returns c =
    let known : Known c.args.table.now = record { size = c.told-table; words = c.fits-table } in
    let begun : State = state c.args.d c.args.devices c.args.table.now
    (logs c.args.bytes.now c.args.device_rows.now c.args.endpoint_rows.now c.args.packets.now c.args.events.now c.args.transactions.now c.args.groups.now c.args.statebytes.now c.args.states.now c.args.items.now c.args.links.now c.args.requests.now) in
    let byte : start_pid c.args.d.transaction.style < 256 = let b : c.start_pid.result < 256 = omega (arith, c.start_pid.type_inv) in rw c.start_pid.ensures at b in
    let written : c.written_of.result ≡ written_of (last_stamp c.args.d) (held_at (begun)) c.args.d c.args.table.now = c.written_of.ensures ∙ λ i. written_of (c.last_stamp.ensures i) (c.held_of-rows.ensures i) c.args.d c.args.table.now in
    let s = c in
    let pid = c.start_pid.ensures in
    let sum = sum-at (begun) _ _ _ c.plan_ending-e.ensures c.room_of-room.ensures c.held_of-rows.ensures c.in-Some.ensures in
    let m = memory c.end_here-written.result c.end_here-written.new.table c.end_here-written.new.groups c.end_here-written.new.statebytes c.end_here-written.new.states c.end_here-written.new.items c.end_here-written.new.links in
    finish_returns (begun) m _ _ (finish-accepted (begun) s.requires.requests_value known (byte) s.requires.finished_value (some_at (begun) sum).0)
    (ended-at (begun) _ _ _ m c.plan_ending-e.ensures pid (written) c.end_here-written.ensures) (some_at (begun) sum).1 c.finished_decoder.ensures
