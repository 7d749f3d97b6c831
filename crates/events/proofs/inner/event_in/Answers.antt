use Prim.Native.Nat.{◌*◌, ◌<◌}
use native.Mathlib.Omega.{arith}
use mathlib.Core.Bool.{true}
use mathlib.Core.List.{[], ◌∷◌}
use lib.Seq.{sets}
use Rattle.rows.specs.Sets.{opt}
use Rattle.rows.specs.Widths.{packet_width, event_width, transaction_width}
use mathlib.Core.Path.{◌≡◌, sym, ap, ◌∙◌}
use Rattle.transaction.specs.Payload.{start_pid}
use Rattle.write.specs.Memory.{Memory, memory}
use Rattle.rules.specs.declared.Stamp.{Stamp}
use Rattle.call.specs.Share.{Known, written_of}
use Rattle.record.specs.declared.Counts.{Counts}
use Rattle.call.specs.State.{State, state, logs, held_at}
use Rattle.events.specs.After.{resets_by}
use Rattle.events.proofs.Before.{memory_then}
use Rattle.events.proofs.Happens.{brings, event_fits, event-none, event-some, event-full, event_ables, event_settles, event_puts, event-accepted}
use Rattle.events.proofs.Parts.{Flags, sum_at, flags_at, settles_at, settled_at, decoder-at, puts_at, able_at, rows_at, event_returns}
use Rattle.events.proofs.Sane.{formed, is-ready, sum-asks}
use Rattle.events.proofs.inner.event_in.Goals as goal

pub held_of-rows-requires : goal.held_of-rows-requires
held_of-rows-requires c =
    let s : State = state c.args.d c.args.devices c.args.table.now (logs c.args.bytes.now c.args.device_rows.now c.args.endpoint_rows.now c.args.packets.now c.args.events.now c.args.transactions.now c.args.groups.now c.args.statebytes.now c.args.states.now c.args.items.now c.args.links.now c.args.requests.now) in
    (formed s c.requires.requests_value).begun

pub decide-c-requires : goal.decide-c-requires
decide-c-requires c =
    let s : State = state c.args.d c.args.devices c.args.table.now (logs c.args.bytes.now c.args.device_rows.now c.args.endpoint_rows.now c.args.packets.now c.args.events.now c.args.transactions.now c.args.groups.now c.args.statebytes.now c.args.states.now c.args.items.now c.args.links.now c.args.requests.now) in
    let a = sum-asks s c.requires.requests_value c.held_of-rows.ensures in
    record { ready = is-ready s c.requires.requests_value; waiting_bound = a.0; countable = a.1.1; held_value = c.held_of-rows.ensures }

pub returns-in_default : goal.returns-in_default
returns-in_default c =
    let known : Known c.args.table.now = record { size = c.told-table; words = c.fits-table } in
    let s : State = state c.args.d c.args.devices c.args.table.now (logs c.args.bytes.now c.args.device_rows.now c.args.endpoint_rows.now c.args.packets.now c.args.events.now c.args.transactions.now c.args.groups.now c.args.statebytes.now c.args.states.now c.args.items.now c.args.links.now c.args.requests.now) in
    event-full s c.requires.requests_value known c.requires.finished_value c.args.kind c.args.code c.args.time c.requires.kind_bound (event-none c.args.kind s (sym c.in_default.is ∙ sum_at s c.args.kind _ _ c.decide-c.ensures c.room_of-room.ensures))

pub settle-written-requires : goal.settle-written-requires
settle-written-requires c =
    let known : Known c.args.table.now = record { size = c.told-table; words = c.fits-table } in
    let s : State = state c.args.d c.args.devices c.args.table.now (logs c.args.bytes.now c.args.device_rows.now c.args.endpoint_rows.now c.args.packets.now c.args.events.now c.args.transactions.now c.args.groups.now c.args.statebytes.now c.args.states.now c.args.items.now c.args.links.now c.args.requests.now) in
    let b : c.start_pid.result < 256 = omega (arith, c.start_pid.type_inv) in
    let byte : start_pid c.args.d.transaction.style < 256 = rw c.start_pid.ensures at b in
    let written : c.written_of.result ≡ written_of (brings c.args.time s) (held_at s) c.args.d s.table = c.written_of.ensures ∙ λ i. written_of (c.stamp_of-stamp.ensures i) (c.held_of-rows.ensures i) c.args.d s.table in
    let fits : event_fits c.args.kind s ≡ true = (event-some c.args.kind s (sym c.in-Some.is ∙ sum_at s c.args.kind _ _ c.decide-c.ensures c.room_of-room.ensures)).0 in
    settles_at s c.args.kind _ _ c.decide-c.ensures (brings c.args.time s) _ _ c.start_pid.ensures written (event_settles s c.requires.requests_value known c.requires.finished_value c.args.kind c.args.code c.args.time c.requires.kind_bound byte fits)

pub put_event-requires : goal.put_event-requires
put_event-requires c =
    let known : Known c.args.table.now = record { size = c.told-table; words = c.fits-table } in
    let s : State = state c.args.d c.args.devices c.args.table.now (logs c.args.bytes.now c.args.device_rows.now c.args.endpoint_rows.now c.args.packets.now c.args.events.now c.args.transactions.now c.args.groups.now c.args.statebytes.now c.args.states.now c.args.items.now c.args.links.now c.args.requests.now) in
    let b : c.start_pid.result < 256 = omega (arith, c.start_pid.type_inv) in
    let byte : start_pid c.args.d.transaction.style < 256 = rw c.start_pid.ensures at b in
    let fits : event_fits c.args.kind s ≡ true = (event-some c.args.kind s (sym c.in-Some.is ∙ sum_at s c.args.kind _ _ c.decide-c.ensures c.room_of-room.ensures)).0 in
    let flags : Flags s c.args.kind c.adds_row-row.result c.adds_group-group.result c.starts_group-start.result = flags_at s c.args.kind _ _ c.decide-c.ensures _ _ _ c.adds_row-row.ensures c.adds_group-group.ensures c.starts_group-start.ensures in
    let puts = puts_at s c.args.kind flags c.stamp_of-stamp.result (ap (λ (x : Stamp). x.packet) c.stamp_of-stamp.ensures) (ap (λ (x : Stamp). x.reason) c.stamp_of-stamp.ensures) c.held_of-rows.ensures (event_puts s c.requires.requests_value known c.requires.finished_value c.args.kind c.args.code c.args.time c.requires.kind_bound byte fits) in
    record { packet_width_in_bounds = puts.0; event_width_in_bounds = puts.1.0; reason_in_bounds = puts.1.1 }

pub event_rows-written-requires : goal.event_rows-written-requires
event_rows-written-requires c =
    let known : Known c.args.table.now = record { size = c.told-table; words = c.fits-table } in
    let s : State = state c.args.d c.args.devices c.args.table.now (logs c.args.bytes.now c.args.device_rows.now c.args.endpoint_rows.now c.args.packets.now c.args.events.now c.args.transactions.now c.args.groups.now c.args.statebytes.now c.args.states.now c.args.items.now c.args.links.now c.args.requests.now) in
    let b : c.start_pid.result < 256 = omega (arith, c.start_pid.type_inv) in
    let byte : start_pid c.args.d.transaction.style < 256 = rw c.start_pid.ensures at b in
    let written : c.written_of.result ≡ written_of (brings c.args.time s) (held_at s) c.args.d s.table = c.written_of.ensures ∙ λ i. written_of (c.stamp_of-stamp.ensures i) (c.held_of-rows.ensures i) c.args.d s.table in
    let fits : event_fits c.args.kind s ≡ true = (event-some c.args.kind s (sym c.in-Some.is ∙ sum_at s c.args.kind _ _ c.decide-c.ensures c.room_of-room.ensures)).0 in
    let flags : Flags s c.args.kind c.adds_row-row.result c.adds_group-group.result c.starts_group-start.result = flags_at s c.args.kind _ _ c.decide-c.ensures _ _ _ c.adds_row-row.ensures c.adds_group-group.ensures c.starts_group-start.ensures in
    let settled : Memory = memory c.settle-written.result c.settle-written.new.table c.settle-written.new.groups c.settle-written.new.statebytes c.settle-written.new.states c.settle-written.new.items c.settle-written.new.links in
    let settled_is : settled ≡ memory_then (resets_by c.args.kind) (brings c.args.time s) s = settled_at s c.args.kind _ _ c.decide-c.ensures (brings c.args.time s) _ _ c.start_pid.ensures written settled c.settle-written.ensures in
    able_at s c.args.kind flags (brings c.args.time s) settled settled_is (event_ables s c.requires.requests_value known c.requires.finished_value c.args.kind c.args.code c.args.time c.requires.kind_bound byte fits)

pub returns : goal.returns
returns c =
    let known : Known c.args.table.now = record { size = c.told-table; words = c.fits-table } in
    let s : State = state c.args.d c.args.devices c.args.table.now (logs c.args.bytes.now c.args.device_rows.now c.args.endpoint_rows.now c.args.packets.now c.args.events.now c.args.transactions.now c.args.groups.now c.args.statebytes.now c.args.states.now c.args.items.now c.args.links.now c.args.requests.now) in
    let b : c.start_pid.result < 256 = omega (arith, c.start_pid.type_inv) in
    let byte : start_pid c.args.d.transaction.style < 256 = rw c.start_pid.ensures at b in
    let written : c.written_of.result ≡ written_of (brings c.args.time s) (held_at s) c.args.d s.table = c.written_of.ensures ∙ λ i. written_of (c.stamp_of-stamp.ensures i) (c.held_of-rows.ensures i) c.args.d s.table in
    let fits : event_fits c.args.kind s ≡ true = (event-some c.args.kind s (sym c.in-Some.is ∙ sum_at s c.args.kind _ _ c.decide-c.ensures c.room_of-room.ensures)).0 in
    let flags : Flags s c.args.kind c.adds_row-row.result c.adds_group-group.result c.starts_group-start.result = flags_at s c.args.kind _ _ c.decide-c.ensures _ _ _ c.adds_row-row.ensures c.adds_group-group.ensures c.starts_group-start.ensures in
    let settled : Memory = memory c.settle-written.result c.settle-written.new.table c.settle-written.new.groups c.settle-written.new.statebytes c.settle-written.new.states c.settle-written.new.items c.settle-written.new.links in
    let settled_is : settled ≡ memory_then (resets_by c.args.kind) (brings c.args.time s) s = settled_at s c.args.kind _ _ c.decide-c.ensures (brings c.args.time s) _ _ c.start_pid.ensures written settled c.settle-written.ensures in
    let m : Memory = memory c.event_rows-written.result c.event_rows-written.new.table c.event_rows-written.new.groups c.event_rows-written.new.statebytes c.event_rows-written.new.states c.event_rows-written.new.items c.event_rows-written.new.links in
    event_returns s c.args.kind c.args.code c.args.time _ c.stamp_of-stamp.ensures m _ _ _ _ _
    (event-accepted s c.requires.requests_value known c.requires.finished_value c.args.kind c.args.code c.args.time c.requires.kind_bound byte fits)
    (rows_at s c.args.kind flags (brings c.args.time s) settled settled_is m c.event_rows-written.ensures)
    (decoder-at s c.args.kind _ _ c.decide-c.ensures c.room_of-room.ensures (sym c.in-Some.is) c.event_decoder.result c.event_rows-written.result c.event_decoder.ensures)
    flags.row
    (c.put_event.ensures.packets_after ∙ ap (λ (n : Counts). sets s.logs.packets (n.packets * packet_width) (c.args.d.counts.bytes ∷ c.stamp_of-stamp.result.time ∷ [])) c.held_of-rows.ensures)
    (c.put_event.ensures.events_after ∙ ap (λ (n : Counts). sets s.logs.events (n.events * event_width) (c.stamp_of-stamp.result.packet ∷ c.args.code ∷ [])) c.held_of-rows.ensures)
    (c.put_event.ensures.transactions_after ∙ ap (λ (n : Counts). sets s.logs.transactions (n.transactions * transaction_width) (opt c.adds_row-row.result (c.stamp_of-stamp.result.packet ∷ c.stamp_of-stamp.result.reason ∷ []))) c.held_of-rows.ensures)
