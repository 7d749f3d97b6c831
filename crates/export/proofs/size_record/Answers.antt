use mathlib.Core.Bool.{true, false}
use mathlib.Core.Path.{◌≡◌, sym, ◌∙◌}
use Rattle.call.specs.Outcome.{is_ill}
use Rattle.call.proofs.OutcomeLaws.{ill_by}
use Rattle.call.specs.State.{State, state, logs}
use Rattle.export.proofs.RecordLaws.{size-ill, size-well}
use Rattle.export.proofs.size_record.Goals as goal
use Rattle.std.proofs.Common.{◌-◌}

pub returns-then-is_ill : goal.returns-then-is_ill
returns-then-is_ill c = let lent : State = state c.args.d c.args.devices c.args.table.now (logs c.args.bytes.now c.args.device_rows.now c.args.endpoint_rows.now c.args.packets.now c.args.events.now c.args.transactions.now c.args.groups.now c.args.statebytes.now c.args.states.now c.args.items.now c.args.links.now c.args.requests.now) in
    let found-ill : is_ill (lent) ≡ true = sym (ill_by (lent) _ c.room_of-room.ensures) ∙ (sym c.is_ill.ensures ∙ c.if-is_ill.true) in
    c.ill.ensures ∙ sym (size-ill (lent) (found-ill))

pub returns : goal.returns
returns c = let lent : State = state c.args.d c.args.devices c.args.table.now (logs c.args.bytes.now c.args.device_rows.now c.args.endpoint_rows.now c.args.packets.now c.args.events.now c.args.transactions.now c.args.groups.now c.args.statebytes.now c.args.states.now c.args.items.now c.args.links.now c.args.requests.now) in
    let found-well : is_ill (lent) ≡ false = sym (ill_by (lent) _ c.room_of-room.ensures) ∙ (sym c.is_ill.ensures ∙ c.if-is_ill.false) in
    c.export_size.ensures ∙ sym (size-well (lent) (found-well))
