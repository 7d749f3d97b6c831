use Prim.Native.Nat.{◌≤◌}
use mathlib.Core.Path.{◌≡◌, sym, ap, ◌∙◌}
use lib.ListN.{length}
use Rattle.details.specs.Details as details
use Rattle.record.specs.Fresh.{fresh_decoder}
use Rattle.call.specs.State.{Logs, logs, room_of}
use Rattle.start.specs.Fresh.{fresh_answer}
use Rattle.start.proofs.Making.{roomy, refuses, makes}
use Rattle.start.proofs.fresh.fresh.Goals as goal

pub returns-then-answer-ne0 : goal.returns-then-answer-ne0
returns-then-answer-ne0 c = let lent : Logs = logs c.args.bytes.now c.args.device_rows.now c.args.endpoint_rows.now c.args.packets.now c.args.events.now c.args.transactions.now c.args.groups.now c.args.statebytes.now c.args.states.now c.args.items.now c.args.links.now c.args.requests.now in
    let verdict : c.fresh_answer-answer.result ≡ fresh_answer (room_of (lent)) = c.fresh_answer-answer.ensures ∙ ap fresh_answer c.room_of-room.ensures in
    let s = c in
    refuses s.args.high s.args.devices s.args.table.now (lent) _ (verdict) c.if-answer-ne0.true c.refused_decoder-decoder.ensures

pub put_device-requires : goal.put_device-requires
put_device-requires c = let lent : Logs = logs c.args.bytes.now c.args.device_rows.now c.args.endpoint_rows.now c.args.packets.now c.args.events.now c.args.transactions.now c.args.groups.now c.args.statebytes.now c.args.states.now c.args.items.now c.args.links.now c.args.requests.now in
    let verdict : c.fresh_answer-answer.result ≡ fresh_answer (room_of (lent)) = c.fresh_answer-answer.ensures ∙ ap fresh_answer c.room_of-room.ensures in
    let space : (1 ≤ length (lent).devices) × (9 ≤ length (lent).endpoints) = roomy (lent) (sym (verdict) ∙ c.if-answer-ne0.false) in
    (space).0

pub put_specials-requires : goal.put_specials-requires
put_specials-requires c = let lent : Logs = logs c.args.bytes.now c.args.device_rows.now c.args.endpoint_rows.now c.args.packets.now c.args.events.now c.args.transactions.now c.args.groups.now c.args.statebytes.now c.args.states.now c.args.items.now c.args.links.now c.args.requests.now in
    let verdict : c.fresh_answer-answer.result ≡ fresh_answer (room_of (lent)) = c.fresh_answer-answer.ensures ∙ ap fresh_answer c.room_of-room.ensures in
    let space : (1 ≤ length (lent).devices) × (9 ≤ length (lent).endpoints) = roomy (lent) (sym (verdict) ∙ c.if-answer-ne0.false) in
    (space).1

pub returns : goal.returns
returns c = let lent : Logs = logs c.args.bytes.now c.args.device_rows.now c.args.endpoint_rows.now c.args.packets.now c.args.events.now c.args.transactions.now c.args.groups.now c.args.statebytes.now c.args.states.now c.args.items.now c.args.links.now c.args.requests.now in
    let verdict : c.fresh_answer-answer.result ≡ fresh_answer (room_of (lent)) = c.fresh_answer-answer.ensures ∙ ap fresh_answer c.room_of-room.ensures in
    let made-decoder : c.fresh_decoder-decoder.result ≡ fresh_decoder c.args.high = c.fresh_decoder-decoder.ensures in
    let made-device : c.fresh_device.result ≡ details.fresh 0 = c.fresh_device.ensures in
    let s = c in
    makes s.args.high s.args.devices s.args.table.now (lent) _ (verdict) c.if-answer-ne0.false (made-decoder) (made-device)
    c.store_specials.ensures
    c.put_device.ensures
    c.put_specials.ensures
