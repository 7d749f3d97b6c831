use Rattle.std.proofs.Common.{rules}
use mathlib.Core.Path.{◌≡◌}
use Rattle.call.specs.State.{state, logs}
use Rattle.quick.proofs.CloseOnly.{close-ready, close_on}
use Rattle.quick.proofs.close.close_only.Goals as goal

pub end_if-hand-requires : goal.end_if-hand-requires
end_if-hand-requires c = let a = c in
    close-ready a.args.t a.args.end a.args.time a.args.d a.args.held a.args.table.now a.args.device_rows.now a.args.groups.now a.args.statebytes.now a.args.states.now a.args.items.now a.args.links.now
    c.holding.ensures c.hand_of-hand.ensures c.start_pid-pid.ensures a.requires.ends_if

pub returns : goal.returns
returns c devices endpoints events transactions requests e = let a = c.args in
    let p = c.put_packet.ensures in
    close_on a.t a.end a.tally a.packet.now a.time (state a.d devices a.table.now (logs a.bytes.now a.device_rows.now endpoints a.packets.now events transactions a.groups.now a.statebytes.now a.states.now a.items.now a.links.now requests))
    e c.holding.ensures c.hand_of-hand.ensures c.start_pid-pid.ensures (c.end_if-hand.ensures endpoints transactions) p.bytes_after p.packets_after c.closed_decoder.ensures
