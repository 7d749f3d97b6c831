use mathlib.Core.List.{[]}
use mathlib.Core.Path.{ap, ◌∙◌}
use Rattle.transaction.specs.Payload.{start_pid}
use Rattle.write_packet.specs.Asked.{EndsIf}
use Rattle.write_packet.specs.Desk.{desk, begun_desk, desk2}
use Rattle.write_packet.proofs.Plans.{first, second, third, fourth, end-then}
use Rattle.write_packet.proofs.perform.Goals as goal
use Rattle.std.proofs.Common.{◌-◌}

pub begin_if-h-requires : goal.begin_if-h-requires
begin_if-h-requires c = first c.args.p (desk c.args.h c.args.table.now c.args.devices.now c.args.endpoints.now c.args.transactions.now c.args.groups.now c.args.statebytes.now c.args.states.now c.args.items.now c.args.links.now) c.requires

pub end_if-h-requires : goal.end_if-h-requires
end_if-h-requires c = second c.args.p (desk c.args.h c.args.table.now c.args.devices.now c.args.endpoints.now c.args.transactions.now c.args.groups.now c.args.statebytes.now c.args.states.now c.args.items.now c.args.links.now) c.requires c.start_pid-started.result c.start_pid-started.ensures (desk c.begin_if-h.result c.begin_if-h.new.table c.begin_if-h.new.devices c.begin_if-h.new.endpoints c.begin_if-h.new.transactions c.begin_if-h.new.groups c.begin_if-h.new.statebytes c.begin_if-h.new.states c.begin_if-h.new.items c.begin_if-h.new.links) c.begin_if-h.ensures

pub begin_if-h-requires-2 : goal.begin_if-h-requires-2
begin_if-h-requires-2 c = third c.args.p (desk c.args.h c.args.table.now c.args.devices.now c.args.endpoints.now c.args.transactions.now c.args.groups.now c.args.statebytes.now c.args.states.now c.args.items.now c.args.links.now) c.requires (desk c.end_if-h.result c.end_if-h.new.table c.end_if-h.new.devices c.begin_if-h.new.endpoints c.begin_if-h.new.transactions c.end_if-h.new.groups c.end_if-h.new.statebytes c.end_if-h.new.states c.end_if-h.new.items c.end_if-h.new.links) (end-then c.args.p.ends c.args.p.old c.args.p.brought.id (start_pid c.args.p.brought.style) c.start_pid-started.result c.args.p.end (desk2 c.args.p (desk c.args.h c.args.table.now c.args.devices.now c.args.endpoints.now c.args.transactions.now c.args.groups.now c.args.statebytes.now c.args.states.now c.args.items.now c.args.links.now)) (desk c.begin_if-h.result c.begin_if-h.new.table c.begin_if-h.new.devices c.begin_if-h.new.endpoints c.begin_if-h.new.transactions c.begin_if-h.new.groups c.begin_if-h.new.statebytes c.begin_if-h.new.states c.begin_if-h.new.items c.begin_if-h.new.links) (desk c.end_if-h.result c.end_if-h.new.table c.end_if-h.new.devices c.begin_if-h.new.endpoints c.begin_if-h.new.transactions c.end_if-h.new.groups c.end_if-h.new.statebytes c.end_if-h.new.states c.end_if-h.new.items c.end_if-h.new.links) c.begin_if-h.ensures c.start_pid-started.ensures (c.end_if-h.ensures c.begin_if-h.new.endpoints c.begin_if-h.new.transactions))

pub end_if-requires : goal.end_if-requires
end_if-requires c = fourth c.args.p (desk c.args.h c.args.table.now c.args.devices.now c.args.endpoints.now c.args.transactions.now c.args.groups.now c.args.statebytes.now c.args.states.now c.args.items.now c.args.links.now) c.requires c.start_pid-starts.result c.start_pid-starts.ensures (desk c.begin_if-h-2.result c.begin_if-h-2.new.table c.begin_if-h-2.new.devices c.begin_if-h-2.new.endpoints c.begin_if-h-2.new.transactions c.begin_if-h-2.new.groups c.begin_if-h-2.new.statebytes c.begin_if-h-2.new.states c.begin_if-h-2.new.items c.begin_if-h-2.new.links) (c.begin_if-h-2.ensures ∙ ap (begun_desk c.args.p.begin) (end-then c.args.p.ends c.args.p.old c.args.p.brought.id (start_pid c.args.p.brought.style) c.start_pid-started.result c.args.p.end (desk2 c.args.p (desk c.args.h c.args.table.now c.args.devices.now c.args.endpoints.now c.args.transactions.now c.args.groups.now c.args.statebytes.now c.args.states.now c.args.items.now c.args.links.now)) (desk c.begin_if-h.result c.begin_if-h.new.table c.begin_if-h.new.devices c.begin_if-h.new.endpoints c.begin_if-h.new.transactions c.begin_if-h.new.groups c.begin_if-h.new.statebytes c.begin_if-h.new.states c.begin_if-h.new.items c.begin_if-h.new.links) (desk c.end_if-h.result c.end_if-h.new.table c.end_if-h.new.devices c.begin_if-h.new.endpoints c.begin_if-h.new.transactions c.end_if-h.new.groups c.end_if-h.new.statebytes c.end_if-h.new.states c.end_if-h.new.items c.end_if-h.new.links) c.begin_if-h.ensures c.start_pid-started.ensures (c.end_if-h.ensures c.begin_if-h.new.endpoints c.begin_if-h.new.transactions)))
