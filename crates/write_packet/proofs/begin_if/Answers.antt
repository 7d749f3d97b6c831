use Rattle.write.specs.Memory.{memory}
use Rattle.write_packet.specs.Desk.{desk}
use Rattle.write_packet.proofs.Steps.{acted, open-asks, begin_carries, begins}
use Rattle.write_packet.proofs.begin_if.Goals as goal
use Rattle.std.proofs.Common.{◌-◌}

pub open_rows-h-requires : goal.open_rows-h-requires
open_rows-h-requires c = record { endpoints_bound = (c.requires c.if-on.true).asks.few; room_rows = open-asks c.args.s (desk c.args.h c.args.table.now c.args.devices.now c.args.endpoints.now c.args.transactions.now c.args.groups.now c.args.statebytes.now c.args.states.now c.args.items.now c.args.links.now) (c.requires c.if-on.true) }

pub carry_out-d-requires : goal.carry_out-d-requires
carry_out-d-requires c = let q = begin_carries c.args.s (desk c.args.h c.args.table.now c.args.devices.now c.args.endpoints.now c.args.transactions.now c.args.groups.now c.args.statebytes.now c.args.states.now c.args.items.now c.args.links.now) (c.requires c.if-on.true) (desk c.open_rows-h.result c.open_rows-h.new.table c.open_rows-h.new.devices c.open_rows-h.new.endpoints c.open_rows-h.new.transactions c.args.groups.now c.args.statebytes.now c.args.states.now c.args.items.now c.args.links.now) (c.open_rows-h.ensures c.args.groups.now c.args.statebytes.now c.args.states.now c.args.items.now c.args.links.now) c.start_pid-pid.result c.start_pid-pid.ensures in record { n_bound = q.0; x_lt_n = q.1.0; link_bound = q.1.1.0; start_bound = q.1.1.1.0; room = q.1.1.1.1 }

pub returns-then-on : goal.returns-then-on
returns-then-on c = rw c.if-on.true (begins c.args.s (desk c.args.h c.args.table.now c.args.devices.now c.args.endpoints.now c.args.transactions.now c.args.groups.now c.args.statebytes.now c.args.states.now c.args.items.now c.args.links.now) (desk c.open_rows-h.result c.open_rows-h.new.table c.open_rows-h.new.devices c.open_rows-h.new.endpoints c.open_rows-h.new.transactions c.args.groups.now c.args.statebytes.now c.args.states.now c.args.items.now c.args.links.now) (desk c.with_written.result c.carry_out-d.new.table c.open_rows-h.new.devices c.open_rows-h.new.endpoints c.open_rows-h.new.transactions c.carry_out-d.new.groups c.carry_out-d.new.statebytes c.carry_out-d.new.states c.carry_out-d.new.items c.carry_out-d.new.links) c.start_pid-pid.result (c.open_rows-h.ensures c.args.groups.now c.args.statebytes.now c.args.states.now c.args.items.now c.args.links.now) c.start_pid-pid.ensures (acted c.args.s.update c.args.s.transaction.endpoint c.args.s.transaction.id c.start_pid-pid.result (desk c.open_rows-h.result c.open_rows-h.new.table c.open_rows-h.new.devices c.open_rows-h.new.endpoints c.open_rows-h.new.transactions c.args.groups.now c.args.statebytes.now c.args.states.now c.args.items.now c.args.links.now) (memory c.carry_out-d.result c.carry_out-d.new.table c.carry_out-d.new.groups c.carry_out-d.new.statebytes c.carry_out-d.new.states c.carry_out-d.new.items c.carry_out-d.new.links) c.with_written.result c.carry_out-d.ensures c.with_written.ensures))
