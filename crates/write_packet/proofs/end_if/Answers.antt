use Prim.Native.Nat.{◌<◌}
use mathlib.Core.Bool.{false}
use mathlib.Core.List.{[]}
use mathlib.Core.Path.{◌≡◌}
use Rattle.endpoints.specs.Table.{entry_at, store_at}
use Rattle.update.specs.Effect.{passes}
use Rattle.write.specs.Memory.{memory}
use Rattle.write_packet.specs.Desk.{desk, effect_desk}
use Rattle.write_packet.specs.Asked.{RoomEffect}
use Rattle.write_packet.proofs.Steps.{acted, end_carries, effect-asks, stored_acted, ends}
use Rattle.write_packet.proofs.end_if.Goals as goal
use Rattle.std.proofs.Common.{◌-◌}

pub carry_out-d-requires : goal.carry_out-d-requires
carry_out-d-requires c = let q = end_carries c.args.x c.args.id c.args.pid c.args.s (desk c.args.h c.args.table.now c.args.devices.now [] [] c.args.groups.now c.args.statebytes.now c.args.states.now c.args.items.now c.args.links.now) (c.requires c.if-on.true) c.store.new.table c.store.ensures in record { n_bound = q.0; x_lt_n = q.1.0; link_bound = q.1.1.0; start_bound = q.1.1.1.0; room = q.1.1.1.1 }

pub take_effect-requires : goal.take_effect-requires
take_effect-requires c = let q = effect-asks c.args.x c.args.id c.args.pid c.args.s (desk c.args.h c.args.table.now c.args.devices.now [] [] c.args.groups.now c.args.statebytes.now c.args.states.now c.args.items.now c.args.links.now) (c.requires c.if-on.true) (desk c.with_written-h.result c.carry_out-d.new.table c.args.devices.now [] [] c.carry_out-d.new.groups c.carry_out-d.new.statebytes c.carry_out-d.new.states c.carry_out-d.new.items c.carry_out-d.new.links) (stored_acted c.args.x c.args.id c.args.pid c.args.s (desk c.args.h c.args.table.now c.args.devices.now [] [] c.args.groups.now c.args.statebytes.now c.args.states.now c.args.items.now c.args.links.now) (desk c.with_written-h.result c.carry_out-d.new.table c.args.devices.now [] [] c.carry_out-d.new.groups c.carry_out-d.new.statebytes c.carry_out-d.new.states c.carry_out-d.new.items c.carry_out-d.new.links) c.store.new.table c.store.ensures (acted c.args.s.update c.args.x c.args.id c.args.pid (desk c.args.h c.store.new.table c.args.devices.now [] [] c.args.groups.now c.args.statebytes.now c.args.states.now c.args.items.now c.args.links.now) (memory c.carry_out-d.result c.carry_out-d.new.table c.carry_out-d.new.groups c.carry_out-d.new.statebytes c.carry_out-d.new.states c.carry_out-d.new.items c.carry_out-d.new.links) c.with_written-h.result c.carry_out-d.ensures c.with_written-h.ensures)) in record { x_bound = q.0; x_value = q.1.0; room_effect = q.1.1 }

pub returns-then-on : goal.returns-then-on
returns-then-on c = λ e r. rw c.if-on.true (ends c.args.x c.args.id c.args.pid c.args.s (desk c.args.h c.args.table.now c.args.devices.now e r c.args.groups.now c.args.statebytes.now c.args.states.now c.args.items.now c.args.links.now) (desk c.with_written-h.result c.carry_out-d.new.table c.args.devices.now e r c.carry_out-d.new.groups c.carry_out-d.new.statebytes c.carry_out-d.new.states c.carry_out-d.new.items c.carry_out-d.new.links) (desk c.take_effect.result c.take_effect.new.table c.take_effect.new.devices e r c.carry_out-d.new.groups c.carry_out-d.new.statebytes c.carry_out-d.new.states c.carry_out-d.new.items c.take_effect.new.links) (stored_acted c.args.x c.args.id c.args.pid c.args.s (desk c.args.h c.args.table.now c.args.devices.now e r c.args.groups.now c.args.statebytes.now c.args.states.now c.args.items.now c.args.links.now) (desk c.with_written-h.result c.carry_out-d.new.table c.args.devices.now e r c.carry_out-d.new.groups c.carry_out-d.new.statebytes c.carry_out-d.new.states c.carry_out-d.new.items c.carry_out-d.new.links) c.store.new.table c.store.ensures (acted c.args.s.update c.args.x c.args.id c.args.pid (desk c.args.h c.store.new.table c.args.devices.now e r c.args.groups.now c.args.statebytes.now c.args.states.now c.args.items.now c.args.links.now) (memory c.carry_out-d.result c.carry_out-d.new.table c.carry_out-d.new.groups c.carry_out-d.new.statebytes c.carry_out-d.new.states c.carry_out-d.new.items c.carry_out-d.new.links) c.with_written-h.result c.carry_out-d.ensures c.with_written-h.ensures)) (c.take_effect.ensures e r c.carry_out-d.new.groups c.carry_out-d.new.statebytes c.carry_out-d.new.states c.carry_out-d.new.items))
