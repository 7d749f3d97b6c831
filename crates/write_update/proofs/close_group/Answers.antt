use Rattle.write_update.proofs.Rooms.{table-when, end-when, fourth-asks, fifth-asks}
use Rattle.write.specs.Memory.{memory, altered, end_row, item_row}
use Rattle.update.specs.Update.{when}
use Rattle.rules.specs.World.{cleared}
use Rattle.write_update.specs.Carried.{become, closed}
use native.Mathlib.Omega.{arith}
use mathlib.Core.Path.{ap, ◌∙◌}
use Rattle.write_update.proofs.close_group.Goals as goal
use Rattle.std.proofs.Common.{◌-◌}

pub end_row_if-d-requires : goal.end_row_if-d-requires
end_row_if-d-requires c = let the_rest = fourth-asks c.args.u c.args.n c.args.x c.args.pid (memory c.args.d c.args.table.now c.args.groups.now c.args.statebytes.now c.args.states.now c.args.items.now c.args.links.now) c.requires.room (memory c.args.d c.clear_if.new.table c.args.groups.now c.args.statebytes.now c.args.states.now c.args.items.now c.args.links.now) (table-when c.args.u.end c.args.x cleared c.set_group.new.table c.clear_if.new.table c.args.d c.args.groups.now c.args.statebytes.now c.args.states.now c.args.items.now c.args.links.now c.clear_if.ensures ∙ ap (when c.args.u.end (altered c.args.x cleared)) (c.set_group.ensures c.args.d c.args.groups.now c.args.statebytes.now c.args.states.now c.args.items.now c.args.links.now)) in record { n_bound = c.requires.n_bound; x_bound = omega (arith, c.requires.n_bound, c.requires.x_lt_n); group_width_in_bounds = the_rest.0; d_in_bounds = the_rest.1.0; d_in_bounds_2 = the_rest.1.1.0; numbers = the_rest.1.1.1 }

pub item_if-requires : goal.item_if-requires
item_if-requires c = let the_rest = fifth-asks c.args.u c.args.n c.args.x c.args.pid (memory c.args.d c.args.table.now c.args.groups.now c.args.statebytes.now c.args.states.now c.args.items.now c.args.links.now) c.requires.room (memory c.end_row_if-d.result c.end_row_if-d.new.table c.end_row_if-d.new.groups c.end_row_if-d.new.statebytes c.end_row_if-d.new.states c.args.items.now c.args.links.now) (c.end_row_if-d.ensures c.args.items.now c.args.links.now ∙ (ap (when c.args.u.end (end_row c.args.n c.args.x)) (table-when c.args.u.end c.args.x cleared c.set_group.new.table c.clear_if.new.table c.args.d c.args.groups.now c.args.statebytes.now c.args.states.now c.args.items.now c.args.links.now c.clear_if.ensures ∙ ap (when c.args.u.end (altered c.args.x cleared)) (c.set_group.ensures c.args.d c.args.groups.now c.args.statebytes.now c.args.states.now c.args.items.now c.args.links.now)) ∙ end-when c.args.u.end c.args.n c.args.x (become c.args.u.group c.args.x c.args.pid (memory c.args.d c.args.table.now c.args.groups.now c.args.statebytes.now c.args.states.now c.args.items.now c.args.links.now)))) in record { n_bound = c.requires.n_bound; d_in_bounds = the_rest.0; link_width_in_bounds = the_rest.1.0; numbers = the_rest.1.1 }

pub returns : goal.returns
unfolding closed
returns c = c.item_if.ensures c.end_row_if-d.new.groups c.end_row_if-d.new.statebytes c.end_row_if-d.new.states ∙ ap (when c.args.u.item (item_row c.args.n c.args.x)) (c.end_row_if-d.ensures c.args.items.now c.args.links.now ∙ (ap (when c.args.u.end (end_row c.args.n c.args.x)) (table-when c.args.u.end c.args.x cleared c.set_group.new.table c.clear_if.new.table c.args.d c.args.groups.now c.args.statebytes.now c.args.states.now c.args.items.now c.args.links.now c.clear_if.ensures ∙ ap (when c.args.u.end (altered c.args.x cleared)) (c.set_group.ensures c.args.d c.args.groups.now c.args.statebytes.now c.args.states.now c.args.items.now c.args.links.now)) ∙ end-when c.args.u.end c.args.n c.args.x (become c.args.u.group c.args.x c.args.pid (memory c.args.d c.args.table.now c.args.groups.now c.args.statebytes.now c.args.states.now c.args.items.now c.args.links.now))))
