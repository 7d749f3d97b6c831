use Rattle.write_update.proofs.Rooms.{table-when, first-asks, second-asks, third-asks, transactions_fit, groups_fit}
use Rattle.write.specs.Memory.{memory, end_row, link_step, start_group}
use Rattle.update.specs.Update.{when}
use Rattle.endpoints.specs.Table.{with_phase}
use Rattle.endpoints.specs.declared.Phase.TheVariants.{Ended}
use Rattle.write_update.specs.Carried.{opened}
use native.Mathlib.Omega.{arith}
use mathlib.Core.Path.{ap, ◌∙◌}
use Rattle.write_update.proofs.open_group.Goals as goal
use Rattle.std.proofs.Common.{◌-◌}

pub end_row_if-d-requires : goal.end_row_if-d-requires
end_row_if-d-requires c = let the_rest = first-asks c.args.u c.args.n c.args.x c.args.id (memory c.args.d c.args.table.now c.args.groups.now c.args.statebytes.now c.args.states.now c.args.items.now c.args.links.now) c.requires.n_bound c.requires.x_lt_n c.requires.room (memory c.args.d c.over_if.new.table c.args.groups.now c.args.statebytes.now c.args.states.now c.args.items.now c.args.links.now) (table-when c.args.u.over c.args.x (with_phase Ended) c.args.table.now c.over_if.new.table c.args.d c.args.groups.now c.args.statebytes.now c.args.states.now c.args.items.now c.args.links.now c.over_if.ensures) in record { n_bound = c.requires.n_bound; x_bound = omega (arith, c.requires.n_bound, c.requires.x_lt_n); group_width_in_bounds = the_rest.0; d_in_bounds = the_rest.1.0; d_in_bounds_2 = the_rest.1.1.0; numbers = the_rest.1.1.1 }

pub link_if-d-requires : goal.link_if-d-requires
link_if-d-requires c = record { x_bound = omega (arith, c.requires.n_bound, c.requires.x_lt_n); on_bound = transactions_fit c.args.u c.args.n c.args.x c.args.id (memory c.args.d c.args.table.now c.args.groups.now c.args.statebytes.now c.args.states.now c.args.items.now c.args.links.now) c.requires.n_bound c.requires.x_lt_n c.told-table c.requires.link_bound (memory c.end_row_if-d.result c.end_row_if-d.new.table c.end_row_if-d.new.groups c.end_row_if-d.new.statebytes c.end_row_if-d.new.states c.args.items.now c.args.links.now) (c.end_row_if-d.ensures c.args.items.now c.args.links.now ∙ ap (when c.args.u.cut (end_row c.args.n c.args.x)) (table-when c.args.u.over c.args.x (with_phase Ended) c.args.table.now c.over_if.new.table c.args.d c.args.groups.now c.args.statebytes.now c.args.states.now c.args.items.now c.args.links.now c.over_if.ensures)); link_width_in_bounds = second-asks c.args.u c.args.n c.args.x c.args.id (memory c.args.d c.args.table.now c.args.groups.now c.args.statebytes.now c.args.states.now c.args.items.now c.args.links.now) c.requires.n_bound c.requires.x_lt_n c.requires.room (memory c.end_row_if-d.result c.end_row_if-d.new.table c.end_row_if-d.new.groups c.end_row_if-d.new.statebytes c.end_row_if-d.new.states c.args.items.now c.args.links.now) (c.end_row_if-d.ensures c.args.items.now c.args.links.now ∙ ap (when c.args.u.cut (end_row c.args.n c.args.x)) (table-when c.args.u.over c.args.x (with_phase Ended) c.args.table.now c.over_if.new.table c.args.d c.args.groups.now c.args.statebytes.now c.args.states.now c.args.items.now c.args.links.now c.over_if.ensures)) }

pub start_if-requires : goal.start_if-requires
start_if-requires c = record { n_bound = c.requires.n_bound; x_bound = omega (arith, c.requires.n_bound, c.requires.x_lt_n); on_bound = groups_fit c.args.u c.args.n c.args.x c.args.id (memory c.args.d c.args.table.now c.args.groups.now c.args.statebytes.now c.args.states.now c.args.items.now c.args.links.now) c.requires.n_bound c.requires.x_lt_n c.told-table c.requires.start_bound (memory c.link_if-d.result c.link_if-d.new.table c.end_row_if-d.new.groups c.end_row_if-d.new.statebytes c.end_row_if-d.new.states c.args.items.now c.link_if-d.new.links) (c.link_if-d.ensures c.end_row_if-d.new.groups c.end_row_if-d.new.statebytes c.end_row_if-d.new.states c.args.items.now ∙ ap (when c.args.u.link (link_step c.args.x c.args.id)) (c.end_row_if-d.ensures c.args.items.now c.args.links.now ∙ ap (when c.args.u.cut (end_row c.args.n c.args.x)) (table-when c.args.u.over c.args.x (with_phase Ended) c.args.table.now c.over_if.new.table c.args.d c.args.groups.now c.args.statebytes.now c.args.states.now c.args.items.now c.args.links.now c.over_if.ensures))); room = third-asks c.args.u c.args.n c.args.x c.args.id (memory c.args.d c.args.table.now c.args.groups.now c.args.statebytes.now c.args.states.now c.args.items.now c.args.links.now) c.requires.n_bound c.requires.x_lt_n c.requires.room (memory c.link_if-d.result c.link_if-d.new.table c.end_row_if-d.new.groups c.end_row_if-d.new.statebytes c.end_row_if-d.new.states c.args.items.now c.link_if-d.new.links) (c.link_if-d.ensures c.end_row_if-d.new.groups c.end_row_if-d.new.statebytes c.end_row_if-d.new.states c.args.items.now ∙ ap (when c.args.u.link (link_step c.args.x c.args.id)) (c.end_row_if-d.ensures c.args.items.now c.args.links.now ∙ ap (when c.args.u.cut (end_row c.args.n c.args.x)) (table-when c.args.u.over c.args.x (with_phase Ended) c.args.table.now c.over_if.new.table c.args.d c.args.groups.now c.args.statebytes.now c.args.states.now c.args.items.now c.args.links.now c.over_if.ensures))) }

pub returns : goal.returns
unfolding opened
returns c = c.start_if.ensures ∙ ap (when c.args.u.start (start_group c.args.n c.args.x)) (c.link_if-d.ensures c.end_row_if-d.new.groups c.end_row_if-d.new.statebytes c.end_row_if-d.new.states c.args.items.now ∙ ap (when c.args.u.link (link_step c.args.x c.args.id)) (c.end_row_if-d.ensures c.args.items.now c.args.links.now ∙ ap (when c.args.u.cut (end_row c.args.n c.args.x)) (table-when c.args.u.over c.args.x (with_phase Ended) c.args.table.now c.over_if.new.table c.args.d c.args.groups.now c.args.statebytes.now c.args.states.now c.args.items.now c.args.links.now c.over_if.ensures)))
