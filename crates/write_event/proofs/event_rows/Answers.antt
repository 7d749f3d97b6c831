use Rattle.write_event.proofs.Rooms.{first-asks, second-asks}
use Rattle.write_event.specs.Rows.{event_grouped, event_linked, event_rows}
use Rattle.update.specs.Update.{when}
use Rattle.write.specs.Memory.{Memory, memory, OnLinks}
use mathlib.Core.Path.{◌≡◌, ap, ◌∙◌}
use Rattle.write_event.proofs.event_rows.Goals as goal
use Rattle.std.proofs.Common.{◌-◌}

pub link_event-d-requires : goal.link_event-d-requires
link_event-d-requires c = let first : Memory = memory c.args.d c.args.table.now c.args.groups.now c.args.statebytes.now c.args.states.now c.args.items.now c.args.links.now in
    let s = c in
    let the_rest = first-asks s.args.row s.args.group s.args.start s.args.n s.args.id (first) s.requires in record { on_bound = the_rest.0; link_width_in_bounds = the_rest.1 }

pub group_event-requires : goal.group_event-requires
group_event-requires c = let first : Memory = memory c.args.d c.args.table.now c.args.groups.now c.args.statebytes.now c.args.states.now c.args.items.now c.args.links.now in
    let s = c in
    let the_rest = second-asks s.args.row s.args.group s.args.start s.args.n s.args.id (first) s.requires c.told-table
    (memory c.link_event-d.result c.link_event-d.new.table s.args.groups.now s.args.statebytes.now s.args.states.now s.args.items.now c.link_event-d.new.links)
    (c.link_event-d.ensures s.args.groups.now s.args.statebytes.now s.args.states.now s.args.items.now) in record { n_bound = the_rest.0; on_bound = the_rest.1.0; room = the_rest.1.1 }

pub returns : goal.returns
unfolding event_rows
returns c = let s = c.args in
    c.group_event.ensures
    ∙ ap (when s.group (event_grouped s.n s.start))
    (c.link_event-d.ensures s.groups.now s.statebytes.now s.states.now s.items.now)
