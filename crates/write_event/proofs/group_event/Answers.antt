use Rattle.write_event.proofs.Rooms.{room-groups, room-states, room-statebytes, room-items, room-numbers, room_row, room-closing, room-link}
use Rattle.write_event.specs.Rows.{event_grouped}
use Rattle.write.specs.Memory.{Memory, Room, memory}
use mathlib.Core.Bool.{true}
use mathlib.Core.Path.{◌≡◌}
use Rattle.write_event.proofs.group_event.Goals as goal
use Rattle.std.proofs.Common.{◌-◌}

pub link_row-d-requires : goal.link_row-d-requires
link_row-d-requires c = let first : Memory = memory c.args.d c.args.table.now c.args.groups.now c.args.statebytes.now c.args.states.now c.args.items.now c.args.links.now in
    let room : c.args.on ≡ true → Room (event_grouped c.args.n c.args.start (first)) = λ e. rw e at c.requires.room in
    let s = c in
    room-link s.args.n s.args.start (first) (room c.if-on.true)

pub group_row-d-requires : goal.group_row-d-requires
group_row-d-requires c = let first : Memory = memory c.args.d c.args.table.now c.args.groups.now c.args.statebytes.now c.args.states.now c.args.items.now c.args.links.now in
    let room : c.args.on ≡ true → Room (event_grouped c.args.n c.args.start (first)) = λ e. rw e at c.requires.room in
    let s = c in
    let r = room c.if-on.true in
    rw c.link_row-d.ensures.value
    (record { n_bound = s.requires.n_bound; group_width_in_bounds = room-groups s.args.n s.args.start (first) r; n_in_bounds = room-statebytes s.args.n s.args.start (first) r; states_in_bounds = room-states s.args.n s.args.start (first) r; numbers = room-numbers s.args.n s.args.start (first) r })

pub item_row-requires : goal.item_row-requires
item_row-requires c = let first : Memory = memory c.args.d c.args.table.now c.args.groups.now c.args.statebytes.now c.args.states.now c.args.items.now c.args.links.now in
    let room : c.args.on ≡ true → Room (event_grouped c.args.n c.args.start (first)) = λ e. rw e at c.requires.room in
    let s = c in
    let r = room c.if-on.true in
    let row = c.group_row-d.ensures in
    let link = c.link_row-d.ensures in
    rw (row.value, row.table_after, c.more_groups.ensures, link.value, link.links_after, c.last-t.ensures, c.load-e.ensures)
    (record { n_bound = s.requires.n_bound; d_in_bounds = room-items s.args.n s.args.start (first) r; link_width_in_bounds = room-closing s.args.n s.args.start (first) r; numbers = room_row s.args.n s.args.start (first) r })
