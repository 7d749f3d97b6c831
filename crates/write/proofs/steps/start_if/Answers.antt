use mathlib.Core.Bool.{true}
use mathlib.Core.Path.{◌≡◌}
use Rattle.write.specs.Memory.{Memory, Room, memory, start_group}
use Rattle.write.proofs.Parts.{room-groups, room-states, room-statebytes, room-numbers, room-link}
use Rattle.write.proofs.steps.start_if.Goals as goal
use Rattle.std.proofs.Common.{◌-◌}
use Rattle.write.proofs.Parts.{room-item}

pub link_row-d-requires : goal.link_row-d-requires
link_row-d-requires c = let lent : Memory = memory c.args.d c.args.table.now c.args.groups.now c.args.statebytes.now c.args.states.now c.args.items.now c.args.links.now in
    let room : c.args.on ≡ true → Room (start_group c.args.n c.args.x (lent)) = λ q. rw q at c.requires.room in
    let s = c in room-link s.args.n s.args.x (lent) (room c.if-on.true)

pub group_row-d-requires : goal.group_row-d-requires
group_row-d-requires c = let lent : Memory = memory c.args.d c.args.table.now c.args.groups.now c.args.statebytes.now c.args.states.now c.args.items.now c.args.links.now in
    let room : c.args.on ≡ true → Room (start_group c.args.n c.args.x (lent)) = λ q. rw q at c.requires.room in
    let s = c in
    let r = room c.if-on.true in
    rw c.link_row-d.ensures.value (record { n_bound = s.requires.n_bound; group_width_in_bounds = room-groups s.args.n s.args.x (lent) r; n_in_bounds = room-statebytes s.args.n s.args.x (lent) r; states_in_bounds = room-states s.args.n s.args.x (lent) r; numbers = room-numbers s.args.n s.args.x (lent) r })

pub item_row-requires : goal.item_row-requires
item_row-requires c = let lent : Memory = memory c.args.d c.args.table.now c.args.groups.now c.args.statebytes.now c.args.states.now c.args.items.now c.args.links.now in
    let room : c.args.on ≡ true → Room (start_group c.args.n c.args.x (lent)) = λ q. rw q at c.requires.room in
    let s = c in
    let link = c.link_row-d.ensures in
    let row = c.group_row-d.ensures in
    let the_rest = room-item s.args.n s.args.x (lent) (room c.if-on.true) link.value link.links_after c.more_groups.ensures row.value row.table_after in record { n_bound = s.requires.n_bound; d_in_bounds = the_rest.0; link_width_in_bounds = the_rest.1.0; numbers = the_rest.1.1 }
