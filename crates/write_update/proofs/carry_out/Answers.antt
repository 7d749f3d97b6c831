use Rattle.write_update.proofs.Rooms.{room-closed}
use Rattle.write.specs.Memory.{memory}
use Rattle.write_update.specs.Carried.{opened}
use Rattle.write_update.proofs.carry_out.Goals as goal
use Rattle.std.proofs.Common.{◌-◌}

pub open_group-d-requires : goal.open_group-d-requires
open_group-d-requires c = record { n_bound = c.requires.n_bound; x_lt_n = c.requires.x_lt_n; link_bound = c.requires.link_bound; start_bound = c.requires.start_bound; room = room-closed c.args.u c.args.n c.args.x c.args.pid (opened c.args.u c.args.n c.args.x c.args.id (memory c.args.d c.args.table.now c.args.groups.now c.args.statebytes.now c.args.states.now c.args.items.now c.args.links.now)) c.requires.room }
