use Rattle.write.specs.Memory.{Memory, memory}
use Rattle.events.proofs.Closing.{carry-asks, closes, stays}
use Rattle.events.proofs.ending.end_here.Goals as goal
use Rattle.std.proofs.Common.{◌-◌}

pub carry_out-requires : goal.carry_out-requires
carry_out-requires c = let first : Memory = memory c.args.d c.args.table.now c.args.groups.now c.args.statebytes.now c.args.states.now c.args.items.now c.args.links.now in
    let s = c in
    let the_rest = carry-asks s.args.e s.args.n s.args.id s.args.pid (first) s.requires c.if-e.true c.store.new.table c.store.ensures in record { n_bound = the_rest.0; x_lt_n = the_rest.1.0; link_bound = the_rest.1.1.0; start_bound = the_rest.1.1.1.0; room = the_rest.1.1.1.1 }

pub returns-then-e : goal.returns-then-e
returns-then-e c = let first : Memory = memory c.args.d c.args.table.now c.args.groups.now c.args.statebytes.now c.args.states.now c.args.items.now c.args.links.now in
    let s = c in
    closes s.args.e s.args.n s.args.id s.args.pid (first) s.requires c.if-e.true c.store.new.table c.store.ensures _ c.carry_out.ensures

pub returns-else-e : goal.returns-else-e
returns-else-e c = let first : Memory = memory c.args.d c.args.table.now c.args.groups.now c.args.statebytes.now c.args.states.now c.args.items.now c.args.links.now in
    let s = c in stays s.args.e s.args.n s.args.id s.args.pid (first) c.if-e.false
