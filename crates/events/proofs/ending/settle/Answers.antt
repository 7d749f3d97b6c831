use Rattle.write.specs.Memory.{Memory, memory}
use Rattle.events.proofs.Closing.{settles, unsettled}
use Rattle.events.proofs.ending.settle.Goals as goal
use Rattle.std.proofs.Common.{◌-◌}

pub returns-then-resets : goal.returns-then-resets
returns-then-resets c = let first : Memory = memory c.args.d c.args.table.now c.args.groups.now c.args.statebytes.now c.args.states.now c.args.items.now c.args.links.now in
    let s = c in
    settles s.args.resets s.args.e s.args.n s.args.id s.args.pid (first) c.if-resets.true
    (memory c.end_here-d.result c.end_here-d.new.table c.end_here-d.new.groups c.end_here-d.new.statebytes c.end_here-d.new.states c.end_here-d.new.items c.end_here-d.new.links)
    c.end_here-d.ensures _ c.end_active.ensures

pub returns-else-resets : goal.returns-else-resets
returns-else-resets c = let first : Memory = memory c.args.d c.args.table.now c.args.groups.now c.args.statebytes.now c.args.states.now c.args.items.now c.args.links.now in
    let s = c in unsettled s.args.resets s.args.e s.args.n s.args.id s.args.pid (first) c.if-resets.false
