use Rattle.events.proofs.Decisions.{few-active}
use Rattle.events.proofs.decided.decide.Goals as goal
use Rattle.std.proofs.Common.{◌-◌}

pub sum_event-sum-requires : goal.sum_event-sum-requires
sum_event-sum-requires c = let s = c in
    let p = s.requires.ready in
    record { waiting_bound = s.requires.waiting_bound; endpoints_bound = p.endpoints; active_bound = rw c.count_active-active.ensures (few-active s.args.table.now s.args.d.counts.endpoints p.endpoints); countable = s.requires.countable }
