use Rattle.std.proofs.Common.{ℕ, sym, subst}
use Rattle.record.specs.World.{world_of}
use Rattle.decide.specs.Near.{Seen}
use Rattle.plan.specs.Packet.{plan_of}
use Rattle.decide.proofs.plan_near.Goals as goal
use Rattle.std.proofs.Common.{◌-◌}

pub returns : goal.returns
unfolding plan_of
returns c v seen = let a = c.args in
    let old = subst (λ (x : ℕ). Seen a.near x a.packet.now (world_of a.d v a.table.now)) (sym c.old_endpoint-x0.ensures) seen in
    rw (c.transaction_status-j.ensures, c.state_at.ensures, c.slot_then.ensures, c.transaction_then-t.ensures, c.load-stored.ensures, c.old_endpoint-x0.ensures) at (c.plan_by.ensures v old)
