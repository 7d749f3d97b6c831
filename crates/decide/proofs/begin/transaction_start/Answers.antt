use Rattle.plan.specs.Packet.{starting}
use Rattle.usb.proofs.Arms.{off}
use Rattle.decide.proofs.Places.{stand-invalid}
use Rattle.decide.proofs.begin.transaction_start.Goals as goal
use Rattle.std.proofs.Common.{◌-◌}

pub returns-in-0 : goal.returns-in-0
unfolding starting
returns-in-0 c v s = let a = c in
    simp c.in-0.is (simp c.in-0.is at (rw (stand-invalid a.args.d a.args.table.now a.requires a.args.near a.args.x0 a.args.e0 a.args.packet.now v s c.stand_at-p.ensures) at c.start_on.ensures))

pub returns-in-120 : goal.returns-in-120
unfolding starting
returns-in-120 c v s = let a = c in
    simp c.in-120.is (simp c.in-120.is at (rw (stand-invalid a.args.d a.args.table.now a.requires a.args.near a.args.x0 a.args.e0 a.args.packet.now v s c.stand_at-p-in-120.ensures) at c.start_split.ensures))

pub returns-in_default : goal.returns-in_default
unfolding starting
returns-in_default c v s = simp (off, c.in_default.in_default-own.rest.1, c.in_default.in_default-own.rest.0.1) (rw (c.packet_endpoint-p.ensures v s) at c.start_plain.ensures)
