use Rattle.std.proofs.Common.{inl, inr}
use Rattle.plan.specs.Packet.{appending}
use Rattle.decide.proofs.Places.{going-is}
use Rattle.decide.proofs.begin.transaction_append.Goals as goal
use Rattle.std.proofs.Common.{◌-◌}

pub returns-in-Nothing : goal.returns-in-Nothing
unfolding appending
returns-in-Nothing c v s = let a = c in
    let on = going-is a.args.d a.args.table.now a.requires.ready a.args.near a.args.x0 a.args.e0 a.args.packet.now v s a.args.status a.args.pid a.args.b c.append_on.ensures in
    elim c.in-Nothing.is [ inl e ↦ simp e (simp e at on) | inr w ↦ elim w [ inl x ↦ simp x.1 (simp x.1 at on) | inr y ↦ simp y.3 (simp y.3 at on) ] ]

pub returns-in-Split : goal.returns-in-Split
unfolding appending
returns-in-Split c v s = simp c.in-Split.is (rw (c.token_of-token.ensures, c.packet_endpoint-p.ensures v s) at c.with_token_on.ensures)
