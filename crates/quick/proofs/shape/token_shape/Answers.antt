use Rattle.std.proofs.Common.{rules}
use mathlib.Core.Path.{sym, subst}
use mathlib.Core.List.{[]}
use native.Mathlib.Omega.{arith}
use Rattle.record.specs.World.{world_of}
use Rattle.plan.specs.Packet.{plan_of}
use Rattle.decide.proofs.Places.{found_at}
use Rattle.quick.specs.Shaped.{Shaped}
use Rattle.quick.specs.declared.shape.Shape.{Shape}
use Rattle.quick.proofs.Packets.{not_shaped}
use Rattle.quick.proofs.Token.{token_shaped}
use Rattle.quick.proofs.shape.token_shape.Goals as goal

pub returns-then-pid : goal.returns-then-pid
returns-then-pid c v s = let a = c.args in subst (λ (q : Shape). Shaped a.d.high q (plan_of a.d.high a.packet.now (world_of a.d v a.table.now)) (world_of a.d v a.table.now)) (sym c.no_shape.ensures) (not_shaped _ _ _ _)

pub returns-in_default : goal.returns-in_default
returns-in_default c v s = let a = c.args in subst (λ (q : Shape). Shaped a.d.high q (plan_of a.d.high a.packet.now (world_of a.d v a.table.now)) (world_of a.d v a.table.now)) (sym c.no_shape-in_default.ensures) (not_shaped _ _ _ _)

pub load-e-requires : goal.load-e-requires
load-e-requires c = let s = c in
    let h = found_at (world_of s.args.d [] s.args.table.now) s.requires.ready.three s.args.near.found s.args.pid s.args.packet.now c.find_place-found.result c.in-Some.i c.find_place-found.ensures c.in-Some.is in
    omega (arith, h, s.requires.ready.endpoints)

pub returns-then-early-i : goal.returns-then-early-i
returns-then-early-i c v s = let a = c.args in subst (λ (q : Shape). Shaped a.d.high q (plan_of a.d.high a.packet.now (world_of a.d v a.table.now)) (world_of a.d v a.table.now)) (sym c.no_shape-then-early-i.ensures) (not_shaped _ _ _ _)

pub returns : goal.returns
returns c = let a = c in
    token_shaped a.args.d a.args.table.now a.requires.ready a.args.near a.args.packet.now a.args.pid c.in-Some.i a.args.x0 a.requires.x0_value a.requires.framing_ep_value a.requires.packet_value c.if-pid.false
    c.find_place-found.ensures c.in-Some.is c.detail_by-detail.ensures c.load-e.ensures
    c.decide_early_start-early.ensures c.if-early-i.false c.type_by-kind.ensures c.new_transaction-t.ensures
    c.decide_early_append-append.ensures c.begin_shape.ensures
