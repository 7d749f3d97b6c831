use Rattle.std.proofs.Common.{rules}
use mathlib.Core.Path.{◌≡◌, refl, sym, ap, subst, ◌∙◌}
use mathlib.Core.Bool.{true}
use Prim.Native.Nat.{◌<◌}
use native.Mathlib.Omega.{arith}
use borrow.Author.Tests.{not-false}
use Rattle.endpoints.specs.Table.{entry_at}
use Rattle.rules.specs.World.{framing_ep}
use Rattle.record.specs.World.{world_of}
use Rattle.plan.specs.Packet.{plan_of}
use Rattle.quick.specs.Shaped.{is_plain, Shaped}
use Rattle.quick.specs.declared.shape.Shape.{Shape}
use Rattle.quick.proofs.Packets.{not_shaped}
use Rattle.quick.proofs.Shapes.{status_checked, token-asks, plain-there, next-seen}
use Rattle.quick.proofs.shape.shape_of.Goals as goal

pub token_shape-requires : goal.token_shape-requires
token_shape-requires c = let a = c in
    let the_rest = token-asks a.args.d.high a.args.d.slot a.args.d.transaction a.args.near.old (entry_at a.args.table.now framing_ep) a.args.packet.now c.state_at.ensures (status_checked a.args.d.high c.state_at.result a.args.packet.now c.check-checked.ensures c.status_by-j.ensures) c.is_new.ensures c.is_free.ensures c.if-is_new-is_free.true in record { ready = a.requires; x0_value = c.old_endpoint-x0.ensures; framing_ep_value = the_rest.0; packet_value = the_rest.1 }

pub lays-requires : goal.lays-requires
lays-requires c =
    let h = plain-there c.args.d c.args.table.now c.requires (sym c.is_plain.ensures ∙ c.if-not-is_plain.false) in
    let e = c.requires.endpoints in
    omega (arith, h, e)

pub next_shape-requires : goal.next_shape-requires
next_shape-requires c =
    let h = plain-there c.args.d c.args.table.now c.requires (sym c.is_plain.ensures ∙ c.if-not-is_plain.false) in
    let e = c.requires.endpoints in
    omega (arith, h, e)

pub returns-then-not-is_plain : goal.returns-then-not-is_plain
returns-then-not-is_plain c v s = let a = c.args in subst (λ (q : Shape). Shaped a.d.high q (plan_of a.d.high a.packet.now (world_of a.d v a.table.now)) (world_of a.d v a.table.now)) (sym c.no_shape.ensures) (not_shaped _ _ _ _)

pub returns-then-lays : goal.returns-then-lays
returns-then-lays c v s = let a = c.args in subst (λ (q : Shape). Shaped a.d.high q (plan_of a.d.high a.packet.now (world_of a.d v a.table.now)) (world_of a.d v a.table.now)) (sym c.no_shape-then-lays.ensures) (not_shaped _ _ _ _)

pub returns : goal.returns
returns c v s = let a = c in
    next-seen a.args.d.high a.args.packet.now (world_of a.args.d v a.args.table.now) (sym c.is_plain.ensures ∙ c.if-not-is_plain.false) c.state_at.ensures (status_checked a.args.d.high c.state_at.result a.args.packet.now c.check-checked.ensures c.status_by-j.ensures) c.brought_to-next.ensures (sym c.lays.ensures ∙ c.if-lays.false) c.next_shape.ensures
