use native.Mathlib.Omega.{arith}
use Prim.Native.Nat.{ℕ, ◌^◌, ◌≤◌}
use mathlib.Core.Path.{◌≡◌, sym, subst, ◌∙◌}
use Rattle.tally.specs.Tally.{Within}
use Rattle.tally.specs.declared.add.Tally.{Tally}
use Rattle.tally.proofs.Bounds.{small-none, looser, packet_small, sums-room}
use Rattle.packet.specs.After.{sum_dropped, tally_of_dropped}
use Rattle.packet.proofs.sum.sum_dropped.Goals as goal

small : {t : Tally} (waiting len : ℕ) → waiting ≤ 128 → len ≤ 4096 → t ≡ tally_of_dropped waiting len → Within (2 ^ 40) t
small waiting len l b e = subst (Within (2 ^ 40)) (sym e) (looser (packet_small (small-none waiting) len b) (2 ^ 40) (omega (arith, l)))

pub add_packet-requires : goal.add_packet-requires
add_packet-requires c = let l = c.requires.waiting_bound in record { len_bound = c.requires.len_bound; within = rw c.tally_none-t.ensures (looser (small-none c.args.d.waiting) (2 ^ 60) (omega (arith, l))) }

pub has_room_for-requires : goal.has_room_for-requires
has_room_for-requires c = let z = c.requires.countable in let t = rw c.tally_none-t.ensures at c.add_packet.ensures in record { under = z.few; within = small c.args.d.waiting c.args.len c.requires.waiting_bound c.requires.len_bound t; numbered = z.numbered }

pub add_counts-requires : goal.add_counts-requires
add_counts-requires c = let t = rw c.tally_none-t.ensures at c.add_packet.ensures in sums-room _ _ c.requires.countable (small c.args.d.waiting c.args.len c.requires.waiting_bound c.requires.len_bound t) (sym c.has_room_for.ensures ∙ c.if-not-has_room_for.false)

pub returns-then-not-has_room_for : goal.returns-then-not-has_room_for
unfolding sum_dropped
returns-then-not-has_room_for c = let t = rw c.tally_none-t.ensures at c.add_packet.ensures in let room = rw t at c.has_room_for.ensures in rw (← room, c.if-not-has_room_for.true)

pub returns : goal.returns
unfolding sum_dropped
returns c = let t = rw c.tally_none-t.ensures at c.add_packet.ensures in let room = rw t at c.has_room_for.ensures in rw (← room, c.if-not-has_room_for.false, c.add_counts.ensures, t)
