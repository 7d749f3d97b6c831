use native.Mathlib.Omega.{arith}
use Prim.Native.Nat.{ℕ, ◌+◌, ◌^◌, ◌≤◌}
use mathlib.Core.Path.{◌≡◌, sym, ap, subst, ◌∙◌}
use Rattle.tally.specs.Tally.{none as nothing, add_packet}
use Rattle.rules.specs.World.{◌▷◌}
use Rattle.tally.specs.declared.add.Tally.{Tally}
use Rattle.tally.proofs.Bounds.{Small, small-none, looser, packet_small}
use Rattle.quick.specs.Close.{close_tally}
use Rattle.quick.proofs.close.close_tally.Goals as goal

small : {t none : Tally} (waiting len : ℕ) → len ≤ 4096 → none ≡ nothing waiting → t ≡ (none ▷ add_packet len) → Small (waiting + 4096) t
small waiting len b e f = subst (Small (waiting + 4096)) (sym (f ∙ ap (add_packet len) e)) (packet_small (small-none waiting) len b)

pub add_packet-requires : goal.add_packet-requires
add_packet-requires c = let a = c in let l = a.requires.waiting_bound in record { len_bound = a.requires.len_bound; within = rw c.tally_none-t.ensures (looser (small-none a.args.d.waiting) (2 ^ 60) (omega (arith, l))) }

pub tally_end-requires : goal.tally_end-requires
tally_end-requires c = let a = c in let l = a.requires.waiting_bound in record { endpoints_bound = a.requires.endpoints_bound; within = looser (small a.args.d.waiting a.args.len a.requires.len_bound c.tally_none-t.ensures c.add_packet.ensures) (2 ^ 40) (omega (arith, l)) }

pub returns : goal.returns
unfolding close_tally
returns c = rw (c.add_packet.ensures, c.tally_none-t.ensures) at c.tally_end.ensures
