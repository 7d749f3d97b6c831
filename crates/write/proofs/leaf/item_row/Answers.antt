use Rattle.endpoints.proofs.PhasesLaws.{length-closing}
use Prim.Native.Nat.{◌+◌}
use native.Mathlib.Omega.{arith}
use Rattle.write.proofs.leaf.item_row.Goals as goal
use Rattle.std.proofs.Common.{◌-◌}

pub close_waiting-requires : goal.close_waiting-requires
close_waiting-requires c = record { n_bound = c.requires.n_bound; n_in_bounds = omega (arith, length-closing c.args.table.now (c.args.d.firsts.items + c.args.d.items) 0 c.args.n, c.requires.link_width_in_bounds) }
