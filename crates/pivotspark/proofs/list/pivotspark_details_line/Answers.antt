use native.Mathlib.Omega.{arith}
use Rattle.text.proofs.Lengths.{details-fits}
use Rattle.pivotspark.proofs.Listed.{made_within, made_size, alone}
use Rattle.pivotspark.proofs.list.pivotspark_details_line.Goals as goal
use Rattle.std.proofs.Common.{◌-◌}

pub details_line-len-requires : goal.details_line-len-requires
details_line-len-requires c = omega (arith, details-fits c.args.n)

pub slice_bounds-line-end : goal.slice_bounds-line-end
slice_bounds-line-end c = let m = c in made_within m.details_line-len.ensures (omega (arith, details-fits m.args.n))

pub slice_bounds-put_line-end : goal.slice_bounds-put_line-end
slice_bounds-put_line-end c = let m = c in made_size m.details_line-len.ensures (omega (arith, details-fits m.args.n))

pub returns : goal.returns
returns c = let m = c in alone m.details_line-len.ensures (omega (arith, details-fits m.args.n)) c.put_line.ensures
