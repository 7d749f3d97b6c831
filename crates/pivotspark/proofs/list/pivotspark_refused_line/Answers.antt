use native.Mathlib.Omega.{arith}
use Rattle.text.proofs.Lengths.{refused-fits}
use Rattle.pivotspark.proofs.Listed.{made_within, made_size, alone}
use Rattle.pivotspark.proofs.list.pivotspark_refused_line.Goals as goal
use Rattle.std.proofs.Common.{◌-◌}

pub refused_line-len-requires : goal.refused_line-len-requires
refused_line-len-requires c = omega (arith, refused-fits c.args.answer c.args.place)

pub slice_bounds-line-end : goal.slice_bounds-line-end
slice_bounds-line-end c = let m = c in made_within m.refused_line-len.ensures (omega (arith, refused-fits m.args.answer m.args.place))

pub slice_bounds-put_line-end : goal.slice_bounds-put_line-end
slice_bounds-put_line-end c = let m = c in made_size m.refused_line-len.ensures (omega (arith, refused-fits m.args.answer m.args.place))

pub returns : goal.returns
returns c = let m = c in alone m.refused_line-len.ensures (omega (arith, refused-fits m.args.answer m.args.place)) c.put_line.ensures
