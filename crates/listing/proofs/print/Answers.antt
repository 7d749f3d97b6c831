use Rattle.std.proofs.Common.{arith}
use Rattle.listing.proofs.Shown.{own_room, too-long, printed}
use Rattle.listing.proofs.print.Goals as goal

pub too_long_line-requires : goal.too_long_line-requires
too_long_line-requires c = omega (arith, own_room, c.requires)

pub returns-then-trace-gt-INPUT : goal.returns-then-trace-gt-INPUT
returns-then-trace-gt-INPUT c = too-long c.if-trace-gt-INPUT.true c.requires c.too_long_line.ensures

pub show-requires : goal.show-requires
show-requires c = c.requires

pub returns : goal.returns
returns c = printed c.if-trace-gt-INPUT.false c.show.ensures
