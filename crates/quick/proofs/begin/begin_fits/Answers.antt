use Rattle.std.proofs.Common.{rules}
use native.Mathlib.Omega.{arith}
use mathlib.Core.Path.{◌∙◌}
use Rattle.rows.specs.Sets.{one_small}
use Rattle.quick.specs.Room.{rows_room}
use Rattle.rows.proofs.FlagLaws.{from-one}
use Rattle.quick.proofs.begin.begin_fits.Goals as goal

pub rows_fit-requires : goal.rows_fit-requires
rows_fit-requires c = let a = c in
    let e = (c.from-rows.ensures ∙ from-one _) in
    let f = (c.from-links.ensures ∙ from-one _) in
    let h = one_small a.args.row in
    let k = one_small a.args.l in
    record { rows_bound = omega (arith, e, h); links_bound = omega (arith, f, k); len_bound = a.requires.len_bound; countable = a.requires.countable }

pub returns : goal.returns
returns c = let a = c.args in
    c.rows_fit.ensures ∙ λ i. rows_room ((c.from-rows.ensures ∙ from-one _) i) ((c.from-links.ensures ∙ from-one _) i) a.len a.held a.n a.room
