use Rattle.std.proofs.Common.{rules}
use native.Mathlib.Omega.{arith}
use mathlib.Core.Bool.{◌&&◌, not}
use mathlib.Core.Path.{ap, ◌∙◌}
use Prim.Native.Nat.{ℕ}
use Rattle.rows.specs.Sets.{one_small}
use Rattle.quick.specs.Light.{is_total}
use Rattle.quick.specs.Room.{rows_room}
use Rattle.quick.proofs.light.light_fits.Goals as goal

pub rows_fit-requires : goal.rows_fit-requires
rows_fit-requires c = let a = c in
    let e = c.link_rows.ensures in
    let h = one_small a.args.end.update.link in
    let k = one_small (is_total a.args.end.effect) in
    record { rows_bound = omega arith; links_bound = omega (arith, e, h, k); len_bound = a.requires.len_bound; countable = a.requires.countable }

pub returns : goal.returns
returns c = let a = c.args in
    let room = c.rows_fit.ensures ∙ ap (λ (k : ℕ). rows_room 0 k a.len a.held a.n a.room) c.link_rows.ensures in
    λ i. c.is_quiet.ensures i && (c.is_counting.ensures i && (not (c.total_passes-over.ensures i) && room i))
