use Rattle.std.proofs.Common.{rules}
use Prim.Native.Nat.{ℕ, ◌+◌, ◌^◌, ◌<◌}
use mathlib.Core.Path.{ap, ◌∙◌}
use lib.ListN.{drop}
use Rattle.crc.specs.Crc.{generator16, bytes}
use Rattle.crc.proofs.FourWords.{next4, words}
use Rattle.crc.proofs.next_lanes.Goals as goal

pub returns : goal.returns
returns c = let three = c in
    let two = three in
    let one = two in
    let start = one in
    let args = start.args in
    let l = args.l in
    let fit : (l.first < 2 ^ 64) × ((l.second < 2 ^ 64) × ((l.third < 2 ^ 64) × (l.fourth < 2 ^ 64))) = search rules in
    let s = args.s.now in
    let u = one.word.result in
    let v = two.word-2.result in
    let w = three.word-3.result in
    let x = c.word-4.result in
    rw (one.stays.ensures, one.passes.ensures, two.stays-2.ensures, two.passes-2.ensures, three.stays-3.ensures, three.passes-3.ensures, c.stays-4.ensures, c.passes-4.ensures)
    (ap (λ (r : ℕ). bytes generator16 r (drop (args.i + 32) s))
    (next4 u v w x (search rules) (search rules) (search rules) (search rules) l.first l.second l.third l.fourth fit.0 fit.1.0 fit.1.1.0 fit.1.1.1)
    ∙ words s args.i u v w x one.word.ensures two.word-2.ensures three.word-3.ensures c.word-4.ensures _)
