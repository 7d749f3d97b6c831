use Rattle.std.proofs.Common.{rules}
use mathlib.Core.Path.{ap, ◌∙◌}
use lib.ListN.{drop}
use Rattle.crc.specs.Crc.{generator16, ones16, bytes}
use Rattle.crc.proofs.Words.{take-turn, start-turn}
use Rattle.crc.proofs.FourWords.{start4, words}
use Prim.Native.Nat.{ℕ}
use Rattle.crc.proofs.by_lanes.Goals as goal

pub returns-then-n-lt32 : goal.returns-then-n-lt32
returns-then-n-lt32 c = (
  search rules,
  take-turn generator16 ones16 _ 8 0 _ (start-turn generator16 ones16 _ (search rules) ∙ c.word-first.ensures ones16),
)

pub loop-i-init : goal.loop-i-init
loop-i-init c = let s = c.args.s.now in
    let u = c.word-first.result in
    let v = c.word.result in
    let w = c.word-2.result in
    let x = c.word-3.result in (
      search rules,
      ap (λ (r : ℕ). bytes generator16 r (drop 32 s)) (start4 u v w x (search rules) (search rules) (search rules) (search rules))
          ∙ words s 0 u v w x c.word-first.ensures c.word.ensures c.word-2.ensures c.word-3.ensures ones16,
    )
