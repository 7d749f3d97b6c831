use Rattle.std.proofs.Common.{rules}
use mathlib.Core.Path.{◌∙◌}
use Rattle.crc.specs.Crc.{generator16}
use Rattle.crc.proofs.Words.{take-turn, fold-turn}
use Rattle.crc.proofs.by_words.Goals as goal

pub loop-i-preserved : goal.loop-i-preserved
loop-i-preserved c = (
  search rules,
  take-turn generator16 _ _ 8 c.loop-i.i c.args.s.now (fold-turn generator16 _ _ _ c.fold.ensures (search rules) ∙ c.word.ensures _)
      ∙ c.loop-i.invariant.1,
)
