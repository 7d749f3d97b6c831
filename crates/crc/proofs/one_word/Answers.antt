use mathlib.Core.Path.{◌∙◌}
use Rattle.crc.specs.Crc.{generator16}
use Rattle.crc.specs.Fast.{four}
use Rattle.crc.proofs.Words.{fold_into}
use Rattle.crc.proofs.one_word.Goals as goal

pub returns : goal.returns
unfolding four
returns c = let second = c in
    let first = second in
    let l = first.args.l in
    fold_into generator16 _ _ _ c.fold-3.ensures
    ∙ rw (fold_into generator16 _ _ l.third second.fold-2.ensures, fold_into generator16 _ _ l.second first.fold.ensures)
