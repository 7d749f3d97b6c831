use mathlib.Core.Path.{sym, ◌∙◌}
use Rattle.start.specs.Fresh.{fresh_answer}
use Rattle.start.proofs.fresh.fresh_answer.Goals as goal

pub returns-then-too_long : goal.returns-then-too_long
unfolding fresh_answer
returns-then-too_long c = simp (sym c.too_long.ensures ∙ c.if-too_long.true)

pub returns-then-fits : goal.returns-then-fits
unfolding fresh_answer
returns-then-fits c = simp (sym c.too_long.ensures ∙ c.if-too_long.false, sym (simp c.fresh_decoder.ensures at c.fits.ensures) ∙ c.if-fits.true)

pub returns-else-fits : goal.returns-else-fits
unfolding fresh_answer
returns-else-fits c = simp (sym c.too_long.ensures ∙ c.if-too_long.false, sym (simp c.fresh_decoder.ensures at c.fits.ensures) ∙ c.if-fits.false)
