use mathlib.Core.Path.{sym, ◌∙◌}
use borrow.Author.Tests.{eqb-true, eqb-false}
use Rattle.std.proofs.lemmas.Result.{err_from_is_err_and}
use Rattle.usb.proofs.First.{none, some}
use Rattle.usb.proofs.check.Goals as goal

pub returns-then-is_empty : goal.returns-then-is_empty
returns-then-is_empty c = none _ (eqb-true _ _ (sym c.if-is_empty.ensures))

pub returns-in_err-check_format : goal.returns-in_err-check_format
returns-in_err-check_format c =
    let p = err_from_is_err_and c.from_residual.result c.from_residual.ensures.1 in
    rw (p.1, p.2) (sym (some _ (eqb-false _ _ (sym c.if-is_empty.ensures)) ∙ simp (← c.format_of.ensures, ← c.check_format.ensures, c.in_err-check_format.was)))

pub returns : goal.returns
returns c = sym (some _ (eqb-false _ _ (sym c.if-is_empty.ensures)) ∙ simp (← c.format_of.ensures, ← c.check_format.ensures, c.in_ok-check_format.was))
