use Rattle.std.proofs.Common.{arith, sym, ◌∙◌, ap, true, false, not}
use borrow.Author.Tests.{eq-eqb, ne_eqb}
use Rattle.descriptors.proofs.ForgetLaws.{passed-turn, passed-end}
use Rattle.descriptors.proofs.store.forget.Goals as goal
use Rattle.descriptors.proofs.store.forget.Goals.{then-store-from, else-store-from}

pub loop-i-preserved : goal.loop-i-preserved
loop-i-preserved c =
    let p = c.loop-i.invariant in
    elim c.if-store-from.branch [
      | then-store-from w ↦ passed-turn p c.loop-i-test.true (omega (arith, p.same)) true _ _ (sym (ap not (ne_eqb _ _ w.if-store-from.true))) (w.store-is ∙ w.move_entry.ensures) (omega (arith, w.n-is))
      | else-store-from w ↦ passed-turn p c.loop-i-test.true (omega (arith, p.same)) false _ _ (sym (ap not (eq-eqb _ _ w.if-store-from.false))) w.store-is (omega (arith, w.n-is))
    ]

pub returns : goal.returns
returns c = passed-end c.loop-i.invariant c.loop-i-test.false
