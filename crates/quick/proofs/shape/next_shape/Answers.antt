use Rattle.std.proofs.Common.{rules, inl, inr}
use Rattle.quick.proofs.shape.next_shape.Goals as goal

pub returns-in-New : goal.returns-in-New
returns-in-New c = elim c.in-New.is [ inl e ↦ simp e c.no_shape.ensures | inr e ↦ simp e c.no_shape.ensures ]

pub returns-in-Continue : goal.returns-in-Continue
returns-in-Continue c = simp c.in-Continue.is (rw (c.decide_early_append-append.ensures, c.load-e.ensures) at c.begin_shape.ensures)

pub returns-in-Retry : goal.returns-in-Retry
returns-in-Retry c = elim c.in-Retry.is [ inl e ↦ simp e c.close_shape.ensures | inr e ↦ simp e c.close_shape.ensures ]

pub returns-in-Fail : goal.returns-in-Fail
returns-in-Fail c = simp c.in-Fail.is c.close_shape-in-Fail.ensures

pub returns-in-Ambiguous : goal.returns-in-Ambiguous
returns-in-Ambiguous c = simp c.in-Ambiguous.is c.begin_shape-in-Ambiguous.ensures
