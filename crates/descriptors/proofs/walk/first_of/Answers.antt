use Rattle.std.proofs.Common.{arith, sym, ◌∙◌, length-take-le}
use Rattle.descriptors.proofs.EntriesLaws.{inside_at, of-long}
use Rattle.descriptors.proofs.StepLaws.{first-none, first_taken, first-other}
use Rattle.descriptors.proofs.walk.first_of.Goals as goal

pub returns-in_err-len : goal.returns-in_err-len
returns-in_err-len c = let a = c.args in rw c.from_residual.ensures (first-none a.payload.now c.in_err-len.ensures a.kind a.least a.place)

pub slice_bounds-d-end : goal.slice_bounds-d-end
slice_bounds-d-end c = let a = c.args in let i = inside_at a.payload.now 0 c.in_ok-len.ensures in sym (length-take-le _ a.payload.now (omega (arith, i.there)))

pub bounds-d-place : goal.bounds-d-place
bounds-d-place c = let a = c.args in omega (arith, of-long a.kind a.least _ (sym c.is_of.ensures ∙ c.if-is_of.true))

pub returns-then-is_of : goal.returns-then-is_of
returns-then-is_of c = let a = c.args in first_taken a.payload.now c.in_ok-len.ensures a.kind a.least a.place (sym c.is_of.ensures ∙ c.if-is_of.true)

pub returns-else-is_of : goal.returns-else-is_of
returns-else-is_of c = let a = c.args in first-other a.payload.now c.in_ok-len.ensures a.kind a.least a.place (sym c.is_of.ensures ∙ c.if-is_of.false)
