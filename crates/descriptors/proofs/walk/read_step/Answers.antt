use Rattle.std.proofs.Common.{arith}
use Rattle.descriptors.proofs.EntriesLaws.{inside_at}
use Rattle.descriptors.proofs.StepLaws.{step-none, step-one}
use Rattle.descriptors.proofs.walk.read_step.Goals as goal

pub returns-in_err-len : goal.returns-in_err-len
returns-in_err-len c = let a = c.args in rw c.from_residual.ensures (step-none a.payload.now a.at a.s c.in_err-len.ensures)

pub overflow_add-end : goal.overflow_add-end
overflow_add-end c = let a = c.args in let i = inside_at a.payload.now a.at c.in_ok-len.ensures in omega (arith, i.there)

pub slice_bounds-d-end : goal.slice_bounds-d-end
slice_bounds-d-end c = let a = c.args in let i = inside_at a.payload.now a.at c.in_ok-len.ensures in omega (arith, i.there)

pub returns : goal.returns
returns c = let a = c.args in step-one a.payload.now a.at a.s c.in_ok-len.ensures _ _ c.gives_entry.ensures c.setting_after.ensures
