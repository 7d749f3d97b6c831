use mathlib.Core.Path.{sym, ◌∙◌}
use native.Mathlib.Omega.{arith}
use Rattle.descriptors.specs.Entries.{setting_after}
use Rattle.descriptors.proofs.EntriesLaws.{of-long}
use Rattle.descriptors.proofs.walk.setting_after.Goals as goal

pub bounds-d-2 : goal.bounds-d-2
bounds-d-2 c = let h = of-long 4 9 c.args.d.now (sym c.is_of.ensures ∙ c.if-is_of.true) in omega arith

pub bounds-d-3 : goal.bounds-d-3
bounds-d-3 c = let h = of-long 4 9 c.args.d.now (sym c.is_of.ensures ∙ c.if-is_of.true) in omega arith

pub returns-then-is_of : goal.returns-then-is_of
unfolding setting_after
returns-then-is_of c = let e = sym c.is_of.ensures ∙ c.if-is_of.true in rw e

pub returns-else-is_of : goal.returns-else-is_of
unfolding setting_after
returns-else-is_of c = let e = sym c.is_of.ensures ∙ c.if-is_of.false in rw e
