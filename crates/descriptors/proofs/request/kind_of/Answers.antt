use mathlib.Core.Path.{sym, ◌∙◌}
use Rattle.descriptors.specs.Kind.{kind_by, kind_of}
use Rattle.descriptors.proofs.request.kind_of.Goals as goal

pub returns-then-is_read : goal.returns-then-is_read
unfolding kind_by kind_of
returns-then-is_read c = let e0 = sym c.is_read.ensures ∙ c.if-is_read.true in rw e0

pub returns-then-is_read-2 : goal.returns-then-is_read-2
unfolding kind_by kind_of
returns-then-is_read-2 c = let e0 = sym c.is_read.ensures ∙ c.if-is_read.false in let e1 = sym c.is_read-else-is_read.ensures ∙ c.if-is_read-2.true in rw (e0, e1)

pub returns-then-is_set_configuration : goal.returns-then-is_set_configuration
unfolding kind_by kind_of
returns-then-is_set_configuration c = let e0 = sym c.is_read.ensures ∙ c.if-is_read.false in let e1 = sym c.is_read-else-is_read.ensures ∙ c.if-is_read-2.false in let e2 = sym c.is_set_configuration.ensures ∙ c.if-is_set_configuration.true in rw (e0, e1, e2)

pub returns-then-is_set_interface : goal.returns-then-is_set_interface
unfolding kind_by kind_of
returns-then-is_set_interface c = let e0 = sym c.is_read.ensures ∙ c.if-is_read.false in let e1 = sym c.is_read-else-is_read.ensures ∙ c.if-is_read-2.false in let e2 = sym c.is_set_configuration.ensures ∙ c.if-is_set_configuration.false in let e3 = sym c.is_set_interface.ensures ∙ c.if-is_set_interface.true in rw (e0, e1, e2, e3)

pub returns-else-is_set_interface : goal.returns-else-is_set_interface
unfolding kind_by kind_of
returns-else-is_set_interface c = let e0 = sym c.is_read.ensures ∙ c.if-is_read.false in let e1 = sym c.is_read-else-is_read.ensures ∙ c.if-is_read-2.false in let e2 = sym c.is_set_configuration.ensures ∙ c.if-is_set_configuration.false in let e3 = sym c.is_set_interface.ensures ∙ c.if-is_set_interface.false in rw (e0, e1, e2, e3)
