use Rattle.std.proofs.Common.{le-leb}
use Rattle.std.proofs.lemmas.Bool.{lt-leb}
use Rattle.descriptors.specs.Entries.{is_of}
use Rattle.descriptors.proofs.walk.is_of.Goals as goal

pub returns-then-least-d : goal.returns-then-least-d
unfolding is_of
returns-then-least-d c = rw (le-leb _ _ c.if-least-d.true)

pub returns-else-least-d : goal.returns-else-least-d
unfolding is_of
returns-else-least-d c = rw (lt-leb _ _ c.if-least-d.false)
