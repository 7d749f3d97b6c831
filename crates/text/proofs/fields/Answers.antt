-- Assumes nothing.
use Rattle.std.proofs.Common.{◌≡◌, ◌∷◌, ◌+◌, arith, length, get_or, drop}
use lib.Seq.{drop-length}
use Rattle.text.specs.Words.{space}
use Rattle.text.specs.Numbers.{decimal}
use Rattle.text.specs.Lines as lines
use Rattle.text.proofs.Appends.{room, step, done}
use Rattle.text.proofs.Steps.{next_field}
use Rattle.text.proofs.fields.Goals as goal

pub field-next-requires : goal.field-next-requires
field-next-requires c = let ns = c.args.ns.now in let i = c.loop-n.n-index in room (space ∷ decimal (get_or ns i 0)) (lines.fields (drop (i + 1) ns)) c.loop-n.invariant (next_field ns i c.loop-n-test.true) c.requires

pub loop-n-preserved : goal.loop-n-preserved
loop-n-preserved c = let ns = c.args.ns.now in let i = c.loop-n.n-index in step (space ∷ decimal (get_or ns i 0)) (lines.fields (drop (i + 1) ns)) c.loop-n.invariant (next_field ns i c.loop-n-test.true) c.field-next.ensures

pub returns : goal.returns
unfolding lines.fields
returns c = let e : c.loop-n.n-index ≡ length c.args.ns.now = omega arith in done (rw (e, drop-length) at c.loop-n.invariant)
