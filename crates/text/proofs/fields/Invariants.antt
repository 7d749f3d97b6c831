use lib.ListN.{drop}
use Rattle.text.specs.Lines as lines
use Rattle.text.proofs.Appends.{Left}
use Rattle.text.proofs.fields.Given as goal

abbrev pub invariant-loop-n : goal.invariant-loop-n
invariant-loop-n l = Left l.initial.out l.at (lines.fields l.ns) l.out l.next (lines.fields (drop l.n-index l.ns))
