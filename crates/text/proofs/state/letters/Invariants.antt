use mathlib.Core.List.{map}
use lib.ListN.{drop}
use Rattle.text.specs.Numbers.{letter}
use Rattle.text.proofs.Appends.{Left}
use Rattle.text.proofs.state.letters.Given as goal

abbrev pub invariant-loop-state : goal.invariant-loop-state
invariant-loop-state l = Left l.initial.out l.at (map letter l.states) l.out l.next (map letter (drop l.state-index l.states))
