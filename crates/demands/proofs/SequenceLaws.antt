-- Laws (proved): what a sequence covers: a call that is refused is one of it, and leaves its history and its state as they were.
use Rattle.std.specs.Prelude.{ℕ, ◌≡◌, false, List}
use Rattle.rules.specs.Demand.{Call}
use Rattle.rules.specs.Rows.{Row}
use Rattle.call.specs.Outcome.{accepts}
use Rattle.call.specs.State.{State}
use Rattle.demands.specs.Sequence.{Does, Sequence, then}

pub refused-stays : {js : List Row} {s : State} (k : Call) (a : ℕ) (s' : State) → Sequence js s → Does k s a s' → accepts a ≡ false → Sequence js s'
refused-stays k a s' q d r = rw r at (then k a s' q d)
