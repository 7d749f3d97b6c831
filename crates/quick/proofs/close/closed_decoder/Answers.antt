use Rattle.std.proofs.Common.{rules}
use mathlib.Core.Path.{◌≡◌}
use Rattle.rules.specs.declared.EventState.TheVariants.{Idle}
use Rattle.rules.specs.declared.Slot.TheVariants.{Empty}
use Rattle.quick.proofs.close.closed_decoder.Goals as goal

pub returns : goal.returns
returns c = let a = c.args in
    λ i. record { counts = c.add_counts.ensures i; slot = Empty; transaction = c.tie.ensures i; last = a.h.written.last; event = Idle; keepalive = a.d.keepalive; waiting = a.tally.waiting; finished = a.d.finished; high = a.d.high; time = a.h.written.stamp.time }
