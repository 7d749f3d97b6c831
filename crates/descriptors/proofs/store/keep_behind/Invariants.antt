use Rattle.std.specs.Prelude.{◌-◌, length, drop}
use Rattle.descriptors.specs.Entries.{unset, entries_in}
use Rattle.descriptors.specs.Whole.{whole}
use Rattle.descriptors.proofs.StepLaws.{Left}
use Rattle.descriptors.proofs.store.keep_behind.Given as goal

abbrev pub invariant-loop-step : goal.invariant-loop-step
invariant-loop-step l = Left l.base l.kept (entries_in l.value unset (whole (drop l.from l.payload))) (entries_in l.value l.setting (whole (drop l.at l.payload))) l.initial.store l.store l.n

abbrev pub decreases-loop-step : goal.decreases-loop-step
decreases-loop-step l = length l.payload - l.at
