use Prim.Native.Nat.{◌-◌}
use lib.ListN.{length}
use Rattle.call.specs.State.{state, logs}
use Rattle.step.specs.Block.{stand}
use Rattle.import.proofs.Importing.{Importing}
use Rattle.import.proofs.import_from.Given as goal

abbrev pub invariant-loop-run : goal.invariant-loop-run
invariant-loop-run l = Importing l.f l.ready l.file l.initial.run.place (stand (state l.initial.run.decoder l.initial.run.devices l.initial.table (logs l.initial.bytes l.initial.device_rows l.initial.endpoint_rows l.initial.packets l.events l.initial.transactions l.initial.groups l.initial.statebytes l.initial.states l.initial.items l.initial.links l.initial.requests)) l.initial.shelf) l.run l.table (logs l.bytes l.device_rows l.endpoint_rows l.packets l.events l.transactions l.groups l.statebytes l.states l.items l.links l.requests) l.shelf

abbrev pub decreases-loop-run : goal.decreases-loop-run
decreases-loop-run l = length l.file - l.run.place
