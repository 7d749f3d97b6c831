use Prim.Native.Nat.{ℕ, ◌+◌, ◌-◌, ◌^◌, ◌<◌, ◌≤◌}
use native.Mathlib.Omega.{arith}
use mathlib.Core.List.{List}
use mathlib.Core.Path.{◌≡◌, refl, sym, ◌∙◌}
use borrow.Author.Tests.{not-true, not-false}
use lib.ListN.{length, set}
use Rattle.rows.proofs.WidthsLaws.{each-log, log-number}
use Rattle.call.specs.State.{State, state, Logs, logs}
use Rattle.call.proofs.StateLaws.{SameSizes}
use Rattle.packet.specs.Lent.{Lent}
use Rattle.packet.proofs.Answers.{with_requests, with_parts}
use Rattle.packet.specs.After.{changed, shelved, requested}
use Rattle.packet.specs.declared.change.Change.{Change}
use Rattle.packet.proofs.Changes.{changed_by, shelved_by, requested_by, changed-none, shelved-none, requested-none}
use Rattle.step.specs.Block.{Stand, stand}
use Rattle.stream.specs.Led.{bytes_of}
use Rattle.stream.proofs.Addresses.{addressed-made}
use Rattle.stream.proofs.Finding.{IsPart, part-is}
use Rattle.stream.proofs.Staying.{eight_small}
use Rattle.stream.proofs.Streaming.{Streaming, streaming-start, streaming-ends, streaming_unfinished, streaming-ready, streaming_bounds, streaming_further, streaming-counts, streaming-short, streaming-place, streaming-owner, streaming-number, streaming-lent, streaming_stops, streaming-more}
use Rattle.stream.proofs.run_packets.Given as goal

abbrev pub invariant-loop-reader : goal.invariant-loop-reader
invariant-loop-reader l = Streaming l.reader l.ready l.records l.initial.at l.initial.clock (stand (state l.initial.decoder l.initial.devices l.initial.table (logs l.initial.bytes l.initial.device_rows l.initial.endpoint_rows l.initial.packets l.events l.initial.transactions l.initial.groups l.initial.statebytes l.initial.states l.initial.items l.initial.links l.initial.requests)) l.initial.shelf) l.taken l.eights l.at l.clock
    (stand (state l.decoder l.devices l.table (logs l.bytes l.device_rows l.endpoint_rows l.packets l.events l.transactions l.groups l.statebytes l.states l.items l.links l.requests)) l.shelf) l.addresses

abbrev pub decreases-loop-reader : goal.decreases-loop-reader
decreases-loop-reader l = length l.records - l.at
