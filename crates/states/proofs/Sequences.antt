-- The state rows of every sequence of calls lie behind each other, from the first state byte to the last.
use Prim.Native.Nat.{◌≤◌}
use native.Mathlib.Omega.{arith}
use mathlib.Core.Bool.{Bool, true, false}
use mathlib.Core.List.{List, [], ◌++◌}
use mathlib.Core.Path.{◌≡◌, refl}
use Rattle.transaction.specs.Table.{pick}
use Rattle.details.specs.Details as details
use Rattle.rules.specs.Decoder.{fresh}
use Rattle.rules.specs.Demand.{Call, call}
use Rattle.rules.specs.Rows.{Row}
use Rattle.rules.specs.World.{World}
use Rattle.rules.proofs.Counted.{Counted, counts}
use Rattle.record.specs.declared.Counts.{Counts}
use Rattle.call.specs.Outcome.{counts_after, accepts, world_at}
use Rattle.call.specs.State.{State}
use Rattle.start.specs.Fresh.{made as madeState}
use Rattle.demands.specs.Sequence.{Sequence, made, then}
use Rattle.demands.proofs.Steps.{Moved, moved, stayed}
use Rattle.demands.proofs.Told.{began, counts-left}
use Rattle.states.proofs.Tiled.{Tiled, none, other, wider, behind}
use Rattle.states.proofs.Calls.{call-keeps}

abbrev pub TiledBy : List Row → Counts → Type 0
TiledBy js n = Tiled 0 n.endpoints js n.statebytes

-- a fresh decoder has no state row
fresh_tiled : Tiled 0 3 fresh.journal 0
unfolding details.fresh
fresh_tiled = other _ refl refl (other _ refl refl (other _ refl refl (other _ refl refl none)))

module _ {k : Call} {s s' : State} (m : Moved k s s') {js : List Row} (h : TiledBy js s.decoder.counts) where
  abbrev after : World
  after = call s.decoder.high k (world_at s)

  -- endpoints are added, and none is taken away
  more : s.decoder.counts.endpoints ≤ after.count
  more = let c : Counted (world_at s) after = counts (world_at s) s.decoder.high k (world_at s) (began s) in let e = c.endpoints_are in omega arith

  tiled-then : TiledBy (after.journal ++ js) s'.decoder.counts
  unfolding counts_after
  tiled-then = rw (counts-left m) (behind (wider more h) (call-keeps s.decoder.counts.statebytes s.decoder.high k (world_at s) none))

pub tiled : {js : List Row} {s : State} → Sequence js s → TiledBy js s.decoder.counts
unfolding madeState
tiled (made hv ht m) = rw (m.accepted refl) fresh_tiled
tiled (then {js} {s} k a s' q d) = by (accepts a) refl (tiled q)
  where
    by : (b : Bool) → accepts a ≡ b → TiledBy js s.decoder.counts → TiledBy (pick b (call s.decoder.high k (world_at s)).journal [] ++ js) s'.decoder.counts
    by true e h = tiled-then (moved k s a s' d e) h
    by false e h = rw (stayed k s a s' d e) h
