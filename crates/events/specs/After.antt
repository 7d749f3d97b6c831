-- Inner (cited by private contracts alone): what the two calls leave, as the code puts it together: the sum and the record.
use Rattle.std.specs.Prelude.{ℕ, Bool, true, false, not, ◌&&◌, ◌≡◌, List, eqb, Option, Some, None}
use Rattle.endpoints.specs.Each.{active}
use Rattle.details.specs.declared.Device.{Device}
use Rattle.rules.specs.Decoder.{suspend_at}
use Rattle.rules.specs.Events.{Act, Turn, turn_of}
use Rattle.rules.specs.declared.Slot.{Slot}
use Rattle.tally.specs.declared.add.Tally.{Tally}
use Rattle.write.specs.declared.Written.{Written}
use Rattle.record.specs.Room.{held_of}
use Rattle.record.specs.declared.Counts.{Counts}
use Rattle.record.specs.World.{world_of}
use Rattle.record.specs.declared.Decoder.{Decoder}
use Rattle.event.specs.Event.{told}
use Rattle.write_event.proofs.ActedLaws.{keepalive_after}
use Rattle.plan.specs.Ending.{slot_ended, ending_of}
use Rattle.plan.specs.declared.Ending.{Ending}
use Rattle.tally.specs.Tallies.{tally_keepalive, tally_event, add_counts, room_for}
use Rattle.call.specs.Share.{tied}
use Rattle.events.specs.declared.decided.Decided.{Decided}
use Rattle.events.specs.declared.sum.Sum.{Sum}

-- n with the rows of t, where there is room
abbrev pub sum_then : Counts → Tally → Sum
sum_then n t = record { counts = add_counts n t; waiting = t.waiting }

abbrev pub sum_by : Bool → Counts → Tally → Option Sum
sum_by true n t = Some (sum_then n t)
sum_by false n t = None

-- with the rows of t behind the rows held, where n are numbered
unfoldable pub sum_of : Counts → Counts → Tally → Counts → Option Sum
sum_of held n t room = sum_by (room_for held n t room) n t

abbrev pub finished_decoder : Decoder → Sum → Written → Decoder
finished_decoder d s h =
    record { counts = s.counts; slot = slot_ended d.slot; transaction = tied d.transaction h; last = h.last; event = d.event; keepalive = d.keepalive; waiting = s.waiting; finished = true; high = d.high; time = h.stamp.time }

-- ---- an event

-- any kind but a keepalive resets: the transaction and every active group end
abbrev pub resets_by : ℕ → Bool
resets_by kind = not (eqb kind 0)

abbrev pub slot_after : Bool → Slot → Slot
slot_after true s = slot_ended s
slot_after false s = suspend_at s

-- the keepalive group before the event's own rows
abbrev pub keepalive_then : Bool → Bool → Bool
keepalive_then resets k = k && not resets

-- the rows of an event that does a, with k groups active before it
unfoldable pub event_tally : Bool → Decoder → Ending → Act → ℕ → Tally
event_tally true d e a k = tally_event e a d.counts.endpoints d.waiting k
event_tally false d e a k = tally_keepalive a d.keepalive d.counts.endpoints d.waiting

pub record Decides (d : Decoder) (v : List Device) (t : List ℕ) (kind : ℕ) (room : Counts) (r : Decided) : Type 0 where
  pub resets : r.resets ≡ resets_by kind
  pub end : r.end ≡ ending_of (world_of d v t)
  pub turn : told r.turn ≡ turn_of d.event kind
  pub sum : r.sum ≡ sum_of (held_of t d.counts) d.counts (event_tally (resets_by kind) d (ending_of (world_of d v t)) (turn_of d.event kind).act (active t d.counts.endpoints)) room

abbrev pub event_decoder : Decoder → Bool → Turn → Sum → Written → Decoder
event_decoder d resets t s h =
    record { counts = s.counts; slot = slot_after resets d.slot; transaction = tied d.transaction h; last = h.last; event = t.next; keepalive = keepalive_after t.act (keepalive_then resets d.keepalive); waiting = s.waiting; finished = d.finished; high = d.high; time = h.stamp.time }
