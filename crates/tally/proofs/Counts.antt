-- A tally that is right gives the counts that a call ends with; so answer 7 can be told before anything is written.
use mathlib.Core.Path.{◌≡◌, refl, ap, ◌∙◌}
use mathlib.Core.Bool.{true, not}
use mathlib.Core.List.{List}
use Prim.Native.Nat.{ℕ, ◌+◌, ◌/◌}
use native.Mathlib.Omega.{arith}
use lib.ListN.{length}
use Rattle.rules.specs.declared.Stamp.{Stamp}
use Rattle.details.specs.declared.Device.{Device}
use Rattle.rows.specs.Widths.{request_width}
use Rattle.rules.specs.Rows.{Row, log}
use Rattle.rules.specs.World.{World, with_context, with_shelf}
use Rattle.tally.specs.Tally.{words_in, in_log, words_for, Adds}
use Rattle.rules.specs.World.{waiting_of}
use Rattle.tally.specs.declared.add.Tally.{Tally}
use Rattle.record.specs.Room.{held_of, begun, roomy}
use Rattle.record.specs.RoomLaws.{Begun, is-begun}
use Rattle.record.specs.World.{world_of}
use Rattle.record.specs.declared.Counts.{Counts}
use Rattle.record.specs.declared.Decoder.{Decoder}
use Rattle.call.specs.Outcome.{counts_after, is_full, world_at}
use Rattle.call.specs.State.{State, held_at, room_of}
use Rattle.plan.specs.Ending.{end_played}
use Rattle.plan.specs.Packet.{played}
use Rattle.plan.specs.declared.Ending.{Ending}
use Rattle.plan.specs.declared.Plan.{Plan}
use Rattle.tally.proofs.Has.{Has}
use Rattle.tally.specs.Suited.{PlanSuits, EndingSuits}
use Rattle.tally.specs.Tallies.{tally_plan, tally_ending, add_counts, room_for}
use Rattle.tally.proofs.Counted.{adds-shelf, adds-from, played-adds, ending-adds}

abbrev counts : ℕ → ℕ → ℕ → ℕ → ℕ → ℕ → ℕ → ℕ → ℕ → ℕ → ℕ → ℕ → Counts
counts bytes devices endpoints packets events transactions groups statebytes states items links requests =
    record { bytes = bytes; devices = devices; endpoints = endpoints; packets = packets; events = events; transactions = transactions; groups = groups; statebytes = statebytes; states = states; items = items; links = links; requests = requests }

counts_ext : {bytes devices endpoints packets events transactions groups statebytes states items links requests bytes' devices' endpoints' packets' events' transactions' groups' statebytes' states' items' links' requests' : ℕ} → bytes ≡ bytes' → devices ≡ devices' → endpoints ≡ endpoints' → packets ≡ packets' → events ≡ events' → transactions ≡ transactions' → groups ≡ groups' → statebytes ≡ statebytes' → states ≡ states' → items ≡ items' → links ≡ links' → requests ≡ requests'
    → counts bytes devices endpoints packets events transactions groups statebytes states items links requests ≡ counts bytes' devices' endpoints' packets' events' transactions' groups' statebytes' states' items' links' requests'
counts_ext h1 h2 h3 h4 h5 h6 h7 h8 h9 h10 h11 h12 = rw (h1, h2, h3, h4, h5, h6, h7, h8, h9, h10, h11, h12)

module _ {n : Counts} {t : Tally} {w v : World} (h : Has n w) (a : Adds t w v) where
  -- a call's rows are all that its journal has
  words : (k : ℕ) → words_in k v.journal ≡ words_for k t
  words k = a.words k ∙ ap (λ (js : List Row). words_in k js + words_for k t) h.journal ∙ omega arith

  events : length (log 4 v.journal) / 2 ≡ t.events
  unfolding in_log
  events = let e = words 4 in omega arith

  states : length (log 8 v.journal) ≡ t.states
  unfolding in_log
  states = let e = words 8 in omega arith

  links : length (log 10 v.journal) / 4 ≡ t.links
  unfolding in_log
  links = let e = words 10 in omega arith

  requests : length (log 11 v.journal) / request_width ≡ t.requests
  unfolding in_log
  requests = let e = words 11 in omega arith

  pub counts-after : counts_after n v ≡ add_counts n t
  unfolding counts_after add_counts
  counts-after =
      counts_ext
      (a.bytes ∙ ap (λ (m : ℕ). m + t.bytes) h.bytes)
      (a.devices ∙ ap (λ (m : ℕ). m + t.devices) h.devices)
      (a.endpoints ∙ ap (λ (m : ℕ). m + t.endpoints) h.endpoints)
      (a.packets ∙ ap (λ (m : ℕ). m + t.packets) h.packets)
      (ap (λ (m : ℕ). n.events + m) events)
      (a.transactions ∙ ap (λ (m : ℕ). m + t.transactions) h.transactions)
      (a.groups ∙ ap (λ (m : ℕ). m + t.groups) h.groups)
      (a.statebytes ∙ ap (λ (m : ℕ). m + t.statebytes) h.statebytes)
      (ap (λ (m : ℕ). n.states + m) states)
      (a.items ∙ ap (λ (m : ℕ). m + t.items) h.items)
      (ap (λ (m : ℕ). n.links + m) links)
      (ap (λ (m : ℕ). n.requests + m) requests)

-- ---- the record's world

pub world_has : (d : Decoder) (devices : List Device) (table : List ℕ) → Has d.counts (world_of d devices table)
world_has d devices table = record { journal = refl; bytes = refl; devices = refl; endpoints = refl; packets = refl; transactions = refl; groups = refl; statebytes = refl; items = refl }

-- ---- numbers and places: where no first number passes its count, rows behind the counts are rows behind those that are held

module _ {table : List ℕ} {n : Counts} (b : Begun table n) (t : Tally) where
  held-add : held_of table (add_counts n t) ≡ add_counts (held_of table n) t
  unfolding add_counts
  held-add = counts_ext (omega (arith, b.bytes)) refl refl (omega (arith, b.packets)) (omega (arith, b.events)) (omega (arith, b.transactions)) (omega (arith, b.groups)) (omega (arith, b.statebytes)) (omega (arith, b.states)) (omega (arith, b.items)) (omega (arith, b.links)) refl

  begun-add : begun table (add_counts n t) ≡ true
  unfolding add_counts
  begun-add = is-begun table (add_counts n t) (record { bytes = omega (arith, b.bytes); packets = omega (arith, b.packets); events = omega (arith, b.events); transactions = omega (arith, b.transactions); groups = omega (arith, b.groups); statebytes = omega (arith, b.statebytes); states = omega (arith, b.states); items = omega (arith, b.items); links = omega (arith, b.links) })

  pub roomy-add : (room : Counts) → roomy table (add_counts n t) room ≡ room_for (held_of table n) n t room
  unfolding roomy
  roomy-add room = rw (begun-add, held-add)

pub state-full : {t : Tally} {v : World} (s : State) → Begun s.table s.decoder.counts → Adds t (world_at s) v
    → is_full s v ≡ not (room_for (held_at s) s.decoder.counts t (room_of s.logs))
unfolding is_full
state-full {t} s b a =
    ap not (ap (λ (m : Counts). roomy s.table m (room_of s.logs)) (counts-after (world_has s.decoder s.devices s.table) a) ∙ roomy-add b t (room_of s.logs))

-- answer 7 of a packet, whatever the shelf holds, and of finish
pub played-full : (p : Plan) (packet : List ℕ) (time : ℕ) (h : List ℕ) (s : State) → Begun s.table s.decoder.counts → PlanSuits p packet time (with_shelf h (world_at s))
    → is_full s (played p packet time (with_shelf h (world_at s))) ≡ not (room_for (held_at s) s.decoder.counts (tally_plan p (length packet) s.decoder.counts.endpoints (waiting_of (world_at s))) (room_of s.logs))
played-full p packet time h s b u = state-full s b (adds-shelf h (played-adds p packet time (with_shelf h (world_at s)) u))

pub ending-full : (c : Stamp) (e : Ending) (s : State) → Begun s.table s.decoder.counts → EndingSuits e (with_context c (world_at s))
    → is_full s (end_played e (with_context c (world_at s))) ≡ not (room_for (held_at s) s.decoder.counts (tally_ending e s.decoder.counts.endpoints (waiting_of (world_at s))) (room_of s.logs))
ending-full c e s b h = state-full s b (adds-from c (ending-adds e (with_context c (world_at s)) h))
