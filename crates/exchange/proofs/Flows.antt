-- What is exported of the logs that a sequence of calls leaves: the packets that the calls brought, and all events are left behind.
use Prim.Native.Nat.{ℕ, suc, ◌+◌, ◌*◌, ◌/◌, ◌≤◌, min}
use native.Mathlib.Omega.{arith}
use mathlib.Core.Bool.{Bool, true, false}
use mathlib.Core.List.{List, [], ◌∷◌, ◌++◌, append-nil}
use mathlib.Core.Path.{◌≡◌, refl, sym, ap, subst, ◌∙◌}
use lib.ListN.{length, take, get_or, length-take}
use lib.Seq.{get_or-take}
use Rattle.transaction.specs.Table.{pick}
use Rattle.details.specs.Details as details
use Rattle.details.specs.declared.Device.{Device}
use Rattle.rows.proofs.WidthsLaws.{log-number}
use Rattle.rules.specs.Decoder.{fresh}
use Rattle.rules.specs.Demand.{Call, packet, event, detail, finishing, call}
use Rattle.rules.specs.Rows.{Row, log}
use Rattle.rules.proofs.Counted.{log-behind}
use Rattle.rules.proofs.Demand.{Sound}
use Rattle.record.specs.declared.Counts.{Counts}
use Rattle.reading.proofs.PacketsLaws.{Laid}
use Rattle.pcap.specs.File.{Item}
use Rattle.pcap.specs.Export.{Source, lent, source_of, items_from, taken_from, items_of}
use Rattle.pcap.proofs.ExportLaws.{source-whole}
use Rattle.call.specs.Outcome.{counts_after, accepts, world_at}
use Rattle.call.proofs.OutcomeLaws.{sound}
use Rattle.call.specs.State.{Logs, State, room_by}
use Rattle.start.specs.Fresh as start
use Rattle.demands.specs.Sequence.{Sequence, made, then}
use Rattle.demands.proofs.Kept.{kept}
use Rattle.demands.proofs.Meets.{meets}
use Rattle.demands.proofs.Steps.{Moved, moved, stayed}
use Rattle.demands.proofs.Told.{counts-left}
use Rattle.ledger.specs.Ledger.{Ledger}
use Rattle.once.specs.OnceLaws.{bytes_by}
use Rattle.once.proofs.Keeps.{Keeps, keeps, rows_left, data-left, number-left}
use Rattle.once.proofs.Logged.{row_by, event_by, events_are}
use Rattle.export.specs.Record.{source_in}
use Rattle.exchange.specs.Exchange.{item_by, packets_of, LeftBehind}
use Rattle.exchange.proofs.Grows.{Flow, flow-packet, flow-event, cut-rows}

-- ---- a call

module _ (n m : ℕ) (bytes rows marks : List ℕ) (xs : List Item) (h : Laid n rows bytes) (f : Flow n m bytes rows marks xs) where
  still : (n' m' : ℕ) → n' ≡ n → m' ≡ m → Flow n' m' (bytes ++ []) (rows ++ []) (marks ++ []) (xs ++ [])
  still n' m' e d = rw (e, d, append-nil bytes, append-nil rows, append-nil marks, append-nil xs) f

  flow_by : (k : Call) (n' m' : ℕ) → n' * 2 ≡ n * 2 + length (row_by k (length bytes)) → m' ≡ m + length (event_by k n) / 2
      → Flow n' m' (bytes ++ bytes_by k) (rows ++ row_by k (length bytes)) (marks ++ event_by k n) (xs ++ item_by k)
  flow_by (packet p time shelf) n' m' q z =
      let e : n' ≡ suc n = omega arith in
      let d : m' ≡ m = omega arith in
      rw (e, d, append-nil marks) (flow-packet n m bytes rows marks xs h f p time)
  flow_by (event kind code time) n' m' q z =
      let e : n' ≡ suc n = omega arith in
      let d : m' ≡ suc m = omega arith in
      rw (e, d)
      (subst (λ (ys : List Item). Flow (suc n) (suc m) (bytes ++ []) (rows ++ (length bytes ∷ time ∷ [])) (marks ++ (n ∷ code ∷ [])) ys) (sym (append-nil xs)) (flow-event n m bytes rows marks xs h f code time))
  flow_by (detail address number direction kind max) n' m' q z = still n' m' (omega arith) (omega arith)
  flow_by finishing n' m' q z = still n' m' (omega arith) (omega arith)

module _ {k : Call} {s s' : State} (m : Moved k s s') {js : List Row} {l : Ledger} (r : Sound js (world_at s)) (h : Keeps js s l) where
  marks-left : log 4 ((call s.decoder.high k (world_at s)).journal ++ js) ≡ log 4 js ++ event_by k s.decoder.counts.packets
  marks-left = log-behind 4 (call s.decoder.high k (world_at s)).journal js ∙ ap (λ (z : List ℕ). log 4 js ++ z) (events_are s.decoder.high k (world_at s) refl)

  events-left : s'.decoder.counts.events ≡ s.decoder.counts.events + length (event_by k s.decoder.counts.packets) / 2
  unfolding counts_after
  events-left = ap (λ (c : Counts). c.events) (counts-left m) ∙ ap (λ (z : List ℕ). s.decoder.counts.events + length z / 2) (events_are s.decoder.high k (world_at s) refl)

  flow-then : {xs : List Item} → Flow s.decoder.counts.packets s.decoder.counts.events (log 0 js) (log 3 js) (log 4 js) xs
      → Flow s'.decoder.counts.packets s'.decoder.counts.events (log 0 ((call s.decoder.high k (world_at s)).journal ++ js)) (log 3 ((call s.decoder.high k (world_at s)).journal ++ js)) (log 4 ((call s.decoder.high k (world_at s)).journal ++ js)) (xs ++ item_by k)
  flow-then {xs} f =
      rw (data-left m r h, rows_left m r h, marks-left)
      (flow_by s.decoder.counts.packets s.decoder.counts.events (log 0 js) (log 3 js) (log 4 js) xs h.packed.laid f k s'.decoder.counts.packets s'.decoder.counts.events (number-left m r h) events-left)

-- ---- a fresh decoder

flow-made : (high : Bool) (v : List Device) (t : List ℕ) (l : Logs)
    → Flow (start.made high v t l).decoder.counts.packets (start.made high v t l).decoder.counts.events (log 0 fresh.journal) (log 3 fresh.journal) (log 4 fresh.journal) []
unfolding start.made details.fresh items_from taken_from
flow-made high v t l = record { items = refl; taken = refl; size = refl }

-- ---- so every sequence does

pub flows : {js : List Row} {s : State} (q : Sequence js s) → Flow s.decoder.counts.packets s.decoder.counts.events (log 0 js) (log 3 js) (log 4 js) (packets_of q)
flows (made {high} {v} {t} {l} hv ht m) =
    subst (λ (z : State). Flow z.decoder.counts.packets z.decoder.counts.events (log 0 fresh.journal) (log 3 fresh.journal) (log 4 fresh.journal) []) (sym (m.accepted refl)) (flow-made high v t l)
flows (then {js} {s} k a s' q d) = by (accepts a) refl (flows q)
  where
    by : (b : Bool) → accepts a ≡ b → Flow s.decoder.counts.packets s.decoder.counts.events (log 0 js) (log 3 js) (log 4 js) (packets_of q)
        → Flow s'.decoder.counts.packets s'.decoder.counts.events (log 0 (pick b (call s.decoder.high k (world_at s)).journal [] ++ js)) (log 3 (pick b (call s.decoder.high k (world_at s)).journal [] ++ js)) (log 4 (pick b (call s.decoder.high k (world_at s)).journal [] ++ js)) (packets_of q ++ pick b (item_by k) [])
    by true e f = flow-then (moved k s a s' d e) (kept q).rules (keeps q) f
    by false e f =
        subst (λ (z : State). Flow z.decoder.counts.packets z.decoder.counts.events (log 0 js) (log 3 js) (log 4 js) (packets_of q ++ [])) (sym (stayed k s a s' d e))
        (subst (λ (xs : List Item). Flow s.decoder.counts.packets s.decoder.counts.events (log 0 js) (log 3 js) (log 4 js) xs) (sym (append-nil (packets_of q))) f)

-- ---- in the logs themselves

module _ {js : List Row} {s : State} (q : Sequence js s) where
  abbrev counts : Counts
  counts = s.decoder.counts

  bytes-told : take counts.bytes s.logs.bytes ≡ log 0 js
  bytes-told = let e : counts.bytes ≡ counts.bytes * 1 = omega arith in ap (λ (n : ℕ). take n s.logs.bytes) e ∙ (kept q).told 0 (log-number 0 refl)

  rows_told : take (counts.packets * 2) s.logs.packets ≡ log 3 js
  rows_told = (kept q).told 3 (log-number 3 refl)

  marks-told : take (counts.events * 2) s.logs.events ≡ log 4 js
  marks-told = (kept q).told 4 (log-number 4 refl)

  bytes_in : counts.bytes ≤ length s.logs.bytes
  bytes_in = omega (arith, ap length bytes-told, length-take counts.bytes s.logs.bytes, (keeps q).bytes)

  rows_in : counts.packets * 2 ≤ length s.logs.packets
  rows_in = omega (arith, ap length rows_told, length-take (counts.packets * 2) s.logs.packets, (keeps q).packed.laid.size)

  marks_in : counts.events * 2 ≤ length s.logs.events
  marks_in = omega (arith, ap length marks-told, length-take (counts.events * 2) s.logs.events, (flows q).size)

  -- its counts are within the logs, and these within 01's sizes
  source_is : source_in s ≡ lent (log 0 js) counts.packets s.logs.packets counts.events s.logs.events
  unfolding room_by
  source_is =
      let w = (sound s (meets q).well).1 in
      source-whole counts.bytes s.logs.bytes counts.packets s.logs.packets counts.events s.logs.events
      bytes_in (omega (arith, bytes_in, w.bytes)) rows_in (omega (arith, rows_in, w.packets)) marks_in (omega (arith, marks_in, w.events))
      ∙ ap (λ (b : List ℕ). lent b counts.packets s.logs.packets counts.events s.logs.events) bytes-told

  told-rows : (items_from (lent (log 0 js) counts.packets s.logs.packets counts.events s.logs.events) counts.packets 0 0 ≡ packets_of q)
      × (taken_from (lent (log 0 js) counts.packets s.logs.packets counts.events s.logs.events) counts.packets 0 0 ≡ counts.events)
  told-rows =
      let c = cut-rows counts.packets counts.events (log 0 js) s.logs.packets s.logs.events (log 3 js) (log 4 js)
      (λ i h. sym (get_or-take (counts.packets * 2) s.logs.packets i 0 h) ∙ ap (λ (l : List ℕ). get_or l i 0) rows_told)
      (λ i h. sym (get_or-take (counts.events * 2) s.logs.events i 0 h) ∙ ap (λ (l : List ℕ). get_or l i 0) marks-told)
      in
      (c.0 ∙ (flows q).items, c.1 ∙ (flows q).taken)

  pub exported : items_of (source_in s) ≡ packets_of q
  exported = ap items_of source_is ∙ told-rows.0

  pub left_behind : LeftBehind s
  left_behind = ap (λ (l : Source). taken_from l l.rows 0 0) source_is ∙ told-rows.1
