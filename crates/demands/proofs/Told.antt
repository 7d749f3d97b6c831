-- The logs hold the history: of a fresh decoder, and after each call.
use mathlib.Core.Bool.{Bool}
use Prim.Native.Nat.{ℕ, ◌+◌, ◌<◌, ◌≤◌}
use native.Mathlib.Omega.{arith}
use mathlib.Core.Path.{◌≡◌, refl, sym, ap, subst, ◌∙◌}
use mathlib.Core.List.{List, [], ◌++◌}
use lib.ListN.{length, take, drop, length-append}
use lib.Seq.{sets, sets-eq, length-take-le, take_at}
use Rattle.rows.specs.Widths.{place}
use Rattle.rows.proofs.WidthsLaws.{each-log, log-number}
use Rattle.details.specs.Details as details
use Rattle.details.specs.declared.Device.{Device}
use Rattle.rules.specs.Decoder.{fresh}
use Rattle.rules.specs.Demand.{Call, call}
use Rattle.rules.specs.Rows.{Row, log}
use Rattle.rules.proofs.Counted.{Counted, counts, log-words, log-behind, log-rows}
use Rattle.endpoints.specs.Table.{first_at}
use Rattle.record.specs.Fresh.{counts_of}
use Rattle.record.specs.RoomLaws.{Within, within, all_held}
use Rattle.record.specs.declared.Counts.{Counts}
use Rattle.record.specs.declared.Decoder.{Decoder}
use Rattle.call.specs.Outcome.{counts_after, decoder_of, world_at}
use Rattle.call.specs.State.{Logs, State, log_at, count_at, room_of}
use Rattle.call.proofs.StateLaws.{within-logs}
use Rattle.start.specs.Fresh.{made, Makes}
use Rattle.start.proofs.FreshLaws.{fitted}
use Rattle.demands.specs.Sequence.{Told}
use Rattle.demands.proofs.Steps.{Moved}

-- ---- one log: rows behind those that stood there

grown : (l l' : List ℕ) (n m : ℕ) (old new : List ℕ) → take n l ≡ old → l' ≡ sets l n new → m ≡ n + length new → m ≤ length l → take m l' ≡ old ++ new
grown l l' n m old new e p q h = rw (p, q) (ap (take (n + length new)) whole ∙ (take_at (take n l ++ new) rest (n + length new) size ∙ ap (λ (x : List ℕ). x ++ new) e))
  where
    rest : List ℕ
    rest = drop (n + length new) l

    whole : sets l n new ≡ (take n l ++ new) ++ rest
    whole = sets-eq new l n (omega arith)

    size : length (take n l ++ new) ≡ n + length new
    size = length-append (take n l) new ∙ ap (λ (x : ℕ). x + length new) (length-take-le n l (omega arith))

-- the same, as a log of the history
behind : (k : ℕ) (js base : List Row) (l l' : List ℕ) (n m : ℕ) → take n l ≡ log k base → l' ≡ sets l n (log k js) → m ≡ n + length (log k js) → m ≤ length l → take m l' ≡ log k (js ++ base)
behind k js base l l' n m e p q h = grown l l' n m (log k base) (log k js) e p q h ∙ sym (log-behind k js base)

-- ---- the counts after a call are those before it and its rows

abbrev Filled : Counts → Counts → List Row → Type 0
Filled n m js = (k : ℕ) → k < 12 → place k (count_at k m) ≡ place k (count_at k n) + length (log k js)

pub began : (s : State) → Counted (world_at s) (world_at s)
began s = record { bytes_are = omega arith; devices_are = omega arith; endpoints_are = omega arith; packets_are = omega arith; transactions_are = omega arith; groups_are = omega arith; marks_are = omega arith; items_are = omega arith }

filled : (k : Call) (s : State) → Filled s.decoder.counts (counts_after s.decoder.counts (call s.decoder.high k (world_at s))) (call s.decoder.high k (world_at s)).journal
unfolding counts_after
filled k s =
    let c : Counted (world_at s) (call s.decoder.high k (world_at s)) = counts (world_at s) s.decoder.high k (world_at s) (began s) in
    let js = (call s.decoder.high k (world_at s)).journal in
    each-log _
    (omega (arith, log-words 0 js, c.bytes_are))
    (omega (arith, log-words 1 js, c.devices_are))
    (omega (arith, log-words 2 js, c.endpoints_are))
    (omega (arith, log-words 3 js, c.packets_are))
    (omega (arith, log-rows 4 (λ z. omega arith) (λ z. omega arith) js))
    (omega (arith, log-words 5 js, c.transactions_are))
    (omega (arith, log-words 6 js, c.groups_are))
    (omega (arith, log-words 7 js, c.marks_are))
    (omega arith)
    (omega (arith, log-words 9 js, c.items_are))
    (omega (arith, log-rows 10 (λ z. omega arith) (λ z. omega arith) js))
    (omega (arith, log-rows 11 (λ z. omega arith) (λ z. omega arith) js))

-- ---- after an accepted call

module _ {k : Call} {s s' : State} (m : Moved k s s') where
  pub counts-left : s'.decoder.counts ≡ counts_after s.decoder.counts (call s.decoder.high k (world_at s))
  unfolding decoder_of
  counts-left = ap (λ (d : Decoder). d.counts) m.left.decoder

  -- where every log begins at 0, a row's number is its place
  pub told-then : (js : List Row) → ((i : ℕ) → first_at i s.table ≡ 0) → Told js s → Told ((call s.decoder.high k (world_at s)).journal ++ js) s'
  told-then js z t i h =
      let j = (call s.decoder.high k (world_at s)).journal in
      let e = all_held s.table s.decoder.counts z in
      let l = subst (λ (n : Counts). log_at i s'.logs ≡ sets (log_at i s.logs) (place i (count_at i n)) (log i j)) e (m.left.logs i h) in
      let w = subst (λ (n : Counts). Within n (room_of s.logs)) (all_held s.table (counts_after s.decoder.counts (call s.decoder.high k (world_at s))) z) m.room.held in
      let f : Filled s.decoder.counts s'.decoder.counts j = subst (λ (n : Counts). Filled s.decoder.counts n j) (sym counts-left) (filled k s) in
      let r : Within s'.decoder.counts (room_of s.logs) = rw counts-left w in
      behind i j js (log_at i s.logs) (log_at i s'.logs) (place i (count_at i s.decoder.counts)) (place i (count_at i s'.decoder.counts)) (t i h) l (f i h)
      (within-logs s'.decoder.counts s.logs r i h)

-- ---- of a fresh decoder

first-told : (high : Bool) (v : List Device) (t : List ℕ) (l : Logs) → Within (counts_of 1 3) (room_of l) → Told fresh.journal (made high v t l)
unfolding made details.fresh
first-told high v t l r =
    let fits = within-logs (counts_of 1 3) l r in
    each-log _ refl (grown l.devices _ 0 1 [] (log 1 fresh.journal) refl refl refl (fits 1 (log-number 1 refl)))
    (grown l.endpoints _ 0 9 [] (log 2 fresh.journal) refl refl refl (fits 2 (log-number 2 refl)))
    refl refl refl refl refl refl refl refl refl

pub told-made : {high : Bool} {v : List Device} {t : List ℕ} {l : Logs} {s : State} → Makes high v t l 0 s → Told fresh.journal s
told-made {high} {v} {t} {l} m = subst (Told fresh.journal) (sym (m.accepted refl)) (first-told high v t l (within _ _ (fitted (room_of l) (sym m.answer)).1))
