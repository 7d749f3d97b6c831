-- Laws (proved): logs and counts by the log's number: what is so of every log, said of them all.
use Rattle.std.specs.Prelude.{ℕ, ◌*◌, ◌<◌, ◌≤◌, List, ◌≡◌, refl, length}
use Rattle.std.proofs.Common.{arith, ap}
use Rattle.std.proofs.lemmas.List.Edits.{sets}
use Rattle.rows.specs.Widths.{place}
use Rattle.rows.proofs.WidthsLaws.{each-log, log-number}
use Rattle.record.specs.RoomLaws.{Within}
use Rattle.record.specs.declared.Counts.{Counts}
use Rattle.call.specs.State.{Logs, logs, log_at, count_at, room_by, room_of}

-- the same words in each log are the same logs
pub same-each : (a b : Logs) → ((k : ℕ) → k < 12 → log_at k a ≡ log_at k b) → a ≡ b
same-each a b e =
    λ i. logs (e 0 (log-number 0 refl) i) (e 1 (log-number 1 refl) i) (e 2 (log-number 2 refl) i) (e 3 (log-number 3 refl) i) (e 4 (log-number 4 refl) i) (e 5 (log-number 5 refl) i) (e 6 (log-number 6 refl) i)
    (e 7 (log-number 7 refl) i) (e 8 (log-number 8 refl) i) (e 9 (log-number 9 refl) i) (e 10 (log-number 10 refl) i) (e 11 (log-number 11 refl) i)

-- each log is as long as it was
abbrev pub SameSizes : Logs → Logs → Type 0
SameSizes l l' = (k : ℕ) → k < 12 → length (log_at k l') ≡ length (log_at k l)

-- then there is room for as many rows
pub sizes-room : (l l' : Logs) → SameSizes l l' → room_of l' ≡ room_of l
sizes-room l l' e =
    λ i. room_by (e 0 (log-number 0 refl) i) (e 1 (log-number 1 refl) i) (e 2 (log-number 2 refl) i) (e 3 (log-number 3 refl) i) (e 4 (log-number 4 refl) i) (e 5 (log-number 5 refl) i)
    (e 6 (log-number 6 refl) i) (e 7 (log-number 7 refl) i) (e 8 (log-number 8 refl) i) (e 9 (log-number 9 refl) i) (e 10 (log-number 10 refl) i) (e 11 (log-number 11 refl) i)

-- rows that are counted within the room stand within their logs
pub within-logs : (n : Counts) (l : Logs) → Within n (room_of l) → (k : ℕ) → k < 12 → place k (count_at k n) ≤ length (log_at k l)
unfolding room_by
within-logs n l w =
    each-log _ (omega (arith, w.bytes)) (omega (arith, w.devices)) (omega (arith, w.endpoints)) (omega (arith, w.packets))
    (omega (arith, w.events)) (omega (arith, w.transactions)) (omega (arith, w.groups)) (omega (arith, w.statebytes)) (omega (arith, w.states)) (omega (arith, w.items))
    (omega (arith, w.links)) (omega (arith, w.requests))

-- where a row is one word, row n stands at word n
pub word_each : (l rows : List ℕ) (n : ℕ) → sets l n rows ≡ sets l (n * 1) rows
word_each l rows n = let e : n ≡ n * 1 = omega arith in ap (λ (m : ℕ). sets l m rows) e
