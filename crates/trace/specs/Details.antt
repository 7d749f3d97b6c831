-- To be believed: the detail records of a trace (02, change request 13).
-- Assumes nothing.
-- Hold it to: 02, "Retire typed-in details": "N the number of such records"
use Rattle.std.specs.Prelude.{ℕ, zero, suc, List, length}
use Rattle.trace.specs.Trace.{next_at}
use Rattle.trace.specs.declared.Next.{Next}
use Rattle.trace.specs.declared.Next.TheVariants.{Packet, Event, Detail, Unknown, Cut, End}

-- the details among the first `most` records from `at` on, up to the end, or to what is no whole record; `more` counts those behind a record
abbrev pub count_by : Next → (ℕ → ℕ) → ℕ
count_by (Packet ticks start end next) more = more next.at
count_by (Event ticks kind code next) more = more next.at
count_by (Detail address number direction kind max next) more = suc (more next.at)
count_by Unknown more = 0
count_by Cut more = 0
count_by End more = 0

abbrev pub count_from : List ℕ → ℕ → ℕ → ℕ
count_from t zero at = 0
count_from t (suc most) at = count_by (next_at t at) (count_from t most)

-- of a whole trace: its records begin behind the header, and are no more than its bytes
unfoldable pub details_of : List ℕ → ℕ
details_of t = count_from t (length t) 5
