-- To be believed: a search over rows: the first and the last that a test takes.
-- Hold it to: 01, "Packets": "the search ends at the first such row", "the device now standing for that address"
use Rattle.std.specs.Prelude.{ℕ, zero, suc, [], Bool, cond, Option, Some, None}
use Rattle.details.specs.declared.Device.{Device}

-- the first of the n rows from i on that the test takes
abbrev pub first_from : (ℕ → Bool) → ℕ → ℕ → Option ℕ
first_from test i zero = None
first_from test i (suc n) = cond (test i) (Some i) (first_from test (suc i) n)

-- the last of the first n rows that the test takes
abbrev pub last_of : (ℕ → Bool) → ℕ → Option ℕ
last_of test zero = None
last_of test (suc n) = cond (test n) (Some n) (last_of test n)

-- what is read past the last device row
abbrev pub blank : Device
blank = record { address = 0; chosen = 0; kept = 0; details = [] }
