-- To be believed: USB 2.0, 8.4.2: the endpoint types and the two values of SC, as a SPLIT packet codes them.
-- Assumes nothing.
-- Hold it to: USB 2.0, 8.4.2
use Rattle.std.specs.Prelude.{ℕ}

abbrev pub Control : ℕ
Control = 0

abbrev pub Isochronous : ℕ
Isochronous = 1

abbrev pub Bulk : ℕ
Bulk = 2

abbrev pub Interrupt : ℕ
Interrupt = 3

abbrev pub Start : ℕ
Start = 0

abbrev pub Complete : ℕ
Complete = 1
