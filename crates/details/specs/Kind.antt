-- To be believed: the kinds of endpoint beyond the four types of USB 2.0: numbers of ours (01, Details and tables).
-- Hold it to: 01, "Modules in port order", 3: "the special three have a kind of their own"
use Rattle.std.specs.Prelude.{ℕ}

abbrev pub Unknown : ℕ
Unknown = 4

abbrev pub Framing : ℕ
Framing = 5

abbrev pub Invalid : ℕ
Invalid = 6

abbrev pub Event : ℕ
Event = 7
