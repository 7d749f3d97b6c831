-- To be believed: the endpoint table's words: a row has one for each field of Endpoint, in the order of the fields.
-- Hold it to: ours: struct Endpoint, field by field; 01, "Rules of a group": the state bytes
use Rattle.std.specs.Prelude.{ℕ}

abbrev pub device : ℕ
device = 0

abbrev pub address : ℕ
address = 1

abbrev pub phase : ℕ
phase = 2

abbrev pub state : ℕ
state = 3

abbrev pub transactions : ℕ
transactions = 4

abbrev pub groups : ℕ
groups = 5

abbrev pub total : ℕ
total = 6

abbrev pub first : ℕ
first = 7

abbrev pub done : ℕ
done = 8

abbrev pub last : ℕ
last = 9

abbrev pub success : ℕ
success = 10

abbrev pub ready : ℕ
ready = 11

abbrev pub setup : ℕ
setup = 12

abbrev pub payload : ℕ
payload = 13

abbrev pub pending : ℕ
pending = 14

abbrev pub pendinglength : ℕ
pendinglength = 15

abbrev pub pendinglink : ℕ
pendinglink = 16

-- how many words a row has
abbrev pub width : ℕ
width = 17

-- the phase word
abbrev pub None : ℕ
None = 0

abbrev pub Early : ℕ
Early = 1

abbrev pub Active : ℕ
Active = 2

abbrev pub Ended : ℕ
Ended = 3

-- 01, rules of a group: the state bytes
abbrev pub Idle : ℕ
Idle = 0

abbrev pub Starting : ℕ
Starting = 1

abbrev pub Ongoing : ℕ
Ongoing = 2

abbrev pub Ending : ℕ
Ending = 3

-- behind the 128 rows (01, "Sizes"): the first number of each log (02, request 12)
abbrev pub firsts : ℕ
firsts = 2176

-- the whole table: the rows, 16 first numbers and, for those of its T, G, D and E rows, four words for each endpoint
abbrev pub table : ℕ
table = 2704
