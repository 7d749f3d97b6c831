-- To be believed: which word of a record holds what.
-- Hold it to: ours: struct Decoder and the structs in it, struct Device, field by field; 01, "Sizes": 64 devices
use Rattle.std.specs.Prelude.{ℕ, ◌+◌, ◌*◌}

-- the counts, by the numbers of the logs (rows, number)
abbrev pub bytes : ℕ
bytes = 0

abbrev pub devices : ℕ
devices = 1

abbrev pub endpoints : ℕ
endpoints = 2

abbrev pub packets : ℕ
packets = 3

abbrev pub events : ℕ
events = 4

abbrev pub transactions : ℕ
transactions = 5

abbrev pub groups : ℕ
groups = 6

abbrev pub statebytes : ℕ
statebytes = 7

abbrev pub states : ℕ
states = 8

abbrev pub items : ℕ
items = 9

abbrev pub links : ℕ
links = 10

abbrev pub requests : ℕ
requests = 11

-- the transaction: its style by number, with the three bytes that a style may have, and its other fields; lastpid is the PID of its last packet
abbrev pub style : ℕ
style = 12

abbrev pub sc : ℕ
sc = 13

abbrev pub splitkind : ℕ
splitkind = 14

abbrev pub pid : ℕ
pid = 15

abbrev pub lastpid : ℕ
lastpid = 16

abbrev pub id : ℕ
id = 17

abbrev pub endpoint : ℕ
endpoint = 18

abbrev pub kind : ℕ
kind = 19

abbrev pub linked : ℕ
linked = 20

abbrev pub ready : ℕ
ready = 21

abbrev pub filled : ℕ
filled = 22

abbrev pub link : ℕ
link = 23

abbrev pub setup : ℕ
setup = 24

abbrev pub payload : ℕ
payload = 25

-- the other fields of Decoder; lastitem is the last item's endpoint
abbrev pub lastitem : ℕ
lastitem = 26

abbrev pub waiting : ℕ
waiting = 27

abbrev pub time : ℕ
time = 28

abbrev pub slot : ℕ
slot = 29

abbrev pub event : ℕ
event = 30

abbrev pub keepalive : ℕ
keepalive = 31

abbrev pub finished : ℕ
finished = 32

abbrev pub high : ℕ
high = 33

-- where the rows of the devices begin, and how many words a row has; the words before it that stand above belong to fields, the others to none
abbrev pub rows : ℕ
rows = 64

abbrev pub width : ℕ
width = 36

-- in a row: the fields of Device, a word that belongs to no field, and a word for each of the 32 details
abbrev pub address : ℕ
address = 0

abbrev pub chosen : ℕ
chosen = 1

abbrev pub kept : ℕ
kept = 2

abbrev pub spare : ℕ
spare = 3

abbrev pub details : ℕ
details = 4

-- where the row of device i begins
abbrev pub row : ℕ → ℕ
row i = rows + i * width
