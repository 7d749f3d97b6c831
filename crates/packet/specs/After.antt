-- Inner (cited by private contracts alone): what a packet leaves, as the code puts it together: the sum, the record, and the change of the devices, the shelf and
-- the log of requests.
-- proofs/Left.antt and proofs/Answers.antt tie it to the rules.
use Rattle.std.specs.Prelude.{ℕ, ◌+◌, ◌<◌, Bool, true, false, ◌&&◌, ◌||◌, List, get_or, set, Result, Ok, Err}
use Rattle.rows.specs.One.{one}
use Rattle.transaction.specs.Table.{pick}
use Rattle.details.specs.Details.{fresh}
use Rattle.details.specs.Search.{blank}
use Rattle.details.specs.declared.Device.{Device}
use Rattle.rules.specs.declared.EventState.TheVariants.{Idle}
use Rattle.rules.specs.declared.Slot.TheVariants.{Empty}
use Rattle.rules.specs.World.{◌▷◌, stamp}
use Rattle.tally.specs.Tally.{none, add_packet}
use Rattle.tally.specs.declared.add.Tally.{Tally}
use Rattle.record.specs.declared.Counts.{Counts}
use Rattle.record.specs.declared.Decoder.{Decoder}
use Rattle.write_packet.specs.declared.Hand.{Hand}
use Rattle.tally.specs.Tallies.{tally_plan, add_counts, room_for}
use Rattle.tally.specs.Passes.{plan_passes}
use Rattle.plan.specs.Devices.{changes, row_then, adds_device, address_of}
use Rattle.plan.specs.declared.Plan.{Plan}
use Rattle.shelving.specs.Shelve.{reading_of, resting, LongIf, RoomIf, shelf_after, note_after, row_after, request_after}
use Rattle.call.specs.Share.{written_of, tied}
use Rattle.packet.specs.declared.change.Change.{Change}
use Rattle.packet.specs.declared.sum.Refusal.{Refusal}
use Rattle.packet.specs.declared.sum.Refusal.TheVariants.{NoRoom, Total}
use Rattle.packet.specs.declared.sum.Sum.{Sum}

-- ---- the sum

-- the numbers of 01's table
abbrev pub refusal : Refusal → ℕ
refusal NoRoom = 7
refusal Total = 9

-- the answer, 0 where it is accepted
abbrev pub answer_in : Result Sum Refusal → ℕ
answer_in (Ok s) = 0
answer_in (Err r) = refusal r

abbrev pub accepted : Decoder → Tally → Sum
accepted d t = record { counts = add_counts d.counts t; waiting = t.waiting }

-- by whether there is room, and whether a byte total passes 2^64 - 1
abbrev pub sum_by : Bool → Bool → Decoder → Tally → Result Sum Refusal
sum_by true false d t = Ok (accepted d t)
sum_by true true d t = Err Total
sum_by false over d t = Err NoRoom

abbrev pub sum_of : Bool → Decoder → Counts → Tally → Counts → Result Sum Refusal
sum_of over d held t room = sum_by (room_for held d.counts t room) over d t

-- a packet of so many bytes that drops the suspended transaction; any other
abbrev pub tally_of_dropped : ℕ → ℕ → Tally
tally_of_dropped waiting len = none waiting ▷ add_packet len

abbrev pub tally_dropped : Decoder → ℕ → Tally
tally_dropped d len = tally_of_dropped d.waiting len

unfoldable pub sum_dropped : Decoder → Counts → ℕ → Counts → Result Sum Refusal
sum_dropped d held len room = sum_of false d held (tally_dropped d len) room

abbrev pub tally_of : Decoder → Plan → ℕ → Tally
tally_of d p len = tally_plan p len d.counts.endpoints d.waiting

unfoldable pub sum_plan : Decoder → Counts → Plan → ℕ → Counts → Result Sum Refusal
sum_plan d held p len room = sum_of (plan_passes p) d held (tally_of d p len) room

-- ---- the record

-- where the call begins to write, and what it brings: `held` rows are held
abbrev pub hand_of : ℕ → ℕ → Decoder → Counts → List ℕ → Hand
hand_of time reason d held t =
    record {
      written = written_of (stamp d.counts.packets time reason) held d t;
      transactions = held.transactions;
      devices = held.devices;
      endpoints = held.endpoints;
    }

abbrev pub dropped_decoder : Decoder → ℕ → Sum → Decoder
dropped_decoder d time s =
    record { counts = s.counts; slot = Empty; transaction = d.transaction; last = d.last; event = Idle; keepalive = d.keepalive; waiting = s.waiting; finished = d.finished; high = d.high; time = time }

abbrev pub decoder_by : Decoder → Plan → Sum → Hand → Decoder
decoder_by d p s h =
    record { counts = s.counts; slot = p.slot; transaction = tied p.begin.transaction h.written; last = h.written.last; event = Idle; keepalive = d.keepalive; waiting = s.waiting; finished = d.finished; high = d.high; time = h.written.stamp.time }

-- ---- what is the caller's: the devices, the shelf and the log of requests

-- what a packet changes of them (src/change.rt); nothing
abbrev pub keeping : Change
keeping = record { device = false; types = false; place = 0; owner = 0; number = 0; kind = 0; adds = false; at = 0; address = 0; reading = resting; row = 0 }

-- by its steps, where there are n devices and the log holds `row` requests
abbrev pub change_by : Bool → Plan → ℕ → ℕ → Change
change_by high p n row =
    let s = p.begin in
    let adds = p.closes && adds_device p.close.effect in
    record {
      device = s.device;
      types = s.types;
      place = pick (changes s) s.place 0;
      owner = s.owner;
      number = s.number;
      kind = s.kind;
      adds = adds;
      at = pick adds (n + one s.device) 0;
      address = address_of p.close.effect;
      reading = reading_of high p;
      row = row;
    }

-- the two rows then, by what they were
abbrev pub row_by : Change → Device → Device
row_by c d = row_then c.device c.owner c.types c.number c.kind d

abbrev pub added_by : Change → Device → Device
added_by c d = pick c.adds (fresh c.address) d

abbrev pub is_change : Change → Bool
is_change c = (c.device || (c.types || c.adds)) || (c.reading.keeps || c.reading.asks)

-- what the caller does with it: the first row, then the one that is read for, then the second
abbrev pub row_put : Change → List Device → List Device
row_put c v = set v c.place (row_by c (get_or v c.place blank))

-- the row of the device that a request completes on, before it
abbrev pub own_row : Change → List Device → Device
own_row c v = get_or (row_put c v) c.reading.place blank

abbrev pub row_read : Change → List ℕ → List ℕ → List Device → List Device
row_read c packet shelf v = set (row_put c v) c.reading.place (row_after c.reading (own_row c v) packet shelf)

unfoldable pub changed : Change → List ℕ → List ℕ → List Device → List Device
changed c packet shelf v = set (row_read c packet shelf v) c.at (added_by c (get_or (row_read c packet shelf v) c.at blank))

unfoldable pub shelved : Change → List ℕ → List ℕ → List Device → List ℕ
shelved c packet shelf v = shelf_after c.reading (own_row c v) packet shelf

unfoldable pub requested : Change → List ℕ → List ℕ → List Device → List ℕ → List ℕ
requested c packet shelf v requests = request_after c.reading c.row (note_after c.reading (own_row c v) packet shelf) requests

-- what is asked of it: the rows are there, a payload is one, and the log of requests has room
pub record Placed (c : Change) (packet requests : List ℕ) : Type 0 where
  pub place : c.place < 64
  pub at : c.at < 64
  pub device : c.reading.device < 64
  pub owner : c.reading.place < 64
  pub long : LongIf c.reading packet
  pub room : RoomIf c.reading c.row requests
