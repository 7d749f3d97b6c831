-- Inner (cited by private contracts alone): how many rows an update appends to each log, and what it means that a tally is right.
use Rattle.std.specs.Prelude.{◌≡◌, Bool, true, false, ◌&&◌, List, ℕ, suc, ◌+◌, ◌*◌, ◌≤◌, eqb, length}
use Rattle.rows.specs.Widths.{endpoint_width, event_width, group_width, link_width, packet_width, request_width, transaction_width}
use Rattle.transaction.specs.Table.{pick}
use Rattle.endpoints.specs.declared.Phase.{Phase}
use Rattle.endpoints.specs.declared.Phase.TheVariants.{None, Early, Active, Ended}
use Rattle.group.specs.declared.Effect.{Effect}
use Rattle.group.specs.declared.Effect.TheVariants.{NoEffect, NewDevice, Request, PendingData, IndexData}
use Rattle.rules.specs.Rows.{Row, log}
use Rattle.rules.specs.World.{World, ◌▷◌, is_ended, waiting_of}
use Rattle.rules.specs.Groups.{close_phase}
use Rattle.rules.specs.Events as events
use Rattle.event.specs.Event.{adds_row, adds_group}
use Rattle.update.specs.Update.{when}
use Rattle.update.specs.declared.Update.{Update}
use Rattle.update.specs.declared.Then.{Then}
use Rattle.update.specs.declared.Then.TheVariants.{Keep, Begin, BeginFailed, Last, BeginEarly}
use Rattle.tally.specs.declared.add.Tally.{Tally}

-- ---- adding up

-- before the first step, m endpoints waiting
abbrev pub none : ℕ → Tally
none m =
    record { bytes = 0; devices = 0; endpoints = 0; packets = 0; events = 0; transactions = 0; groups = 0; statebytes = 0; states = 0; items = 0; links = 0; requests = 0; waiting = m }

-- one endpoint more waits for an item
abbrev pub add_waiting : Tally → Tally
add_waiting t =
    record { bytes = t.bytes; devices = t.devices; endpoints = t.endpoints; packets = t.packets; events = t.events; transactions = t.transactions; groups = t.groups; statebytes = t.statebytes; states = t.states; items = t.items; links = t.links; requests = t.requests; waiting = t.waiting + 1 }

-- a row of one kind
abbrev pub add_device : Tally → Tally
add_device t =
    record { bytes = t.bytes; devices = t.devices + 1; endpoints = t.endpoints; packets = t.packets; events = t.events; transactions = t.transactions; groups = t.groups; statebytes = t.statebytes; states = t.states; items = t.items; links = t.links; requests = t.requests; waiting = t.waiting }

abbrev pub add_transaction : Tally → Tally
add_transaction t =
    record { bytes = t.bytes; devices = t.devices; endpoints = t.endpoints; packets = t.packets; events = t.events; transactions = t.transactions + 1; groups = t.groups; statebytes = t.statebytes; states = t.states; items = t.items; links = t.links; requests = t.requests; waiting = t.waiting }

abbrev pub add_link : Tally → Tally
add_link t =
    record { bytes = t.bytes; devices = t.devices; endpoints = t.endpoints; packets = t.packets; events = t.events; transactions = t.transactions; groups = t.groups; statebytes = t.statebytes; states = t.states; items = t.items; links = t.links + 1; requests = t.requests; waiting = t.waiting }

abbrev pub add_request : Tally → Tally
add_request t =
    record { bytes = t.bytes; devices = t.devices; endpoints = t.endpoints; packets = t.packets; events = t.events; transactions = t.transactions; groups = t.groups; statebytes = t.statebytes; states = t.states; items = t.items; links = t.links; requests = t.requests + 1; waiting = t.waiting }

-- add_group_entry: a group row, and a state row of a byte for each of the n endpoints
abbrev pub add_entry : ℕ → Tally → Tally
add_entry n t =
    record { bytes = t.bytes; devices = t.devices; endpoints = t.endpoints; packets = t.packets; events = t.events; transactions = t.transactions; groups = t.groups + 1; statebytes = t.statebytes + n; states = t.states + 1; items = t.items; links = t.links; requests = t.requests; waiting = t.waiting }

-- add_item: an item, and an E row for each endpoint that waits
abbrev pub add_item : Tally → Tally
add_item t =
    record { bytes = t.bytes; devices = t.devices; endpoints = t.endpoints; packets = t.packets; events = t.events; transactions = t.transactions; groups = t.groups; statebytes = t.statebytes; states = t.states; items = t.items + 1; links = t.links + t.waiting; requests = t.requests; waiting = 0 }

-- handle_raw_packet and handle_event: a packet row, of so many bytes
abbrev pub add_packet : ℕ → Tally → Tally
add_packet len t =
    record { bytes = t.bytes + len; devices = t.devices; endpoints = t.endpoints; packets = t.packets + 1; events = t.events; transactions = t.transactions; groups = t.groups; statebytes = t.statebytes; states = t.states; items = t.items; links = t.links; requests = t.requests; waiting = t.waiting }

-- handle_event
abbrev pub add_event : Tally → Tally
add_event t =
    record { bytes = t.bytes; devices = t.devices; endpoints = t.endpoints; packets = t.packets; events = t.events + 1; transactions = t.transactions; groups = t.groups; statebytes = t.statebytes; states = t.states; items = t.items; links = t.links; requests = t.requests; waiting = t.waiting }

-- add_endpoint: nothing of it waits
abbrev pub add_endpoint : Tally → Tally
add_endpoint t =
    record { bytes = t.bytes; devices = t.devices; endpoints = t.endpoints + 1; packets = t.packets; events = t.events; transactions = t.transactions; groups = t.groups; statebytes = t.statebytes; states = t.states; items = t.items; links = t.links; requests = t.requests; waiting = t.waiting }

-- the steps of an update in their order, with n endpoints
unfoldable pub tally_update : Update → ℕ → Tally → Tally
tally_update u n t =
    t ▷ when u.over add_waiting
    ▷ when u.cut add_waiting
    ▷ when u.cut (add_entry n)
    ▷ when u.link add_link
    ▷ when u.start add_link
    ▷ when u.start (add_entry n)
    ▷ when u.start add_item
    ▷ when u.end add_waiting
    ▷ when u.end (add_entry n)
    ▷ when u.item add_item

-- a device row, a request row, a D row
abbrev pub tally_effect : Effect → Tally → Tally
tally_effect NoEffect t = t
tally_effect (NewDevice address) t = add_device t
tally_effect (Request n) t = add_request t
tally_effect (PendingData n) t = t
tally_effect (IndexData n waited i) t = add_link t

-- a transaction row and its T row; a G row, a group row with its state row, and an item
unfoldable pub tally_act : events.Act → Bool → ℕ → Tally → Tally
tally_act a k n t =
    t ▷ when (adds_row a) add_transaction
    ▷ when (adds_row a) add_link
    ▷ when (adds_group a k) add_link
    ▷ when (adds_group a k) (add_entry n)
    ▷ when (adds_group a k) add_item

-- no number of a tally passes k
pub record Within (k : ℕ) (t : Tally) : Type 0 where
  pub bytes : t.bytes ≤ k
  pub devices : t.devices ≤ k
  pub endpoints : t.endpoints ≤ k
  pub packets : t.packets ≤ k
  pub events : t.events ≤ k
  pub transactions : t.transactions ≤ k
  pub groups : t.groups ≤ k
  pub statebytes : t.statebytes ≤ k
  pub states : t.states ≤ k
  pub items : t.items ≤ k
  pub links : t.links ≤ k
  pub requests : t.requests ≤ k
  pub waiting : t.waiting ≤ k

-- ---- what a tally is right of

-- the words in log k
abbrev pub words_in : ℕ → List Row → ℕ
words_in k js = length (log k js)

-- n words in log j, and none in another
unfoldable pub in_log : ℕ → ℕ → ℕ → ℕ
in_log j k n = pick (eqb j k) n 0

-- the words that the rows of t take in log k (rules, Rows: the logs' numbers and widths)
abbrev pub words_for : ℕ → Tally → ℕ
words_for k t =
    in_log 0 k t.bytes
    + in_log 1 k t.devices
    + in_log 2 k (t.endpoints * endpoint_width)
    + in_log 3 k (t.packets * packet_width)
    + in_log 4 k (t.events * event_width)
    + in_log 5 k (t.transactions * transaction_width)
    + in_log 6 k (t.groups * group_width)
    + in_log 7 k t.statebytes
    + in_log 8 k t.states
    + in_log 9 k t.items
    + in_log 10 k (t.links * link_width)
    + in_log 11 k (t.requests * request_width)

-- from world w to world v the logs grew by the rows of t and by no others, as many endpoints wait as t says, and the counts are right
pub record Adds (t : Tally) (w v : World) : Type 0 where
  pub words : (k : ℕ) → words_in k v.journal ≡ words_in k w.journal + words_for k t
  pub waiting : waiting_of v ≡ t.waiting
  pub bytes : v.bytes ≡ w.bytes + t.bytes
  pub devices : v.device_count ≡ w.device_count + t.devices
  pub endpoints : v.count ≡ w.count + t.endpoints
  pub packets : v.packets ≡ w.packets + t.packets
  pub transactions : v.transactions ≡ w.transactions + t.transactions
  pub groups : v.groups ≡ w.groups + t.groups
  pub statebytes : v.state_bytes ≡ w.state_bytes + t.statebytes
  pub items : v.items ≡ w.items + t.items

-- ---- the phase of the endpoint on the way

abbrev pub ended : Phase → Phase
ended p = Ended

abbrev pub become_phase : Then → Phase → Phase
become_phase Keep p = p
become_phase Begin p = Active
become_phase BeginFailed p = Active
become_phase Last p = p
become_phase BeginEarly p = Early

-- whether a group is taken up
abbrev pub takes_up : Then → Bool
takes_up Keep = false
takes_up Begin = true
takes_up BeginFailed = true
takes_up Last = false
takes_up BeginEarly = true

-- before the group is taken up; after that; at the end of the update
abbrev pub phase_before : Update → Phase → Phase
phase_before u p = p ▷ when u.over ended ▷ when u.cut ended ▷ when u.start close_phase

abbrev pub phase_then : Update → Phase → Phase
phase_then u p = become_phase u.group (phase_before u p)

abbrev pub phase_after : Update → Phase → Phase
phase_after u p = phase_then u p ▷ when u.end ended ▷ when u.item close_phase

-- an update suits a phase where no part of it ends an ended group again or takes one up
pub record Suits (u : Update) (p : Phase) : Type 0 where
  pub over : (u.over && is_ended p) ≡ false
  pub cut : (u.cut && is_ended (when u.over ended p)) ≡ false
  pub group : (takes_up u.group && is_ended (phase_before u p)) ≡ false
  pub end : (u.end && is_ended (phase_then u p)) ≡ false
