-- To be believed: what a call works on: struct Decoder of decoder.rs, the numbers of rows that it hands out, and the journal of what it appends.
-- Hold it to: struct Decoder, EndpointData, GroupState and TransactionState of decoder.rs
use Rattle.std.specs.Prelude.{Bool, true, false, List, ◌∷◌, ℕ, suc, pred, eqb}
use Rattle.transaction.specs.Table.{pick}
use Rattle.transaction.specs.declared.Style.{Style}
use Rattle.transaction.specs.declared.Transaction.{Transaction}
use Rattle.details.specs.declared.Device.{Device}
use Rattle.endpoints.specs.declared.Endpoint.{Endpoint}
use Rattle.endpoints.specs.declared.Phase.{Phase}
use Rattle.endpoints.specs.Phases as phases
use Rattle.endpoints.specs.Table.{phase_word, make_endpoint}
use Rattle.endpoints.specs.Word as word
use Rattle.group.specs.Control.{with_payload}
use Rattle.transaction.specs.Payload.{make_transaction}
use Rattle.rules.specs.Rows.{Row}
use Rattle.rules.specs.declared.Slot.{Slot}
use Rattle.rules.specs.declared.EventState.{EventState}
use Rattle.rules.specs.declared.Stamp.{Stamp}

pub record World : Type 0 where
  -- endpoint_data with last_endpoint_state, and how many there are
  pub endpoints : ℕ → Endpoint
  pub count : ℕ
  -- device_data with device_index, and how many there are
  pub devices : ℕ → Device
  pub device_count : ℕ
  -- transaction_state or suspended_transaction, as the slot says; in an empty slot it is not read
  pub slot : Slot
  pub transaction : Transaction
  -- last_item_endpoint; 128 is none
  pub last_item : ℕ
  pub event_state : EventState
  -- ls_keepalive_item: whether there is one
  pub keepalive : Bool
  -- what the call that is running brings: its packet row's number and time, and the reason that its packet is malformed (02, 1). Each call that has a packet row sets it first, so before a call it is what the last of these brought
  pub context : Stamp
  -- 02, 2: what a caller lends to keep control payloads and descriptors in: 8,192 bytes for each device, in their order (descriptors, Complete)
  pub shelf : List ℕ
  -- how many packet bytes, packet rows, transaction rows, group rows, state bytes and item rows there are
  pub bytes : ℕ
  pub packets : ℕ
  pub transactions : ℕ
  pub groups : ℕ
  pub state_bytes : ℕ
  pub items : ℕ
  -- the rows that were appended, the newest first
  pub journal : List Row

-- World from its fields, in their order
abbrev pub make_world : (ℕ → Endpoint) → ℕ → (ℕ → Device) → ℕ → Slot → Transaction → ℕ → EventState → Bool → Stamp → List ℕ
    → ℕ → ℕ → ℕ → ℕ → ℕ → ℕ → List Row → World
make_world endpoints count devices device_count slot transaction last_item event_state keepalive context shelf
    bytes packets transactions groups state_bytes items journal =
    record {
      endpoints = endpoints;
      count = count;
      devices = devices;
      device_count = device_count;
      slot = slot;
      transaction = transaction;
      last_item = last_item;
      event_state = event_state;
      keepalive = keepalive;
      context = context;
      shelf = shelf;
      bytes = bytes;
      packets = packets;
      transactions = transactions;
      groups = groups;
      state_bytes = state_bytes;
      items = items;
      journal = journal;
    }

-- one step after another, as the Rust's statements follow each other
infixl 10 ◌▷◌
abbrev pub ◌▷◌ : {A B : Type 0} → A → (A → B) → B
w ▷ f = f w

-- the special endpoints: EVENT_EP_ID, INVALID_EP_ID, FRAMING_EP_ID
abbrev pub event_ep : ℕ
event_ep = 0

abbrev pub invalid_ep : ℕ
invalid_ep = 1

abbrev pub framing_ep : ℕ
framing_ep = 2

abbrev pub no_item : ℕ
no_item = 128

abbrev pub phase : ℕ → World → Phase
phase x w = (w.endpoints x).phase

-- the number of an endpoint's last group: all before it are closed
abbrev pub last_group : ℕ → World → ℕ
last_group x w = pred (w.endpoints x).groups

-- ---- a world with one field changed

abbrev pub with_endpoints : (ℕ → Endpoint) → World → World
with_endpoints a w = make_world a w.count w.devices w.device_count w.slot w.transaction w.last_item w.event_state w.keepalive
    w.context w.shelf w.bytes w.packets w.transactions w.groups w.state_bytes w.items w.journal

abbrev pub with_count : ℕ → World → World
with_count a w = make_world w.endpoints a w.devices w.device_count w.slot w.transaction w.last_item w.event_state w.keepalive
    w.context w.shelf w.bytes w.packets w.transactions w.groups w.state_bytes w.items w.journal

abbrev pub with_devices : (ℕ → Device) → World → World
with_devices a w = make_world w.endpoints w.count a w.device_count w.slot w.transaction w.last_item w.event_state w.keepalive
    w.context w.shelf w.bytes w.packets w.transactions w.groups w.state_bytes w.items w.journal

abbrev pub with_device_count : ℕ → World → World
with_device_count a w = make_world w.endpoints w.count w.devices a w.slot w.transaction w.last_item w.event_state w.keepalive
    w.context w.shelf w.bytes w.packets w.transactions w.groups w.state_bytes w.items w.journal

abbrev pub with_slot : Slot → World → World
with_slot a w = make_world w.endpoints w.count w.devices w.device_count a w.transaction w.last_item w.event_state w.keepalive
    w.context w.shelf w.bytes w.packets w.transactions w.groups w.state_bytes w.items w.journal

abbrev pub with_transaction : Transaction → World → World
with_transaction a w = make_world w.endpoints w.count w.devices w.device_count w.slot a w.last_item w.event_state w.keepalive
    w.context w.shelf w.bytes w.packets w.transactions w.groups w.state_bytes w.items w.journal

abbrev pub with_last_item : ℕ → World → World
with_last_item a w = make_world w.endpoints w.count w.devices w.device_count w.slot w.transaction a w.event_state w.keepalive
    w.context w.shelf w.bytes w.packets w.transactions w.groups w.state_bytes w.items w.journal

abbrev pub with_event_state : EventState → World → World
with_event_state a w = make_world w.endpoints w.count w.devices w.device_count w.slot w.transaction w.last_item a w.keepalive
    w.context w.shelf w.bytes w.packets w.transactions w.groups w.state_bytes w.items w.journal

abbrev pub with_keepalive : Bool → World → World
with_keepalive a w = make_world w.endpoints w.count w.devices w.device_count w.slot w.transaction w.last_item w.event_state a
    w.context w.shelf w.bytes w.packets w.transactions w.groups w.state_bytes w.items w.journal

abbrev pub with_context : Stamp → World → World
with_context a w = make_world w.endpoints w.count w.devices w.device_count w.slot w.transaction w.last_item w.event_state
    w.keepalive a w.shelf w.bytes w.packets w.transactions w.groups w.state_bytes w.items w.journal

abbrev pub with_shelf : List ℕ → World → World
with_shelf a w = make_world w.endpoints w.count w.devices w.device_count w.slot w.transaction w.last_item w.event_state
    w.keepalive w.context a w.bytes w.packets w.transactions w.groups w.state_bytes w.items w.journal

abbrev pub with_bytes : ℕ → World → World
with_bytes a w = make_world w.endpoints w.count w.devices w.device_count w.slot w.transaction w.last_item w.event_state
    w.keepalive w.context w.shelf a w.packets w.transactions w.groups w.state_bytes w.items w.journal

abbrev pub with_packets : ℕ → World → World
with_packets a w = make_world w.endpoints w.count w.devices w.device_count w.slot w.transaction w.last_item w.event_state
    w.keepalive w.context w.shelf w.bytes a w.transactions w.groups w.state_bytes w.items w.journal

abbrev pub with_transactions : ℕ → World → World
with_transactions a w = make_world w.endpoints w.count w.devices w.device_count w.slot w.transaction w.last_item w.event_state
    w.keepalive w.context w.shelf w.bytes w.packets a w.groups w.state_bytes w.items w.journal

abbrev pub with_groups : ℕ → World → World
with_groups a w = make_world w.endpoints w.count w.devices w.device_count w.slot w.transaction w.last_item w.event_state
    w.keepalive w.context w.shelf w.bytes w.packets w.transactions a w.state_bytes w.items w.journal

abbrev pub with_state_bytes : ℕ → World → World
with_state_bytes a w = make_world w.endpoints w.count w.devices w.device_count w.slot w.transaction w.last_item w.event_state
    w.keepalive w.context w.shelf w.bytes w.packets w.transactions w.groups a w.items w.journal

abbrev pub with_items : ℕ → World → World
with_items a w = make_world w.endpoints w.count w.devices w.device_count w.slot w.transaction w.last_item w.event_state
    w.keepalive w.context w.shelf w.bytes w.packets w.transactions w.groups w.state_bytes a w.journal

abbrev pub with_journal : List Row → World → World
with_journal a w = make_world w.endpoints w.count w.devices w.device_count w.slot w.transaction w.last_item w.event_state
    w.keepalive w.context w.shelf w.bytes w.packets w.transactions w.groups w.state_bytes w.items a

-- ---- what a call brings

abbrev pub stamp : ℕ → ℕ → ℕ → Stamp
stamp packet time reason = record { packet = packet; time = time; reason = reason }

-- the next packet row will be the call's own
abbrev pub stamped : ℕ → ℕ → World → World
stamped time reason w = with_context (stamp w.packets time reason) w

-- 02, 9: "rows written by finish hold the last packet's number and time, or zero and zero if there was none"
abbrev pub last_of : ℕ → Stamp → Stamp
last_of packets c = pick (eqb packets 0) (stamp 0 0 0) c

abbrev pub last_stamped : World → World
last_stamped w = with_context (last_of w.packets w.context) w

-- ---- what is appended

abbrev pub push : Row → World → World
push r w = with_journal (r ∷ w.journal) w

-- ---- one endpoint changed, one device changed

abbrev pub change : ℕ → (Endpoint → Endpoint) → World → World
change x f w = with_endpoints (λ j. pick (eqb j x) (f (w.endpoints j)) (w.endpoints j)) w

abbrev pub change_device : ℕ → (Device → Device) → World → World
change_device d f w = with_devices (λ j. pick (eqb j d) (f (w.devices j)) (w.devices j)) w

-- ---- an endpoint

-- one more T row; one more G row
abbrev pub more_transactions : Endpoint → Endpoint
more_transactions a = make_endpoint a.device a.address a.phase a.state (suc a.transactions) a.groups a.total a.first a.done a.last
    a.success a.ready a.setup a.payload a.pending a.pendinglength a.pendinglink

abbrev pub more_groups : Endpoint → Endpoint
more_groups a = make_endpoint a.device a.address a.phase a.state a.transactions (suc a.groups) a.total a.first a.done a.last
    a.success a.ready a.setup a.payload a.pending a.pendinglength a.pendinglink

-- GroupState with first, and last where it is done
abbrev pub with_group : ℕ → Bool → Endpoint → Endpoint
with_group pid d a = make_endpoint a.device a.address a.phase a.state a.transactions a.groups a.total pid d pid a.success a.ready
    a.setup a.payload a.pending a.pendinglength a.pendinglink

-- GroupState with another last
abbrev pub with_last : ℕ → Endpoint → Endpoint
with_last pid a = make_endpoint a.device a.address a.phase a.state a.transactions a.groups a.total a.first true pid a.success
    a.ready a.setup a.payload a.pending a.pendinglength a.pendinglink

-- payload.clear()
abbrev pub cleared : Endpoint → Endpoint
cleared a = with_payload a 0

-- pending_payload: its length and its T row
abbrev pub with_pending : ℕ → ℕ → Endpoint → Endpoint
with_pending n i a = make_endpoint a.device a.address a.phase a.state a.transactions a.groups a.total a.first a.done a.last
    a.success a.ready a.setup a.payload true n i

abbrev pub with_total : ℕ → Endpoint → Endpoint
with_total n a = make_endpoint a.device a.address a.phase a.state a.transactions a.groups n a.first a.done a.last a.success
    a.ready a.setup a.payload a.pending a.pendinglength a.pendinglink

-- ---- the transaction

abbrev pub with_id : ℕ → Transaction → Transaction
with_id n t = make_transaction t.style n t.last t.endpoint t.kind t.linked t.link t.ready t.setup t.filled t.payload

-- ep_transaction_id = Some(n)
abbrev pub with_link : ℕ → Transaction → Transaction
with_link n t = make_transaction t.style t.id t.last t.endpoint t.kind true n t.ready t.setup t.filled t.payload

-- last = pid
abbrev pub with_pid : ℕ → Transaction → Transaction
with_pid pid t = make_transaction t.style t.id pid t.endpoint t.kind t.linked t.link t.ready t.setup t.filled t.payload

-- a split's token has come: its style and its endpoint
abbrev pub with_token : Style → ℕ → Transaction → Transaction
with_token s x t = make_transaction s t.id t.last x t.kind t.linked t.link t.ready t.setup t.filled t.payload

-- TransactionState as transaction_start makes it: style, id, last, endpoint and type
abbrev pub new_transaction : Style → ℕ → ℕ → ℕ → ℕ → Transaction
new_transaction s n pid x k = make_transaction s n pid x k false 0 false 0 false 0

-- ---- who waits for an item

-- whether a group has ended and no item has closed it yet (EndpointData::ended)
abbrev pub is_ended : Phase → Bool
is_ended p = eqb (phase_word p) word.Ended

abbrev pub ended_in : (ℕ → Endpoint) → ℕ → Bool
ended_in f j = is_ended (f j).phase

-- how many endpoints have such a group
abbrev pub waiting_of : World → ℕ
waiting_of w = phases.count (ended_in w.endpoints) 0 w.count
