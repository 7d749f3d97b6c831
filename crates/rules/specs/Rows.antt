-- To be believed: the rows that the rules append, and the twelve logs that they go to (01, Trace and listing). A journal has the rows of all logs, the newest
-- first.
-- Hold it to: the vectors of capture.rs that decoder.rs pushes to; 01, "Trace and listing": what a line of each kind has; 02, 2: "The request row stays and gains a note"; 02, 1: "a transaction row carries that of the packet it names"; 02, 9: "the packet number and time of the call that wrote it"
use Rattle.std.specs.Prelude.{Bool, List, [], ◌∷◌, ◌++◌, ℕ, eqb}
use Rattle.rows.specs.One.{one}
use Rattle.transaction.specs.Table.{pick}
use Rattle.rules.specs.declared.Stamp.{Stamp}

-- ---- rows that a change may lengthen are records: a new field stands here, in its words, and where the row is pushed

-- transaction_index: the packet that the transaction begins with, and the reason that it is malformed (02, 1; usb, Packet: reason_of)
pub record Named : Type 0 where
  pub packet : ℕ
  pub reason : ℕ

-- group_index: the endpoint, its group, and whether the row is the group's start or its end; the packet number and time of the call that wrote it (02, 9)
pub record Group : Type 0 where
  pub endpoint : ℕ
  pub group : ℕ
  pub start : Bool
  pub packet : ℕ
  pub time : ℕ

-- where the Rust calls decode_request: the endpoint, the setup bytes as one number, the payload's length, and the note of what was taken (02, 2;
-- descriptors, Complete: noteOf)
pub record Asked : Type 0 where
  pub endpoint : ℕ
  pub setup : ℕ
  pub length : ℕ
  pub note : ℕ

abbrev pub naming : ℕ → ℕ → Named
naming packet reason = record { packet = packet; reason = reason }

abbrev pub grouping : ℕ → ℕ → Bool → Stamp → Group
grouping x g start c = record { endpoint = x; group = g; start = start; packet = c.packet; time = c.time }

abbrev pub asking : ℕ → ℕ → ℕ → ℕ → Asked
asking x setup n note = record { endpoint = x; setup = setup; length = n; note = note }

abbrev pub transaction_words : Named → List ℕ
transaction_words r = r.packet ∷ r.reason ∷ []

abbrev pub group_words : Group → List ℕ
group_words r = r.endpoint ∷ r.group ∷ one r.start ∷ r.packet ∷ r.time ∷ []

abbrev pub request_words : Asked → List ℕ
request_words r = r.endpoint ∷ r.setup ∷ r.length ∷ r.note ∷ []

pub data Row : Type 0 where
  -- packet bytes
  BytesRow : List ℕ → Row
  -- the address; device, number and direction
  DeviceRow : ℕ → Row
  EndpointRow : ℕ → ℕ → ℕ → Row
  -- start and time; packet and code
  PacketRow : ℕ → ℕ → Row
  EventRow : ℕ → ℕ → Row
  TransactionRow : Named → Row
  -- where the state bytes start, and those; group row
  GroupRow : Group → Row
  StateRow : ℕ → Row
  StateBytes : List ℕ → Row
  ItemRow : ℕ → Row
  -- links: endpoint and transaction; endpoint and endpoint transaction; the same and the total before; endpoint and item
  T : ℕ → ℕ → Row
  G : ℕ → ℕ → Row
  D : ℕ → ℕ → ℕ → Row
  E : ℕ → ℕ → Row
  RequestRow : Asked → Row
  -- goes to no log: this endpoint's group of this number ended. It is noted because an event ends groups without an end row
  Over : ℕ → ℕ → Row

-- ---- the logs, by number: 0 packet bytes, 1 devices, 2 endpoints, 3 packets, 4 events, 5 transactions, 6 groups, 7 state bytes, 8 states,
-- 9 items, 10 links, 11 requests; 12 is none

-- a row's log, and its words there; a link row has four, the first its kind: T 0, G 1, D 2, E 3
abbrev pub written : Row → ℕ × List ℕ
written (BytesRow bs) = (0, bs)
written (DeviceRow a) = (1, a ∷ [])
written (EndpointRow d n r) = (2, d ∷ n ∷ r ∷ [])
written (PacketRow s t) = (3, s ∷ t ∷ [])
written (EventRow p c) = (4, p ∷ c ∷ [])
written (TransactionRow r) = (5, transaction_words r)
written (GroupRow r) = (6, group_words r)
written (StateRow s) = (8, s ∷ [])
written (StateBytes ss) = (7, ss)
written (ItemRow g) = (9, g ∷ [])
written (T x t) = (10, 0 ∷ x ∷ t ∷ 0 ∷ [])
written (G x t) = (10, 1 ∷ x ∷ t ∷ 0 ∷ [])
written (D x t n) = (10, 2 ∷ x ∷ t ∷ n ∷ [])
written (E x i) = (10, 3 ∷ x ∷ i ∷ 0 ∷ [])
written (RequestRow r) = (11, request_words r)
written (Over x k) = (12, [])

-- a log's words, the oldest first
abbrev pub log : ℕ → List Row → List ℕ
log k [] = []
log k (r ∷ js) = log k js ++ pick (eqb (written r).0 k) (written r).1 []
