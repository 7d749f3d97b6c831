-- To be believed: the functions of decoder.rs from event_update to event_add_subgroup.
-- Hold it to: event_update, event_single, event_group_start, event_subgroup_start, event_add_group, event_add_subgroup of decoder.rs; 01, event kinds
use Rattle.std.specs.Prelude.{Bool, true, false, List, [], ◌∷◌, ℕ, pred}
use Rattle.transaction.specs.Table.{pick, Row as Rule, ◌gives◌, any, only, ◌or◌, look}
use Rattle.rules.specs.Rows.{T}
use Rattle.rules.specs.World.{World, ◌▷◌, event_ep, with_event_state, with_keepalive, push, change, more_transactions}
use Rattle.rules.specs.Groups.{push_group, add_group_entry, add_item}
use Rattle.rules.specs.Transactions.{transaction_end, push_transaction}
use Rattle.rules.specs.declared.EventState.{EventState}
use Rattle.rules.specs.declared.EventState.TheVariants.{Idle, LsKeepaliveGroup, AwaitDeviceChirp, PartialDeviceChirp, ValidDeviceChirp, AwaitHostChirp, PartialHostChirp, ValidHostChirp}

-- ---- event kinds (01, Rules of a group); 7 is any other

abbrev pub LsKeepalive : ℕ
LsKeepalive = 0

abbrev pub BusReset : ℕ
BusReset = 1

abbrev pub SE0 : ℕ
SE0 = 2

abbrev pub ChirpJ : ℕ
ChirpJ = 3

abbrev pub ChirpK : ℕ
ChirpK = 4

abbrev pub DeviceChirpValid : ℕ
DeviceChirpValid = 5

abbrev pub HostChirpValid : ℕ
HostChirpValid = 6

-- ---- fn event_add_subgroup

abbrev pub event_add_subgroup : ℕ → World → World
event_add_subgroup id w = w ▷ transaction_end false false ▷ push_transaction id

-- ---- fn event_subgroup_start

-- writer.transaction_ids.push(transaction_id), of the transaction row just added
abbrev pub event_link : World → World
event_link w = w ▷ push (T event_ep (pred w.transactions)) ▷ change event_ep more_transactions

abbrev pub event_subgroup_start : ℕ → World → World
event_subgroup_start id w = w ▷ event_add_subgroup id ▷ event_link

-- ---- fn event_add_group, event_single, event_group_start

abbrev pub event_add_group : ℕ → Bool → World → World
event_add_group id start w =
    w ▷ event_add_subgroup id
    ▷ event_link
    ▷ (λ v. push_group event_ep (pred (v.endpoints event_ep).transactions) v)
    ▷ add_group_entry event_ep start
    ▷ add_item event_ep

abbrev pub event_single : ℕ → World → World
event_single id w = event_add_group id false w

abbrev pub event_group_start : ℕ → World → World
event_group_start id w = event_add_group id true w

-- ---- fn event_update

-- what an event does, and the state after it; keepalive is a subgroup where there is a keepalive group, and else that group
pub data Act : Type 0 where
  nothing : Act
  single : Act
  group : Act
  subgroup : Act
  keepalive : Act

pub record Turn : Type 0 where
  pub act : Act
  pub next : EventState

infixl 75 ◌then◌
abbrev pub ◌then◌ : Act → EventState → Turn
a then s = record { act = a; next = s }

abbrev pub number_of : EventState → ℕ
number_of Idle = 0
number_of LsKeepaliveGroup = 1
number_of AwaitDeviceChirp = 2
number_of PartialDeviceChirp = 3
number_of ValidDeviceChirp = 4
number_of AwaitHostChirp = 5
number_of PartialHostChirp = 6
number_of ValidHostChirp = 7

abbrev pub is : EventState → ℕ → Bool
is s = only (number_of s)

-- match (self.event_state, event_type), row by row
abbrev pub turns : List (Rule Turn)
turns =
    (is LsKeepaliveGroup ∷ only LsKeepalive ∷ []) gives (nothing then LsKeepaliveGroup)
    ∷ (any ∷ only LsKeepalive ∷ []) gives (keepalive then LsKeepaliveGroup)
    ∷ (any ∷ only BusReset ∷ []) gives (single then AwaitDeviceChirp)
    ∷ (is AwaitDeviceChirp ∷ only ChirpK ∷ []) gives (group then PartialDeviceChirp)
    ∷ (is PartialDeviceChirp ∷ only SE0 ∷ []) gives (nothing then AwaitDeviceChirp)
    ∷ (is PartialDeviceChirp ∷ only DeviceChirpValid ∷ []) gives (nothing then ValidDeviceChirp)
    ∷ (is ValidDeviceChirp ∷ only SE0 ∷ []) gives (nothing then AwaitHostChirp)
    ∷ (is AwaitHostChirp ∷ only ChirpK ∷ []) gives (subgroup then PartialHostChirp)
    ∷ (is PartialHostChirp ∷ only HostChirpValid ∷ []) gives (nothing then ValidHostChirp)
    ∷ (is PartialHostChirp ∷ SE0 or ChirpJ or only ChirpK ∷ []) gives (nothing then PartialHostChirp)
    ∷ (is ValidHostChirp ∷ SE0 or ChirpJ or only ChirpK ∷ []) gives (nothing then ValidHostChirp)
    ∷ []

abbrev pub turn_of : EventState → ℕ → Turn
turn_of s kind = look turns (single then Idle) (number_of s ∷ kind ∷ [])

abbrev pub event_act : Act → ℕ → World → World
event_act nothing id w = w
event_act single id w = w ▷ event_single id
event_act group id w = w ▷ event_group_start id
event_act subgroup id w = w ▷ event_subgroup_start id
event_act keepalive id w = pick w.keepalive (event_subgroup_start id w) (w ▷ event_group_start id ▷ with_keepalive true)

unfoldable pub event_update : ℕ → ℕ → World → World
event_update id kind w =
    let t = turn_of w.event_state kind in
    w ▷ event_act t.act id
    ▷ with_event_state t.next
