-- To be believed: what 01's bench cases say. `Holds` gives each kind of case its meaning, in the definitions that the contracts of the public functions cite.
-- A case speaks of every packet, every transaction, every decoder and every log that it does not name.
-- Hold it to: 01, "Bench cases": what each kind of case asks
use Rattle.std.specs.Prelude.{ℕ, ◌≤◌, Bool, true, false, cond, List, [], ◌∷◌, ◌≡◌, length, Result, Ok}
use Rattle.endpoints.specs.Word as word
use Rattle.usb.specs.Pid.{IN, SPLIT, DATA0, ACK}
use Rattle.usb.specs.Packet.{payload_of, checked_of}
use Rattle.usb.specs.Fields.{token_of}
use Rattle.usb.specs.declared.reason.Reason.{Reason}
use Rattle.usb.specs.declared.fields.Token.{Token}
use Rattle.details.specs.declared.Detail.{Detail}
use Rattle.details.specs.declared.Device.{Device}
use Rattle.endpoints.specs.declared.Endpoint.{Endpoint}
use Rattle.endpoints.specs.declared.Phase.TheVariants.{Active}
use Rattle.transaction.specs.Status.{transaction_status}
use Rattle.transaction.specs.declared.Status.{Status}
use Rattle.transaction.specs.declared.Style.TheVariants.{Simple}
use Rattle.transaction.specs.declared.Transaction.{Transaction}
use Rattle.group.specs.Step.{step_of}
use Rattle.group.specs.Group.{group_status}
use Rattle.group.specs.declared.GroupStatus.{GroupStatus}
use Rattle.rules.specs.Decoder.{handle_event}
use Rattle.rules.specs.Events.{LsKeepalive}
use Rattle.rules.specs.World.{World}
use Rattle.rules.specs.declared.Slot.{Slot}
use Rattle.call.specs.Outcome.{is_full, world_at}
use Rattle.call.specs.State.{Logs, State}
use Rattle.start.specs.Fresh.{Makes}
use Rattle.packet.specs.Call.{after, PacketCall}
use Rattle.events.specs.Call.{EventCall}

-- ---- the cases

-- a call, any one of its kind
pub data Any : Type 0 where
  -- a packet that is a valid SPLIT, at any time, with any shelf
  any_split : Any
  -- a keepalive, with any code at any time
  any_keepalive : Any
  -- a packet of any bytes, at most 4,096, at any time, with any shelf
  any_packet : Any

infixl 80 ◌answers◌
infixl 80 ◌leaves◌
-- a call and its answer, or a call that answers 0 and what the slot holds after it
pub data Step : Type 0 where
  ◌answers◌ : Any → ℕ → Step
  ◌leaves◌ : Any → Slot → Step

pub data Case : Type 0 where
  -- a packet's bytes, and what the check says
  check : List ℕ → Result ℕ Reason → Case
  -- a token's bytes, and its address and number
  token : List ℕ → Token → Case
  -- a data packet's bytes, and its payload
  payload : List ℕ → List ℕ → Case
  -- a transaction that this token began, on an endpoint of a type that the first test takes, then a valid DATA0 of a length that the second
  -- takes, such as this one; and its status
  data0 : ℕ → (ℕ → Bool) → (ℕ → Bool) → List ℕ → Status → Case
  -- the length of a payload, the max packet size (0: unknown), and whether the payload is short
  short : ℕ → ℕ → Bool → Case
  -- an endpoint's type, the length of a payload that a group of INs there gets, the max packet size, and the group's status
  group : ℕ → ℕ → ℕ → GroupStatus → Case
  -- calls on a fresh decoder, one after the other
  calls : List Step → Case

-- ---- a transaction and its DATA0

-- one token, and nothing since
pub record Began (pid : ℕ) (t : Transaction) : Type 0 where
  pub style : t.style ≡ Simple pid
  pub last : t.last ≡ pid

-- ---- a payload and its group

-- a transaction with a payload of so many bytes
pub record Brings (len : ℕ) (t : Transaction) : Type 0 where
  pub filled : t.filled ≡ true
  pub payload : t.payload ≡ len

-- an endpoint with an active group of INs that went well
abbrev pub going : Endpoint
going =
    record {
      device = 0;
      address = 129;
      phase = Active;
      state = 2;
      transactions = 1;
      groups = 1;
      total = 64;
      first = IN;
      done = true;
      last = IN;
      success = true;
      ready = false;
      setup = 0;
      payload = 0;
      pending = false;
      pendinglength = 0;
      pendinglink = 0;
    }

-- an IN whose payload has len bytes
abbrev pub read : ℕ → ℕ → Transaction
read type len =
    record {
      style = Simple IN;
      id = 1;
      last = ACK;
      endpoint = 3;
      kind = type;
      linked = true;
      link = 1;
      ready = false;
      setup = 0;
      filled = true;
      payload = len;
    }

abbrev pub detail : ℕ → ℕ → Detail
detail type size = record { kind = type; given = false; max = size }

-- ---- calls

-- P holds of each call of this kind on the state s: of the world that the rules end in, and of each answer and state that the contract permits
abbrev pub Each : Any → State → (World → ℕ → State → Type 0) → Type 0
Each any_split s P =
    (p : List ℕ) (time : ℕ) (h : List ℕ) (a : ℕ) (s' : State) (h' : List ℕ)
    → checked_of p ≡ Ok SPLIT → PacketCall p time s h a s' h' → P (after p time s h) a s'
Each any_keepalive s P =
    (code time a : ℕ) (s' : State) → EventCall LsKeepalive code time s a s' → P (handle_event LsKeepalive code time (world_at s)) a s'
Each any_packet s P =
    (p : List ℕ) (time : ℕ) (h : List ℕ) (a : ℕ) (s' : State) (h' : List ℕ)
    → length p ≤ 4096 → PacketCall p time s h a s' h' → P (after p time s h) a s'

abbrev pub kind_of : Step → Any
kind_of (k answers n) = k
kind_of (k leaves x) = k

abbrev pub answer_of : Step → ℕ
answer_of (k answers n) = n
answer_of (k leaves x) = 0

abbrev pub Leaves : Step → State → Type 0
Leaves (k answers n) s' = Unit {0}
Leaves (k leaves x) s' = s'.decoder.slot ≡ x

-- from the state s on: each call answers its number, or 7 exactly where there is no room; and where it answers its number, the next goes on from
-- what it left
abbrev pub Goes : List Step → State → Type 0
Goes [] s = Unit {0}
Goes (k ∷ ks) s =
    Each (kind_of k) s (λ w a s'. (a ≡ cond (is_full s w) 7 (answer_of k)) × (a ≡ answer_of k → Leaves k s' × Goes ks s'))

-- ---- what each case says

-- to every transaction that began with pid, of these types, every DATA0 of these lengths has the status a, in either mode
abbrev pub Judged : ℕ → (ℕ → Bool) → (ℕ → Bool) → Status → Type 0
Judged pid types lengths a =
    (high : Bool) (t : Transaction) (q : List ℕ) → Began pid t → types t.kind ≡ true → checked_of q ≡ Ok DATA0 → lengths (length q) ≡ true
    → (transaction_status high t q).status ≡ a

abbrev pub Holds : Case → Type 0
Holds (check p a) = checked_of p ≡ a
Holds (token p a) = token_of p ≡ a
Holds (payload p a) = payload_of p ≡ a
Holds (data0 pid types lengths p a) =
    ((checked_of p ≡ Ok DATA0) × (lengths (length p) ≡ true))
    ×
    Judged pid types lengths a
Holds (short len max a) =
    (e : Endpoint) (t : Transaction) (type : ℕ) (success complete : Bool) → Brings len t → (step_of e t (detail type max) success complete).short ≡ a
Holds (group type len max a) = (group_status going (read type len) (detail type max) true true).status ≡ a
Holds (calls ks) =
    (high : Bool) (v : List Device) (t : List ℕ) (l : Logs) (s : State) → length v ≡ 64 → length t ≡ word.table → Makes high v t l 0 s → Goes ks s

abbrev pub All : List Case → Type 0
All [] = Unit {0}
All (c ∷ cs) = Holds c × All cs
