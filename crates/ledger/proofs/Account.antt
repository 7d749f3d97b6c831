-- Laws (proved): what the ledger says of a world, and that each call keeps it (proofs/Laws.antt proves it): what is held and what waits is what the transaction and the
-- endpoints have; each endpoint's total is the sum of the lengths counted there, and its D rows are the running sums.
use Rattle.std.specs.Prelude.{Bool, true, false, not, ◌&&◌, List, [], ◌∷◌, ◌++◌, ◌⊎◌, ◌≡◌, ℕ, ◌-◌, ◌<◌, eqb, ltb, length}
use Rattle.transaction.specs.Status.{transaction_status}
use Rattle.transaction.specs.Table.{pick}
use Rattle.transaction.specs.declared.Status.{Status}
use Rattle.transaction.specs.declared.Status.TheVariants.{New, Continue, Retry, Done, Fail, Ambiguous, Invalid}
use Rattle.endpoints.specs.declared.Endpoint.{Endpoint}
use Rattle.rules.specs.Rows.{Row, BytesRow, DeviceRow, EndpointRow, PacketRow, EventRow, TransactionRow, GroupRow, StateRow, StateBytes, ItemRow, T, G, D, E, RequestRow, Over}
use Rattle.rules.specs.World.{World}
use Rattle.rules.specs.Demand.{Call, packet, event, detail, finishing, call}
use Rattle.rules.specs.Tokened.{Stands}
use Rattle.rules.specs.Transactions.{resume_at, state_at, is_dropped}
use Rattle.rules.specs.declared.Slot.{Slot}
use Rattle.rules.specs.declared.Slot.TheVariants.{Empty, Current, Suspended}
use Rattle.ledger.specs.Ledger.{Fate, Held, Waiting, Counted, Passed, Line, Ledger, is_held, is_waiting, is_counted, lengths_of, sum, running, is_data, turns}

-- ---- what a world has

-- the payload of the transaction, where there is one
abbrev pub held_by : Slot → Bool → ℕ → List ℕ
held_by Empty filled n = []
held_by Current filled n = pick filled (n ∷ []) []
held_by Suspended filled n = pick filled (n ∷ []) []

-- of an endpoint
pub record Tally : Type 0 where
  pub total : ℕ
  pub waits : List ℕ

abbrev pub tally : Endpoint → Tally
tally e = record { total = e.total; waits = pick e.pending (e.pendinglength ∷ []) [] }

abbrev pub blank : Tally
blank = record { total = 0; waits = [] }

-- the totals in the D rows of endpoint e, in order
abbrev pub with_row : ℕ → Row → List ℕ → List ℕ
with_row e (BytesRow bs) ns = ns
with_row e (DeviceRow a) ns = ns
with_row e (EndpointRow d n r) ns = ns
with_row e (PacketRow s t) ns = ns
with_row e (EventRow p c) ns = ns
with_row e (TransactionRow r) ns = ns
with_row e (GroupRow r) ns = ns
with_row e (StateRow s) ns = ns
with_row e (StateBytes ss) ns = ns
with_row e (ItemRow g) ns = ns
with_row e (T x t) ns = ns
with_row e (G x t) ns = ns
with_row e (D x t n) ns = pick (eqb e x) (ns ++ (n ∷ [])) ns
with_row e (E x i) ns = ns
with_row e (RequestRow r) ns = ns
with_row e (Over x k) ns = ns

abbrev pub data_rows : ℕ → List Row → List ℕ
data_rows e [] = []
data_rows e (r ∷ js) = with_row e r (data_rows e js)

pub record View : Type 0 where
  pub held : List ℕ
  pub entry : ℕ → Tally
  pub rows : ℕ → List ℕ

-- behind the rows js; there is nothing behind the last endpoint
abbrev pub view : List Row → World → View
view js w =
    record {
      held = held_by w.slot w.transaction.filled w.transaction.payload;
      entry = λ e. pick (ltb e w.count) (tally (w.endpoints e)) blank;
      rows = λ e. data_rows e (w.journal ++ js);
    }

-- ---- what the ledger says

-- so of every line
abbrev pub All : (Fate → Type 0) → Ledger → Type 0
All Q [] = Unit {0}
All Q (a ∷ l) = Q a.fate × All Q l

abbrev pub None : (Fate → Bool) → Ledger → Type 0
None these = All (λ f. these f ≡ false)

-- it may yet be counted at e
abbrev pub is_open : ℕ → Fate → Bool
is_open e Held = true
is_open e (Waiting y) = eqb e y
is_open e (Counted y) = false
is_open e (Passed why y) = false

-- payloads are counted at e in the order of their packets: behind one that was counted, none of the older ones is open
abbrev pub InOrder : ℕ → Ledger → Type 0
InOrder e [] = Unit {0}
InOrder e (a ∷ l) = (is_counted e a.fate ≡ true → None (is_open e) l) × InOrder e l

pub record Account (v : View) (l : Ledger) : Type 0 where
  pub held : lengths_of is_held l ≡ v.held
  pub waiting : (e : ℕ) → lengths_of (is_waiting e) l ≡ (v.entry e).waits
  pub total : (e : ℕ) → (v.entry e).total ≡ sum (lengths_of (is_counted e) l)
  pub rows : (e : ℕ) → v.rows e ≡ running 0 (lengths_of (is_counted e) l)
  pub ordered : (e : ℕ) → InOrder e l

-- ---- the packets that have a line, with the lengths of their payloads

abbrev pub entered : Ledger → List (ℕ × ℕ)
entered [] = []
entered (a ∷ l) = (a.packet, a.length) ∷ entered l

abbrev pub enters : Bool → Call → ℕ → List (ℕ × ℕ) → List (ℕ × ℕ)
enters high (packet p time shelf) n ps = pick (is_data high p) ((n, length p - 3) ∷ ps) ps
enters high (event kind code time) n ps = ps
enters high (detail address number direction kind max) n ps = ps
enters high finishing n ps = ps

-- ---- of a call, on every world where the special endpoints stand and the transaction is on one that is there

abbrev pub InsideAt : Slot → ℕ → ℕ → Type 0
InsideAt Empty x count = Unit {0}
InsideAt Current x count = x < count
InsideAt Suspended x count = x < count

abbrev pub Inside : World → Type 0
Inside w = InsideAt w.slot w.transaction.endpoint w.count

-- ---- when a payload is counted, and what is settled

abbrev pub is_earning : Status → Bool
is_earning New = false
is_earning Continue = false
is_earning Retry = true
is_earning Done = true
is_earning Fail = false
is_earning Ambiguous = false
is_earning Invalid = false

-- what a packet is to the transaction; a suspended one is resumed first
abbrev pub status_in : Bool → List ℕ → World → Status
status_in high p w = let v = resume_at w.slot w.packets w in (transaction_status high (state_at v.slot v.transaction) p).status

-- a packet that is Done or Retry, where it is not answered 8
abbrev pub earns : Bool → Call → World → Bool
earns high (packet p time shelf) w = not (is_dropped w.slot w.transaction) && is_earning (status_in high p w)
earns high (event kind code time) w = false
earns high (detail address number direction kind max) w = false
earns high finishing w = false

abbrev pub is_settled : Fate → Bool
is_settled Held = false
is_settled (Waiting y) = false
is_settled (Counted y) = true
is_settled (Passed why y) = true

abbrev pub Among : Line → Ledger → Type 0
Among a [] = ⊥
Among a (b ∷ l) = (a ≡ b) ⊎ Among a l

-- ---- the laws

pub record Laws (high : Bool) : Type 0 where
  pub account : (k : Call) (js : List Row) (w : World) (l : Ledger) → Stands w → Inside w → Account (view js w) l → Account (view js (call high k w)) (turns high k w l)
  -- each data packet has one line, and no other packet has one
  pub entered_by : (k : Call) (w : World) (l : Ledger) → entered (turns high k w l) ≡ enters high k w.packets (entered l)
  -- "it counts when the handshake says so": by no other call is a payload counted
  pub earned : (k : Call) (w : World) (l : Ledger) → earns high k w ≡ false → (e : ℕ) → lengths_of (is_counted e) (turns high k w l) ≡ lengths_of (is_counted e) l
  -- what is settled stays
  pub settled : (k : Call) (w : World) (l : Ledger) (a : Line) → is_settled a.fate ≡ true → Among a l → Among a (turns high k w l)
