-- To be believed: demand 3 of one endpoint: what is claimed, of its marks and of its rows in the link log (proofs/Demand.antt and proofs/Links.antt prove it).
-- Hold it to: demand 3, sentence by sentence (docs/PROVED.md)
use Rattle.std.specs.Prelude.{◌≡◌, Bool, ◌&&◌, List, [], ◌∷◌, ◌++◌, ℕ, zero, suc, ◌<◌, eqb, length, get_or}
use Rattle.transaction.specs.Table.{pick}
use Rattle.endpoints.specs.declared.Phase.TheVariants.{None}
use Rattle.rules.specs.Rows.{Row, log}
use Rattle.rules.specs.World.{World, with_shelf, event_ep, phase}
use Rattle.rules.specs.Decoder.{handle_raw_packet, handle_event, handle_detail, finish}
use Rattle.rules.specs.Marks.{Mark, marks, endings, First, Asserted, InTurn}

-- a call that is not refused: bytes, time and the shelf that is lent; kind, code and time; address, number, direction, type and max; finish
pub data Call : Type 0 where
  packet : List ℕ → ℕ → List ℕ → Call
  event : ℕ → ℕ → ℕ → Call
  detail : ℕ → ℕ → ℕ → ℕ → ℕ → Call
  finishing : Call

abbrev pub call : Bool → Call → World → World
call high (packet p time shelf) w = handle_raw_packet high p time (with_shelf shelf w)
call high (event kind code time) w = handle_event kind code time w
call high (detail a n r k m) w = handle_detail a n r k m w
call high finishing w = finish w

-- the groups started number those closed, or one more; that one is open (it has not ended), or it has ended and waits
pub data Standing (started ended closed : ℕ) : Type 0 where
  none : started ≡ closed → ended ≡ closed → Standing started ended closed
  open-one : started ≡ suc closed → ended ≡ closed → Standing started ended closed
  waiting-one : started ≡ suc closed → ended ≡ suc closed → Standing started ended closed

abbrev pub up_to : ℕ → List ℕ
up_to zero = []
up_to (suc n) = up_to n ++ (n ∷ [])

-- of one endpoint: how many groups it started, the items that its closing rows name, and its marks
pub record Demand3 (started : ℕ) (closed : List ℕ) (ms : List Mark) : Type 0 where
  -- started and closed groups differ by at most one, and the extra one is open or waiting, never both
  pub standing : Standing started (length (endings ms)) (length closed)
  -- the groups end in order, each once: 0, 1, 2 ..
  pub ended : endings ms ≡ up_to (length (endings ms))
  -- each as the last that was started
  pub turned : InTurn ms
  -- closing row k names the first item added after group k ended
  pub closing : (k : ℕ) → k < length closed → First k (get_or closed k 0) ms
  -- and the Rust's assert holds at each closing row
  pub asserted : Asserted ms

-- the last numbers of an endpoint's rows of one kind in the link log (four words a row; G is 1, E is 3)
abbrev pub links_of : ℕ → ℕ → List ℕ → List ℕ
links_of kind e [] = []
links_of kind e (a ∷ []) = []
links_of kind e (a ∷ b ∷ []) = []
links_of kind e (a ∷ b ∷ c ∷ []) = []
links_of kind e (a ∷ b ∷ c ∷ d ∷ ws) = pick (eqb a kind && eqb e b) (c ∷ links_of kind e ws) (links_of kind e ws)

-- the event endpoint has no group that is not closed, and none of its groups ends or has a closing row
pub record Quiet (js : List Row) (w : World) : Type 0 where
  pub phases : phase event_ep w ≡ None
  pub endless : endings (marks event_ep js) ≡ []
  pub unclosed : links_of 3 event_ep (log 10 js) ≡ []
