-- To be believed: what the rows of a journal are to one endpoint. Marks, like rows, stand the newest first.
-- Hold it to: demand 3: "the first item added after that group ended"; the assert of add_item in decoder.rs
use Rattle.std.specs.Prelude.{◌≡◌, List, [], ◌∷◌, ◌++◌, ℕ, suc, eqb, length, Option, Some, None}
use Rattle.transaction.specs.Table.{pick}
use Rattle.rules.specs.Rows.{Row, BytesRow, DeviceRow, EndpointRow, PacketRow, EventRow, TransactionRow, GroupRow, StateRow, StateBytes, ItemRow, T, G, D, E, RequestRow, Over}

pub data Mark : Type 0 where
  -- nothing to this endpoint
  other : Mark
  -- a group of its own was started (its G row)
  started : Mark
  -- its group k ended
  ended : ℕ → Mark
  -- an item was added, whatever endpoint's
  item : Mark
  -- its next closing row names item i (its E row)
  closed : ℕ → Mark

abbrev pub mark : ℕ → Row → Mark
mark e (BytesRow bs) = other
mark e (DeviceRow a) = other
mark e (EndpointRow d n r) = other
mark e (PacketRow s t) = other
mark e (EventRow p c) = other
mark e (TransactionRow r) = other
mark e (GroupRow r) = other
mark e (StateRow s) = other
mark e (StateBytes ss) = other
mark e (ItemRow g) = item
mark e (T x t) = other
mark e (G x t) = pick (eqb e x) started other
mark e (D x t n) = other
mark e (E x i) = pick (eqb e x) (closed i) other
mark e (RequestRow r) = other
mark e (Over x k) = pick (eqb e x) (ended k) other

abbrev pub marks : ℕ → List Row → List Mark
marks e [] = []
marks e (r ∷ js) = mark e r ∷ marks e js

-- how many groups were started
abbrev pub starts : List Mark → ℕ
starts [] = 0
starts (other ∷ ms) = starts ms
starts (started ∷ ms) = suc (starts ms)
starts (ended k ∷ ms) = starts ms
starts (item ∷ ms) = starts ms
starts (closed i ∷ ms) = starts ms

-- the groups that ended, in order
abbrev pub endings : List Mark → List ℕ
endings [] = []
endings (other ∷ ms) = endings ms
endings (started ∷ ms) = endings ms
endings (ended k ∷ ms) = endings ms ++ (k ∷ [])
endings (item ∷ ms) = endings ms
endings (closed i ∷ ms) = endings ms

-- the items that the closing rows name, in order
abbrev pub closings : List Mark → List ℕ
closings [] = []
closings (other ∷ ms) = closings ms
closings (started ∷ ms) = closings ms
closings (ended k ∷ ms) = closings ms
closings (item ∷ ms) = closings ms
closings (closed i ∷ ms) = closings ms ++ (i ∷ [])

-- how many items were added: the next item has this number
abbrev pub items : List Mark → ℕ
items [] = 0
items (other ∷ ms) = items ms
items (started ∷ ms) = items ms
items (ended k ∷ ms) = items ms
items (item ∷ ms) = suc (items ms)
items (closed i ∷ ms) = items ms

-- the group that ended last
abbrev pub last_ended : List Mark → Option ℕ
last_ended [] = None
last_ended (other ∷ ms) = last_ended ms
last_ended (started ∷ ms) = last_ended ms
last_ended (ended k ∷ ms) = Some k
last_ended (item ∷ ms) = last_ended ms
last_ended (closed i ∷ ms) = last_ended ms

-- item i is the first that was added after group k ended: read from the newest back, the marks are later ones, the item, some without an item,
-- the end of group k, and those before it, with i items among them
pub record First (k i : ℕ) (ms : List Mark) : Type 0 where
  pub later : List Mark
  pub between : List Mark
  pub before : List Mark
  pub whole : ms ≡ later ++ (item ∷ (between ++ (ended k ∷ before)))
  pub no_item : items between ≡ 0
  pub number : items before ≡ i

-- assert!(end_id == ep_group_id) of add_item, at each closing row: end_id is the number of closing rows before it, ep_group_id the group that ended last
abbrev pub Asserted : List Mark → Type 0
Asserted [] = Unit {0}
Asserted (other ∷ ms) = Asserted ms
Asserted (started ∷ ms) = Asserted ms
Asserted (ended k ∷ ms) = Asserted ms
Asserted (item ∷ ms) = Asserted ms
Asserted (closed i ∷ ms) = (last_ended ms ≡ Some (length (closings ms))) × Asserted ms

-- a group that ends is the last that was started: where group k ends there are k + 1 G rows, so group k is the one of G row k
abbrev pub InTurn : List Mark → Type 0
InTurn [] = Unit {0}
InTurn (other ∷ ms) = InTurn ms
InTurn (started ∷ ms) = InTurn ms
InTurn (ended k ∷ ms) = (starts ms ≡ suc k) × InTurn ms
InTurn (item ∷ ms) = InTurn ms
InTurn (closed i ∷ ms) = InTurn ms
