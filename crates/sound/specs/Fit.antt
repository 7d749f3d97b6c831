-- Inner (cited by private contracts alone): what every call keeps of a world (rules, World): the clauses of 01's "well formed" that counts and numbers come
-- under, and the payloads added up.
-- The other two clauses are those of rules, Linked and Tokened.
use Rattle.std.specs.Prelude.{ℕ, ◌+◌, ◌<◌, ◌≤◌, Bool, true, false, ◌&&◌, ◌||◌, List, [], ◌∷◌, ◌⊎◌, ◌≡◌, eqb}
use Rattle.rows.specs.One.{one}
use Rattle.transaction.specs.Table.{pick}
use Rattle.transaction.specs.declared.Transaction.{Transaction}
use Rattle.endpoints.specs.declared.Endpoint.{Endpoint}
use Rattle.rules.specs.Rows.{Row, written}
use Rattle.rules.specs.World.{World, no_item}
use Rattle.rules.specs.declared.Slot.{Slot}
use Rattle.rules.specs.declared.Slot.TheVariants.{Empty, Current, Suspended}
use Rattle.record.specs.Formed.{standing, holds}
use Rattle.record.proofs.FormedLaws.{Special}

-- ---- rows of the link log among those appended

abbrev pub link_rows : List Row → ℕ
link_rows [] = 0
link_rows (r ∷ js) = one (eqb (written r).0 10) + link_rows js

-- ---- counts and numbers

-- an endpoint, where there are so many link rows and devices
pub record EntryFit (links devices : ℕ) (e : Endpoint) : Type 0 where
  pub transactions : e.transactions ≤ links
  pub groups : e.groups ≤ links
  pub device : e.device < devices
  pub pendinglink : e.pending ≡ true → e.pendinglink < e.transactions
  pub group : standing e.phase ≡ true → 0 < e.groups

-- the transaction that is held, where endpoint 0 is none
pub record HeldFit (t : Transaction) (endpoints : ℕ → Endpoint) (count transactions : ℕ) : Type 0 where
  pub endpoint : t.endpoint < count
  pub id : t.id < transactions
  pub link : t.linked ≡ true → (0 < t.endpoint) × (t.link < (endpoints t.endpoint).transactions)

-- n link rows stood before the journal
pub record Fit (n : ℕ) (w : World) : Type 0 where
  pub device : 0 < w.device_count
  pub first : (w.devices 0).address ≡ 0
  pub three : 3 ≤ w.count
  pub event : Special (w.endpoints 0) 0x10
  pub invalid : Special (w.endpoints 1) 0x11
  pub framing : Special (w.endpoints 2) 0x12
  pub rests : standing (w.endpoints 0).phase ≡ false
  pub entries : (i : ℕ) → i < w.count → EntryFit (n + link_rows w.journal) w.device_count (w.endpoints i)
  pub held : holds w.slot ≡ true → HeldFit w.transaction w.endpoints w.count w.transactions
  pub last : (w.last_item ≡ no_item) ⊎ ((w.last_item < w.count) × (0 < w.items))

-- ---- payloads

-- what an endpoint has in hand: its control payload, and one that waits
abbrev pub in_hand : Endpoint → ℕ
in_hand e = e.payload + pick e.pending e.pendinglength 0

-- what the transaction that is held may bring to endpoint i: it is on that endpoint or, a split without its token, on none yet
abbrev pub brings : Slot → Transaction → ℕ → ℕ
brings s t i = pick (holds s && (t.filled && (eqb t.endpoint 0 || eqb t.endpoint i))) t.payload 0

-- together they do not pass the packet bytes
abbrev pub Paid : World → Type 0
Paid w = (i : ℕ) → i < w.count → in_hand (w.endpoints i) + brings w.slot w.transaction i ≤ w.bytes
