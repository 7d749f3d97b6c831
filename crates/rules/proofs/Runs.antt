-- A run of calls from a fresh decoder, computed; what it leaves in each log (proofs/Oracle.antt).
use mathlib.Core.Bool.{Bool, false}
use mathlib.Core.Path.{◌≡◌}
use mathlib.Core.List.{List, [], ◌∷◌}
use Prim.Native.Nat.{ℕ, zero, suc}
use lib.ListN.{get_or}
use Rattle.rules.specs.Rows.{log}
use Rattle.rules.specs.World.{World, with_endpoints, with_devices}
use Rattle.rules.specs.Decoder.{nothing_yet, fresh}
use Rattle.rules.specs.Demand.{Call, call}
use Rattle.rules.specs.Demand as demand

abbrev below : {A : Type 0} → ℕ → (ℕ → A) → List A → List A
below zero f acc = acc
below (suc n) f acc = below n f (f n ∷ acc)

-- the tables written out, so that the next call computes with values
abbrev settle : World → World
settle w =
    let es = below w.count w.endpoints [] in
    let ds = below w.device_count w.devices [] in
    with_devices (λ j. get_or ds j (nothing_yet.devices j)) (with_endpoints (λ j. get_or es j (nothing_yet.endpoints j)) w)

-- a call of a run goes on with the shelf that the one before left
abbrev pub Lent : Type 0
Lent = List ℕ → Call

abbrev pub packet : List ℕ → ℕ → Lent
packet p time shelf = demand.packet p time shelf

abbrev pub event : ℕ → ℕ → ℕ → Lent
event kind code time shelf = demand.event kind code time

abbrev pub detail : ℕ → ℕ → ℕ → ℕ → ℕ → Lent
detail address number direction kind max shelf = demand.detail address number direction kind max

abbrev pub finishing : Lent
finishing shelf = demand.finishing

abbrev pub runs_in : Bool → List Lent → World → World
runs_in high [] w = w
runs_in high (k ∷ ks) w = runs_in high ks (settle (call high (k w.shelf) w))

-- without the mode of 02, 6
abbrev pub runs : List Lent → World → World
runs calls w = runs_in false calls w

-- each log of a world, in the order of their numbers
abbrev pub logs : World → List (List ℕ)
logs w = below 12 (λ k. log k w.journal) []

-- what a run leaves, in a mode and without it
abbrev pub LeavesIn : Bool → List Lent → List (List ℕ) → Type 0
LeavesIn high calls words = logs (runs_in high calls fresh) ≡ words

abbrev pub Leaves : List Lent → List (List ℕ) → Type 0
Leaves calls words = LeavesIn false calls words
