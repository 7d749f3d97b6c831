-- The data packets of the packet log.
use Prim.Native.Nat.{ℕ, zero, suc, ◌-◌, ◌<◌}
use native.Mathlib.Omega.{arith}
use mathlib.Core.Bool.{Bool, false}
use mathlib.Core.List.{List, [], ◌∷◌}
use mathlib.Core.Path.{◌≡◌, refl}
use lib.ListN.{length}
use Rattle.usb.specs.Packet.{checked_of}
use Rattle.transaction.specs.Table.{pick}
use Rattle.ledger.specs.Ledger.{is_data}

-- the newest first: their rows and the lengths of their payloads
abbrev pub data_packets : Bool → ℕ → (ℕ → List ℕ) → List (ℕ × ℕ)
data_packets high zero f = []
data_packets high (suc n) f = pick (is_data high (f n)) ((n, length (f n) - 3) ∷ data_packets high n f) (data_packets high n f)

pub data_same : (high : Bool) (n : ℕ) (f g : ℕ → List ℕ) → ((k : ℕ) → k < n → f k ≡ g k) → data_packets high n f ≡ data_packets high n g
data_same high zero f g h = refl
data_same high (suc n) f g h = rw (h n (omega arith), data_same high n f g (λ k l. h k (omega arith)))

pub no_data : (high : Bool) → is_data high [] ≡ false
unfolding checked_of
no_data high = refl
