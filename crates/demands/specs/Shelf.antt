-- Laws (proved): what a packet reads of the shelf that is lent to it (02, 2): of each device the entries that its row says it keeps, and for each endpoint as many bytes
-- of its device's payload as count. Any other byte may be anything: it decides neither the answer nor the record, the devices, the table and the logs that are
-- left. proofs/Shelves.antt proves it.
use Rattle.std.specs.Prelude.{ℕ, ◌+◌, ◌*◌, min, List, ◌≡◌, length, take, drop}
use Rattle.rules.specs.World.{World}
use Rattle.call.specs.Outcome.{world_at}
use Rattle.call.specs.State.{State}
use Rattle.packet.specs.Call.{PacketCall}

-- the k bytes from `at` on are the same
abbrev pub Agree : ℕ → ℕ → List ℕ → List ℕ → Type 0
Agree at k h g = take k (drop at h) ≡ take k (drop at g)

-- two shelves that hold the same where something is kept
pub record SameKept (w : World) (h g : List ℕ) : Type 0 where
  pub long : length h ≡ length g
  -- the bytes of a request under way that count, up to 4,096
  pub payload : (x : ℕ) → Agree ((w.endpoints x).device * 8192) (min (w.endpoints x).payload 4096) h g
  -- the entries, of 7 bytes each, up to 585
  pub entries : (i : ℕ) → Agree (i * 8192 + 4096) (min (w.devices i).kept 585 * 7) h g

-- on any state: the same answer, and the same state after it
abbrev pub Reads : Type 0
Reads =
    (packet : List ℕ) (time : ℕ) (s : State) (h g : List ℕ) (a b : ℕ) (s' s'' : State) (h' g' : List ℕ)
    → SameKept (world_at s) h g
    → PacketCall packet time s h a s' h'
    → PacketCall packet time s g b s'' g'
    → (a ≡ b) × (s' ≡ s'')
