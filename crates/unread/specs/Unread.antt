-- Laws (proved): what the shelf held does not matter (02, 2; demands, Shelf says what one packet reads of it). From a fresh decoder, over any calls, refused ones among them, each packet on the
-- shelf that the packet before it left: whatever the shelf held at first, the answers are the same, and so is the state that is left, which is the record, the devices with their details, the
-- endpoint table and every byte of every log. proofs/Unread.antt proves it.
use Rattle.std.specs.Prelude.{ℕ, Bool, List, [], ◌∷◌, ◌≡◌, length}
use Rattle.details.specs.declared.Device.{Device}
use Rattle.endpoints.specs.Word as word
use Rattle.call.specs.State.{Logs, State}
use Rattle.typed.specs.Detail.{Details}
use Rattle.start.specs.Fresh.{Makes}
use Rattle.packet.specs.Call.{PacketCall}
use Rattle.events.specs.Call.{EventCall, FinishCall}

-- a call's arguments: bytes and time; kind, code and time; address, number, direction, type and max; none
pub data Ask : Type 0 where
  packet : List ℕ → ℕ → Ask
  event : ℕ → ℕ → ℕ → Ask
  detail : ℕ → ℕ → ℕ → ℕ → ℕ → Ask
  finishing : Ask

-- on the state s, with the shelf h beside it, the call answers a and leaves s' and h', by the contract of its public function; the shelf is lent to packets alone
abbrev pub Does : Ask → State → List ℕ → ℕ → State → List ℕ → Type 0
Does (packet bytes time) s h a s' h' = PacketCall bytes time s h a s' h'
Does (event kind code time) s h a s' h' = EventCall kind code time s a s' × (h' ≡ h)
Does (detail address number direction kind max) s h a s' h' = Details address number direction kind max s a s' × (h' ≡ h)
Does finishing s h a s' h' = FinishCall s a s' × (h' ≡ h)

-- calls in their order, each on what the one before left, with their answers
pub data Calls : List Ask → State → List ℕ → List ℕ → State → List ℕ → Type 0 where
  none : {s : State} {h : List ℕ} → Calls [] s h [] s h
  next : {ks : List Ask} {s s₁ s₂ : State} {h h₁ h₂ answers : List ℕ} (k : Ask) (a : ℕ) → Does k s h a s₁ h₁ → Calls ks s₁ h₁ answers s₂ h₂ → Calls (k ∷ ks) s h (a ∷ answers) s₂ h₂

-- a fresh decoder answered 0, in either mode, on any 64 devices, any table of 2,704 words and any logs; and two shelves of one length, that hold anything
abbrev pub Unread : Type 0
Unread =
    (high : Bool) (v : List Device) (t : List ℕ) (l : Logs) (s : State) → length v ≡ 64 → length t ≡ word.table → Makes high v t l 0 s
    → (ks : List Ask) (h g : List ℕ) → length h ≡ length g
    → (one other : List ℕ) (s' s'' : State) (h' g' : List ℕ)
    → Calls ks s h one s' h'
    → Calls ks s g other s'' g'
    → (one ≡ other) × (s' ≡ s'')
