-- Laws (proved): what is claimed of `sound`: it implies 01's "well formed", a fresh decoder has it, and every call keeps it on any state, whatever the answer
-- (proofs/Keeps.antt proves it).
use Rattle.std.specs.Prelude.{ℕ, ◌<◌, Bool, true, false, List, ◌≡◌, length}
use Rattle.endpoints.specs.Word as word
use Rattle.details.specs.declared.Device.{Device}
use Rattle.call.specs.Outcome.{is_ill}
use Rattle.call.specs.State.{Logs, State}
use Rattle.typed.specs.Detail.{Details}
use Rattle.start.specs.Fresh.{Makes}
use Rattle.packet.specs.Call.{PacketCall}
use Rattle.events.specs.Call.{EventCall, FinishCall}
use Rattle.sound.specs.Sound.{is_sound}

-- a call, by the answers and the states that its contract permits
abbrev pub Keeps : (State → ℕ → State → Type 0) → Type 0
Keeps Permits = (s : State) (a : ℕ) (s' : State) → Permits s a s' → is_sound s ≡ true → is_sound s' ≡ true

pub record Kept : Type 0 where
  -- so that no call on a sound state answers 1
  pub well : (s : State) → is_sound s ≡ true → is_ill s ≡ false
  -- fresh, answered 0, with a table of all its words and a row for the first device
  pub fresh : (high : Bool) (v : List Device) (t : List ℕ) (l : Logs) (s : State) → Makes high v t l 0 s → length t ≡ word.table → 0 < length v → is_sound s ≡ true
  -- whatever the shelf holds
  pub packet : (bytes : List ℕ) (time : ℕ) (shelf shelf' : List ℕ) → Keeps (λ s a s'. PacketCall bytes time s shelf a s' shelf')
  pub event : (kind code time : ℕ) → Keeps (EventCall kind code time)
  pub detail : (address number direction kind max : ℕ) → Keeps (Details address number direction kind max)
  pub finish : Keeps FinishCall
