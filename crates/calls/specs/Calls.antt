-- To be believed: what the entries for single calls answer and leave, of the record's words, the table, the logs and the shelf.
-- Hold it to: ours: the C entries pivotspark_fresh, pivotspark_packet, pivotspark_event and pivotspark_finish, each to the contract of its call
use Rattle.std.specs.Prelude.{ℕ, Bool, true, cond, List, ◌≡◌}
use Rattle.handle.specs.Words.{decoder_in, devices_in, stored}
use Rattle.call.specs.Outcome.{accepts}
use Rattle.call.specs.State.{Logs, State, state}
use Rattle.start.specs.Fresh.{Makes, no_devices}
use Rattle.packet.specs.Call.{PacketCall}
use Rattle.events.specs.Call.{EventCall, FinishCall}

-- what the words of a record stand for, with the table and the logs that are lent beside it
abbrev pub state_in : List ℕ → List ℕ → Logs → State
state_in w t l = state (decoder_in w) (devices_in w) t l

-- where the record is stored, only the words of its fields change; where it is not, every word is as it was
abbrev pub Kept : Bool → List ℕ → List ℕ → Type 0
Kept on w w' = w' ≡ cond on (stored w (decoder_in w') (devices_in w')) w

-- a fresh decoder in this mode, or the record of a refused one, "that every call answers 1" (01): the words stand for it
pub record FreshKept (high : Bool) (w t : List ℕ) (l : Logs) (a : ℕ) (w' t' : List ℕ) (l' : Logs) : Type 0 where
  pub makes : Makes high no_devices t l a (state_in w' t' l')
  pub words : Kept true w w'

pub record PacketKept (packet : List ℕ) (time : ℕ) (w t : List ℕ) (l : Logs) (h : List ℕ) (a : ℕ) (w' t' : List ℕ) (l' : Logs) (h' : List ℕ) : Type 0 where
  pub call : PacketCall packet time (state_in w t l) h a (state_in w' t' l') h'
  pub words : Kept (accepts a) w w'

pub record EventKept (kind code time : ℕ) (w t : List ℕ) (l : Logs) (a : ℕ) (w' t' : List ℕ) (l' : Logs) : Type 0 where
  pub call : EventCall kind code time (state_in w t l) a (state_in w' t' l')
  pub words : Kept (accepts a) w w'

pub record FinishKept (w t : List ℕ) (l : Logs) (a : ℕ) (w' t' : List ℕ) (l' : Logs) : Type 0 where
  pub call : FinishCall (state_in w t l) a (state_in w' t' l')
  pub words : Kept (accepts a) w w'
