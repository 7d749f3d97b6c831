-- To be believed: making a fresh decoder (fn new of decoder.rs); words in quotation marks are those of 01, "Answer numbers".
-- Hold it to: 01, "Answer numbers": "Making a fresh decoder .."; Decoder::new of decoder.rs; 02, 6: "a mode, chosen at the fresh decoder"
use Rattle.std.specs.Prelude.{ℕ, Bool, cond, ◌≡◌}
use mathlib.Core.List.{List, replicate}
use Rattle.std.proofs.lemmas.List.Edits.{sets}
use Rattle.details.specs.Details.{fresh as freshDevice}
use Rattle.details.specs.declared.Device.{Device}
use Rattle.rules.specs.Decoder.{fresh}
use Rattle.rules.specs.Rows.{log}
use Rattle.record.specs.Fresh.{counts_of, fresh_decoder, fresh_devices, fresh_table, refused_decoder}
use Rattle.record.specs.Room.{fitting, long}
use Rattle.record.specs.declared.Counts.{Counts}
use Rattle.call.specs.State.{Logs, logs, State, state, room_of}

-- "answers 0 and writes one device and three endpoint rows, or 1 (a log too long) or 7"
unfoldable pub fresh_answer : Counts → ℕ
fresh_answer room = cond (long room) 1 (cond (fitting (counts_of 1 3) room) 0 7)

-- those rows: what the rules' `fresh` has in its journal, from the start of each log
abbrev pub made_logs : Logs → Logs
made_logs l =
    logs l.bytes (sets l.devices 0 (log 1 fresh.journal)) (sets l.endpoints 0 (log 2 fresh.journal)) l.packets l.events l.transactions
    l.groups l.statebytes l.states l.items l.links l.requests

unfoldable pub made : Bool → List Device → List ℕ → Logs → State
made high v t l = state (fresh_decoder high) (fresh_devices v) (fresh_table t) (made_logs l)

-- "refused, it writes nothing and returns a record that every call answers 1"
unfoldable pub unmade : List Device → List ℕ → Logs → State
unmade v t l = state refused_decoder v t l

-- on these devices, this table and these logs a fresh decoder is made in this mode with answer a, and leaves s'
pub record Makes (high : Bool) (v : List Device) (t : List ℕ) (l : Logs) (a : ℕ) (s' : State) : Type 0 where
  pub answer : a ≡ fresh_answer (room_of l)
  pub accepted : a ≡ 0 → s' ≡ made high v t l
  pub refused : (a ≡ 0 → ⊥) → s' ≡ unmade v t l

-- the devices that a run makes its decoder on: none is there yet
abbrev pub no_devices : List Device
no_devices = replicate 64 (freshDevice 0)
