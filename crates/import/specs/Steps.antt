-- Inner (cited by private contracts alone): records of a file that lead from one state to another, and what the rounds of an import come to.
use Rattle.std.specs.Prelude.{ℕ, ◌+◌, Result, ◌≤◌, ◌<◌, Bool, true, false, List, ◌≡◌, length}
use Rattle.details.specs.declared.Device.{Device}
use Rattle.record.specs.declared.Decoder.{Decoder}
use Rattle.pcap.specs.Pcap.{head_answer, head_place}
use Rattle.pcap.specs.declared.Format.{Format}
use Rattle.pcap.specs.declared.HeadError.{HeadError}
use Rattle.call.specs.State.{Logs}
use Rattle.call.specs.declared.Called.{Called}
use Rattle.step.specs.Block.{Stand}
use Rattle.step.specs.Step.{went_with}
use Rattle.step.specs.declared.Stepped.{Stepped}
use Rattle.stream.specs.Led.{Fits, ran_by}
use Rattle.stream.specs.declared.Run.{Run}
use Rattle.import.specs.Import.{Imports}
use Rattle.import.specs.declared.Imported.{Imported}

-- ---- behind the packets

-- no packet stands there
abbrev pub stopped_at : Run → ℕ → Run
stopped_at r a = record { going = false; answer = a; taken = r.taken; eights = r.eights; place = r.place; clock = r.clock; decoder = r.decoder; devices = r.devices }

-- a packet that ends at `end` was called; a file has no ticks, so the clock stays
abbrev pub called_by : Run → ℕ → Called → Stepped
called_by r end q = went_with q.answer end r.clock q.decoder q.devices

abbrev pub imported_of : Run → Imported
imported_of r = record { answer = r.answer; taken = r.taken; eights = r.eights; place = r.place; decoder = r.decoder; devices = r.devices }

-- ---- the rounds

-- n records, e of them answered 8, lead from the place `at` and s to the next ones: what the rest gives there, all of it gives here
pub record Leads (f : Format) (t : List ℕ) (at : ℕ) (s : Stand) (n e at' : ℕ) (s' : Stand) : Type 0 where
  pub few : n + at ≤ at'
  pub eights : e ≤ n
  pub fits : (b : Bool) → Fits b s.state → Fits b s'.state
  pub rest : {m g a p : ℕ} {s'' : Stand} → Imports f t at' s' m g a p s'' → Imports f t at s (n + m) (e + g) a p s''

-- records from `at` on, at least one where the import goes on
pub record Rounds (f : Format) (t : List ℕ) (at : ℕ) (s : Stand) (r : Run) (table : List ℕ) (l : Logs) (h : List ℕ) : Type 0 where
  pub leads : r.going ≡ true → Leads f t at s r.taken r.eights r.place (ran_by r table l h)
  pub over : r.going ≡ false → Imports f t at s r.taken r.eights r.answer r.place (ran_by r table l h)
  pub counted : (r.taken + at ≤ r.place) × (r.eights ≤ r.taken)
  pub further : r.going ≡ true → (at < r.place) × (r.place ≤ length t)

-- ---- a head that is refused

abbrev pub unread : Result Format HeadError → Decoder → List Device → Imported
unread h d v = record { answer = head_answer h; taken = 0; eights = 0; place = head_place h; decoder = d; devices = v }
