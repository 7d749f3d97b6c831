-- To be believed: what the entries for pcap files answer and leave.
-- Hold it to: ours: the C entries pivotspark_pcap_head, pivotspark_pcap_records, pivotspark_pcap_size and pivotspark_pcap_export, each to the contract of its function (import, export); 02, 4
use Rattle.std.specs.Prelude.{ℕ, ◌+◌, ◌*◌, ◌%◌, Result, Ok, Err, cond, List, [], ◌∷◌, ◌≡◌, eqb, ltb, get_or}
use Rattle.std.proofs.lemmas.List.Edits.{sets}
use Rattle.rows.specs.One.{one}
use Rattle.endpoints.specs.Table.{flag_of}
use Rattle.pcap.specs.Pcap.{head_of, head_answer, head_place}
use Rattle.pcap.specs.declared.Exported.{Exported}
use Rattle.pcap.specs.declared.Format.{Format}
use Rattle.pcap.specs.declared.HeadError.{HeadError}
use Rattle.call.specs.State.{Logs, State}
use Rattle.step.specs.Block.{stand}
use Rattle.import.specs.Import.{Imports}
use Rattle.export.specs.Record.{size_in, ExportsIn}
use Rattle.calls.specs.Calls.{state_in, Kept}

-- ---- the head

-- a format in two words: whether the highest byte of a number comes first, and the nanoseconds in one unit of a fraction (32 bits)
abbrev pub format_in : List ℕ → Format
format_in k = record { big = flag_of (get_or k 0 0); unit = get_or k 1 0 % 4294967296 }

abbrev pub format_words : Format → List ℕ
format_words f = one f.big ∷ f.unit ∷ []

-- refused, they are as they were
abbrev pub format_after : Result Format HeadError → List ℕ → List ℕ
format_after (Ok f) k = sets k 0 (format_words f)
format_after (Err error) k = k

-- the answer in the top byte and the place below it, as of a trace's header
pub record HeadTold (file k : List ℕ) (r : ℕ) (k' : List ℕ) : Type 0 where
  pub told : r ≡ 72057594037927936 * head_answer (head_of file) + head_place (head_of file)
  pub format : k' ≡ format_after (head_of file) k

-- ---- import

-- the records b from the first byte on; where none was taken the record is as it was, also in words that stand for the same
pub record ImportKept (f : Format) (b w t : List ℕ) (l : Logs) (h o : List ℕ) (a : ℕ) (w' t' : List ℕ) (l' : Logs) (h' o' : List ℕ) : Type 0 where
  pub taken : ℕ
  pub eights : ℕ
  pub place : ℕ
  pub imports : Imports f b 0 (stand (state_in w t l) h) taken eights a place (stand (state_in w' t' l') h')
  pub words : Kept (ltb 0 taken) w w'
  pub told : o' ≡ sets o 0 (taken ∷ eights ∷ place ∷ [])

-- ---- export

-- the file's length, its packets, and the events that it leaves behind, in three words; refused, they are as they were
abbrev pub told_of : Exported → List ℕ → List ℕ
told_of r o = cond (eqb r.answer 0) (sets o 0 (r.length ∷ r.packets ∷ r.events ∷ [])) o

pub record SizeTold (s : State) (o : List ℕ) (a : ℕ) (o' : List ℕ) : Type 0 where
  pub answer : a ≡ (size_in s).answer
  pub told : o' ≡ told_of (size_in s) o

-- b is the buffer
pub record ExportTold (s : State) (b o : List ℕ) (a : ℕ) (b' o' : List ℕ) : Type 0 where
  pub result : Exported
  pub exports : ExportsIn s b b' result
  pub answer : a ≡ result.answer
  pub told : o' ≡ told_of result o
