-- Laws (proved): what is read from a whole file: what the laws of Written speak of.
-- Assumes nothing.
use Rattle.std.specs.Prelude.{ℕ, zero, suc, Result, Ok, Err, List, [], ◌∷◌, length}
use Rattle.std.proofs.Math.Seq.{slice}
use Rattle.pcap.specs.Pcap.{head_of, head_answer, head_place, next_at, answer_of}
use Rattle.pcap.specs.File.{Item}
use Rattle.pcap.specs.declared.Format.{Format}
use Rattle.pcap.specs.declared.HeadError.{HeadError}
use Rattle.pcap.specs.declared.HeadError.TheVariants.{Mark, Link}
use Rattle.pcap.specs.declared.Next.{Next}
use Rattle.pcap.specs.declared.Next.TheVariants.{Packet, Cut, Fraction, End}

-- what was read: the records up to the end or the first refusal, the answer, and its place
pub record Read : Type 0 where
  pub items : List Item
  pub answer : ℕ
  pub place : ℕ

abbrev pub stop : ℕ → ℕ → Read
stop answer at = record { items = []; answer = answer; place = at }

abbrev pub onward : List ℕ → ℕ → (ℕ → Read) → Next → Read
onward t at more (Packet seconds fraction start end) =
    record {
      items = record { seconds = seconds; fraction = fraction; bytes = slice start end t } ∷ (more end).items;
      answer = (more end).answer;
      place = (more end).place;
    }
onward t at more Cut = stop (answer_of Cut) at
onward t at more Fraction = stop (answer_of Fraction) at
onward t at more End = stop (answer_of End) at

-- at most n steps from `at` on
abbrev pub read_from : Format → ℕ → List ℕ → ℕ → Read
read_from f zero t at = stop 0 at
read_from f (suc n) t at = onward t at (read_from f n t) (next_at f t at)

-- behind a head, there are fewer records than bytes
unfoldable pub read_of : Format → List ℕ → Read
read_of f t = read_from f (length t) t 24

abbrev pub records_of : Format → List ℕ → List Item
records_of f t = (read_of f t).items

-- a file of unknown format: by its head
abbrev pub opened : List ℕ → Result Format HeadError → Read
opened t (Ok f) = read_of f t
opened t (Err Mark) = stop (head_answer (Err Mark)) (head_place (Err Mark))
opened t (Err Link) = stop (head_answer (Err Link)) (head_place (Err Link))

abbrev pub read_file : List ℕ → Read
read_file t = opened t (head_of t)
