-- To be believed: a whole classic pcap file, as it is written from records, in one format.
-- Assumes nothing.
-- Hold it to: the pcap file format: a head of 24 bytes (mark, version 2.4, zone, figures, snap length, link type), records of 16 bytes and the packet
use Rattle.std.specs.Prelude.{ℕ, ◌/◌, ◌%◌, Bool, cond, List, [], ◌∷◌, ◌++◌, length, ◌==◌}
use Rattle.pcap.specs.Numbers.{turned}
use Rattle.pcap.specs.declared.Format.{Format}

-- a number as four bytes of the file, and as two
abbrev pub four : Bool → ℕ → List ℕ
four big n = turned big (n % 256 ∷ n / 256 % 256 ∷ n / 256 / 256 % 256 ∷ n / 256 / 256 / 256 % 256 ∷ [])

abbrev pub two : Bool → ℕ → List ℕ
two big n = turned big (n % 256 ∷ n / 256 % 256 ∷ [])

-- a record: when, and the packet's bytes
pub record Item : Type 0 where
  pub seconds : ℕ
  pub fraction : ℕ
  pub bytes : List ℕ

-- the four formats
abbrev pub format : Bool → Bool → Format
format big nano = record { big = big; unit = cond nano 1 1000 }

abbrev pub mark_of : ℕ → ℕ
mark_of unit = cond (unit == 1) 0xA1B23C4D 0xA1B2C3D4

-- mark, version 2.4, zone, figures, snap length, link type
abbrev pub head_bytes : Format → List ℕ
head_bytes f =
    four f.big (mark_of f.unit)
    ++ (two f.big 2
    ++ (two f.big 4
    ++ (four f.big 0 ++ (four f.big 0 ++ (four f.big 4096 ++ four f.big 288)))))

-- seconds, fraction, captured length, original length
abbrev pub heading : Bool → ℕ → ℕ → ℕ → List ℕ
heading big seconds fraction size = four big seconds ++ (four big fraction ++ (four big size ++ four big size))

abbrev pub item_bytes : Format → Item → List ℕ
item_bytes f r = heading f.big r.seconds r.fraction (length r.bytes) ++ r.bytes

abbrev pub body_of : Format → List Item → List ℕ
body_of f [] = []
body_of f (r ∷ rs) = item_bytes f r ++ body_of f rs

abbrev pub file_of : Format → List Item → List ℕ
file_of f rs = head_bytes f ++ body_of f rs
