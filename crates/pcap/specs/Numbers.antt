-- To be believed: numbers of a pcap file: four bytes, in either byte order.
-- Assumes nothing.
-- Hold it to: the pcap file format: numbers stand in the byte order of the machine that wrote the file, which the mark shows
use Rattle.std.specs.Prelude.{ℕ, Bool, cond, List, reverse, take, drop}
use Rattle.usb.specs.Bits.{number as little}

-- bytes in the order of the file from bytes with the lowest first, and back
abbrev pub turned : Bool → List ℕ → List ℕ
turned big bs = cond big (reverse bs) bs

-- bytes of the file as one number
abbrev pub number : Bool → List ℕ → ℕ
number big bs = little (turned big bs)

-- the number at a place of the file
unfoldable pub number_at : Bool → ℕ → List ℕ → ℕ
number_at big at t = number big (take 4 (drop at t))
