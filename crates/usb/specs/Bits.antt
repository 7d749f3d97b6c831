-- To be believed: USB 2.0, 8.1: bits and bytes are sent lowest first. Bytes are read as one number, and a field is some of its bits.
-- Assumes nothing.
-- Hold it to: USB 2.0, 8.1
use Rattle.std.specs.Prelude.{ℕ, ◌+◌, ◌*◌, ◌/◌, ◌%◌, ◌^◌, List, [], ◌∷◌, take, drop}

-- bytes as one number, the first byte lowest
abbrev pub number : List ℕ → ℕ
number [] = 0
number (b ∷ bs) = b + number bs * 256

-- the n bytes of a packet after its PID, as one number
unfoldable pub after : ℕ → List ℕ → ℕ
after n packet = number (take n (drop 1 packet))

-- `count` bits of x, from bit `from` on
abbrev pub field : ℕ → ℕ → ℕ → ℕ
field from count x = x / 2 ^ from % 2 ^ count
