-- Inner (cited by private contracts alone): no part of what the CRCs are: names that the contracts of this crate's private functions use, and no public
-- contract cites.
-- Assumes nothing.
use Rattle.std.specs.Prelude.{ℕ, ◌*◌, ◌/◌, ◌%◌, ◌^◌}
use Rattle.std.specs.Int.Bits.{bit_xor}
use Rattle.crc.specs.Crc.{generator16, bits}

-- of a word times X^16 + X^4 + X^2, what stays in the word's own place
abbrev pub stays_of : ℕ → ℕ
stays_of v = bit_xor (bit_xor (v / 2 ^ 2) (v / 2 ^ 4)) (v / 2 ^ 16)

-- and what passes into the place of the word before it
abbrev pub passes_of : ℕ → ℕ
passes_of v = bit_xor (bit_xor (v * 2 ^ 62 % 2 ^ 64) (v * 2 ^ 60 % 2 ^ 64)) (v * 2 ^ 48 % 2 ^ 64)

-- the register that four words stand for
unfoldable pub four : ℕ → ℕ → ℕ → ℕ → ℕ
four a b d e = bits generator16 64 (bit_xor (bits generator16 64 (bit_xor (bits generator16 64 (bit_xor (bits generator16 64 a 0) b) 0) d) 0) e) 0
