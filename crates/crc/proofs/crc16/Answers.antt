use mathlib.Core.Path.{◌≡◌, ap, ◌∙◌}
use lib.Bits.{bit_xor}
use lib.Dec.{lit<}
use Rattle.crc.specs.Crc.{generator16, ones16, bytes, crc16_of}
use Rattle.crc.proofs.Words.{bytes_lt}
use Prim.Native.Nat.{ℕ}
use Rattle.crc.proofs.crc16.Goals as goal

pub inverted-requires : goal.inverted-requires
inverted-requires c = let few : c.by_bytes.result ≡ bytes generator16 ones16 c.args.s.now = c.by_bytes.ensures in
    rw (few) (bytes_lt 16 generator16 ones16 _ (lit< tt) (lit< tt))

pub returns-then-s-lt8 : goal.returns-then-s-lt8
unfolding crc16_of
returns-then-s-lt8 c = let few : c.by_bytes.result ≡ bytes generator16 ones16 c.args.s.now = c.by_bytes.ensures in
    c.inverted.ensures ∙ ap (λ (x : ℕ). bit_xor x ones16) (few)

pub inverted-requires-2 : goal.inverted-requires-2
inverted-requires-2 c = let many : c.by_words.result ≡ bytes generator16 ones16 c.args.s.now = c.by_words.ensures ∙ c.by_lanes-taken.ensures.1 in
    rw (many) (bytes_lt 16 generator16 ones16 _ (lit< tt) (lit< tt))

pub returns : goal.returns
unfolding crc16_of
returns c = let many : c.by_words.result ≡ bytes generator16 ones16 c.args.s.now = c.by_words.ensures ∙ c.by_lanes-taken.ensures.1 in
    c.inverted-2.ensures ∙ ap (λ (x : ℕ). bit_xor x ones16) (many)
