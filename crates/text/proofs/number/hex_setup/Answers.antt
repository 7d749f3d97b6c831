-- The word goes over by its number, and the loop asks of its bytes how many they are: the same number in other words is proved by these lines too.
-- Assumes nothing.
use Rattle.std.proofs.Common.{◌≡◌, ap, ◌∙◌, refl, arith, ◌+◌, ◌++◌, length, get_or, drop, drop-cons, add-one}
use Rattle.std.specs.Prelude.{ℕ, List, flat_map}
use Rattle.std.specs.Int.{w64, to_le_bytes}
use Rattle.text.specs.Numbers.{hex_byte, hex_setup}
use Rattle.text.proofs.Appends.{start, step}
use Rattle.text.proofs.Steps.{word_hex}
use Rattle.text.proofs.number.hex_setup.Goals as goal

pub loop-b-init : goal.loop-b-init
loop-b-init c =
    let digits : ℕ → List ℕ = λ v. flat_map hex_byte (to_le_bytes w64 v) in
    let all : flat_map hex_byte c.to_le_bytes-b-items.result ≡ hex_setup c.args.w = ap (flat_map hex_byte) c.to_le_bytes-b-items.ensures ∙ (ap digits (omega arith) ∙ word_hex c.args.w) in
    rw all start

pub loop-b-preserved : goal.loop-b-preserved
loop-b-preserved c =
    let xs : List ℕ = c.to_le_bytes-b-items.result in
    let i : ℕ = c.loop-b.b-index in
    let eight : length xs ≡ 8 = ap length c.to_le_bytes-b-items.ensures in
    let next : flat_map hex_byte (drop i xs) ≡ hex_byte (get_or xs i 0) ++ flat_map hex_byte (drop (i + 1) xs) = rw (drop-cons xs i 0 (omega (arith, eight, c.loop-b-test.true)), add-one) refl in
    step (hex_byte (get_or xs i 0)) (flat_map hex_byte (drop (i + 1) xs)) c.loop-b.invariant next c.hex_byte-next.ensures
