use native.Mathlib.Omega.{arith}
use mathlib.Core.Path.{◌≡◌, sym, ap, ◌∙◌}
use Prim.Native.Nat.{ℕ, ◌+◌, ◌-◌, ◌<◌, ◌≤◌}
use lib.Bits.{bit_xor}
use Rattle.crc.specs.Crc.{generator5, ones5, step, crc5_of}
use Rattle.crc.proofs.Bits.{bits-more, bits_none}
use Rattle.crc.proofs.crc5.Goals as goal

pub loop-preserved : goal.loop-preserved
unfolding step
loop-preserved c =
    let left : 0 < c.args.n - c.loop.counter = omega (arith, c.loop-test.true) in
    let less : c.args.n - c.loop.counter - 1 ≡ c.args.n - (c.loop.counter + 1) = omega arith in
    rw (← less) (sym (bits-more generator5 _ _ _ left) ∙ c.loop.invariant)

pub returns : goal.returns
unfolding crc5_of
returns c =
    let done : c.args.n - c.loop.counter ≤ 0 = omega (arith, c.loop-test.false) in
    ap (λ (s : ℕ). bit_xor s ones5) (bits_none generator5 _ _ _ done ∙ c.loop.invariant)
