-- The last digit of a number stands behind those of its tenth.
-- Assumes nothing.
use Rattle.std.proofs.Common.{arith, ◌<◌, ◌∷◌, [], ◌/◌, ◌%◌, ◌^◌}
use Rattle.text.specs.Numbers.{digit}
use Rattle.text.specs.Numbers as numbers
use Rattle.text.proofs.Appends.{room-first, room_next, then}
use Rattle.text.proofs.Decimal.{decimal_small, decimal-more}
use Rattle.text.proofs.number.+decimal.Goals as goal

pub byte-requires : goal.byte-requires
byte-requires t c = rw (decimal_small c.args.n (omega arith)) at c.requires

pub returns-then-n-lt10 : goal.returns-then-n-lt10
returns-then-n-lt10 t c = rw (decimal_small c.args.n (omega arith)) c.byte.ensures

pub decimal-next-requires : goal.decimal-next-requires
decimal-next-requires t c =
    let a = c.args in
    let f : a.n < 2 ^ 64 = omega arith in
    (omega arith, room-first a.out.now a.at (numbers.decimal (a.n / 10)) (digit (a.n % 10) ∷ []) (rw (decimal-more a.n f (omega arith)) at c.requires))

pub byte-requires-2 : goal.byte-requires-2
byte-requires-2 t c =
    let a = c.args in
    let f : a.n < 2 ^ 64 = omega arith in
    room_next a.out.now a.at (numbers.decimal (a.n / 10)) (digit (a.n % 10) ∷ []) c.decimal-next.ensures (rw (decimal-more a.n f (omega arith)) at c.requires)

pub returns : goal.returns
returns t c =
    let a = c.args in
    let f : a.n < 2 ^ 64 = omega arith in
    rw (decimal-more a.n f (omega arith)) (then a.out.now a.at (numbers.decimal (a.n / 10)) (digit (a.n % 10) ∷ []) c.decimal-next.ensures c.byte-2.ensures)
