use Rattle.std.proofs.Common.{rules}
use native.Mathlib.Omega.{arith}
use borrow.Author.Tests.{not-true, not-false}
use Rattle.stream.proofs.Rounding.{step_halts, step_goes}
use Rattle.stream.proofs.Staying.{eight_small}
use Rattle.stream.proofs.rounds.with_step.Goals as goal

pub returns-then-not-q : goal.returns-then-not-q
returns-then-not-q c = let a = c.args in step_halts a.p a.q (not-true _ c.if-not-q.true)

pub overflow_add-taken : goal.overflow_add-taken
overflow_add-taken c = let h = c.requires.taken (not-false _ c.if-not-q.false) in omega (arith, h)

pub overflow_add-eights : goal.overflow_add-eights
overflow_add-eights c = let s = c in
    let h = s.requires.eights (not-false _ c.if-not-q.false) in
    let u = eight_small s.args.q.answer c.eight.ensures in
    omega (arith, h, u)

pub returns : goal.returns
returns c = let a = c.args in step_goes a.p a.q (not-false _ c.if-not-q.false) c.eight.ensures
