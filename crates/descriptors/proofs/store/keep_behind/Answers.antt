use Rattle.std.proofs.Common.{arith, drop, ◌-◌, length-drop, length-take-le}
use Rattle.descriptors.proofs.StepLaws.{left-kept, left-full, left-other, left_end, entry_length, turn_of, end_of, turn-given}
use Rattle.descriptors.proofs.store.keep_behind.Goals as goal

pub returns : goal.returns
returns c = let a = c.args in let l = c.loop-step in left_end l.invariant (end_of a.value a.payload.now l.at l.setting c.in_default.ensures)

pub slice_bounds-put_entry-count : goal.slice_bounds-put_entry-count
slice_bounds-put_entry-count c = let t = turn_of c.args.value c.args.payload.now c.loop-step.at c.loop-step.setting c.in-Some.step c.in-Some.ensures in omega (arith, t.stays, t.grows)

pub slice_bounds-put_entry-start : goal.slice_bounds-put_entry-start
slice_bounds-put_entry-start c = let t = turn_of c.args.value c.args.payload.now c.loop-step.at c.loop-step.setting c.in-Some.step c.in-Some.ensures in omega (arith, t.stays, t.grows)

pub slice_bounds-put_entry-end : goal.slice_bounds-put_entry-end
slice_bounds-put_entry-end c = let t = turn_of c.args.value c.args.payload.now c.loop-step.at c.loop-step.setting c.in-Some.step c.in-Some.ensures in omega (arith, t.stays, t.grows)

pub put_entry-requires-clause-in_bounds : goal.put_entry-requires-clause-in_bounds
put_entry-requires-clause-in_bounds c =
    let a = c.args in
    let l = c.loop-step in
    let r = c.in-Some.step in
    let t = turn_of a.value a.payload.now l.at l.setting r c.in-Some.ensures in
    omega (arith, t.long c.in-Some-gives.s c.in-Some-gives.is, length-take-le (r.end - l.at) (drop l.at a.payload.now) (omega (arith, t.stays, t.grows, length-drop l.at a.payload.now)))

pub loop-step-smaller : goal.loop-step-smaller
loop-step-smaller c = let t = turn_of c.args.value c.args.payload.now c.loop-step.at c.loop-step.setting c.in-Some.step c.in-Some.ensures in omega (arith, t.stays, t.grows)

pub loop-step-smaller-else-n-lt-LIMIT : goal.loop-step-smaller-else-n-lt-LIMIT
loop-step-smaller-else-n-lt-LIMIT c = let t = turn_of c.args.value c.args.payload.now c.loop-step.at c.loop-step.setting c.in-Some.step c.in-Some.ensures in omega (arith, t.stays, t.grows)

pub loop-step-smaller-then-n-lt-LIMIT : goal.loop-step-smaller-then-n-lt-LIMIT
loop-step-smaller-then-n-lt-LIMIT c = let t = turn_of c.args.value c.args.payload.now c.loop-step.at c.loop-step.setting c.in-Some.step c.in-Some.ensures in omega (arith, t.stays, t.grows)

pub loop-step-preserved : goal.loop-step-preserved
loop-step-preserved c =
    let t = turn_of c.args.value c.args.payload.now c.loop-step.at c.loop-step.setting c.in-Some.step c.in-Some.ensures in
    left-other c.loop-step.invariant (turn-given t c.in_default-gives.is)

pub loop-step-preserved-else-n-lt-LIMIT : goal.loop-step-preserved-else-n-lt-LIMIT
loop-step-preserved-else-n-lt-LIMIT c =
    let t = turn_of c.args.value c.args.payload.now c.loop-step.at c.loop-step.setting c.in-Some.step c.in-Some.ensures in
    left-full c.loop-step.invariant (turn-given t c.in-Some-gives.is) c.if-n-lt-LIMIT.false

pub loop-step-preserved-then-n-lt-LIMIT : goal.loop-step-preserved-then-n-lt-LIMIT
loop-step-preserved-then-n-lt-LIMIT c =
    let t = turn_of c.args.value c.args.payload.now c.loop-step.at c.loop-step.setting c.in-Some.step c.in-Some.ensures in
    left-kept c.loop-step.invariant (turn-given t c.in-Some-gives.is) (entry_length _ _ _) c.if-n-lt-LIMIT.true c.put_entry.ensures
