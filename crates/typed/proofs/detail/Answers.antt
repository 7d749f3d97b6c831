-- Assumes nothing.
use mathlib.Core.Path.{refl}
use native.Mathlib.Omega.{arith}
use Rattle.typed.proofs.DetailLaws.{judged_at, passed, row_below, detail-refused, detail-accepted}
use Rattle.typed.proofs.detail.Goals as goal

pub returns-in-Err : goal.returns-in-Err
returns-in-Err c =
    let a = c.args in
    detail-refused a.address a.number a.direction a.kind a.max _ _ _ (judged_at _ a.address a.number a.direction a.kind _ c.room_of-room.ensures _ _ c.in-Err.ensures.0) c.in-Err.ensures.1

pub offset_bounds-devices-at : goal.offset_bounds-devices-at
offset_bounds-devices-at c = omega (arith, row_below _ _ _ _ c.args.address c.in-Ok.ensures)

pub bounds-devices-at : goal.bounds-devices-at
bounds-devices-at c = row_below _ _ _ _ c.args.address c.in-Ok.ensures

pub set_detail-requires : goal.set_detail-requires
set_detail-requires c = let p = (passed c.in-Ok.ensures refl).1 in record { number_bound = p.0; direction_bound = p.1 }

pub offset_bounds-changed-at : goal.offset_bounds-changed-at
offset_bounds-changed-at c = omega (arith, row_below _ _ _ _ c.args.address c.in-Ok.ensures)

pub bounds-changed-at : goal.bounds-changed-at
bounds-changed-at c = row_below _ _ _ _ c.args.address c.in-Ok.ensures

pub returns : goal.returns
returns c =
    let a = c.args in
    let verdict = judged_at _ a.address a.number a.direction a.kind _ c.room_of-room.ensures 0 c.in-Ok.at c.in-Ok.ensures in
    detail-accepted a.address a.number a.direction a.kind a.max _ _ (verdict.place refl) (passed verdict refl).0 0 verdict refl c.set_detail.ensures
