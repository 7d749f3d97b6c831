use Prim.Native.Nat.{◌≤◌}
use mathlib.Core.Path.{sym, ◌∙◌}
use Rattle.record.specs.Formed.{well_formed}
use Rattle.record.specs.RoomLaws.{roomy-is}
use Rattle.record.proofs.formed.well_formed.Goals as goal
use Rattle.std.proofs.Common.{◌-◌}

pub endpoints_formed-requires : goal.endpoints_formed-requires
endpoints_formed-requires c = let few : c.args.d.counts.endpoints ≤ 128 = (roomy-is _ _ _ (sym c.has_room.ensures ∙ c.if-has_room.true)).held.few_endpoints in
    few

pub slot_formed-requires : goal.slot_formed-requires
slot_formed-requires c = let few : c.args.d.counts.endpoints ≤ 128 = (roomy-is _ _ _ (sym c.has_room.ensures ∙ c.if-has_room.true)).held.few_endpoints in
    few

pub count_waiting-requires : goal.count_waiting-requires
count_waiting-requires c = let few : c.args.d.counts.endpoints ≤ 128 = (roomy-is _ _ _ (sym c.has_room.ensures ∙ c.if-has_room.true)).held.few_endpoints in
    few

pub returns-then-has_room : goal.returns-then-has_room
unfolding well_formed
returns-then-has_room c = simp (sym c.has_room.ensures ∙ c.if-has_room.true, c.count_waiting.ensures, c.last_formed.ensures, c.slot_formed.ensures, c.endpoints_formed.ensures, c.event_rests.ensures, c.specials_stand.ensures)

pub returns-else-has_room : goal.returns-else-has_room
unfolding well_formed
returns-else-has_room c = simp (sym c.has_room.ensures ∙ c.if-has_room.false)
