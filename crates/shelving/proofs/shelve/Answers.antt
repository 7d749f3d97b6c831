use Rattle.shelving.proofs.Laws.{shelved}
use Rattle.shelving.proofs.shelve.Goals as goal
use Rattle.std.proofs.Common.{◌-◌}

pub returns-then-t : goal.returns-then-t
returns-then-t c = let a = c.args in shelved a.t a.row a.packet.now a.shelf.now _ c.lay_payload.ensures c.if-t.true _ _ _ _ c.asked_of-a.ensures c.complete-c.ensures c.row_after-row.ensures
