use Rattle.std.proofs.Common.{rules}
use Rattle.stream.proofs.Addresses.{sight_by}
use Rattle.stream.proofs.sight.sight_of.Goals as goal

pub returns : goal.returns
returns c = let s = c.args in
    sight_by s.addresses s.d s.table.now s.packet.now c.token_of-token.ensures c.find_address-found.ensures c.place_in-place.ensures c.old_entry-e.ensures
