use Rattle.std.proofs.Common.{[], ap, arith}
use Rattle.usb.specs.declared.fields.Token.{Token}
use Rattle.record.specs.World.{world_of}
use Rattle.decide.proofs.Places.{found_at, place_found, place-new}
use Rattle.decide.proofs.place.packet_endpoint.Goals as goal
use Rattle.std.proofs.Common.{◌-◌}
use Rattle.transaction.specs.Table.{◌or◌}

pub stand_at-requires : goal.stand_at-requires
stand_at-requires c = let s = c in
    let h = found_at (world_of s.args.d [] s.args.table.now) s.requires.three s.args.near.found s.args.pid s.args.packet.now c.find_place-found.result c.in-Some.i c.find_place-found.ensures c.in-Some.is in
    omega (arith, h, s.requires.endpoints)

pub returns-in-Some : goal.returns-in-Some
returns-in-Some c v s = let a = c in
    place_found a.args.d a.args.table.now a.requires a.args.near a.args.x0 a.args.e0 a.args.packet.now v s a.args.pid c.in-Some.i c.find_place-found.ensures c.in-Some.is c.detail_by-detail.ensures c.stand_at.ensures

pub returns-in-None : goal.returns-in-None
returns-in-None c v s = let a = c in
    place-new a.args.d a.args.table.now a.requires a.args.near a.args.x0 a.args.e0 a.args.packet.now v s a.args.pid c.find_place-found.ensures c.in-None.is c.detail_by-detail.ensures
    (ap (λ (t : Token). t.address) c.token_of-token.ensures) (rw c.token_of-token.ensures at c.address_for-address.ensures) c.new_on.ensures
