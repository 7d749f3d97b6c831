use Rattle.std.proofs.Common.{rules}
use mathlib.Core.Path.{◌≡◌}
use native.Mathlib.Omega.{arith}
use Rattle.packet.proofs.Changes.{changed_by, shelved_by, requested_by}
use Rattle.packet.proofs.change.make_change.Goals as goal

pub shelve-s-requires : goal.shelve-s-requires
shelve-s-requires c = let h = c.requires in
    let l = c.told-shelf in
    record { in_bounds = omega (arith, l); device_bound = h.device; place_bound = h.owner; long_if = h.long }

pub returns : goal.returns
returns c = let a = c.args in
    let e = c.row_by.ensures in
    let f = c.shelve-s.ensures in record { value = changed_by a.c a.packet.now a.shelf.now a.devices e f.row c.added_by.ensures; shelf_after = shelved_by a.c a.packet.now a.shelf.now a.devices e f.stored; requests_after = requested_by a.c a.packet.now a.shelf.now a.devices a.requests.now e f.note c.put_request.ensures }
