use Rattle.std.proofs.Common.{ℕ, ◌<◌, get_or, ap, ◌∙◌, arith}
use Rattle.usb.specs.declared.fields.Token.{Token}
use Rattle.details.specs.Details.{details_of}
use Rattle.details.specs.Lookup.{found_device}
use Rattle.details.specs.Search.{blank}
use Rattle.endpoints.specs.declared.Endpoint.{Endpoint}
use Rattle.decide.proofs.Places.{place_few, seen_by}
use Rattle.decide.proofs.near.look.Goals as goal
use Rattle.std.proofs.Common.{◌-◌}

pub offset_bounds-devices-place : goal.offset_bounds-devices-place
offset_bounds-devices-place c = let place-small : c.place_in-place.result < 64 = let s = c in
    rw c.place_in-place.ensures (place_few s.args.devices s.args.d.counts.devices c.token_of-token.result.address c.find_device-found.result c.find_device-found.ensures s.requires.devices) in
    omega (arith, place-small)

pub bounds-devices-place : goal.bounds-devices-place
bounds-devices-place c = let place-small : c.place_in-place.result < 64 = let s = c in
    rw c.place_in-place.ensures (place_few s.args.devices s.args.d.counts.devices c.token_of-token.result.address c.find_device-found.result c.find_device-found.ensures s.requires.devices) in
    place-small

pub returns : goal.returns
unfolding found_device
returns c = let s = c in
    let v = s.args.devices in
    let token = c in
    seen_by c.near_of.ensures
    (rw token.token_of-token.ensures at c.find_device-found.ensures)
    (ap (λ (t : Token). t.number) token.token_of-token.ensures)
    (ap (λ (i : ℕ). get_or v i blank) c.place_in-place.ensures)
    (c.endpoint_details-old.ensures ∙ ap (λ (e : Endpoint). details_of (get_or v e.device blank) e.address) c.old_entry-e.ensures)
