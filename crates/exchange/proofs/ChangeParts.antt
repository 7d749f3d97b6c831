-- What a change of a device's rows is, part by part: `packet::change::change_of`, whose contract says it, was proved by this before it was proved without.
-- docs/PROOFS.md names it for its form, a record with a path for each field that differs.
use Rattle.std.proofs.Common.{ℕ, ◌+◌, Bool, ◌&&◌, ◌≡◌, ◌∙◌}
use Rattle.rows.specs.One.{one}
use Rattle.transaction.specs.Table.{pick}
use Rattle.plan.specs.Devices.{changes, adds_device, address_of}
use Rattle.plan.specs.declared.Plan.{Plan}
use Rattle.shelving.specs.Shelve.{reading_of}
use Rattle.shelving.specs.declared.Reading.{Reading}
use Rattle.packet.specs.After.{change_by}
use Rattle.packet.specs.declared.change.Change.{Change}

-- part by part
pub change-is :
    (high : Bool) (p : Plan) (n row : ℕ) {adds : Bool} {flag place at address : ℕ} {reading : Reading}
    → adds ≡ adds_device p.close.effect
    → flag ≡ one p.begin.device
    → place ≡ pick (changes p.begin) p.begin.place 0
    → at ≡ pick (p.closes && adds) (n + flag) 0
    → address ≡ address_of p.close.effect
    → reading ≡ reading_of high p
    → record { device = p.begin.device; types = p.begin.types; place = place; owner = p.begin.owner; number = p.begin.number; kind = p.begin.kind; adds = p.closes && adds; at = at; address = address; reading = reading; row = row } ≡ change_by high p n row
change-is high p n row {adds} {flag} a f l t d r =
    let u = t ∙ (λ i. pick (p.closes && a i) (n + f i) 0) in
    λ i. record { device = p.begin.device; types = p.begin.types; place = l i; owner = p.begin.owner; number = p.begin.number; kind = p.begin.kind; adds = p.closes && a i; at = u i; address = d i; reading = r i; row = row }
