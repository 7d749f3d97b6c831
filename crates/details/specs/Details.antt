-- To be believed: what is known of a device's endpoints (01, details and tables; endpoint_details and set_endpoint_type of capture.rs).
-- Hold it to: 01, "Modules in port order", 3, and answer 5; endpoint_details and set_endpoint_type of capture.rs; USB 2.0, 9.6.6; 02, 2 and 13
use Rattle.std.specs.Prelude.{ℕ, ◌+◌, ◌*◌, ◌/◌, ◌%◌, Bool, true, false, not, cond, ◌&&◌, ◌||◌, eqb, ltb, get_or, set, replicate}
use Rattle.usb.specs.Types.{Control}
use Rattle.details.specs.declared.Detail.{Detail}
use Rattle.details.specs.declared.Device.{Device}
use Rattle.details.specs.Kind as kind

-- a kind with no max known
abbrev pub bare : ℕ → Detail
bare k = record { kind = k; given = false; max = 0 }

-- USB 2.0, 9.6.6, bEndpointAddress, and EndpointAddr of usb.rs: the number, and 128 more where the direction is In
abbrev pub number_of : ℕ → ℕ
number_of address = address % 128

-- 01: 32 entries, the 16 numbers out and then the 16 in
abbrev pub entry_for : ℕ → ℕ
entry_for address = number_of address + 16 * (address / 128)

-- what entry i says
abbrev pub stored : Device → ℕ → Detail
stored d i = get_or d.details i (bare 0)

-- of a number that is neither 0 nor one of the special three; there is no entry above 15
abbrev pub ordinary : Device → ℕ → Detail
ordinary d address = cond (ltb (number_of address) 16) (stored d (entry_for address)) (bare kind.Unknown)

-- 01: the special three have a kind of their own (numbers 0x10 to 0x12, EVENT_EP_NUM and on, of capture.rs), and 0 is always control
unfoldable pub details_of : Device → ℕ → Detail
details_of d address =
    cond (eqb (number_of address) 16)
    (bare kind.Event)
    (cond (eqb (number_of address) 17)
    (bare kind.Invalid)
    (cond (eqb (number_of address) 18)
    (bare kind.Framing)
    (cond (eqb (number_of address) 0) (record { kind = Control; given = (stored d 0).given; max = (stored d 0).max }) (ordinary d address))))

-- the device with one entry changed
abbrev pub change : Device → ℕ → Detail → Device
change d i x = record { address = d.address; chosen = d.chosen; kept = d.kept; details = set d.details i x }

-- whether a split's type may be stored: an ordinary number whose type is not known
abbrev pub storable : Device → ℕ → Bool
storable d address = not (eqb (number_of address) 0) && (ltb (number_of address) 16 && eqb (stored d (entry_for address)).kind kind.Unknown)

-- a split's type is stored only where none is known, and never for number 0
unfoldable pub with_type : Device → ℕ → ℕ → Device
with_type d address k =
    cond (storable d address)
    (change d (entry_for address) (record { kind = k; given = (stored d (entry_for address)).given; max = (stored d (entry_for address)).max }))
    d

-- the entry of a detail call: direction 0 is out and 1 in, and number 0 is kept as out
abbrev pub detail_entry : ℕ → ℕ → ℕ
detail_entry number direction = cond (eqb number 0) 0 (number + 16 * direction)

-- 02, 13: "obeyed as before unless a descriptor has already given that endpoint's details, which no detail overrides"
abbrev pub obeyed : Device → ℕ → ℕ → Bool
obeyed d number direction = not (stored d (detail_entry number direction)).given

-- a detail call sets both
unfoldable pub with_detail : Device → ℕ → ℕ → ℕ → ℕ → Device
with_detail d number direction k m = cond (obeyed d number direction) (change d (detail_entry number direction) (record { kind = k; given = false; max = m })) d

-- 02, 2 and 13: a descriptor sets both, and that it gave them
unfoldable pub with_given : Device → ℕ → ℕ → ℕ → ℕ → Device
with_given d number direction k m = change d (detail_entry number direction) (record { kind = k; given = true; max = m })

-- no configuration is chosen; any number above it says the same
abbrev pub unchosen : ℕ
unchosen = 256

-- a device of which nothing is known (02, 2: nothing has been read of it, and no configuration is chosen)
unfoldable pub fresh : ℕ → Device
fresh address = record { address = address; chosen = unchosen; kept = 0; details = replicate 32 (bare kind.Unknown) }

-- 01, answer 5
abbrev pub wrong : ℕ → ℕ → ℕ → Bool
wrong number direction k = ltb 15 number || (ltb 3 k || (ltb 1 direction || (eqb number 0 && not (eqb k Control))))
