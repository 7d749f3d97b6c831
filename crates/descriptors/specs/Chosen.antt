-- To be believed: what SET_CONFIGURATION and SET_INTERFACE make the details of a device.
-- Assumes nothing.
-- Hold it to: 02, 2: "SET_CONFIGURATION makes .. the device's details", "SET_INTERFACE changes one interface"; USB 2.0, 9.4.7, 9.4.10, 9.6.6 (table 9-13)
use Rattle.std.specs.Prelude.{ℕ, ◌+◌, ◌*◌, ◌/◌, ◌%◌, Bool, true, cond, ◌&&◌, List, [], ◌∷◌, eqb, get_or, Some, None}
use Rattle.std.specs.Option.{option_map_or}
use Rattle.rows.specs.One.{one}
use Rattle.usb.specs.declared.fields.Setup.{Setup}
use Rattle.details.specs.Details.{with_given}
use Rattle.details.specs.declared.Device.{Device}
use Rattle.descriptors.specs.declared.choose.Choice.{Choice}
use Rattle.descriptors.specs.declared.request.Kind.{Kind}
use Rattle.descriptors.specs.declared.request.Kind.TheVariants.{DeviceRead, ConfigurationRead, SetConfiguration, SetInterface, Other}

-- 9.4.7: the configuration in wValue; all its interfaces are at alternate setting 0
abbrev pub configuration_choice : Setup → Choice
configuration_choice s = record { value = s.value; interface = None; alternate = 0 }

-- 9.4.10: the alternate setting in wValue, the interface in wIndex; of the configuration that is chosen
abbrev pub interface_choice : Setup → ℕ → Choice
interface_choice s chosen = record { value = chosen; interface = Some s.index; alternate = s.value }

-- the configuration that is chosen after a request (9.4.7); 0 is one like others
abbrev pub chosen_after : Kind → Setup → ℕ → ℕ
chosen_after SetConfiguration s chosen = s.value
chosen_after SetInterface s chosen = chosen
chosen_after DeviceRead s chosen = chosen
chosen_after ConfigurationRead s chosen = chosen
chosen_after Other s chosen = chosen

-- an entry's configuration value, interface and alternate setting; all interfaces are meant where none is named
abbrev pub is_meant : Choice → ℕ → ℕ → ℕ → Bool
is_meant c value interface alternate = eqb value c.value && (option_map_or (eqb interface) c.interface true && eqb alternate c.alternate)

unfoldable pub is_chosen : Choice → List ℕ → Bool
is_chosen c e = is_meant c (get_or e 0 0) (get_or e 1 0) (get_or e 2 0)

-- table 9-13: bEndpointAddress has the number in bits 3..0 and the direction in bit 7, bmAttributes the type in bits 1..0, wMaxPacketSize the size in
-- bits 10..0
unfoldable pub set_from : ℕ → ℕ → ℕ → ℕ → Device → Device
set_from address attributes low high d = with_given d (address % 16) (address / 128 % 2) (attributes % 4) ((low + high * 256) % 2048)

unfoldable pub set_if : Bool → List ℕ → Device → Device
set_if on e d = cond on (set_from (get_or e 3 0) (get_or e 4 0) (get_or e 5 0) (get_or e 6 0) d) d

-- the entries that are meant, in their order; the details of other endpoints stay
unfoldable pub applied : Choice → List (List ℕ) → Device → Device
applied c [] d = d
applied c (e ∷ es) d = applied c es (set_if (is_chosen c e) e d)

-- and how many they are
unfoldable pub count_set : Choice → List (List ℕ) → ℕ
count_set c [] = 0
count_set c (e ∷ es) = one (is_chosen c e) + count_set c es
