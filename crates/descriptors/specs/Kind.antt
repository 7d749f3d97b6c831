-- To be believed: which completed requests are looked at, by their setup data (USB 2.0, 9.3 and 9.4).
-- Assumes nothing.
-- Hold it to: USB 2.0, 9.3 (table 9-2) and 9.4 (tables 9-3 to 9-5, 9.4.3, 9.4.7, 9.4.10); 02, 2
use Rattle.std.specs.Prelude.{ℕ, ◌/◌, Bool, ◌&&◌, eqb, ltb}
use Rattle.usb.specs.Packet.{pick}
use Rattle.usb.specs.Fields.{setup_of, request_type_of}
use Rattle.usb.specs.declared.fields.Setup.{Setup}
use Rattle.descriptors.specs.declared.request.Kind.{Kind}
use Rattle.descriptors.specs.declared.request.Kind.TheVariants.{DeviceRead, ConfigurationRead, SetConfiguration, SetInterface, Other}

-- 9.4.3, GET_DESCRIPTOR: bmRequestType 80, b_request 6, the descriptor's type (table 9-5) in the high byte of wValue
unfoldable pub is_read : ℕ → Setup → Bool
is_read type s = eqb s.kind 0x80 && (eqb s.request 6 && eqb (s.value / 256) type)

-- table 9-2: the type bits of a standard request are 0; direction and recipient are not looked at
abbrev pub is_standard : ℕ → Setup → Bool
is_standard request s = eqb (request_type_of s.kind) 0 && eqb s.request request

-- 9.4.7: b_request 9, the configuration in wValue
unfoldable pub is_set_configuration : Setup → Bool
is_set_configuration s = is_standard 9 s && ltb s.value 256

-- 9.4.10: b_request 11, the alternate setting in wValue, the interface in wIndex
unfoldable pub is_set_interface : Setup → Bool
is_set_interface s = is_standard 11 s && (ltb s.value 256 && ltb s.index 256)

unfoldable pub kind_by : Setup → Kind
kind_by s =
    pick (is_read 1 s) DeviceRead
    (pick (is_read 2 s) ConfigurationRead
    (pick (is_set_configuration s) SetConfiguration
    (pick (is_set_interface s) SetInterface Other)))

unfoldable pub kind_of : ℕ → Kind
kind_of setup = kind_by (setup_of setup)
