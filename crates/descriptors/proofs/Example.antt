-- Descriptors of devices, computed: a disk, its answer cut, a keyboard with a HID descriptor, what ends the walk, the kinds of setup data, and an enumeration.
-- Assumes nothing.
use Prim.Native.Nat.{ℕ}
use mathlib.Core.Path.{◌≡◌, refl}
use mathlib.Core.Bool.{true, false}
use mathlib.Core.List.{List, [], ◌∷◌, ◌++◌, map}
use lib.ListN.{take, drop}
use Rattle.std.specs.Prelude.{Some, None}
use Rattle.descriptors.specs.Whole.{is_whole, whole_in, whole}
use Rattle.descriptors.specs.Kind.{is_read, is_set_configuration, is_set_interface, kind_by, kind_of}
use Rattle.descriptors.specs.Entries.{is_of, first_of, max_of, value_of, setting_after, gives_entry, entry_of, entries_in, entries_behind, entries_of}
use Rattle.usb.specs.Fields.{setup_of}
use Rattle.details.specs.Details.{stored, with_given, fresh}
use Rattle.details.specs.declared.Device.{Device}
use Rattle.descriptors.specs.Chosen.{configuration_choice, interface_choice, is_chosen, set_from, set_if, applied, count_set}
use Rattle.descriptors.specs.Store.{without, left_by, added_by}
use Rattle.descriptors.specs.Entries.{fitting}
use Rattle.descriptors.specs.Complete.{note_of, with_max, device_after}
use Rattle.descriptors.proofs.FateLaws.{Deed, Begins, Comes, Ends, Known, unknowing, learns_all}
use Rattle.descriptors.specs.declared.request.Kind.TheVariants.{DeviceRead, ConfigurationRead, SetConfiguration, SetInterface, Other}

-- a disk: one interface, bulk endpoints 81 and 02 of 512 bytes
disk : List ℕ
disk =
    (0x09 ∷ 0x02 ∷ 0x20 ∷ 0x00 ∷ 0x01 ∷ 0x01 ∷ 0x00 ∷ 0x80 ∷ 0x32 ∷ [])
    ++ (0x09 ∷ 0x04 ∷ 0x00 ∷ 0x00 ∷ 0x02 ∷ 0x08 ∷ 0x06 ∷ 0x50 ∷ 0x00 ∷ [])
    ++ (0x07 ∷ 0x05 ∷ 0x81 ∷ 0x02 ∷ 0x00 ∷ 0x02 ∷ 0x00 ∷ [])
    ++ (0x07 ∷ 0x05 ∷ 0x02 ∷ 0x02 ∷ 0x00 ∷ 0x02 ∷ 0x00 ∷ [])

in_entry : List ℕ
in_entry = 1 ∷ 0 ∷ 0 ∷ 0x81 ∷ 2 ∷ 0 ∷ 2 ∷ []

out-entry : List ℕ
out-entry = 1 ∷ 0 ∷ 0 ∷ 0x02 ∷ 2 ∷ 0 ∷ 2 ∷ []

-- whole, without its last byte, its first 9 bytes, its first 8
disks : map (λ (n : ℕ). entries_of (take n disk)) (32 ∷ 31 ∷ 9 ∷ 8 ∷ []) ≡ (in_entry ∷ out-entry ∷ []) ∷ (in_entry ∷ []) ∷ [] ∷ [] ∷ []
unfolding disk in_entry out-entry is_whole whole_in whole is_of setting_after gives_entry entry_of entries_in entries_behind entries_of
disks = refl

values : map (λ (n : ℕ). value_of (take n disk)) (32 ∷ 9 ∷ 8 ∷ [])
    ≡ Some 1 ∷ Some 1 ∷ None ∷ []
unfolding disk is_whole whole_in whole is_of first_of value_of
values = refl

-- alternate setting 1 of interface 2, a HID descriptor (21), an endpoint of 9 bytes; then number 0 and a reserved bit, which are stepped over;
-- a b_length of 1 ends the walk
mixed : List ℕ
mixed =
    (0x09 ∷ 0x02 ∷ 0x40 ∷ 0x00 ∷ 0x03 ∷ 0x05 ∷ 0x00 ∷ 0x80 ∷ 0x32 ∷ [])
    ++ (0x07 ∷ 0x05 ∷ 0x84 ∷ 0x03 ∷ 0x08 ∷ 0x00 ∷ 0x0A ∷ [])
    ++ (0x09 ∷ 0x04 ∷ 0x02 ∷ 0x01 ∷ 0x01 ∷ 0x03 ∷ 0x01 ∷ 0x01 ∷ 0x00 ∷ [])
    ++ (0x09 ∷ 0x21 ∷ 0x11 ∷ 0x01 ∷ 0x00 ∷ 0x01 ∷ 0x22 ∷ 0x3F ∷ 0x00 ∷ [])
    ++ (0x09 ∷ 0x05 ∷ 0x81 ∷ 0x03 ∷ 0x08 ∷ 0x00 ∷ 0x0A ∷ 0x00 ∷ 0x00 ∷ [])
    ++ (0x07 ∷ 0x05 ∷ 0x80 ∷ 0x03 ∷ 0x08 ∷ 0x00 ∷ 0x0A ∷ [])
    ++ (0x07 ∷ 0x05 ∷ 0x91 ∷ 0x03 ∷ 0x08 ∷ 0x00 ∷ 0x0A ∷ [])
    ++ (0x01 ∷ [])
    ++ (0x07 ∷ 0x05 ∷ 0x82 ∷ 0x03 ∷ 0x08 ∷ 0x00 ∷ 0x0A ∷ [])

mixes : entries_of mixed ≡ (5 ∷ 2 ∷ 1 ∷ 0x81 ∷ 3 ∷ 8 ∷ 0 ∷ []) ∷ []
unfolding mixed is_whole whole_in whole is_of setting_after gives_entry entry_of entries_in entries_behind entries_of
mixes = refl

-- a device descriptor: all 18 bytes, and the 8 that a host reads first
device : List ℕ
device = 0x12 ∷ 0x01 ∷ 0x00 ∷ 0x02 ∷ 0x00 ∷ 0x00 ∷ 0x00 ∷ 0x40 ∷ 0x81 ∷ 0x07 ∷ 0x81 ∷ 0x55 ∷ 0x00 ∷ 0x01 ∷ 0x01 ∷ 0x02 ∷ 0x03 ∷ 0x01 ∷ []

maxes : map max_of (device ∷ take 8 device ∷ disk ∷ [])
    ≡ Some 64 ∷ None ∷ None ∷ []
unfolding device disk is_whole whole_in whole is_of first_of max_of
maxes = refl

-- setup data, the first byte lowest: 80 06 00 01, 80 06 00 02, 00 09 01 00, 01 0B 01 00 02 00; then a string, an OUT, an interface's report
-- descriptor, a class request 9, a configuration 256, an interface 256
kinds : map kind_of
    (0x0012000001000680 ∷ 0x0020000002000680 ∷ 0x0000000000010900 ∷ 0x0000000200010B01
    ∷ 0x00FF040903020680 ∷ 0x0020000002000600 ∷ 0x003F000022000681 ∷ 0x0000000000010920 ∷ 0x0000000001000900 ∷ 0x0000010000010B01 ∷ [])
    ≡ DeviceRead ∷ ConfigurationRead ∷ SetConfiguration ∷ SetInterface ∷ Other ∷ Other ∷ Other ∷ Other ∷ Other ∷ Other ∷ []
unfolding is_read is_set_configuration is_set_interface kind_by kind_of
kinds = refl

-- SET_CONFIGURATION 1 and the disk's two entries: the details of endpoints 2 out and 1 in (bulk, 512), and of no other
after-set : Device
after-set = applied (configuration_choice (setup_of 0x0000000000010900)) (in_entry ∷ out-entry ∷ []) (fresh 3)

set_disk : map (stored after-set) (1 ∷ 2 ∷ 17 ∷ 18 ∷ [])
    ≡ record { kind = 4; given = false; max = 0 } ∷ record { kind = 2; given = true; max = 512 } ∷ record { kind = 2; given = true; max = 512 } ∷ record { kind = 4; given = false; max = 0 } ∷ []
unfolding after-set in_entry out-entry applied set_if set_from is_chosen with_given fresh
set_disk = refl

-- SET_INTERFACE 2, 1, where configuration 5 is chosen and where none is; SET_CONFIGURATION 5, which means alternate setting 0 alone
camera : List (List ℕ)
camera = (5 ∷ 2 ∷ 0 ∷ 0x81 ∷ 1 ∷ 0 ∷ 0 ∷ []) ∷ (5 ∷ 2 ∷ 1 ∷ 0x81 ∷ 1 ∷ 0x00 ∷ 0x14 ∷ []) ∷ (6 ∷ 2 ∷ 1 ∷ 0x82 ∷ 1 ∷ 8 ∷ 0 ∷ []) ∷ []

counts : note_of SetInterface (setup_of 0x0000000200010B01) 5 [] camera
    ∷ note_of SetInterface (setup_of 0x0000000200010B01) 256 [] camera
    ∷ note_of SetConfiguration (setup_of 0x0000000000050900) 256 [] camera ∷ []
    ≡ 7 ∷ 0 ∷ 7 ∷ []
unfolding camera note_of count_set is_chosen
counts = refl

-- 3 x 1,024 bytes a microframe: bits 10..0 alone
set_camera : stored (applied (interface_choice (setup_of 0x0000000200010B01) 5) camera (fresh 3)) 17 ≡ record { kind = 1; given = true; max = 1024 }
unfolding camera applied set_if set_from is_chosen with_given fresh
set_camera = refl

-- an enumeration: SET_CONFIGURATION 1 before anything is read, the device descriptor, a configuration read of 9 bytes, one in two packets of which the second came
-- twice and was acknowledged once, SET_CONFIGURATION 1, a class request, SET_CONFIGURATION 256
enumeration : List Deed
enumeration =
    Ends 0x0000000000010900
    ∷ Begins ∷ Comes device true ∷ Ends 0x0012000001000680
    ∷ Begins ∷ Comes (take 9 disk) true ∷ Ends 0x0009000002000680
    ∷ Begins ∷ Comes (take 20 disk) true ∷ Comes (drop 20 disk) false ∷ Comes (drop 20 disk) true ∷ Ends 0x0020000002000680
    ∷ Begins ∷ Ends 0x0000000000010900
    ∷ Begins ∷ Ends 0x0000000000010920
    ∷ Begins ∷ Ends 0x0000000001000900 ∷ []

enumerated : Known
enumerated = learns_all enumeration (unknowing 256 (fresh 3))

-- set 0, max 64, read 0, read 2, set 2, none, none, the newest first
notes : enumerated.notes ≡ 0 ∷ 0 ∷ 11 ∷ 10 ∷ 2 ∷ 257 ∷ 3 ∷ []
unfolding enumerated enumeration device disk is_read is_set_configuration is_set_interface kind_by kind_of note_of is_whole whole_in whole is_of first_of max_of value_of setting_after gives_entry entry_of entries_in entries_behind entries_of fitting without left_by added_by count_set is_chosen
notes = refl

details-read : map (stored enumerated.device) (0 ∷ 1 ∷ 2 ∷ 17 ∷ [])
    ≡ record { kind = 0; given = true; max = 64 } ∷ record { kind = 4; given = false; max = 0 } ∷ record { kind = 2; given = true; max = 512 } ∷ record { kind = 2; given = true; max = 512 } ∷ []
unfolding enumerated enumeration device disk is_read is_set_configuration is_set_interface kind_by kind_of with_max device_after is_whole whole_in whole is_of first_of max_of value_of setting_after gives_entry entry_of entries_in entries_behind entries_of fitting without left_by added_by is_chosen applied set_if set_from with_given fresh
details-read = refl
