-- Laws (proved): an enumeration as packets, computed by the rules on a shelf of zeros, with no detail call: the details are the descriptors' (02, 2).
-- The device descriptor in one packet; a configuration in two, of which the second comes twice and is acknowledged once; SET_CONFIGURATION 1.
use mathlib.Core.Path.{◌≡◌, refl}
use mathlib.Core.Bool.{true, false}
use mathlib.Core.List.{List, [], ◌∷◌, map}
use Rattle.crc.specs.Crc.{step, bits, bytes, crc5_of, crc16_of}
use Rattle.usb.specs.Bits.{after}
use Rattle.usb.specs.Packet.{format_of, format_ok, format_reason, reason_of, checked_of}
use Rattle.transaction.specs.Status.{transaction_status}
use Rattle.transaction.specs.Payload.{extract_payload}
use Rattle.details.specs.Details.{details_of, stored, with_type, with_detail, with_given, fresh}
use Rattle.descriptors.specs.Kind.{is_read, is_set_configuration, is_set_interface, kind_by, kind_of}
use Rattle.descriptors.specs.Laid.{laid}
use Rattle.descriptors.specs.Whole.{is_whole, whole_in, whole}
use Rattle.descriptors.specs.Entries.{is_of, first_of, max_of, value_of, setting_after, gives_entry, entry_of, entries_in, entries_behind, entries_of, fitting}
use Rattle.descriptors.specs.Store.{chunks, without, left_by, added_by}
use Rattle.descriptors.specs.Chosen.{is_chosen, set_from, set_if, applied, count_set}
use Rattle.descriptors.specs.Complete.{note_of, with_max, device_after, count_after, shelf_after, row_after}
use Rattle.group.specs.Control.{setup_group, control_group}
use Rattle.group.specs.Data.{begin_group, repeat_group, other_group}
use Rattle.group.specs.Group.{group_status}
use Rattle.rules.specs.Groups.{group_update, group_early_start, group_early_append}
use Rattle.rules.specs.Transactions.{transaction_update}
use Rattle.rules.specs.Events.{event_update}
use Rattle.rules.specs.Decoder as decoder
use Rattle.rules.specs.Decoder.{handle_raw_packet, handle_event, handle_detail, finish}
use lib.ListN.{replicate}
use Prim.Native.Nat.{ℕ}
use Rattle.rules.specs.Rows.{log}
use Rattle.rules.specs.World.{World, with_shelf}
use Rattle.rules.proofs.Runs.{Lent, packet, runs}

enumeration : List Lent
enumeration =
    packet (0x2D ∷ 0x00 ∷ 0x10 ∷ []) 0
    ∷ packet (0xC3 ∷ 0x80 ∷ 0x06 ∷ 0x00 ∷ 0x01 ∷ 0x00 ∷ 0x00 ∷ 0x12 ∷ 0x00 ∷ 0xE0 ∷ 0xF4 ∷ []) 1
    ∷ packet (0xD2 ∷ []) 2
    ∷ packet (0x69 ∷ 0x00 ∷ 0x10 ∷ []) 3
    ∷ packet (0x4B ∷ 0x12 ∷ 0x01 ∷ 0x00 ∷ 0x02 ∷ 0x00 ∷ 0x00 ∷ 0x00 ∷ 0x40 ∷ 0x01 ∷ 0x02 ∷ 0x03 ∷ 0x04 ∷ 0x00 ∷ 0x01 ∷ 0x01 ∷ 0x02 ∷ 0x03 ∷ 0x01 ∷ 0xBC ∷ 0x8A ∷ []) 4
    ∷ packet (0xD2 ∷ []) 5
    ∷ packet (0xE1 ∷ 0x00 ∷ 0x10 ∷ []) 6
    ∷ packet (0x4B ∷ 0x00 ∷ 0x00 ∷ []) 7
    ∷ packet (0xD2 ∷ []) 8
    ∷ packet (0x2D ∷ 0x00 ∷ 0x10 ∷ []) 9
    ∷ packet (0xC3 ∷ 0x80 ∷ 0x06 ∷ 0x00 ∷ 0x02 ∷ 0x00 ∷ 0x00 ∷ 0x20 ∷ 0x00 ∷ 0xB1 ∷ 0x94 ∷ []) 10
    ∷ packet (0xD2 ∷ []) 11
    ∷ packet (0x69 ∷ 0x00 ∷ 0x10 ∷ []) 12
    ∷ packet (0x4B ∷ 0x09 ∷ 0x02 ∷ 0x20 ∷ 0x00 ∷ 0x01 ∷ 0x01 ∷ 0x00 ∷ 0x80 ∷ 0x32 ∷ 0x09 ∷ 0x04 ∷ 0x00 ∷ 0x00 ∷ 0x02 ∷ 0x08 ∷ 0x06 ∷ 0x50 ∷ 0x00 ∷ 0x07 ∷ 0x05 ∷ 0x25 ∷ 0x2A ∷ []) 13
    ∷ packet (0xD2 ∷ []) 14
    ∷ packet (0x69 ∷ 0x00 ∷ 0x10 ∷ []) 15
    ∷ packet (0xC3 ∷ 0x81 ∷ 0x02 ∷ 0x00 ∷ 0x02 ∷ 0x00 ∷ 0x07 ∷ 0x05 ∷ 0x02 ∷ 0x02 ∷ 0x00 ∷ 0x02 ∷ 0x00 ∷ 0x79 ∷ 0x15 ∷ []) 16
    ∷ packet (0x69 ∷ 0x00 ∷ 0x10 ∷ []) 17
    ∷ packet (0xC3 ∷ 0x81 ∷ 0x02 ∷ 0x00 ∷ 0x02 ∷ 0x00 ∷ 0x07 ∷ 0x05 ∷ 0x02 ∷ 0x02 ∷ 0x00 ∷ 0x02 ∷ 0x00 ∷ 0x79 ∷ 0x15 ∷ []) 18
    ∷ packet (0xD2 ∷ []) 19
    ∷ packet (0xE1 ∷ 0x00 ∷ 0x10 ∷ []) 20
    ∷ packet (0x4B ∷ 0x00 ∷ 0x00 ∷ []) 21
    ∷ packet (0xD2 ∷ []) 22
    ∷ packet (0x2D ∷ 0x00 ∷ 0x10 ∷ []) 23
    ∷ packet (0xC3 ∷ 0x00 ∷ 0x09 ∷ 0x01 ∷ 0x00 ∷ 0x00 ∷ 0x00 ∷ 0x00 ∷ 0x00 ∷ 0x27 ∷ 0x25 ∷ []) 24
    ∷ packet (0xD2 ∷ []) 25
    ∷ packet (0x69 ∷ 0x00 ∷ 0x10 ∷ []) 26
    ∷ packet (0x4B ∷ 0x00 ∷ 0x00 ∷ []) 27
    ∷ packet (0xD2 ∷ []) 28 ∷ []

enumerated : World
enumerated = runs enumeration (with_shelf (replicate 524288 0) decoder.fresh)

-- max 64, read 2, set 2
noted : log 11 enumerated.journal
    ≡ 3 ∷ 0x0012000001000680 ∷ 18 ∷ 257 ∷ 3 ∷ 0x0020000002000680 ∷ 32 ∷ 10 ∷ 3 ∷ 0x0000000000010900 ∷ 0 ∷ 11 ∷ []
unfolding enumerated enumeration step bits bytes crc5_of crc16_of after format_of format_ok format_reason reason_of checked_of transaction_status extract_payload details_of with_type with_detail fresh is_read is_set_configuration is_set_interface kind_by kind_of laid is_whole whole_in whole is_of first_of max_of value_of chunks applied count_set note_of with_max device_after count_after shelf_after row_after setup_group control_group begin_group repeat_group other_group group_status group_update group_early_start group_early_append transaction_update event_update handle_raw_packet handle_event handle_detail finish set_if set_from is_chosen with_given setting_after gives_entry entry_of entries_in entries_behind entries_of fitting without left_by added_by
noted = refl

-- number 0 has max 64; endpoints 2 out and 1 in are bulk with 512 bytes; nothing is known of 1 out
details-read : map (stored (enumerated.devices 0)) (0 ∷ 1 ∷ 2 ∷ 17 ∷ [])
    ≡ record { kind = 0; given = true; max = 64 } ∷ record { kind = 4; given = false; max = 0 } ∷ record { kind = 2; given = true; max = 512 } ∷ record { kind = 2; given = true; max = 512 } ∷ []
unfolding enumerated enumeration step bits bytes crc5_of crc16_of after format_of format_ok format_reason reason_of checked_of transaction_status extract_payload details_of with_type with_detail fresh is_read is_set_configuration is_set_interface kind_by kind_of laid is_whole whole_in whole is_of first_of max_of value_of chunks applied count_set note_of with_max device_after count_after shelf_after row_after setup_group control_group begin_group repeat_group other_group group_status group_update group_early_start group_early_append transaction_update event_update handle_raw_packet handle_event handle_detail finish set_if set_from is_chosen with_given setting_after gives_entry entry_of entries_in entries_behind entries_of fitting without left_by added_by
details-read = refl
