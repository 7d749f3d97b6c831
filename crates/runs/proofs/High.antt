-- Runs of the Rust of docs/src in the mode of change request 6 (oracle/changes/high.txt), and the words that it left in each log: written by `oracle lemmas --high SEED RUNS CALLS` (oracle/), not by hand.
use mathlib.Core.Path.{refl}
use mathlib.Core.List.{List, [], ◌∷◌}
use mathlib.Core.Bool.{true}
use Rattle.crc.specs.Crc.{step, bits, bytes, crc5_of, crc16_of}
use Rattle.usb.specs.Bits.{after}
use Rattle.usb.specs.Packet.{format_of, format_ok, format_reason, reason_of, checked_of}
use Rattle.transaction.specs.Status.{transaction_status}
use Rattle.transaction.specs.Payload.{extract_payload}
use Rattle.details.specs.Details.{details_of, with_type, with_detail, fresh}
use Rattle.descriptors.specs.Kind.{is_read, is_set_configuration, is_set_interface, kind_by, kind_of}
use Rattle.descriptors.specs.Laid.{laid}
use Rattle.descriptors.specs.Whole.{is_whole, whole_in, whole}
use Rattle.descriptors.specs.Entries.{is_of, first_of, max_of, value_of}
use Rattle.descriptors.specs.Store.{chunks}
use Rattle.descriptors.specs.Chosen.{applied, count_set}
use Rattle.descriptors.specs.Complete.{note_of, with_max, device_after, count_after, shelf_after, row_after}
use Rattle.group.specs.Control.{setup_group, control_group}
use Rattle.group.specs.Data.{begin_group, repeat_group, other_group}
use Rattle.group.specs.Group.{group_status}
use Rattle.rules.specs.Groups.{group_update, group_early_start, group_early_append}
use Rattle.rules.specs.Transactions.{transaction_update}
use Rattle.rules.specs.Events.{event_update}
use Rattle.rules.specs.Decoder.{handle_raw_packet, handle_event, handle_detail, finish}
use Rattle.rules.proofs.Runs.{packet, event, detail, finishing, LeavesIn}

run-camera-out :
    LeavesIn true (detail 0 1 0 1 16 ∷ packet (0xA5 ∷ 0x01 ∷ 0xE8 ∷ []) 1 ∷ packet (0xE1 ∷ 0x80 ∷ 0xA0 ∷ []) 2 ∷ packet (0x0F ∷ 0x00 ∷ 0x01 ∷ 0x02 ∷ 0x03 ∷ 0x04 ∷ 0x05 ∷ 0x06 ∷ 0x07 ∷ 0x08 ∷ 0x09 ∷ 0x0A ∷ 0x0B ∷ 0x0C ∷ 0x0D ∷ 0x0E ∷ 0x0F ∷ 0x4B ∷ 0x18 ∷ []) 3 ∷ packet (0xE1 ∷ 0x80 ∷ 0xA0 ∷ []) 4 ∷ packet (0x0F ∷ 0x00 ∷ 0x01 ∷ 0x02 ∷ 0x03 ∷ 0x04 ∷ 0x05 ∷ 0x06 ∷ 0x07 ∷ 0x08 ∷ 0x09 ∷ 0x0A ∷ 0x0B ∷ 0x0C ∷ 0x0D ∷ 0x0E ∷ 0x0F ∷ 0x4B ∷ 0x18 ∷ []) 5 ∷ packet (0xE1 ∷ 0x80 ∷ 0xA0 ∷ []) 6 ∷ packet (0x87 ∷ 0x00 ∷ 0x01 ∷ 0x02 ∷ 0x03 ∷ 0x04 ∷ 0x05 ∷ 0xF1 ∷ 0x5F ∷ []) 7 ∷ packet (0xA5 ∷ 0x02 ∷ 0xA8 ∷ []) 8 ∷ packet (0xE1 ∷ 0x80 ∷ 0xA0 ∷ []) 9 ∷ packet (0x0F ∷ 0x00 ∷ 0x01 ∷ 0x02 ∷ 0x03 ∷ 0x04 ∷ 0x05 ∷ 0x06 ∷ 0x07 ∷ 0x08 ∷ 0x09 ∷ 0x0A ∷ 0x0B ∷ 0x0C ∷ 0x0D ∷ 0x0E ∷ 0x0F ∷ 0x4B ∷ 0x18 ∷ []) 10 ∷ packet (0xE1 ∷ 0x80 ∷ 0xA0 ∷ []) 11 ∷ packet (0x4B ∷ 0x00 ∷ 0x01 ∷ 0x3F ∷ 0x8F ∷ []) 12 ∷ packet (0xA5 ∷ 0x03 ∷ 0x50 ∷ []) 13 ∷ packet (0xE1 ∷ 0x80 ∷ 0xA0 ∷ []) 14 ∷ packet (0x87 ∷ 0x00 ∷ 0x40 ∷ 0xBF ∷ []) 15 ∷ finishing ∷ [])
    ((165 ∷ 1 ∷ 232 ∷ 225 ∷ 128 ∷ 160 ∷ 15 ∷ 0 ∷ 1 ∷ 2 ∷ 3 ∷ 4 ∷ 5 ∷ 6 ∷ 7 ∷ 8 ∷ 9 ∷ 10 ∷ 11 ∷ 12 ∷ 13 ∷ 14 ∷ 15 ∷ 75 ∷ 24 ∷ 225 ∷ 128 ∷ 160 ∷ 15 ∷ 0 ∷ 1 ∷ 2 ∷ 3 ∷ 4 ∷ 5 ∷ 6 ∷ 7 ∷ 8 ∷ 9 ∷ 10 ∷ 11 ∷ 12 ∷ 13 ∷ 14 ∷ 15 ∷ 75 ∷ 24 ∷ 225 ∷ 128 ∷ 160 ∷ 135 ∷ 0 ∷ 1 ∷ 2 ∷ 3 ∷ 4 ∷ 5 ∷ 241 ∷ 95 ∷ 165 ∷ 2 ∷ 168 ∷ 225 ∷ 128 ∷ 160 ∷ 15 ∷ 0 ∷ 1 ∷ 2 ∷ 3 ∷ 4 ∷ 5 ∷ 6 ∷ 7 ∷ 8 ∷ 9 ∷ 10 ∷ 11 ∷ 12 ∷ 13 ∷ 14 ∷ 15 ∷ 75 ∷ 24 ∷ 225 ∷ 128 ∷ 160 ∷ 75 ∷ 0 ∷ 1 ∷ 63 ∷ 143 ∷ 165 ∷ 3 ∷ 80 ∷ 225 ∷ 128 ∷ 160 ∷ 135 ∷ 0 ∷ 64 ∷ 191 ∷ []) ∷ (0 ∷ []) ∷ (0 ∷ 16 ∷ 0 ∷ 0 ∷ 17 ∷ 0 ∷ 0 ∷ 18 ∷ 0 ∷ 0 ∷ 1 ∷ 0 ∷ []) ∷ (0 ∷ 1 ∷ 3 ∷ 2 ∷ 6 ∷ 3 ∷ 25 ∷ 4 ∷ 28 ∷ 5 ∷ 47 ∷ 6 ∷ 50 ∷ 7 ∷ 59 ∷ 8 ∷ 62 ∷ 9 ∷ 65 ∷ 10 ∷ 84 ∷ 11 ∷ 87 ∷ 12 ∷ 92 ∷ 13 ∷ 95 ∷ 14 ∷ 98 ∷ 15 ∷ []) ∷ ([]) ∷ (0 ∷ 0 ∷ 1 ∷ 0 ∷ 3 ∷ 0 ∷ 5 ∷ 0 ∷ 7 ∷ 0 ∷ 8 ∷ 0 ∷ 10 ∷ 0 ∷ 12 ∷ 0 ∷ 13 ∷ 0 ∷ []) ∷ (2 ∷ 0 ∷ 1 ∷ 0 ∷ 1 ∷ 3 ∷ 0 ∷ 1 ∷ 1 ∷ 2 ∷ []) ∷ (0 ∷ 0 ∷ 1 ∷ 0 ∷ 0 ∷ 2 ∷ 1 ∷ []) ∷ (0 ∷ 3 ∷ []) ∷ (0 ∷ 1 ∷ []) ∷ (0 ∷ 2 ∷ 0 ∷ 0 ∷ 1 ∷ 2 ∷ 0 ∷ 0 ∷ 0 ∷ 3 ∷ 1 ∷ 0 ∷ 1 ∷ 3 ∷ 0 ∷ 0 ∷ 2 ∷ 3 ∷ 0 ∷ 0 ∷ 0 ∷ 3 ∷ 2 ∷ 0 ∷ 2 ∷ 3 ∷ 1 ∷ 16 ∷ 0 ∷ 3 ∷ 3 ∷ 0 ∷ 2 ∷ 3 ∷ 2 ∷ 32 ∷ 0 ∷ 2 ∷ 4 ∷ 0 ∷ 0 ∷ 3 ∷ 5 ∷ 0 ∷ 2 ∷ 3 ∷ 3 ∷ 38 ∷ 0 ∷ 3 ∷ 6 ∷ 0 ∷ 2 ∷ 3 ∷ 4 ∷ 54 ∷ 0 ∷ 2 ∷ 7 ∷ 0 ∷ 0 ∷ 3 ∷ 8 ∷ 0 ∷ 2 ∷ 3 ∷ 5 ∷ 56 ∷ []) ∷ ([]) ∷ [])
unfolding step bits bytes crc5_of crc16_of after format_of format_ok format_reason reason_of checked_of transaction_status extract_payload details_of with_type with_detail fresh is_read is_set_configuration is_set_interface kind_by kind_of laid is_whole whole_in whole is_of first_of max_of value_of chunks applied count_set note_of with_max device_after count_after shelf_after row_after setup_group control_group begin_group repeat_group other_group group_status group_update group_early_start group_early_append transaction_update event_update handle_raw_packet handle_event handle_detail finish
run-camera-out = refl

run-split-isochronous :
    LeavesIn true (packet (0x78 ∷ 0x01 ∷ 0x01 ∷ 0xB2 ∷ []) 0 ∷ packet (0x69 ∷ 0x80 ∷ 0xA0 ∷ []) 1 ∷ packet (0x78 ∷ 0x81 ∷ 0x01 ∷ 0x6A ∷ []) 2 ∷ packet (0x69 ∷ 0x80 ∷ 0xA0 ∷ []) 3 ∷ packet (0x0F ∷ 0x00 ∷ 0x01 ∷ 0x02 ∷ 0x03 ∷ 0x04 ∷ 0x05 ∷ 0x06 ∷ 0x07 ∷ 0xB9 ∷ 0x85 ∷ []) 4 ∷ packet (0x78 ∷ 0x81 ∷ 0x01 ∷ 0x6A ∷ []) 5 ∷ packet (0x69 ∷ 0x80 ∷ 0xA0 ∷ []) 6 ∷ packet (0x0F ∷ 0x00 ∷ 0x01 ∷ 0x02 ∷ 0x03 ∷ 0x04 ∷ 0x05 ∷ 0x06 ∷ 0x07 ∷ 0xB9 ∷ 0x85 ∷ []) 7 ∷ packet (0x78 ∷ 0x81 ∷ 0x01 ∷ 0x6A ∷ []) 8 ∷ packet (0x69 ∷ 0x80 ∷ 0xA0 ∷ []) 9 ∷ packet (0xC3 ∷ 0x00 ∷ 0x01 ∷ 0x02 ∷ 0x03 ∷ 0xEF ∷ 0x7A ∷ []) 10 ∷ finishing ∷ [])
    ((120 ∷ 1 ∷ 1 ∷ 178 ∷ 105 ∷ 128 ∷ 160 ∷ 120 ∷ 129 ∷ 1 ∷ 106 ∷ 105 ∷ 128 ∷ 160 ∷ 15 ∷ 0 ∷ 1 ∷ 2 ∷ 3 ∷ 4 ∷ 5 ∷ 6 ∷ 7 ∷ 185 ∷ 133 ∷ 120 ∷ 129 ∷ 1 ∷ 106 ∷ 105 ∷ 128 ∷ 160 ∷ 15 ∷ 0 ∷ 1 ∷ 2 ∷ 3 ∷ 4 ∷ 5 ∷ 6 ∷ 7 ∷ 185 ∷ 133 ∷ 120 ∷ 129 ∷ 1 ∷ 106 ∷ 105 ∷ 128 ∷ 160 ∷ 195 ∷ 0 ∷ 1 ∷ 2 ∷ 3 ∷ 239 ∷ 122 ∷ []) ∷ (0 ∷ []) ∷ (0 ∷ 16 ∷ 0 ∷ 0 ∷ 17 ∷ 0 ∷ 0 ∷ 18 ∷ 0 ∷ 0 ∷ 1 ∷ 1 ∷ []) ∷ (0 ∷ 0 ∷ 4 ∷ 1 ∷ 7 ∷ 2 ∷ 11 ∷ 3 ∷ 14 ∷ 4 ∷ 25 ∷ 5 ∷ 29 ∷ 6 ∷ 32 ∷ 7 ∷ 43 ∷ 8 ∷ 47 ∷ 9 ∷ 50 ∷ 10 ∷ []) ∷ ([]) ∷ (0 ∷ 0 ∷ 2 ∷ 0 ∷ 5 ∷ 0 ∷ 8 ∷ 0 ∷ []) ∷ (3 ∷ 0 ∷ 1 ∷ 1 ∷ 1 ∷ 3 ∷ 0 ∷ 0 ∷ 4 ∷ 4 ∷ 3 ∷ 1 ∷ 1 ∷ 4 ∷ 4 ∷ []) ∷ (0 ∷ 0 ∷ 0 ∷ 1 ∷ 0 ∷ 0 ∷ 0 ∷ 3 ∷ 0 ∷ 0 ∷ 0 ∷ 1 ∷ []) ∷ (0 ∷ 4 ∷ 8 ∷ []) ∷ (0 ∷ 2 ∷ []) ∷ (0 ∷ 3 ∷ 0 ∷ 0 ∷ 1 ∷ 3 ∷ 0 ∷ 0 ∷ 0 ∷ 3 ∷ 1 ∷ 0 ∷ 1 ∷ 3 ∷ 1 ∷ 0 ∷ 3 ∷ 3 ∷ 1 ∷ 0 ∷ 2 ∷ 3 ∷ 1 ∷ 0 ∷ 0 ∷ 3 ∷ 2 ∷ 0 ∷ 2 ∷ 3 ∷ 2 ∷ 8 ∷ 0 ∷ 3 ∷ 3 ∷ 0 ∷ 2 ∷ 3 ∷ 3 ∷ 16 ∷ []) ∷ ([]) ∷ [])
unfolding step bits bytes crc5_of crc16_of after format_of format_ok format_reason reason_of checked_of transaction_status extract_payload details_of with_type with_detail fresh is_read is_set_configuration is_set_interface kind_by kind_of laid is_whole whole_in whole is_of first_of max_of value_of chunks applied count_set note_of with_max device_after count_after shelf_after row_after setup_group control_group begin_group repeat_group other_group group_status group_update group_early_start group_early_append transaction_update event_update handle_raw_packet handle_event handle_detail finish
run-split-isochronous = refl

run-split-interrupt :
    LeavesIn true (detail 0 1 1 3 16 ∷ packet (0x78 ∷ 0x01 ∷ 0x01 ∷ 0x16 ∷ []) 1 ∷ packet (0x69 ∷ 0x80 ∷ 0xA0 ∷ []) 2 ∷ packet (0x78 ∷ 0x81 ∷ 0x01 ∷ 0xCE ∷ []) 3 ∷ packet (0x69 ∷ 0x80 ∷ 0xA0 ∷ []) 4 ∷ packet (0x0F ∷ 0x00 ∷ 0x01 ∷ 0x02 ∷ 0x03 ∷ 0x04 ∷ 0x05 ∷ 0x06 ∷ 0x07 ∷ 0xB9 ∷ 0x85 ∷ []) 5 ∷ packet (0x78 ∷ 0x81 ∷ 0x01 ∷ 0xCE ∷ []) 6 ∷ packet (0x69 ∷ 0x80 ∷ 0xA0 ∷ []) 7 ∷ packet (0xC3 ∷ 0x00 ∷ 0x01 ∷ 0x02 ∷ 0x03 ∷ 0xEF ∷ 0x7A ∷ []) 8 ∷ finishing ∷ [])
    ((120 ∷ 1 ∷ 1 ∷ 22 ∷ 105 ∷ 128 ∷ 160 ∷ 120 ∷ 129 ∷ 1 ∷ 206 ∷ 105 ∷ 128 ∷ 160 ∷ 15 ∷ 0 ∷ 1 ∷ 2 ∷ 3 ∷ 4 ∷ 5 ∷ 6 ∷ 7 ∷ 185 ∷ 133 ∷ 120 ∷ 129 ∷ 1 ∷ 206 ∷ 105 ∷ 128 ∷ 160 ∷ 195 ∷ 0 ∷ 1 ∷ 2 ∷ 3 ∷ 239 ∷ 122 ∷ []) ∷ (0 ∷ []) ∷ (0 ∷ 16 ∷ 0 ∷ 0 ∷ 17 ∷ 0 ∷ 0 ∷ 18 ∷ 0 ∷ 0 ∷ 1 ∷ 1 ∷ []) ∷ (0 ∷ 1 ∷ 4 ∷ 2 ∷ 7 ∷ 3 ∷ 11 ∷ 4 ∷ 14 ∷ 5 ∷ 25 ∷ 6 ∷ 29 ∷ 7 ∷ 32 ∷ 8 ∷ []) ∷ ([]) ∷ (0 ∷ 0 ∷ 2 ∷ 0 ∷ 5 ∷ 0 ∷ []) ∷ (3 ∷ 0 ∷ 1 ∷ 1 ∷ 2 ∷ 3 ∷ 0 ∷ 0 ∷ 4 ∷ 5 ∷ 3 ∷ 1 ∷ 1 ∷ 4 ∷ 5 ∷ 3 ∷ 1 ∷ 0 ∷ 4 ∷ 5 ∷ 3 ∷ 2 ∷ 1 ∷ 7 ∷ 8 ∷ 3 ∷ 2 ∷ 0 ∷ 7 ∷ 8 ∷ []) ∷ (0 ∷ 0 ∷ 0 ∷ 1 ∷ 0 ∷ 0 ∷ 0 ∷ 3 ∷ 0 ∷ 0 ∷ 0 ∷ 1 ∷ 0 ∷ 0 ∷ 0 ∷ 3 ∷ 0 ∷ 0 ∷ 0 ∷ 1 ∷ 0 ∷ 0 ∷ 0 ∷ 3 ∷ []) ∷ (0 ∷ 4 ∷ 8 ∷ 12 ∷ 16 ∷ 20 ∷ []) ∷ (0 ∷ 2 ∷ 4 ∷ []) ∷ (0 ∷ 3 ∷ 0 ∷ 0 ∷ 1 ∷ 3 ∷ 0 ∷ 0 ∷ 0 ∷ 3 ∷ 1 ∷ 0 ∷ 1 ∷ 3 ∷ 1 ∷ 0 ∷ 3 ∷ 3 ∷ 1 ∷ 0 ∷ 2 ∷ 3 ∷ 1 ∷ 0 ∷ 0 ∷ 3 ∷ 2 ∷ 0 ∷ 1 ∷ 3 ∷ 2 ∷ 0 ∷ 3 ∷ 3 ∷ 2 ∷ 0 ∷ 2 ∷ 3 ∷ 2 ∷ 8 ∷ []) ∷ ([]) ∷ [])
unfolding step bits bytes crc5_of crc16_of after format_of format_ok format_reason reason_of checked_of transaction_status extract_payload details_of with_type with_detail fresh is_read is_set_configuration is_set_interface kind_by kind_of laid is_whole whole_in whole is_of first_of max_of value_of chunks applied count_set note_of with_max device_after count_after shelf_after row_after setup_group control_group begin_group repeat_group other_group group_status group_update group_early_start group_early_append transaction_update event_update handle_raw_packet handle_event handle_detail finish
run-split-interrupt = refl

run-not-in-the-mode :
    LeavesIn true (detail 0 1 1 1 16 ∷ packet (0x69 ∷ 0x80 ∷ 0xA0 ∷ []) 1 ∷ packet (0x0F ∷ 0x00 ∷ 0x01 ∷ 0x02 ∷ 0x03 ∷ 0x04 ∷ 0x05 ∷ 0x06 ∷ 0x07 ∷ 0x08 ∷ 0x09 ∷ 0x0A ∷ 0x0B ∷ 0x0C ∷ 0x0D ∷ 0x0E ∷ 0x0F ∷ 0x4B ∷ 0x18 ∷ []) 2 ∷ packet (0x69 ∷ 0x00 ∷ 0x39 ∷ []) 3 ∷ packet (0x87 ∷ 0x00 ∷ 0x01 ∷ 0x02 ∷ 0x03 ∷ 0x04 ∷ 0x05 ∷ 0x06 ∷ 0x07 ∷ 0x08 ∷ 0x09 ∷ 0x0A ∷ 0x0B ∷ 0x0C ∷ 0x0D ∷ 0x0E ∷ 0x0F ∷ 0x4B ∷ 0x18 ∷ []) 4 ∷ packet (0xE1 ∷ 0x00 ∷ 0x39 ∷ []) 5 ∷ packet (0x0F ∷ 0x00 ∷ 0x01 ∷ 0x02 ∷ 0x03 ∷ 0x04 ∷ 0x05 ∷ 0x06 ∷ 0x07 ∷ 0x08 ∷ 0x09 ∷ 0x0A ∷ 0x0B ∷ 0x0C ∷ 0x0D ∷ 0x0E ∷ 0x0F ∷ 0x4B ∷ 0x18 ∷ []) 6 ∷ detail 0 3 0 2 16 ∷ packet (0xE1 ∷ 0x80 ∷ 0x89 ∷ []) 8 ∷ packet (0x87 ∷ 0x00 ∷ 0x01 ∷ 0x02 ∷ 0x03 ∷ 0x04 ∷ 0x05 ∷ 0x06 ∷ 0x07 ∷ 0x08 ∷ 0x09 ∷ 0x0A ∷ 0x0B ∷ 0x0C ∷ 0x0D ∷ 0x0E ∷ 0x0F ∷ 0x4B ∷ 0x18 ∷ []) 9 ∷ packet (0xE1 ∷ 0x00 ∷ 0x42 ∷ []) 10 ∷ detail 0 4 0 1 16 ∷ packet (0x0F ∷ 0x00 ∷ 0x01 ∷ 0x02 ∷ 0x03 ∷ 0x04 ∷ 0x05 ∷ 0x06 ∷ 0x07 ∷ 0x08 ∷ 0x09 ∷ 0x0A ∷ 0x0B ∷ 0x0C ∷ 0x0D ∷ 0x0E ∷ 0x0F ∷ 0x4B ∷ 0x18 ∷ []) 12 ∷ packet (0x78 ∷ 0x01 ∷ 0x01 ∷ 0xB2 ∷ []) 13 ∷ packet (0xE1 ∷ 0x80 ∷ 0xF2 ∷ []) 14 ∷ packet (0x0F ∷ 0x00 ∷ 0x01 ∷ 0x02 ∷ 0x03 ∷ 0x04 ∷ 0x05 ∷ 0x06 ∷ 0x07 ∷ 0x08 ∷ 0x09 ∷ 0x0A ∷ 0x0B ∷ 0x0C ∷ 0x0D ∷ 0x0E ∷ 0x0F ∷ 0x4B ∷ 0x18 ∷ []) 15 ∷ finishing ∷ [])
    ((105 ∷ 128 ∷ 160 ∷ 15 ∷ 0 ∷ 1 ∷ 2 ∷ 3 ∷ 4 ∷ 5 ∷ 6 ∷ 7 ∷ 8 ∷ 9 ∷ 10 ∷ 11 ∷ 12 ∷ 13 ∷ 14 ∷ 15 ∷ 75 ∷ 24 ∷ 105 ∷ 0 ∷ 57 ∷ 135 ∷ 0 ∷ 1 ∷ 2 ∷ 3 ∷ 4 ∷ 5 ∷ 6 ∷ 7 ∷ 8 ∷ 9 ∷ 10 ∷ 11 ∷ 12 ∷ 13 ∷ 14 ∷ 15 ∷ 75 ∷ 24 ∷ 225 ∷ 0 ∷ 57 ∷ 15 ∷ 0 ∷ 1 ∷ 2 ∷ 3 ∷ 4 ∷ 5 ∷ 6 ∷ 7 ∷ 8 ∷ 9 ∷ 10 ∷ 11 ∷ 12 ∷ 13 ∷ 14 ∷ 15 ∷ 75 ∷ 24 ∷ 225 ∷ 128 ∷ 137 ∷ 135 ∷ 0 ∷ 1 ∷ 2 ∷ 3 ∷ 4 ∷ 5 ∷ 6 ∷ 7 ∷ 8 ∷ 9 ∷ 10 ∷ 11 ∷ 12 ∷ 13 ∷ 14 ∷ 15 ∷ 75 ∷ 24 ∷ 225 ∷ 0 ∷ 66 ∷ 15 ∷ 0 ∷ 1 ∷ 2 ∷ 3 ∷ 4 ∷ 5 ∷ 6 ∷ 7 ∷ 8 ∷ 9 ∷ 10 ∷ 11 ∷ 12 ∷ 13 ∷ 14 ∷ 15 ∷ 75 ∷ 24 ∷ 120 ∷ 1 ∷ 1 ∷ 178 ∷ 225 ∷ 128 ∷ 242 ∷ 15 ∷ 0 ∷ 1 ∷ 2 ∷ 3 ∷ 4 ∷ 5 ∷ 6 ∷ 7 ∷ 8 ∷ 9 ∷ 10 ∷ 11 ∷ 12 ∷ 13 ∷ 14 ∷ 15 ∷ 75 ∷ 24 ∷ []) ∷ (0 ∷ []) ∷ (0 ∷ 16 ∷ 0 ∷ 0 ∷ 17 ∷ 0 ∷ 0 ∷ 18 ∷ 0 ∷ 0 ∷ 1 ∷ 1 ∷ 0 ∷ 2 ∷ 1 ∷ 0 ∷ 2 ∷ 0 ∷ 0 ∷ 3 ∷ 0 ∷ 0 ∷ 4 ∷ 0 ∷ 0 ∷ 5 ∷ 0 ∷ []) ∷ (0 ∷ 1 ∷ 3 ∷ 2 ∷ 22 ∷ 3 ∷ 25 ∷ 4 ∷ 44 ∷ 5 ∷ 47 ∷ 6 ∷ 66 ∷ 8 ∷ 69 ∷ 9 ∷ 88 ∷ 10 ∷ 91 ∷ 12 ∷ 110 ∷ 13 ∷ 114 ∷ 14 ∷ 117 ∷ 15 ∷ []) ∷ ([]) ∷ (0 ∷ 0 ∷ 1 ∷ 0 ∷ 2 ∷ 0 ∷ 3 ∷ 0 ∷ 4 ∷ 0 ∷ 5 ∷ 0 ∷ 6 ∷ 0 ∷ 7 ∷ 0 ∷ 8 ∷ 0 ∷ 9 ∷ 0 ∷ 10 ∷ 0 ∷ 12 ∷ 0 ∷ []) ∷ (3 ∷ 0 ∷ 1 ∷ 0 ∷ 1 ∷ 1 ∷ 0 ∷ 1 ∷ 1 ∷ 2 ∷ 1 ∷ 0 ∷ 0 ∷ 1 ∷ 2 ∷ 4 ∷ 0 ∷ 1 ∷ 2 ∷ 3 ∷ 1 ∷ 1 ∷ 1 ∷ 3 ∷ 4 ∷ 1 ∷ 1 ∷ 0 ∷ 3 ∷ 4 ∷ 5 ∷ 0 ∷ 1 ∷ 4 ∷ 5 ∷ 1 ∷ 2 ∷ 1 ∷ 5 ∷ 6 ∷ 1 ∷ 2 ∷ 0 ∷ 5 ∷ 6 ∷ 6 ∷ 0 ∷ 1 ∷ 6 ∷ 8 ∷ 1 ∷ 3 ∷ 1 ∷ 7 ∷ 9 ∷ 1 ∷ 3 ∷ 0 ∷ 7 ∷ 9 ∷ 7 ∷ 0 ∷ 1 ∷ 8 ∷ 10 ∷ 1 ∷ 4 ∷ 1 ∷ 9 ∷ 12 ∷ 1 ∷ 4 ∷ 0 ∷ 9 ∷ 12 ∷ 1 ∷ 5 ∷ 1 ∷ 12 ∷ 15 ∷ 1 ∷ 5 ∷ 0 ∷ 12 ∷ 15 ∷ []) ∷ (0 ∷ 0 ∷ 0 ∷ 1 ∷ 0 ∷ 1 ∷ 0 ∷ 2 ∷ 0 ∷ 3 ∷ 0 ∷ 2 ∷ 0 ∷ 0 ∷ 0 ∷ 2 ∷ 1 ∷ 0 ∷ 1 ∷ 0 ∷ 2 ∷ 2 ∷ 0 ∷ 3 ∷ 0 ∷ 2 ∷ 2 ∷ 0 ∷ 0 ∷ 0 ∷ 2 ∷ 2 ∷ 1 ∷ 0 ∷ 1 ∷ 0 ∷ 2 ∷ 2 ∷ 2 ∷ 0 ∷ 3 ∷ 0 ∷ 2 ∷ 2 ∷ 2 ∷ 0 ∷ 0 ∷ 0 ∷ 2 ∷ 2 ∷ 2 ∷ 1 ∷ 0 ∷ 1 ∷ 0 ∷ 2 ∷ 2 ∷ 2 ∷ 2 ∷ 0 ∷ 3 ∷ 0 ∷ 2 ∷ 2 ∷ 2 ∷ 2 ∷ 0 ∷ 0 ∷ 0 ∷ 2 ∷ 2 ∷ 2 ∷ 2 ∷ 1 ∷ 0 ∷ 1 ∷ 0 ∷ 2 ∷ 2 ∷ 2 ∷ 2 ∷ 2 ∷ 0 ∷ 3 ∷ 0 ∷ 2 ∷ 2 ∷ 2 ∷ 2 ∷ 2 ∷ 0 ∷ 1 ∷ 0 ∷ 2 ∷ 2 ∷ 2 ∷ 2 ∷ 2 ∷ 0 ∷ 0 ∷ 3 ∷ 0 ∷ 2 ∷ 2 ∷ 2 ∷ 2 ∷ 2 ∷ 0 ∷ []) ∷ (0 ∷ 4 ∷ 8 ∷ 12 ∷ 17 ∷ 22 ∷ 27 ∷ 33 ∷ 39 ∷ 45 ∷ 52 ∷ 59 ∷ 66 ∷ 74 ∷ 82 ∷ 90 ∷ 99 ∷ []) ∷ (0 ∷ 1 ∷ 3 ∷ 4 ∷ 6 ∷ 7 ∷ 9 ∷ 10 ∷ 12 ∷ 13 ∷ 15 ∷ []) ∷ (0 ∷ 3 ∷ 0 ∷ 0 ∷ 1 ∷ 3 ∷ 0 ∷ 0 ∷ 0 ∷ 1 ∷ 1 ∷ 0 ∷ 1 ∷ 1 ∷ 0 ∷ 0 ∷ 0 ∷ 4 ∷ 2 ∷ 0 ∷ 1 ∷ 4 ∷ 0 ∷ 0 ∷ 3 ∷ 1 ∷ 2 ∷ 0 ∷ 0 ∷ 1 ∷ 3 ∷ 0 ∷ 1 ∷ 1 ∷ 1 ∷ 0 ∷ 0 ∷ 5 ∷ 4 ∷ 0 ∷ 1 ∷ 5 ∷ 0 ∷ 0 ∷ 3 ∷ 1 ∷ 4 ∷ 0 ∷ 0 ∷ 1 ∷ 5 ∷ 0 ∷ 1 ∷ 1 ∷ 2 ∷ 0 ∷ 0 ∷ 6 ∷ 6 ∷ 0 ∷ 1 ∷ 6 ∷ 0 ∷ 0 ∷ 3 ∷ 1 ∷ 6 ∷ 0 ∷ 0 ∷ 1 ∷ 7 ∷ 0 ∷ 1 ∷ 1 ∷ 3 ∷ 0 ∷ 0 ∷ 7 ∷ 8 ∷ 0 ∷ 1 ∷ 7 ∷ 0 ∷ 0 ∷ 3 ∷ 1 ∷ 8 ∷ 0 ∷ 0 ∷ 1 ∷ 9 ∷ 0 ∷ 1 ∷ 1 ∷ 4 ∷ 0 ∷ 0 ∷ 8 ∷ 10 ∷ 0 ∷ 0 ∷ 1 ∷ 11 ∷ 0 ∷ 1 ∷ 1 ∷ 5 ∷ 0 ∷ 3 ∷ 1 ∷ 10 ∷ 0 ∷ []) ∷ ([]) ∷ [])
unfolding step bits bytes crc5_of crc16_of after format_of format_ok format_reason reason_of checked_of transaction_status extract_payload details_of with_type with_detail fresh is_read is_set_configuration is_set_interface kind_by kind_of laid is_whole whole_in whole is_of first_of max_of value_of chunks applied count_set note_of with_max device_after count_after shelf_after row_after setup_group control_group begin_group repeat_group other_group group_status group_update group_early_start group_early_append transaction_update event_update handle_raw_packet handle_event handle_detail finish
run-not-in-the-mode = refl

run-camera-1 :
    LeavesIn true (packet (0x78 ∷ 0x01 ∷ 0x01 ∷ 0x16 ∷ []) 2298633929 ∷ packet (0x69 ∷ 0x00 ∷ 0x39 ∷ []) 2298634666 ∷ packet (0x78 ∷ 0x81 ∷ 0x01 ∷ 0xCE ∷ []) 2298635188 ∷ packet (0x69 ∷ 0x00 ∷ 0x39 ∷ []) 2298636927 ∷ packet (0x87 ∷ 0x08 ∷ 0x46 ∷ 0x9C ∷ 0xCD ∷ 0xB4 ∷ 0xFB ∷ []) 2298638670 ∷ packet (0x78 ∷ 0x81 ∷ 0x01 ∷ 0xCE ∷ []) 2298639379 ∷ packet (0x69 ∷ 0x00 ∷ 0x39 ∷ []) 2298639610 ∷ packet (0x4B ∷ 0x6D ∷ 0x1C ∷ 0x17 ∷ 0x0C ∷ 0x2D ∷ 0x44 ∷ []) 2298640491 ∷ packet (0x78 ∷ 0x81 ∷ 0x01 ∷ 0xCE ∷ []) 2298641255 ∷ packet (0x69 ∷ 0x00 ∷ 0x39 ∷ []) 2298642334 ∷ packet (0x0F ∷ 0x38 ∷ 0x5E ∷ 0x96 ∷ 0x73 ∷ 0x7A ∷ 0x74 ∷ 0xE5 ∷ 0xF8 ∷ 0x08 ∷ 0x6E ∷ []) 2298643725 ∷ packet (0x69 ∷ 0x80 ∷ 0xA0 ∷ []) 2298644044 ∷ packet (0x69 ∷ 0x80 ∷ 0xA0 ∷ []) 2298645464 ∷ packet (0x5A ∷ []) 2298645667 ∷ detail 0 1 1 1 8 ∷ packet (0x78 ∷ 0x01 ∷ 0x01 ∷ 0xB2 ∷ []) 2298646799 ∷ finishing ∷ [])
    ((120 ∷ 1 ∷ 1 ∷ 22 ∷ 105 ∷ 0 ∷ 57 ∷ 120 ∷ 129 ∷ 1 ∷ 206 ∷ 105 ∷ 0 ∷ 57 ∷ 135 ∷ 8 ∷ 70 ∷ 156 ∷ 205 ∷ 180 ∷ 251 ∷ 120 ∷ 129 ∷ 1 ∷ 206 ∷ 105 ∷ 0 ∷ 57 ∷ 75 ∷ 109 ∷ 28 ∷ 23 ∷ 12 ∷ 45 ∷ 68 ∷ 120 ∷ 129 ∷ 1 ∷ 206 ∷ 105 ∷ 0 ∷ 57 ∷ 15 ∷ 56 ∷ 94 ∷ 150 ∷ 115 ∷ 122 ∷ 116 ∷ 229 ∷ 248 ∷ 8 ∷ 110 ∷ 105 ∷ 128 ∷ 160 ∷ 105 ∷ 128 ∷ 160 ∷ 90 ∷ 120 ∷ 1 ∷ 1 ∷ 178 ∷ []) ∷ (0 ∷ []) ∷ (0 ∷ 16 ∷ 0 ∷ 0 ∷ 17 ∷ 0 ∷ 0 ∷ 18 ∷ 0 ∷ 0 ∷ 2 ∷ 1 ∷ 0 ∷ 1 ∷ 1 ∷ []) ∷ (0 ∷ 2298633929 ∷ 4 ∷ 2298634666 ∷ 7 ∷ 2298635188 ∷ 11 ∷ 2298636927 ∷ 14 ∷ 2298638670 ∷ 21 ∷ 2298639379 ∷ 25 ∷ 2298639610 ∷ 28 ∷ 2298640491 ∷ 35 ∷ 2298641255 ∷ 39 ∷ 2298642334 ∷ 42 ∷ 2298643725 ∷ 53 ∷ 2298644044 ∷ 56 ∷ 2298645464 ∷ 59 ∷ 2298645667 ∷ 60 ∷ 2298646799 ∷ []) ∷ ([]) ∷ (0 ∷ 0 ∷ 2 ∷ 0 ∷ 4 ∷ 0 ∷ 5 ∷ 0 ∷ 8 ∷ 0 ∷ 11 ∷ 0 ∷ 12 ∷ 0 ∷ 14 ∷ 0 ∷ []) ∷ (3 ∷ 0 ∷ 1 ∷ 1 ∷ 2298634666 ∷ 1 ∷ 0 ∷ 1 ∷ 4 ∷ 2298638670 ∷ 1 ∷ 0 ∷ 0 ∷ 4 ∷ 2298638670 ∷ 3 ∷ 0 ∷ 0 ∷ 7 ∷ 2298640491 ∷ 3 ∷ 1 ∷ 1 ∷ 7 ∷ 2298640491 ∷ 4 ∷ 0 ∷ 1 ∷ 11 ∷ 2298644044 ∷ []) ∷ (0 ∷ 0 ∷ 0 ∷ 1 ∷ 0 ∷ 1 ∷ 0 ∷ 2 ∷ 0 ∷ 3 ∷ 0 ∷ 2 ∷ 0 ∷ 0 ∷ 0 ∷ 3 ∷ 0 ∷ 0 ∷ 0 ∷ 1 ∷ 0 ∷ 0 ∷ 0 ∷ 2 ∷ 1 ∷ []) ∷ (0 ∷ 4 ∷ 8 ∷ 12 ∷ 16 ∷ 20 ∷ []) ∷ (0 ∷ 1 ∷ 4 ∷ 5 ∷ []) ∷ (0 ∷ 3 ∷ 0 ∷ 0 ∷ 1 ∷ 3 ∷ 0 ∷ 0 ∷ 0 ∷ 1 ∷ 2 ∷ 0 ∷ 1 ∷ 1 ∷ 0 ∷ 0 ∷ 0 ∷ 3 ∷ 3 ∷ 0 ∷ 1 ∷ 3 ∷ 1 ∷ 0 ∷ 3 ∷ 1 ∷ 2 ∷ 0 ∷ 3 ∷ 3 ∷ 2 ∷ 0 ∷ 2 ∷ 3 ∷ 1 ∷ 0 ∷ 0 ∷ 3 ∷ 4 ∷ 0 ∷ 2 ∷ 3 ∷ 2 ∷ 4 ∷ 0 ∷ 4 ∷ 5 ∷ 0 ∷ 1 ∷ 4 ∷ 0 ∷ 0 ∷ 0 ∷ 4 ∷ 6 ∷ 0 ∷ []) ∷ ([]) ∷ [])
unfolding step bits bytes crc5_of crc16_of after format_of format_ok format_reason reason_of checked_of transaction_status extract_payload details_of with_type with_detail fresh is_read is_set_configuration is_set_interface kind_by kind_of laid is_whole whole_in whole is_of first_of max_of value_of chunks applied count_set note_of with_max device_after count_after shelf_after row_after setup_group control_group begin_group repeat_group other_group group_status group_update group_early_start group_early_append transaction_update event_update handle_raw_packet handle_event handle_detail finish
run-camera-1 = refl

run-camera-4 :
    LeavesIn true (packet (0x69 ∷ 0x80 ∷ 0xA0 ∷ []) 3795029548 ∷ packet (0x69 ∷ 0x80 ∷ 0xA0 ∷ []) 3795031237 ∷ packet (0x5A ∷ []) 3795031866 ∷ detail 0 1 0 1 8 ∷ packet (0xA5 ∷ 0x01 ∷ 0xE8 ∷ []) 3795032230 ∷ packet (0xE1 ∷ 0x80 ∷ 0xA0 ∷ []) 3795032721 ∷ packet (0xC3 ∷ 0x00 ∷ 0x00 ∷ []) 3795032770 ∷ packet (0xA5 ∷ 0x02 ∷ 0xA8 ∷ []) 3795033842 ∷ packet (0xE1 ∷ 0x80 ∷ 0xA0 ∷ []) 3795034188 ∷ packet (0x0F ∷ 0x00 ∷ 0x00 ∷ []) 3795034841 ∷ packet (0xE1 ∷ 0x80 ∷ 0xA0 ∷ []) 3795036352 ∷ packet (0x4B ∷ 0xFA ∷ 0xD1 ∷ 0x2D ∷ 0x71 ∷ 0x04 ∷ 0x68 ∷ 0xA6 ∷ 0xF5 ∷ 0xF0 ∷ []) 3795038077 ∷ packet (0xD2 ∷ []) 3795038320 ∷ packet (0xA5 ∷ 0x03 ∷ 0x50 ∷ []) 3795039383 ∷ packet (0xE1 ∷ 0x80 ∷ 0xA0 ∷ []) 3795040101 ∷ packet (0x0F ∷ 0xF4 ∷ 0xA0 ∷ 0x10 ∷ 0x8D ∷ 0x2F ∷ 0x09 ∷ 0x7D ∷ 0xEF ∷ 0x87 ∷ 0xCC ∷ []) 3795041318 ∷ finishing ∷ [])
    ((105 ∷ 128 ∷ 160 ∷ 105 ∷ 128 ∷ 160 ∷ 90 ∷ 165 ∷ 1 ∷ 232 ∷ 225 ∷ 128 ∷ 160 ∷ 195 ∷ 0 ∷ 0 ∷ 165 ∷ 2 ∷ 168 ∷ 225 ∷ 128 ∷ 160 ∷ 15 ∷ 0 ∷ 0 ∷ 225 ∷ 128 ∷ 160 ∷ 75 ∷ 250 ∷ 209 ∷ 45 ∷ 113 ∷ 4 ∷ 104 ∷ 166 ∷ 245 ∷ 240 ∷ 210 ∷ 165 ∷ 3 ∷ 80 ∷ 225 ∷ 128 ∷ 160 ∷ 15 ∷ 244 ∷ 160 ∷ 16 ∷ 141 ∷ 47 ∷ 9 ∷ 125 ∷ 239 ∷ 135 ∷ 204 ∷ []) ∷ (0 ∷ []) ∷ (0 ∷ 16 ∷ 0 ∷ 0 ∷ 17 ∷ 0 ∷ 0 ∷ 18 ∷ 0 ∷ 0 ∷ 1 ∷ 1 ∷ 0 ∷ 1 ∷ 0 ∷ []) ∷ (0 ∷ 3795029548 ∷ 3 ∷ 3795031237 ∷ 6 ∷ 3795031866 ∷ 7 ∷ 3795032230 ∷ 10 ∷ 3795032721 ∷ 13 ∷ 3795032770 ∷ 16 ∷ 3795033842 ∷ 19 ∷ 3795034188 ∷ 22 ∷ 3795034841 ∷ 25 ∷ 3795036352 ∷ 28 ∷ 3795038077 ∷ 38 ∷ 3795038320 ∷ 39 ∷ 3795039383 ∷ 42 ∷ 3795040101 ∷ 45 ∷ 3795041318 ∷ []) ∷ ([]) ∷ (0 ∷ 0 ∷ 1 ∷ 0 ∷ 3 ∷ 0 ∷ 4 ∷ 0 ∷ 6 ∷ 0 ∷ 7 ∷ 0 ∷ 9 ∷ 0 ∷ 11 ∷ 0 ∷ 12 ∷ 0 ∷ 13 ∷ 0 ∷ []) ∷ (3 ∷ 0 ∷ 1 ∷ 0 ∷ 3795029548 ∷ 2 ∷ 0 ∷ 1 ∷ 3 ∷ 3795032230 ∷ 4 ∷ 0 ∷ 1 ∷ 4 ∷ 3795032721 ∷ 1 ∷ 0 ∷ 1 ∷ 11 ∷ 3795038320 ∷ 1 ∷ 0 ∷ 0 ∷ 11 ∷ 3795038320 ∷ []) ∷ (0 ∷ 0 ∷ 0 ∷ 1 ∷ 0 ∷ 0 ∷ 1 ∷ 2 ∷ 0 ∷ 0 ∷ 2 ∷ 2 ∷ 1 ∷ 0 ∷ 1 ∷ 2 ∷ 2 ∷ 2 ∷ 0 ∷ 3 ∷ 2 ∷ 2 ∷ 2 ∷ []) ∷ (0 ∷ 4 ∷ 8 ∷ 13 ∷ 18 ∷ []) ∷ (0 ∷ 1 ∷ 2 ∷ 3 ∷ []) ∷ (0 ∷ 3 ∷ 0 ∷ 0 ∷ 1 ∷ 3 ∷ 0 ∷ 0 ∷ 0 ∷ 3 ∷ 1 ∷ 0 ∷ 0 ∷ 2 ∷ 2 ∷ 0 ∷ 1 ∷ 2 ∷ 0 ∷ 0 ∷ 0 ∷ 4 ∷ 3 ∷ 0 ∷ 1 ∷ 4 ∷ 0 ∷ 0 ∷ 2 ∷ 4 ∷ 0 ∷ 0 ∷ 0 ∷ 2 ∷ 4 ∷ 0 ∷ 0 ∷ 4 ∷ 5 ∷ 0 ∷ 2 ∷ 4 ∷ 1 ∷ 0 ∷ 0 ∷ 4 ∷ 6 ∷ 0 ∷ 2 ∷ 4 ∷ 2 ∷ 0 ∷ 0 ∷ 1 ∷ 7 ∷ 0 ∷ 1 ∷ 1 ∷ 0 ∷ 0 ∷ 0 ∷ 2 ∷ 8 ∷ 0 ∷ 0 ∷ 4 ∷ 9 ∷ 0 ∷ 2 ∷ 4 ∷ 3 ∷ 7 ∷ []) ∷ ([]) ∷ [])
unfolding step bits bytes crc5_of crc16_of after format_of format_ok format_reason reason_of checked_of transaction_status extract_payload details_of with_type with_detail fresh is_read is_set_configuration is_set_interface kind_by kind_of laid is_whole whole_in whole is_of first_of max_of value_of chunks applied count_set note_of with_max device_after count_after shelf_after row_after setup_group control_group begin_group repeat_group other_group group_status group_update group_early_start group_early_append transaction_update event_update handle_raw_packet handle_event handle_detail finish
run-camera-4 = refl

run-camera-9 :
    LeavesIn true (packet (0x78 ∷ 0x01 ∷ 0x01 ∷ 0x16 ∷ []) 3195037165 ∷ packet (0x69 ∷ 0x80 ∷ 0xA0 ∷ []) 3195038077 ∷ packet (0x78 ∷ 0x81 ∷ 0x01 ∷ 0xCE ∷ []) 3195038649 ∷ packet (0x69 ∷ 0x80 ∷ 0xA0 ∷ []) 3195039314 ∷ packet (0x0F ∷ 0x00 ∷ 0x00 ∷ []) 3195040942 ∷ packet (0x78 ∷ 0x81 ∷ 0x01 ∷ 0xCE ∷ []) 3195042043 ∷ packet (0x69 ∷ 0x80 ∷ 0xA0 ∷ []) 3195042724 ∷ packet (0x3C ∷ []) 3195043552 ∷ packet (0x2D ∷ 0x01 ∷ 0xE8 ∷ []) 3195045326 ∷ packet (0xC3 ∷ 0x80 ∷ 0x06 ∷ 0x00 ∷ 0x01 ∷ 0x00 ∷ 0x00 ∷ 0x12 ∷ 0x00 ∷ 0xE0 ∷ 0xF4 ∷ []) 3195046946 ∷ packet (0xD2 ∷ []) 3195048408 ∷ packet (0x78 ∷ 0x81 ∷ 0x01 ∷ 0xCE ∷ []) 3195049935 ∷ packet (0x69 ∷ 0x01 ∷ 0xE8 ∷ []) 3195050923 ∷ packet (0x0F ∷ 0x12 ∷ 0x01 ∷ 0x00 ∷ 0x02 ∷ 0x00 ∷ 0x00 ∷ 0x00 ∷ 0x08 ∷ 0x57 ∷ 0xE7 ∷ []) 3195050959 ∷ packet (0x78 ∷ 0x81 ∷ 0x01 ∷ 0xCE ∷ []) 3195051947 ∷ packet (0x69 ∷ 0x01 ∷ 0xE8 ∷ []) 3195053068 ∷ finishing ∷ [])
    ((120 ∷ 1 ∷ 1 ∷ 22 ∷ 105 ∷ 128 ∷ 160 ∷ 120 ∷ 129 ∷ 1 ∷ 206 ∷ 105 ∷ 128 ∷ 160 ∷ 15 ∷ 0 ∷ 0 ∷ 120 ∷ 129 ∷ 1 ∷ 206 ∷ 105 ∷ 128 ∷ 160 ∷ 60 ∷ 45 ∷ 1 ∷ 232 ∷ 195 ∷ 128 ∷ 6 ∷ 0 ∷ 1 ∷ 0 ∷ 0 ∷ 18 ∷ 0 ∷ 224 ∷ 244 ∷ 210 ∷ 120 ∷ 129 ∷ 1 ∷ 206 ∷ 105 ∷ 1 ∷ 232 ∷ 15 ∷ 18 ∷ 1 ∷ 0 ∷ 2 ∷ 0 ∷ 0 ∷ 0 ∷ 8 ∷ 87 ∷ 231 ∷ 120 ∷ 129 ∷ 1 ∷ 206 ∷ 105 ∷ 1 ∷ 232 ∷ []) ∷ (0 ∷ 1 ∷ []) ∷ (0 ∷ 16 ∷ 0 ∷ 0 ∷ 17 ∷ 0 ∷ 0 ∷ 18 ∷ 0 ∷ 0 ∷ 1 ∷ 1 ∷ 1 ∷ 0 ∷ 0 ∷ []) ∷ (0 ∷ 3195037165 ∷ 4 ∷ 3195038077 ∷ 7 ∷ 3195038649 ∷ 11 ∷ 3195039314 ∷ 14 ∷ 3195040942 ∷ 17 ∷ 3195042043 ∷ 21 ∷ 3195042724 ∷ 24 ∷ 3195043552 ∷ 25 ∷ 3195045326 ∷ 28 ∷ 3195046946 ∷ 39 ∷ 3195048408 ∷ 40 ∷ 3195049935 ∷ 44 ∷ 3195050923 ∷ 47 ∷ 3195050959 ∷ 58 ∷ 3195051947 ∷ 62 ∷ 3195053068 ∷ []) ∷ ([]) ∷ (0 ∷ 0 ∷ 2 ∷ 0 ∷ 5 ∷ 0 ∷ 8 ∷ 0 ∷ 11 ∷ 0 ∷ 14 ∷ 0 ∷ []) ∷ (3 ∷ 0 ∷ 1 ∷ 1 ∷ 3195038077 ∷ 3 ∷ 0 ∷ 0 ∷ 4 ∷ 3195040942 ∷ 3 ∷ 1 ∷ 1 ∷ 4 ∷ 3195040942 ∷ 3 ∷ 1 ∷ 0 ∷ 7 ∷ 3195043552 ∷ 3 ∷ 2 ∷ 1 ∷ 7 ∷ 3195043552 ∷ 4 ∷ 0 ∷ 1 ∷ 8 ∷ 3195045326 ∷ []) ∷ (0 ∷ 0 ∷ 0 ∷ 1 ∷ 0 ∷ 0 ∷ 0 ∷ 3 ∷ 0 ∷ 0 ∷ 0 ∷ 1 ∷ 0 ∷ 0 ∷ 0 ∷ 3 ∷ 0 ∷ 0 ∷ 0 ∷ 1 ∷ 0 ∷ 0 ∷ 0 ∷ 2 ∷ 1 ∷ []) ∷ (0 ∷ 4 ∷ 8 ∷ 12 ∷ 16 ∷ 20 ∷ []) ∷ (0 ∷ 2 ∷ 4 ∷ 5 ∷ []) ∷ (0 ∷ 3 ∷ 0 ∷ 0 ∷ 1 ∷ 3 ∷ 0 ∷ 0 ∷ 0 ∷ 3 ∷ 1 ∷ 0 ∷ 1 ∷ 3 ∷ 1 ∷ 0 ∷ 3 ∷ 3 ∷ 1 ∷ 0 ∷ 2 ∷ 3 ∷ 1 ∷ 0 ∷ 0 ∷ 3 ∷ 2 ∷ 0 ∷ 1 ∷ 3 ∷ 2 ∷ 0 ∷ 3 ∷ 3 ∷ 2 ∷ 0 ∷ 0 ∷ 4 ∷ 3 ∷ 0 ∷ 1 ∷ 4 ∷ 0 ∷ 0 ∷ 0 ∷ 4 ∷ 4 ∷ 0 ∷ 2 ∷ 4 ∷ 1 ∷ 0 ∷ 0 ∷ 4 ∷ 5 ∷ 0 ∷ []) ∷ ([]) ∷ [])
unfolding step bits bytes crc5_of crc16_of after format_of format_ok format_reason reason_of checked_of transaction_status extract_payload details_of with_type with_detail fresh is_read is_set_configuration is_set_interface kind_by kind_of laid is_whole whole_in whole is_of first_of max_of value_of chunks applied count_set note_of with_max device_after count_after shelf_after row_after setup_group control_group begin_group repeat_group other_group group_status group_update group_early_start group_early_append transaction_update event_update handle_raw_packet handle_event handle_detail finish
run-camera-9 = refl

run-camera-13 :
    LeavesIn true (packet (0x69 ∷ 0x00 ∷ 0x39 ∷ []) 4172123123 ∷ packet (0x69 ∷ 0x00 ∷ 0x39 ∷ []) 4172124676 ∷ packet (0x5A ∷ []) 4172125139 ∷ detail 0 2 1 3 8 ∷ packet (0x78 ∷ 0x01 ∷ 0x01 ∷ 0x16 ∷ []) 4172125583 ∷ packet (0x69 ∷ 0x00 ∷ 0x39 ∷ []) 4172127092 ∷ packet (0x78 ∷ 0x81 ∷ 0x01 ∷ 0xCE ∷ []) 4172127844 ∷ packet (0x69 ∷ 0x00 ∷ 0x39 ∷ []) 4172128520 ∷ packet (0x0F ∷ 0x0A ∷ 0xC2 ∷ 0x3F ∷ 0x24 ∷ 0x22 ∷ 0x65 ∷ 0xB5 ∷ 0x8E ∷ 0x45 ∷ 0xDC ∷ []) 4172129574 ∷ packet (0x78 ∷ 0x01 ∷ 0x01 ∷ 0x16 ∷ []) 4172131423 ∷ packet (0xE1 ∷ 0x81 ∷ 0x58 ∷ []) 4172132716 ∷ packet (0x4B ∷ 0xAD ∷ 0xD2 ∷ 0x85 ∷ 0xC9 ∷ 0x3D ∷ 0x3E ∷ 0x6A ∷ 0xCF ∷ 0x47 ∷ 0x09 ∷ []) 4172134079 ∷ packet (0x78 ∷ 0x81 ∷ 0x01 ∷ 0xCE ∷ []) 4172135691 ∷ packet (0xE1 ∷ 0x81 ∷ 0x58 ∷ []) 4172136748 ∷ packet (0x3C ∷ []) 4172136971 ∷ packet (0x78 ∷ 0x81 ∷ 0x01 ∷ 0xCE ∷ []) 4172137940 ∷ finishing ∷ [])
    ((105 ∷ 0 ∷ 57 ∷ 105 ∷ 0 ∷ 57 ∷ 90 ∷ 120 ∷ 1 ∷ 1 ∷ 22 ∷ 105 ∷ 0 ∷ 57 ∷ 120 ∷ 129 ∷ 1 ∷ 206 ∷ 105 ∷ 0 ∷ 57 ∷ 15 ∷ 10 ∷ 194 ∷ 63 ∷ 36 ∷ 34 ∷ 101 ∷ 181 ∷ 142 ∷ 69 ∷ 220 ∷ 120 ∷ 1 ∷ 1 ∷ 22 ∷ 225 ∷ 129 ∷ 88 ∷ 75 ∷ 173 ∷ 210 ∷ 133 ∷ 201 ∷ 61 ∷ 62 ∷ 106 ∷ 207 ∷ 71 ∷ 9 ∷ 120 ∷ 129 ∷ 1 ∷ 206 ∷ 225 ∷ 129 ∷ 88 ∷ 60 ∷ 120 ∷ 129 ∷ 1 ∷ 206 ∷ []) ∷ (0 ∷ 1 ∷ []) ∷ (0 ∷ 16 ∷ 0 ∷ 0 ∷ 17 ∷ 0 ∷ 0 ∷ 18 ∷ 0 ∷ 0 ∷ 2 ∷ 1 ∷ 1 ∷ 1 ∷ 0 ∷ []) ∷ (0 ∷ 4172123123 ∷ 3 ∷ 4172124676 ∷ 6 ∷ 4172125139 ∷ 7 ∷ 4172125583 ∷ 11 ∷ 4172127092 ∷ 14 ∷ 4172127844 ∷ 18 ∷ 4172128520 ∷ 21 ∷ 4172129574 ∷ 32 ∷ 4172131423 ∷ 36 ∷ 4172132716 ∷ 39 ∷ 4172134079 ∷ 50 ∷ 4172135691 ∷ 54 ∷ 4172136748 ∷ 57 ∷ 4172136971 ∷ 58 ∷ 4172137940 ∷ []) ∷ ([]) ∷ (0 ∷ 0 ∷ 1 ∷ 0 ∷ 3 ∷ 0 ∷ 5 ∷ 0 ∷ 8 ∷ 0 ∷ 11 ∷ 0 ∷ 14 ∷ 0 ∷ []) ∷ (3 ∷ 0 ∷ 1 ∷ 0 ∷ 4172123123 ∷ 3 ∷ 0 ∷ 0 ∷ 7 ∷ 4172129574 ∷ 3 ∷ 1 ∷ 1 ∷ 7 ∷ 4172129574 ∷ 4 ∷ 0 ∷ 1 ∷ 10 ∷ 4172134079 ∷ []) ∷ (0 ∷ 0 ∷ 0 ∷ 1 ∷ 0 ∷ 0 ∷ 0 ∷ 3 ∷ 0 ∷ 0 ∷ 0 ∷ 1 ∷ 0 ∷ 0 ∷ 0 ∷ 2 ∷ 1 ∷ []) ∷ (0 ∷ 4 ∷ 8 ∷ 12 ∷ []) ∷ (0 ∷ 2 ∷ 3 ∷ []) ∷ (0 ∷ 3 ∷ 0 ∷ 0 ∷ 1 ∷ 3 ∷ 0 ∷ 0 ∷ 0 ∷ 3 ∷ 1 ∷ 0 ∷ 0 ∷ 3 ∷ 2 ∷ 0 ∷ 0 ∷ 3 ∷ 3 ∷ 0 ∷ 1 ∷ 3 ∷ 3 ∷ 0 ∷ 3 ∷ 3 ∷ 1 ∷ 0 ∷ 2 ∷ 3 ∷ 3 ∷ 0 ∷ 0 ∷ 4 ∷ 4 ∷ 0 ∷ 1 ∷ 4 ∷ 0 ∷ 0 ∷ 0 ∷ 4 ∷ 5 ∷ 0 ∷ []) ∷ ([]) ∷ [])
unfolding step bits bytes crc5_of crc16_of after format_of format_ok format_reason reason_of checked_of transaction_status extract_payload details_of with_type with_detail fresh is_read is_set_configuration is_set_interface kind_by kind_of laid is_whole whole_in whole is_of first_of max_of value_of chunks applied count_set note_of with_max device_after count_after shelf_after row_after setup_group control_group begin_group repeat_group other_group group_status group_update group_early_start group_early_append transaction_update event_update handle_raw_packet handle_event handle_detail finish
run-camera-13 = refl

run-camera-14 :
    LeavesIn true (packet (0x69 ∷ 0x80 ∷ 0xA0 ∷ []) 903605110 ∷ packet (0x69 ∷ 0x80 ∷ 0xA0 ∷ []) 903606481 ∷ packet (0x5A ∷ []) 903606578 ∷ detail 0 1 0 1 16 ∷ packet (0xA5 ∷ 0x01 ∷ 0xE8 ∷ []) 903607561 ∷ packet (0xE1 ∷ 0x80 ∷ 0xA0 ∷ []) 903608950 ∷ packet (0x0F ∷ 0xDE ∷ 0xC0 ∷ 0x5C ∷ 0x4B ∷ 0xF1 ∷ 0xFC ∷ 0xA3 ∷ 0xF8 ∷ 0x13 ∷ 0xC2 ∷ 0xE9 ∷ 0x36 ∷ 0x09 ∷ 0xE2 ∷ 0x5A ∷ 0x4C ∷ 0x53 ∷ []) 903610315 ∷ packet (0xE1 ∷ 0x80 ∷ 0xA0 ∷ []) 903611905 ∷ packet (0x0F ∷ 0xBF ∷ 0x22 ∷ 0x4A ∷ 0x26 ∷ 0x65 ∷ 0xF8 ∷ 0x73 ∷ 0x40 ∷ 0xD5 ∷ 0xCC ∷ 0x82 ∷ 0x6C ∷ 0xAF ∷ 0x03 ∷ 0xA4 ∷ 0xCF ∷ 0x2C ∷ 0xB6 ∷ []) 903612318 ∷ packet (0xE1 ∷ 0x80 ∷ 0xA0 ∷ []) 903613939 ∷ packet (0x87 ∷ 0x49 ∷ 0x5D ∷ 0x2F ∷ 0x70 ∷ 0xE1 ∷ 0x68 ∷ 0x41 ∷ 0x99 ∷ 0x1A ∷ 0x92 ∷ 0xA3 ∷ 0xAF ∷ 0x04 ∷ 0x0B ∷ 0xDE ∷ 0x98 ∷ 0x2E ∷ 0xDC ∷ 0x5E ∷ []) 903615756 ∷ packet (0xA5 ∷ 0x02 ∷ 0xA8 ∷ []) 903615940 ∷ packet (0xE1 ∷ 0x80 ∷ 0xA0 ∷ []) 903617011 ∷ packet (0x0F ∷ 0x1E ∷ 0xDC ∷ 0x16 ∷ 0x99 ∷ 0x04 ∷ 0x30 ∷ 0xB6 ∷ 0x27 ∷ 0x80 ∷ 0x8C ∷ 0x55 ∷ 0x66 ∷ 0xC0 ∷ 0xC2 ∷ 0x4B ∷ 0xB0 ∷ 0x62 ∷ 0x9B ∷ []) 903619004 ∷ packet (0xE1 ∷ 0x80 ∷ 0xA0 ∷ []) 903619445 ∷ packet (0x4B ∷ 0xB5 ∷ 0x4F ∷ 0xA7 ∷ 0x5E ∷ 0x99 ∷ 0x32 ∷ 0x72 ∷ 0xA2 ∷ 0x6F ∷ 0x85 ∷ 0xE2 ∷ 0x91 ∷ 0x07 ∷ 0x55 ∷ 0x13 ∷ 0x26 ∷ 0x04 ∷ 0xB7 ∷ []) 903619676 ∷ finishing ∷ [])
    ((105 ∷ 128 ∷ 160 ∷ 105 ∷ 128 ∷ 160 ∷ 90 ∷ 165 ∷ 1 ∷ 232 ∷ 225 ∷ 128 ∷ 160 ∷ 15 ∷ 222 ∷ 192 ∷ 92 ∷ 75 ∷ 241 ∷ 252 ∷ 163 ∷ 248 ∷ 19 ∷ 194 ∷ 233 ∷ 54 ∷ 9 ∷ 226 ∷ 90 ∷ 76 ∷ 83 ∷ 225 ∷ 128 ∷ 160 ∷ 15 ∷ 191 ∷ 34 ∷ 74 ∷ 38 ∷ 101 ∷ 248 ∷ 115 ∷ 64 ∷ 213 ∷ 204 ∷ 130 ∷ 108 ∷ 175 ∷ 3 ∷ 164 ∷ 207 ∷ 44 ∷ 182 ∷ 225 ∷ 128 ∷ 160 ∷ 135 ∷ 73 ∷ 93 ∷ 47 ∷ 112 ∷ 225 ∷ 104 ∷ 65 ∷ 153 ∷ 26 ∷ 146 ∷ 163 ∷ 175 ∷ 4 ∷ 11 ∷ 222 ∷ 152 ∷ 46 ∷ 220 ∷ 94 ∷ 165 ∷ 2 ∷ 168 ∷ 225 ∷ 128 ∷ 160 ∷ 15 ∷ 30 ∷ 220 ∷ 22 ∷ 153 ∷ 4 ∷ 48 ∷ 182 ∷ 39 ∷ 128 ∷ 140 ∷ 85 ∷ 102 ∷ 192 ∷ 194 ∷ 75 ∷ 176 ∷ 98 ∷ 155 ∷ 225 ∷ 128 ∷ 160 ∷ 75 ∷ 181 ∷ 79 ∷ 167 ∷ 94 ∷ 153 ∷ 50 ∷ 114 ∷ 162 ∷ 111 ∷ 133 ∷ 226 ∷ 145 ∷ 7 ∷ 85 ∷ 19 ∷ 38 ∷ 4 ∷ 183 ∷ []) ∷ (0 ∷ []) ∷ (0 ∷ 16 ∷ 0 ∷ 0 ∷ 17 ∷ 0 ∷ 0 ∷ 18 ∷ 0 ∷ 0 ∷ 1 ∷ 1 ∷ 0 ∷ 1 ∷ 0 ∷ []) ∷ (0 ∷ 903605110 ∷ 3 ∷ 903606481 ∷ 6 ∷ 903606578 ∷ 7 ∷ 903607561 ∷ 10 ∷ 903608950 ∷ 13 ∷ 903610315 ∷ 31 ∷ 903611905 ∷ 34 ∷ 903612318 ∷ 53 ∷ 903613939 ∷ 56 ∷ 903615756 ∷ 76 ∷ 903615940 ∷ 79 ∷ 903617011 ∷ 82 ∷ 903619004 ∷ 101 ∷ 903619445 ∷ 104 ∷ 903619676 ∷ []) ∷ ([]) ∷ (0 ∷ 0 ∷ 1 ∷ 0 ∷ 3 ∷ 0 ∷ 4 ∷ 0 ∷ 6 ∷ 0 ∷ 8 ∷ 0 ∷ 10 ∷ 0 ∷ 11 ∷ 0 ∷ 13 ∷ 0 ∷ []) ∷ (3 ∷ 0 ∷ 1 ∷ 0 ∷ 903605110 ∷ 2 ∷ 0 ∷ 1 ∷ 3 ∷ 903607561 ∷ 4 ∷ 0 ∷ 1 ∷ 4 ∷ 903608950 ∷ []) ∷ (0 ∷ 0 ∷ 0 ∷ 1 ∷ 0 ∷ 0 ∷ 1 ∷ 2 ∷ 0 ∷ 0 ∷ 2 ∷ 2 ∷ 1 ∷ []) ∷ (0 ∷ 4 ∷ 8 ∷ []) ∷ (0 ∷ 1 ∷ 2 ∷ []) ∷ (0 ∷ 3 ∷ 0 ∷ 0 ∷ 1 ∷ 3 ∷ 0 ∷ 0 ∷ 0 ∷ 3 ∷ 1 ∷ 0 ∷ 0 ∷ 2 ∷ 2 ∷ 0 ∷ 1 ∷ 2 ∷ 0 ∷ 0 ∷ 0 ∷ 4 ∷ 3 ∷ 0 ∷ 1 ∷ 4 ∷ 0 ∷ 0 ∷ 2 ∷ 4 ∷ 0 ∷ 0 ∷ 0 ∷ 4 ∷ 4 ∷ 0 ∷ 2 ∷ 4 ∷ 1 ∷ 15 ∷ 0 ∷ 4 ∷ 5 ∷ 0 ∷ 2 ∷ 4 ∷ 2 ∷ 31 ∷ 0 ∷ 2 ∷ 6 ∷ 0 ∷ 0 ∷ 4 ∷ 7 ∷ 0 ∷ 2 ∷ 4 ∷ 3 ∷ 48 ∷ 0 ∷ 4 ∷ 8 ∷ 0 ∷ 2 ∷ 4 ∷ 4 ∷ 64 ∷ []) ∷ ([]) ∷ [])
unfolding step bits bytes crc5_of crc16_of after format_of format_ok format_reason reason_of checked_of transaction_status extract_payload details_of with_type with_detail fresh is_read is_set_configuration is_set_interface kind_by kind_of laid is_whole whole_in whole is_of first_of max_of value_of chunks applied count_set note_of with_max device_after count_after shelf_after row_after setup_group control_group begin_group repeat_group other_group group_status group_update group_early_start group_early_append transaction_update event_update handle_raw_packet handle_event handle_detail finish
run-camera-14 = refl

run-camera-17 :
    LeavesIn true (packet (0x69 ∷ 0x02 ∷ 0x81 ∷ []) 786660024 ∷ packet (0x69 ∷ 0x02 ∷ 0x81 ∷ []) 786660594 ∷ packet (0x5A ∷ []) 786662242 ∷ detail 2 2 1 1 16 ∷ packet (0xA5 ∷ 0x01 ∷ 0xE8 ∷ []) 786663639 ∷ packet (0x69 ∷ 0x02 ∷ 0x81 ∷ []) 786663670 ∷ packet (0x87 ∷ 0x65 ∷ 0xA3 ∷ 0xE8 ∷ 0x95 ∷ 0x09 ∷ 0x45 ∷ 0x1B ∷ 0x53 ∷ 0xB7 ∷ 0xC1 ∷ 0x68 ∷ 0xB9 ∷ 0x1C ∷ 0x59 ∷ 0xA3 ∷ 0x38 ∷ 0x0D ∷ 0xEF ∷ []) 786664718 ∷ packet (0x69 ∷ 0x02 ∷ 0x81 ∷ []) 786666521 ∷ packet (0x4B ∷ 0xAC ∷ 0x78 ∷ 0xD3 ∷ 0x46 ∷ 0x68 ∷ 0x37 ∷ 0xCB ∷ 0xA3 ∷ 0xC5 ∷ 0xDB ∷ 0x9C ∷ 0x56 ∷ 0xFA ∷ 0x7D ∷ 0xB3 ∷ 0x84 ∷ 0x5A ∷ 0x21 ∷ []) 786666889 ∷ packet (0x69 ∷ 0x02 ∷ 0x81 ∷ []) 786667995 ∷ event 0 92 786668295 ∷ packet (0xC3 ∷ 0xF7 ∷ 0x85 ∷ 0x1A ∷ 0x39 ∷ 0x26 ∷ 0x15 ∷ 0x9F ∷ 0x8F ∷ 0x1D ∷ 0x9B ∷ 0x26 ∷ 0x34 ∷ 0xEC ∷ 0x5D ∷ 0x6D ∷ 0x29 ∷ 0x8B ∷ 0xAB ∷ []) 786669199 ∷ packet (0x2D ∷ 0x00 ∷ 0x10 ∷ []) 786670388 ∷ packet (0xC3 ∷ 0x80 ∷ 0x06 ∷ 0x00 ∷ 0x01 ∷ 0x00 ∷ 0x00 ∷ 0x12 ∷ 0x00 ∷ 0xE0 ∷ 0xF4 ∷ []) 786670601 ∷ packet (0xD2 ∷ []) 786671581 ∷ packet (0x78 ∷ 0x81 ∷ 0x01 ∷ 0x6A ∷ []) 786672289 ∷ finishing ∷ [])
    ((105 ∷ 2 ∷ 129 ∷ 105 ∷ 2 ∷ 129 ∷ 90 ∷ 165 ∷ 1 ∷ 232 ∷ 105 ∷ 2 ∷ 129 ∷ 135 ∷ 101 ∷ 163 ∷ 232 ∷ 149 ∷ 9 ∷ 69 ∷ 27 ∷ 83 ∷ 183 ∷ 193 ∷ 104 ∷ 185 ∷ 28 ∷ 89 ∷ 163 ∷ 56 ∷ 13 ∷ 239 ∷ 105 ∷ 2 ∷ 129 ∷ 75 ∷ 172 ∷ 120 ∷ 211 ∷ 70 ∷ 104 ∷ 55 ∷ 203 ∷ 163 ∷ 197 ∷ 219 ∷ 156 ∷ 86 ∷ 250 ∷ 125 ∷ 179 ∷ 132 ∷ 90 ∷ 33 ∷ 105 ∷ 2 ∷ 129 ∷ 195 ∷ 247 ∷ 133 ∷ 26 ∷ 57 ∷ 38 ∷ 21 ∷ 159 ∷ 143 ∷ 29 ∷ 155 ∷ 38 ∷ 52 ∷ 236 ∷ 93 ∷ 109 ∷ 41 ∷ 139 ∷ 171 ∷ 45 ∷ 0 ∷ 16 ∷ 195 ∷ 128 ∷ 6 ∷ 0 ∷ 1 ∷ 0 ∷ 0 ∷ 18 ∷ 0 ∷ 224 ∷ 244 ∷ 210 ∷ 120 ∷ 129 ∷ 1 ∷ 106 ∷ []) ∷ (0 ∷ 2 ∷ []) ∷ (0 ∷ 16 ∷ 0 ∷ 0 ∷ 17 ∷ 0 ∷ 0 ∷ 18 ∷ 0 ∷ 1 ∷ 2 ∷ 1 ∷ 0 ∷ 0 ∷ 0 ∷ []) ∷ (0 ∷ 786660024 ∷ 3 ∷ 786660594 ∷ 6 ∷ 786662242 ∷ 7 ∷ 786663639 ∷ 10 ∷ 786663670 ∷ 13 ∷ 786664718 ∷ 32 ∷ 786666521 ∷ 35 ∷ 786666889 ∷ 54 ∷ 786667995 ∷ 57 ∷ 786668295 ∷ 57 ∷ 786669199 ∷ 76 ∷ 786670388 ∷ 79 ∷ 786670601 ∷ 90 ∷ 786671581 ∷ 91 ∷ 786672289 ∷ []) ∷ (9 ∷ 92 ∷ []) ∷ (0 ∷ 0 ∷ 1 ∷ 0 ∷ 3 ∷ 0 ∷ 4 ∷ 0 ∷ 6 ∷ 0 ∷ 8 ∷ 0 ∷ 9 ∷ 0 ∷ 10 ∷ 0 ∷ 11 ∷ 0 ∷ 14 ∷ 0 ∷ []) ∷ (3 ∷ 0 ∷ 1 ∷ 0 ∷ 786660024 ∷ 2 ∷ 0 ∷ 1 ∷ 3 ∷ 786663639 ∷ 3 ∷ 0 ∷ 0 ∷ 5 ∷ 786664718 ∷ 3 ∷ 1 ∷ 1 ∷ 5 ∷ 786664718 ∷ 0 ∷ 0 ∷ 1 ∷ 9 ∷ 786668295 ∷ 4 ∷ 0 ∷ 1 ∷ 11 ∷ 786670388 ∷ []) ∷ (0 ∷ 0 ∷ 0 ∷ 1 ∷ 0 ∷ 0 ∷ 1 ∷ 2 ∷ 0 ∷ 0 ∷ 2 ∷ 3 ∷ 0 ∷ 0 ∷ 2 ∷ 1 ∷ 1 ∷ 0 ∷ 3 ∷ 3 ∷ 2 ∷ 0 ∷ 0 ∷ 0 ∷ 1 ∷ []) ∷ (0 ∷ 4 ∷ 8 ∷ 12 ∷ 16 ∷ 20 ∷ []) ∷ (0 ∷ 1 ∷ 3 ∷ 4 ∷ 5 ∷ []) ∷ (0 ∷ 3 ∷ 0 ∷ 0 ∷ 1 ∷ 3 ∷ 0 ∷ 0 ∷ 0 ∷ 3 ∷ 1 ∷ 0 ∷ 0 ∷ 2 ∷ 2 ∷ 0 ∷ 1 ∷ 2 ∷ 0 ∷ 0 ∷ 0 ∷ 3 ∷ 3 ∷ 0 ∷ 1 ∷ 3 ∷ 2 ∷ 0 ∷ 3 ∷ 3 ∷ 2 ∷ 0 ∷ 2 ∷ 3 ∷ 2 ∷ 0 ∷ 0 ∷ 3 ∷ 4 ∷ 0 ∷ 2 ∷ 3 ∷ 3 ∷ 16 ∷ 0 ∷ 0 ∷ 6 ∷ 0 ∷ 1 ∷ 0 ∷ 0 ∷ 0 ∷ 0 ∷ 3 ∷ 7 ∷ 0 ∷ 2 ∷ 3 ∷ 4 ∷ 32 ∷ 0 ∷ 4 ∷ 8 ∷ 0 ∷ 1 ∷ 4 ∷ 0 ∷ 0 ∷ []) ∷ ([]) ∷ [])
unfolding step bits bytes crc5_of crc16_of after format_of format_ok format_reason reason_of checked_of transaction_status extract_payload details_of with_type with_detail fresh is_read is_set_configuration is_set_interface kind_by kind_of laid is_whole whole_in whole is_of first_of max_of value_of chunks applied count_set note_of with_max device_after count_after shelf_after row_after setup_group control_group begin_group repeat_group other_group group_status group_update group_early_start group_early_append transaction_update event_update handle_raw_packet handle_event handle_detail finish
run-camera-17 = refl

run-camera-21 :
    LeavesIn true (packet (0x2D ∷ 0x02 ∷ 0xA8 ∷ []) 3085445462 ∷ packet (0xC3 ∷ 0x80 ∷ 0x06 ∷ 0x00 ∷ 0x01 ∷ 0x00 ∷ 0x00 ∷ 0x12 ∷ 0x00 ∷ 0xE0 ∷ 0xF4 ∷ []) 3085447239 ∷ packet (0xD2 ∷ []) 3085447683 ∷ packet (0x78 ∷ 0x81 ∷ 0x01 ∷ 0xCE ∷ []) 3085447968 ∷ packet (0x69 ∷ 0x02 ∷ 0xA8 ∷ []) 3085449265 ∷ packet (0x0F ∷ 0x12 ∷ 0x01 ∷ 0x00 ∷ 0x02 ∷ 0x00 ∷ 0x00 ∷ 0x00 ∷ 0x40 ∷ 0x57 ∷ 0xD1 ∷ []) 3085449810 ∷ packet (0x78 ∷ 0x81 ∷ 0x01 ∷ 0xCE ∷ []) 3085451533 ∷ packet (0x69 ∷ 0x02 ∷ 0xA8 ∷ []) 3085453284 ∷ packet (0xC3 ∷ 0x09 ∷ 0x12 ∷ 0x01 ∷ 0x00 ∷ 0x00 ∷ 0x01 ∷ 0x01 ∷ 0x02 ∷ 0x9D ∷ 0xDF ∷ []) 3085454746 ∷ packet (0x78 ∷ 0x81 ∷ 0x01 ∷ 0xCE ∷ []) 3085454946 ∷ packet (0x69 ∷ 0x02 ∷ 0xA8 ∷ []) 3085456776 ∷ packet (0x0F ∷ 0x03 ∷ 0x01 ∷ 0x3F ∷ 0x7F ∷ []) 3085458497 ∷ packet (0x78 ∷ 0x81 ∷ 0x01 ∷ 0xCE ∷ []) 3085458806 ∷ packet (0x69 ∷ 0x02 ∷ 0xA8 ∷ []) 3085459776 ∷ packet (0x0F ∷ 0x01 ∷ 0x02 ∷ 0x03 ∷ 0x9E ∷ 0x9E ∷ []) 3085461363 ∷ packet (0xE1 ∷ 0x02 ∷ 0xA8 ∷ []) 3085463233 ∷ finishing ∷ [])
    ((45 ∷ 2 ∷ 168 ∷ 195 ∷ 128 ∷ 6 ∷ 0 ∷ 1 ∷ 0 ∷ 0 ∷ 18 ∷ 0 ∷ 224 ∷ 244 ∷ 210 ∷ 120 ∷ 129 ∷ 1 ∷ 206 ∷ 105 ∷ 2 ∷ 168 ∷ 15 ∷ 18 ∷ 1 ∷ 0 ∷ 2 ∷ 0 ∷ 0 ∷ 0 ∷ 64 ∷ 87 ∷ 209 ∷ 120 ∷ 129 ∷ 1 ∷ 206 ∷ 105 ∷ 2 ∷ 168 ∷ 195 ∷ 9 ∷ 18 ∷ 1 ∷ 0 ∷ 0 ∷ 1 ∷ 1 ∷ 2 ∷ 157 ∷ 223 ∷ 120 ∷ 129 ∷ 1 ∷ 206 ∷ 105 ∷ 2 ∷ 168 ∷ 15 ∷ 3 ∷ 1 ∷ 63 ∷ 127 ∷ 120 ∷ 129 ∷ 1 ∷ 206 ∷ 105 ∷ 2 ∷ 168 ∷ 15 ∷ 1 ∷ 2 ∷ 3 ∷ 158 ∷ 158 ∷ 225 ∷ 2 ∷ 168 ∷ []) ∷ (0 ∷ 2 ∷ []) ∷ (0 ∷ 16 ∷ 0 ∷ 0 ∷ 17 ∷ 0 ∷ 0 ∷ 18 ∷ 0 ∷ 1 ∷ 0 ∷ 0 ∷ []) ∷ (0 ∷ 3085445462 ∷ 3 ∷ 3085447239 ∷ 14 ∷ 3085447683 ∷ 15 ∷ 3085447968 ∷ 19 ∷ 3085449265 ∷ 22 ∷ 3085449810 ∷ 33 ∷ 3085451533 ∷ 37 ∷ 3085453284 ∷ 40 ∷ 3085454746 ∷ 51 ∷ 3085454946 ∷ 55 ∷ 3085456776 ∷ 58 ∷ 3085458497 ∷ 63 ∷ 3085458806 ∷ 67 ∷ 3085459776 ∷ 70 ∷ 3085461363 ∷ 76 ∷ 3085463233 ∷ []) ∷ ([]) ∷ (0 ∷ 0 ∷ 3 ∷ 0 ∷ 6 ∷ 0 ∷ 9 ∷ 0 ∷ 12 ∷ 0 ∷ 15 ∷ 0 ∷ []) ∷ (3 ∷ 0 ∷ 1 ∷ 0 ∷ 3085445462 ∷ []) ∷ (0 ∷ 0 ∷ 0 ∷ 1 ∷ []) ∷ (0 ∷ []) ∷ (0 ∷ []) ∷ (0 ∷ 3 ∷ 0 ∷ 0 ∷ 1 ∷ 3 ∷ 0 ∷ 0 ∷ 0 ∷ 3 ∷ 1 ∷ 0 ∷ 2 ∷ 3 ∷ 1 ∷ 0 ∷ 0 ∷ 3 ∷ 2 ∷ 0 ∷ 2 ∷ 3 ∷ 2 ∷ 8 ∷ 0 ∷ 3 ∷ 3 ∷ 0 ∷ 2 ∷ 3 ∷ 3 ∷ 16 ∷ 0 ∷ 3 ∷ 4 ∷ 0 ∷ 2 ∷ 3 ∷ 4 ∷ 18 ∷ 0 ∷ 3 ∷ 5 ∷ 0 ∷ []) ∷ ([]) ∷ [])
unfolding step bits bytes crc5_of crc16_of after format_of format_ok format_reason reason_of checked_of transaction_status extract_payload details_of with_type with_detail fresh is_read is_set_configuration is_set_interface kind_by kind_of laid is_whole whole_in whole is_of first_of max_of value_of chunks applied count_set note_of with_max device_after count_after shelf_after row_after setup_group control_group begin_group repeat_group other_group group_status group_update group_early_start group_early_append transaction_update event_update handle_raw_packet handle_event handle_detail finish
run-camera-21 = refl

run-camera-22 :
    LeavesIn true (packet (0x69 ∷ 0x81 ∷ 0x58 ∷ []) 3570798710 ∷ packet (0x69 ∷ 0x81 ∷ 0x58 ∷ []) 3570800347 ∷ packet (0x5A ∷ []) 3570801599 ∷ detail 1 1 1 1 8 ∷ packet (0xA5 ∷ 0x01 ∷ 0xE8 ∷ []) 3570801943 ∷ packet (0x69 ∷ 0x81 ∷ 0x58 ∷ []) 3570803497 ∷ packet (0x87 ∷ 0xE8 ∷ 0x4D ∷ 0xF2 ∷ 0x9A ∷ 0x8B ∷ 0x4E ∷ 0xED ∷ 0xAB ∷ 0x27 ∷ 0x0C ∷ []) 3570805032 ∷ packet (0x69 ∷ 0x81 ∷ 0x58 ∷ []) 3570806159 ∷ packet (0x4B ∷ 0x47 ∷ 0xC0 ∷ 0xBE ∷ 0xD4 ∷ 0x7E ∷ 0x7F ∷ 0xD3 ∷ 0xCB ∷ 0xD6 ∷ 0xB4 ∷ 0x3A ∷ []) 3570806903 ∷ packet (0x69 ∷ 0x81 ∷ 0x58 ∷ []) 3570807908 ∷ packet (0xC3 ∷ 0x00 ∷ 0x00 ∷ []) 3570808999 ∷ packet (0xA5 ∷ 0x02 ∷ 0xA8 ∷ []) 3570809225 ∷ packet (0x69 ∷ 0x81 ∷ 0x58 ∷ []) 3570810848 ∷ packet (0xC3 ∷ 0x88 ∷ 0x96 ∷ 0xEC ∷ 0x4A ∷ 0x96 ∷ 0x67 ∷ 0xA0 ∷ 0xE9 ∷ 0xEA ∷ 0x80 ∷ []) 3570812790 ∷ packet (0xA5 ∷ 0x03 ∷ 0x50 ∷ []) 3570814091 ∷ packet (0x69 ∷ 0x81 ∷ 0x58 ∷ []) 3570814329 ∷ finishing ∷ [])
    ((105 ∷ 129 ∷ 88 ∷ 105 ∷ 129 ∷ 88 ∷ 90 ∷ 165 ∷ 1 ∷ 232 ∷ 105 ∷ 129 ∷ 88 ∷ 135 ∷ 232 ∷ 77 ∷ 242 ∷ 154 ∷ 139 ∷ 78 ∷ 237 ∷ 171 ∷ 39 ∷ 12 ∷ 105 ∷ 129 ∷ 88 ∷ 75 ∷ 71 ∷ 192 ∷ 190 ∷ 212 ∷ 126 ∷ 127 ∷ 211 ∷ 203 ∷ 214 ∷ 180 ∷ 58 ∷ 105 ∷ 129 ∷ 88 ∷ 195 ∷ 0 ∷ 0 ∷ 165 ∷ 2 ∷ 168 ∷ 105 ∷ 129 ∷ 88 ∷ 195 ∷ 136 ∷ 150 ∷ 236 ∷ 74 ∷ 150 ∷ 103 ∷ 160 ∷ 233 ∷ 234 ∷ 128 ∷ 165 ∷ 3 ∷ 80 ∷ 105 ∷ 129 ∷ 88 ∷ []) ∷ (0 ∷ 1 ∷ []) ∷ (0 ∷ 16 ∷ 0 ∷ 0 ∷ 17 ∷ 0 ∷ 0 ∷ 18 ∷ 0 ∷ 1 ∷ 1 ∷ 1 ∷ []) ∷ (0 ∷ 3570798710 ∷ 3 ∷ 3570800347 ∷ 6 ∷ 3570801599 ∷ 7 ∷ 3570801943 ∷ 10 ∷ 3570803497 ∷ 13 ∷ 3570805032 ∷ 24 ∷ 3570806159 ∷ 27 ∷ 3570806903 ∷ 39 ∷ 3570807908 ∷ 42 ∷ 3570808999 ∷ 45 ∷ 3570809225 ∷ 48 ∷ 3570810848 ∷ 51 ∷ 3570812790 ∷ 62 ∷ 3570814091 ∷ 65 ∷ 3570814329 ∷ []) ∷ ([]) ∷ (0 ∷ 0 ∷ 1 ∷ 0 ∷ 3 ∷ 0 ∷ 4 ∷ 0 ∷ 6 ∷ 0 ∷ 8 ∷ 0 ∷ 10 ∷ 0 ∷ 11 ∷ 0 ∷ 13 ∷ 0 ∷ 14 ∷ 0 ∷ []) ∷ (3 ∷ 0 ∷ 1 ∷ 0 ∷ 3570798710 ∷ 2 ∷ 0 ∷ 1 ∷ 3 ∷ 3570801943 ∷ 3 ∷ 0 ∷ 0 ∷ 5 ∷ 3570805032 ∷ 3 ∷ 1 ∷ 1 ∷ 5 ∷ 3570805032 ∷ []) ∷ (0 ∷ 0 ∷ 0 ∷ 1 ∷ 0 ∷ 0 ∷ 1 ∷ 2 ∷ 0 ∷ 0 ∷ 2 ∷ 3 ∷ 0 ∷ 0 ∷ 2 ∷ 1 ∷ []) ∷ (0 ∷ 4 ∷ 8 ∷ 12 ∷ []) ∷ (0 ∷ 1 ∷ 3 ∷ []) ∷ (0 ∷ 3 ∷ 0 ∷ 0 ∷ 1 ∷ 3 ∷ 0 ∷ 0 ∷ 0 ∷ 3 ∷ 1 ∷ 0 ∷ 0 ∷ 2 ∷ 2 ∷ 0 ∷ 1 ∷ 2 ∷ 0 ∷ 0 ∷ 0 ∷ 3 ∷ 3 ∷ 0 ∷ 1 ∷ 3 ∷ 2 ∷ 0 ∷ 3 ∷ 3 ∷ 2 ∷ 0 ∷ 2 ∷ 3 ∷ 2 ∷ 0 ∷ 0 ∷ 3 ∷ 4 ∷ 0 ∷ 2 ∷ 3 ∷ 3 ∷ 8 ∷ 0 ∷ 3 ∷ 5 ∷ 0 ∷ 2 ∷ 3 ∷ 4 ∷ 17 ∷ 0 ∷ 2 ∷ 6 ∷ 0 ∷ 0 ∷ 3 ∷ 7 ∷ 0 ∷ 2 ∷ 3 ∷ 5 ∷ 17 ∷ 0 ∷ 2 ∷ 8 ∷ 0 ∷ 0 ∷ 3 ∷ 9 ∷ 0 ∷ []) ∷ ([]) ∷ [])
unfolding step bits bytes crc5_of crc16_of after format_of format_ok format_reason reason_of checked_of transaction_status extract_payload details_of with_type with_detail fresh is_read is_set_configuration is_set_interface kind_by kind_of laid is_whole whole_in whole is_of first_of max_of value_of chunks applied count_set note_of with_max device_after count_after shelf_after row_after setup_group control_group begin_group repeat_group other_group group_status group_update group_early_start group_early_append transaction_update event_update handle_raw_packet handle_event handle_detail finish
run-camera-22 = refl

run-camera-23 :
    LeavesIn true (packet (0x69 ∷ 0x00 ∷ 0x39 ∷ []) 453085203 ∷ packet (0x69 ∷ 0x00 ∷ 0x39 ∷ []) 453085760 ∷ packet (0x5A ∷ []) 453086005 ∷ detail 0 2 1 1 8 ∷ packet (0x78 ∷ 0x01 ∷ 0x01 ∷ 0xB2 ∷ []) 453087520 ∷ packet (0x69 ∷ 0x00 ∷ 0x39 ∷ []) 453088793 ∷ packet (0x78 ∷ 0x81 ∷ 0x01 ∷ 0x6A ∷ []) 453090030 ∷ packet (0x69 ∷ 0x00 ∷ 0x39 ∷ []) 453091650 ∷ packet (0x96 ∷ []) 453092053 ∷ packet (0x78 ∷ 0x81 ∷ 0x01 ∷ 0x6A ∷ []) 453092834 ∷ packet (0x69 ∷ 0x00 ∷ 0x39 ∷ []) 453092960 ∷ packet (0x0F ∷ 0x00 ∷ 0x00 ∷ []) 453094745 ∷ packet (0x78 ∷ 0x81 ∷ 0x01 ∷ 0x6A ∷ []) 453095040 ∷ packet (0x69 ∷ 0x00 ∷ 0x39 ∷ []) 453095177 ∷ packet (0x4B ∷ 0x8C ∷ 0x03 ∷ 0x65 ∷ 0xC1 ∷ 0x68 ∷ 0x66 ∷ 0x2C ∷ 0x2A ∷ 0xD1 ∷ 0x85 ∷ []) 453095547 ∷ packet (0x78 ∷ 0x01 ∷ 0x01 ∷ 0xB2 ∷ []) 453096243 ∷ finishing ∷ [])
    ((105 ∷ 0 ∷ 57 ∷ 105 ∷ 0 ∷ 57 ∷ 90 ∷ 120 ∷ 1 ∷ 1 ∷ 178 ∷ 105 ∷ 0 ∷ 57 ∷ 120 ∷ 129 ∷ 1 ∷ 106 ∷ 105 ∷ 0 ∷ 57 ∷ 150 ∷ 120 ∷ 129 ∷ 1 ∷ 106 ∷ 105 ∷ 0 ∷ 57 ∷ 15 ∷ 0 ∷ 0 ∷ 120 ∷ 129 ∷ 1 ∷ 106 ∷ 105 ∷ 0 ∷ 57 ∷ 75 ∷ 140 ∷ 3 ∷ 101 ∷ 193 ∷ 104 ∷ 102 ∷ 44 ∷ 42 ∷ 209 ∷ 133 ∷ 120 ∷ 1 ∷ 1 ∷ 178 ∷ []) ∷ (0 ∷ []) ∷ (0 ∷ 16 ∷ 0 ∷ 0 ∷ 17 ∷ 0 ∷ 0 ∷ 18 ∷ 0 ∷ 0 ∷ 2 ∷ 1 ∷ []) ∷ (0 ∷ 453085203 ∷ 3 ∷ 453085760 ∷ 6 ∷ 453086005 ∷ 7 ∷ 453087520 ∷ 11 ∷ 453088793 ∷ 14 ∷ 453090030 ∷ 18 ∷ 453091650 ∷ 21 ∷ 453092053 ∷ 22 ∷ 453092834 ∷ 26 ∷ 453092960 ∷ 29 ∷ 453094745 ∷ 32 ∷ 453095040 ∷ 36 ∷ 453095177 ∷ 39 ∷ 453095547 ∷ 50 ∷ 453096243 ∷ []) ∷ ([]) ∷ (0 ∷ 0 ∷ 1 ∷ 0 ∷ 3 ∷ 0 ∷ 5 ∷ 0 ∷ 8 ∷ 0 ∷ 11 ∷ 0 ∷ 13 ∷ 0 ∷ 14 ∷ 0 ∷ []) ∷ (3 ∷ 0 ∷ 1 ∷ 0 ∷ 453085203 ∷ 3 ∷ 0 ∷ 0 ∷ 10 ∷ 453094745 ∷ 3 ∷ 1 ∷ 1 ∷ 10 ∷ 453094745 ∷ 1 ∷ 0 ∷ 1 ∷ 13 ∷ 453095547 ∷ 1 ∷ 0 ∷ 0 ∷ 13 ∷ 453095547 ∷ []) ∷ (0 ∷ 0 ∷ 0 ∷ 1 ∷ 0 ∷ 0 ∷ 0 ∷ 3 ∷ 0 ∷ 0 ∷ 0 ∷ 1 ∷ 0 ∷ 1 ∷ 0 ∷ 2 ∷ 0 ∷ 3 ∷ 0 ∷ 2 ∷ []) ∷ (0 ∷ 4 ∷ 8 ∷ 12 ∷ 16 ∷ []) ∷ (0 ∷ 2 ∷ 3 ∷ []) ∷ (0 ∷ 3 ∷ 0 ∷ 0 ∷ 1 ∷ 3 ∷ 0 ∷ 0 ∷ 0 ∷ 3 ∷ 1 ∷ 0 ∷ 0 ∷ 3 ∷ 2 ∷ 0 ∷ 0 ∷ 3 ∷ 3 ∷ 0 ∷ 0 ∷ 3 ∷ 4 ∷ 0 ∷ 1 ∷ 3 ∷ 4 ∷ 0 ∷ 3 ∷ 3 ∷ 1 ∷ 0 ∷ 2 ∷ 3 ∷ 4 ∷ 0 ∷ 0 ∷ 1 ∷ 6 ∷ 0 ∷ 1 ∷ 1 ∷ 0 ∷ 0 ∷ []) ∷ ([]) ∷ [])
unfolding step bits bytes crc5_of crc16_of after format_of format_ok format_reason reason_of checked_of transaction_status extract_payload details_of with_type with_detail fresh is_read is_set_configuration is_set_interface kind_by kind_of laid is_whole whole_in whole is_of first_of max_of value_of chunks applied count_set note_of with_max device_after count_after shelf_after row_after setup_group control_group begin_group repeat_group other_group group_status group_update group_early_start group_early_append transaction_update event_update handle_raw_packet handle_event handle_detail finish
run-camera-23 = refl

run-camera-26 :
    LeavesIn true (packet (0x69 ∷ 0x82 ∷ 0x18 ∷ []) 257248732 ∷ packet (0x69 ∷ 0x82 ∷ 0x18 ∷ []) 257249493 ∷ packet (0x5A ∷ []) 257250293 ∷ detail 2 1 1 1 8 ∷ packet (0xA5 ∷ 0x01 ∷ 0xE8 ∷ []) 257250625 ∷ packet (0x69 ∷ 0x82 ∷ 0x18 ∷ []) 257251732 ∷ packet (0xC3 ∷ 0x7B ∷ 0xE6 ∷ 0x29 ∷ 0x48 ∷ 0xB1 ∷ 0x57 ∷ 0x8E ∷ 0x75 ∷ 0xAB ∷ 0xF1 ∷ []) 257251997 ∷ packet (0xA5 ∷ 0x02 ∷ 0xA8 ∷ []) 257253895 ∷ packet (0x69 ∷ 0x82 ∷ 0x18 ∷ []) 257254018 ∷ packet (0x87 ∷ 0xE6 ∷ 0x71 ∷ 0x2D ∷ 0xCE ∷ 0x57 ∷ 0xCA ∷ 0x66 ∷ 0x93 ∷ 0xC4 ∷ 0xFB ∷ 0xC7 ∷ []) 257254102 ∷ packet (0x69 ∷ 0x82 ∷ 0x18 ∷ []) 257254483 ∷ packet (0x4B ∷ 0x02 ∷ 0x9C ∷ 0x72 ∷ 0x9A ∷ 0x4A ∷ 0xD9 ∷ 0xBD ∷ 0xD8 ∷ 0x86 ∷ 0x03 ∷ []) 257255340 ∷ packet (0x69 ∷ 0x82 ∷ 0x18 ∷ []) 257257200 ∷ packet (0xC3 ∷ 0x88 ∷ 0x77 ∷ 0x3A ∷ 0x59 ∷ 0x64 ∷ 0xA3 ∷ 0xEC ∷ 0xBA ∷ 0x8A ∷ 0x03 ∷ []) 257258508 ∷ packet (0xA5 ∷ 0x03 ∷ 0x50 ∷ []) 257260452 ∷ packet (0x69 ∷ 0x82 ∷ 0x18 ∷ []) 257260767 ∷ finishing ∷ [])
    ((105 ∷ 130 ∷ 24 ∷ 105 ∷ 130 ∷ 24 ∷ 90 ∷ 165 ∷ 1 ∷ 232 ∷ 105 ∷ 130 ∷ 24 ∷ 195 ∷ 123 ∷ 230 ∷ 41 ∷ 72 ∷ 177 ∷ 87 ∷ 142 ∷ 117 ∷ 171 ∷ 241 ∷ 165 ∷ 2 ∷ 168 ∷ 105 ∷ 130 ∷ 24 ∷ 135 ∷ 230 ∷ 113 ∷ 45 ∷ 206 ∷ 87 ∷ 202 ∷ 102 ∷ 147 ∷ 196 ∷ 251 ∷ 199 ∷ 105 ∷ 130 ∷ 24 ∷ 75 ∷ 2 ∷ 156 ∷ 114 ∷ 154 ∷ 74 ∷ 217 ∷ 189 ∷ 216 ∷ 134 ∷ 3 ∷ 105 ∷ 130 ∷ 24 ∷ 195 ∷ 136 ∷ 119 ∷ 58 ∷ 89 ∷ 100 ∷ 163 ∷ 236 ∷ 186 ∷ 138 ∷ 3 ∷ 165 ∷ 3 ∷ 80 ∷ 105 ∷ 130 ∷ 24 ∷ []) ∷ (0 ∷ 2 ∷ []) ∷ (0 ∷ 16 ∷ 0 ∷ 0 ∷ 17 ∷ 0 ∷ 0 ∷ 18 ∷ 0 ∷ 1 ∷ 1 ∷ 1 ∷ []) ∷ (0 ∷ 257248732 ∷ 3 ∷ 257249493 ∷ 6 ∷ 257250293 ∷ 7 ∷ 257250625 ∷ 10 ∷ 257251732 ∷ 13 ∷ 257251997 ∷ 24 ∷ 257253895 ∷ 27 ∷ 257254018 ∷ 30 ∷ 257254102 ∷ 42 ∷ 257254483 ∷ 45 ∷ 257255340 ∷ 56 ∷ 257257200 ∷ 59 ∷ 257258508 ∷ 70 ∷ 257260452 ∷ 73 ∷ 257260767 ∷ []) ∷ ([]) ∷ (0 ∷ 0 ∷ 1 ∷ 0 ∷ 3 ∷ 0 ∷ 4 ∷ 0 ∷ 6 ∷ 0 ∷ 7 ∷ 0 ∷ 9 ∷ 0 ∷ 11 ∷ 0 ∷ 13 ∷ 0 ∷ 14 ∷ 0 ∷ []) ∷ (3 ∷ 0 ∷ 1 ∷ 0 ∷ 257248732 ∷ 2 ∷ 0 ∷ 1 ∷ 3 ∷ 257250625 ∷ 3 ∷ 0 ∷ 0 ∷ 5 ∷ 257251997 ∷ 3 ∷ 1 ∷ 1 ∷ 5 ∷ 257251997 ∷ []) ∷ (0 ∷ 0 ∷ 0 ∷ 1 ∷ 0 ∷ 0 ∷ 1 ∷ 2 ∷ 0 ∷ 0 ∷ 2 ∷ 3 ∷ 0 ∷ 0 ∷ 2 ∷ 1 ∷ []) ∷ (0 ∷ 4 ∷ 8 ∷ 12 ∷ []) ∷ (0 ∷ 1 ∷ 3 ∷ []) ∷ (0 ∷ 3 ∷ 0 ∷ 0 ∷ 1 ∷ 3 ∷ 0 ∷ 0 ∷ 0 ∷ 3 ∷ 1 ∷ 0 ∷ 0 ∷ 2 ∷ 2 ∷ 0 ∷ 1 ∷ 2 ∷ 0 ∷ 0 ∷ 0 ∷ 3 ∷ 3 ∷ 0 ∷ 1 ∷ 3 ∷ 2 ∷ 0 ∷ 3 ∷ 3 ∷ 2 ∷ 0 ∷ 2 ∷ 3 ∷ 2 ∷ 0 ∷ 0 ∷ 2 ∷ 4 ∷ 0 ∷ 0 ∷ 3 ∷ 5 ∷ 0 ∷ 2 ∷ 3 ∷ 3 ∷ 8 ∷ 0 ∷ 3 ∷ 6 ∷ 0 ∷ 2 ∷ 3 ∷ 4 ∷ 17 ∷ 0 ∷ 3 ∷ 7 ∷ 0 ∷ 2 ∷ 3 ∷ 5 ∷ 25 ∷ 0 ∷ 2 ∷ 8 ∷ 0 ∷ 0 ∷ 3 ∷ 9 ∷ 0 ∷ []) ∷ ([]) ∷ [])
unfolding step bits bytes crc5_of crc16_of after format_of format_ok format_reason reason_of checked_of transaction_status extract_payload details_of with_type with_detail fresh is_read is_set_configuration is_set_interface kind_by kind_of laid is_whole whole_in whole is_of first_of max_of value_of chunks applied count_set note_of with_max device_after count_after shelf_after row_after setup_group control_group begin_group repeat_group other_group group_status group_update group_early_start group_early_append transaction_update event_update handle_raw_packet handle_event handle_detail finish
run-camera-26 = refl

run-camera-28 :
    LeavesIn true (packet (0x69 ∷ 0x01 ∷ 0xC1 ∷ []) 3567196225 ∷ packet (0x69 ∷ 0x01 ∷ 0xC1 ∷ []) 3567197185 ∷ packet (0x5A ∷ []) 3567198212 ∷ detail 1 2 0 1 16 ∷ packet (0xA5 ∷ 0x01 ∷ 0xE8 ∷ []) 3567199210 ∷ packet (0xE1 ∷ 0x01 ∷ 0xC1 ∷ []) 3567199218 ∷ packet (0x0F ∷ 0x00 ∷ 0x00 ∷ []) 3567200917 ∷ packet (0xE1 ∷ 0x01 ∷ 0xC1 ∷ []) 3567202367 ∷ packet (0x0F ∷ 0x9F ∷ 0x22 ∷ 0xA5 ∷ 0x55 ∷ 0x02 ∷ 0xB0 ∷ 0x03 ∷ 0x04 ∷ 0x73 ∷ 0xE7 ∷ 0xA1 ∷ 0xDE ∷ 0xD1 ∷ 0x90 ∷ 0x77 ∷ 0xB5 ∷ 0x30 ∷ []) 3567202623 ∷ packet (0xE1 ∷ 0x01 ∷ 0xC1 ∷ []) 3567203622 ∷ packet (0x87 ∷ 0x99 ∷ 0x59 ∷ 0x5C ∷ 0x19 ∷ 0x06 ∷ 0xE8 ∷ 0x71 ∷ 0x2A ∷ 0xDF ∷ 0x84 ∷ 0xA9 ∷ 0x86 ∷ 0xEF ∷ 0x4C ∷ 0x73 ∷ 0xC6 ∷ 0x58 ∷ 0xFD ∷ 0x26 ∷ []) 3567205590 ∷ packet (0xA5 ∷ 0x02 ∷ 0xA8 ∷ []) 3567207164 ∷ packet (0xE1 ∷ 0x01 ∷ 0xC1 ∷ []) 3567207313 ∷ packet (0xC3 ∷ 0x40 ∷ 0xAE ∷ 0xC3 ∷ 0xC7 ∷ 0x34 ∷ 0x6E ∷ 0x04 ∷ 0x74 ∷ 0x41 ∷ 0x77 ∷ 0x00 ∷ 0x63 ∷ 0x15 ∷ 0x90 ∷ 0x90 ∷ 0x26 ∷ 0x55 ∷ []) 3567207519 ∷ packet (0xA5 ∷ 0x03 ∷ 0x50 ∷ []) 3567207578 ∷ packet (0xE1 ∷ 0x01 ∷ 0xC1 ∷ []) 3567207969 ∷ finishing ∷ [])
    ((105 ∷ 1 ∷ 193 ∷ 105 ∷ 1 ∷ 193 ∷ 90 ∷ 165 ∷ 1 ∷ 232 ∷ 225 ∷ 1 ∷ 193 ∷ 15 ∷ 0 ∷ 0 ∷ 225 ∷ 1 ∷ 193 ∷ 15 ∷ 159 ∷ 34 ∷ 165 ∷ 85 ∷ 2 ∷ 176 ∷ 3 ∷ 4 ∷ 115 ∷ 231 ∷ 161 ∷ 222 ∷ 209 ∷ 144 ∷ 119 ∷ 181 ∷ 48 ∷ 225 ∷ 1 ∷ 193 ∷ 135 ∷ 153 ∷ 89 ∷ 92 ∷ 25 ∷ 6 ∷ 232 ∷ 113 ∷ 42 ∷ 223 ∷ 132 ∷ 169 ∷ 134 ∷ 239 ∷ 76 ∷ 115 ∷ 198 ∷ 88 ∷ 253 ∷ 38 ∷ 165 ∷ 2 ∷ 168 ∷ 225 ∷ 1 ∷ 193 ∷ 195 ∷ 64 ∷ 174 ∷ 195 ∷ 199 ∷ 52 ∷ 110 ∷ 4 ∷ 116 ∷ 65 ∷ 119 ∷ 0 ∷ 99 ∷ 21 ∷ 144 ∷ 144 ∷ 38 ∷ 85 ∷ 165 ∷ 3 ∷ 80 ∷ 225 ∷ 1 ∷ 193 ∷ []) ∷ (0 ∷ 1 ∷ []) ∷ (0 ∷ 16 ∷ 0 ∷ 0 ∷ 17 ∷ 0 ∷ 0 ∷ 18 ∷ 0 ∷ 1 ∷ 2 ∷ 1 ∷ 1 ∷ 2 ∷ 0 ∷ []) ∷ (0 ∷ 3567196225 ∷ 3 ∷ 3567197185 ∷ 6 ∷ 3567198212 ∷ 7 ∷ 3567199210 ∷ 10 ∷ 3567199218 ∷ 13 ∷ 3567200917 ∷ 16 ∷ 3567202367 ∷ 19 ∷ 3567202623 ∷ 37 ∷ 3567203622 ∷ 40 ∷ 3567205590 ∷ 60 ∷ 3567207164 ∷ 63 ∷ 3567207313 ∷ 66 ∷ 3567207519 ∷ 84 ∷ 3567207578 ∷ 87 ∷ 3567207969 ∷ []) ∷ ([]) ∷ (0 ∷ 0 ∷ 1 ∷ 0 ∷ 3 ∷ 0 ∷ 4 ∷ 0 ∷ 6 ∷ 0 ∷ 8 ∷ 0 ∷ 10 ∷ 0 ∷ 11 ∷ 0 ∷ 13 ∷ 0 ∷ 14 ∷ 0 ∷ []) ∷ (3 ∷ 0 ∷ 1 ∷ 0 ∷ 3567196225 ∷ 2 ∷ 0 ∷ 1 ∷ 3 ∷ 3567199210 ∷ 4 ∷ 0 ∷ 1 ∷ 4 ∷ 3567199218 ∷ []) ∷ (0 ∷ 0 ∷ 0 ∷ 1 ∷ 0 ∷ 0 ∷ 1 ∷ 2 ∷ 0 ∷ 0 ∷ 2 ∷ 2 ∷ 1 ∷ []) ∷ (0 ∷ 4 ∷ 8 ∷ []) ∷ (0 ∷ 1 ∷ 2 ∷ []) ∷ (0 ∷ 3 ∷ 0 ∷ 0 ∷ 1 ∷ 3 ∷ 0 ∷ 0 ∷ 0 ∷ 3 ∷ 1 ∷ 0 ∷ 0 ∷ 2 ∷ 2 ∷ 0 ∷ 1 ∷ 2 ∷ 0 ∷ 0 ∷ 0 ∷ 4 ∷ 3 ∷ 0 ∷ 1 ∷ 4 ∷ 0 ∷ 0 ∷ 2 ∷ 4 ∷ 0 ∷ 0 ∷ 0 ∷ 4 ∷ 4 ∷ 0 ∷ 2 ∷ 4 ∷ 1 ∷ 0 ∷ 0 ∷ 4 ∷ 5 ∷ 0 ∷ 2 ∷ 4 ∷ 2 ∷ 15 ∷ 0 ∷ 2 ∷ 6 ∷ 0 ∷ 0 ∷ 4 ∷ 7 ∷ 0 ∷ 2 ∷ 4 ∷ 3 ∷ 32 ∷ 0 ∷ 2 ∷ 8 ∷ 0 ∷ 0 ∷ 4 ∷ 9 ∷ 0 ∷ []) ∷ ([]) ∷ [])
unfolding step bits bytes crc5_of crc16_of after format_of format_ok format_reason reason_of checked_of transaction_status extract_payload details_of with_type with_detail fresh is_read is_set_configuration is_set_interface kind_by kind_of laid is_whole whole_in whole is_of first_of max_of value_of chunks applied count_set note_of with_max device_after count_after shelf_after row_after setup_group control_group begin_group repeat_group other_group group_status group_update group_early_start group_early_append transaction_update event_update handle_raw_packet handle_event handle_detail finish
run-camera-28 = refl

run-camera-31 :
    LeavesIn true (packet (0x69 ∷ 0x02 ∷ 0x81 ∷ []) 2275406169 ∷ packet (0x69 ∷ 0x02 ∷ 0x81 ∷ []) 2275406923 ∷ packet (0x5A ∷ []) 2275408592 ∷ detail 2 2 0 1 8 ∷ packet (0xA5 ∷ 0x01 ∷ 0xE8 ∷ []) 2275409175 ∷ packet (0xE1 ∷ 0x02 ∷ 0x81 ∷ []) 2275410764 ∷ packet (0x0F ∷ 0x2D ∷ 0x46 ∷ 0x1C ∷ 0x0C ∷ 0xD2 ∷ 0x4A ∷ 0x29 ∷ 0x93 ∷ 0x4E ∷ []) 2275412284 ∷ packet (0xE1 ∷ 0x02 ∷ 0x81 ∷ []) 2275413940 ∷ packet (0x0F ∷ 0x00 ∷ 0x00 ∷ []) 2275414311 ∷ packet (0xE1 ∷ 0x02 ∷ 0x81 ∷ []) 2275415693 ∷ packet (0x87 ∷ 0x93 ∷ 0xFC ∷ 0xE5 ∷ 0xC9 ∷ 0x3E ∷ 0x41 ∷ 0x95 ∷ 0xB0 ∷ 0x73 ∷ []) 2275417221 ∷ packet (0xA5 ∷ 0x02 ∷ 0xA8 ∷ []) 2275417443 ∷ packet (0xE1 ∷ 0x02 ∷ 0x81 ∷ []) 2275418554 ∷ packet (0x0F ∷ 0x00 ∷ 0x00 ∷ []) 2275420049 ∷ packet (0xE1 ∷ 0x02 ∷ 0x81 ∷ []) 2275421236 ∷ packet (0x0F ∷ 0xA7 ∷ 0x8B ∷ 0xD5 ∷ 0x82 ∷ 0x9B ∷ 0x97 ∷ 0xD7 ∷ 0x47 ∷ 0x25 ∷ 0xB3 ∷ []) 2275422353 ∷ finishing ∷ [])
    ((105 ∷ 2 ∷ 129 ∷ 105 ∷ 2 ∷ 129 ∷ 90 ∷ 165 ∷ 1 ∷ 232 ∷ 225 ∷ 2 ∷ 129 ∷ 15 ∷ 45 ∷ 70 ∷ 28 ∷ 12 ∷ 210 ∷ 74 ∷ 41 ∷ 147 ∷ 78 ∷ 225 ∷ 2 ∷ 129 ∷ 15 ∷ 0 ∷ 0 ∷ 225 ∷ 2 ∷ 129 ∷ 135 ∷ 147 ∷ 252 ∷ 229 ∷ 201 ∷ 62 ∷ 65 ∷ 149 ∷ 176 ∷ 115 ∷ 165 ∷ 2 ∷ 168 ∷ 225 ∷ 2 ∷ 129 ∷ 15 ∷ 0 ∷ 0 ∷ 225 ∷ 2 ∷ 129 ∷ 15 ∷ 167 ∷ 139 ∷ 213 ∷ 130 ∷ 155 ∷ 151 ∷ 215 ∷ 71 ∷ 37 ∷ 179 ∷ []) ∷ (0 ∷ 2 ∷ []) ∷ (0 ∷ 16 ∷ 0 ∷ 0 ∷ 17 ∷ 0 ∷ 0 ∷ 18 ∷ 0 ∷ 1 ∷ 2 ∷ 1 ∷ 1 ∷ 2 ∷ 0 ∷ []) ∷ (0 ∷ 2275406169 ∷ 3 ∷ 2275406923 ∷ 6 ∷ 2275408592 ∷ 7 ∷ 2275409175 ∷ 10 ∷ 2275410764 ∷ 13 ∷ 2275412284 ∷ 23 ∷ 2275413940 ∷ 26 ∷ 2275414311 ∷ 29 ∷ 2275415693 ∷ 32 ∷ 2275417221 ∷ 42 ∷ 2275417443 ∷ 45 ∷ 2275418554 ∷ 48 ∷ 2275420049 ∷ 51 ∷ 2275421236 ∷ 54 ∷ 2275422353 ∷ []) ∷ ([]) ∷ (0 ∷ 0 ∷ 1 ∷ 0 ∷ 3 ∷ 0 ∷ 4 ∷ 0 ∷ 6 ∷ 0 ∷ 8 ∷ 0 ∷ 10 ∷ 0 ∷ 11 ∷ 0 ∷ 13 ∷ 0 ∷ []) ∷ (3 ∷ 0 ∷ 1 ∷ 0 ∷ 2275406169 ∷ 2 ∷ 0 ∷ 1 ∷ 3 ∷ 2275409175 ∷ 4 ∷ 0 ∷ 1 ∷ 4 ∷ 2275410764 ∷ []) ∷ (0 ∷ 0 ∷ 0 ∷ 1 ∷ 0 ∷ 0 ∷ 1 ∷ 2 ∷ 0 ∷ 0 ∷ 2 ∷ 2 ∷ 1 ∷ []) ∷ (0 ∷ 4 ∷ 8 ∷ []) ∷ (0 ∷ 1 ∷ 2 ∷ []) ∷ (0 ∷ 3 ∷ 0 ∷ 0 ∷ 1 ∷ 3 ∷ 0 ∷ 0 ∷ 0 ∷ 3 ∷ 1 ∷ 0 ∷ 0 ∷ 2 ∷ 2 ∷ 0 ∷ 1 ∷ 2 ∷ 0 ∷ 0 ∷ 0 ∷ 4 ∷ 3 ∷ 0 ∷ 1 ∷ 4 ∷ 0 ∷ 0 ∷ 2 ∷ 4 ∷ 0 ∷ 0 ∷ 0 ∷ 4 ∷ 4 ∷ 0 ∷ 2 ∷ 4 ∷ 1 ∷ 7 ∷ 0 ∷ 4 ∷ 5 ∷ 0 ∷ 2 ∷ 4 ∷ 2 ∷ 7 ∷ 0 ∷ 2 ∷ 6 ∷ 0 ∷ 0 ∷ 4 ∷ 7 ∷ 0 ∷ 2 ∷ 4 ∷ 3 ∷ 14 ∷ 0 ∷ 4 ∷ 8 ∷ 0 ∷ 2 ∷ 4 ∷ 4 ∷ 14 ∷ []) ∷ ([]) ∷ [])
unfolding step bits bytes crc5_of crc16_of after format_of format_ok format_reason reason_of checked_of transaction_status extract_payload details_of with_type with_detail fresh is_read is_set_configuration is_set_interface kind_by kind_of laid is_whole whole_in whole is_of first_of max_of value_of chunks applied count_set note_of with_max device_after count_after shelf_after row_after setup_group control_group begin_group repeat_group other_group group_status group_update group_early_start group_early_append transaction_update event_update handle_raw_packet handle_event handle_detail finish
run-camera-31 = refl
