-- Laws (proved): a few of the runs of the Rust that the crate `runs` has (proofs/Oracle.antt there), taken over as they are. They stand here because an edit checks
-- its own crate alone, and wrong rules that demand 3 does not see (an item at every group end, say) must be refused here.
use mathlib.Core.Path.{refl}
use mathlib.Core.List.{List, [], ◌∷◌}
use Rattle.crc.specs.Crc.{step, bits, bytes, crc5_of, crc16_of}
use Rattle.usb.specs.Bits.{after}
use Rattle.usb.specs.Packet.{format_of, format_ok, format_reason, reason_of, checked_of}
use Rattle.transaction.specs.Status.{transaction_status}
use Rattle.transaction.specs.Payload.{extract_payload}
use Rattle.details.specs.Details.{details_of, with_type, with_detail, fresh}
use Rattle.descriptors.specs.Kind.{is_read, is_set_configuration, is_set_interface, kind_by, kind_of}
use Rattle.descriptors.specs.Laid.{laid}
use Rattle.descriptors.specs.Whole.{is_whole, whole_in, whole}
use Rattle.descriptors.specs.Entries.{is_of, first_of, max_of, value_of}
use Rattle.descriptors.specs.Store.{chunks}
use Rattle.descriptors.specs.Chosen.{applied, count_set}
use Rattle.descriptors.specs.Complete.{note_of, with_max, device_after, count_after, shelf_after, row_after}
use Rattle.group.specs.Control.{setup_group, control_group}
use Rattle.group.specs.Data.{begin_group, repeat_group, other_group}
use Rattle.group.specs.Group.{group_status}
use Rattle.rules.specs.Groups.{group_update, group_early_start, group_early_append}
use Rattle.rules.specs.Transactions.{transaction_update}
use Rattle.rules.specs.Events.{event_update}
use Rattle.rules.specs.Decoder.{handle_raw_packet, handle_event, handle_detail, finish}
use Rattle.rules.proofs.Runs.{packet, event, detail, finishing, Leaves}

run-setup-in-transfer :
    Leaves (packet (0x2D ∷ 0x00 ∷ 0x10 ∷ []) 0 ∷ packet (0xC3 ∷ 0x80 ∷ 0x06 ∷ 0x00 ∷ 0x01 ∷ 0x00 ∷ 0x00 ∷ 0x12 ∷ 0x00 ∷ 0xE0 ∷ 0xF4 ∷ []) 1 ∷ packet (0xD2 ∷ []) 2 ∷ packet (0x69 ∷ 0x00 ∷ 0x10 ∷ []) 3 ∷ packet (0x4B ∷ 0x00 ∷ 0x01 ∷ 0x02 ∷ 0x03 ∷ 0x04 ∷ 0x05 ∷ 0x06 ∷ 0x07 ∷ 0xB9 ∷ 0x85 ∷ []) 4 ∷ packet (0xD2 ∷ []) 5 ∷ packet (0x2D ∷ 0x00 ∷ 0x10 ∷ []) 6 ∷ event 0 100 7 ∷ packet (0xC3 ∷ 0x80 ∷ 0x06 ∷ 0x00 ∷ 0x01 ∷ 0x00 ∷ 0x00 ∷ 0x12 ∷ 0x00 ∷ 0xE0 ∷ 0xF4 ∷ []) 8 ∷ packet (0xD2 ∷ []) 9 ∷ finishing ∷ [])
    ((45 ∷ 0 ∷ 16 ∷ 195 ∷ 128 ∷ 6 ∷ 0 ∷ 1 ∷ 0 ∷ 0 ∷ 18 ∷ 0 ∷ 224 ∷ 244 ∷ 210 ∷ 105 ∷ 0 ∷ 16 ∷ 75 ∷ 0 ∷ 1 ∷ 2 ∷ 3 ∷ 4 ∷ 5 ∷ 6 ∷ 7 ∷ 185 ∷ 133 ∷ 210 ∷ 45 ∷ 0 ∷ 16 ∷ 195 ∷ 128 ∷ 6 ∷ 0 ∷ 1 ∷ 0 ∷ 0 ∷ 18 ∷ 0 ∷ 224 ∷ 244 ∷ 210 ∷ []) ∷ (0 ∷ []) ∷ (0 ∷ 16 ∷ 0 ∷ 0 ∷ 17 ∷ 0 ∷ 0 ∷ 18 ∷ 0 ∷ 0 ∷ 0 ∷ 0 ∷ []) ∷ (0 ∷ 0 ∷ 3 ∷ 1 ∷ 14 ∷ 2 ∷ 15 ∷ 3 ∷ 18 ∷ 4 ∷ 29 ∷ 5 ∷ 30 ∷ 6 ∷ 33 ∷ 7 ∷ 33 ∷ 8 ∷ 44 ∷ 9 ∷ []) ∷ (7 ∷ 100 ∷ []) ∷ (0 ∷ 0 ∷ 3 ∷ 0 ∷ 6 ∷ 0 ∷ 7 ∷ 0 ∷ 8 ∷ 0 ∷ []) ∷ (3 ∷ 0 ∷ 1 ∷ 0 ∷ 0 ∷ 3 ∷ 0 ∷ 0 ∷ 6 ∷ 6 ∷ 3 ∷ 1 ∷ 1 ∷ 6 ∷ 6 ∷ 0 ∷ 0 ∷ 1 ∷ 7 ∷ 7 ∷ []) ∷ (0 ∷ 0 ∷ 0 ∷ 1 ∷ 0 ∷ 0 ∷ 0 ∷ 3 ∷ 0 ∷ 0 ∷ 0 ∷ 1 ∷ 1 ∷ 0 ∷ 0 ∷ 3 ∷ []) ∷ (0 ∷ 4 ∷ 8 ∷ 12 ∷ []) ∷ (0 ∷ 2 ∷ 3 ∷ []) ∷ (0 ∷ 3 ∷ 0 ∷ 0 ∷ 1 ∷ 3 ∷ 0 ∷ 0 ∷ 0 ∷ 3 ∷ 1 ∷ 0 ∷ 2 ∷ 3 ∷ 1 ∷ 0 ∷ 0 ∷ 3 ∷ 2 ∷ 0 ∷ 1 ∷ 3 ∷ 2 ∷ 0 ∷ 3 ∷ 3 ∷ 1 ∷ 0 ∷ 0 ∷ 0 ∷ 3 ∷ 0 ∷ 1 ∷ 0 ∷ 0 ∷ 0 ∷ 0 ∷ 3 ∷ 4 ∷ 0 ∷ []) ∷ ([]) ∷ [])
unfolding step bits bytes crc5_of crc16_of after format_of format_ok format_reason reason_of checked_of transaction_status extract_payload details_of with_type with_detail fresh is_read is_set_configuration is_set_interface kind_by kind_of laid is_whole whole_in whole is_of first_of max_of value_of chunks applied count_set note_of with_max device_after count_after shelf_after row_after setup_group control_group begin_group repeat_group other_group group_status group_update group_early_start group_early_append transaction_update event_update handle_raw_packet handle_event handle_detail finish
run-setup-in-transfer = refl

run-truncated-download :
    Leaves (detail 0 1 0 2 8 ∷ packet (0xE1 ∷ 0x80 ∷ 0xA0 ∷ []) 1 ∷ packet (0xC3 ∷ 0x00 ∷ 0x01 ∷ 0x02 ∷ 0x03 ∷ 0x04 ∷ 0x05 ∷ 0x06 ∷ 0x07 ∷ 0xB9 ∷ 0x85 ∷ []) 2 ∷ packet (0xD2 ∷ []) 3 ∷ packet (0xE1 ∷ 0x80 ∷ 0xA0 ∷ []) 4 ∷ packet (0x4B ∷ 0x00 ∷ 0x01 ∷ 0x02 ∷ 0x03 ∷ 0x04 ∷ 0x05 ∷ 0x06 ∷ 0x07 ∷ 0xB9 ∷ 0x85 ∷ []) 5 ∷ packet (0x5A ∷ []) 6 ∷ packet (0xE1 ∷ 0x80 ∷ 0xA0 ∷ []) 7 ∷ packet (0x4B ∷ 0x00 ∷ 0x01 ∷ 0x02 ∷ 0x03 ∷ 0x04 ∷ 0x05 ∷ 0x06 ∷ 0x07 ∷ 0xB9 ∷ 0x85 ∷ []) 8 ∷ packet (0xD3 ∷ []) 9 ∷ packet (0xE1 ∷ 0x80 ∷ 0xA0 ∷ []) 10 ∷ packet (0x4B ∷ 0x00 ∷ 0x01 ∷ 0x02 ∷ 0x03 ∷ 0x04 ∷ 0x05 ∷ 0x06 ∷ 0x07 ∷ 0xB9 ∷ 0x85 ∷ []) 11 ∷ packet (0xD2 ∷ []) 12 ∷ finishing ∷ [])
    ((225 ∷ 128 ∷ 160 ∷ 195 ∷ 0 ∷ 1 ∷ 2 ∷ 3 ∷ 4 ∷ 5 ∷ 6 ∷ 7 ∷ 185 ∷ 133 ∷ 210 ∷ 225 ∷ 128 ∷ 160 ∷ 75 ∷ 0 ∷ 1 ∷ 2 ∷ 3 ∷ 4 ∷ 5 ∷ 6 ∷ 7 ∷ 185 ∷ 133 ∷ 90 ∷ 225 ∷ 128 ∷ 160 ∷ 75 ∷ 0 ∷ 1 ∷ 2 ∷ 3 ∷ 4 ∷ 5 ∷ 6 ∷ 7 ∷ 185 ∷ 133 ∷ 211 ∷ 225 ∷ 128 ∷ 160 ∷ 75 ∷ 0 ∷ 1 ∷ 2 ∷ 3 ∷ 4 ∷ 5 ∷ 6 ∷ 7 ∷ 185 ∷ 133 ∷ 210 ∷ []) ∷ (0 ∷ []) ∷ (0 ∷ 16 ∷ 0 ∷ 0 ∷ 17 ∷ 0 ∷ 0 ∷ 18 ∷ 0 ∷ 0 ∷ 1 ∷ 0 ∷ []) ∷ (0 ∷ 1 ∷ 3 ∷ 2 ∷ 14 ∷ 3 ∷ 15 ∷ 4 ∷ 18 ∷ 5 ∷ 29 ∷ 6 ∷ 30 ∷ 7 ∷ 33 ∷ 8 ∷ 44 ∷ 9 ∷ 45 ∷ 10 ∷ 48 ∷ 11 ∷ 59 ∷ 12 ∷ []) ∷ ([]) ∷ (0 ∷ 0 ∷ 3 ∷ 0 ∷ 6 ∷ 0 ∷ 8 ∷ 2 ∷ 9 ∷ 0 ∷ []) ∷ (3 ∷ 0 ∷ 1 ∷ 0 ∷ 1 ∷ 3 ∷ 0 ∷ 0 ∷ 5 ∷ 6 ∷ 3 ∷ 1 ∷ 1 ∷ 5 ∷ 6 ∷ 1 ∷ 0 ∷ 1 ∷ 8 ∷ 9 ∷ 1 ∷ 0 ∷ 0 ∷ 8 ∷ 9 ∷ 3 ∷ 1 ∷ 0 ∷ 11 ∷ 12 ∷ 3 ∷ 2 ∷ 1 ∷ 11 ∷ 12 ∷ []) ∷ (0 ∷ 0 ∷ 0 ∷ 1 ∷ 0 ∷ 0 ∷ 0 ∷ 3 ∷ 0 ∷ 0 ∷ 0 ∷ 1 ∷ 0 ∷ 1 ∷ 0 ∷ 2 ∷ 0 ∷ 3 ∷ 0 ∷ 2 ∷ 0 ∷ 0 ∷ 0 ∷ 3 ∷ 0 ∷ 0 ∷ 0 ∷ 1 ∷ []) ∷ (0 ∷ 4 ∷ 8 ∷ 12 ∷ 16 ∷ 20 ∷ 24 ∷ []) ∷ (0 ∷ 2 ∷ 3 ∷ 6 ∷ []) ∷ (0 ∷ 3 ∷ 0 ∷ 0 ∷ 1 ∷ 3 ∷ 0 ∷ 0 ∷ 2 ∷ 3 ∷ 0 ∷ 0 ∷ 0 ∷ 3 ∷ 1 ∷ 0 ∷ 1 ∷ 3 ∷ 1 ∷ 0 ∷ 3 ∷ 3 ∷ 1 ∷ 0 ∷ 0 ∷ 1 ∷ 3 ∷ 0 ∷ 1 ∷ 1 ∷ 0 ∷ 0 ∷ 0 ∷ 3 ∷ 4 ∷ 0 ∷ 1 ∷ 3 ∷ 2 ∷ 0 ∷ 3 ∷ 1 ∷ 3 ∷ 0 ∷ 3 ∷ 3 ∷ 3 ∷ 0 ∷ 2 ∷ 3 ∷ 2 ∷ 8 ∷ []) ∷ ([]) ∷ [])
unfolding step bits bytes crc5_of crc16_of after format_of format_ok format_reason reason_of checked_of transaction_status extract_payload details_of with_type with_detail fresh is_read is_set_configuration is_set_interface kind_by kind_of laid is_whole whole_in whole is_of first_of max_of value_of chunks applied count_set note_of with_max device_after count_after shelf_after row_after setup_group control_group begin_group repeat_group other_group group_status group_update group_early_start group_early_append transaction_update event_update handle_raw_packet handle_event handle_detail finish
run-truncated-download = refl

run-waiting-counted :
    Leaves (packet (0x78 ∷ 0x01 ∷ 0x01 ∷ 0x16 ∷ []) 0 ∷ packet (0xE1 ∷ 0x80 ∷ 0xA0 ∷ []) 1 ∷ packet (0xC3 ∷ 0x00 ∷ 0x01 ∷ 0x02 ∷ 0x03 ∷ 0x04 ∷ 0x05 ∷ 0x06 ∷ 0x07 ∷ 0xB9 ∷ 0x85 ∷ []) 2 ∷ packet (0x78 ∷ 0x81 ∷ 0x01 ∷ 0xCE ∷ []) 3 ∷ packet (0xE1 ∷ 0x80 ∷ 0xA0 ∷ []) 4 ∷ packet (0xD2 ∷ []) 5 ∷ finishing ∷ [])
    ((120 ∷ 1 ∷ 1 ∷ 22 ∷ 225 ∷ 128 ∷ 160 ∷ 195 ∷ 0 ∷ 1 ∷ 2 ∷ 3 ∷ 4 ∷ 5 ∷ 6 ∷ 7 ∷ 185 ∷ 133 ∷ 120 ∷ 129 ∷ 1 ∷ 206 ∷ 225 ∷ 128 ∷ 160 ∷ 210 ∷ []) ∷ (0 ∷ []) ∷ (0 ∷ 16 ∷ 0 ∷ 0 ∷ 17 ∷ 0 ∷ 0 ∷ 18 ∷ 0 ∷ 0 ∷ 1 ∷ 0 ∷ []) ∷ (0 ∷ 0 ∷ 4 ∷ 1 ∷ 7 ∷ 2 ∷ 18 ∷ 3 ∷ 22 ∷ 4 ∷ 25 ∷ 5 ∷ []) ∷ ([]) ∷ (0 ∷ 0 ∷ 3 ∷ 0 ∷ []) ∷ (3 ∷ 0 ∷ 1 ∷ 2 ∷ 2 ∷ 3 ∷ 0 ∷ 0 ∷ 5 ∷ 5 ∷ 3 ∷ 1 ∷ 1 ∷ 5 ∷ 5 ∷ []) ∷ (0 ∷ 0 ∷ 0 ∷ 1 ∷ 0 ∷ 0 ∷ 0 ∷ 3 ∷ 0 ∷ 0 ∷ 0 ∷ 1 ∷ []) ∷ (0 ∷ 4 ∷ 8 ∷ []) ∷ (0 ∷ 2 ∷ []) ∷ (0 ∷ 3 ∷ 0 ∷ 0 ∷ 1 ∷ 3 ∷ 0 ∷ 0 ∷ 0 ∷ 3 ∷ 1 ∷ 0 ∷ 1 ∷ 3 ∷ 1 ∷ 0 ∷ 3 ∷ 3 ∷ 1 ∷ 0 ∷ 2 ∷ 3 ∷ 0 ∷ 0 ∷ []) ∷ ([]) ∷ [])
unfolding step bits bytes crc5_of crc16_of after format_of format_ok format_reason reason_of checked_of transaction_status extract_payload details_of with_type with_detail fresh is_read is_set_configuration is_set_interface kind_by kind_of laid is_whole whole_in whole is_of first_of max_of value_of chunks applied count_set note_of with_max device_after count_after shelf_after row_after setup_group control_group begin_group repeat_group other_group group_status group_update group_early_start group_early_append transaction_update event_update handle_raw_packet handle_event handle_detail finish
run-waiting-counted = refl

run-data-under-waiting :
    Leaves (packet (0x78 ∷ 0x01 ∷ 0x01 ∷ 0xE0 ∷ []) 0 ∷ packet (0xE1 ∷ 0x00 ∷ 0x10 ∷ []) 1 ∷ packet (0xC3 ∷ 0x00 ∷ 0x01 ∷ 0x02 ∷ 0x03 ∷ 0x04 ∷ 0x05 ∷ 0x06 ∷ 0x07 ∷ 0xB9 ∷ 0x85 ∷ []) 2 ∷ packet (0xD2 ∷ []) 3 ∷ packet (0x2D ∷ 0x00 ∷ 0x10 ∷ []) 4 ∷ packet (0xD3 ∷ []) 5 ∷ packet (0x78 ∷ 0x01 ∷ 0x01 ∷ 0x16 ∷ []) 6 ∷ packet (0x69 ∷ 0x00 ∷ 0x10 ∷ []) 7 ∷ finishing ∷ [])
    ((120 ∷ 1 ∷ 1 ∷ 224 ∷ 225 ∷ 0 ∷ 16 ∷ 195 ∷ 0 ∷ 1 ∷ 2 ∷ 3 ∷ 4 ∷ 5 ∷ 6 ∷ 7 ∷ 185 ∷ 133 ∷ 210 ∷ 45 ∷ 0 ∷ 16 ∷ 211 ∷ 120 ∷ 1 ∷ 1 ∷ 22 ∷ 105 ∷ 0 ∷ 16 ∷ []) ∷ (0 ∷ []) ∷ (0 ∷ 16 ∷ 0 ∷ 0 ∷ 17 ∷ 0 ∷ 0 ∷ 18 ∷ 0 ∷ 0 ∷ 0 ∷ 0 ∷ []) ∷ (0 ∷ 0 ∷ 4 ∷ 1 ∷ 7 ∷ 2 ∷ 18 ∷ 3 ∷ 19 ∷ 4 ∷ 22 ∷ 5 ∷ 23 ∷ 6 ∷ 27 ∷ 7 ∷ []) ∷ ([]) ∷ (0 ∷ 0 ∷ 4 ∷ 0 ∷ 5 ∷ 2 ∷ 6 ∷ 0 ∷ []) ∷ (3 ∷ 0 ∷ 1 ∷ 3 ∷ 3 ∷ 3 ∷ 0 ∷ 0 ∷ 4 ∷ 4 ∷ 3 ∷ 1 ∷ 1 ∷ 4 ∷ 4 ∷ 1 ∷ 0 ∷ 1 ∷ 5 ∷ 5 ∷ 1 ∷ 0 ∷ 0 ∷ 5 ∷ 5 ∷ []) ∷ (0 ∷ 0 ∷ 0 ∷ 1 ∷ 0 ∷ 0 ∷ 0 ∷ 3 ∷ 0 ∷ 0 ∷ 0 ∷ 1 ∷ 0 ∷ 1 ∷ 0 ∷ 2 ∷ 0 ∷ 3 ∷ 0 ∷ 2 ∷ []) ∷ (0 ∷ 4 ∷ 8 ∷ 12 ∷ 16 ∷ []) ∷ (0 ∷ 2 ∷ 3 ∷ []) ∷ (0 ∷ 3 ∷ 0 ∷ 0 ∷ 1 ∷ 3 ∷ 0 ∷ 0 ∷ 0 ∷ 3 ∷ 1 ∷ 0 ∷ 1 ∷ 3 ∷ 1 ∷ 0 ∷ 3 ∷ 3 ∷ 1 ∷ 0 ∷ 0 ∷ 1 ∷ 2 ∷ 0 ∷ 1 ∷ 1 ∷ 0 ∷ 0 ∷ 2 ∷ 3 ∷ 0 ∷ 0 ∷ []) ∷ ([]) ∷ [])
unfolding step bits bytes crc5_of crc16_of after format_of format_ok format_reason reason_of checked_of transaction_status extract_payload details_of with_type with_detail fresh is_read is_set_configuration is_set_interface kind_by kind_of laid is_whole whole_in whole is_of first_of max_of value_of chunks applied count_set note_of with_max device_after count_after shelf_after row_after setup_group control_group begin_group repeat_group other_group group_status group_update group_early_start group_early_append transaction_update event_update handle_raw_packet handle_event handle_detail finish
run-data-under-waiting = refl
