-- Runs of the Rust of docs/src, and the words that it left in each log: written by `oracle lemmas SEED RUNS CALLS` (oracle/), not by hand.
use mathlib.Core.Path.{refl}
use mathlib.Core.List.{List, [], ◌∷◌}
use Rattle.crc.specs.Crc.{step, bits, bytes, crc5_of, crc16_of}
use Rattle.usb.specs.Bits.{after}
use Rattle.usb.specs.Packet.{format_of, format_ok, format_reason, reason_of, checked_of}
use Rattle.transaction.specs.Status.{transaction_status}
use Rattle.transaction.specs.Payload.{extract_payload}
use Rattle.details.specs.Details.{details_of, with_type, with_detail, fresh}
use Rattle.descriptors.specs.Kind.{is_read, is_set_configuration, is_set_interface, kind_by, kind_of}
use Rattle.descriptors.specs.Laid.{laid}
use Rattle.descriptors.specs.Whole.{is_whole, whole_in, whole}
use Rattle.descriptors.specs.Entries.{is_of, first_of, max_of, value_of}
use Rattle.descriptors.specs.Store.{chunks}
use Rattle.descriptors.specs.Chosen.{applied, count_set}
use Rattle.descriptors.specs.Complete.{note_of, with_max, device_after, count_after, shelf_after, row_after}
use Rattle.group.specs.Control.{setup_group, control_group}
use Rattle.group.specs.Data.{begin_group, repeat_group, other_group}
use Rattle.group.specs.Group.{group_status}
use Rattle.rules.specs.Groups.{group_update, group_early_start, group_early_append}
use Rattle.rules.specs.Transactions.{transaction_update}
use Rattle.rules.specs.Events.{event_update}
use Rattle.rules.specs.Decoder.{handle_raw_packet, handle_event, handle_detail, finish}
use Rattle.rules.proofs.Runs.{packet, event, detail, finishing, Leaves}

run-worked :
    Leaves (packet (0xA5 ∷ 0x00 ∷ 0x10 ∷ []) 0 ∷ packet (0xD2 ∷ []) 1 ∷ finishing ∷ [])
    ((165 ∷ 0 ∷ 16 ∷ 210 ∷ []) ∷ (0 ∷ []) ∷ (0 ∷ 16 ∷ 0 ∷ 0 ∷ 17 ∷ 0 ∷ 0 ∷ 18 ∷ 0 ∷ []) ∷ (0 ∷ 0 ∷ 3 ∷ 1 ∷ []) ∷ ([]) ∷ (0 ∷ 0 ∷ 1 ∷ 0 ∷ []) ∷ (2 ∷ 0 ∷ 1 ∷ 0 ∷ 0 ∷ 1 ∷ 0 ∷ 1 ∷ 1 ∷ 1 ∷ 1 ∷ 0 ∷ 0 ∷ 1 ∷ 1 ∷ []) ∷ (0 ∷ 0 ∷ 1 ∷ 0 ∷ 1 ∷ 2 ∷ 0 ∷ 3 ∷ 2 ∷ []) ∷ (0 ∷ 3 ∷ 6 ∷ []) ∷ (0 ∷ 1 ∷ []) ∷ (0 ∷ 2 ∷ 0 ∷ 0 ∷ 1 ∷ 2 ∷ 0 ∷ 0 ∷ 0 ∷ 1 ∷ 1 ∷ 0 ∷ 1 ∷ 1 ∷ 0 ∷ 0 ∷ []) ∷ ([]) ∷ [])
unfolding step bits bytes crc5_of crc16_of after format_of format_ok format_reason reason_of checked_of transaction_status extract_payload details_of with_type with_detail fresh is_read is_set_configuration is_set_interface kind_by kind_of laid is_whole whole_in whole is_of first_of max_of value_of chunks applied count_set note_of with_max device_after count_after shelf_after row_after setup_group control_group begin_group repeat_group other_group group_status group_update group_early_start group_early_append transaction_update event_update handle_raw_packet handle_event handle_detail finish
run-worked = refl

run-empty-packet :
    Leaves (packet ([]) 0 ∷ finishing ∷ [])
    (([]) ∷ (0 ∷ []) ∷ (0 ∷ 16 ∷ 0 ∷ 0 ∷ 17 ∷ 0 ∷ 0 ∷ 18 ∷ 0 ∷ []) ∷ (0 ∷ 0 ∷ []) ∷ ([]) ∷ (0 ∷ 1 ∷ []) ∷ (1 ∷ 0 ∷ 1 ∷ 0 ∷ 0 ∷ 1 ∷ 0 ∷ 0 ∷ 0 ∷ 0 ∷ []) ∷ (0 ∷ 1 ∷ 0 ∷ 0 ∷ 3 ∷ 0 ∷ []) ∷ (0 ∷ 3 ∷ []) ∷ (0 ∷ []) ∷ (0 ∷ 1 ∷ 0 ∷ 0 ∷ 1 ∷ 1 ∷ 0 ∷ 0 ∷ []) ∷ ([]) ∷ [])
unfolding step bits bytes crc5_of crc16_of after format_of format_ok format_reason reason_of checked_of transaction_status extract_payload details_of with_type with_detail fresh is_read is_set_configuration is_set_interface kind_by kind_of laid is_whole whole_in whole is_of first_of max_of value_of chunks applied count_set note_of with_max device_after count_after shelf_after row_after setup_group control_group begin_group repeat_group other_group group_status group_update group_early_start group_early_append transaction_update event_update handle_raw_packet handle_event handle_detail finish
run-empty-packet = refl

run-setup-token :
    Leaves (packet (0x2D ∷ 0x00 ∷ 0x10 ∷ []) 0 ∷ finishing ∷ [])
    ((45 ∷ 0 ∷ 16 ∷ []) ∷ (0 ∷ []) ∷ (0 ∷ 16 ∷ 0 ∷ 0 ∷ 17 ∷ 0 ∷ 0 ∷ 18 ∷ 0 ∷ 0 ∷ 0 ∷ 0 ∷ []) ∷ (0 ∷ 0 ∷ []) ∷ ([]) ∷ (0 ∷ 0 ∷ []) ∷ (3 ∷ 0 ∷ 1 ∷ 0 ∷ 0 ∷ []) ∷ (0 ∷ 0 ∷ 0 ∷ 1 ∷ []) ∷ (0 ∷ []) ∷ (0 ∷ []) ∷ (0 ∷ 3 ∷ 0 ∷ 0 ∷ 1 ∷ 3 ∷ 0 ∷ 0 ∷ []) ∷ ([]) ∷ [])
unfolding step bits bytes crc5_of crc16_of after format_of format_ok format_reason reason_of checked_of transaction_status extract_payload details_of with_type with_detail fresh is_read is_set_configuration is_set_interface kind_by kind_of laid is_whole whole_in whole is_of first_of max_of value_of chunks applied count_set note_of with_max device_after count_after shelf_after row_after setup_group control_group begin_group repeat_group other_group group_status group_update group_early_start group_early_append transaction_update event_update handle_raw_packet handle_event handle_detail finish
run-setup-token = refl

run-setup-bad-crc :
    Leaves (packet (0x2D ∷ 0x00 ∷ 0x11 ∷ []) 0 ∷ finishing ∷ [])
    ((45 ∷ 0 ∷ 17 ∷ []) ∷ (0 ∷ []) ∷ (0 ∷ 16 ∷ 0 ∷ 0 ∷ 17 ∷ 0 ∷ 0 ∷ 18 ∷ 0 ∷ []) ∷ (0 ∷ 0 ∷ []) ∷ ([]) ∷ (0 ∷ 4 ∷ []) ∷ (1 ∷ 0 ∷ 1 ∷ 0 ∷ 0 ∷ 1 ∷ 0 ∷ 0 ∷ 0 ∷ 0 ∷ []) ∷ (0 ∷ 1 ∷ 0 ∷ 0 ∷ 3 ∷ 0 ∷ []) ∷ (0 ∷ 3 ∷ []) ∷ (0 ∷ []) ∷ (0 ∷ 1 ∷ 0 ∷ 0 ∷ 1 ∷ 1 ∷ 0 ∷ 0 ∷ []) ∷ ([]) ∷ [])
unfolding step bits bytes crc5_of crc16_of after format_of format_ok format_reason reason_of checked_of transaction_status extract_payload details_of with_type with_detail fresh is_read is_set_configuration is_set_interface kind_by kind_of laid is_whole whole_in whole is_of first_of max_of value_of chunks applied count_set note_of with_max device_after count_after shelf_after row_after setup_group control_group begin_group repeat_group other_group group_status group_update group_early_start group_early_append transaction_update event_update handle_raw_packet handle_event handle_detail finish
run-setup-bad-crc = refl

run-data-empty :
    Leaves (packet (0x4B ∷ 0x00 ∷ 0x00 ∷ []) 0 ∷ finishing ∷ [])
    ((75 ∷ 0 ∷ 0 ∷ []) ∷ (0 ∷ []) ∷ (0 ∷ 16 ∷ 0 ∷ 0 ∷ 17 ∷ 0 ∷ 0 ∷ 18 ∷ 0 ∷ []) ∷ (0 ∷ 0 ∷ []) ∷ ([]) ∷ (0 ∷ 0 ∷ []) ∷ (1 ∷ 0 ∷ 1 ∷ 0 ∷ 0 ∷ 1 ∷ 0 ∷ 0 ∷ 0 ∷ 0 ∷ []) ∷ (0 ∷ 1 ∷ 0 ∷ 0 ∷ 3 ∷ 0 ∷ []) ∷ (0 ∷ 3 ∷ []) ∷ (0 ∷ []) ∷ (0 ∷ 1 ∷ 0 ∷ 0 ∷ 1 ∷ 1 ∷ 0 ∷ 0 ∷ []) ∷ ([]) ∷ [])
unfolding step bits bytes crc5_of crc16_of after format_of format_ok format_reason reason_of checked_of transaction_status extract_payload details_of with_type with_detail fresh is_read is_set_configuration is_set_interface kind_by kind_of laid is_whole whole_in whole is_of first_of max_of value_of chunks applied count_set note_of with_max device_after count_after shelf_after row_after setup_group control_group begin_group repeat_group other_group group_status group_update group_early_start group_early_append transaction_update event_update handle_raw_packet handle_event handle_detail finish
run-data-empty = refl

run-ack :
    Leaves (packet (0xD2 ∷ []) 0 ∷ finishing ∷ [])
    ((210 ∷ []) ∷ (0 ∷ []) ∷ (0 ∷ 16 ∷ 0 ∷ 0 ∷ 17 ∷ 0 ∷ 0 ∷ 18 ∷ 0 ∷ []) ∷ (0 ∷ 0 ∷ []) ∷ ([]) ∷ (0 ∷ 0 ∷ []) ∷ (1 ∷ 0 ∷ 1 ∷ 0 ∷ 0 ∷ 1 ∷ 0 ∷ 0 ∷ 0 ∷ 0 ∷ []) ∷ (0 ∷ 1 ∷ 0 ∷ 0 ∷ 3 ∷ 0 ∷ []) ∷ (0 ∷ 3 ∷ []) ∷ (0 ∷ []) ∷ (0 ∷ 1 ∷ 0 ∷ 0 ∷ 1 ∷ 1 ∷ 0 ∷ 0 ∷ []) ∷ ([]) ∷ [])
unfolding step bits bytes crc5_of crc16_of after format_of format_ok format_reason reason_of checked_of transaction_status extract_payload details_of with_type with_detail fresh is_read is_set_configuration is_set_interface kind_by kind_of laid is_whole whole_in whole is_of first_of max_of value_of chunks applied count_set note_of with_max device_after count_after shelf_after row_after setup_group control_group begin_group repeat_group other_group group_status group_update group_early_start group_early_append transaction_update event_update handle_raw_packet handle_event handle_detail finish
run-ack = refl

run-ack-two-bytes :
    Leaves (packet (0xD2 ∷ 0x00 ∷ []) 0 ∷ finishing ∷ [])
    ((210 ∷ 0 ∷ []) ∷ (0 ∷ []) ∷ (0 ∷ 16 ∷ 0 ∷ 0 ∷ 17 ∷ 0 ∷ 0 ∷ 18 ∷ 0 ∷ []) ∷ (0 ∷ 0 ∷ []) ∷ ([]) ∷ (0 ∷ 3 ∷ []) ∷ (1 ∷ 0 ∷ 1 ∷ 0 ∷ 0 ∷ 1 ∷ 0 ∷ 0 ∷ 0 ∷ 0 ∷ []) ∷ (0 ∷ 1 ∷ 0 ∷ 0 ∷ 3 ∷ 0 ∷ []) ∷ (0 ∷ 3 ∷ []) ∷ (0 ∷ []) ∷ (0 ∷ 1 ∷ 0 ∷ 0 ∷ 1 ∷ 1 ∷ 0 ∷ 0 ∷ []) ∷ ([]) ∷ [])
unfolding step bits bytes crc5_of crc16_of after format_of format_ok format_reason reason_of checked_of transaction_status extract_payload details_of with_type with_detail fresh is_read is_set_configuration is_set_interface kind_by kind_of laid is_whole whole_in whole is_of first_of max_of value_of chunks applied count_set note_of with_max device_after count_after shelf_after row_after setup_group control_group begin_group repeat_group other_group group_status group_update group_early_start group_early_append transaction_update event_update handle_raw_packet handle_event handle_detail finish
run-ack-two-bytes = refl

run-ack-bad-complement :
    Leaves (packet (0xD3 ∷ []) 0 ∷ finishing ∷ [])
    ((211 ∷ []) ∷ (0 ∷ []) ∷ (0 ∷ 16 ∷ 0 ∷ 0 ∷ 17 ∷ 0 ∷ 0 ∷ 18 ∷ 0 ∷ []) ∷ (0 ∷ 0 ∷ []) ∷ ([]) ∷ (0 ∷ 2 ∷ []) ∷ (1 ∷ 0 ∷ 1 ∷ 0 ∷ 0 ∷ 1 ∷ 0 ∷ 0 ∷ 0 ∷ 0 ∷ []) ∷ (0 ∷ 1 ∷ 0 ∷ 0 ∷ 3 ∷ 0 ∷ []) ∷ (0 ∷ 3 ∷ []) ∷ (0 ∷ []) ∷ (0 ∷ 1 ∷ 0 ∷ 0 ∷ 1 ∷ 1 ∷ 0 ∷ 0 ∷ []) ∷ ([]) ∷ [])
unfolding step bits bytes crc5_of crc16_of after format_of format_ok format_reason reason_of checked_of transaction_status extract_payload details_of with_type with_detail fresh is_read is_set_configuration is_set_interface kind_by kind_of laid is_whole whole_in whole is_of first_of max_of value_of chunks applied count_set note_of with_max device_after count_after shelf_after row_after setup_group control_group begin_group repeat_group other_group group_status group_update group_early_start group_early_append transaction_update event_update handle_raw_packet handle_event handle_detail finish
run-ack-bad-complement = refl

run-setup-eleven :
    Leaves (packet (0x2D ∷ 0x00 ∷ 0x10 ∷ []) 0 ∷ packet (0xC3 ∷ 0x00 ∷ 0x01 ∷ 0x02 ∷ 0x03 ∷ 0x04 ∷ 0x05 ∷ 0x06 ∷ 0x07 ∷ 0xB9 ∷ 0x85 ∷ []) 1 ∷ packet (0xD2 ∷ []) 2 ∷ finishing ∷ [])
    ((45 ∷ 0 ∷ 16 ∷ 195 ∷ 0 ∷ 1 ∷ 2 ∷ 3 ∷ 4 ∷ 5 ∷ 6 ∷ 7 ∷ 185 ∷ 133 ∷ 210 ∷ []) ∷ (0 ∷ []) ∷ (0 ∷ 16 ∷ 0 ∷ 0 ∷ 17 ∷ 0 ∷ 0 ∷ 18 ∷ 0 ∷ 0 ∷ 0 ∷ 0 ∷ []) ∷ (0 ∷ 0 ∷ 3 ∷ 1 ∷ 14 ∷ 2 ∷ []) ∷ ([]) ∷ (0 ∷ 0 ∷ []) ∷ (3 ∷ 0 ∷ 1 ∷ 0 ∷ 0 ∷ []) ∷ (0 ∷ 0 ∷ 0 ∷ 1 ∷ []) ∷ (0 ∷ []) ∷ (0 ∷ []) ∷ (0 ∷ 3 ∷ 0 ∷ 0 ∷ 1 ∷ 3 ∷ 0 ∷ 0 ∷ []) ∷ ([]) ∷ [])
unfolding step bits bytes crc5_of crc16_of after format_of format_ok format_reason reason_of checked_of transaction_status extract_payload details_of with_type with_detail fresh is_read is_set_configuration is_set_interface kind_by kind_of laid is_whole whole_in whole is_of first_of max_of value_of chunks applied count_set note_of with_max device_after count_after shelf_after row_after setup_group control_group begin_group repeat_group other_group group_status group_update group_early_start group_early_append transaction_update event_update handle_raw_packet handle_event handle_detail finish
run-setup-eleven = refl

run-setup-ten :
    Leaves (packet (0x2D ∷ 0x00 ∷ 0x10 ∷ []) 0 ∷ packet (0xC3 ∷ 0x00 ∷ 0x01 ∷ 0x02 ∷ 0x03 ∷ 0x04 ∷ 0x05 ∷ 0x06 ∷ 0x5E ∷ 0x39 ∷ []) 1 ∷ packet (0xD2 ∷ []) 2 ∷ finishing ∷ [])
    ((45 ∷ 0 ∷ 16 ∷ 195 ∷ 0 ∷ 1 ∷ 2 ∷ 3 ∷ 4 ∷ 5 ∷ 6 ∷ 94 ∷ 57 ∷ 210 ∷ []) ∷ (0 ∷ []) ∷ (0 ∷ 16 ∷ 0 ∷ 0 ∷ 17 ∷ 0 ∷ 0 ∷ 18 ∷ 0 ∷ 0 ∷ 0 ∷ 0 ∷ []) ∷ (0 ∷ 0 ∷ 3 ∷ 1 ∷ 13 ∷ 2 ∷ []) ∷ ([]) ∷ (0 ∷ 0 ∷ 1 ∷ 0 ∷ 2 ∷ 0 ∷ []) ∷ (3 ∷ 0 ∷ 1 ∷ 0 ∷ 0 ∷ 1 ∷ 0 ∷ 1 ∷ 1 ∷ 1 ∷ 1 ∷ 0 ∷ 0 ∷ 1 ∷ 1 ∷ 1 ∷ 1 ∷ 1 ∷ 2 ∷ 2 ∷ 1 ∷ 1 ∷ 0 ∷ 2 ∷ 2 ∷ []) ∷ (0 ∷ 0 ∷ 0 ∷ 1 ∷ 0 ∷ 1 ∷ 0 ∷ 2 ∷ 0 ∷ 3 ∷ 0 ∷ 2 ∷ 0 ∷ 1 ∷ 0 ∷ 2 ∷ 0 ∷ 3 ∷ 0 ∷ 2 ∷ []) ∷ (0 ∷ 4 ∷ 8 ∷ 12 ∷ 16 ∷ []) ∷ (0 ∷ 1 ∷ 3 ∷ []) ∷ (0 ∷ 3 ∷ 0 ∷ 0 ∷ 1 ∷ 3 ∷ 0 ∷ 0 ∷ 0 ∷ 1 ∷ 1 ∷ 0 ∷ 1 ∷ 1 ∷ 0 ∷ 0 ∷ 0 ∷ 1 ∷ 2 ∷ 0 ∷ 1 ∷ 1 ∷ 1 ∷ 0 ∷ 3 ∷ 1 ∷ 2 ∷ 0 ∷ []) ∷ ([]) ∷ [])
unfolding step bits bytes crc5_of crc16_of after format_of format_ok format_reason reason_of checked_of transaction_status extract_payload details_of with_type with_detail fresh is_read is_set_configuration is_set_interface kind_by kind_of laid is_whole whole_in whole is_of first_of max_of value_of chunks applied count_set note_of with_max device_after count_after shelf_after row_after setup_group control_group begin_group repeat_group other_group group_status group_update group_early_start group_early_append transaction_update event_update handle_raw_packet handle_event handle_detail finish
run-setup-ten = refl

run-out-unknown :
    Leaves (packet (0xE1 ∷ 0x80 ∷ 0xA0 ∷ []) 0 ∷ packet (0xC3 ∷ 0x00 ∷ 0x01 ∷ 0x02 ∷ 0x03 ∷ 0x04 ∷ 0x05 ∷ 0x06 ∷ 0x07 ∷ 0xB9 ∷ 0x85 ∷ []) 1 ∷ packet (0xE1 ∷ 0x80 ∷ 0xA0 ∷ []) 2 ∷ packet (0xC3 ∷ 0x00 ∷ 0x01 ∷ 0x02 ∷ 0x03 ∷ 0x04 ∷ 0x05 ∷ 0x06 ∷ 0x07 ∷ 0xB9 ∷ 0x85 ∷ []) 3 ∷ packet (0xD2 ∷ []) 4 ∷ finishing ∷ [])
    ((225 ∷ 128 ∷ 160 ∷ 195 ∷ 0 ∷ 1 ∷ 2 ∷ 3 ∷ 4 ∷ 5 ∷ 6 ∷ 7 ∷ 185 ∷ 133 ∷ 225 ∷ 128 ∷ 160 ∷ 195 ∷ 0 ∷ 1 ∷ 2 ∷ 3 ∷ 4 ∷ 5 ∷ 6 ∷ 7 ∷ 185 ∷ 133 ∷ 210 ∷ []) ∷ (0 ∷ []) ∷ (0 ∷ 16 ∷ 0 ∷ 0 ∷ 17 ∷ 0 ∷ 0 ∷ 18 ∷ 0 ∷ 0 ∷ 1 ∷ 0 ∷ []) ∷ (0 ∷ 0 ∷ 3 ∷ 1 ∷ 14 ∷ 2 ∷ 17 ∷ 3 ∷ 28 ∷ 4 ∷ []) ∷ ([]) ∷ (0 ∷ 0 ∷ 2 ∷ 0 ∷ []) ∷ (3 ∷ 0 ∷ 1 ∷ 0 ∷ 0 ∷ 3 ∷ 0 ∷ 0 ∷ 4 ∷ 4 ∷ 3 ∷ 1 ∷ 1 ∷ 4 ∷ 4 ∷ []) ∷ (0 ∷ 0 ∷ 0 ∷ 1 ∷ 0 ∷ 0 ∷ 0 ∷ 3 ∷ 0 ∷ 0 ∷ 0 ∷ 1 ∷ []) ∷ (0 ∷ 4 ∷ 8 ∷ []) ∷ (0 ∷ 2 ∷ []) ∷ (0 ∷ 3 ∷ 0 ∷ 0 ∷ 1 ∷ 3 ∷ 0 ∷ 0 ∷ 0 ∷ 3 ∷ 1 ∷ 0 ∷ 1 ∷ 3 ∷ 1 ∷ 0 ∷ 3 ∷ 3 ∷ 1 ∷ 0 ∷ 2 ∷ 3 ∷ 1 ∷ 0 ∷ []) ∷ ([]) ∷ [])
unfolding step bits bytes crc5_of crc16_of after format_of format_ok format_reason reason_of checked_of transaction_status extract_payload details_of with_type with_detail fresh is_read is_set_configuration is_set_interface kind_by kind_of laid is_whole whole_in whole is_of first_of max_of value_of chunks applied count_set note_of with_max device_after count_after shelf_after row_after setup_group control_group begin_group repeat_group other_group group_status group_update group_early_start group_early_append transaction_update event_update handle_raw_packet handle_event handle_detail finish
run-out-unknown = refl

run-out-isochronous :
    Leaves (detail 0 1 0 1 64 ∷ packet (0xE1 ∷ 0x80 ∷ 0xA0 ∷ []) 1 ∷ packet (0xC3 ∷ 0x00 ∷ 0x01 ∷ 0x02 ∷ 0x03 ∷ 0x04 ∷ 0x05 ∷ 0x06 ∷ 0x07 ∷ 0xB9 ∷ 0x85 ∷ []) 2 ∷ packet (0xD2 ∷ []) 3 ∷ finishing ∷ [])
    ((225 ∷ 128 ∷ 160 ∷ 195 ∷ 0 ∷ 1 ∷ 2 ∷ 3 ∷ 4 ∷ 5 ∷ 6 ∷ 7 ∷ 185 ∷ 133 ∷ 210 ∷ []) ∷ (0 ∷ []) ∷ (0 ∷ 16 ∷ 0 ∷ 0 ∷ 17 ∷ 0 ∷ 0 ∷ 18 ∷ 0 ∷ 0 ∷ 1 ∷ 0 ∷ []) ∷ (0 ∷ 1 ∷ 3 ∷ 2 ∷ 14 ∷ 3 ∷ []) ∷ ([]) ∷ (0 ∷ 0 ∷ 2 ∷ 0 ∷ []) ∷ (3 ∷ 0 ∷ 1 ∷ 0 ∷ 1 ∷ 1 ∷ 0 ∷ 1 ∷ 2 ∷ 3 ∷ 1 ∷ 0 ∷ 0 ∷ 2 ∷ 3 ∷ []) ∷ (0 ∷ 0 ∷ 0 ∷ 1 ∷ 0 ∷ 1 ∷ 0 ∷ 2 ∷ 0 ∷ 3 ∷ 0 ∷ 2 ∷ []) ∷ (0 ∷ 4 ∷ 8 ∷ []) ∷ (0 ∷ 1 ∷ []) ∷ (0 ∷ 3 ∷ 0 ∷ 0 ∷ 1 ∷ 3 ∷ 0 ∷ 0 ∷ 2 ∷ 3 ∷ 0 ∷ 0 ∷ 0 ∷ 1 ∷ 1 ∷ 0 ∷ 1 ∷ 1 ∷ 0 ∷ 0 ∷ []) ∷ ([]) ∷ [])
unfolding step bits bytes crc5_of crc16_of after format_of format_ok format_reason reason_of checked_of transaction_status extract_payload details_of with_type with_detail fresh is_read is_set_configuration is_set_interface kind_by kind_of laid is_whole whole_in whole is_of first_of max_of value_of chunks applied count_set note_of with_max device_after count_after shelf_after row_after setup_group control_group begin_group repeat_group other_group group_status group_update group_early_start group_early_append transaction_update event_update handle_raw_packet handle_event handle_detail finish
run-out-isochronous = refl

run-out-bulk :
    Leaves (detail 0 1 0 2 64 ∷ packet (0xE1 ∷ 0x80 ∷ 0xA0 ∷ []) 1 ∷ packet (0xC3 ∷ 0x00 ∷ 0x01 ∷ 0x02 ∷ 0x03 ∷ 0x04 ∷ 0x05 ∷ 0x06 ∷ 0x07 ∷ 0xB9 ∷ 0x85 ∷ []) 2 ∷ packet (0xD2 ∷ []) 3 ∷ finishing ∷ [])
    ((225 ∷ 128 ∷ 160 ∷ 195 ∷ 0 ∷ 1 ∷ 2 ∷ 3 ∷ 4 ∷ 5 ∷ 6 ∷ 7 ∷ 185 ∷ 133 ∷ 210 ∷ []) ∷ (0 ∷ []) ∷ (0 ∷ 16 ∷ 0 ∷ 0 ∷ 17 ∷ 0 ∷ 0 ∷ 18 ∷ 0 ∷ 0 ∷ 1 ∷ 0 ∷ []) ∷ (0 ∷ 1 ∷ 3 ∷ 2 ∷ 14 ∷ 3 ∷ []) ∷ ([]) ∷ (0 ∷ 0 ∷ []) ∷ (3 ∷ 0 ∷ 1 ∷ 0 ∷ 1 ∷ 3 ∷ 0 ∷ 0 ∷ 2 ∷ 3 ∷ []) ∷ (0 ∷ 0 ∷ 0 ∷ 1 ∷ 0 ∷ 0 ∷ 0 ∷ 3 ∷ []) ∷ (0 ∷ 4 ∷ []) ∷ (0 ∷ []) ∷ (0 ∷ 3 ∷ 0 ∷ 0 ∷ 1 ∷ 3 ∷ 0 ∷ 0 ∷ 2 ∷ 3 ∷ 0 ∷ 0 ∷ []) ∷ ([]) ∷ [])
unfolding step bits bytes crc5_of crc16_of after format_of format_ok format_reason reason_of checked_of transaction_status extract_payload details_of with_type with_detail fresh is_read is_set_configuration is_set_interface kind_by kind_of laid is_whole whole_in whole is_of first_of max_of value_of chunks applied count_set note_of with_max device_after count_after shelf_after row_after setup_group control_group begin_group repeat_group other_group group_status group_update group_early_start group_early_append transaction_update event_update handle_raw_packet handle_event handle_detail finish
run-out-bulk = refl

run-short-63 :
    Leaves (detail 0 1 0 2 64 ∷ packet (0xE1 ∷ 0x80 ∷ 0xA0 ∷ []) 1 ∷ packet (0xC3 ∷ 0x00 ∷ 0x01 ∷ 0x02 ∷ 0x03 ∷ 0x04 ∷ 0x05 ∷ 0x06 ∷ 0x07 ∷ 0x08 ∷ 0x09 ∷ 0x0A ∷ 0x0B ∷ 0x0C ∷ 0x0D ∷ 0x0E ∷ 0x0F ∷ 0x10 ∷ 0x11 ∷ 0x12 ∷ 0x13 ∷ 0x14 ∷ 0x15 ∷ 0x16 ∷ 0x17 ∷ 0x18 ∷ 0x19 ∷ 0x1A ∷ 0x1B ∷ 0x1C ∷ 0x1D ∷ 0x1E ∷ 0x1F ∷ 0x20 ∷ 0x21 ∷ 0x22 ∷ 0x23 ∷ 0x24 ∷ 0x25 ∷ 0x26 ∷ 0x27 ∷ 0x28 ∷ 0x29 ∷ 0x2A ∷ 0x2B ∷ 0x2C ∷ 0x2D ∷ 0x2E ∷ 0x2F ∷ 0x30 ∷ 0x31 ∷ 0x32 ∷ 0x33 ∷ 0x34 ∷ 0x35 ∷ 0x36 ∷ 0x37 ∷ 0x38 ∷ 0x39 ∷ 0x3A ∷ 0x3B ∷ 0x3C ∷ 0x3D ∷ 0x3E ∷ 0x3F ∷ 0x26 ∷ 0xF7 ∷ []) 2 ∷ packet (0xD2 ∷ []) 3 ∷ packet (0xE1 ∷ 0x80 ∷ 0xA0 ∷ []) 4 ∷ packet (0x4B ∷ 0x00 ∷ 0x01 ∷ 0x02 ∷ 0x03 ∷ 0x04 ∷ 0x05 ∷ 0x06 ∷ 0x07 ∷ 0x08 ∷ 0x09 ∷ 0x0A ∷ 0x0B ∷ 0x0C ∷ 0x0D ∷ 0x0E ∷ 0x0F ∷ 0x10 ∷ 0x11 ∷ 0x12 ∷ 0x13 ∷ 0x14 ∷ 0x15 ∷ 0x16 ∷ 0x17 ∷ 0x18 ∷ 0x19 ∷ 0x1A ∷ 0x1B ∷ 0x1C ∷ 0x1D ∷ 0x1E ∷ 0x1F ∷ 0x20 ∷ 0x21 ∷ 0x22 ∷ 0x23 ∷ 0x24 ∷ 0x25 ∷ 0x26 ∷ 0x27 ∷ 0x28 ∷ 0x29 ∷ 0x2A ∷ 0x2B ∷ 0x2C ∷ 0x2D ∷ 0x2E ∷ 0x2F ∷ 0x30 ∷ 0x31 ∷ 0x32 ∷ 0x33 ∷ 0x34 ∷ 0x35 ∷ 0x36 ∷ 0x37 ∷ 0x38 ∷ 0x39 ∷ 0x3A ∷ 0x3B ∷ 0x3C ∷ 0x3D ∷ 0x3E ∷ 0xDE ∷ 0xA6 ∷ []) 5 ∷ packet (0xD2 ∷ []) 6 ∷ finishing ∷ [])
    ((225 ∷ 128 ∷ 160 ∷ 195 ∷ 0 ∷ 1 ∷ 2 ∷ 3 ∷ 4 ∷ 5 ∷ 6 ∷ 7 ∷ 8 ∷ 9 ∷ 10 ∷ 11 ∷ 12 ∷ 13 ∷ 14 ∷ 15 ∷ 16 ∷ 17 ∷ 18 ∷ 19 ∷ 20 ∷ 21 ∷ 22 ∷ 23 ∷ 24 ∷ 25 ∷ 26 ∷ 27 ∷ 28 ∷ 29 ∷ 30 ∷ 31 ∷ 32 ∷ 33 ∷ 34 ∷ 35 ∷ 36 ∷ 37 ∷ 38 ∷ 39 ∷ 40 ∷ 41 ∷ 42 ∷ 43 ∷ 44 ∷ 45 ∷ 46 ∷ 47 ∷ 48 ∷ 49 ∷ 50 ∷ 51 ∷ 52 ∷ 53 ∷ 54 ∷ 55 ∷ 56 ∷ 57 ∷ 58 ∷ 59 ∷ 60 ∷ 61 ∷ 62 ∷ 63 ∷ 38 ∷ 247 ∷ 210 ∷ 225 ∷ 128 ∷ 160 ∷ 75 ∷ 0 ∷ 1 ∷ 2 ∷ 3 ∷ 4 ∷ 5 ∷ 6 ∷ 7 ∷ 8 ∷ 9 ∷ 10 ∷ 11 ∷ 12 ∷ 13 ∷ 14 ∷ 15 ∷ 16 ∷ 17 ∷ 18 ∷ 19 ∷ 20 ∷ 21 ∷ 22 ∷ 23 ∷ 24 ∷ 25 ∷ 26 ∷ 27 ∷ 28 ∷ 29 ∷ 30 ∷ 31 ∷ 32 ∷ 33 ∷ 34 ∷ 35 ∷ 36 ∷ 37 ∷ 38 ∷ 39 ∷ 40 ∷ 41 ∷ 42 ∷ 43 ∷ 44 ∷ 45 ∷ 46 ∷ 47 ∷ 48 ∷ 49 ∷ 50 ∷ 51 ∷ 52 ∷ 53 ∷ 54 ∷ 55 ∷ 56 ∷ 57 ∷ 58 ∷ 59 ∷ 60 ∷ 61 ∷ 62 ∷ 222 ∷ 166 ∷ 210 ∷ []) ∷ (0 ∷ []) ∷ (0 ∷ 16 ∷ 0 ∷ 0 ∷ 17 ∷ 0 ∷ 0 ∷ 18 ∷ 0 ∷ 0 ∷ 1 ∷ 0 ∷ []) ∷ (0 ∷ 1 ∷ 3 ∷ 2 ∷ 70 ∷ 3 ∷ 71 ∷ 4 ∷ 74 ∷ 5 ∷ 140 ∷ 6 ∷ []) ∷ ([]) ∷ (0 ∷ 0 ∷ 3 ∷ 0 ∷ []) ∷ (3 ∷ 0 ∷ 1 ∷ 0 ∷ 1 ∷ 3 ∷ 0 ∷ 0 ∷ 5 ∷ 6 ∷ []) ∷ (0 ∷ 0 ∷ 0 ∷ 1 ∷ 0 ∷ 0 ∷ 0 ∷ 3 ∷ []) ∷ (0 ∷ 4 ∷ []) ∷ (0 ∷ []) ∷ (0 ∷ 3 ∷ 0 ∷ 0 ∷ 1 ∷ 3 ∷ 0 ∷ 0 ∷ 2 ∷ 3 ∷ 0 ∷ 0 ∷ 0 ∷ 3 ∷ 1 ∷ 0 ∷ 2 ∷ 3 ∷ 1 ∷ 64 ∷ []) ∷ ([]) ∷ [])
unfolding step bits bytes crc5_of crc16_of after format_of format_ok format_reason reason_of checked_of transaction_status extract_payload details_of with_type with_detail fresh is_read is_set_configuration is_set_interface kind_by kind_of laid is_whole whole_in whole is_of first_of max_of value_of chunks applied count_set note_of with_max device_after count_after shelf_after row_after setup_group control_group begin_group repeat_group other_group group_status group_update group_early_start group_early_append transaction_update event_update handle_raw_packet handle_event handle_detail finish
run-short-63 = refl

run-full-64 :
    Leaves (detail 0 1 0 2 64 ∷ packet (0xE1 ∷ 0x80 ∷ 0xA0 ∷ []) 1 ∷ packet (0xC3 ∷ 0x00 ∷ 0x01 ∷ 0x02 ∷ 0x03 ∷ 0x04 ∷ 0x05 ∷ 0x06 ∷ 0x07 ∷ 0x08 ∷ 0x09 ∷ 0x0A ∷ 0x0B ∷ 0x0C ∷ 0x0D ∷ 0x0E ∷ 0x0F ∷ 0x10 ∷ 0x11 ∷ 0x12 ∷ 0x13 ∷ 0x14 ∷ 0x15 ∷ 0x16 ∷ 0x17 ∷ 0x18 ∷ 0x19 ∷ 0x1A ∷ 0x1B ∷ 0x1C ∷ 0x1D ∷ 0x1E ∷ 0x1F ∷ 0x20 ∷ 0x21 ∷ 0x22 ∷ 0x23 ∷ 0x24 ∷ 0x25 ∷ 0x26 ∷ 0x27 ∷ 0x28 ∷ 0x29 ∷ 0x2A ∷ 0x2B ∷ 0x2C ∷ 0x2D ∷ 0x2E ∷ 0x2F ∷ 0x30 ∷ 0x31 ∷ 0x32 ∷ 0x33 ∷ 0x34 ∷ 0x35 ∷ 0x36 ∷ 0x37 ∷ 0x38 ∷ 0x39 ∷ 0x3A ∷ 0x3B ∷ 0x3C ∷ 0x3D ∷ 0x3E ∷ 0x3F ∷ 0x26 ∷ 0xF7 ∷ []) 2 ∷ packet (0xD2 ∷ []) 3 ∷ packet (0xE1 ∷ 0x80 ∷ 0xA0 ∷ []) 4 ∷ packet (0x4B ∷ 0x00 ∷ 0x01 ∷ 0x02 ∷ 0x03 ∷ 0x04 ∷ 0x05 ∷ 0x06 ∷ 0x07 ∷ 0x08 ∷ 0x09 ∷ 0x0A ∷ 0x0B ∷ 0x0C ∷ 0x0D ∷ 0x0E ∷ 0x0F ∷ 0x10 ∷ 0x11 ∷ 0x12 ∷ 0x13 ∷ 0x14 ∷ 0x15 ∷ 0x16 ∷ 0x17 ∷ 0x18 ∷ 0x19 ∷ 0x1A ∷ 0x1B ∷ 0x1C ∷ 0x1D ∷ 0x1E ∷ 0x1F ∷ 0x20 ∷ 0x21 ∷ 0x22 ∷ 0x23 ∷ 0x24 ∷ 0x25 ∷ 0x26 ∷ 0x27 ∷ 0x28 ∷ 0x29 ∷ 0x2A ∷ 0x2B ∷ 0x2C ∷ 0x2D ∷ 0x2E ∷ 0x2F ∷ 0x30 ∷ 0x31 ∷ 0x32 ∷ 0x33 ∷ 0x34 ∷ 0x35 ∷ 0x36 ∷ 0x37 ∷ 0x38 ∷ 0x39 ∷ 0x3A ∷ 0x3B ∷ 0x3C ∷ 0x3D ∷ 0x3E ∷ 0x3F ∷ 0x26 ∷ 0xF7 ∷ []) 5 ∷ packet (0xD2 ∷ []) 6 ∷ finishing ∷ [])
    ((225 ∷ 128 ∷ 160 ∷ 195 ∷ 0 ∷ 1 ∷ 2 ∷ 3 ∷ 4 ∷ 5 ∷ 6 ∷ 7 ∷ 8 ∷ 9 ∷ 10 ∷ 11 ∷ 12 ∷ 13 ∷ 14 ∷ 15 ∷ 16 ∷ 17 ∷ 18 ∷ 19 ∷ 20 ∷ 21 ∷ 22 ∷ 23 ∷ 24 ∷ 25 ∷ 26 ∷ 27 ∷ 28 ∷ 29 ∷ 30 ∷ 31 ∷ 32 ∷ 33 ∷ 34 ∷ 35 ∷ 36 ∷ 37 ∷ 38 ∷ 39 ∷ 40 ∷ 41 ∷ 42 ∷ 43 ∷ 44 ∷ 45 ∷ 46 ∷ 47 ∷ 48 ∷ 49 ∷ 50 ∷ 51 ∷ 52 ∷ 53 ∷ 54 ∷ 55 ∷ 56 ∷ 57 ∷ 58 ∷ 59 ∷ 60 ∷ 61 ∷ 62 ∷ 63 ∷ 38 ∷ 247 ∷ 210 ∷ 225 ∷ 128 ∷ 160 ∷ 75 ∷ 0 ∷ 1 ∷ 2 ∷ 3 ∷ 4 ∷ 5 ∷ 6 ∷ 7 ∷ 8 ∷ 9 ∷ 10 ∷ 11 ∷ 12 ∷ 13 ∷ 14 ∷ 15 ∷ 16 ∷ 17 ∷ 18 ∷ 19 ∷ 20 ∷ 21 ∷ 22 ∷ 23 ∷ 24 ∷ 25 ∷ 26 ∷ 27 ∷ 28 ∷ 29 ∷ 30 ∷ 31 ∷ 32 ∷ 33 ∷ 34 ∷ 35 ∷ 36 ∷ 37 ∷ 38 ∷ 39 ∷ 40 ∷ 41 ∷ 42 ∷ 43 ∷ 44 ∷ 45 ∷ 46 ∷ 47 ∷ 48 ∷ 49 ∷ 50 ∷ 51 ∷ 52 ∷ 53 ∷ 54 ∷ 55 ∷ 56 ∷ 57 ∷ 58 ∷ 59 ∷ 60 ∷ 61 ∷ 62 ∷ 63 ∷ 38 ∷ 247 ∷ 210 ∷ []) ∷ (0 ∷ []) ∷ (0 ∷ 16 ∷ 0 ∷ 0 ∷ 17 ∷ 0 ∷ 0 ∷ 18 ∷ 0 ∷ 0 ∷ 1 ∷ 0 ∷ []) ∷ (0 ∷ 1 ∷ 3 ∷ 2 ∷ 70 ∷ 3 ∷ 71 ∷ 4 ∷ 74 ∷ 5 ∷ 141 ∷ 6 ∷ []) ∷ ([]) ∷ (0 ∷ 0 ∷ 3 ∷ 0 ∷ []) ∷ (3 ∷ 0 ∷ 1 ∷ 0 ∷ 1 ∷ []) ∷ (0 ∷ 0 ∷ 0 ∷ 1 ∷ []) ∷ (0 ∷ []) ∷ (0 ∷ []) ∷ (0 ∷ 3 ∷ 0 ∷ 0 ∷ 1 ∷ 3 ∷ 0 ∷ 0 ∷ 2 ∷ 3 ∷ 0 ∷ 0 ∷ 0 ∷ 3 ∷ 1 ∷ 0 ∷ 2 ∷ 3 ∷ 1 ∷ 64 ∷ []) ∷ ([]) ∷ [])
unfolding step bits bytes crc5_of crc16_of after format_of format_ok format_reason reason_of checked_of transaction_status extract_payload details_of with_type with_detail fresh is_read is_set_configuration is_set_interface kind_by kind_of laid is_whole whole_in whole is_of first_of max_of value_of chunks applied count_set note_of with_max device_after count_after shelf_after row_after setup_group control_group begin_group repeat_group other_group group_status group_update group_early_start group_early_append transaction_update event_update handle_raw_packet handle_event handle_detail finish
run-full-64 = refl

run-zero-of-unknown :
    Leaves (packet (0xE1 ∷ 0x80 ∷ 0xA0 ∷ []) 0 ∷ packet (0xC3 ∷ 0x00 ∷ 0x01 ∷ 0x02 ∷ 0x03 ∷ 0x04 ∷ 0x05 ∷ 0x06 ∷ 0x07 ∷ 0x08 ∷ 0x09 ∷ 0x0A ∷ 0x0B ∷ 0x0C ∷ 0x0D ∷ 0x0E ∷ 0x0F ∷ 0x10 ∷ 0x11 ∷ 0x12 ∷ 0x13 ∷ 0x14 ∷ 0x15 ∷ 0x16 ∷ 0x17 ∷ 0x18 ∷ 0x19 ∷ 0x1A ∷ 0x1B ∷ 0x1C ∷ 0x1D ∷ 0x1E ∷ 0x1F ∷ 0x20 ∷ 0x21 ∷ 0x22 ∷ 0x23 ∷ 0x24 ∷ 0x25 ∷ 0x26 ∷ 0x27 ∷ 0x28 ∷ 0x29 ∷ 0x2A ∷ 0x2B ∷ 0x2C ∷ 0x2D ∷ 0x2E ∷ 0x2F ∷ 0x30 ∷ 0x31 ∷ 0x32 ∷ 0x33 ∷ 0x34 ∷ 0x35 ∷ 0x36 ∷ 0x37 ∷ 0x38 ∷ 0x39 ∷ 0x3A ∷ 0x3B ∷ 0x3C ∷ 0x3D ∷ 0x3E ∷ 0x3F ∷ 0x26 ∷ 0xF7 ∷ []) 1 ∷ packet (0xD2 ∷ []) 2 ∷ packet (0xE1 ∷ 0x80 ∷ 0xA0 ∷ []) 3 ∷ packet (0x4B ∷ 0x00 ∷ 0x00 ∷ []) 4 ∷ packet (0xD2 ∷ []) 5 ∷ finishing ∷ [])
    ((225 ∷ 128 ∷ 160 ∷ 195 ∷ 0 ∷ 1 ∷ 2 ∷ 3 ∷ 4 ∷ 5 ∷ 6 ∷ 7 ∷ 8 ∷ 9 ∷ 10 ∷ 11 ∷ 12 ∷ 13 ∷ 14 ∷ 15 ∷ 16 ∷ 17 ∷ 18 ∷ 19 ∷ 20 ∷ 21 ∷ 22 ∷ 23 ∷ 24 ∷ 25 ∷ 26 ∷ 27 ∷ 28 ∷ 29 ∷ 30 ∷ 31 ∷ 32 ∷ 33 ∷ 34 ∷ 35 ∷ 36 ∷ 37 ∷ 38 ∷ 39 ∷ 40 ∷ 41 ∷ 42 ∷ 43 ∷ 44 ∷ 45 ∷ 46 ∷ 47 ∷ 48 ∷ 49 ∷ 50 ∷ 51 ∷ 52 ∷ 53 ∷ 54 ∷ 55 ∷ 56 ∷ 57 ∷ 58 ∷ 59 ∷ 60 ∷ 61 ∷ 62 ∷ 63 ∷ 38 ∷ 247 ∷ 210 ∷ 225 ∷ 128 ∷ 160 ∷ 75 ∷ 0 ∷ 0 ∷ 210 ∷ []) ∷ (0 ∷ []) ∷ (0 ∷ 16 ∷ 0 ∷ 0 ∷ 17 ∷ 0 ∷ 0 ∷ 18 ∷ 0 ∷ 0 ∷ 1 ∷ 0 ∷ []) ∷ (0 ∷ 0 ∷ 3 ∷ 1 ∷ 70 ∷ 2 ∷ 71 ∷ 3 ∷ 74 ∷ 4 ∷ 77 ∷ 5 ∷ []) ∷ ([]) ∷ (0 ∷ 0 ∷ 3 ∷ 0 ∷ []) ∷ (3 ∷ 0 ∷ 1 ∷ 0 ∷ 0 ∷ []) ∷ (0 ∷ 0 ∷ 0 ∷ 1 ∷ []) ∷ (0 ∷ []) ∷ (0 ∷ []) ∷ (0 ∷ 3 ∷ 0 ∷ 0 ∷ 1 ∷ 3 ∷ 0 ∷ 0 ∷ 2 ∷ 3 ∷ 0 ∷ 0 ∷ 0 ∷ 3 ∷ 1 ∷ 0 ∷ 2 ∷ 3 ∷ 1 ∷ 64 ∷ []) ∷ ([]) ∷ [])
unfolding step bits bytes crc5_of crc16_of after format_of format_ok format_reason reason_of checked_of transaction_status extract_payload details_of with_type with_detail fresh is_read is_set_configuration is_set_interface kind_by kind_of laid is_whole whole_in whole is_of first_of max_of value_of chunks applied count_set note_of with_max device_after count_after shelf_after row_after setup_group control_group begin_group repeat_group other_group group_status group_update group_early_start group_early_append transaction_update event_update handle_raw_packet handle_event handle_detail finish
run-zero-of-unknown = refl

run-isochronous-63 :
    Leaves (detail 0 1 0 1 64 ∷ packet (0xE1 ∷ 0x80 ∷ 0xA0 ∷ []) 1 ∷ packet (0xC3 ∷ 0x00 ∷ 0x01 ∷ 0x02 ∷ 0x03 ∷ 0x04 ∷ 0x05 ∷ 0x06 ∷ 0x07 ∷ 0x08 ∷ 0x09 ∷ 0x0A ∷ 0x0B ∷ 0x0C ∷ 0x0D ∷ 0x0E ∷ 0x0F ∷ 0x10 ∷ 0x11 ∷ 0x12 ∷ 0x13 ∷ 0x14 ∷ 0x15 ∷ 0x16 ∷ 0x17 ∷ 0x18 ∷ 0x19 ∷ 0x1A ∷ 0x1B ∷ 0x1C ∷ 0x1D ∷ 0x1E ∷ 0x1F ∷ 0x20 ∷ 0x21 ∷ 0x22 ∷ 0x23 ∷ 0x24 ∷ 0x25 ∷ 0x26 ∷ 0x27 ∷ 0x28 ∷ 0x29 ∷ 0x2A ∷ 0x2B ∷ 0x2C ∷ 0x2D ∷ 0x2E ∷ 0x2F ∷ 0x30 ∷ 0x31 ∷ 0x32 ∷ 0x33 ∷ 0x34 ∷ 0x35 ∷ 0x36 ∷ 0x37 ∷ 0x38 ∷ 0x39 ∷ 0x3A ∷ 0x3B ∷ 0x3C ∷ 0x3D ∷ 0x3E ∷ 0x3F ∷ 0x26 ∷ 0xF7 ∷ []) 2 ∷ packet (0xE1 ∷ 0x80 ∷ 0xA0 ∷ []) 3 ∷ packet (0xC3 ∷ 0x00 ∷ 0x01 ∷ 0x02 ∷ 0x03 ∷ 0x04 ∷ 0x05 ∷ 0x06 ∷ 0x07 ∷ 0x08 ∷ 0x09 ∷ 0x0A ∷ 0x0B ∷ 0x0C ∷ 0x0D ∷ 0x0E ∷ 0x0F ∷ 0x10 ∷ 0x11 ∷ 0x12 ∷ 0x13 ∷ 0x14 ∷ 0x15 ∷ 0x16 ∷ 0x17 ∷ 0x18 ∷ 0x19 ∷ 0x1A ∷ 0x1B ∷ 0x1C ∷ 0x1D ∷ 0x1E ∷ 0x1F ∷ 0x20 ∷ 0x21 ∷ 0x22 ∷ 0x23 ∷ 0x24 ∷ 0x25 ∷ 0x26 ∷ 0x27 ∷ 0x28 ∷ 0x29 ∷ 0x2A ∷ 0x2B ∷ 0x2C ∷ 0x2D ∷ 0x2E ∷ 0x2F ∷ 0x30 ∷ 0x31 ∷ 0x32 ∷ 0x33 ∷ 0x34 ∷ 0x35 ∷ 0x36 ∷ 0x37 ∷ 0x38 ∷ 0x39 ∷ 0x3A ∷ 0x3B ∷ 0x3C ∷ 0x3D ∷ 0x3E ∷ 0xDE ∷ 0xA6 ∷ []) 4 ∷ packet (0xE1 ∷ 0x80 ∷ 0xA0 ∷ []) 5 ∷ packet (0xC3 ∷ 0x00 ∷ 0x01 ∷ 0x02 ∷ 0x03 ∷ 0x04 ∷ 0x05 ∷ 0x06 ∷ 0x07 ∷ 0x08 ∷ 0x09 ∷ 0x0A ∷ 0x0B ∷ 0x0C ∷ 0x0D ∷ 0x0E ∷ 0x0F ∷ 0x10 ∷ 0x11 ∷ 0x12 ∷ 0x13 ∷ 0x14 ∷ 0x15 ∷ 0x16 ∷ 0x17 ∷ 0x18 ∷ 0x19 ∷ 0x1A ∷ 0x1B ∷ 0x1C ∷ 0x1D ∷ 0x1E ∷ 0x1F ∷ 0x20 ∷ 0x21 ∷ 0x22 ∷ 0x23 ∷ 0x24 ∷ 0x25 ∷ 0x26 ∷ 0x27 ∷ 0x28 ∷ 0x29 ∷ 0x2A ∷ 0x2B ∷ 0x2C ∷ 0x2D ∷ 0x2E ∷ 0x2F ∷ 0x30 ∷ 0x31 ∷ 0x32 ∷ 0x33 ∷ 0x34 ∷ 0x35 ∷ 0x36 ∷ 0x37 ∷ 0x38 ∷ 0x39 ∷ 0x3A ∷ 0x3B ∷ 0x3C ∷ 0x3D ∷ 0x3E ∷ 0x3F ∷ 0x26 ∷ 0xF7 ∷ []) 6 ∷ finishing ∷ [])
    ((225 ∷ 128 ∷ 160 ∷ 195 ∷ 0 ∷ 1 ∷ 2 ∷ 3 ∷ 4 ∷ 5 ∷ 6 ∷ 7 ∷ 8 ∷ 9 ∷ 10 ∷ 11 ∷ 12 ∷ 13 ∷ 14 ∷ 15 ∷ 16 ∷ 17 ∷ 18 ∷ 19 ∷ 20 ∷ 21 ∷ 22 ∷ 23 ∷ 24 ∷ 25 ∷ 26 ∷ 27 ∷ 28 ∷ 29 ∷ 30 ∷ 31 ∷ 32 ∷ 33 ∷ 34 ∷ 35 ∷ 36 ∷ 37 ∷ 38 ∷ 39 ∷ 40 ∷ 41 ∷ 42 ∷ 43 ∷ 44 ∷ 45 ∷ 46 ∷ 47 ∷ 48 ∷ 49 ∷ 50 ∷ 51 ∷ 52 ∷ 53 ∷ 54 ∷ 55 ∷ 56 ∷ 57 ∷ 58 ∷ 59 ∷ 60 ∷ 61 ∷ 62 ∷ 63 ∷ 38 ∷ 247 ∷ 225 ∷ 128 ∷ 160 ∷ 195 ∷ 0 ∷ 1 ∷ 2 ∷ 3 ∷ 4 ∷ 5 ∷ 6 ∷ 7 ∷ 8 ∷ 9 ∷ 10 ∷ 11 ∷ 12 ∷ 13 ∷ 14 ∷ 15 ∷ 16 ∷ 17 ∷ 18 ∷ 19 ∷ 20 ∷ 21 ∷ 22 ∷ 23 ∷ 24 ∷ 25 ∷ 26 ∷ 27 ∷ 28 ∷ 29 ∷ 30 ∷ 31 ∷ 32 ∷ 33 ∷ 34 ∷ 35 ∷ 36 ∷ 37 ∷ 38 ∷ 39 ∷ 40 ∷ 41 ∷ 42 ∷ 43 ∷ 44 ∷ 45 ∷ 46 ∷ 47 ∷ 48 ∷ 49 ∷ 50 ∷ 51 ∷ 52 ∷ 53 ∷ 54 ∷ 55 ∷ 56 ∷ 57 ∷ 58 ∷ 59 ∷ 60 ∷ 61 ∷ 62 ∷ 222 ∷ 166 ∷ 225 ∷ 128 ∷ 160 ∷ 195 ∷ 0 ∷ 1 ∷ 2 ∷ 3 ∷ 4 ∷ 5 ∷ 6 ∷ 7 ∷ 8 ∷ 9 ∷ 10 ∷ 11 ∷ 12 ∷ 13 ∷ 14 ∷ 15 ∷ 16 ∷ 17 ∷ 18 ∷ 19 ∷ 20 ∷ 21 ∷ 22 ∷ 23 ∷ 24 ∷ 25 ∷ 26 ∷ 27 ∷ 28 ∷ 29 ∷ 30 ∷ 31 ∷ 32 ∷ 33 ∷ 34 ∷ 35 ∷ 36 ∷ 37 ∷ 38 ∷ 39 ∷ 40 ∷ 41 ∷ 42 ∷ 43 ∷ 44 ∷ 45 ∷ 46 ∷ 47 ∷ 48 ∷ 49 ∷ 50 ∷ 51 ∷ 52 ∷ 53 ∷ 54 ∷ 55 ∷ 56 ∷ 57 ∷ 58 ∷ 59 ∷ 60 ∷ 61 ∷ 62 ∷ 63 ∷ 38 ∷ 247 ∷ []) ∷ (0 ∷ []) ∷ (0 ∷ 16 ∷ 0 ∷ 0 ∷ 17 ∷ 0 ∷ 0 ∷ 18 ∷ 0 ∷ 0 ∷ 1 ∷ 0 ∷ []) ∷ (0 ∷ 1 ∷ 3 ∷ 2 ∷ 70 ∷ 3 ∷ 73 ∷ 4 ∷ 139 ∷ 5 ∷ 142 ∷ 6 ∷ []) ∷ ([]) ∷ (0 ∷ 0 ∷ 2 ∷ 0 ∷ 4 ∷ 0 ∷ []) ∷ (3 ∷ 0 ∷ 1 ∷ 0 ∷ 1 ∷ []) ∷ (0 ∷ 0 ∷ 0 ∷ 1 ∷ []) ∷ (0 ∷ []) ∷ (0 ∷ []) ∷ (0 ∷ 3 ∷ 0 ∷ 0 ∷ 1 ∷ 3 ∷ 0 ∷ 0 ∷ 2 ∷ 3 ∷ 0 ∷ 0 ∷ 0 ∷ 3 ∷ 1 ∷ 0 ∷ 2 ∷ 3 ∷ 1 ∷ 64 ∷ 0 ∷ 3 ∷ 2 ∷ 0 ∷ 2 ∷ 3 ∷ 2 ∷ 127 ∷ []) ∷ ([]) ∷ [])
unfolding step bits bytes crc5_of crc16_of after format_of format_ok format_reason reason_of checked_of transaction_status extract_payload details_of with_type with_detail fresh is_read is_set_configuration is_set_interface kind_by kind_of laid is_whole whole_in whole is_of first_of max_of value_of chunks applied count_set note_of with_max device_after count_after shelf_after row_after setup_group control_group begin_group repeat_group other_group group_status group_update group_early_start group_early_append transaction_update event_update handle_raw_packet handle_event handle_detail finish
run-isochronous-63 = refl

run-split-keepalive-packet :
    Leaves (packet (0x78 ∷ 0x01 ∷ 0x01 ∷ 0x44 ∷ []) 0 ∷ event 0 100 1 ∷ packet (0xD2 ∷ []) 2 ∷ packet (0x69 ∷ 0x80 ∷ 0xA0 ∷ []) 3 ∷ packet (0x5A ∷ []) 4 ∷ finishing ∷ [])
    ((120 ∷ 1 ∷ 1 ∷ 68 ∷ 210 ∷ 105 ∷ 128 ∷ 160 ∷ 90 ∷ []) ∷ (0 ∷ []) ∷ (0 ∷ 16 ∷ 0 ∷ 0 ∷ 17 ∷ 0 ∷ 0 ∷ 18 ∷ 0 ∷ 0 ∷ 1 ∷ 1 ∷ []) ∷ (0 ∷ 0 ∷ 4 ∷ 1 ∷ 4 ∷ 2 ∷ 5 ∷ 3 ∷ 8 ∷ 4 ∷ []) ∷ (1 ∷ 100 ∷ []) ∷ (0 ∷ 0 ∷ 1 ∷ 0 ∷ 3 ∷ 0 ∷ []) ∷ (0 ∷ 0 ∷ 1 ∷ 1 ∷ 1 ∷ 3 ∷ 0 ∷ 1 ∷ 3 ∷ 3 ∷ []) ∷ (1 ∷ 0 ∷ 0 ∷ 2 ∷ 0 ∷ 0 ∷ 1 ∷ []) ∷ (0 ∷ 3 ∷ []) ∷ (0 ∷ 1 ∷ []) ∷ (0 ∷ 0 ∷ 1 ∷ 0 ∷ 1 ∷ 0 ∷ 0 ∷ 0 ∷ 0 ∷ 3 ∷ 2 ∷ 0 ∷ 1 ∷ 3 ∷ 0 ∷ 0 ∷ []) ∷ ([]) ∷ [])
unfolding step bits bytes crc5_of crc16_of after format_of format_ok format_reason reason_of checked_of transaction_status extract_payload details_of with_type with_detail fresh is_read is_set_configuration is_set_interface kind_by kind_of laid is_whole whole_in whole is_of first_of max_of value_of chunks applied count_set note_of with_max device_after count_after shelf_after row_after setup_group control_group begin_group repeat_group other_group group_status group_update group_early_start group_early_append transaction_update event_update handle_raw_packet handle_event handle_detail finish
run-split-keepalive-packet = refl

run-two-keepalives :
    Leaves (packet (0x69 ∷ 0x80 ∷ 0xA0 ∷ []) 0 ∷ event 0 100 1 ∷ event 0 100 2 ∷ packet (0x5A ∷ []) 3 ∷ packet (0x69 ∷ 0x80 ∷ 0xA0 ∷ []) 4 ∷ packet (0x5A ∷ []) 5 ∷ finishing ∷ [])
    ((105 ∷ 128 ∷ 160 ∷ 90 ∷ 105 ∷ 128 ∷ 160 ∷ 90 ∷ []) ∷ (0 ∷ []) ∷ (0 ∷ 16 ∷ 0 ∷ 0 ∷ 17 ∷ 0 ∷ 0 ∷ 18 ∷ 0 ∷ 0 ∷ 1 ∷ 1 ∷ []) ∷ (0 ∷ 0 ∷ 3 ∷ 1 ∷ 3 ∷ 2 ∷ 3 ∷ 3 ∷ 4 ∷ 4 ∷ 7 ∷ 5 ∷ []) ∷ (1 ∷ 100 ∷ 2 ∷ 100 ∷ []) ∷ (0 ∷ 0 ∷ 1 ∷ 0 ∷ 3 ∷ 0 ∷ 4 ∷ 0 ∷ []) ∷ (3 ∷ 0 ∷ 1 ∷ 0 ∷ 0 ∷ 0 ∷ 0 ∷ 1 ∷ 1 ∷ 1 ∷ 1 ∷ 0 ∷ 1 ∷ 3 ∷ 3 ∷ 1 ∷ 0 ∷ 0 ∷ 3 ∷ 3 ∷ 3 ∷ 1 ∷ 1 ∷ 4 ∷ 4 ∷ []) ∷ (0 ∷ 0 ∷ 0 ∷ 1 ∷ 1 ∷ 0 ∷ 0 ∷ 3 ∷ 2 ∷ 1 ∷ 0 ∷ 0 ∷ 2 ∷ 3 ∷ 0 ∷ 0 ∷ 2 ∷ 0 ∷ 0 ∷ 1 ∷ []) ∷ (0 ∷ 4 ∷ 8 ∷ 12 ∷ 16 ∷ []) ∷ (0 ∷ 1 ∷ 2 ∷ 4 ∷ []) ∷ (0 ∷ 3 ∷ 0 ∷ 0 ∷ 1 ∷ 3 ∷ 0 ∷ 0 ∷ 0 ∷ 0 ∷ 1 ∷ 0 ∷ 1 ∷ 0 ∷ 0 ∷ 0 ∷ 0 ∷ 1 ∷ 2 ∷ 0 ∷ 1 ∷ 1 ∷ 0 ∷ 0 ∷ 0 ∷ 3 ∷ 3 ∷ 0 ∷ 1 ∷ 3 ∷ 1 ∷ 0 ∷ 3 ∷ 1 ∷ 3 ∷ 0 ∷ 3 ∷ 3 ∷ 3 ∷ 0 ∷ []) ∷ ([]) ∷ [])
unfolding step bits bytes crc5_of crc16_of after format_of format_ok format_reason reason_of checked_of transaction_status extract_payload details_of with_type with_detail fresh is_read is_set_configuration is_set_interface kind_by kind_of laid is_whole whole_in whole is_of first_of max_of value_of chunks applied count_set note_of with_max device_after count_after shelf_after row_after setup_group control_group begin_group repeat_group other_group group_status group_update group_early_start group_early_append transaction_update event_update handle_raw_packet handle_event handle_detail finish
run-two-keepalives = refl

run-longest-packet :
    Leaves (finishing ∷ [])
    (([]) ∷ (0 ∷ []) ∷ (0 ∷ 16 ∷ 0 ∷ 0 ∷ 17 ∷ 0 ∷ 0 ∷ 18 ∷ 0 ∷ []) ∷ ([]) ∷ ([]) ∷ ([]) ∷ ([]) ∷ ([]) ∷ ([]) ∷ ([]) ∷ ([]) ∷ ([]) ∷ [])
unfolding step bits bytes crc5_of crc16_of after format_of format_ok format_reason reason_of checked_of transaction_status extract_payload details_of with_type with_detail fresh is_read is_set_configuration is_set_interface kind_by kind_of laid is_whole whole_in whole is_of first_of max_of value_of chunks applied count_set note_of with_max device_after count_after shelf_after row_after setup_group control_group begin_group repeat_group other_group group_status group_update group_early_start group_early_append transaction_update event_update handle_raw_packet handle_event handle_detail finish
run-longest-packet = refl

run-refused-3 :
    Leaves (packet (0x69 ∷ 0x80 ∷ 0xA0 ∷ []) 0 ∷ packet (0x5A ∷ []) 1 ∷ finishing ∷ [])
    ((105 ∷ 128 ∷ 160 ∷ 90 ∷ []) ∷ (0 ∷ []) ∷ (0 ∷ 16 ∷ 0 ∷ 0 ∷ 17 ∷ 0 ∷ 0 ∷ 18 ∷ 0 ∷ 0 ∷ 1 ∷ 1 ∷ []) ∷ (0 ∷ 0 ∷ 3 ∷ 1 ∷ []) ∷ ([]) ∷ (0 ∷ 0 ∷ []) ∷ (3 ∷ 0 ∷ 1 ∷ 0 ∷ 0 ∷ []) ∷ (0 ∷ 0 ∷ 0 ∷ 1 ∷ []) ∷ (0 ∷ []) ∷ (0 ∷ []) ∷ (0 ∷ 3 ∷ 0 ∷ 0 ∷ 1 ∷ 3 ∷ 0 ∷ 0 ∷ []) ∷ ([]) ∷ [])
unfolding step bits bytes crc5_of crc16_of after format_of format_ok format_reason reason_of checked_of transaction_status extract_payload details_of with_type with_detail fresh is_read is_set_configuration is_set_interface kind_by kind_of laid is_whole whole_in whole is_of first_of max_of value_of chunks applied count_set note_of with_max device_after count_after shelf_after row_after setup_group control_group begin_group repeat_group other_group group_status group_update group_early_start group_early_append transaction_update event_update handle_raw_packet handle_event handle_detail finish
run-refused-3 = refl

run-malformed-reasons :
    Leaves (packet ([]) 0 ∷ packet (0xD3 ∷ []) 1 ∷ packet (0xF0 ∷ []) 2 ∷ packet (0xF0 ∷ 0x00 ∷ 0x10 ∷ []) 3 ∷ packet (0xD3 ∷ 0x00 ∷ []) 4 ∷ packet (0x2C ∷ 0x00 ∷ 0x11 ∷ []) 5 ∷ packet (0xD2 ∷ 0x00 ∷ []) 6 ∷ packet (0x2D ∷ 0x00 ∷ []) 7 ∷ packet (0x2D ∷ 0x00 ∷ 0x11 ∷ 0x00 ∷ []) 8 ∷ packet (0x78 ∷ 0x01 ∷ 0x01 ∷ []) 9 ∷ packet (0xC3 ∷ 0x00 ∷ []) 10 ∷ packet (0x2D ∷ 0x00 ∷ 0x11 ∷ []) 11 ∷ packet (0x78 ∷ 0x01 ∷ 0x01 ∷ 0x45 ∷ []) 12 ∷ packet (0x4B ∷ 0x00 ∷ 0x01 ∷ []) 13 ∷ packet (0xD2 ∷ []) 14 ∷ finishing ∷ [])
    ((211 ∷ 240 ∷ 240 ∷ 0 ∷ 16 ∷ 211 ∷ 0 ∷ 44 ∷ 0 ∷ 17 ∷ 210 ∷ 0 ∷ 45 ∷ 0 ∷ 45 ∷ 0 ∷ 17 ∷ 0 ∷ 120 ∷ 1 ∷ 1 ∷ 195 ∷ 0 ∷ 45 ∷ 0 ∷ 17 ∷ 120 ∷ 1 ∷ 1 ∷ 69 ∷ 75 ∷ 0 ∷ 1 ∷ 210 ∷ []) ∷ (0 ∷ []) ∷ (0 ∷ 16 ∷ 0 ∷ 0 ∷ 17 ∷ 0 ∷ 0 ∷ 18 ∷ 0 ∷ []) ∷ (0 ∷ 0 ∷ 0 ∷ 1 ∷ 1 ∷ 2 ∷ 2 ∷ 3 ∷ 5 ∷ 4 ∷ 7 ∷ 5 ∷ 10 ∷ 6 ∷ 12 ∷ 7 ∷ 14 ∷ 8 ∷ 18 ∷ 9 ∷ 21 ∷ 10 ∷ 23 ∷ 11 ∷ 26 ∷ 12 ∷ 30 ∷ 13 ∷ 33 ∷ 14 ∷ []) ∷ ([]) ∷ (0 ∷ 1 ∷ 1 ∷ 2 ∷ 2 ∷ 2 ∷ 3 ∷ 2 ∷ 4 ∷ 2 ∷ 5 ∷ 2 ∷ 6 ∷ 3 ∷ 7 ∷ 3 ∷ 8 ∷ 3 ∷ 9 ∷ 3 ∷ 10 ∷ 3 ∷ 11 ∷ 4 ∷ 12 ∷ 4 ∷ 13 ∷ 4 ∷ 14 ∷ 0 ∷ []) ∷ (1 ∷ 0 ∷ 1 ∷ 0 ∷ 0 ∷ 1 ∷ 0 ∷ 0 ∷ 0 ∷ 0 ∷ 1 ∷ 1 ∷ 1 ∷ 1 ∷ 1 ∷ 1 ∷ 1 ∷ 0 ∷ 1 ∷ 1 ∷ 1 ∷ 2 ∷ 1 ∷ 2 ∷ 2 ∷ 1 ∷ 2 ∷ 0 ∷ 2 ∷ 2 ∷ 1 ∷ 3 ∷ 1 ∷ 3 ∷ 3 ∷ 1 ∷ 3 ∷ 0 ∷ 3 ∷ 3 ∷ 1 ∷ 4 ∷ 1 ∷ 4 ∷ 4 ∷ 1 ∷ 4 ∷ 0 ∷ 4 ∷ 4 ∷ 1 ∷ 5 ∷ 1 ∷ 5 ∷ 5 ∷ 1 ∷ 5 ∷ 0 ∷ 5 ∷ 5 ∷ 1 ∷ 6 ∷ 1 ∷ 6 ∷ 6 ∷ 1 ∷ 6 ∷ 0 ∷ 6 ∷ 6 ∷ 1 ∷ 7 ∷ 1 ∷ 7 ∷ 7 ∷ 1 ∷ 7 ∷ 0 ∷ 7 ∷ 7 ∷ 1 ∷ 8 ∷ 1 ∷ 8 ∷ 8 ∷ 1 ∷ 8 ∷ 0 ∷ 8 ∷ 8 ∷ 1 ∷ 9 ∷ 1 ∷ 9 ∷ 9 ∷ 1 ∷ 9 ∷ 0 ∷ 9 ∷ 9 ∷ 1 ∷ 10 ∷ 1 ∷ 10 ∷ 10 ∷ 1 ∷ 10 ∷ 0 ∷ 10 ∷ 10 ∷ 1 ∷ 11 ∷ 1 ∷ 11 ∷ 11 ∷ 1 ∷ 11 ∷ 0 ∷ 11 ∷ 11 ∷ 1 ∷ 12 ∷ 1 ∷ 12 ∷ 12 ∷ 1 ∷ 12 ∷ 0 ∷ 12 ∷ 12 ∷ 1 ∷ 13 ∷ 1 ∷ 13 ∷ 13 ∷ 1 ∷ 13 ∷ 0 ∷ 13 ∷ 13 ∷ 1 ∷ 14 ∷ 1 ∷ 14 ∷ 14 ∷ 1 ∷ 14 ∷ 0 ∷ 14 ∷ 14 ∷ []) ∷ (0 ∷ 1 ∷ 0 ∷ 0 ∷ 3 ∷ 0 ∷ 0 ∷ 1 ∷ 0 ∷ 0 ∷ 3 ∷ 0 ∷ 0 ∷ 1 ∷ 0 ∷ 0 ∷ 3 ∷ 0 ∷ 0 ∷ 1 ∷ 0 ∷ 0 ∷ 3 ∷ 0 ∷ 0 ∷ 1 ∷ 0 ∷ 0 ∷ 3 ∷ 0 ∷ 0 ∷ 1 ∷ 0 ∷ 0 ∷ 3 ∷ 0 ∷ 0 ∷ 1 ∷ 0 ∷ 0 ∷ 3 ∷ 0 ∷ 0 ∷ 1 ∷ 0 ∷ 0 ∷ 3 ∷ 0 ∷ 0 ∷ 1 ∷ 0 ∷ 0 ∷ 3 ∷ 0 ∷ 0 ∷ 1 ∷ 0 ∷ 0 ∷ 3 ∷ 0 ∷ 0 ∷ 1 ∷ 0 ∷ 0 ∷ 3 ∷ 0 ∷ 0 ∷ 1 ∷ 0 ∷ 0 ∷ 3 ∷ 0 ∷ 0 ∷ 1 ∷ 0 ∷ 0 ∷ 3 ∷ 0 ∷ 0 ∷ 1 ∷ 0 ∷ 0 ∷ 3 ∷ 0 ∷ 0 ∷ 1 ∷ 0 ∷ 0 ∷ 3 ∷ 0 ∷ []) ∷ (0 ∷ 3 ∷ 6 ∷ 9 ∷ 12 ∷ 15 ∷ 18 ∷ 21 ∷ 24 ∷ 27 ∷ 30 ∷ 33 ∷ 36 ∷ 39 ∷ 42 ∷ 45 ∷ 48 ∷ 51 ∷ 54 ∷ 57 ∷ 60 ∷ 63 ∷ 66 ∷ 69 ∷ 72 ∷ 75 ∷ 78 ∷ 81 ∷ 84 ∷ 87 ∷ []) ∷ (0 ∷ 2 ∷ 4 ∷ 6 ∷ 8 ∷ 10 ∷ 12 ∷ 14 ∷ 16 ∷ 18 ∷ 20 ∷ 22 ∷ 24 ∷ 26 ∷ 28 ∷ []) ∷ (0 ∷ 1 ∷ 0 ∷ 0 ∷ 1 ∷ 1 ∷ 0 ∷ 0 ∷ 0 ∷ 1 ∷ 1 ∷ 0 ∷ 1 ∷ 1 ∷ 1 ∷ 0 ∷ 3 ∷ 1 ∷ 1 ∷ 0 ∷ 0 ∷ 1 ∷ 2 ∷ 0 ∷ 1 ∷ 1 ∷ 2 ∷ 0 ∷ 3 ∷ 1 ∷ 2 ∷ 0 ∷ 0 ∷ 1 ∷ 3 ∷ 0 ∷ 1 ∷ 1 ∷ 3 ∷ 0 ∷ 3 ∷ 1 ∷ 3 ∷ 0 ∷ 0 ∷ 1 ∷ 4 ∷ 0 ∷ 1 ∷ 1 ∷ 4 ∷ 0 ∷ 3 ∷ 1 ∷ 4 ∷ 0 ∷ 0 ∷ 1 ∷ 5 ∷ 0 ∷ 1 ∷ 1 ∷ 5 ∷ 0 ∷ 3 ∷ 1 ∷ 5 ∷ 0 ∷ 0 ∷ 1 ∷ 6 ∷ 0 ∷ 1 ∷ 1 ∷ 6 ∷ 0 ∷ 3 ∷ 1 ∷ 6 ∷ 0 ∷ 0 ∷ 1 ∷ 7 ∷ 0 ∷ 1 ∷ 1 ∷ 7 ∷ 0 ∷ 3 ∷ 1 ∷ 7 ∷ 0 ∷ 0 ∷ 1 ∷ 8 ∷ 0 ∷ 1 ∷ 1 ∷ 8 ∷ 0 ∷ 3 ∷ 1 ∷ 8 ∷ 0 ∷ 0 ∷ 1 ∷ 9 ∷ 0 ∷ 1 ∷ 1 ∷ 9 ∷ 0 ∷ 3 ∷ 1 ∷ 9 ∷ 0 ∷ 0 ∷ 1 ∷ 10 ∷ 0 ∷ 1 ∷ 1 ∷ 10 ∷ 0 ∷ 3 ∷ 1 ∷ 10 ∷ 0 ∷ 0 ∷ 1 ∷ 11 ∷ 0 ∷ 1 ∷ 1 ∷ 11 ∷ 0 ∷ 3 ∷ 1 ∷ 11 ∷ 0 ∷ 0 ∷ 1 ∷ 12 ∷ 0 ∷ 1 ∷ 1 ∷ 12 ∷ 0 ∷ 3 ∷ 1 ∷ 12 ∷ 0 ∷ 0 ∷ 1 ∷ 13 ∷ 0 ∷ 1 ∷ 1 ∷ 13 ∷ 0 ∷ 3 ∷ 1 ∷ 13 ∷ 0 ∷ 0 ∷ 1 ∷ 14 ∷ 0 ∷ 1 ∷ 1 ∷ 14 ∷ 0 ∷ 3 ∷ 1 ∷ 14 ∷ 0 ∷ []) ∷ ([]) ∷ [])
unfolding step bits bytes crc5_of crc16_of after format_of format_ok format_reason reason_of checked_of transaction_status extract_payload details_of with_type with_detail fresh is_read is_set_configuration is_set_interface kind_by kind_of laid is_whole whole_in whole is_of first_of max_of value_of chunks applied count_set note_of with_max device_after count_after shelf_after row_after setup_group control_group begin_group repeat_group other_group group_status group_update group_early_start group_early_append transaction_update event_update handle_raw_packet handle_event handle_detail finish
run-malformed-reasons = refl

run-malformed-resumes :
    Leaves (packet (0x69 ∷ 0x80 ∷ 0xA0 ∷ []) 0 ∷ event 0 100 1 ∷ packet ([]) 2 ∷ packet (0x69 ∷ 0x80 ∷ 0xA0 ∷ []) 3 ∷ event 0 100 4 ∷ packet (0xD3 ∷ []) 5 ∷ packet (0x69 ∷ 0x80 ∷ 0xA0 ∷ []) 6 ∷ event 0 100 7 ∷ packet (0xD2 ∷ 0x00 ∷ []) 8 ∷ packet (0x69 ∷ 0x80 ∷ 0xA0 ∷ []) 9 ∷ event 0 100 10 ∷ packet (0x2D ∷ 0x00 ∷ 0x11 ∷ []) 11 ∷ packet (0x69 ∷ 0x80 ∷ 0xA0 ∷ []) 12 ∷ event 0 100 13 ∷ packet (0x5A ∷ []) 14 ∷ packet (0x69 ∷ 0x80 ∷ 0xA0 ∷ []) 15 ∷ event 0 100 16 ∷ event 7 107 17 ∷ packet (0xD3 ∷ []) 18 ∷ finishing ∷ [])
    ((105 ∷ 128 ∷ 160 ∷ 105 ∷ 128 ∷ 160 ∷ 211 ∷ 105 ∷ 128 ∷ 160 ∷ 210 ∷ 0 ∷ 105 ∷ 128 ∷ 160 ∷ 45 ∷ 0 ∷ 17 ∷ 105 ∷ 128 ∷ 160 ∷ 90 ∷ 105 ∷ 128 ∷ 160 ∷ 211 ∷ []) ∷ (0 ∷ []) ∷ (0 ∷ 16 ∷ 0 ∷ 0 ∷ 17 ∷ 0 ∷ 0 ∷ 18 ∷ 0 ∷ 0 ∷ 1 ∷ 1 ∷ []) ∷ (0 ∷ 0 ∷ 3 ∷ 1 ∷ 3 ∷ 2 ∷ 3 ∷ 3 ∷ 6 ∷ 4 ∷ 6 ∷ 5 ∷ 7 ∷ 6 ∷ 10 ∷ 7 ∷ 10 ∷ 8 ∷ 12 ∷ 9 ∷ 15 ∷ 10 ∷ 15 ∷ 11 ∷ 18 ∷ 12 ∷ 21 ∷ 13 ∷ 21 ∷ 14 ∷ 22 ∷ 15 ∷ 25 ∷ 16 ∷ 25 ∷ 17 ∷ 25 ∷ 18 ∷ []) ∷ (1 ∷ 100 ∷ 4 ∷ 100 ∷ 7 ∷ 100 ∷ 10 ∷ 100 ∷ 13 ∷ 100 ∷ 16 ∷ 100 ∷ 17 ∷ 107 ∷ []) ∷ (0 ∷ 0 ∷ 1 ∷ 0 ∷ 2 ∷ 1 ∷ 2 ∷ 1 ∷ 3 ∷ 0 ∷ 4 ∷ 0 ∷ 5 ∷ 2 ∷ 5 ∷ 2 ∷ 6 ∷ 0 ∷ 7 ∷ 0 ∷ 8 ∷ 3 ∷ 8 ∷ 3 ∷ 9 ∷ 0 ∷ 10 ∷ 0 ∷ 11 ∷ 4 ∷ 11 ∷ 4 ∷ 12 ∷ 0 ∷ 13 ∷ 0 ∷ 14 ∷ 0 ∷ 15 ∷ 0 ∷ 16 ∷ 0 ∷ 17 ∷ 0 ∷ 18 ∷ 2 ∷ 18 ∷ 2 ∷ []) ∷ (3 ∷ 0 ∷ 1 ∷ 0 ∷ 0 ∷ 0 ∷ 0 ∷ 1 ∷ 1 ∷ 1 ∷ 1 ∷ 0 ∷ 1 ∷ 2 ∷ 2 ∷ 1 ∷ 0 ∷ 0 ∷ 2 ∷ 2 ∷ 3 ∷ 1 ∷ 1 ∷ 3 ∷ 3 ∷ 1 ∷ 1 ∷ 1 ∷ 5 ∷ 5 ∷ 1 ∷ 1 ∷ 0 ∷ 5 ∷ 5 ∷ 3 ∷ 2 ∷ 1 ∷ 6 ∷ 6 ∷ 1 ∷ 2 ∷ 1 ∷ 8 ∷ 8 ∷ 1 ∷ 2 ∷ 0 ∷ 8 ∷ 8 ∷ 3 ∷ 3 ∷ 1 ∷ 9 ∷ 9 ∷ 1 ∷ 3 ∷ 1 ∷ 11 ∷ 11 ∷ 1 ∷ 3 ∷ 0 ∷ 11 ∷ 11 ∷ 3 ∷ 4 ∷ 1 ∷ 12 ∷ 12 ∷ 0 ∷ 1 ∷ 0 ∷ 17 ∷ 17 ∷ 1 ∷ 4 ∷ 1 ∷ 18 ∷ 18 ∷ 1 ∷ 4 ∷ 0 ∷ 18 ∷ 18 ∷ []) ∷ (0 ∷ 0 ∷ 0 ∷ 1 ∷ 1 ∷ 0 ∷ 0 ∷ 3 ∷ 2 ∷ 1 ∷ 0 ∷ 0 ∷ 2 ∷ 3 ∷ 0 ∷ 0 ∷ 2 ∷ 0 ∷ 0 ∷ 1 ∷ 2 ∷ 1 ∷ 0 ∷ 2 ∷ 2 ∷ 3 ∷ 0 ∷ 2 ∷ 2 ∷ 0 ∷ 0 ∷ 1 ∷ 2 ∷ 1 ∷ 0 ∷ 2 ∷ 2 ∷ 3 ∷ 0 ∷ 2 ∷ 2 ∷ 0 ∷ 0 ∷ 1 ∷ 2 ∷ 1 ∷ 0 ∷ 2 ∷ 2 ∷ 3 ∷ 0 ∷ 2 ∷ 2 ∷ 0 ∷ 0 ∷ 1 ∷ 3 ∷ 0 ∷ 0 ∷ 3 ∷ 0 ∷ 1 ∷ 0 ∷ 0 ∷ 0 ∷ 3 ∷ 0 ∷ 0 ∷ []) ∷ (0 ∷ 4 ∷ 8 ∷ 12 ∷ 16 ∷ 20 ∷ 24 ∷ 28 ∷ 32 ∷ 36 ∷ 40 ∷ 44 ∷ 48 ∷ 52 ∷ 56 ∷ 60 ∷ 64 ∷ []) ∷ (0 ∷ 1 ∷ 2 ∷ 4 ∷ 5 ∷ 7 ∷ 8 ∷ 10 ∷ 11 ∷ 13 ∷ 14 ∷ 15 ∷ []) ∷ (0 ∷ 3 ∷ 0 ∷ 0 ∷ 1 ∷ 3 ∷ 0 ∷ 0 ∷ 0 ∷ 0 ∷ 1 ∷ 0 ∷ 1 ∷ 0 ∷ 0 ∷ 0 ∷ 0 ∷ 3 ∷ 2 ∷ 0 ∷ 0 ∷ 1 ∷ 3 ∷ 0 ∷ 1 ∷ 1 ∷ 0 ∷ 0 ∷ 0 ∷ 3 ∷ 4 ∷ 0 ∷ 1 ∷ 3 ∷ 2 ∷ 0 ∷ 3 ∷ 1 ∷ 3 ∷ 0 ∷ 3 ∷ 3 ∷ 3 ∷ 0 ∷ 0 ∷ 0 ∷ 5 ∷ 0 ∷ 0 ∷ 3 ∷ 6 ∷ 0 ∷ 0 ∷ 1 ∷ 7 ∷ 0 ∷ 1 ∷ 1 ∷ 1 ∷ 0 ∷ 0 ∷ 3 ∷ 8 ∷ 0 ∷ 1 ∷ 3 ∷ 4 ∷ 0 ∷ 3 ∷ 1 ∷ 5 ∷ 0 ∷ 3 ∷ 3 ∷ 5 ∷ 0 ∷ 0 ∷ 0 ∷ 9 ∷ 0 ∷ 0 ∷ 3 ∷ 10 ∷ 0 ∷ 0 ∷ 1 ∷ 11 ∷ 0 ∷ 1 ∷ 1 ∷ 2 ∷ 0 ∷ 0 ∷ 3 ∷ 12 ∷ 0 ∷ 1 ∷ 3 ∷ 6 ∷ 0 ∷ 3 ∷ 1 ∷ 7 ∷ 0 ∷ 3 ∷ 3 ∷ 7 ∷ 0 ∷ 0 ∷ 0 ∷ 13 ∷ 0 ∷ 0 ∷ 3 ∷ 14 ∷ 0 ∷ 0 ∷ 1 ∷ 15 ∷ 0 ∷ 1 ∷ 1 ∷ 3 ∷ 0 ∷ 0 ∷ 3 ∷ 16 ∷ 0 ∷ 1 ∷ 3 ∷ 8 ∷ 0 ∷ 3 ∷ 1 ∷ 9 ∷ 0 ∷ 3 ∷ 3 ∷ 9 ∷ 0 ∷ 0 ∷ 0 ∷ 17 ∷ 0 ∷ 0 ∷ 3 ∷ 18 ∷ 0 ∷ 0 ∷ 0 ∷ 20 ∷ 0 ∷ 0 ∷ 0 ∷ 21 ∷ 0 ∷ 1 ∷ 0 ∷ 6 ∷ 0 ∷ 3 ∷ 3 ∷ 10 ∷ 0 ∷ 0 ∷ 3 ∷ 22 ∷ 0 ∷ 0 ∷ 1 ∷ 23 ∷ 0 ∷ 1 ∷ 1 ∷ 4 ∷ 0 ∷ []) ∷ ([]) ∷ [])
unfolding step bits bytes crc5_of crc16_of after format_of format_ok format_reason reason_of checked_of transaction_status extract_payload details_of with_type with_detail fresh is_read is_set_configuration is_set_interface kind_by kind_of laid is_whole whole_in whole is_of first_of max_of value_of chunks applied count_set note_of with_max device_after count_after shelf_after row_after setup_group control_group begin_group repeat_group other_group group_status group_update group_early_start group_early_append transaction_update event_update handle_raw_packet handle_event handle_detail finish
run-malformed-resumes = refl

run-finish-open :
    Leaves (detail 0 1 0 2 8 ∷ event 7 107 1 ∷ packet (0xE1 ∷ 0x80 ∷ 0xA0 ∷ []) 2 ∷ packet (0xC3 ∷ 0x00 ∷ 0x01 ∷ 0x02 ∷ 0x03 ∷ 0x04 ∷ 0x05 ∷ 0x06 ∷ 0x07 ∷ 0xB9 ∷ 0x85 ∷ []) 3 ∷ packet (0xD2 ∷ []) 4 ∷ packet (0x2D ∷ 0x00 ∷ 0x10 ∷ []) 5 ∷ packet (0xC3 ∷ 0x80 ∷ 0x06 ∷ 0x00 ∷ 0x01 ∷ 0x00 ∷ 0x00 ∷ 0x12 ∷ 0x00 ∷ 0xE0 ∷ 0xF4 ∷ []) 6 ∷ packet (0xD2 ∷ []) 7 ∷ packet (0xE1 ∷ 0x00 ∷ 0x10 ∷ []) 8 ∷ packet (0x4B ∷ 0x00 ∷ 0x01 ∷ 0x02 ∷ 0x03 ∷ 0x04 ∷ 0x05 ∷ 0x06 ∷ 0x07 ∷ 0xB9 ∷ 0x85 ∷ []) 9 ∷ finishing ∷ [])
    ((225 ∷ 128 ∷ 160 ∷ 195 ∷ 0 ∷ 1 ∷ 2 ∷ 3 ∷ 4 ∷ 5 ∷ 6 ∷ 7 ∷ 185 ∷ 133 ∷ 210 ∷ 45 ∷ 0 ∷ 16 ∷ 195 ∷ 128 ∷ 6 ∷ 0 ∷ 1 ∷ 0 ∷ 0 ∷ 18 ∷ 0 ∷ 224 ∷ 244 ∷ 210 ∷ 225 ∷ 0 ∷ 16 ∷ 75 ∷ 0 ∷ 1 ∷ 2 ∷ 3 ∷ 4 ∷ 5 ∷ 6 ∷ 7 ∷ 185 ∷ 133 ∷ []) ∷ (0 ∷ []) ∷ (0 ∷ 16 ∷ 0 ∷ 0 ∷ 17 ∷ 0 ∷ 0 ∷ 18 ∷ 0 ∷ 0 ∷ 1 ∷ 0 ∷ 0 ∷ 0 ∷ 0 ∷ []) ∷ (0 ∷ 1 ∷ 0 ∷ 2 ∷ 3 ∷ 3 ∷ 14 ∷ 4 ∷ 15 ∷ 5 ∷ 18 ∷ 6 ∷ 29 ∷ 7 ∷ 30 ∷ 8 ∷ 33 ∷ 9 ∷ []) ∷ (0 ∷ 107 ∷ []) ∷ (0 ∷ 0 ∷ 1 ∷ 0 ∷ 4 ∷ 0 ∷ 7 ∷ 0 ∷ []) ∷ (0 ∷ 0 ∷ 0 ∷ 0 ∷ 1 ∷ 3 ∷ 0 ∷ 1 ∷ 1 ∷ 2 ∷ 4 ∷ 0 ∷ 1 ∷ 4 ∷ 5 ∷ 4 ∷ 0 ∷ 0 ∷ 8 ∷ 9 ∷ 4 ∷ 1 ∷ 1 ∷ 8 ∷ 9 ∷ 4 ∷ 1 ∷ 0 ∷ 8 ∷ 9 ∷ []) ∷ (3 ∷ 0 ∷ 0 ∷ 0 ∷ 0 ∷ 0 ∷ 1 ∷ 0 ∷ 0 ∷ 0 ∷ 2 ∷ 1 ∷ 0 ∷ 0 ∷ 0 ∷ 2 ∷ 3 ∷ 0 ∷ 0 ∷ 0 ∷ 2 ∷ 1 ∷ 0 ∷ 0 ∷ 0 ∷ 2 ∷ 3 ∷ []) ∷ (0 ∷ 3 ∷ 7 ∷ 12 ∷ 17 ∷ 22 ∷ []) ∷ (0 ∷ 1 ∷ 2 ∷ 4 ∷ []) ∷ (0 ∷ 0 ∷ 0 ∷ 0 ∷ 1 ∷ 0 ∷ 0 ∷ 0 ∷ 0 ∷ 3 ∷ 1 ∷ 0 ∷ 1 ∷ 3 ∷ 0 ∷ 0 ∷ 2 ∷ 3 ∷ 0 ∷ 0 ∷ 0 ∷ 4 ∷ 2 ∷ 0 ∷ 1 ∷ 4 ∷ 0 ∷ 0 ∷ 0 ∷ 4 ∷ 3 ∷ 0 ∷ 1 ∷ 4 ∷ 1 ∷ 0 ∷ 3 ∷ 4 ∷ 3 ∷ 0 ∷ []) ∷ ([]) ∷ [])
unfolding step bits bytes crc5_of crc16_of after format_of format_ok format_reason reason_of checked_of transaction_status extract_payload details_of with_type with_detail fresh is_read is_set_configuration is_set_interface kind_by kind_of laid is_whole whole_in whole is_of first_of max_of value_of chunks applied count_set note_of with_max device_after count_after shelf_after row_after setup_group control_group begin_group repeat_group other_group group_status group_update group_early_start group_early_append transaction_update event_update handle_raw_packet handle_event handle_detail finish
run-finish-open = refl

run-event-ends-groups :
    Leaves (detail 0 1 0 2 8 ∷ event 7 107 1 ∷ packet (0xE1 ∷ 0x80 ∷ 0xA0 ∷ []) 2 ∷ packet (0xC3 ∷ 0x00 ∷ 0x01 ∷ 0x02 ∷ 0x03 ∷ 0x04 ∷ 0x05 ∷ 0x06 ∷ 0x07 ∷ 0xB9 ∷ 0x85 ∷ []) 3 ∷ packet (0xD2 ∷ []) 4 ∷ packet (0x2D ∷ 0x00 ∷ 0x10 ∷ []) 5 ∷ packet (0xC3 ∷ 0x80 ∷ 0x06 ∷ 0x00 ∷ 0x01 ∷ 0x00 ∷ 0x00 ∷ 0x12 ∷ 0x00 ∷ 0xE0 ∷ 0xF4 ∷ []) 6 ∷ packet (0xD2 ∷ []) 7 ∷ packet (0xE1 ∷ 0x00 ∷ 0x10 ∷ []) 8 ∷ packet (0x4B ∷ 0x00 ∷ 0x01 ∷ 0x02 ∷ 0x03 ∷ 0x04 ∷ 0x05 ∷ 0x06 ∷ 0x07 ∷ 0xB9 ∷ 0x85 ∷ []) 9 ∷ event 1 101 10 ∷ packet (0xE1 ∷ 0x80 ∷ 0xA0 ∷ []) 11 ∷ packet (0xC3 ∷ 0x00 ∷ 0x01 ∷ 0x02 ∷ 0x03 ∷ 0x04 ∷ 0x05 ∷ 0x06 ∷ 0x07 ∷ 0xB9 ∷ 0x85 ∷ []) 12 ∷ packet (0xD2 ∷ []) 13 ∷ finishing ∷ [])
    ((225 ∷ 128 ∷ 160 ∷ 195 ∷ 0 ∷ 1 ∷ 2 ∷ 3 ∷ 4 ∷ 5 ∷ 6 ∷ 7 ∷ 185 ∷ 133 ∷ 210 ∷ 45 ∷ 0 ∷ 16 ∷ 195 ∷ 128 ∷ 6 ∷ 0 ∷ 1 ∷ 0 ∷ 0 ∷ 18 ∷ 0 ∷ 224 ∷ 244 ∷ 210 ∷ 225 ∷ 0 ∷ 16 ∷ 75 ∷ 0 ∷ 1 ∷ 2 ∷ 3 ∷ 4 ∷ 5 ∷ 6 ∷ 7 ∷ 185 ∷ 133 ∷ 225 ∷ 128 ∷ 160 ∷ 195 ∷ 0 ∷ 1 ∷ 2 ∷ 3 ∷ 4 ∷ 5 ∷ 6 ∷ 7 ∷ 185 ∷ 133 ∷ 210 ∷ []) ∷ (0 ∷ []) ∷ (0 ∷ 16 ∷ 0 ∷ 0 ∷ 17 ∷ 0 ∷ 0 ∷ 18 ∷ 0 ∷ 0 ∷ 1 ∷ 0 ∷ 0 ∷ 0 ∷ 0 ∷ []) ∷ (0 ∷ 1 ∷ 0 ∷ 2 ∷ 3 ∷ 3 ∷ 14 ∷ 4 ∷ 15 ∷ 5 ∷ 18 ∷ 6 ∷ 29 ∷ 7 ∷ 30 ∷ 8 ∷ 33 ∷ 9 ∷ 44 ∷ 10 ∷ 44 ∷ 11 ∷ 47 ∷ 12 ∷ 58 ∷ 13 ∷ []) ∷ (0 ∷ 107 ∷ 9 ∷ 101 ∷ []) ∷ (0 ∷ 0 ∷ 1 ∷ 0 ∷ 4 ∷ 0 ∷ 7 ∷ 0 ∷ 9 ∷ 0 ∷ 10 ∷ 0 ∷ []) ∷ (0 ∷ 0 ∷ 0 ∷ 0 ∷ 1 ∷ 3 ∷ 0 ∷ 1 ∷ 1 ∷ 2 ∷ 4 ∷ 0 ∷ 1 ∷ 4 ∷ 5 ∷ 4 ∷ 0 ∷ 0 ∷ 9 ∷ 10 ∷ 4 ∷ 1 ∷ 1 ∷ 9 ∷ 10 ∷ 4 ∷ 1 ∷ 0 ∷ 9 ∷ 10 ∷ 0 ∷ 1 ∷ 0 ∷ 9 ∷ 10 ∷ 3 ∷ 1 ∷ 1 ∷ 10 ∷ 11 ∷ []) ∷ (3 ∷ 0 ∷ 0 ∷ 0 ∷ 0 ∷ 0 ∷ 1 ∷ 0 ∷ 0 ∷ 0 ∷ 2 ∷ 1 ∷ 0 ∷ 0 ∷ 0 ∷ 2 ∷ 3 ∷ 0 ∷ 0 ∷ 0 ∷ 2 ∷ 1 ∷ 0 ∷ 0 ∷ 0 ∷ 2 ∷ 3 ∷ 3 ∷ 0 ∷ 0 ∷ 3 ∷ 0 ∷ 0 ∷ 0 ∷ 0 ∷ 1 ∷ 0 ∷ []) ∷ (0 ∷ 3 ∷ 7 ∷ 12 ∷ 17 ∷ 22 ∷ 27 ∷ 32 ∷ []) ∷ (0 ∷ 1 ∷ 2 ∷ 4 ∷ 6 ∷ 7 ∷ []) ∷ (0 ∷ 0 ∷ 0 ∷ 0 ∷ 1 ∷ 0 ∷ 0 ∷ 0 ∷ 0 ∷ 3 ∷ 1 ∷ 0 ∷ 1 ∷ 3 ∷ 0 ∷ 0 ∷ 2 ∷ 3 ∷ 0 ∷ 0 ∷ 0 ∷ 4 ∷ 2 ∷ 0 ∷ 1 ∷ 4 ∷ 0 ∷ 0 ∷ 0 ∷ 4 ∷ 3 ∷ 0 ∷ 1 ∷ 4 ∷ 1 ∷ 0 ∷ 3 ∷ 4 ∷ 3 ∷ 0 ∷ 0 ∷ 0 ∷ 4 ∷ 0 ∷ 1 ∷ 0 ∷ 1 ∷ 0 ∷ 3 ∷ 3 ∷ 4 ∷ 0 ∷ 3 ∷ 4 ∷ 4 ∷ 0 ∷ 0 ∷ 3 ∷ 5 ∷ 0 ∷ 1 ∷ 3 ∷ 1 ∷ 0 ∷ 2 ∷ 3 ∷ 1 ∷ 8 ∷ []) ∷ ([]) ∷ [])
unfolding step bits bytes crc5_of crc16_of after format_of format_ok format_reason reason_of checked_of transaction_status extract_payload details_of with_type with_detail fresh is_read is_set_configuration is_set_interface kind_by kind_of laid is_whole whole_in whole is_of first_of max_of value_of chunks applied count_set note_of with_max device_after count_after shelf_after row_after setup_group control_group begin_group repeat_group other_group group_status group_update group_early_start group_early_append transaction_update event_update handle_raw_packet handle_event handle_detail finish
run-event-ends-groups = refl

run-finish-event :
    Leaves (packet (0x2D ∷ 0x00 ∷ 0x10 ∷ []) 0 ∷ packet (0xC3 ∷ 0x80 ∷ 0x06 ∷ 0x00 ∷ 0x01 ∷ 0x00 ∷ 0x00 ∷ 0x12 ∷ 0x00 ∷ 0xE0 ∷ 0xF4 ∷ []) 1 ∷ packet (0xD2 ∷ []) 2 ∷ packet (0xE1 ∷ 0x00 ∷ 0x10 ∷ []) 3 ∷ packet (0x4B ∷ 0x00 ∷ 0x01 ∷ 0x02 ∷ 0x03 ∷ 0x04 ∷ 0x05 ∷ 0x06 ∷ 0x07 ∷ 0xB9 ∷ 0x85 ∷ []) 4 ∷ event 7 107 5 ∷ finishing ∷ [])
    ((45 ∷ 0 ∷ 16 ∷ 195 ∷ 128 ∷ 6 ∷ 0 ∷ 1 ∷ 0 ∷ 0 ∷ 18 ∷ 0 ∷ 224 ∷ 244 ∷ 210 ∷ 225 ∷ 0 ∷ 16 ∷ 75 ∷ 0 ∷ 1 ∷ 2 ∷ 3 ∷ 4 ∷ 5 ∷ 6 ∷ 7 ∷ 185 ∷ 133 ∷ []) ∷ (0 ∷ []) ∷ (0 ∷ 16 ∷ 0 ∷ 0 ∷ 17 ∷ 0 ∷ 0 ∷ 18 ∷ 0 ∷ 0 ∷ 0 ∷ 0 ∷ []) ∷ (0 ∷ 0 ∷ 3 ∷ 1 ∷ 14 ∷ 2 ∷ 15 ∷ 3 ∷ 18 ∷ 4 ∷ 29 ∷ 5 ∷ []) ∷ (5 ∷ 107 ∷ []) ∷ (0 ∷ 0 ∷ 3 ∷ 0 ∷ 5 ∷ 0 ∷ []) ∷ (3 ∷ 0 ∷ 1 ∷ 0 ∷ 0 ∷ 3 ∷ 0 ∷ 0 ∷ 5 ∷ 5 ∷ 3 ∷ 1 ∷ 1 ∷ 5 ∷ 5 ∷ 3 ∷ 1 ∷ 0 ∷ 5 ∷ 5 ∷ 0 ∷ 0 ∷ 0 ∷ 5 ∷ 5 ∷ []) ∷ (0 ∷ 0 ∷ 0 ∷ 1 ∷ 0 ∷ 0 ∷ 0 ∷ 3 ∷ 0 ∷ 0 ∷ 0 ∷ 1 ∷ 0 ∷ 0 ∷ 0 ∷ 3 ∷ 3 ∷ 0 ∷ 0 ∷ 0 ∷ []) ∷ (0 ∷ 4 ∷ 8 ∷ 12 ∷ 16 ∷ []) ∷ (0 ∷ 2 ∷ 4 ∷ []) ∷ (0 ∷ 3 ∷ 0 ∷ 0 ∷ 1 ∷ 3 ∷ 0 ∷ 0 ∷ 0 ∷ 3 ∷ 1 ∷ 0 ∷ 1 ∷ 3 ∷ 1 ∷ 0 ∷ 3 ∷ 3 ∷ 1 ∷ 0 ∷ 0 ∷ 0 ∷ 2 ∷ 0 ∷ 1 ∷ 0 ∷ 0 ∷ 0 ∷ 3 ∷ 3 ∷ 2 ∷ 0 ∷ []) ∷ ([]) ∷ [])
unfolding step bits bytes crc5_of crc16_of after format_of format_ok format_reason reason_of checked_of transaction_status extract_payload details_of with_type with_detail fresh is_read is_set_configuration is_set_interface kind_by kind_of laid is_whole whole_in whole is_of first_of max_of value_of chunks applied count_set note_of with_max device_after count_after shelf_after row_after setup_group control_group begin_group repeat_group other_group group_status group_update group_early_start group_early_append transaction_update event_update handle_raw_packet handle_event handle_detail finish
run-finish-event = refl

run-finish-keepalive :
    Leaves (packet (0x2D ∷ 0x00 ∷ 0x10 ∷ []) 0 ∷ packet (0xC3 ∷ 0x80 ∷ 0x06 ∷ 0x00 ∷ 0x01 ∷ 0x00 ∷ 0x00 ∷ 0x12 ∷ 0x00 ∷ 0xE0 ∷ 0xF4 ∷ []) 1 ∷ packet (0xD2 ∷ []) 2 ∷ packet (0xE1 ∷ 0x00 ∷ 0x10 ∷ []) 3 ∷ packet (0x4B ∷ 0x00 ∷ 0x01 ∷ 0x02 ∷ 0x03 ∷ 0x04 ∷ 0x05 ∷ 0x06 ∷ 0x07 ∷ 0xB9 ∷ 0x85 ∷ []) 4 ∷ event 0 100 5 ∷ finishing ∷ [])
    ((45 ∷ 0 ∷ 16 ∷ 195 ∷ 128 ∷ 6 ∷ 0 ∷ 1 ∷ 0 ∷ 0 ∷ 18 ∷ 0 ∷ 224 ∷ 244 ∷ 210 ∷ 225 ∷ 0 ∷ 16 ∷ 75 ∷ 0 ∷ 1 ∷ 2 ∷ 3 ∷ 4 ∷ 5 ∷ 6 ∷ 7 ∷ 185 ∷ 133 ∷ []) ∷ (0 ∷ []) ∷ (0 ∷ 16 ∷ 0 ∷ 0 ∷ 17 ∷ 0 ∷ 0 ∷ 18 ∷ 0 ∷ 0 ∷ 0 ∷ 0 ∷ []) ∷ (0 ∷ 0 ∷ 3 ∷ 1 ∷ 14 ∷ 2 ∷ 15 ∷ 3 ∷ 18 ∷ 4 ∷ 29 ∷ 5 ∷ []) ∷ (5 ∷ 100 ∷ []) ∷ (0 ∷ 0 ∷ 3 ∷ 0 ∷ 5 ∷ 0 ∷ []) ∷ (3 ∷ 0 ∷ 1 ∷ 0 ∷ 0 ∷ 0 ∷ 0 ∷ 1 ∷ 5 ∷ 5 ∷ []) ∷ (0 ∷ 0 ∷ 0 ∷ 1 ∷ 1 ∷ 0 ∷ 0 ∷ 3 ∷ []) ∷ (0 ∷ 4 ∷ []) ∷ (0 ∷ 1 ∷ []) ∷ (0 ∷ 3 ∷ 0 ∷ 0 ∷ 1 ∷ 3 ∷ 0 ∷ 0 ∷ 0 ∷ 3 ∷ 1 ∷ 0 ∷ 0 ∷ 0 ∷ 2 ∷ 0 ∷ 1 ∷ 0 ∷ 0 ∷ 0 ∷ []) ∷ ([]) ∷ [])
unfolding step bits bytes crc5_of crc16_of after format_of format_ok format_reason reason_of checked_of transaction_status extract_payload details_of with_type with_detail fresh is_read is_set_configuration is_set_interface kind_by kind_of laid is_whole whole_in whole is_of first_of max_of value_of chunks applied count_set note_of with_max device_after count_after shelf_after row_after setup_group control_group begin_group repeat_group other_group group_status group_update group_early_start group_early_append transaction_update event_update handle_raw_packet handle_event handle_detail finish
run-finish-keepalive = refl

run-finish-nothing :
    Leaves (detail 0 1 0 2 8 ∷ finishing ∷ [])
    (([]) ∷ (0 ∷ []) ∷ (0 ∷ 16 ∷ 0 ∷ 0 ∷ 17 ∷ 0 ∷ 0 ∷ 18 ∷ 0 ∷ []) ∷ ([]) ∷ ([]) ∷ ([]) ∷ ([]) ∷ ([]) ∷ ([]) ∷ ([]) ∷ ([]) ∷ ([]) ∷ [])
unfolding step bits bytes crc5_of crc16_of after format_of format_ok format_reason reason_of checked_of transaction_status extract_payload details_of with_type with_detail fresh is_read is_set_configuration is_set_interface kind_by kind_of laid is_whole whole_in whole is_of first_of max_of value_of chunks applied count_set note_of with_max device_after count_after shelf_after row_after setup_group control_group begin_group repeat_group other_group group_status group_update group_early_start group_early_append transaction_update event_update handle_raw_packet handle_event handle_detail finish
run-finish-nothing = refl

run-split-setup-ten :
    Leaves (packet (0x78 ∷ 0x01 ∷ 0x01 ∷ 0xE0 ∷ []) 0 ∷ packet (0x2D ∷ 0x00 ∷ 0x10 ∷ []) 1 ∷ packet (0xC3 ∷ 0x00 ∷ 0x01 ∷ 0x02 ∷ 0x03 ∷ 0x04 ∷ 0x05 ∷ 0x06 ∷ 0x5E ∷ 0x39 ∷ []) 2 ∷ packet (0xD2 ∷ []) 3 ∷ finishing ∷ [])
    ((120 ∷ 1 ∷ 1 ∷ 224 ∷ 45 ∷ 0 ∷ 16 ∷ 195 ∷ 0 ∷ 1 ∷ 2 ∷ 3 ∷ 4 ∷ 5 ∷ 6 ∷ 94 ∷ 57 ∷ 210 ∷ []) ∷ (0 ∷ []) ∷ (0 ∷ 16 ∷ 0 ∷ 0 ∷ 17 ∷ 0 ∷ 0 ∷ 18 ∷ 0 ∷ 0 ∷ 0 ∷ 0 ∷ []) ∷ (0 ∷ 0 ∷ 4 ∷ 1 ∷ 7 ∷ 2 ∷ 17 ∷ 3 ∷ []) ∷ ([]) ∷ (0 ∷ 0 ∷ 2 ∷ 0 ∷ 3 ∷ 0 ∷ []) ∷ (1 ∷ 0 ∷ 1 ∷ 2 ∷ 2 ∷ 1 ∷ 0 ∷ 0 ∷ 2 ∷ 2 ∷ 1 ∷ 1 ∷ 1 ∷ 3 ∷ 3 ∷ 1 ∷ 1 ∷ 0 ∷ 3 ∷ 3 ∷ []) ∷ (0 ∷ 1 ∷ 0 ∷ 0 ∷ 0 ∷ 3 ∷ 0 ∷ 0 ∷ 0 ∷ 1 ∷ 0 ∷ 0 ∷ 0 ∷ 3 ∷ 0 ∷ 0 ∷ []) ∷ (0 ∷ 4 ∷ 8 ∷ 12 ∷ []) ∷ (0 ∷ 2 ∷ []) ∷ (0 ∷ 3 ∷ 0 ∷ 0 ∷ 0 ∷ 1 ∷ 1 ∷ 0 ∷ 1 ∷ 1 ∷ 0 ∷ 0 ∷ 0 ∷ 1 ∷ 2 ∷ 0 ∷ 1 ∷ 1 ∷ 1 ∷ 0 ∷ 3 ∷ 1 ∷ 1 ∷ 0 ∷ []) ∷ ([]) ∷ [])
unfolding step bits bytes crc5_of crc16_of after format_of format_ok format_reason reason_of checked_of transaction_status extract_payload details_of with_type with_detail fresh is_read is_set_configuration is_set_interface kind_by kind_of laid is_whole whole_in whole is_of first_of max_of value_of chunks applied count_set note_of with_max device_after count_after shelf_after row_after setup_group control_group begin_group repeat_group other_group group_status group_update group_early_start group_early_append transaction_update event_update handle_raw_packet handle_event handle_detail finish
run-split-setup-ten = refl

run-split-event :
    Leaves (packet (0x78 ∷ 0x01 ∷ 0x01 ∷ 0x44 ∷ []) 0 ∷ event 1 101 1 ∷ packet (0x69 ∷ 0x80 ∷ 0xA0 ∷ []) 2 ∷ packet (0x5A ∷ []) 3 ∷ finishing ∷ [])
    ((120 ∷ 1 ∷ 1 ∷ 68 ∷ 105 ∷ 128 ∷ 160 ∷ 90 ∷ []) ∷ (0 ∷ []) ∷ (0 ∷ 16 ∷ 0 ∷ 0 ∷ 17 ∷ 0 ∷ 0 ∷ 18 ∷ 0 ∷ 0 ∷ 1 ∷ 1 ∷ []) ∷ (0 ∷ 0 ∷ 4 ∷ 1 ∷ 4 ∷ 2 ∷ 7 ∷ 3 ∷ []) ∷ (1 ∷ 101 ∷ []) ∷ (0 ∷ 0 ∷ 1 ∷ 0 ∷ 2 ∷ 0 ∷ []) ∷ (0 ∷ 0 ∷ 0 ∷ 1 ∷ 1 ∷ 3 ∷ 0 ∷ 1 ∷ 2 ∷ 2 ∷ []) ∷ (3 ∷ 0 ∷ 0 ∷ 0 ∷ 0 ∷ 0 ∷ 1 ∷ []) ∷ (0 ∷ 3 ∷ []) ∷ (0 ∷ 1 ∷ []) ∷ (0 ∷ 0 ∷ 1 ∷ 0 ∷ 1 ∷ 0 ∷ 0 ∷ 0 ∷ 0 ∷ 3 ∷ 2 ∷ 0 ∷ 1 ∷ 3 ∷ 0 ∷ 0 ∷ []) ∷ ([]) ∷ [])
unfolding step bits bytes crc5_of crc16_of after format_of format_ok format_reason reason_of checked_of transaction_status extract_payload details_of with_type with_detail fresh is_read is_set_configuration is_set_interface kind_by kind_of laid is_whole whole_in whole is_of first_of max_of value_of chunks applied count_set note_of with_max device_after count_after shelf_after row_after setup_group control_group begin_group repeat_group other_group group_status group_update group_early_start group_early_append transaction_update event_update handle_raw_packet handle_event handle_detail finish
run-split-event = refl

run-split-finish :
    Leaves (packet (0x78 ∷ 0x01 ∷ 0x01 ∷ 0x44 ∷ []) 0 ∷ finishing ∷ [])
    ((120 ∷ 1 ∷ 1 ∷ 68 ∷ []) ∷ (0 ∷ []) ∷ (0 ∷ 16 ∷ 0 ∷ 0 ∷ 17 ∷ 0 ∷ 0 ∷ 18 ∷ 0 ∷ []) ∷ (0 ∷ 0 ∷ []) ∷ ([]) ∷ (0 ∷ 0 ∷ []) ∷ ([]) ∷ ([]) ∷ ([]) ∷ ([]) ∷ ([]) ∷ ([]) ∷ [])
unfolding step bits bytes crc5_of crc16_of after format_of format_ok format_reason reason_of checked_of transaction_status extract_payload details_of with_type with_detail fresh is_read is_set_configuration is_set_interface kind_by kind_of laid is_whole whole_in whole is_of first_of max_of value_of chunks applied count_set note_of with_max device_after count_after shelf_after row_after setup_group control_group begin_group repeat_group other_group group_status group_update group_early_start group_early_append transaction_update event_update handle_raw_packet handle_event handle_detail finish
run-split-finish = refl

run-split-split :
    Leaves (packet (0x78 ∷ 0x01 ∷ 0x01 ∷ 0x44 ∷ []) 0 ∷ packet (0x78 ∷ 0x01 ∷ 0x01 ∷ 0x44 ∷ []) 1 ∷ packet (0xE1 ∷ 0x80 ∷ 0xA0 ∷ []) 2 ∷ packet (0xC3 ∷ 0x00 ∷ 0x01 ∷ 0x02 ∷ 0x03 ∷ 0x04 ∷ 0x05 ∷ 0x06 ∷ 0x07 ∷ 0xB9 ∷ 0x85 ∷ []) 3 ∷ packet (0xD2 ∷ []) 4 ∷ finishing ∷ [])
    ((120 ∷ 1 ∷ 1 ∷ 68 ∷ 120 ∷ 1 ∷ 1 ∷ 68 ∷ 225 ∷ 128 ∷ 160 ∷ 195 ∷ 0 ∷ 1 ∷ 2 ∷ 3 ∷ 4 ∷ 5 ∷ 6 ∷ 7 ∷ 185 ∷ 133 ∷ 210 ∷ []) ∷ (0 ∷ []) ∷ (0 ∷ 16 ∷ 0 ∷ 0 ∷ 17 ∷ 0 ∷ 0 ∷ 18 ∷ 0 ∷ 0 ∷ 1 ∷ 0 ∷ []) ∷ (0 ∷ 0 ∷ 4 ∷ 1 ∷ 8 ∷ 2 ∷ 11 ∷ 3 ∷ 22 ∷ 4 ∷ []) ∷ ([]) ∷ (0 ∷ 0 ∷ 1 ∷ 0 ∷ 2 ∷ 0 ∷ []) ∷ (3 ∷ 0 ∷ 1 ∷ 2 ∷ 2 ∷ []) ∷ (0 ∷ 0 ∷ 0 ∷ 1 ∷ []) ∷ (0 ∷ []) ∷ (0 ∷ []) ∷ (0 ∷ 3 ∷ 2 ∷ 0 ∷ 1 ∷ 3 ∷ 0 ∷ 0 ∷ 2 ∷ 3 ∷ 0 ∷ 0 ∷ []) ∷ ([]) ∷ [])
unfolding step bits bytes crc5_of crc16_of after format_of format_ok format_reason reason_of checked_of transaction_status extract_payload details_of with_type with_detail fresh is_read is_set_configuration is_set_interface kind_by kind_of laid is_whole whole_in whole is_of first_of max_of value_of chunks applied count_set note_of with_max device_after count_after shelf_after row_after setup_group control_group begin_group repeat_group other_group group_status group_update group_early_start group_early_append transaction_update event_update handle_raw_packet handle_event handle_detail finish
run-split-split = refl

run-suspended-no-group :
    Leaves (packet (0x69 ∷ 0x80 ∷ 0xA0 ∷ []) 0 ∷ packet (0x69 ∷ 0x80 ∷ 0xA0 ∷ []) 1 ∷ event 0 100 2 ∷ event 1 101 3 ∷ finishing ∷ [])
    ((105 ∷ 128 ∷ 160 ∷ 105 ∷ 128 ∷ 160 ∷ []) ∷ (0 ∷ []) ∷ (0 ∷ 16 ∷ 0 ∷ 0 ∷ 17 ∷ 0 ∷ 0 ∷ 18 ∷ 0 ∷ 0 ∷ 1 ∷ 1 ∷ []) ∷ (0 ∷ 0 ∷ 3 ∷ 1 ∷ 6 ∷ 2 ∷ 6 ∷ 3 ∷ []) ∷ (2 ∷ 100 ∷ 3 ∷ 101 ∷ []) ∷ (0 ∷ 0 ∷ 1 ∷ 0 ∷ 2 ∷ 0 ∷ 3 ∷ 0 ∷ []) ∷ (3 ∷ 0 ∷ 1 ∷ 0 ∷ 0 ∷ 0 ∷ 0 ∷ 1 ∷ 2 ∷ 2 ∷ 0 ∷ 1 ∷ 0 ∷ 3 ∷ 3 ∷ []) ∷ (0 ∷ 0 ∷ 0 ∷ 1 ∷ 1 ∷ 0 ∷ 0 ∷ 3 ∷ 3 ∷ 0 ∷ 0 ∷ 0 ∷ []) ∷ (0 ∷ 4 ∷ 8 ∷ []) ∷ (0 ∷ 1 ∷ 2 ∷ []) ∷ (0 ∷ 3 ∷ 0 ∷ 0 ∷ 1 ∷ 3 ∷ 0 ∷ 0 ∷ 0 ∷ 0 ∷ 2 ∷ 0 ∷ 1 ∷ 0 ∷ 0 ∷ 0 ∷ 0 ∷ 0 ∷ 3 ∷ 0 ∷ 1 ∷ 0 ∷ 1 ∷ 0 ∷ 3 ∷ 3 ∷ 2 ∷ 0 ∷ []) ∷ ([]) ∷ [])
unfolding step bits bytes crc5_of crc16_of after format_of format_ok format_reason reason_of checked_of transaction_status extract_payload details_of with_type with_detail fresh is_read is_set_configuration is_set_interface kind_by kind_of laid is_whole whole_in whole is_of first_of max_of value_of chunks applied count_set note_of with_max device_after count_after shelf_after row_after setup_group control_group begin_group repeat_group other_group group_status group_update group_early_start group_early_append transaction_update event_update handle_raw_packet handle_event handle_detail finish
run-suspended-no-group = refl

run-setup-without-data :
    Leaves (packet (0x2D ∷ 0x00 ∷ 0x10 ∷ []) 0 ∷ packet (0x69 ∷ 0x00 ∷ 0x10 ∷ []) 1 ∷ packet (0x4B ∷ 0x00 ∷ 0x00 ∷ []) 2 ∷ packet (0xD2 ∷ []) 3 ∷ finishing ∷ [])
    ((45 ∷ 0 ∷ 16 ∷ 105 ∷ 0 ∷ 16 ∷ 75 ∷ 0 ∷ 0 ∷ 210 ∷ []) ∷ (0 ∷ []) ∷ (0 ∷ 16 ∷ 0 ∷ 0 ∷ 17 ∷ 0 ∷ 0 ∷ 18 ∷ 0 ∷ 0 ∷ 0 ∷ 0 ∷ []) ∷ (0 ∷ 0 ∷ 3 ∷ 1 ∷ 6 ∷ 2 ∷ 9 ∷ 3 ∷ []) ∷ ([]) ∷ (0 ∷ 0 ∷ 1 ∷ 0 ∷ []) ∷ (3 ∷ 0 ∷ 1 ∷ 0 ∷ 0 ∷ 3 ∷ 0 ∷ 0 ∷ 3 ∷ 3 ∷ 3 ∷ 1 ∷ 1 ∷ 3 ∷ 3 ∷ 3 ∷ 1 ∷ 0 ∷ 3 ∷ 3 ∷ []) ∷ (0 ∷ 0 ∷ 0 ∷ 1 ∷ 0 ∷ 0 ∷ 0 ∷ 3 ∷ 0 ∷ 0 ∷ 0 ∷ 1 ∷ 0 ∷ 0 ∷ 0 ∷ 3 ∷ []) ∷ (0 ∷ 4 ∷ 8 ∷ 12 ∷ []) ∷ (0 ∷ 2 ∷ []) ∷ (0 ∷ 3 ∷ 0 ∷ 0 ∷ 1 ∷ 3 ∷ 0 ∷ 0 ∷ 0 ∷ 3 ∷ 1 ∷ 0 ∷ 1 ∷ 3 ∷ 1 ∷ 0 ∷ 3 ∷ 3 ∷ 1 ∷ 0 ∷ []) ∷ ([]) ∷ [])
unfolding step bits bytes crc5_of crc16_of after format_of format_ok format_reason reason_of checked_of transaction_status extract_payload details_of with_type with_detail fresh is_read is_set_configuration is_set_interface kind_by kind_of laid is_whole whole_in whole is_of first_of max_of value_of chunks applied count_set note_of with_max device_after count_after shelf_after row_after setup_group control_group begin_group repeat_group other_group group_status group_update group_early_start group_early_append transaction_update event_update handle_raw_packet handle_event handle_detail finish
run-setup-without-data = refl

run-early-token-in-split :
    Leaves (packet (0x69 ∷ 0x80 ∷ 0xA0 ∷ []) 0 ∷ packet (0xD2 ∷ []) 1 ∷ packet (0x78 ∷ 0x01 ∷ 0x01 ∷ 0x16 ∷ []) 2 ∷ packet (0x69 ∷ 0x80 ∷ 0xA0 ∷ []) 3 ∷ finishing ∷ [])
    ((105 ∷ 128 ∷ 160 ∷ 210 ∷ 120 ∷ 1 ∷ 1 ∷ 22 ∷ 105 ∷ 128 ∷ 160 ∷ []) ∷ (0 ∷ []) ∷ (0 ∷ 16 ∷ 0 ∷ 0 ∷ 17 ∷ 0 ∷ 0 ∷ 18 ∷ 0 ∷ 0 ∷ 1 ∷ 1 ∷ []) ∷ (0 ∷ 0 ∷ 3 ∷ 1 ∷ 4 ∷ 2 ∷ 8 ∷ 3 ∷ []) ∷ ([]) ∷ (0 ∷ 0 ∷ 1 ∷ 0 ∷ 2 ∷ 0 ∷ []) ∷ (3 ∷ 0 ∷ 1 ∷ 0 ∷ 0 ∷ 1 ∷ 0 ∷ 1 ∷ 1 ∷ 1 ∷ 1 ∷ 0 ∷ 0 ∷ 1 ∷ 1 ∷ []) ∷ (0 ∷ 0 ∷ 0 ∷ 1 ∷ 0 ∷ 1 ∷ 0 ∷ 2 ∷ 0 ∷ 3 ∷ 0 ∷ 2 ∷ []) ∷ (0 ∷ 4 ∷ 8 ∷ []) ∷ (0 ∷ 1 ∷ []) ∷ (0 ∷ 3 ∷ 0 ∷ 0 ∷ 1 ∷ 3 ∷ 0 ∷ 0 ∷ 0 ∷ 1 ∷ 1 ∷ 0 ∷ 1 ∷ 1 ∷ 0 ∷ 0 ∷ []) ∷ ([]) ∷ [])
unfolding step bits bytes crc5_of crc16_of after format_of format_ok format_reason reason_of checked_of transaction_status extract_payload details_of with_type with_detail fresh is_read is_set_configuration is_set_interface kind_by kind_of laid is_whole whole_in whole is_of first_of max_of value_of chunks applied count_set note_of with_max device_after count_after shelf_after row_after setup_group control_group begin_group repeat_group other_group group_status group_update group_early_start group_early_append transaction_update event_update handle_raw_packet handle_event handle_detail finish
run-early-token-in-split = refl

run-early-ping-in-split :
    Leaves (packet (0x2D ∷ 0x00 ∷ 0x10 ∷ []) 0 ∷ packet (0xD2 ∷ []) 1 ∷ packet (0x78 ∷ 0x01 ∷ 0x01 ∷ 0xE0 ∷ []) 2 ∷ packet (0xB4 ∷ 0x00 ∷ 0x10 ∷ []) 3 ∷ finishing ∷ [])
    ((45 ∷ 0 ∷ 16 ∷ 210 ∷ 120 ∷ 1 ∷ 1 ∷ 224 ∷ 180 ∷ 0 ∷ 16 ∷ []) ∷ (0 ∷ []) ∷ (0 ∷ 16 ∷ 0 ∷ 0 ∷ 17 ∷ 0 ∷ 0 ∷ 18 ∷ 0 ∷ 0 ∷ 0 ∷ 0 ∷ []) ∷ (0 ∷ 0 ∷ 3 ∷ 1 ∷ 4 ∷ 2 ∷ 8 ∷ 3 ∷ []) ∷ ([]) ∷ (0 ∷ 0 ∷ 1 ∷ 0 ∷ 2 ∷ 0 ∷ 3 ∷ 0 ∷ []) ∷ (3 ∷ 0 ∷ 1 ∷ 0 ∷ 0 ∷ 1 ∷ 0 ∷ 1 ∷ 1 ∷ 1 ∷ 1 ∷ 0 ∷ 0 ∷ 1 ∷ 1 ∷ 3 ∷ 0 ∷ 0 ∷ 3 ∷ 3 ∷ []) ∷ (0 ∷ 0 ∷ 0 ∷ 1 ∷ 0 ∷ 1 ∷ 0 ∷ 2 ∷ 0 ∷ 3 ∷ 0 ∷ 2 ∷ 0 ∷ 0 ∷ 0 ∷ 3 ∷ []) ∷ (0 ∷ 4 ∷ 8 ∷ 12 ∷ []) ∷ (0 ∷ 1 ∷ 3 ∷ []) ∷ (0 ∷ 3 ∷ 0 ∷ 0 ∷ 1 ∷ 3 ∷ 0 ∷ 0 ∷ 0 ∷ 1 ∷ 1 ∷ 0 ∷ 1 ∷ 1 ∷ 0 ∷ 0 ∷ 3 ∷ 1 ∷ 2 ∷ 0 ∷ 3 ∷ 3 ∷ 2 ∷ 0 ∷ []) ∷ ([]) ∷ [])
unfolding step bits bytes crc5_of crc16_of after format_of format_ok format_reason reason_of checked_of transaction_status extract_payload details_of with_type with_detail fresh is_read is_set_configuration is_set_interface kind_by kind_of laid is_whole whole_in whole is_of first_of max_of value_of chunks applied count_set note_of with_max device_after count_after shelf_after row_after setup_group control_group begin_group repeat_group other_group group_status group_update group_early_start group_early_append transaction_update event_update handle_raw_packet handle_event handle_detail finish
run-early-ping-in-split = refl

run-data-under-waiting :
    Leaves (packet (0x78 ∷ 0x01 ∷ 0x01 ∷ 0xE0 ∷ []) 0 ∷ packet (0xE1 ∷ 0x00 ∷ 0x10 ∷ []) 1 ∷ packet (0xC3 ∷ 0x00 ∷ 0x01 ∷ 0x02 ∷ 0x03 ∷ 0x04 ∷ 0x05 ∷ 0x06 ∷ 0x07 ∷ 0xB9 ∷ 0x85 ∷ []) 2 ∷ packet (0xD2 ∷ []) 3 ∷ packet (0x2D ∷ 0x00 ∷ 0x10 ∷ []) 4 ∷ packet (0xD3 ∷ []) 5 ∷ packet (0x78 ∷ 0x01 ∷ 0x01 ∷ 0x16 ∷ []) 6 ∷ packet (0x69 ∷ 0x00 ∷ 0x10 ∷ []) 7 ∷ finishing ∷ [])
    ((120 ∷ 1 ∷ 1 ∷ 224 ∷ 225 ∷ 0 ∷ 16 ∷ 195 ∷ 0 ∷ 1 ∷ 2 ∷ 3 ∷ 4 ∷ 5 ∷ 6 ∷ 7 ∷ 185 ∷ 133 ∷ 210 ∷ 45 ∷ 0 ∷ 16 ∷ 211 ∷ 120 ∷ 1 ∷ 1 ∷ 22 ∷ 105 ∷ 0 ∷ 16 ∷ []) ∷ (0 ∷ []) ∷ (0 ∷ 16 ∷ 0 ∷ 0 ∷ 17 ∷ 0 ∷ 0 ∷ 18 ∷ 0 ∷ 0 ∷ 0 ∷ 0 ∷ []) ∷ (0 ∷ 0 ∷ 4 ∷ 1 ∷ 7 ∷ 2 ∷ 18 ∷ 3 ∷ 19 ∷ 4 ∷ 22 ∷ 5 ∷ 23 ∷ 6 ∷ 27 ∷ 7 ∷ []) ∷ ([]) ∷ (0 ∷ 0 ∷ 4 ∷ 0 ∷ 5 ∷ 2 ∷ 6 ∷ 0 ∷ []) ∷ (3 ∷ 0 ∷ 1 ∷ 3 ∷ 3 ∷ 3 ∷ 0 ∷ 0 ∷ 4 ∷ 4 ∷ 3 ∷ 1 ∷ 1 ∷ 4 ∷ 4 ∷ 1 ∷ 0 ∷ 1 ∷ 5 ∷ 5 ∷ 1 ∷ 0 ∷ 0 ∷ 5 ∷ 5 ∷ []) ∷ (0 ∷ 0 ∷ 0 ∷ 1 ∷ 0 ∷ 0 ∷ 0 ∷ 3 ∷ 0 ∷ 0 ∷ 0 ∷ 1 ∷ 0 ∷ 1 ∷ 0 ∷ 2 ∷ 0 ∷ 3 ∷ 0 ∷ 2 ∷ []) ∷ (0 ∷ 4 ∷ 8 ∷ 12 ∷ 16 ∷ []) ∷ (0 ∷ 2 ∷ 3 ∷ []) ∷ (0 ∷ 3 ∷ 0 ∷ 0 ∷ 1 ∷ 3 ∷ 0 ∷ 0 ∷ 0 ∷ 3 ∷ 1 ∷ 0 ∷ 1 ∷ 3 ∷ 1 ∷ 0 ∷ 3 ∷ 3 ∷ 1 ∷ 0 ∷ 0 ∷ 1 ∷ 2 ∷ 0 ∷ 1 ∷ 1 ∷ 0 ∷ 0 ∷ 2 ∷ 3 ∷ 0 ∷ 0 ∷ []) ∷ ([]) ∷ [])
unfolding step bits bytes crc5_of crc16_of after format_of format_ok format_reason reason_of checked_of transaction_status extract_payload details_of with_type with_detail fresh is_read is_set_configuration is_set_interface kind_by kind_of laid is_whole whole_in whole is_of first_of max_of value_of chunks applied count_set note_of with_max device_after count_after shelf_after row_after setup_group control_group begin_group repeat_group other_group group_status group_update group_early_start group_early_append transaction_update event_update handle_raw_packet handle_event handle_detail finish
run-data-under-waiting = refl

run-split-type-kept :
    Leaves (packet (0x78 ∷ 0x01 ∷ 0x01 ∷ 0x16 ∷ []) 0 ∷ packet (0x69 ∷ 0x80 ∷ 0xA0 ∷ []) 1 ∷ packet (0x78 ∷ 0x81 ∷ 0x01 ∷ 0x9C ∷ []) 2 ∷ packet (0x69 ∷ 0x80 ∷ 0xA0 ∷ []) 3 ∷ packet (0xC3 ∷ 0x00 ∷ 0x01 ∷ 0x02 ∷ 0x03 ∷ 0x04 ∷ 0x05 ∷ 0x06 ∷ 0x07 ∷ 0xB9 ∷ 0x85 ∷ []) 4 ∷ packet (0x69 ∷ 0x80 ∷ 0xA0 ∷ []) 5 ∷ packet (0xC3 ∷ 0x00 ∷ 0x01 ∷ 0x02 ∷ 0x03 ∷ 0x04 ∷ 0x05 ∷ 0x06 ∷ 0x07 ∷ 0xB9 ∷ 0x85 ∷ []) 6 ∷ packet (0xD2 ∷ []) 7 ∷ finishing ∷ [])
    ((120 ∷ 1 ∷ 1 ∷ 22 ∷ 105 ∷ 128 ∷ 160 ∷ 120 ∷ 129 ∷ 1 ∷ 156 ∷ 105 ∷ 128 ∷ 160 ∷ 195 ∷ 0 ∷ 1 ∷ 2 ∷ 3 ∷ 4 ∷ 5 ∷ 6 ∷ 7 ∷ 185 ∷ 133 ∷ 105 ∷ 128 ∷ 160 ∷ 195 ∷ 0 ∷ 1 ∷ 2 ∷ 3 ∷ 4 ∷ 5 ∷ 6 ∷ 7 ∷ 185 ∷ 133 ∷ 210 ∷ []) ∷ (0 ∷ []) ∷ (0 ∷ 16 ∷ 0 ∷ 0 ∷ 17 ∷ 0 ∷ 0 ∷ 18 ∷ 0 ∷ 0 ∷ 1 ∷ 1 ∷ []) ∷ (0 ∷ 0 ∷ 4 ∷ 1 ∷ 7 ∷ 2 ∷ 11 ∷ 3 ∷ 14 ∷ 4 ∷ 25 ∷ 5 ∷ 28 ∷ 6 ∷ 39 ∷ 7 ∷ []) ∷ ([]) ∷ (0 ∷ 0 ∷ 2 ∷ 0 ∷ 5 ∷ 0 ∷ []) ∷ (3 ∷ 0 ∷ 1 ∷ 1 ∷ 1 ∷ 3 ∷ 0 ∷ 0 ∷ 4 ∷ 4 ∷ 3 ∷ 1 ∷ 1 ∷ 4 ∷ 4 ∷ []) ∷ (0 ∷ 0 ∷ 0 ∷ 1 ∷ 0 ∷ 0 ∷ 0 ∷ 3 ∷ 0 ∷ 0 ∷ 0 ∷ 1 ∷ []) ∷ (0 ∷ 4 ∷ 8 ∷ []) ∷ (0 ∷ 2 ∷ []) ∷ (0 ∷ 3 ∷ 0 ∷ 0 ∷ 1 ∷ 3 ∷ 0 ∷ 0 ∷ 0 ∷ 3 ∷ 1 ∷ 0 ∷ 1 ∷ 3 ∷ 1 ∷ 0 ∷ 3 ∷ 3 ∷ 1 ∷ 0 ∷ 2 ∷ 3 ∷ 1 ∷ 0 ∷ 0 ∷ 3 ∷ 2 ∷ 0 ∷ 2 ∷ 3 ∷ 2 ∷ 8 ∷ []) ∷ ([]) ∷ [])
unfolding step bits bytes crc5_of crc16_of after format_of format_ok format_reason reason_of checked_of transaction_status extract_payload details_of with_type with_detail fresh is_read is_set_configuration is_set_interface kind_by kind_of laid is_whole whole_in whole is_of first_of max_of value_of chunks applied count_set note_of with_max device_after count_after shelf_after row_after setup_group control_group begin_group repeat_group other_group group_status group_update group_early_start group_early_append transaction_update event_update handle_raw_packet handle_event handle_detail finish
run-split-type-kept = refl

run-detail-control-in :
    Leaves (detail 0 0 1 0 8 ∷ packet (0x2D ∷ 0x00 ∷ 0x10 ∷ []) 1 ∷ packet (0xC3 ∷ 0x80 ∷ 0x06 ∷ 0x00 ∷ 0x01 ∷ 0x00 ∷ 0x00 ∷ 0x12 ∷ 0x00 ∷ 0xE0 ∷ 0xF4 ∷ []) 2 ∷ packet (0xD2 ∷ []) 3 ∷ packet (0x69 ∷ 0x00 ∷ 0x10 ∷ []) 4 ∷ packet (0x4B ∷ 0x00 ∷ 0x01 ∷ 0x02 ∷ 0x03 ∷ 0x04 ∷ 0x05 ∷ 0x06 ∷ 0x07 ∷ 0xB9 ∷ 0x85 ∷ []) 5 ∷ packet (0xD2 ∷ []) 6 ∷ packet (0xE1 ∷ 0x00 ∷ 0x10 ∷ []) 7 ∷ packet (0x4B ∷ 0x00 ∷ 0x00 ∷ []) 8 ∷ packet (0xD2 ∷ []) 9 ∷ finishing ∷ [])
    ((45 ∷ 0 ∷ 16 ∷ 195 ∷ 128 ∷ 6 ∷ 0 ∷ 1 ∷ 0 ∷ 0 ∷ 18 ∷ 0 ∷ 224 ∷ 244 ∷ 210 ∷ 105 ∷ 0 ∷ 16 ∷ 75 ∷ 0 ∷ 1 ∷ 2 ∷ 3 ∷ 4 ∷ 5 ∷ 6 ∷ 7 ∷ 185 ∷ 133 ∷ 210 ∷ 225 ∷ 0 ∷ 16 ∷ 75 ∷ 0 ∷ 0 ∷ 210 ∷ []) ∷ (0 ∷ []) ∷ (0 ∷ 16 ∷ 0 ∷ 0 ∷ 17 ∷ 0 ∷ 0 ∷ 18 ∷ 0 ∷ 0 ∷ 0 ∷ 0 ∷ []) ∷ (0 ∷ 1 ∷ 3 ∷ 2 ∷ 14 ∷ 3 ∷ 15 ∷ 4 ∷ 18 ∷ 5 ∷ 29 ∷ 6 ∷ 30 ∷ 7 ∷ 33 ∷ 8 ∷ 36 ∷ 9 ∷ []) ∷ ([]) ∷ (0 ∷ 0 ∷ 3 ∷ 0 ∷ 6 ∷ 0 ∷ []) ∷ (3 ∷ 0 ∷ 1 ∷ 0 ∷ 1 ∷ 3 ∷ 0 ∷ 0 ∷ 8 ∷ 9 ∷ []) ∷ (0 ∷ 0 ∷ 0 ∷ 1 ∷ 0 ∷ 0 ∷ 0 ∷ 3 ∷ []) ∷ (0 ∷ 4 ∷ []) ∷ (0 ∷ []) ∷ (0 ∷ 3 ∷ 0 ∷ 0 ∷ 1 ∷ 3 ∷ 0 ∷ 0 ∷ 0 ∷ 3 ∷ 1 ∷ 0 ∷ 2 ∷ 3 ∷ 1 ∷ 0 ∷ 0 ∷ 3 ∷ 2 ∷ 0 ∷ []) ∷ (3 ∷ 5066549597570688 ∷ 8 ∷ 0 ∷ []) ∷ [])
unfolding step bits bytes crc5_of crc16_of after format_of format_ok format_reason reason_of checked_of transaction_status extract_payload details_of with_type with_detail fresh is_read is_set_configuration is_set_interface kind_by kind_of laid is_whole whole_in whole is_of first_of max_of value_of chunks applied count_set note_of with_max device_after count_after shelf_after row_after setup_group control_group begin_group repeat_group other_group group_status group_update group_early_start group_early_append transaction_update event_update handle_raw_packet handle_event handle_detail finish
run-detail-control-in = refl

run-set-address-200 :
    Leaves (packet (0x2D ∷ 0x00 ∷ 0x10 ∷ []) 0 ∷ packet (0xC3 ∷ 0x00 ∷ 0x05 ∷ 0xC8 ∷ 0x00 ∷ 0x00 ∷ 0x00 ∷ 0x00 ∷ 0x00 ∷ 0xFA ∷ 0xBC ∷ []) 1 ∷ packet (0xD2 ∷ []) 2 ∷ packet (0x69 ∷ 0x00 ∷ 0x10 ∷ []) 3 ∷ packet (0x4B ∷ 0x00 ∷ 0x00 ∷ []) 4 ∷ packet (0xD2 ∷ []) 5 ∷ detail 200 1 0 2 64 ∷ finishing ∷ [])
    ((45 ∷ 0 ∷ 16 ∷ 195 ∷ 0 ∷ 5 ∷ 200 ∷ 0 ∷ 0 ∷ 0 ∷ 0 ∷ 0 ∷ 250 ∷ 188 ∷ 210 ∷ 105 ∷ 0 ∷ 16 ∷ 75 ∷ 0 ∷ 0 ∷ 210 ∷ []) ∷ (0 ∷ 200 ∷ []) ∷ (0 ∷ 16 ∷ 0 ∷ 0 ∷ 17 ∷ 0 ∷ 0 ∷ 18 ∷ 0 ∷ 0 ∷ 0 ∷ 0 ∷ []) ∷ (0 ∷ 0 ∷ 3 ∷ 1 ∷ 14 ∷ 2 ∷ 15 ∷ 3 ∷ 18 ∷ 4 ∷ 21 ∷ 5 ∷ []) ∷ ([]) ∷ (0 ∷ 0 ∷ 3 ∷ 0 ∷ []) ∷ (3 ∷ 0 ∷ 1 ∷ 0 ∷ 0 ∷ 3 ∷ 0 ∷ 0 ∷ 5 ∷ 5 ∷ []) ∷ (0 ∷ 0 ∷ 0 ∷ 1 ∷ 0 ∷ 0 ∷ 0 ∷ 3 ∷ []) ∷ (0 ∷ 4 ∷ []) ∷ (0 ∷ []) ∷ (0 ∷ 3 ∷ 0 ∷ 0 ∷ 1 ∷ 3 ∷ 0 ∷ 0 ∷ 0 ∷ 3 ∷ 1 ∷ 0 ∷ []) ∷ ([]) ∷ [])
unfolding step bits bytes crc5_of crc16_of after format_of format_ok format_reason reason_of checked_of transaction_status extract_payload details_of with_type with_detail fresh is_read is_set_configuration is_set_interface kind_by kind_of laid is_whole whole_in whole is_of first_of max_of value_of chunks applied count_set note_of with_max device_after count_after shelf_after row_after setup_group control_group begin_group repeat_group other_group group_status group_update group_early_start group_early_append transaction_update event_update handle_raw_packet handle_event handle_detail finish
run-set-address-200 = refl

run-set-address-zero :
    Leaves (packet (0x69 ∷ 0x80 ∷ 0xA0 ∷ []) 0 ∷ packet (0x5A ∷ []) 1 ∷ packet (0x2D ∷ 0x00 ∷ 0x10 ∷ []) 2 ∷ packet (0xC3 ∷ 0x00 ∷ 0x05 ∷ 0x00 ∷ 0x00 ∷ 0x00 ∷ 0x00 ∷ 0x00 ∷ 0x00 ∷ 0xEA ∷ 0xF4 ∷ []) 3 ∷ packet (0xD2 ∷ []) 4 ∷ packet (0x69 ∷ 0x00 ∷ 0x10 ∷ []) 5 ∷ packet (0x4B ∷ 0x00 ∷ 0x00 ∷ []) 6 ∷ packet (0xD2 ∷ []) 7 ∷ packet (0x69 ∷ 0x80 ∷ 0xA0 ∷ []) 8 ∷ packet (0x5A ∷ []) 9 ∷ packet (0x69 ∷ 0x00 ∷ 0x10 ∷ []) 10 ∷ packet (0x5A ∷ []) 11 ∷ finishing ∷ [])
    ((105 ∷ 128 ∷ 160 ∷ 90 ∷ 45 ∷ 0 ∷ 16 ∷ 195 ∷ 0 ∷ 5 ∷ 0 ∷ 0 ∷ 0 ∷ 0 ∷ 0 ∷ 0 ∷ 234 ∷ 244 ∷ 210 ∷ 105 ∷ 0 ∷ 16 ∷ 75 ∷ 0 ∷ 0 ∷ 210 ∷ 105 ∷ 128 ∷ 160 ∷ 90 ∷ 105 ∷ 0 ∷ 16 ∷ 90 ∷ []) ∷ (0 ∷ 0 ∷ []) ∷ (0 ∷ 16 ∷ 0 ∷ 0 ∷ 17 ∷ 0 ∷ 0 ∷ 18 ∷ 0 ∷ 0 ∷ 1 ∷ 1 ∷ 0 ∷ 0 ∷ 0 ∷ 1 ∷ 1 ∷ 1 ∷ 1 ∷ 0 ∷ 0 ∷ []) ∷ (0 ∷ 0 ∷ 3 ∷ 1 ∷ 4 ∷ 2 ∷ 7 ∷ 3 ∷ 18 ∷ 4 ∷ 19 ∷ 5 ∷ 22 ∷ 6 ∷ 25 ∷ 7 ∷ 26 ∷ 8 ∷ 29 ∷ 9 ∷ 30 ∷ 10 ∷ 33 ∷ 11 ∷ []) ∷ ([]) ∷ (0 ∷ 0 ∷ 2 ∷ 0 ∷ 5 ∷ 0 ∷ 8 ∷ 0 ∷ 10 ∷ 0 ∷ []) ∷ (3 ∷ 0 ∷ 1 ∷ 0 ∷ 0 ∷ 4 ∷ 0 ∷ 1 ∷ 2 ∷ 2 ∷ 4 ∷ 0 ∷ 0 ∷ 7 ∷ 7 ∷ 5 ∷ 0 ∷ 1 ∷ 8 ∷ 8 ∷ 6 ∷ 0 ∷ 1 ∷ 10 ∷ 10 ∷ []) ∷ (0 ∷ 0 ∷ 0 ∷ 1 ∷ 0 ∷ 0 ∷ 0 ∷ 2 ∷ 1 ∷ 0 ∷ 0 ∷ 0 ∷ 2 ∷ 3 ∷ 0 ∷ 0 ∷ 0 ∷ 2 ∷ 0 ∷ 1 ∷ 0 ∷ 0 ∷ 0 ∷ 2 ∷ 0 ∷ 2 ∷ 1 ∷ []) ∷ (0 ∷ 4 ∷ 9 ∷ 14 ∷ 20 ∷ []) ∷ (0 ∷ 1 ∷ 3 ∷ 4 ∷ []) ∷ (0 ∷ 3 ∷ 0 ∷ 0 ∷ 1 ∷ 3 ∷ 0 ∷ 0 ∷ 0 ∷ 4 ∷ 1 ∷ 0 ∷ 1 ∷ 4 ∷ 0 ∷ 0 ∷ 0 ∷ 4 ∷ 2 ∷ 0 ∷ 0 ∷ 5 ∷ 3 ∷ 0 ∷ 1 ∷ 5 ∷ 0 ∷ 0 ∷ 3 ∷ 4 ∷ 2 ∷ 0 ∷ 0 ∷ 6 ∷ 4 ∷ 0 ∷ 1 ∷ 6 ∷ 0 ∷ 0 ∷ []) ∷ ([]) ∷ [])
unfolding step bits bytes crc5_of crc16_of after format_of format_ok format_reason reason_of checked_of transaction_status extract_payload details_of with_type with_detail fresh is_read is_set_configuration is_set_interface kind_by kind_of laid is_whole whole_in whole is_of first_of max_of value_of chunks applied count_set note_of with_max device_after count_after shelf_after row_after setup_group control_group begin_group repeat_group other_group group_status group_update group_early_start group_early_append transaction_update event_update handle_raw_packet handle_event handle_detail finish
run-set-address-zero = refl

run-set-address-again :
    Leaves (packet (0x2D ∷ 0x00 ∷ 0x10 ∷ []) 0 ∷ packet (0xC3 ∷ 0x00 ∷ 0x05 ∷ 0x07 ∷ 0x00 ∷ 0x00 ∷ 0x00 ∷ 0x00 ∷ 0x00 ∷ 0xEB ∷ 0x43 ∷ []) 1 ∷ packet (0xD2 ∷ []) 2 ∷ packet (0x69 ∷ 0x00 ∷ 0x10 ∷ []) 3 ∷ packet (0x4B ∷ 0x00 ∷ 0x00 ∷ []) 4 ∷ packet (0xD2 ∷ []) 5 ∷ packet (0x69 ∷ 0x87 ∷ 0xD8 ∷ []) 6 ∷ packet (0x5A ∷ []) 7 ∷ packet (0x2D ∷ 0x00 ∷ 0x10 ∷ []) 8 ∷ packet (0xC3 ∷ 0x00 ∷ 0x05 ∷ 0x07 ∷ 0x00 ∷ 0x00 ∷ 0x00 ∷ 0x00 ∷ 0x00 ∷ 0xEB ∷ 0x43 ∷ []) 9 ∷ packet (0xD2 ∷ []) 10 ∷ packet (0x69 ∷ 0x00 ∷ 0x10 ∷ []) 11 ∷ packet (0x4B ∷ 0x00 ∷ 0x00 ∷ []) 12 ∷ packet (0xD2 ∷ []) 13 ∷ packet (0x69 ∷ 0x87 ∷ 0xD8 ∷ []) 14 ∷ packet (0x5A ∷ []) 15 ∷ event 1 101 16 ∷ finishing ∷ [])
    ((45 ∷ 0 ∷ 16 ∷ 195 ∷ 0 ∷ 5 ∷ 7 ∷ 0 ∷ 0 ∷ 0 ∷ 0 ∷ 0 ∷ 235 ∷ 67 ∷ 210 ∷ 105 ∷ 0 ∷ 16 ∷ 75 ∷ 0 ∷ 0 ∷ 210 ∷ 105 ∷ 135 ∷ 216 ∷ 90 ∷ 45 ∷ 0 ∷ 16 ∷ 195 ∷ 0 ∷ 5 ∷ 7 ∷ 0 ∷ 0 ∷ 0 ∷ 0 ∷ 0 ∷ 235 ∷ 67 ∷ 210 ∷ 105 ∷ 0 ∷ 16 ∷ 75 ∷ 0 ∷ 0 ∷ 210 ∷ 105 ∷ 135 ∷ 216 ∷ 90 ∷ []) ∷ (0 ∷ 7 ∷ 7 ∷ []) ∷ (0 ∷ 16 ∷ 0 ∷ 0 ∷ 17 ∷ 0 ∷ 0 ∷ 18 ∷ 0 ∷ 0 ∷ 0 ∷ 0 ∷ 1 ∷ 1 ∷ 1 ∷ 2 ∷ 1 ∷ 1 ∷ []) ∷ (0 ∷ 0 ∷ 3 ∷ 1 ∷ 14 ∷ 2 ∷ 15 ∷ 3 ∷ 18 ∷ 4 ∷ 21 ∷ 5 ∷ 22 ∷ 6 ∷ 25 ∷ 7 ∷ 26 ∷ 8 ∷ 29 ∷ 9 ∷ 40 ∷ 10 ∷ 41 ∷ 11 ∷ 44 ∷ 12 ∷ 47 ∷ 13 ∷ 48 ∷ 14 ∷ 51 ∷ 15 ∷ 52 ∷ 16 ∷ []) ∷ (16 ∷ 101 ∷ []) ∷ (0 ∷ 0 ∷ 3 ∷ 0 ∷ 6 ∷ 0 ∷ 8 ∷ 0 ∷ 11 ∷ 0 ∷ 14 ∷ 0 ∷ 16 ∷ 0 ∷ []) ∷ (3 ∷ 0 ∷ 1 ∷ 0 ∷ 0 ∷ 3 ∷ 0 ∷ 0 ∷ 5 ∷ 5 ∷ 4 ∷ 0 ∷ 1 ∷ 6 ∷ 6 ∷ 3 ∷ 1 ∷ 1 ∷ 8 ∷ 8 ∷ 3 ∷ 1 ∷ 0 ∷ 13 ∷ 13 ∷ 5 ∷ 0 ∷ 1 ∷ 14 ∷ 14 ∷ 0 ∷ 0 ∷ 0 ∷ 16 ∷ 16 ∷ []) ∷ (0 ∷ 0 ∷ 0 ∷ 1 ∷ 0 ∷ 0 ∷ 0 ∷ 3 ∷ 0 ∷ 0 ∷ 0 ∷ 0 ∷ 1 ∷ 0 ∷ 0 ∷ 0 ∷ 1 ∷ 2 ∷ 0 ∷ 0 ∷ 0 ∷ 3 ∷ 2 ∷ 0 ∷ 0 ∷ 0 ∷ 0 ∷ 2 ∷ 1 ∷ 3 ∷ 0 ∷ 0 ∷ 0 ∷ 3 ∷ 3 ∷ []) ∷ (0 ∷ 4 ∷ 8 ∷ 13 ∷ 18 ∷ 23 ∷ 29 ∷ []) ∷ (0 ∷ 2 ∷ 3 ∷ 5 ∷ 6 ∷ []) ∷ (0 ∷ 3 ∷ 0 ∷ 0 ∷ 1 ∷ 3 ∷ 0 ∷ 0 ∷ 0 ∷ 3 ∷ 1 ∷ 0 ∷ 0 ∷ 4 ∷ 2 ∷ 0 ∷ 1 ∷ 4 ∷ 0 ∷ 0 ∷ 3 ∷ 3 ∷ 1 ∷ 0 ∷ 0 ∷ 3 ∷ 3 ∷ 0 ∷ 1 ∷ 3 ∷ 2 ∷ 0 ∷ 0 ∷ 3 ∷ 4 ∷ 0 ∷ 0 ∷ 5 ∷ 5 ∷ 0 ∷ 1 ∷ 5 ∷ 0 ∷ 0 ∷ 3 ∷ 3 ∷ 3 ∷ 0 ∷ 0 ∷ 0 ∷ 6 ∷ 0 ∷ 1 ∷ 0 ∷ 0 ∷ 0 ∷ 3 ∷ 4 ∷ 4 ∷ 0 ∷ 3 ∷ 5 ∷ 4 ∷ 0 ∷ []) ∷ ([]) ∷ [])
unfolding step bits bytes crc5_of crc16_of after format_of format_ok format_reason reason_of checked_of transaction_status extract_payload details_of with_type with_detail fresh is_read is_set_configuration is_set_interface kind_by kind_of laid is_whole whole_in whole is_of first_of max_of value_of chunks applied count_set note_of with_max device_after count_after shelf_after row_after setup_group control_group begin_group repeat_group other_group group_status group_update group_early_start group_early_append transaction_update event_update handle_raw_packet handle_event handle_detail finish
run-set-address-again = refl

run-keepalives :
    Leaves (event 0 100 0 ∷ event 0 100 1 ∷ packet (0x69 ∷ 0x80 ∷ 0xA0 ∷ []) 2 ∷ event 0 100 3 ∷ packet (0x5A ∷ []) 4 ∷ event 7 107 5 ∷ event 0 100 6 ∷ finishing ∷ [])
    ((105 ∷ 128 ∷ 160 ∷ 90 ∷ []) ∷ (0 ∷ []) ∷ (0 ∷ 16 ∷ 0 ∷ 0 ∷ 17 ∷ 0 ∷ 0 ∷ 18 ∷ 0 ∷ 0 ∷ 1 ∷ 1 ∷ []) ∷ (0 ∷ 0 ∷ 0 ∷ 1 ∷ 0 ∷ 2 ∷ 3 ∷ 3 ∷ 3 ∷ 4 ∷ 4 ∷ 5 ∷ 4 ∷ 6 ∷ []) ∷ (0 ∷ 100 ∷ 1 ∷ 100 ∷ 3 ∷ 100 ∷ 5 ∷ 107 ∷ 6 ∷ 100 ∷ []) ∷ (0 ∷ 0 ∷ 2 ∷ 0 ∷ 3 ∷ 0 ∷ 4 ∷ 0 ∷ 5 ∷ 0 ∷ 6 ∷ 0 ∷ []) ∷ (0 ∷ 0 ∷ 1 ∷ 0 ∷ 0 ∷ 3 ∷ 0 ∷ 1 ∷ 2 ∷ 2 ∷ 0 ∷ 1 ∷ 0 ∷ 5 ∷ 5 ∷ 0 ∷ 2 ∷ 1 ∷ 6 ∷ 6 ∷ []) ∷ (1 ∷ 0 ∷ 0 ∷ 2 ∷ 0 ∷ 0 ∷ 1 ∷ 3 ∷ 0 ∷ 0 ∷ 3 ∷ 1 ∷ 0 ∷ 0 ∷ 0 ∷ []) ∷ (0 ∷ 3 ∷ 7 ∷ 11 ∷ []) ∷ (0 ∷ 1 ∷ 2 ∷ 3 ∷ []) ∷ (0 ∷ 0 ∷ 0 ∷ 0 ∷ 1 ∷ 0 ∷ 0 ∷ 0 ∷ 0 ∷ 3 ∷ 1 ∷ 0 ∷ 1 ∷ 3 ∷ 0 ∷ 0 ∷ 0 ∷ 0 ∷ 2 ∷ 0 ∷ 0 ∷ 3 ∷ 3 ∷ 0 ∷ 0 ∷ 0 ∷ 4 ∷ 0 ∷ 1 ∷ 0 ∷ 2 ∷ 0 ∷ 3 ∷ 3 ∷ 2 ∷ 0 ∷ 0 ∷ 0 ∷ 5 ∷ 0 ∷ 1 ∷ 0 ∷ 3 ∷ 0 ∷ []) ∷ ([]) ∷ [])
unfolding step bits bytes crc5_of crc16_of after format_of format_ok format_reason reason_of checked_of transaction_status extract_payload details_of with_type with_detail fresh is_read is_set_configuration is_set_interface kind_by kind_of laid is_whole whole_in whole is_of first_of max_of value_of chunks applied count_set note_of with_max device_after count_after shelf_after row_after setup_group control_group begin_group repeat_group other_group group_status group_update group_early_start group_early_append transaction_update event_update handle_raw_packet handle_event handle_detail finish
run-keepalives = refl

run-single-events :
    Leaves (event 1 101 0 ∷ event 7 107 1 ∷ event 2 102 2 ∷ event 5 105 3 ∷ finishing ∷ [])
    (([]) ∷ (0 ∷ []) ∷ (0 ∷ 16 ∷ 0 ∷ 0 ∷ 17 ∷ 0 ∷ 0 ∷ 18 ∷ 0 ∷ []) ∷ (0 ∷ 0 ∷ 0 ∷ 1 ∷ 0 ∷ 2 ∷ 0 ∷ 3 ∷ []) ∷ (0 ∷ 101 ∷ 1 ∷ 107 ∷ 2 ∷ 102 ∷ 3 ∷ 105 ∷ []) ∷ (0 ∷ 0 ∷ 1 ∷ 0 ∷ 2 ∷ 0 ∷ 3 ∷ 0 ∷ []) ∷ (0 ∷ 0 ∷ 0 ∷ 0 ∷ 0 ∷ 0 ∷ 1 ∷ 0 ∷ 1 ∷ 1 ∷ 0 ∷ 2 ∷ 0 ∷ 2 ∷ 2 ∷ 0 ∷ 3 ∷ 0 ∷ 3 ∷ 3 ∷ []) ∷ (3 ∷ 0 ∷ 0 ∷ 3 ∷ 0 ∷ 0 ∷ 3 ∷ 0 ∷ 0 ∷ 3 ∷ 0 ∷ 0 ∷ []) ∷ (0 ∷ 3 ∷ 6 ∷ 9 ∷ []) ∷ (0 ∷ 1 ∷ 2 ∷ 3 ∷ []) ∷ (0 ∷ 0 ∷ 0 ∷ 0 ∷ 1 ∷ 0 ∷ 0 ∷ 0 ∷ 0 ∷ 0 ∷ 1 ∷ 0 ∷ 1 ∷ 0 ∷ 1 ∷ 0 ∷ 0 ∷ 0 ∷ 2 ∷ 0 ∷ 1 ∷ 0 ∷ 2 ∷ 0 ∷ 0 ∷ 0 ∷ 3 ∷ 0 ∷ 1 ∷ 0 ∷ 3 ∷ 0 ∷ []) ∷ ([]) ∷ [])
unfolding step bits bytes crc5_of crc16_of after format_of format_ok format_reason reason_of checked_of transaction_status extract_payload details_of with_type with_detail fresh is_read is_set_configuration is_set_interface kind_by kind_of laid is_whole whole_in whole is_of first_of max_of value_of chunks applied count_set note_of with_max device_after count_after shelf_after row_after setup_group control_group begin_group repeat_group other_group group_status group_update group_early_start group_early_append transaction_update event_update handle_raw_packet handle_event handle_detail finish
run-single-events = refl

run-event-ends-transaction :
    Leaves (packet (0xE1 ∷ 0x80 ∷ 0xA0 ∷ []) 0 ∷ packet (0xC3 ∷ 0x00 ∷ 0x01 ∷ 0x02 ∷ 0x03 ∷ 0x04 ∷ 0x05 ∷ 0x06 ∷ 0x07 ∷ 0xB9 ∷ 0x85 ∷ []) 1 ∷ event 1 101 2 ∷ packet (0x2D ∷ 0x00 ∷ 0x10 ∷ []) 3 ∷ event 7 107 4 ∷ packet (0xC3 ∷ 0x00 ∷ 0x01 ∷ 0x02 ∷ 0x03 ∷ 0x04 ∷ 0x05 ∷ 0x06 ∷ 0x07 ∷ 0xB9 ∷ 0x85 ∷ []) 5 ∷ finishing ∷ [])
    ((225 ∷ 128 ∷ 160 ∷ 195 ∷ 0 ∷ 1 ∷ 2 ∷ 3 ∷ 4 ∷ 5 ∷ 6 ∷ 7 ∷ 185 ∷ 133 ∷ 45 ∷ 0 ∷ 16 ∷ 195 ∷ 0 ∷ 1 ∷ 2 ∷ 3 ∷ 4 ∷ 5 ∷ 6 ∷ 7 ∷ 185 ∷ 133 ∷ []) ∷ (0 ∷ []) ∷ (0 ∷ 16 ∷ 0 ∷ 0 ∷ 17 ∷ 0 ∷ 0 ∷ 18 ∷ 0 ∷ 0 ∷ 1 ∷ 0 ∷ 0 ∷ 0 ∷ 0 ∷ []) ∷ (0 ∷ 0 ∷ 3 ∷ 1 ∷ 14 ∷ 2 ∷ 14 ∷ 3 ∷ 17 ∷ 4 ∷ 17 ∷ 5 ∷ []) ∷ (2 ∷ 101 ∷ 4 ∷ 107 ∷ []) ∷ (0 ∷ 0 ∷ 2 ∷ 0 ∷ 3 ∷ 0 ∷ 4 ∷ 0 ∷ 5 ∷ 0 ∷ []) ∷ (3 ∷ 0 ∷ 1 ∷ 0 ∷ 0 ∷ 0 ∷ 0 ∷ 0 ∷ 2 ∷ 2 ∷ 4 ∷ 0 ∷ 1 ∷ 3 ∷ 3 ∷ 0 ∷ 1 ∷ 0 ∷ 4 ∷ 4 ∷ 1 ∷ 0 ∷ 1 ∷ 5 ∷ 5 ∷ 1 ∷ 0 ∷ 0 ∷ 5 ∷ 5 ∷ []) ∷ (0 ∷ 0 ∷ 0 ∷ 1 ∷ 3 ∷ 0 ∷ 0 ∷ 3 ∷ 0 ∷ 0 ∷ 0 ∷ 0 ∷ 1 ∷ 3 ∷ 0 ∷ 0 ∷ 0 ∷ 3 ∷ 0 ∷ 1 ∷ 0 ∷ 0 ∷ 0 ∷ 0 ∷ 3 ∷ 0 ∷ 0 ∷ 0 ∷ []) ∷ (0 ∷ 4 ∷ 8 ∷ 13 ∷ 18 ∷ 23 ∷ []) ∷ (0 ∷ 1 ∷ 2 ∷ 3 ∷ 4 ∷ []) ∷ (0 ∷ 3 ∷ 0 ∷ 0 ∷ 1 ∷ 3 ∷ 0 ∷ 0 ∷ 0 ∷ 0 ∷ 1 ∷ 0 ∷ 1 ∷ 0 ∷ 0 ∷ 0 ∷ 3 ∷ 3 ∷ 1 ∷ 0 ∷ 0 ∷ 4 ∷ 2 ∷ 0 ∷ 1 ∷ 4 ∷ 0 ∷ 0 ∷ 0 ∷ 0 ∷ 3 ∷ 0 ∷ 1 ∷ 0 ∷ 1 ∷ 0 ∷ 3 ∷ 4 ∷ 3 ∷ 0 ∷ 0 ∷ 1 ∷ 4 ∷ 0 ∷ 1 ∷ 1 ∷ 0 ∷ 0 ∷ []) ∷ ([]) ∷ [])
unfolding step bits bytes crc5_of crc16_of after format_of format_ok format_reason reason_of checked_of transaction_status extract_payload details_of with_type with_detail fresh is_read is_set_configuration is_set_interface kind_by kind_of laid is_whole whole_in whole is_of first_of max_of value_of chunks applied count_set note_of with_max device_after count_after shelf_after row_after setup_group control_group begin_group repeat_group other_group group_status group_update group_early_start group_early_append transaction_update event_update handle_raw_packet handle_event handle_detail finish
run-event-ends-transaction = refl

run-resumed-twice :
    Leaves (packet (0xE1 ∷ 0x80 ∷ 0xA0 ∷ []) 0 ∷ event 0 100 1 ∷ packet (0xE1 ∷ 0x80 ∷ 0xA0 ∷ []) 2 ∷ packet (0xC3 ∷ 0x00 ∷ 0x01 ∷ 0x02 ∷ 0x03 ∷ 0x04 ∷ 0x05 ∷ 0x06 ∷ 0x07 ∷ 0xB9 ∷ 0x85 ∷ []) 3 ∷ event 0 100 4 ∷ packet (0xD2 ∷ []) 5 ∷ finishing ∷ [])
    ((225 ∷ 128 ∷ 160 ∷ 225 ∷ 128 ∷ 160 ∷ 195 ∷ 0 ∷ 1 ∷ 2 ∷ 3 ∷ 4 ∷ 5 ∷ 6 ∷ 7 ∷ 185 ∷ 133 ∷ 210 ∷ []) ∷ (0 ∷ []) ∷ (0 ∷ 16 ∷ 0 ∷ 0 ∷ 17 ∷ 0 ∷ 0 ∷ 18 ∷ 0 ∷ 0 ∷ 1 ∷ 0 ∷ []) ∷ (0 ∷ 0 ∷ 3 ∷ 1 ∷ 3 ∷ 2 ∷ 6 ∷ 3 ∷ 17 ∷ 4 ∷ 17 ∷ 5 ∷ []) ∷ (1 ∷ 100 ∷ 4 ∷ 100 ∷ []) ∷ (0 ∷ 0 ∷ 1 ∷ 0 ∷ 2 ∷ 0 ∷ 2 ∷ 0 ∷ 4 ∷ 0 ∷ 5 ∷ 0 ∷ []) ∷ (3 ∷ 0 ∷ 1 ∷ 0 ∷ 0 ∷ 0 ∷ 0 ∷ 1 ∷ 1 ∷ 1 ∷ 3 ∷ 0 ∷ 0 ∷ 5 ∷ 5 ∷ 3 ∷ 1 ∷ 1 ∷ 5 ∷ 5 ∷ []) ∷ (0 ∷ 0 ∷ 0 ∷ 1 ∷ 1 ∷ 0 ∷ 0 ∷ 3 ∷ 2 ∷ 0 ∷ 0 ∷ 3 ∷ 2 ∷ 0 ∷ 0 ∷ 1 ∷ []) ∷ (0 ∷ 4 ∷ 8 ∷ 12 ∷ []) ∷ (0 ∷ 1 ∷ 3 ∷ []) ∷ (0 ∷ 3 ∷ 0 ∷ 0 ∷ 1 ∷ 3 ∷ 0 ∷ 0 ∷ 0 ∷ 0 ∷ 1 ∷ 0 ∷ 1 ∷ 0 ∷ 0 ∷ 0 ∷ 0 ∷ 3 ∷ 2 ∷ 0 ∷ 0 ∷ 0 ∷ 4 ∷ 0 ∷ 0 ∷ 3 ∷ 5 ∷ 0 ∷ 1 ∷ 3 ∷ 2 ∷ 0 ∷ 3 ∷ 3 ∷ 2 ∷ 0 ∷ 2 ∷ 3 ∷ 2 ∷ 0 ∷ []) ∷ ([]) ∷ [])
unfolding step bits bytes crc5_of crc16_of after format_of format_ok format_reason reason_of checked_of transaction_status extract_payload details_of with_type with_detail fresh is_read is_set_configuration is_set_interface kind_by kind_of laid is_whole whole_in whole is_of first_of max_of value_of chunks applied count_set note_of with_max device_after count_after shelf_after row_after setup_group control_group begin_group repeat_group other_group group_status group_update group_early_start group_early_append transaction_update event_update handle_raw_packet handle_event handle_detail finish
run-resumed-twice = refl

run-waiting-taken :
    Leaves (packet (0x78 ∷ 0x01 ∷ 0x01 ∷ 0x16 ∷ []) 0 ∷ packet (0xE1 ∷ 0x80 ∷ 0xA0 ∷ []) 1 ∷ packet (0xC3 ∷ 0x00 ∷ 0x01 ∷ 0x02 ∷ 0x03 ∷ 0x04 ∷ 0x05 ∷ 0x06 ∷ 0x07 ∷ 0xB9 ∷ 0x85 ∷ []) 2 ∷ packet (0x78 ∷ 0x81 ∷ 0x01 ∷ 0xCE ∷ []) 3 ∷ packet (0xE1 ∷ 0x80 ∷ 0xA0 ∷ []) 4 ∷ packet (0x96 ∷ []) 5 ∷ packet (0x78 ∷ 0x81 ∷ 0x01 ∷ 0xCE ∷ []) 6 ∷ packet (0xE1 ∷ 0x80 ∷ 0xA0 ∷ []) 7 ∷ packet (0xD2 ∷ []) 8 ∷ finishing ∷ [])
    ((120 ∷ 1 ∷ 1 ∷ 22 ∷ 225 ∷ 128 ∷ 160 ∷ 195 ∷ 0 ∷ 1 ∷ 2 ∷ 3 ∷ 4 ∷ 5 ∷ 6 ∷ 7 ∷ 185 ∷ 133 ∷ 120 ∷ 129 ∷ 1 ∷ 206 ∷ 225 ∷ 128 ∷ 160 ∷ 150 ∷ 120 ∷ 129 ∷ 1 ∷ 206 ∷ 225 ∷ 128 ∷ 160 ∷ 210 ∷ []) ∷ (0 ∷ []) ∷ (0 ∷ 16 ∷ 0 ∷ 0 ∷ 17 ∷ 0 ∷ 0 ∷ 18 ∷ 0 ∷ 0 ∷ 1 ∷ 0 ∷ []) ∷ (0 ∷ 0 ∷ 4 ∷ 1 ∷ 7 ∷ 2 ∷ 18 ∷ 3 ∷ 22 ∷ 4 ∷ 25 ∷ 5 ∷ 26 ∷ 6 ∷ 30 ∷ 7 ∷ 33 ∷ 8 ∷ []) ∷ ([]) ∷ (0 ∷ 0 ∷ 3 ∷ 0 ∷ 6 ∷ 0 ∷ []) ∷ (3 ∷ 0 ∷ 1 ∷ 2 ∷ 2 ∷ 3 ∷ 0 ∷ 0 ∷ 8 ∷ 8 ∷ 3 ∷ 1 ∷ 1 ∷ 8 ∷ 8 ∷ []) ∷ (0 ∷ 0 ∷ 0 ∷ 1 ∷ 0 ∷ 0 ∷ 0 ∷ 3 ∷ 0 ∷ 0 ∷ 0 ∷ 1 ∷ []) ∷ (0 ∷ 4 ∷ 8 ∷ []) ∷ (0 ∷ 2 ∷ []) ∷ (0 ∷ 3 ∷ 0 ∷ 0 ∷ 1 ∷ 3 ∷ 0 ∷ 0 ∷ 0 ∷ 3 ∷ 1 ∷ 0 ∷ 0 ∷ 3 ∷ 2 ∷ 0 ∷ 1 ∷ 3 ∷ 2 ∷ 0 ∷ 3 ∷ 3 ∷ 1 ∷ 0 ∷ []) ∷ ([]) ∷ [])
unfolding step bits bytes crc5_of crc16_of after format_of format_ok format_reason reason_of checked_of transaction_status extract_payload details_of with_type with_detail fresh is_read is_set_configuration is_set_interface kind_by kind_of laid is_whole whole_in whole is_of first_of max_of value_of chunks applied count_set note_of with_max device_after count_after shelf_after row_after setup_group control_group begin_group repeat_group other_group group_status group_update group_early_start group_early_append transaction_update event_update handle_raw_packet handle_event handle_detail finish
run-waiting-taken = refl

run-waiting-counted :
    Leaves (packet (0x78 ∷ 0x01 ∷ 0x01 ∷ 0x16 ∷ []) 0 ∷ packet (0xE1 ∷ 0x80 ∷ 0xA0 ∷ []) 1 ∷ packet (0xC3 ∷ 0x00 ∷ 0x01 ∷ 0x02 ∷ 0x03 ∷ 0x04 ∷ 0x05 ∷ 0x06 ∷ 0x07 ∷ 0xB9 ∷ 0x85 ∷ []) 2 ∷ packet (0x78 ∷ 0x81 ∷ 0x01 ∷ 0xCE ∷ []) 3 ∷ packet (0xE1 ∷ 0x80 ∷ 0xA0 ∷ []) 4 ∷ packet (0xD2 ∷ []) 5 ∷ finishing ∷ [])
    ((120 ∷ 1 ∷ 1 ∷ 22 ∷ 225 ∷ 128 ∷ 160 ∷ 195 ∷ 0 ∷ 1 ∷ 2 ∷ 3 ∷ 4 ∷ 5 ∷ 6 ∷ 7 ∷ 185 ∷ 133 ∷ 120 ∷ 129 ∷ 1 ∷ 206 ∷ 225 ∷ 128 ∷ 160 ∷ 210 ∷ []) ∷ (0 ∷ []) ∷ (0 ∷ 16 ∷ 0 ∷ 0 ∷ 17 ∷ 0 ∷ 0 ∷ 18 ∷ 0 ∷ 0 ∷ 1 ∷ 0 ∷ []) ∷ (0 ∷ 0 ∷ 4 ∷ 1 ∷ 7 ∷ 2 ∷ 18 ∷ 3 ∷ 22 ∷ 4 ∷ 25 ∷ 5 ∷ []) ∷ ([]) ∷ (0 ∷ 0 ∷ 3 ∷ 0 ∷ []) ∷ (3 ∷ 0 ∷ 1 ∷ 2 ∷ 2 ∷ 3 ∷ 0 ∷ 0 ∷ 5 ∷ 5 ∷ 3 ∷ 1 ∷ 1 ∷ 5 ∷ 5 ∷ []) ∷ (0 ∷ 0 ∷ 0 ∷ 1 ∷ 0 ∷ 0 ∷ 0 ∷ 3 ∷ 0 ∷ 0 ∷ 0 ∷ 1 ∷ []) ∷ (0 ∷ 4 ∷ 8 ∷ []) ∷ (0 ∷ 2 ∷ []) ∷ (0 ∷ 3 ∷ 0 ∷ 0 ∷ 1 ∷ 3 ∷ 0 ∷ 0 ∷ 0 ∷ 3 ∷ 1 ∷ 0 ∷ 1 ∷ 3 ∷ 1 ∷ 0 ∷ 3 ∷ 3 ∷ 1 ∷ 0 ∷ 2 ∷ 3 ∷ 0 ∷ 0 ∷ []) ∷ ([]) ∷ [])
unfolding step bits bytes crc5_of crc16_of after format_of format_ok format_reason reason_of checked_of transaction_status extract_payload details_of with_type with_detail fresh is_read is_set_configuration is_set_interface kind_by kind_of laid is_whole whole_in whole is_of first_of max_of value_of chunks applied count_set note_of with_max device_after count_after shelf_after row_after setup_group control_group begin_group repeat_group other_group group_status group_update group_early_start group_early_append transaction_update event_update handle_raw_packet handle_event handle_detail finish
run-waiting-counted = refl

run-bulk-complete-ack :
    Leaves (packet (0x78 ∷ 0x81 ∷ 0x01 ∷ 0x9C ∷ []) 0 ∷ packet (0xE1 ∷ 0x80 ∷ 0xA0 ∷ []) 1 ∷ packet (0xD2 ∷ []) 2 ∷ finishing ∷ [])
    ((120 ∷ 129 ∷ 1 ∷ 156 ∷ 225 ∷ 128 ∷ 160 ∷ 210 ∷ []) ∷ (0 ∷ []) ∷ (0 ∷ 16 ∷ 0 ∷ 0 ∷ 17 ∷ 0 ∷ 0 ∷ 18 ∷ 0 ∷ 0 ∷ 1 ∷ 0 ∷ []) ∷ (0 ∷ 0 ∷ 4 ∷ 1 ∷ 7 ∷ 2 ∷ []) ∷ ([]) ∷ (0 ∷ 0 ∷ 2 ∷ 0 ∷ []) ∷ (1 ∷ 0 ∷ 1 ∷ 2 ∷ 2 ∷ 1 ∷ 0 ∷ 0 ∷ 2 ∷ 2 ∷ []) ∷ (0 ∷ 1 ∷ 0 ∷ 0 ∷ 0 ∷ 3 ∷ 0 ∷ 0 ∷ []) ∷ (0 ∷ 4 ∷ []) ∷ (0 ∷ []) ∷ (0 ∷ 3 ∷ 0 ∷ 0 ∷ 0 ∷ 1 ∷ 1 ∷ 0 ∷ 1 ∷ 1 ∷ 0 ∷ 0 ∷ []) ∷ ([]) ∷ [])
unfolding step bits bytes crc5_of crc16_of after format_of format_ok format_reason reason_of checked_of transaction_status extract_payload details_of with_type with_detail fresh is_read is_set_configuration is_set_interface kind_by kind_of laid is_whole whole_in whole is_of first_of max_of value_of chunks applied count_set note_of with_max device_after count_after shelf_after row_after setup_group control_group begin_group repeat_group other_group group_status group_update group_early_start group_early_append transaction_update event_update handle_raw_packet handle_event handle_detail finish
run-bulk-complete-ack = refl

run-setup-outlives :
    Leaves (packet (0x2D ∷ 0x00 ∷ 0x10 ∷ []) 0 ∷ packet (0xC3 ∷ 0x00 ∷ 0x09 ∷ 0x01 ∷ 0x00 ∷ 0x00 ∷ 0x00 ∷ 0x08 ∷ 0x00 ∷ 0x20 ∷ 0xE5 ∷ []) 1 ∷ packet (0xD2 ∷ []) 2 ∷ packet (0xE1 ∷ 0x00 ∷ 0x10 ∷ []) 3 ∷ packet (0x4B ∷ 0x00 ∷ 0x01 ∷ 0x02 ∷ 0x03 ∷ 0x04 ∷ 0x05 ∷ 0x06 ∷ 0x07 ∷ 0xB9 ∷ 0x85 ∷ []) 4 ∷ packet (0xD2 ∷ []) 5 ∷ packet (0x69 ∷ 0x00 ∷ 0x10 ∷ []) 6 ∷ packet (0x4B ∷ 0x00 ∷ 0x00 ∷ []) 7 ∷ packet (0xD2 ∷ []) 8 ∷ packet (0xE1 ∷ 0x00 ∷ 0x10 ∷ []) 9 ∷ packet (0x4B ∷ 0x00 ∷ 0x01 ∷ 0x02 ∷ 0x03 ∷ 0x04 ∷ 0x05 ∷ 0x06 ∷ 0x07 ∷ 0xB9 ∷ 0x85 ∷ []) 10 ∷ packet (0xD2 ∷ []) 11 ∷ packet (0x69 ∷ 0x00 ∷ 0x10 ∷ []) 12 ∷ packet (0x4B ∷ 0x00 ∷ 0x00 ∷ []) 13 ∷ packet (0xD2 ∷ []) 14 ∷ finishing ∷ [])
    ((45 ∷ 0 ∷ 16 ∷ 195 ∷ 0 ∷ 9 ∷ 1 ∷ 0 ∷ 0 ∷ 0 ∷ 8 ∷ 0 ∷ 32 ∷ 229 ∷ 210 ∷ 225 ∷ 0 ∷ 16 ∷ 75 ∷ 0 ∷ 1 ∷ 2 ∷ 3 ∷ 4 ∷ 5 ∷ 6 ∷ 7 ∷ 185 ∷ 133 ∷ 210 ∷ 105 ∷ 0 ∷ 16 ∷ 75 ∷ 0 ∷ 0 ∷ 210 ∷ 225 ∷ 0 ∷ 16 ∷ 75 ∷ 0 ∷ 1 ∷ 2 ∷ 3 ∷ 4 ∷ 5 ∷ 6 ∷ 7 ∷ 185 ∷ 133 ∷ 210 ∷ 105 ∷ 0 ∷ 16 ∷ 75 ∷ 0 ∷ 0 ∷ 210 ∷ []) ∷ (0 ∷ []) ∷ (0 ∷ 16 ∷ 0 ∷ 0 ∷ 17 ∷ 0 ∷ 0 ∷ 18 ∷ 0 ∷ 0 ∷ 0 ∷ 0 ∷ []) ∷ (0 ∷ 0 ∷ 3 ∷ 1 ∷ 14 ∷ 2 ∷ 15 ∷ 3 ∷ 18 ∷ 4 ∷ 29 ∷ 5 ∷ 30 ∷ 6 ∷ 33 ∷ 7 ∷ 36 ∷ 8 ∷ 37 ∷ 9 ∷ 40 ∷ 10 ∷ 51 ∷ 11 ∷ 52 ∷ 12 ∷ 55 ∷ 13 ∷ 58 ∷ 14 ∷ []) ∷ ([]) ∷ (0 ∷ 0 ∷ 3 ∷ 0 ∷ 6 ∷ 0 ∷ 9 ∷ 0 ∷ 12 ∷ 0 ∷ []) ∷ (3 ∷ 0 ∷ 1 ∷ 0 ∷ 0 ∷ 3 ∷ 0 ∷ 0 ∷ 8 ∷ 8 ∷ 3 ∷ 1 ∷ 1 ∷ 9 ∷ 9 ∷ 3 ∷ 1 ∷ 0 ∷ 14 ∷ 14 ∷ []) ∷ (0 ∷ 0 ∷ 0 ∷ 1 ∷ 0 ∷ 0 ∷ 0 ∷ 3 ∷ 0 ∷ 0 ∷ 0 ∷ 1 ∷ 0 ∷ 0 ∷ 0 ∷ 3 ∷ []) ∷ (0 ∷ 4 ∷ 8 ∷ 12 ∷ []) ∷ (0 ∷ 2 ∷ []) ∷ (0 ∷ 3 ∷ 0 ∷ 0 ∷ 1 ∷ 3 ∷ 0 ∷ 0 ∷ 0 ∷ 3 ∷ 1 ∷ 0 ∷ 2 ∷ 3 ∷ 1 ∷ 0 ∷ 0 ∷ 3 ∷ 2 ∷ 0 ∷ 0 ∷ 3 ∷ 3 ∷ 0 ∷ 1 ∷ 3 ∷ 3 ∷ 0 ∷ 3 ∷ 3 ∷ 1 ∷ 0 ∷ 2 ∷ 3 ∷ 3 ∷ 8 ∷ 0 ∷ 3 ∷ 4 ∷ 0 ∷ []) ∷ (3 ∷ 2251799813753088 ∷ 8 ∷ 3 ∷ 3 ∷ 2251799813753088 ∷ 0 ∷ 3 ∷ []) ∷ [])
unfolding step bits bytes crc5_of crc16_of after format_of format_ok format_reason reason_of checked_of transaction_status extract_payload details_of with_type with_detail fresh is_read is_set_configuration is_set_interface kind_by kind_of laid is_whole whole_in whole is_of first_of max_of value_of chunks applied count_set note_of with_max device_after count_after shelf_after row_after setup_group control_group begin_group repeat_group other_group group_status group_update group_early_start group_early_append transaction_update event_update handle_raw_packet handle_event handle_detail finish
run-setup-outlives = refl

run-ping-on-early :
    Leaves (packet (0x69 ∷ 0x80 ∷ 0xA0 ∷ []) 0 ∷ packet (0xE1 ∷ 0x80 ∷ 0xA0 ∷ []) 1 ∷ packet (0xB4 ∷ 0x80 ∷ 0xA0 ∷ []) 2 ∷ packet (0x5A ∷ []) 3 ∷ finishing ∷ [])
    ((105 ∷ 128 ∷ 160 ∷ 225 ∷ 128 ∷ 160 ∷ 180 ∷ 128 ∷ 160 ∷ 90 ∷ []) ∷ (0 ∷ []) ∷ (0 ∷ 16 ∷ 0 ∷ 0 ∷ 17 ∷ 0 ∷ 0 ∷ 18 ∷ 0 ∷ 0 ∷ 1 ∷ 1 ∷ 0 ∷ 1 ∷ 0 ∷ []) ∷ (0 ∷ 0 ∷ 3 ∷ 1 ∷ 6 ∷ 2 ∷ 9 ∷ 3 ∷ []) ∷ ([]) ∷ (0 ∷ 0 ∷ 1 ∷ 0 ∷ 2 ∷ 0 ∷ []) ∷ (3 ∷ 0 ∷ 1 ∷ 0 ∷ 0 ∷ 4 ∷ 0 ∷ 1 ∷ 1 ∷ 1 ∷ []) ∷ (0 ∷ 0 ∷ 0 ∷ 1 ∷ 0 ∷ 0 ∷ 0 ∷ 2 ∷ 1 ∷ []) ∷ (0 ∷ 4 ∷ []) ∷ (0 ∷ 1 ∷ []) ∷ (0 ∷ 3 ∷ 0 ∷ 0 ∷ 1 ∷ 3 ∷ 0 ∷ 0 ∷ 0 ∷ 4 ∷ 1 ∷ 0 ∷ 1 ∷ 4 ∷ 0 ∷ 0 ∷ 0 ∷ 4 ∷ 2 ∷ 0 ∷ []) ∷ ([]) ∷ [])
unfolding step bits bytes crc5_of crc16_of after format_of format_ok format_reason reason_of checked_of transaction_status extract_payload details_of with_type with_detail fresh is_read is_set_configuration is_set_interface kind_by kind_of laid is_whole whole_in whole is_of first_of max_of value_of chunks applied count_set note_of with_max device_after count_after shelf_after row_after setup_group control_group begin_group repeat_group other_group group_status group_update group_early_start group_early_append transaction_update event_update handle_raw_packet handle_event handle_detail finish
run-ping-on-early = refl

run-ping-on-out :
    Leaves (packet (0xE1 ∷ 0x80 ∷ 0xA0 ∷ []) 0 ∷ packet (0xC3 ∷ 0x00 ∷ 0x01 ∷ 0x02 ∷ 0x03 ∷ 0x04 ∷ 0x05 ∷ 0x06 ∷ 0x07 ∷ 0xB9 ∷ 0x85 ∷ []) 1 ∷ packet (0x5A ∷ []) 2 ∷ packet (0xB4 ∷ 0x80 ∷ 0xA0 ∷ []) 3 ∷ packet (0x5A ∷ []) 4 ∷ packet (0xB4 ∷ 0x80 ∷ 0xA0 ∷ []) 5 ∷ packet (0xD2 ∷ []) 6 ∷ packet (0xE1 ∷ 0x80 ∷ 0xA0 ∷ []) 7 ∷ packet (0xC3 ∷ 0x00 ∷ 0x01 ∷ 0x02 ∷ 0x03 ∷ 0x04 ∷ 0x05 ∷ 0x06 ∷ 0x07 ∷ 0xB9 ∷ 0x85 ∷ []) 8 ∷ packet (0xD2 ∷ []) 9 ∷ finishing ∷ [])
    ((225 ∷ 128 ∷ 160 ∷ 195 ∷ 0 ∷ 1 ∷ 2 ∷ 3 ∷ 4 ∷ 5 ∷ 6 ∷ 7 ∷ 185 ∷ 133 ∷ 90 ∷ 180 ∷ 128 ∷ 160 ∷ 90 ∷ 180 ∷ 128 ∷ 160 ∷ 210 ∷ 225 ∷ 128 ∷ 160 ∷ 195 ∷ 0 ∷ 1 ∷ 2 ∷ 3 ∷ 4 ∷ 5 ∷ 6 ∷ 7 ∷ 185 ∷ 133 ∷ 210 ∷ []) ∷ (0 ∷ []) ∷ (0 ∷ 16 ∷ 0 ∷ 0 ∷ 17 ∷ 0 ∷ 0 ∷ 18 ∷ 0 ∷ 0 ∷ 1 ∷ 0 ∷ []) ∷ (0 ∷ 0 ∷ 3 ∷ 1 ∷ 14 ∷ 2 ∷ 15 ∷ 3 ∷ 18 ∷ 4 ∷ 19 ∷ 5 ∷ 22 ∷ 6 ∷ 23 ∷ 7 ∷ 26 ∷ 8 ∷ 37 ∷ 9 ∷ []) ∷ ([]) ∷ (0 ∷ 0 ∷ 3 ∷ 0 ∷ 5 ∷ 0 ∷ 7 ∷ 0 ∷ []) ∷ (3 ∷ 0 ∷ 1 ∷ 0 ∷ 0 ∷ 3 ∷ 0 ∷ 0 ∷ 9 ∷ 9 ∷ 3 ∷ 1 ∷ 1 ∷ 9 ∷ 9 ∷ []) ∷ (0 ∷ 0 ∷ 0 ∷ 1 ∷ 0 ∷ 0 ∷ 0 ∷ 3 ∷ 0 ∷ 0 ∷ 0 ∷ 1 ∷ []) ∷ (0 ∷ 4 ∷ 8 ∷ []) ∷ (0 ∷ 2 ∷ []) ∷ (0 ∷ 3 ∷ 0 ∷ 0 ∷ 1 ∷ 3 ∷ 0 ∷ 0 ∷ 0 ∷ 3 ∷ 1 ∷ 0 ∷ 0 ∷ 3 ∷ 2 ∷ 0 ∷ 0 ∷ 3 ∷ 3 ∷ 0 ∷ 1 ∷ 3 ∷ 3 ∷ 0 ∷ 3 ∷ 3 ∷ 1 ∷ 0 ∷ 2 ∷ 3 ∷ 3 ∷ 0 ∷ []) ∷ ([]) ∷ [])
unfolding step bits bytes crc5_of crc16_of after format_of format_ok format_reason reason_of checked_of transaction_status extract_payload details_of with_type with_detail fresh is_read is_set_configuration is_set_interface kind_by kind_of laid is_whole whole_in whole is_of first_of max_of value_of chunks applied count_set note_of with_max device_after count_after shelf_after row_after setup_group control_group begin_group repeat_group other_group group_status group_update group_early_start group_early_append transaction_update event_update handle_raw_packet handle_event handle_detail finish
run-ping-on-out = refl

run-second-setup :
    Leaves (packet (0x2D ∷ 0x00 ∷ 0x10 ∷ []) 0 ∷ packet (0x2D ∷ 0x00 ∷ 0x10 ∷ []) 1 ∷ packet (0xC3 ∷ 0x00 ∷ 0x01 ∷ 0x02 ∷ 0x03 ∷ 0x04 ∷ 0x05 ∷ 0x06 ∷ 0x07 ∷ 0xB9 ∷ 0x85 ∷ []) 2 ∷ packet (0xD2 ∷ []) 3 ∷ finishing ∷ [])
    ((45 ∷ 0 ∷ 16 ∷ 45 ∷ 0 ∷ 16 ∷ 195 ∷ 0 ∷ 1 ∷ 2 ∷ 3 ∷ 4 ∷ 5 ∷ 6 ∷ 7 ∷ 185 ∷ 133 ∷ 210 ∷ []) ∷ (0 ∷ []) ∷ (0 ∷ 16 ∷ 0 ∷ 0 ∷ 17 ∷ 0 ∷ 0 ∷ 18 ∷ 0 ∷ 0 ∷ 0 ∷ 0 ∷ []) ∷ (0 ∷ 0 ∷ 3 ∷ 1 ∷ 6 ∷ 2 ∷ 17 ∷ 3 ∷ []) ∷ ([]) ∷ (0 ∷ 0 ∷ 1 ∷ 0 ∷ []) ∷ (3 ∷ 0 ∷ 1 ∷ 0 ∷ 0 ∷ 3 ∷ 0 ∷ 0 ∷ 1 ∷ 1 ∷ 3 ∷ 1 ∷ 1 ∷ 1 ∷ 1 ∷ []) ∷ (0 ∷ 0 ∷ 0 ∷ 1 ∷ 0 ∷ 0 ∷ 0 ∷ 3 ∷ 0 ∷ 0 ∷ 0 ∷ 1 ∷ []) ∷ (0 ∷ 4 ∷ 8 ∷ []) ∷ (0 ∷ 2 ∷ []) ∷ (0 ∷ 3 ∷ 0 ∷ 0 ∷ 1 ∷ 3 ∷ 0 ∷ 0 ∷ 0 ∷ 3 ∷ 1 ∷ 0 ∷ 1 ∷ 3 ∷ 1 ∷ 0 ∷ 3 ∷ 3 ∷ 1 ∷ 0 ∷ []) ∷ ([]) ∷ [])
unfolding step bits bytes crc5_of crc16_of after format_of format_ok format_reason reason_of checked_of transaction_status extract_payload details_of with_type with_detail fresh is_read is_set_configuration is_set_interface kind_by kind_of laid is_whole whole_in whole is_of first_of max_of value_of chunks applied count_set note_of with_max device_after count_after shelf_after row_after setup_group control_group begin_group repeat_group other_group group_status group_update group_early_start group_early_append transaction_update event_update handle_raw_packet handle_event handle_detail finish
run-second-setup = refl

run-truncated-download :
    Leaves (detail 0 1 0 2 8 ∷ packet (0xE1 ∷ 0x80 ∷ 0xA0 ∷ []) 1 ∷ packet (0xC3 ∷ 0x00 ∷ 0x01 ∷ 0x02 ∷ 0x03 ∷ 0x04 ∷ 0x05 ∷ 0x06 ∷ 0x07 ∷ 0xB9 ∷ 0x85 ∷ []) 2 ∷ packet (0xD2 ∷ []) 3 ∷ packet (0xE1 ∷ 0x80 ∷ 0xA0 ∷ []) 4 ∷ packet (0x4B ∷ 0x00 ∷ 0x01 ∷ 0x02 ∷ 0x03 ∷ 0x04 ∷ 0x05 ∷ 0x06 ∷ 0x07 ∷ 0xB9 ∷ 0x85 ∷ []) 5 ∷ packet (0x5A ∷ []) 6 ∷ packet (0xE1 ∷ 0x80 ∷ 0xA0 ∷ []) 7 ∷ packet (0x4B ∷ 0x00 ∷ 0x01 ∷ 0x02 ∷ 0x03 ∷ 0x04 ∷ 0x05 ∷ 0x06 ∷ 0x07 ∷ 0xB9 ∷ 0x85 ∷ []) 8 ∷ packet (0xD3 ∷ []) 9 ∷ packet (0xE1 ∷ 0x80 ∷ 0xA0 ∷ []) 10 ∷ packet (0x4B ∷ 0x00 ∷ 0x01 ∷ 0x02 ∷ 0x03 ∷ 0x04 ∷ 0x05 ∷ 0x06 ∷ 0x07 ∷ 0xB9 ∷ 0x85 ∷ []) 11 ∷ packet (0xD2 ∷ []) 12 ∷ finishing ∷ [])
    ((225 ∷ 128 ∷ 160 ∷ 195 ∷ 0 ∷ 1 ∷ 2 ∷ 3 ∷ 4 ∷ 5 ∷ 6 ∷ 7 ∷ 185 ∷ 133 ∷ 210 ∷ 225 ∷ 128 ∷ 160 ∷ 75 ∷ 0 ∷ 1 ∷ 2 ∷ 3 ∷ 4 ∷ 5 ∷ 6 ∷ 7 ∷ 185 ∷ 133 ∷ 90 ∷ 225 ∷ 128 ∷ 160 ∷ 75 ∷ 0 ∷ 1 ∷ 2 ∷ 3 ∷ 4 ∷ 5 ∷ 6 ∷ 7 ∷ 185 ∷ 133 ∷ 211 ∷ 225 ∷ 128 ∷ 160 ∷ 75 ∷ 0 ∷ 1 ∷ 2 ∷ 3 ∷ 4 ∷ 5 ∷ 6 ∷ 7 ∷ 185 ∷ 133 ∷ 210 ∷ []) ∷ (0 ∷ []) ∷ (0 ∷ 16 ∷ 0 ∷ 0 ∷ 17 ∷ 0 ∷ 0 ∷ 18 ∷ 0 ∷ 0 ∷ 1 ∷ 0 ∷ []) ∷ (0 ∷ 1 ∷ 3 ∷ 2 ∷ 14 ∷ 3 ∷ 15 ∷ 4 ∷ 18 ∷ 5 ∷ 29 ∷ 6 ∷ 30 ∷ 7 ∷ 33 ∷ 8 ∷ 44 ∷ 9 ∷ 45 ∷ 10 ∷ 48 ∷ 11 ∷ 59 ∷ 12 ∷ []) ∷ ([]) ∷ (0 ∷ 0 ∷ 3 ∷ 0 ∷ 6 ∷ 0 ∷ 8 ∷ 2 ∷ 9 ∷ 0 ∷ []) ∷ (3 ∷ 0 ∷ 1 ∷ 0 ∷ 1 ∷ 3 ∷ 0 ∷ 0 ∷ 5 ∷ 6 ∷ 3 ∷ 1 ∷ 1 ∷ 5 ∷ 6 ∷ 1 ∷ 0 ∷ 1 ∷ 8 ∷ 9 ∷ 1 ∷ 0 ∷ 0 ∷ 8 ∷ 9 ∷ 3 ∷ 1 ∷ 0 ∷ 11 ∷ 12 ∷ 3 ∷ 2 ∷ 1 ∷ 11 ∷ 12 ∷ []) ∷ (0 ∷ 0 ∷ 0 ∷ 1 ∷ 0 ∷ 0 ∷ 0 ∷ 3 ∷ 0 ∷ 0 ∷ 0 ∷ 1 ∷ 0 ∷ 1 ∷ 0 ∷ 2 ∷ 0 ∷ 3 ∷ 0 ∷ 2 ∷ 0 ∷ 0 ∷ 0 ∷ 3 ∷ 0 ∷ 0 ∷ 0 ∷ 1 ∷ []) ∷ (0 ∷ 4 ∷ 8 ∷ 12 ∷ 16 ∷ 20 ∷ 24 ∷ []) ∷ (0 ∷ 2 ∷ 3 ∷ 6 ∷ []) ∷ (0 ∷ 3 ∷ 0 ∷ 0 ∷ 1 ∷ 3 ∷ 0 ∷ 0 ∷ 2 ∷ 3 ∷ 0 ∷ 0 ∷ 0 ∷ 3 ∷ 1 ∷ 0 ∷ 1 ∷ 3 ∷ 1 ∷ 0 ∷ 3 ∷ 3 ∷ 1 ∷ 0 ∷ 0 ∷ 1 ∷ 3 ∷ 0 ∷ 1 ∷ 1 ∷ 0 ∷ 0 ∷ 0 ∷ 3 ∷ 4 ∷ 0 ∷ 1 ∷ 3 ∷ 2 ∷ 0 ∷ 3 ∷ 1 ∷ 3 ∷ 0 ∷ 3 ∷ 3 ∷ 3 ∷ 0 ∷ 2 ∷ 3 ∷ 2 ∷ 8 ∷ []) ∷ ([]) ∷ [])
unfolding step bits bytes crc5_of crc16_of after format_of format_ok format_reason reason_of checked_of transaction_status extract_payload details_of with_type with_detail fresh is_read is_set_configuration is_set_interface kind_by kind_of laid is_whole whole_in whole is_of first_of max_of value_of chunks applied count_set note_of with_max device_after count_after shelf_after row_after setup_group control_group begin_group repeat_group other_group group_status group_update group_early_start group_early_append transaction_update event_update handle_raw_packet handle_event handle_detail finish
run-truncated-download = refl

run-detail-first :
    Leaves (detail 0 1 1 2 64 ∷ packet (0x69 ∷ 0x80 ∷ 0xA0 ∷ []) 1 ∷ packet (0xC3 ∷ 0x00 ∷ 0x01 ∷ 0x02 ∷ 0x03 ∷ 0x04 ∷ 0x05 ∷ 0x06 ∷ 0x07 ∷ 0x08 ∷ 0x09 ∷ 0x0A ∷ 0x0B ∷ 0x0C ∷ 0x0D ∷ 0x0E ∷ 0x0F ∷ 0x10 ∷ 0x11 ∷ 0x12 ∷ 0x13 ∷ 0x14 ∷ 0x15 ∷ 0x16 ∷ 0x17 ∷ 0x18 ∷ 0x19 ∷ 0x1A ∷ 0x1B ∷ 0x1C ∷ 0x1D ∷ 0x1E ∷ 0x1F ∷ 0x20 ∷ 0x21 ∷ 0x22 ∷ 0x23 ∷ 0x24 ∷ 0x25 ∷ 0x26 ∷ 0x27 ∷ 0x28 ∷ 0x29 ∷ 0x2A ∷ 0x2B ∷ 0x2C ∷ 0x2D ∷ 0x2E ∷ 0x2F ∷ 0x30 ∷ 0x31 ∷ 0x32 ∷ 0x33 ∷ 0x34 ∷ 0x35 ∷ 0x36 ∷ 0x37 ∷ 0x38 ∷ 0x39 ∷ 0x3A ∷ 0x3B ∷ 0x3C ∷ 0x3D ∷ 0x3E ∷ 0x3F ∷ 0x26 ∷ 0xF7 ∷ []) 2 ∷ packet (0xD2 ∷ []) 3 ∷ finishing ∷ [])
    ((105 ∷ 128 ∷ 160 ∷ 195 ∷ 0 ∷ 1 ∷ 2 ∷ 3 ∷ 4 ∷ 5 ∷ 6 ∷ 7 ∷ 8 ∷ 9 ∷ 10 ∷ 11 ∷ 12 ∷ 13 ∷ 14 ∷ 15 ∷ 16 ∷ 17 ∷ 18 ∷ 19 ∷ 20 ∷ 21 ∷ 22 ∷ 23 ∷ 24 ∷ 25 ∷ 26 ∷ 27 ∷ 28 ∷ 29 ∷ 30 ∷ 31 ∷ 32 ∷ 33 ∷ 34 ∷ 35 ∷ 36 ∷ 37 ∷ 38 ∷ 39 ∷ 40 ∷ 41 ∷ 42 ∷ 43 ∷ 44 ∷ 45 ∷ 46 ∷ 47 ∷ 48 ∷ 49 ∷ 50 ∷ 51 ∷ 52 ∷ 53 ∷ 54 ∷ 55 ∷ 56 ∷ 57 ∷ 58 ∷ 59 ∷ 60 ∷ 61 ∷ 62 ∷ 63 ∷ 38 ∷ 247 ∷ 210 ∷ []) ∷ (0 ∷ []) ∷ (0 ∷ 16 ∷ 0 ∷ 0 ∷ 17 ∷ 0 ∷ 0 ∷ 18 ∷ 0 ∷ 0 ∷ 1 ∷ 1 ∷ []) ∷ (0 ∷ 1 ∷ 3 ∷ 2 ∷ 70 ∷ 3 ∷ []) ∷ ([]) ∷ (0 ∷ 0 ∷ []) ∷ (3 ∷ 0 ∷ 1 ∷ 0 ∷ 1 ∷ []) ∷ (0 ∷ 0 ∷ 0 ∷ 1 ∷ []) ∷ (0 ∷ []) ∷ (0 ∷ []) ∷ (0 ∷ 3 ∷ 0 ∷ 0 ∷ 1 ∷ 3 ∷ 0 ∷ 0 ∷ 2 ∷ 3 ∷ 0 ∷ 0 ∷ []) ∷ ([]) ∷ [])
unfolding step bits bytes crc5_of crc16_of after format_of format_ok format_reason reason_of checked_of transaction_status extract_payload details_of with_type with_detail fresh is_read is_set_configuration is_set_interface kind_by kind_of laid is_whole whole_in whole is_of first_of max_of value_of chunks applied count_set note_of with_max device_after count_after shelf_after row_after setup_group control_group begin_group repeat_group other_group group_status group_update group_early_start group_early_append transaction_update event_update handle_raw_packet handle_event handle_detail finish
run-detail-first = refl

run-refused-4 :
    Leaves (packet (0x69 ∷ 0x80 ∷ 0xA0 ∷ []) 0 ∷ packet (0x5A ∷ []) 1 ∷ finishing ∷ [])
    ((105 ∷ 128 ∷ 160 ∷ 90 ∷ []) ∷ (0 ∷ []) ∷ (0 ∷ 16 ∷ 0 ∷ 0 ∷ 17 ∷ 0 ∷ 0 ∷ 18 ∷ 0 ∷ 0 ∷ 1 ∷ 1 ∷ []) ∷ (0 ∷ 0 ∷ 3 ∷ 1 ∷ []) ∷ ([]) ∷ (0 ∷ 0 ∷ []) ∷ (3 ∷ 0 ∷ 1 ∷ 0 ∷ 0 ∷ []) ∷ (0 ∷ 0 ∷ 0 ∷ 1 ∷ []) ∷ (0 ∷ []) ∷ (0 ∷ []) ∷ (0 ∷ 3 ∷ 0 ∷ 0 ∷ 1 ∷ 3 ∷ 0 ∷ 0 ∷ []) ∷ ([]) ∷ [])
unfolding step bits bytes crc5_of crc16_of after format_of format_ok format_reason reason_of checked_of transaction_status extract_payload details_of with_type with_detail fresh is_read is_set_configuration is_set_interface kind_by kind_of laid is_whole whole_in whole is_of first_of max_of value_of chunks applied count_set note_of with_max device_after count_after shelf_after row_after setup_group control_group begin_group repeat_group other_group group_status group_update group_early_start group_early_append transaction_update event_update handle_raw_packet handle_event handle_detail finish
run-refused-4 = refl

run-refused-5 :
    Leaves (finishing ∷ [])
    (([]) ∷ (0 ∷ []) ∷ (0 ∷ 16 ∷ 0 ∷ 0 ∷ 17 ∷ 0 ∷ 0 ∷ 18 ∷ 0 ∷ []) ∷ ([]) ∷ ([]) ∷ ([]) ∷ ([]) ∷ ([]) ∷ ([]) ∷ ([]) ∷ ([]) ∷ ([]) ∷ [])
unfolding step bits bytes crc5_of crc16_of after format_of format_ok format_reason reason_of checked_of transaction_status extract_payload details_of with_type with_detail fresh is_read is_set_configuration is_set_interface kind_by kind_of laid is_whole whole_in whole is_of first_of max_of value_of chunks applied count_set note_of with_max device_after count_after shelf_after row_after setup_group control_group begin_group repeat_group other_group group_status group_update group_early_start group_early_append transaction_update event_update handle_raw_packet handle_event handle_detail finish
run-refused-5 = refl

run-refused-5-number :
    Leaves (packet (0x69 ∷ 0x80 ∷ 0xA0 ∷ []) 0 ∷ packet (0x5A ∷ []) 1 ∷ finishing ∷ [])
    ((105 ∷ 128 ∷ 160 ∷ 90 ∷ []) ∷ (0 ∷ []) ∷ (0 ∷ 16 ∷ 0 ∷ 0 ∷ 17 ∷ 0 ∷ 0 ∷ 18 ∷ 0 ∷ 0 ∷ 1 ∷ 1 ∷ []) ∷ (0 ∷ 0 ∷ 3 ∷ 1 ∷ []) ∷ ([]) ∷ (0 ∷ 0 ∷ []) ∷ (3 ∷ 0 ∷ 1 ∷ 0 ∷ 0 ∷ []) ∷ (0 ∷ 0 ∷ 0 ∷ 1 ∷ []) ∷ (0 ∷ []) ∷ (0 ∷ []) ∷ (0 ∷ 3 ∷ 0 ∷ 0 ∷ 1 ∷ 3 ∷ 0 ∷ 0 ∷ []) ∷ ([]) ∷ [])
unfolding step bits bytes crc5_of crc16_of after format_of format_ok format_reason reason_of checked_of transaction_status extract_payload details_of with_type with_detail fresh is_read is_set_configuration is_set_interface kind_by kind_of laid is_whole whole_in whole is_of first_of max_of value_of chunks applied count_set note_of with_max device_after count_after shelf_after row_after setup_group control_group begin_group repeat_group other_group group_status group_update group_early_start group_early_append transaction_update event_update handle_raw_packet handle_event handle_detail finish
run-refused-5-number = refl

run-refused-6 :
    Leaves (packet (0x69 ∷ 0x80 ∷ 0xA0 ∷ []) 0 ∷ packet (0x5A ∷ []) 1 ∷ finishing ∷ [])
    ((105 ∷ 128 ∷ 160 ∷ 90 ∷ []) ∷ (0 ∷ []) ∷ (0 ∷ 16 ∷ 0 ∷ 0 ∷ 17 ∷ 0 ∷ 0 ∷ 18 ∷ 0 ∷ 0 ∷ 1 ∷ 1 ∷ []) ∷ (0 ∷ 0 ∷ 3 ∷ 1 ∷ []) ∷ ([]) ∷ (0 ∷ 0 ∷ []) ∷ (3 ∷ 0 ∷ 1 ∷ 0 ∷ 0 ∷ []) ∷ (0 ∷ 0 ∷ 0 ∷ 1 ∷ []) ∷ (0 ∷ []) ∷ (0 ∷ []) ∷ (0 ∷ 3 ∷ 0 ∷ 0 ∷ 1 ∷ 3 ∷ 0 ∷ 0 ∷ []) ∷ ([]) ∷ [])
unfolding step bits bytes crc5_of crc16_of after format_of format_ok format_reason reason_of checked_of transaction_status extract_payload details_of with_type with_detail fresh is_read is_set_configuration is_set_interface kind_by kind_of laid is_whole whole_in whole is_of first_of max_of value_of chunks applied count_set note_of with_max device_after count_after shelf_after row_after setup_group control_group begin_group repeat_group other_group group_status group_update group_early_start group_early_append transaction_update event_update handle_raw_packet handle_event handle_detail finish
run-refused-6 = refl

run-linked-at-token :
    Leaves (packet (0x2D ∷ 0x00 ∷ 0x10 ∷ []) 0 ∷ packet (0xC3 ∷ 0x80 ∷ 0x06 ∷ 0x00 ∷ 0x01 ∷ 0x00 ∷ 0x00 ∷ 0x12 ∷ 0x00 ∷ 0xE0 ∷ 0xF4 ∷ []) 1 ∷ packet (0xD2 ∷ []) 2 ∷ packet (0x69 ∷ 0x00 ∷ 0x10 ∷ []) 3 ∷ event 0 100 4 ∷ packet (0x4B ∷ 0x00 ∷ 0x01 ∷ 0x02 ∷ 0x03 ∷ 0x04 ∷ 0x05 ∷ 0x06 ∷ 0x07 ∷ 0xB9 ∷ 0x85 ∷ []) 5 ∷ packet (0xD2 ∷ []) 6 ∷ packet (0xE1 ∷ 0x00 ∷ 0x10 ∷ []) 7 ∷ event 0 100 8 ∷ packet (0x4B ∷ 0x00 ∷ 0x00 ∷ []) 9 ∷ packet (0xD2 ∷ []) 10 ∷ finishing ∷ [])
    ((45 ∷ 0 ∷ 16 ∷ 195 ∷ 128 ∷ 6 ∷ 0 ∷ 1 ∷ 0 ∷ 0 ∷ 18 ∷ 0 ∷ 224 ∷ 244 ∷ 210 ∷ 105 ∷ 0 ∷ 16 ∷ 75 ∷ 0 ∷ 1 ∷ 2 ∷ 3 ∷ 4 ∷ 5 ∷ 6 ∷ 7 ∷ 185 ∷ 133 ∷ 210 ∷ 225 ∷ 0 ∷ 16 ∷ 75 ∷ 0 ∷ 0 ∷ 210 ∷ []) ∷ (0 ∷ []) ∷ (0 ∷ 16 ∷ 0 ∷ 0 ∷ 17 ∷ 0 ∷ 0 ∷ 18 ∷ 0 ∷ 0 ∷ 0 ∷ 0 ∷ []) ∷ (0 ∷ 0 ∷ 3 ∷ 1 ∷ 14 ∷ 2 ∷ 15 ∷ 3 ∷ 18 ∷ 4 ∷ 18 ∷ 5 ∷ 29 ∷ 6 ∷ 30 ∷ 7 ∷ 33 ∷ 8 ∷ 33 ∷ 9 ∷ 36 ∷ 10 ∷ []) ∷ (4 ∷ 100 ∷ 8 ∷ 100 ∷ []) ∷ (0 ∷ 0 ∷ 3 ∷ 0 ∷ 4 ∷ 0 ∷ 5 ∷ 0 ∷ 7 ∷ 0 ∷ 8 ∷ 0 ∷ 9 ∷ 0 ∷ []) ∷ (3 ∷ 0 ∷ 1 ∷ 0 ∷ 0 ∷ 0 ∷ 0 ∷ 1 ∷ 4 ∷ 4 ∷ 3 ∷ 0 ∷ 0 ∷ 10 ∷ 10 ∷ []) ∷ (0 ∷ 0 ∷ 0 ∷ 1 ∷ 1 ∷ 0 ∷ 0 ∷ 3 ∷ 2 ∷ 0 ∷ 0 ∷ 3 ∷ []) ∷ (0 ∷ 4 ∷ 8 ∷ []) ∷ (0 ∷ 1 ∷ 2 ∷ []) ∷ (0 ∷ 3 ∷ 0 ∷ 0 ∷ 1 ∷ 3 ∷ 0 ∷ 0 ∷ 0 ∷ 3 ∷ 1 ∷ 0 ∷ 0 ∷ 0 ∷ 2 ∷ 0 ∷ 1 ∷ 0 ∷ 0 ∷ 0 ∷ 0 ∷ 3 ∷ 3 ∷ 0 ∷ 2 ∷ 3 ∷ 2 ∷ 0 ∷ 0 ∷ 3 ∷ 4 ∷ 0 ∷ 0 ∷ 0 ∷ 5 ∷ 0 ∷ 0 ∷ 3 ∷ 6 ∷ 0 ∷ 3 ∷ 3 ∷ 2 ∷ 0 ∷ []) ∷ (3 ∷ 5066549597570688 ∷ 8 ∷ 0 ∷ []) ∷ [])
unfolding step bits bytes crc5_of crc16_of after format_of format_ok format_reason reason_of checked_of transaction_status extract_payload details_of with_type with_detail fresh is_read is_set_configuration is_set_interface kind_by kind_of laid is_whole whole_in whole is_of first_of max_of value_of chunks applied count_set note_of with_max device_after count_after shelf_after row_after setup_group control_group begin_group repeat_group other_group group_status group_update group_early_start group_early_append transaction_update event_update handle_raw_packet handle_event handle_detail finish
run-linked-at-token = refl

run-setup-in-transfer :
    Leaves (packet (0x2D ∷ 0x00 ∷ 0x10 ∷ []) 0 ∷ packet (0xC3 ∷ 0x80 ∷ 0x06 ∷ 0x00 ∷ 0x01 ∷ 0x00 ∷ 0x00 ∷ 0x12 ∷ 0x00 ∷ 0xE0 ∷ 0xF4 ∷ []) 1 ∷ packet (0xD2 ∷ []) 2 ∷ packet (0x69 ∷ 0x00 ∷ 0x10 ∷ []) 3 ∷ packet (0x4B ∷ 0x00 ∷ 0x01 ∷ 0x02 ∷ 0x03 ∷ 0x04 ∷ 0x05 ∷ 0x06 ∷ 0x07 ∷ 0xB9 ∷ 0x85 ∷ []) 4 ∷ packet (0xD2 ∷ []) 5 ∷ packet (0x2D ∷ 0x00 ∷ 0x10 ∷ []) 6 ∷ event 0 100 7 ∷ packet (0xC3 ∷ 0x80 ∷ 0x06 ∷ 0x00 ∷ 0x01 ∷ 0x00 ∷ 0x00 ∷ 0x12 ∷ 0x00 ∷ 0xE0 ∷ 0xF4 ∷ []) 8 ∷ packet (0xD2 ∷ []) 9 ∷ finishing ∷ [])
    ((45 ∷ 0 ∷ 16 ∷ 195 ∷ 128 ∷ 6 ∷ 0 ∷ 1 ∷ 0 ∷ 0 ∷ 18 ∷ 0 ∷ 224 ∷ 244 ∷ 210 ∷ 105 ∷ 0 ∷ 16 ∷ 75 ∷ 0 ∷ 1 ∷ 2 ∷ 3 ∷ 4 ∷ 5 ∷ 6 ∷ 7 ∷ 185 ∷ 133 ∷ 210 ∷ 45 ∷ 0 ∷ 16 ∷ 195 ∷ 128 ∷ 6 ∷ 0 ∷ 1 ∷ 0 ∷ 0 ∷ 18 ∷ 0 ∷ 224 ∷ 244 ∷ 210 ∷ []) ∷ (0 ∷ []) ∷ (0 ∷ 16 ∷ 0 ∷ 0 ∷ 17 ∷ 0 ∷ 0 ∷ 18 ∷ 0 ∷ 0 ∷ 0 ∷ 0 ∷ []) ∷ (0 ∷ 0 ∷ 3 ∷ 1 ∷ 14 ∷ 2 ∷ 15 ∷ 3 ∷ 18 ∷ 4 ∷ 29 ∷ 5 ∷ 30 ∷ 6 ∷ 33 ∷ 7 ∷ 33 ∷ 8 ∷ 44 ∷ 9 ∷ []) ∷ (7 ∷ 100 ∷ []) ∷ (0 ∷ 0 ∷ 3 ∷ 0 ∷ 6 ∷ 0 ∷ 7 ∷ 0 ∷ 8 ∷ 0 ∷ []) ∷ (3 ∷ 0 ∷ 1 ∷ 0 ∷ 0 ∷ 3 ∷ 0 ∷ 0 ∷ 6 ∷ 6 ∷ 3 ∷ 1 ∷ 1 ∷ 6 ∷ 6 ∷ 0 ∷ 0 ∷ 1 ∷ 7 ∷ 7 ∷ []) ∷ (0 ∷ 0 ∷ 0 ∷ 1 ∷ 0 ∷ 0 ∷ 0 ∷ 3 ∷ 0 ∷ 0 ∷ 0 ∷ 1 ∷ 1 ∷ 0 ∷ 0 ∷ 3 ∷ []) ∷ (0 ∷ 4 ∷ 8 ∷ 12 ∷ []) ∷ (0 ∷ 2 ∷ 3 ∷ []) ∷ (0 ∷ 3 ∷ 0 ∷ 0 ∷ 1 ∷ 3 ∷ 0 ∷ 0 ∷ 0 ∷ 3 ∷ 1 ∷ 0 ∷ 2 ∷ 3 ∷ 1 ∷ 0 ∷ 0 ∷ 3 ∷ 2 ∷ 0 ∷ 1 ∷ 3 ∷ 2 ∷ 0 ∷ 3 ∷ 3 ∷ 1 ∷ 0 ∷ 0 ∷ 0 ∷ 3 ∷ 0 ∷ 1 ∷ 0 ∷ 0 ∷ 0 ∷ 0 ∷ 3 ∷ 4 ∷ 0 ∷ []) ∷ ([]) ∷ [])
unfolding step bits bytes crc5_of crc16_of after format_of format_ok format_reason reason_of checked_of transaction_status extract_payload details_of with_type with_detail fresh is_read is_set_configuration is_set_interface kind_by kind_of laid is_whole whole_in whole is_of first_of max_of value_of chunks applied count_set note_of with_max device_after count_after shelf_after row_after setup_group control_group begin_group repeat_group other_group group_status group_update group_early_start group_early_append transaction_update event_update handle_raw_packet handle_event handle_detail finish
run-setup-in-transfer = refl

run-enumeration-1 :
    Leaves (packet (0x2D ∷ 0x00 ∷ 0x10 ∷ []) 2298633644 ∷ packet (0xC3 ∷ 0x80 ∷ 0x06 ∷ 0x00 ∷ 0x01 ∷ 0x00 ∷ 0x00 ∷ 0x12 ∷ 0x00 ∷ 0xE0 ∷ 0xF4 ∷ []) 2298633692 ∷ packet (0xD2 ∷ []) 2298634225 ∷ packet (0x69 ∷ 0x00 ∷ 0x10 ∷ []) 2298634239 ∷ packet (0xC3 ∷ 0xA8 ∷ 0x96 ∷ 0x61 ∷ 0xFE ∷ 0xC0 ∷ 0x8A ∷ 0xA8 ∷ 0x3B ∷ 0x40 ∷ 0x7F ∷ []) 2298635883 ∷ packet (0xD2 ∷ []) 2298637559 ∷ packet (0x69 ∷ 0x00 ∷ 0x10 ∷ []) 2298638339 ∷ packet (0x4B ∷ 0xF7 ∷ 0x35 ∷ 0xAB ∷ 0x27 ∷ 0x8A ∷ 0x84 ∷ 0xBA ∷ 0x6D ∷ 0x61 ∷ 0x35 ∷ []) 2298640027 ∷ packet (0xD2 ∷ []) 2298640609 ∷ packet (0x69 ∷ 0x00 ∷ 0x10 ∷ []) 2298640847 ∷ packet (0xC3 ∷ 0x63 ∷ 0xB2 ∷ 0x56 ∷ 0xCA ∷ []) 2298641065 ∷ packet (0xD2 ∷ []) 2298642302 ∷ packet (0xE1 ∷ 0x00 ∷ 0x10 ∷ []) 2298643194 ∷ packet (0xC3 ∷ 0x00 ∷ 0x00 ∷ []) 2298644894 ∷ packet (0xD2 ∷ []) 2298645097 ∷ packet (0x2D ∷ 0x00 ∷ 0x10 ∷ []) 2298646229 ∷ finishing ∷ [])
    ((45 ∷ 0 ∷ 16 ∷ 195 ∷ 128 ∷ 6 ∷ 0 ∷ 1 ∷ 0 ∷ 0 ∷ 18 ∷ 0 ∷ 224 ∷ 244 ∷ 210 ∷ 105 ∷ 0 ∷ 16 ∷ 195 ∷ 168 ∷ 150 ∷ 97 ∷ 254 ∷ 192 ∷ 138 ∷ 168 ∷ 59 ∷ 64 ∷ 127 ∷ 210 ∷ 105 ∷ 0 ∷ 16 ∷ 75 ∷ 247 ∷ 53 ∷ 171 ∷ 39 ∷ 138 ∷ 132 ∷ 186 ∷ 109 ∷ 97 ∷ 53 ∷ 210 ∷ 105 ∷ 0 ∷ 16 ∷ 195 ∷ 99 ∷ 178 ∷ 86 ∷ 202 ∷ 210 ∷ 225 ∷ 0 ∷ 16 ∷ 195 ∷ 0 ∷ 0 ∷ 210 ∷ 45 ∷ 0 ∷ 16 ∷ []) ∷ (0 ∷ []) ∷ (0 ∷ 16 ∷ 0 ∷ 0 ∷ 17 ∷ 0 ∷ 0 ∷ 18 ∷ 0 ∷ 0 ∷ 0 ∷ 0 ∷ []) ∷ (0 ∷ 2298633644 ∷ 3 ∷ 2298633692 ∷ 14 ∷ 2298634225 ∷ 15 ∷ 2298634239 ∷ 18 ∷ 2298635883 ∷ 29 ∷ 2298637559 ∷ 30 ∷ 2298638339 ∷ 33 ∷ 2298640027 ∷ 44 ∷ 2298640609 ∷ 45 ∷ 2298640847 ∷ 48 ∷ 2298641065 ∷ 53 ∷ 2298642302 ∷ 54 ∷ 2298643194 ∷ 57 ∷ 2298644894 ∷ 60 ∷ 2298645097 ∷ 61 ∷ 2298646229 ∷ []) ∷ ([]) ∷ (0 ∷ 0 ∷ 3 ∷ 0 ∷ 6 ∷ 0 ∷ 9 ∷ 0 ∷ 12 ∷ 0 ∷ 15 ∷ 0 ∷ []) ∷ (3 ∷ 0 ∷ 1 ∷ 0 ∷ 2298633644 ∷ 3 ∷ 0 ∷ 0 ∷ 14 ∷ 2298645097 ∷ 3 ∷ 1 ∷ 1 ∷ 15 ∷ 2298646229 ∷ []) ∷ (0 ∷ 0 ∷ 0 ∷ 1 ∷ 0 ∷ 0 ∷ 0 ∷ 3 ∷ 0 ∷ 0 ∷ 0 ∷ 1 ∷ []) ∷ (0 ∷ 4 ∷ 8 ∷ []) ∷ (0 ∷ 2 ∷ []) ∷ (0 ∷ 3 ∷ 0 ∷ 0 ∷ 1 ∷ 3 ∷ 0 ∷ 0 ∷ 0 ∷ 3 ∷ 1 ∷ 0 ∷ 2 ∷ 3 ∷ 1 ∷ 0 ∷ 0 ∷ 3 ∷ 2 ∷ 0 ∷ 2 ∷ 3 ∷ 2 ∷ 8 ∷ 0 ∷ 3 ∷ 3 ∷ 0 ∷ 2 ∷ 3 ∷ 3 ∷ 16 ∷ 0 ∷ 3 ∷ 4 ∷ 0 ∷ 0 ∷ 3 ∷ 5 ∷ 0 ∷ 1 ∷ 3 ∷ 5 ∷ 0 ∷ 3 ∷ 3 ∷ 1 ∷ 0 ∷ []) ∷ (3 ∷ 5066549597570688 ∷ 18 ∷ 0 ∷ []) ∷ [])
unfolding step bits bytes crc5_of crc16_of after format_of format_ok format_reason reason_of checked_of transaction_status extract_payload details_of with_type with_detail fresh is_read is_set_configuration is_set_interface kind_by kind_of laid is_whole whole_in whole is_of first_of max_of value_of chunks applied count_set note_of with_max device_after count_after shelf_after row_after setup_group control_group begin_group repeat_group other_group group_status group_update group_early_start group_early_append transaction_update event_update handle_raw_packet handle_event handle_detail finish
run-enumeration-1 = refl

run-bulk-2 :
    Leaves (packet (0xE1 ∷ 0x82 ∷ 0x18 ∷ []) 479680626 ∷ packet (0xC3 ∷ 0xFF ∷ 0x6C ∷ 0x35 ∷ 0x77 ∷ 0x61 ∷ 0xAE ∷ 0xF3 ∷ 0x19 ∷ 0x56 ∷ 0x7F ∷ []) 479680995 ∷ packet (0xD2 ∷ []) 479681236 ∷ packet (0xE1 ∷ 0x82 ∷ 0x18 ∷ []) 479682520 ∷ packet (0x4B ∷ 0xE4 ∷ 0x52 ∷ 0x8E ∷ 0x20 ∷ 0x2D ∷ 0x82 ∷ 0x39 ∷ 0x55 ∷ 0x27 ∷ 0x88 ∷ []) 479683236 ∷ packet (0xD2 ∷ []) 479684859 ∷ packet (0xE1 ∷ 0x82 ∷ 0x18 ∷ []) 479686798 ∷ packet (0x4B ∷ 0xBE ∷ 0x6A ∷ 0x87 ∷ 0xB7 ∷ 0x50 ∷ 0x5A ∷ 0xE1 ∷ 0xA0 ∷ 0x6C ∷ 0x5C ∷ []) 479687205 ∷ packet (0xD2 ∷ []) 479687778 ∷ packet (0xE1 ∷ 0x82 ∷ 0x18 ∷ []) 479689102 ∷ packet (0x4B ∷ 0xFE ∷ 0x2B ∷ 0x91 ∷ 0x88 ∷ 0xBB ∷ 0x53 ∷ 0x84 ∷ 0xD0 ∷ 0xE0 ∷ 0xC9 ∷ []) 479689946 ∷ packet (0xD2 ∷ []) 479690238 ∷ packet (0xE1 ∷ 0x82 ∷ 0x18 ∷ []) 479690669 ∷ packet (0xC3 ∷ 0xC3 ∷ 0x37 ∷ 0x8B ∷ 0xDD ∷ 0x0D ∷ 0x56 ∷ 0x28 ∷ 0x9C ∷ 0xBB ∷ 0x0F ∷ []) 479691926 ∷ packet (0xD2 ∷ []) 479692323 ∷ packet (0xE1 ∷ 0x82 ∷ 0x18 ∷ []) 479693378 ∷ finishing ∷ [])
    ((225 ∷ 130 ∷ 24 ∷ 195 ∷ 255 ∷ 108 ∷ 53 ∷ 119 ∷ 97 ∷ 174 ∷ 243 ∷ 25 ∷ 86 ∷ 127 ∷ 210 ∷ 225 ∷ 130 ∷ 24 ∷ 75 ∷ 228 ∷ 82 ∷ 142 ∷ 32 ∷ 45 ∷ 130 ∷ 57 ∷ 85 ∷ 39 ∷ 136 ∷ 210 ∷ 225 ∷ 130 ∷ 24 ∷ 75 ∷ 190 ∷ 106 ∷ 135 ∷ 183 ∷ 80 ∷ 90 ∷ 225 ∷ 160 ∷ 108 ∷ 92 ∷ 210 ∷ 225 ∷ 130 ∷ 24 ∷ 75 ∷ 254 ∷ 43 ∷ 145 ∷ 136 ∷ 187 ∷ 83 ∷ 132 ∷ 208 ∷ 224 ∷ 201 ∷ 210 ∷ 225 ∷ 130 ∷ 24 ∷ 195 ∷ 195 ∷ 55 ∷ 139 ∷ 221 ∷ 13 ∷ 86 ∷ 40 ∷ 156 ∷ 187 ∷ 15 ∷ 210 ∷ 225 ∷ 130 ∷ 24 ∷ []) ∷ (0 ∷ 2 ∷ []) ∷ (0 ∷ 16 ∷ 0 ∷ 0 ∷ 17 ∷ 0 ∷ 0 ∷ 18 ∷ 0 ∷ 1 ∷ 1 ∷ 0 ∷ []) ∷ (0 ∷ 479680626 ∷ 3 ∷ 479680995 ∷ 14 ∷ 479681236 ∷ 15 ∷ 479682520 ∷ 18 ∷ 479683236 ∷ 29 ∷ 479684859 ∷ 30 ∷ 479686798 ∷ 33 ∷ 479687205 ∷ 44 ∷ 479687778 ∷ 45 ∷ 479689102 ∷ 48 ∷ 479689946 ∷ 59 ∷ 479690238 ∷ 60 ∷ 479690669 ∷ 63 ∷ 479691926 ∷ 74 ∷ 479692323 ∷ 75 ∷ 479693378 ∷ []) ∷ ([]) ∷ (0 ∷ 0 ∷ 3 ∷ 0 ∷ 6 ∷ 0 ∷ 9 ∷ 0 ∷ 12 ∷ 0 ∷ 15 ∷ 0 ∷ []) ∷ (3 ∷ 0 ∷ 1 ∷ 0 ∷ 479680626 ∷ []) ∷ (0 ∷ 0 ∷ 0 ∷ 1 ∷ []) ∷ (0 ∷ []) ∷ (0 ∷ []) ∷ (0 ∷ 3 ∷ 0 ∷ 0 ∷ 1 ∷ 3 ∷ 0 ∷ 0 ∷ 2 ∷ 3 ∷ 0 ∷ 0 ∷ 0 ∷ 3 ∷ 1 ∷ 0 ∷ 2 ∷ 3 ∷ 1 ∷ 8 ∷ 0 ∷ 3 ∷ 2 ∷ 0 ∷ 2 ∷ 3 ∷ 2 ∷ 16 ∷ 0 ∷ 3 ∷ 3 ∷ 0 ∷ 2 ∷ 3 ∷ 3 ∷ 24 ∷ 0 ∷ 3 ∷ 4 ∷ 0 ∷ 2 ∷ 3 ∷ 4 ∷ 32 ∷ 0 ∷ 3 ∷ 5 ∷ 0 ∷ []) ∷ ([]) ∷ [])
unfolding step bits bytes crc5_of crc16_of after format_of format_ok format_reason reason_of checked_of transaction_status extract_payload details_of with_type with_detail fresh is_read is_set_configuration is_set_interface kind_by kind_of laid is_whole whole_in whole is_of first_of max_of value_of chunks applied count_set note_of with_max device_after count_after shelf_after row_after setup_group control_group begin_group repeat_group other_group group_status group_update group_early_start group_early_append transaction_update event_update handle_raw_packet handle_event handle_detail finish
run-bulk-2 = refl

run-isochronous-3 :
    Leaves (packet (0xA5 ∷ 0x01 ∷ 0xE8 ∷ []) 3674313155 ∷ packet (0xE1 ∷ 0x01 ∷ 0xC1 ∷ []) 3674314677 ∷ packet (0x87 ∷ 0x7F ∷ 0xF4 ∷ 0xC3 ∷ 0x5C ∷ 0xEA ∷ 0xE6 ∷ 0xF5 ∷ 0xA8 ∷ 0x2D ∷ 0x32 ∷ 0xC6 ∷ 0x93 ∷ 0xD1 ∷ 0x94 ∷ 0xF5 ∷ 0xD4 ∷ 0xBD ∷ 0xD7 ∷ 0x50 ∷ 0x71 ∷ 0xA1 ∷ 0x25 ∷ 0x88 ∷ 0xCF ∷ 0x92 ∷ 0x2B ∷ 0x18 ∷ 0x24 ∷ 0xD0 ∷ 0xE3 ∷ 0x30 ∷ 0xEF ∷ 0x90 ∷ 0x10 ∷ 0x23 ∷ 0xAB ∷ 0xF1 ∷ 0x3C ∷ 0x9E ∷ 0x32 ∷ 0x2F ∷ 0x61 ∷ 0xDF ∷ 0xE6 ∷ 0x57 ∷ 0x42 ∷ 0x83 ∷ 0x04 ∷ 0xCC ∷ 0x3F ∷ 0x08 ∷ 0x2F ∷ 0x8D ∷ 0x97 ∷ 0x7B ∷ 0x2E ∷ 0x38 ∷ 0x21 ∷ 0x6B ∷ 0x79 ∷ 0x19 ∷ 0x8F ∷ 0xE5 ∷ 0xE5 ∷ 0xE3 ∷ 0x75 ∷ []) 3674315402 ∷ packet (0xA5 ∷ 0x02 ∷ 0xA8 ∷ []) 3674316624 ∷ packet (0xE1 ∷ 0x01 ∷ 0xC1 ∷ []) 3674318125 ∷ packet (0x4B ∷ 0x00 ∷ 0x00 ∷ []) 3674318703 ∷ packet (0xA5 ∷ 0x03 ∷ 0x50 ∷ []) 3674319860 ∷ packet (0xE1 ∷ 0x01 ∷ 0xC1 ∷ []) 3674321383 ∷ packet (0xC3 ∷ 0x19 ∷ 0x0C ∷ 0x8E ∷ 0x02 ∷ 0x41 ∷ 0xFA ∷ 0x09 ∷ 0x60 ∷ 0x23 ∷ 0xE5 ∷ 0x74 ∷ 0xB4 ∷ 0x8E ∷ 0xA1 ∷ 0xCC ∷ 0x9C ∷ 0xC7 ∷ 0xF4 ∷ 0xDA ∷ 0xFE ∷ 0x3C ∷ 0x86 ∷ 0x2B ∷ 0x93 ∷ 0xBD ∷ 0x95 ∷ 0x98 ∷ 0xDC ∷ 0x2E ∷ 0x45 ∷ 0x22 ∷ 0x7A ∷ 0xA1 ∷ 0x6F ∷ 0x97 ∷ 0xC5 ∷ 0x48 ∷ 0x1C ∷ 0xBF ∷ 0x1B ∷ 0x8E ∷ 0x49 ∷ 0x06 ∷ 0x6E ∷ 0x5D ∷ 0x99 ∷ 0x86 ∷ 0xFC ∷ 0x6F ∷ 0x88 ∷ 0xC6 ∷ 0x8A ∷ 0x1D ∷ 0xD6 ∷ 0x90 ∷ 0xE0 ∷ 0xA2 ∷ 0x4E ∷ 0xAE ∷ 0x28 ∷ 0x30 ∷ 0x17 ∷ 0x24 ∷ 0x50 ∷ 0x7D ∷ 0x84 ∷ 0xC8 ∷ []) 3674323102 ∷ packet (0x69 ∷ 0x80 ∷ 0xA0 ∷ []) 3674323759 ∷ packet (0x69 ∷ 0x80 ∷ 0xA0 ∷ []) 3674324052 ∷ packet (0x5A ∷ []) 3674324160 ∷ detail 0 1 1 1 64 ∷ packet (0xA5 ∷ 0x04 ∷ 0x28 ∷ []) 3674326079 ∷ packet (0x69 ∷ 0x80 ∷ 0xA0 ∷ []) 3674327314 ∷ packet (0xC3 ∷ 0x00 ∷ 0x00 ∷ []) 3674327943 ∷ finishing ∷ [])
    ((165 ∷ 1 ∷ 232 ∷ 225 ∷ 1 ∷ 193 ∷ 135 ∷ 127 ∷ 244 ∷ 195 ∷ 92 ∷ 234 ∷ 230 ∷ 245 ∷ 168 ∷ 45 ∷ 50 ∷ 198 ∷ 147 ∷ 209 ∷ 148 ∷ 245 ∷ 212 ∷ 189 ∷ 215 ∷ 80 ∷ 113 ∷ 161 ∷ 37 ∷ 136 ∷ 207 ∷ 146 ∷ 43 ∷ 24 ∷ 36 ∷ 208 ∷ 227 ∷ 48 ∷ 239 ∷ 144 ∷ 16 ∷ 35 ∷ 171 ∷ 241 ∷ 60 ∷ 158 ∷ 50 ∷ 47 ∷ 97 ∷ 223 ∷ 230 ∷ 87 ∷ 66 ∷ 131 ∷ 4 ∷ 204 ∷ 63 ∷ 8 ∷ 47 ∷ 141 ∷ 151 ∷ 123 ∷ 46 ∷ 56 ∷ 33 ∷ 107 ∷ 121 ∷ 25 ∷ 143 ∷ 229 ∷ 229 ∷ 227 ∷ 117 ∷ 165 ∷ 2 ∷ 168 ∷ 225 ∷ 1 ∷ 193 ∷ 75 ∷ 0 ∷ 0 ∷ 165 ∷ 3 ∷ 80 ∷ 225 ∷ 1 ∷ 193 ∷ 195 ∷ 25 ∷ 12 ∷ 142 ∷ 2 ∷ 65 ∷ 250 ∷ 9 ∷ 96 ∷ 35 ∷ 229 ∷ 116 ∷ 180 ∷ 142 ∷ 161 ∷ 204 ∷ 156 ∷ 199 ∷ 244 ∷ 218 ∷ 254 ∷ 60 ∷ 134 ∷ 43 ∷ 147 ∷ 189 ∷ 149 ∷ 152 ∷ 220 ∷ 46 ∷ 69 ∷ 34 ∷ 122 ∷ 161 ∷ 111 ∷ 151 ∷ 197 ∷ 72 ∷ 28 ∷ 191 ∷ 27 ∷ 142 ∷ 73 ∷ 6 ∷ 110 ∷ 93 ∷ 153 ∷ 134 ∷ 252 ∷ 111 ∷ 136 ∷ 198 ∷ 138 ∷ 29 ∷ 214 ∷ 144 ∷ 224 ∷ 162 ∷ 78 ∷ 174 ∷ 40 ∷ 48 ∷ 23 ∷ 36 ∷ 80 ∷ 125 ∷ 132 ∷ 200 ∷ 105 ∷ 128 ∷ 160 ∷ 105 ∷ 128 ∷ 160 ∷ 90 ∷ 165 ∷ 4 ∷ 40 ∷ 105 ∷ 128 ∷ 160 ∷ 195 ∷ 0 ∷ 0 ∷ []) ∷ (0 ∷ 1 ∷ []) ∷ (0 ∷ 16 ∷ 0 ∷ 0 ∷ 17 ∷ 0 ∷ 0 ∷ 18 ∷ 0 ∷ 1 ∷ 2 ∷ 0 ∷ 0 ∷ 1 ∷ 1 ∷ []) ∷ (0 ∷ 3674313155 ∷ 3 ∷ 3674314677 ∷ 6 ∷ 3674315402 ∷ 73 ∷ 3674316624 ∷ 76 ∷ 3674318125 ∷ 79 ∷ 3674318703 ∷ 82 ∷ 3674319860 ∷ 85 ∷ 3674321383 ∷ 88 ∷ 3674323102 ∷ 156 ∷ 3674323759 ∷ 159 ∷ 3674324052 ∷ 162 ∷ 3674324160 ∷ 163 ∷ 3674326079 ∷ 166 ∷ 3674327314 ∷ 169 ∷ 3674327943 ∷ []) ∷ ([]) ∷ (0 ∷ 0 ∷ 1 ∷ 0 ∷ 2 ∷ 0 ∷ 3 ∷ 0 ∷ 4 ∷ 0 ∷ 6 ∷ 0 ∷ 7 ∷ 0 ∷ 9 ∷ 0 ∷ 10 ∷ 0 ∷ 12 ∷ 0 ∷ 13 ∷ 0 ∷ []) ∷ (2 ∷ 0 ∷ 1 ∷ 0 ∷ 3674313155 ∷ 3 ∷ 0 ∷ 1 ∷ 1 ∷ 3674314677 ∷ 1 ∷ 0 ∷ 1 ∷ 2 ∷ 3674315402 ∷ 1 ∷ 0 ∷ 0 ∷ 2 ∷ 3674315402 ∷ 3 ∷ 1 ∷ 1 ∷ 4 ∷ 3674318125 ∷ 4 ∷ 0 ∷ 1 ∷ 9 ∷ 3674323759 ∷ 4 ∷ 0 ∷ 0 ∷ 14 ∷ 3674327943 ∷ 4 ∷ 1 ∷ 1 ∷ 14 ∷ 3674327943 ∷ []) ∷ (0 ∷ 0 ∷ 1 ∷ 0 ∷ 0 ∷ 2 ∷ 1 ∷ 0 ∷ 1 ∷ 2 ∷ 2 ∷ 0 ∷ 3 ∷ 2 ∷ 2 ∷ 0 ∷ 0 ∷ 2 ∷ 1 ∷ 0 ∷ 0 ∷ 2 ∷ 2 ∷ 1 ∷ 0 ∷ 0 ∷ 2 ∷ 2 ∷ 3 ∷ 0 ∷ 0 ∷ 2 ∷ 2 ∷ 1 ∷ []) ∷ (0 ∷ 3 ∷ 7 ∷ 11 ∷ 15 ∷ 19 ∷ 24 ∷ 29 ∷ []) ∷ (0 ∷ 1 ∷ 2 ∷ 4 ∷ 5 ∷ 7 ∷ []) ∷ (0 ∷ 2 ∷ 0 ∷ 0 ∷ 1 ∷ 2 ∷ 0 ∷ 0 ∷ 0 ∷ 3 ∷ 1 ∷ 0 ∷ 1 ∷ 3 ∷ 0 ∷ 0 ∷ 0 ∷ 1 ∷ 2 ∷ 0 ∷ 1 ∷ 1 ∷ 0 ∷ 0 ∷ 0 ∷ 2 ∷ 3 ∷ 0 ∷ 0 ∷ 3 ∷ 4 ∷ 0 ∷ 1 ∷ 3 ∷ 1 ∷ 0 ∷ 3 ∷ 1 ∷ 3 ∷ 0 ∷ 3 ∷ 3 ∷ 3 ∷ 0 ∷ 0 ∷ 2 ∷ 5 ∷ 0 ∷ 0 ∷ 3 ∷ 6 ∷ 0 ∷ 0 ∷ 4 ∷ 7 ∷ 0 ∷ 1 ∷ 4 ∷ 0 ∷ 0 ∷ 0 ∷ 4 ∷ 8 ∷ 0 ∷ 0 ∷ 2 ∷ 9 ∷ 0 ∷ 0 ∷ 4 ∷ 10 ∷ 0 ∷ 1 ∷ 4 ∷ 2 ∷ 0 ∷ 3 ∷ 4 ∷ 5 ∷ 0 ∷ 2 ∷ 4 ∷ 2 ∷ 0 ∷ []) ∷ ([]) ∷ [])
unfolding step bits bytes crc5_of crc16_of after format_of format_ok format_reason reason_of checked_of transaction_status extract_payload details_of with_type with_detail fresh is_read is_set_configuration is_set_interface kind_by kind_of laid is_whole whole_in whole is_of first_of max_of value_of chunks applied count_set note_of with_max device_after count_after shelf_after row_after setup_group control_group begin_group repeat_group other_group group_status group_update group_early_start group_early_append transaction_update event_update handle_raw_packet handle_event handle_detail finish
run-isochronous-3 = refl

run-interrupt-4 :
    Leaves (packet (0x69 ∷ 0x00 ∷ 0x39 ∷ []) 3795029496 ∷ packet (0x5A ∷ []) 3795030125 ∷ packet (0x69 ∷ 0x00 ∷ 0x39 ∷ []) 3795031350 ∷ packet (0x5A ∷ []) 3795032559 ∷ packet (0x69 ∷ 0x00 ∷ 0x39 ∷ []) 3795033050 ∷ packet (0x5A ∷ []) 3795034612 ∷ packet (0x69 ∷ 0x00 ∷ 0x39 ∷ []) 3795035585 ∷ packet (0x5A ∷ []) 3795035931 ∷ packet (0x69 ∷ 0x00 ∷ 0x39 ∷ []) 3795037561 ∷ packet (0xC3 ∷ 0x5D ∷ 0x5D ∷ 0x13 ∷ 0x34 ∷ 0x71 ∷ 0x42 ∷ []) 3795039515 ∷ packet (0xD2 ∷ []) 3795040232 ∷ packet (0x69 ∷ 0x00 ∷ 0x39 ∷ []) 3795041865 ∷ packet (0xC3 ∷ 0x04 ∷ 0x68 ∷ 0xA6 ∷ 0x38 ∷ 0x05 ∷ 0x45 ∷ []) 3795043165 ∷ packet (0xD2 ∷ []) 3795043408 ∷ packet (0x69 ∷ 0x00 ∷ 0x39 ∷ []) 3795044471 ∷ packet (0x5A ∷ []) 3795045542 ∷ finishing ∷ [])
    ((105 ∷ 0 ∷ 57 ∷ 90 ∷ 105 ∷ 0 ∷ 57 ∷ 90 ∷ 105 ∷ 0 ∷ 57 ∷ 90 ∷ 105 ∷ 0 ∷ 57 ∷ 90 ∷ 105 ∷ 0 ∷ 57 ∷ 195 ∷ 93 ∷ 93 ∷ 19 ∷ 52 ∷ 113 ∷ 66 ∷ 210 ∷ 105 ∷ 0 ∷ 57 ∷ 195 ∷ 4 ∷ 104 ∷ 166 ∷ 56 ∷ 5 ∷ 69 ∷ 210 ∷ 105 ∷ 0 ∷ 57 ∷ 90 ∷ []) ∷ (0 ∷ []) ∷ (0 ∷ 16 ∷ 0 ∷ 0 ∷ 17 ∷ 0 ∷ 0 ∷ 18 ∷ 0 ∷ 0 ∷ 2 ∷ 1 ∷ []) ∷ (0 ∷ 3795029496 ∷ 3 ∷ 3795030125 ∷ 4 ∷ 3795031350 ∷ 7 ∷ 3795032559 ∷ 8 ∷ 3795033050 ∷ 11 ∷ 3795034612 ∷ 12 ∷ 3795035585 ∷ 15 ∷ 3795035931 ∷ 16 ∷ 3795037561 ∷ 19 ∷ 3795039515 ∷ 26 ∷ 3795040232 ∷ 27 ∷ 3795041865 ∷ 30 ∷ 3795043165 ∷ 37 ∷ 3795043408 ∷ 38 ∷ 3795044471 ∷ 41 ∷ 3795045542 ∷ []) ∷ ([]) ∷ (0 ∷ 0 ∷ 2 ∷ 0 ∷ 4 ∷ 0 ∷ 6 ∷ 0 ∷ 8 ∷ 0 ∷ 11 ∷ 0 ∷ 14 ∷ 0 ∷ []) ∷ (3 ∷ 0 ∷ 1 ∷ 0 ∷ 3795029496 ∷ 3 ∷ 0 ∷ 0 ∷ 10 ∷ 3795040232 ∷ 3 ∷ 1 ∷ 1 ∷ 10 ∷ 3795040232 ∷ 3 ∷ 1 ∷ 0 ∷ 15 ∷ 3795045542 ∷ 3 ∷ 2 ∷ 1 ∷ 15 ∷ 3795045542 ∷ []) ∷ (0 ∷ 0 ∷ 0 ∷ 1 ∷ 0 ∷ 0 ∷ 0 ∷ 3 ∷ 0 ∷ 0 ∷ 0 ∷ 1 ∷ 0 ∷ 0 ∷ 0 ∷ 3 ∷ 0 ∷ 0 ∷ 0 ∷ 1 ∷ []) ∷ (0 ∷ 4 ∷ 8 ∷ 12 ∷ 16 ∷ []) ∷ (0 ∷ 2 ∷ 4 ∷ []) ∷ (0 ∷ 3 ∷ 0 ∷ 0 ∷ 1 ∷ 3 ∷ 0 ∷ 0 ∷ 0 ∷ 3 ∷ 1 ∷ 0 ∷ 0 ∷ 3 ∷ 2 ∷ 0 ∷ 0 ∷ 3 ∷ 3 ∷ 0 ∷ 0 ∷ 3 ∷ 4 ∷ 0 ∷ 1 ∷ 3 ∷ 4 ∷ 0 ∷ 3 ∷ 3 ∷ 1 ∷ 0 ∷ 2 ∷ 3 ∷ 4 ∷ 0 ∷ 0 ∷ 3 ∷ 5 ∷ 0 ∷ 2 ∷ 3 ∷ 5 ∷ 4 ∷ 0 ∷ 3 ∷ 6 ∷ 0 ∷ 1 ∷ 3 ∷ 6 ∷ 0 ∷ 3 ∷ 3 ∷ 2 ∷ 0 ∷ []) ∷ ([]) ∷ [])
unfolding step bits bytes crc5_of crc16_of after format_of format_ok format_reason reason_of checked_of transaction_status extract_payload details_of with_type with_detail fresh is_read is_set_configuration is_set_interface kind_by kind_of laid is_whole whole_in whole is_of first_of max_of value_of chunks applied count_set note_of with_max device_after count_after shelf_after row_after setup_group control_group begin_group repeat_group other_group group_status group_update group_early_start group_early_append transaction_update event_update handle_raw_packet handle_event handle_detail finish
run-interrupt-4 = refl

run-split-5 :
    Leaves (packet (0x78 ∷ 0x01 ∷ 0x01 ∷ 0xE0 ∷ []) 2743715086 ∷ packet (0xE1 ∷ 0x02 ∷ 0xA8 ∷ []) 2743715281 ∷ packet (0x0F ∷ 0xFB ∷ 0x0D ∷ 0x17 ∷ 0x56 ∷ 0x6B ∷ 0xFB ∷ 0x77 ∷ 0xD8 ∷ 0x2C ∷ 0x97 ∷ []) 2743716652 ∷ packet (0x96 ∷ []) 2743717311 ∷ packet (0x78 ∷ 0x81 ∷ 0x01 ∷ 0x38 ∷ []) 2743718094 ∷ packet (0xE1 ∷ 0x02 ∷ 0xA8 ∷ []) 2743718909 ∷ packet (0x78 ∷ 0x81 ∷ 0x01 ∷ 0x38 ∷ []) 2743720242 ∷ packet (0xE1 ∷ 0x02 ∷ 0xA8 ∷ []) 2743722029 ∷ packet (0x3C ∷ []) 2743723686 ∷ packet (0x78 ∷ 0x01 ∷ 0x01 ∷ 0xB2 ∷ []) 2743725443 ∷ packet (0xE1 ∷ 0x01 ∷ 0xC1 ∷ []) 2743726310 ∷ packet (0x4B ∷ 0x6C ∷ 0xF0 ∷ 0x5A ∷ 0x39 ∷ 0xEB ∷ 0x7D ∷ 0x1B ∷ 0x16 ∷ 0xF7 ∷ 0xBB ∷ []) 2743726473 ∷ packet (0xD2 ∷ []) 2743727980 ∷ packet (0x78 ∷ 0x81 ∷ 0x01 ∷ 0x6A ∷ []) 2743729877 ∷ packet (0x78 ∷ 0x81 ∷ 0x01 ∷ 0x6A ∷ []) 2743730272 ∷ packet (0x78 ∷ 0x81 ∷ 0x01 ∷ 0x6A ∷ []) 2743731219 ∷ finishing ∷ [])
    ((120 ∷ 1 ∷ 1 ∷ 224 ∷ 225 ∷ 2 ∷ 168 ∷ 15 ∷ 251 ∷ 13 ∷ 23 ∷ 86 ∷ 107 ∷ 251 ∷ 119 ∷ 216 ∷ 44 ∷ 151 ∷ 150 ∷ 120 ∷ 129 ∷ 1 ∷ 56 ∷ 225 ∷ 2 ∷ 168 ∷ 120 ∷ 129 ∷ 1 ∷ 56 ∷ 225 ∷ 2 ∷ 168 ∷ 60 ∷ 120 ∷ 1 ∷ 1 ∷ 178 ∷ 225 ∷ 1 ∷ 193 ∷ 75 ∷ 108 ∷ 240 ∷ 90 ∷ 57 ∷ 235 ∷ 125 ∷ 27 ∷ 22 ∷ 247 ∷ 187 ∷ 210 ∷ 120 ∷ 129 ∷ 1 ∷ 106 ∷ 120 ∷ 129 ∷ 1 ∷ 106 ∷ 120 ∷ 129 ∷ 1 ∷ 106 ∷ []) ∷ (0 ∷ 2 ∷ 1 ∷ []) ∷ (0 ∷ 16 ∷ 0 ∷ 0 ∷ 17 ∷ 0 ∷ 0 ∷ 18 ∷ 0 ∷ 1 ∷ 0 ∷ 0 ∷ 2 ∷ 2 ∷ 0 ∷ []) ∷ (0 ∷ 2743715086 ∷ 4 ∷ 2743715281 ∷ 7 ∷ 2743716652 ∷ 18 ∷ 2743717311 ∷ 19 ∷ 2743718094 ∷ 23 ∷ 2743718909 ∷ 26 ∷ 2743720242 ∷ 30 ∷ 2743722029 ∷ 33 ∷ 2743723686 ∷ 34 ∷ 2743725443 ∷ 38 ∷ 2743726310 ∷ 41 ∷ 2743726473 ∷ 52 ∷ 2743727980 ∷ 53 ∷ 2743729877 ∷ 57 ∷ 2743730272 ∷ 61 ∷ 2743731219 ∷ []) ∷ ([]) ∷ (0 ∷ 0 ∷ 2 ∷ 0 ∷ 3 ∷ 0 ∷ 4 ∷ 0 ∷ 6 ∷ 0 ∷ 7 ∷ 0 ∷ 8 ∷ 0 ∷ 9 ∷ 0 ∷ 11 ∷ 0 ∷ 12 ∷ 0 ∷ 13 ∷ 0 ∷ 14 ∷ 0 ∷ 15 ∷ 0 ∷ []) ∷ (1 ∷ 0 ∷ 1 ∷ 2 ∷ 2743716652 ∷ 1 ∷ 0 ∷ 0 ∷ 2 ∷ 2743716652 ∷ 1 ∷ 1 ∷ 1 ∷ 3 ∷ 2743717311 ∷ 1 ∷ 1 ∷ 0 ∷ 3 ∷ 2743717311 ∷ 3 ∷ 0 ∷ 1 ∷ 7 ∷ 2743722029 ∷ 1 ∷ 2 ∷ 1 ∷ 8 ∷ 2743723686 ∷ 1 ∷ 2 ∷ 0 ∷ 8 ∷ 2743723686 ∷ 1 ∷ 3 ∷ 1 ∷ 11 ∷ 2743726473 ∷ 1 ∷ 3 ∷ 0 ∷ 11 ∷ 2743726473 ∷ 1 ∷ 4 ∷ 1 ∷ 12 ∷ 2743727980 ∷ 1 ∷ 4 ∷ 0 ∷ 12 ∷ 2743727980 ∷ []) ∷ (0 ∷ 1 ∷ 0 ∷ 0 ∷ 0 ∷ 3 ∷ 0 ∷ 0 ∷ 0 ∷ 1 ∷ 0 ∷ 0 ∷ 0 ∷ 3 ∷ 0 ∷ 0 ∷ 0 ∷ 0 ∷ 0 ∷ 1 ∷ 0 ∷ 1 ∷ 0 ∷ 2 ∷ 0 ∷ 3 ∷ 0 ∷ 2 ∷ 0 ∷ 1 ∷ 0 ∷ 2 ∷ 0 ∷ 0 ∷ 3 ∷ 0 ∷ 2 ∷ 0 ∷ 0 ∷ 1 ∷ 0 ∷ 2 ∷ 0 ∷ 0 ∷ 3 ∷ 0 ∷ 2 ∷ 0 ∷ []) ∷ (0 ∷ 4 ∷ 8 ∷ 12 ∷ 16 ∷ 20 ∷ 24 ∷ 28 ∷ 33 ∷ 38 ∷ 43 ∷ []) ∷ (0 ∷ 2 ∷ 4 ∷ 5 ∷ 7 ∷ 9 ∷ []) ∷ (0 ∷ 3 ∷ 0 ∷ 0 ∷ 0 ∷ 1 ∷ 1 ∷ 0 ∷ 1 ∷ 1 ∷ 0 ∷ 0 ∷ 0 ∷ 1 ∷ 2 ∷ 0 ∷ 1 ∷ 1 ∷ 1 ∷ 0 ∷ 3 ∷ 1 ∷ 1 ∷ 0 ∷ 0 ∷ 3 ∷ 3 ∷ 0 ∷ 0 ∷ 3 ∷ 5 ∷ 0 ∷ 1 ∷ 3 ∷ 2 ∷ 0 ∷ 3 ∷ 1 ∷ 2 ∷ 0 ∷ 0 ∷ 1 ∷ 6 ∷ 0 ∷ 1 ∷ 1 ∷ 2 ∷ 0 ∷ 0 ∷ 4 ∷ 7 ∷ 0 ∷ 0 ∷ 1 ∷ 8 ∷ 0 ∷ 1 ∷ 1 ∷ 3 ∷ 0 ∷ 3 ∷ 1 ∷ 4 ∷ 0 ∷ 0 ∷ 1 ∷ 9 ∷ 0 ∷ 1 ∷ 1 ∷ 4 ∷ 0 ∷ 3 ∷ 1 ∷ 5 ∷ 0 ∷ []) ∷ ([]) ∷ [])
unfolding step bits bytes crc5_of crc16_of after format_of format_ok format_reason reason_of checked_of transaction_status extract_payload details_of with_type with_detail fresh is_read is_set_configuration is_set_interface kind_by kind_of laid is_whole whole_in whole is_of first_of max_of value_of chunks applied count_set note_of with_max device_after count_after shelf_after row_after setup_group control_group begin_group repeat_group other_group group_status group_update group_early_start group_early_append transaction_update event_update handle_raw_packet handle_event handle_detail finish
run-split-5 = refl

run-sof-6 :
    Leaves (packet (0xA5 ∷ 0x01 ∷ 0xE8 ∷ []) 2918180624 ∷ packet (0xA5 ∷ 0x02 ∷ 0xA8 ∷ []) 2918181184 ∷ packet (0xA5 ∷ 0x03 ∷ 0x50 ∷ []) 2918181696 ∷ packet (0xA5 ∷ 0x04 ∷ 0x28 ∷ []) 2918182318 ∷ packet (0x69 ∷ 0x81 ∷ 0x58 ∷ []) 2918182661 ∷ packet (0x69 ∷ 0x81 ∷ 0x58 ∷ []) 2918183471 ∷ packet (0x5A ∷ []) 2918184010 ∷ detail 1 1 1 3 8 ∷ packet (0x69 ∷ 0x81 ∷ 0x58 ∷ []) 2918185934 ∷ packet (0x5A ∷ []) 2918186247 ∷ packet (0x69 ∷ 0x81 ∷ 0x58 ∷ []) 2918187564 ∷ packet (0x5A ∷ []) 2918189200 ∷ packet (0x69 ∷ 0x81 ∷ 0x58 ∷ []) 2918189677 ∷ packet (0x5A ∷ []) 2918190058 ∷ packet (0x69 ∷ 0x81 ∷ 0x58 ∷ []) 2918191305 ∷ packet (0x5A ∷ []) 2918191657 ∷ finishing ∷ [])
    ((165 ∷ 1 ∷ 232 ∷ 165 ∷ 2 ∷ 168 ∷ 165 ∷ 3 ∷ 80 ∷ 165 ∷ 4 ∷ 40 ∷ 105 ∷ 129 ∷ 88 ∷ 105 ∷ 129 ∷ 88 ∷ 90 ∷ 105 ∷ 129 ∷ 88 ∷ 90 ∷ 105 ∷ 129 ∷ 88 ∷ 90 ∷ 105 ∷ 129 ∷ 88 ∷ 90 ∷ 105 ∷ 129 ∷ 88 ∷ 90 ∷ []) ∷ (0 ∷ 1 ∷ []) ∷ (0 ∷ 16 ∷ 0 ∷ 0 ∷ 17 ∷ 0 ∷ 0 ∷ 18 ∷ 0 ∷ 1 ∷ 1 ∷ 1 ∷ []) ∷ (0 ∷ 2918180624 ∷ 3 ∷ 2918181184 ∷ 6 ∷ 2918181696 ∷ 9 ∷ 2918182318 ∷ 12 ∷ 2918182661 ∷ 15 ∷ 2918183471 ∷ 18 ∷ 2918184010 ∷ 19 ∷ 2918185934 ∷ 22 ∷ 2918186247 ∷ 23 ∷ 2918187564 ∷ 26 ∷ 2918189200 ∷ 27 ∷ 2918189677 ∷ 30 ∷ 2918190058 ∷ 31 ∷ 2918191305 ∷ 34 ∷ 2918191657 ∷ []) ∷ ([]) ∷ (0 ∷ 0 ∷ 4 ∷ 0 ∷ 5 ∷ 0 ∷ 7 ∷ 0 ∷ 9 ∷ 0 ∷ 11 ∷ 0 ∷ 13 ∷ 0 ∷ []) ∷ (2 ∷ 0 ∷ 1 ∷ 0 ∷ 2918180624 ∷ 3 ∷ 0 ∷ 1 ∷ 4 ∷ 2918182661 ∷ []) ∷ (0 ∷ 0 ∷ 1 ∷ 0 ∷ 0 ∷ 2 ∷ 1 ∷ []) ∷ (0 ∷ 3 ∷ []) ∷ (0 ∷ 1 ∷ []) ∷ (0 ∷ 2 ∷ 0 ∷ 0 ∷ 1 ∷ 2 ∷ 0 ∷ 0 ∷ 0 ∷ 3 ∷ 1 ∷ 0 ∷ 1 ∷ 3 ∷ 0 ∷ 0 ∷ 0 ∷ 3 ∷ 2 ∷ 0 ∷ 0 ∷ 3 ∷ 3 ∷ 0 ∷ 0 ∷ 3 ∷ 4 ∷ 0 ∷ 0 ∷ 3 ∷ 5 ∷ 0 ∷ 0 ∷ 3 ∷ 6 ∷ 0 ∷ []) ∷ ([]) ∷ [])
unfolding step bits bytes crc5_of crc16_of after format_of format_ok format_reason reason_of checked_of transaction_status extract_payload details_of with_type with_detail fresh is_read is_set_configuration is_set_interface kind_by kind_of laid is_whole whole_in whole is_of first_of max_of value_of chunks applied count_set note_of with_max device_after count_after shelf_after row_after setup_group control_group begin_group repeat_group other_group group_status group_update group_early_start group_early_append transaction_update event_update handle_raw_packet handle_event handle_detail finish
run-sof-6 = refl

run-malformed-7 :
    Leaves (packet ([]) 1496454241 ∷ packet (0x69 ∷ 0x81 ∷ 0x58 ∷ []) 1496455757 ∷ packet (0x69 ∷ 0x81 ∷ 0x58 ∷ []) 1496456747 ∷ packet (0x5A ∷ []) 1496458091 ∷ detail 1 1 1 2 64 ∷ packet (0x69 ∷ 0x81 ∷ 0x58 ∷ []) 1496459402 ∷ packet (0xC3 ∷ 0xC7 ∷ 0x35 ∷ 0xF8 ∷ 0x2F ∷ 0xCD ∷ 0x9D ∷ 0xFF ∷ 0x30 ∷ 0xE9 ∷ 0xBA ∷ 0x5F ∷ 0x47 ∷ 0x1D ∷ 0x78 ∷ 0xAC ∷ 0xC8 ∷ 0xD2 ∷ 0x01 ∷ 0x2B ∷ 0x70 ∷ 0x75 ∷ 0x07 ∷ 0x5B ∷ 0xE1 ∷ 0xC9 ∷ 0x40 ∷ 0xEC ∷ 0x82 ∷ 0xF6 ∷ 0x0F ∷ 0x7E ∷ 0x56 ∷ 0xE8 ∷ 0x8A ∷ 0x22 ∷ 0x52 ∷ 0xE6 ∷ 0x2B ∷ 0x13 ∷ 0x0E ∷ 0xA7 ∷ 0xAA ∷ 0x42 ∷ 0xE6 ∷ 0xDA ∷ 0x8A ∷ 0xB8 ∷ 0x99 ∷ 0x6B ∷ 0x11 ∷ 0x43 ∷ 0xBF ∷ 0xB6 ∷ 0xCE ∷ 0xE5 ∷ 0x6C ∷ 0x65 ∷ 0x44 ∷ 0x71 ∷ 0x42 ∷ 0x88 ∷ 0x54 ∷ 0x6B ∷ 0x13 ∷ 0x4D ∷ 0x3E ∷ []) 1496459705 ∷ packet (0xD2 ∷ []) 1496460342 ∷ packet (0x69 ∷ 0x81 ∷ 0x58 ∷ []) 1496461890 ∷ packet (0xC3 ∷ 0x0D ∷ 0x68 ∷ 0x89 ∷ 0x49 ∷ 0x92 ∷ 0xC3 ∷ 0x49 ∷ 0x8B ∷ []) 1496462283 ∷ packet (0xD2 ∷ []) 1496462938 ∷ packet (0xC3 ∷ 0xE8 ∷ 0xB8 ∷ 0x65 ∷ 0x82 ∷ 0xA0 ∷ 0x66 ∷ 0x62 ∷ 0x08 ∷ 0x13 ∷ []) 1496463923 ∷ packet (0xE1 ∷ 0x83 ∷ 0x49 ∷ []) 1496464550 ∷ packet (0xE1 ∷ 0x81 ∷ 0x71 ∷ []) 1496466445 ∷ packet (0x4B ∷ 0xC2 ∷ 0xA7 ∷ 0x67 ∷ 0x01 ∷ 0x18 ∷ 0x90 ∷ 0x16 ∷ 0xFA ∷ 0xD3 ∷ 0x52 ∷ 0x94 ∷ 0x83 ∷ 0xEA ∷ 0xFF ∷ 0xDB ∷ 0x90 ∷ 0x6C ∷ 0x5C ∷ []) 1496467891 ∷ packet (0xD2 ∷ []) 1496469662 ∷ finishing ∷ [])
    ((105 ∷ 129 ∷ 88 ∷ 105 ∷ 129 ∷ 88 ∷ 90 ∷ 105 ∷ 129 ∷ 88 ∷ 195 ∷ 199 ∷ 53 ∷ 248 ∷ 47 ∷ 205 ∷ 157 ∷ 255 ∷ 48 ∷ 233 ∷ 186 ∷ 95 ∷ 71 ∷ 29 ∷ 120 ∷ 172 ∷ 200 ∷ 210 ∷ 1 ∷ 43 ∷ 112 ∷ 117 ∷ 7 ∷ 91 ∷ 225 ∷ 201 ∷ 64 ∷ 236 ∷ 130 ∷ 246 ∷ 15 ∷ 126 ∷ 86 ∷ 232 ∷ 138 ∷ 34 ∷ 82 ∷ 230 ∷ 43 ∷ 19 ∷ 14 ∷ 167 ∷ 170 ∷ 66 ∷ 230 ∷ 218 ∷ 138 ∷ 184 ∷ 153 ∷ 107 ∷ 17 ∷ 67 ∷ 191 ∷ 182 ∷ 206 ∷ 229 ∷ 108 ∷ 101 ∷ 68 ∷ 113 ∷ 66 ∷ 136 ∷ 84 ∷ 107 ∷ 19 ∷ 77 ∷ 62 ∷ 210 ∷ 105 ∷ 129 ∷ 88 ∷ 195 ∷ 13 ∷ 104 ∷ 137 ∷ 73 ∷ 146 ∷ 195 ∷ 73 ∷ 139 ∷ 210 ∷ 195 ∷ 232 ∷ 184 ∷ 101 ∷ 130 ∷ 160 ∷ 102 ∷ 98 ∷ 8 ∷ 19 ∷ 225 ∷ 131 ∷ 73 ∷ 225 ∷ 129 ∷ 113 ∷ 75 ∷ 194 ∷ 167 ∷ 103 ∷ 1 ∷ 24 ∷ 144 ∷ 22 ∷ 250 ∷ 211 ∷ 82 ∷ 148 ∷ 131 ∷ 234 ∷ 255 ∷ 219 ∷ 144 ∷ 108 ∷ 92 ∷ 210 ∷ []) ∷ (0 ∷ 1 ∷ []) ∷ (0 ∷ 16 ∷ 0 ∷ 0 ∷ 17 ∷ 0 ∷ 0 ∷ 18 ∷ 0 ∷ 1 ∷ 1 ∷ 1 ∷ 1 ∷ 3 ∷ 0 ∷ []) ∷ (0 ∷ 1496454241 ∷ 0 ∷ 1496455757 ∷ 3 ∷ 1496456747 ∷ 6 ∷ 1496458091 ∷ 7 ∷ 1496459402 ∷ 10 ∷ 1496459705 ∷ 77 ∷ 1496460342 ∷ 78 ∷ 1496461890 ∷ 81 ∷ 1496462283 ∷ 90 ∷ 1496462938 ∷ 91 ∷ 1496463923 ∷ 101 ∷ 1496464550 ∷ 104 ∷ 1496466445 ∷ 107 ∷ 1496467891 ∷ 126 ∷ 1496469662 ∷ []) ∷ ([]) ∷ (0 ∷ 1 ∷ 1 ∷ 0 ∷ 2 ∷ 0 ∷ 4 ∷ 0 ∷ 7 ∷ 0 ∷ 10 ∷ 4 ∷ 11 ∷ 4 ∷ 12 ∷ 0 ∷ []) ∷ (1 ∷ 0 ∷ 1 ∷ 0 ∷ 1496454241 ∷ 1 ∷ 0 ∷ 0 ∷ 0 ∷ 1496454241 ∷ 3 ∷ 0 ∷ 1 ∷ 1 ∷ 1496455757 ∷ 3 ∷ 0 ∷ 0 ∷ 6 ∷ 1496460342 ∷ 3 ∷ 1 ∷ 1 ∷ 6 ∷ 1496460342 ∷ 3 ∷ 1 ∷ 0 ∷ 9 ∷ 1496462938 ∷ 1 ∷ 1 ∷ 1 ∷ 10 ∷ 1496463923 ∷ 1 ∷ 1 ∷ 0 ∷ 10 ∷ 1496463923 ∷ 1 ∷ 2 ∷ 1 ∷ 11 ∷ 1496464550 ∷ 1 ∷ 2 ∷ 0 ∷ 11 ∷ 1496464550 ∷ 4 ∷ 0 ∷ 1 ∷ 12 ∷ 1496466445 ∷ []) ∷ (0 ∷ 1 ∷ 0 ∷ 0 ∷ 3 ∷ 0 ∷ 0 ∷ 0 ∷ 0 ∷ 1 ∷ 0 ∷ 0 ∷ 0 ∷ 3 ∷ 0 ∷ 0 ∷ 0 ∷ 1 ∷ 0 ∷ 0 ∷ 0 ∷ 3 ∷ 0 ∷ 1 ∷ 0 ∷ 0 ∷ 0 ∷ 3 ∷ 0 ∷ 0 ∷ 0 ∷ 1 ∷ 0 ∷ 0 ∷ 0 ∷ 3 ∷ 0 ∷ 0 ∷ 0 ∷ 0 ∷ 0 ∷ 0 ∷ 1 ∷ []) ∷ (0 ∷ 3 ∷ 6 ∷ 10 ∷ 14 ∷ 18 ∷ 22 ∷ 26 ∷ 30 ∷ 34 ∷ 38 ∷ []) ∷ (0 ∷ 2 ∷ 4 ∷ 6 ∷ 8 ∷ 10 ∷ []) ∷ (0 ∷ 1 ∷ 0 ∷ 0 ∷ 1 ∷ 1 ∷ 0 ∷ 0 ∷ 0 ∷ 3 ∷ 1 ∷ 0 ∷ 1 ∷ 3 ∷ 0 ∷ 0 ∷ 3 ∷ 1 ∷ 1 ∷ 0 ∷ 0 ∷ 3 ∷ 2 ∷ 0 ∷ 0 ∷ 3 ∷ 3 ∷ 0 ∷ 1 ∷ 3 ∷ 2 ∷ 0 ∷ 3 ∷ 3 ∷ 2 ∷ 0 ∷ 2 ∷ 3 ∷ 2 ∷ 0 ∷ 0 ∷ 3 ∷ 4 ∷ 0 ∷ 2 ∷ 3 ∷ 3 ∷ 64 ∷ 0 ∷ 1 ∷ 5 ∷ 0 ∷ 1 ∷ 1 ∷ 1 ∷ 0 ∷ 3 ∷ 3 ∷ 3 ∷ 0 ∷ 0 ∷ 1 ∷ 6 ∷ 0 ∷ 1 ∷ 1 ∷ 2 ∷ 0 ∷ 3 ∷ 1 ∷ 4 ∷ 0 ∷ 0 ∷ 4 ∷ 7 ∷ 0 ∷ 1 ∷ 4 ∷ 0 ∷ 0 ∷ 3 ∷ 1 ∷ 5 ∷ 0 ∷ 2 ∷ 4 ∷ 0 ∷ 0 ∷ []) ∷ ([]) ∷ [])
unfolding step bits bytes crc5_of crc16_of after format_of format_ok format_reason reason_of checked_of transaction_status extract_payload details_of with_type with_detail fresh is_read is_set_configuration is_set_interface kind_by kind_of laid is_whole whole_in whole is_of first_of max_of value_of chunks applied count_set note_of with_max device_after count_after shelf_after row_after setup_group control_group begin_group repeat_group other_group group_status group_update group_early_start group_early_append transaction_update event_update handle_raw_packet handle_event handle_detail finish
run-malformed-7 = refl

run-event-8 :
    Leaves (event 1 180 4019535168 ∷ event 0 43 4019535482 ∷ packet (0xA5 ∷ 0x01 ∷ 0xE8 ∷ []) 4019537422 ∷ packet (0x69 ∷ 0x80 ∷ 0xA0 ∷ []) 4019538699 ∷ packet (0x69 ∷ 0x80 ∷ 0xA0 ∷ []) 4019540448 ∷ packet (0x5A ∷ []) 4019541208 ∷ detail 0 1 1 3 8 ∷ packet (0x69 ∷ 0x80 ∷ 0xA0 ∷ []) 4019542027 ∷ packet (0x5A ∷ []) 4019543936 ∷ packet (0x69 ∷ 0x80 ∷ 0xA0 ∷ []) 4019545112 ∷ packet (0x5A ∷ []) 4019545839 ∷ packet (0x69 ∷ 0x80 ∷ 0xA0 ∷ []) 4019547304 ∷ packet (0xC3 ∷ 0x4F ∷ 0x18 ∷ 0xE9 ∷ 0xC4 ∷ 0x47 ∷ 0x70 ∷ 0xC0 ∷ 0x0B ∷ 0x80 ∷ 0x05 ∷ []) 4019548770 ∷ packet (0xD2 ∷ []) 4019549982 ∷ packet (0x69 ∷ 0x80 ∷ 0xA0 ∷ []) 4019551180 ∷ packet (0x5A ∷ []) 4019552689 ∷ finishing ∷ [])
    ((165 ∷ 1 ∷ 232 ∷ 105 ∷ 128 ∷ 160 ∷ 105 ∷ 128 ∷ 160 ∷ 90 ∷ 105 ∷ 128 ∷ 160 ∷ 90 ∷ 105 ∷ 128 ∷ 160 ∷ 90 ∷ 105 ∷ 128 ∷ 160 ∷ 195 ∷ 79 ∷ 24 ∷ 233 ∷ 196 ∷ 71 ∷ 112 ∷ 192 ∷ 11 ∷ 128 ∷ 5 ∷ 210 ∷ 105 ∷ 128 ∷ 160 ∷ 90 ∷ []) ∷ (0 ∷ []) ∷ (0 ∷ 16 ∷ 0 ∷ 0 ∷ 17 ∷ 0 ∷ 0 ∷ 18 ∷ 0 ∷ 0 ∷ 1 ∷ 1 ∷ []) ∷ (0 ∷ 4019535168 ∷ 0 ∷ 4019535482 ∷ 0 ∷ 4019537422 ∷ 3 ∷ 4019538699 ∷ 6 ∷ 4019540448 ∷ 9 ∷ 4019541208 ∷ 10 ∷ 4019542027 ∷ 13 ∷ 4019543936 ∷ 14 ∷ 4019545112 ∷ 17 ∷ 4019545839 ∷ 18 ∷ 4019547304 ∷ 21 ∷ 4019548770 ∷ 32 ∷ 4019549982 ∷ 33 ∷ 4019551180 ∷ 36 ∷ 4019552689 ∷ []) ∷ (0 ∷ 180 ∷ 1 ∷ 43 ∷ []) ∷ (0 ∷ 0 ∷ 1 ∷ 0 ∷ 2 ∷ 0 ∷ 3 ∷ 0 ∷ 4 ∷ 0 ∷ 6 ∷ 0 ∷ 8 ∷ 0 ∷ 10 ∷ 0 ∷ 13 ∷ 0 ∷ []) ∷ (0 ∷ 0 ∷ 0 ∷ 0 ∷ 4019535168 ∷ 0 ∷ 1 ∷ 1 ∷ 1 ∷ 4019535482 ∷ 2 ∷ 0 ∷ 1 ∷ 2 ∷ 4019537422 ∷ 3 ∷ 0 ∷ 1 ∷ 3 ∷ 4019538699 ∷ 3 ∷ 0 ∷ 0 ∷ 12 ∷ 4019549982 ∷ 3 ∷ 1 ∷ 1 ∷ 12 ∷ 4019549982 ∷ 3 ∷ 1 ∷ 0 ∷ 14 ∷ 4019552689 ∷ 3 ∷ 2 ∷ 1 ∷ 14 ∷ 4019552689 ∷ []) ∷ (3 ∷ 0 ∷ 0 ∷ 1 ∷ 0 ∷ 0 ∷ 2 ∷ 0 ∷ 1 ∷ 2 ∷ 0 ∷ 2 ∷ 1 ∷ 2 ∷ 0 ∷ 2 ∷ 3 ∷ 2 ∷ 0 ∷ 2 ∷ 1 ∷ 2 ∷ 0 ∷ 2 ∷ 3 ∷ 2 ∷ 0 ∷ 2 ∷ 1 ∷ []) ∷ (0 ∷ 3 ∷ 6 ∷ 9 ∷ 13 ∷ 17 ∷ 21 ∷ 25 ∷ []) ∷ (0 ∷ 1 ∷ 2 ∷ 3 ∷ 5 ∷ 7 ∷ []) ∷ (0 ∷ 0 ∷ 0 ∷ 0 ∷ 1 ∷ 0 ∷ 0 ∷ 0 ∷ 0 ∷ 0 ∷ 1 ∷ 0 ∷ 1 ∷ 0 ∷ 1 ∷ 0 ∷ 0 ∷ 2 ∷ 2 ∷ 0 ∷ 1 ∷ 2 ∷ 0 ∷ 0 ∷ 0 ∷ 3 ∷ 3 ∷ 0 ∷ 1 ∷ 3 ∷ 0 ∷ 0 ∷ 0 ∷ 3 ∷ 4 ∷ 0 ∷ 0 ∷ 3 ∷ 5 ∷ 0 ∷ 0 ∷ 3 ∷ 6 ∷ 0 ∷ 0 ∷ 3 ∷ 7 ∷ 0 ∷ 1 ∷ 3 ∷ 4 ∷ 0 ∷ 3 ∷ 3 ∷ 4 ∷ 0 ∷ 2 ∷ 3 ∷ 4 ∷ 0 ∷ 0 ∷ 3 ∷ 8 ∷ 0 ∷ 1 ∷ 3 ∷ 5 ∷ 0 ∷ 3 ∷ 3 ∷ 5 ∷ 0 ∷ []) ∷ ([]) ∷ [])
unfolding step bits bytes crc5_of crc16_of after format_of format_ok format_reason reason_of checked_of transaction_status extract_payload details_of with_type with_detail fresh is_read is_set_configuration is_set_interface kind_by kind_of laid is_whole whole_in whole is_of first_of max_of value_of chunks applied count_set note_of with_max device_after count_after shelf_after row_after setup_group control_group begin_group repeat_group other_group group_status group_update group_early_start group_early_append transaction_update event_update handle_raw_packet handle_event handle_detail finish
run-event-8 = refl

run-chirp-9 :
    Leaves (event 1 182 3195037332 ∷ event 4 254 3195038080 ∷ event 1 115 3195038992 ∷ event 2 93 3195039564 ∷ event 4 121 3195039585 ∷ event 4 202 3195041213 ∷ event 3 221 3195042119 ∷ event 6 221 3195044012 ∷ event 4 92 3195044223 ∷ event 4 18 3195045997 ∷ event 2 116 3195047181 ∷ event 5 7 3195047931 ∷ event 4 14 3195049460 ∷ event 2 28 3195050396 ∷ event 6 91 3195051238 ∷ event 3 0 3195052613 ∷ finishing ∷ [])
    (([]) ∷ (0 ∷ []) ∷ (0 ∷ 16 ∷ 0 ∷ 0 ∷ 17 ∷ 0 ∷ 0 ∷ 18 ∷ 0 ∷ []) ∷ (0 ∷ 3195037332 ∷ 0 ∷ 3195038080 ∷ 0 ∷ 3195038992 ∷ 0 ∷ 3195039564 ∷ 0 ∷ 3195039585 ∷ 0 ∷ 3195041213 ∷ 0 ∷ 3195042119 ∷ 0 ∷ 3195044012 ∷ 0 ∷ 3195044223 ∷ 0 ∷ 3195045997 ∷ 0 ∷ 3195047181 ∷ 0 ∷ 3195047931 ∷ 0 ∷ 3195049460 ∷ 0 ∷ 3195050396 ∷ 0 ∷ 3195051238 ∷ 0 ∷ 3195052613 ∷ []) ∷ (0 ∷ 182 ∷ 1 ∷ 254 ∷ 2 ∷ 115 ∷ 3 ∷ 93 ∷ 4 ∷ 121 ∷ 5 ∷ 202 ∷ 6 ∷ 221 ∷ 7 ∷ 221 ∷ 8 ∷ 92 ∷ 9 ∷ 18 ∷ 10 ∷ 116 ∷ 11 ∷ 7 ∷ 12 ∷ 14 ∷ 13 ∷ 28 ∷ 14 ∷ 91 ∷ 15 ∷ 0 ∷ []) ∷ (0 ∷ 0 ∷ 1 ∷ 0 ∷ 2 ∷ 0 ∷ 3 ∷ 0 ∷ 4 ∷ 0 ∷ 5 ∷ 0 ∷ 6 ∷ 0 ∷ 7 ∷ 0 ∷ 8 ∷ 0 ∷ 9 ∷ 0 ∷ 10 ∷ 0 ∷ 11 ∷ 0 ∷ 12 ∷ 0 ∷ 13 ∷ 0 ∷ 14 ∷ 0 ∷ 15 ∷ 0 ∷ []) ∷ (0 ∷ 0 ∷ 0 ∷ 0 ∷ 3195037332 ∷ 0 ∷ 1 ∷ 1 ∷ 1 ∷ 3195038080 ∷ 0 ∷ 2 ∷ 0 ∷ 2 ∷ 3195038992 ∷ 0 ∷ 3 ∷ 0 ∷ 3 ∷ 3195039564 ∷ 0 ∷ 4 ∷ 0 ∷ 4 ∷ 3195039585 ∷ 0 ∷ 5 ∷ 0 ∷ 5 ∷ 3195041213 ∷ 0 ∷ 6 ∷ 0 ∷ 6 ∷ 3195042119 ∷ 0 ∷ 7 ∷ 0 ∷ 7 ∷ 3195044012 ∷ 0 ∷ 8 ∷ 0 ∷ 8 ∷ 3195044223 ∷ 0 ∷ 9 ∷ 0 ∷ 9 ∷ 3195045997 ∷ 0 ∷ 10 ∷ 0 ∷ 10 ∷ 3195047181 ∷ 0 ∷ 11 ∷ 0 ∷ 11 ∷ 3195047931 ∷ 0 ∷ 12 ∷ 0 ∷ 12 ∷ 3195049460 ∷ 0 ∷ 13 ∷ 0 ∷ 13 ∷ 3195050396 ∷ 0 ∷ 14 ∷ 0 ∷ 14 ∷ 3195051238 ∷ 0 ∷ 15 ∷ 0 ∷ 15 ∷ 3195052613 ∷ []) ∷ (3 ∷ 0 ∷ 0 ∷ 1 ∷ 0 ∷ 0 ∷ 3 ∷ 0 ∷ 0 ∷ 3 ∷ 0 ∷ 0 ∷ 3 ∷ 0 ∷ 0 ∷ 3 ∷ 0 ∷ 0 ∷ 3 ∷ 0 ∷ 0 ∷ 3 ∷ 0 ∷ 0 ∷ 3 ∷ 0 ∷ 0 ∷ 3 ∷ 0 ∷ 0 ∷ 3 ∷ 0 ∷ 0 ∷ 3 ∷ 0 ∷ 0 ∷ 3 ∷ 0 ∷ 0 ∷ 3 ∷ 0 ∷ 0 ∷ 3 ∷ 0 ∷ 0 ∷ 3 ∷ 0 ∷ 0 ∷ []) ∷ (0 ∷ 3 ∷ 6 ∷ 9 ∷ 12 ∷ 15 ∷ 18 ∷ 21 ∷ 24 ∷ 27 ∷ 30 ∷ 33 ∷ 36 ∷ 39 ∷ 42 ∷ 45 ∷ []) ∷ (0 ∷ 1 ∷ 2 ∷ 3 ∷ 4 ∷ 5 ∷ 6 ∷ 7 ∷ 8 ∷ 9 ∷ 10 ∷ 11 ∷ 12 ∷ 13 ∷ 14 ∷ 15 ∷ []) ∷ (0 ∷ 0 ∷ 0 ∷ 0 ∷ 1 ∷ 0 ∷ 0 ∷ 0 ∷ 0 ∷ 0 ∷ 1 ∷ 0 ∷ 1 ∷ 0 ∷ 1 ∷ 0 ∷ 0 ∷ 0 ∷ 2 ∷ 0 ∷ 1 ∷ 0 ∷ 2 ∷ 0 ∷ 0 ∷ 0 ∷ 3 ∷ 0 ∷ 1 ∷ 0 ∷ 3 ∷ 0 ∷ 0 ∷ 0 ∷ 4 ∷ 0 ∷ 1 ∷ 0 ∷ 4 ∷ 0 ∷ 0 ∷ 0 ∷ 5 ∷ 0 ∷ 1 ∷ 0 ∷ 5 ∷ 0 ∷ 0 ∷ 0 ∷ 6 ∷ 0 ∷ 1 ∷ 0 ∷ 6 ∷ 0 ∷ 0 ∷ 0 ∷ 7 ∷ 0 ∷ 1 ∷ 0 ∷ 7 ∷ 0 ∷ 0 ∷ 0 ∷ 8 ∷ 0 ∷ 1 ∷ 0 ∷ 8 ∷ 0 ∷ 0 ∷ 0 ∷ 9 ∷ 0 ∷ 1 ∷ 0 ∷ 9 ∷ 0 ∷ 0 ∷ 0 ∷ 10 ∷ 0 ∷ 1 ∷ 0 ∷ 10 ∷ 0 ∷ 0 ∷ 0 ∷ 11 ∷ 0 ∷ 1 ∷ 0 ∷ 11 ∷ 0 ∷ 0 ∷ 0 ∷ 12 ∷ 0 ∷ 1 ∷ 0 ∷ 12 ∷ 0 ∷ 0 ∷ 0 ∷ 13 ∷ 0 ∷ 1 ∷ 0 ∷ 13 ∷ 0 ∷ 0 ∷ 0 ∷ 14 ∷ 0 ∷ 1 ∷ 0 ∷ 14 ∷ 0 ∷ 0 ∷ 0 ∷ 15 ∷ 0 ∷ 1 ∷ 0 ∷ 15 ∷ 0 ∷ []) ∷ ([]) ∷ [])
unfolding step bits bytes crc5_of crc16_of after format_of format_ok format_reason reason_of checked_of transaction_status extract_payload details_of with_type with_detail fresh is_read is_set_configuration is_set_interface kind_by kind_of laid is_whole whole_in whole is_of first_of max_of value_of chunks applied count_set note_of with_max device_after count_after shelf_after row_after setup_group control_group begin_group repeat_group other_group group_status group_update group_early_start group_early_append transaction_update event_update handle_raw_packet handle_event handle_detail finish
run-chirp-9 = refl

run-keepalive-10 :
    Leaves (packet (0x69 ∷ 0x82 ∷ 0x18 ∷ []) 2321035764 ∷ packet (0x69 ∷ 0x82 ∷ 0x18 ∷ []) 2321035956 ∷ event 0 172 2321036438 ∷ event 0 24 2321037615 ∷ packet (0x2D ∷ 0x02 ∷ 0xA8 ∷ []) 2321039235 ∷ packet (0xC3 ∷ 0x80 ∷ 0x06 ∷ 0x00 ∷ 0x01 ∷ 0x00 ∷ 0x00 ∷ 0x08 ∷ 0x00 ∷ 0xEB ∷ 0x94 ∷ []) 2321040871 ∷ packet (0xD2 ∷ []) 2321041474 ∷ event 0 82 2321042368 ∷ event 0 231 2321042504 ∷ packet (0x2D ∷ 0x02 ∷ 0xA8 ∷ []) 2321043486 ∷ packet (0xC3 ∷ 0x80 ∷ 0x06 ∷ 0x00 ∷ 0x01 ∷ 0x00 ∷ 0x00 ∷ 0x08 ∷ 0x00 ∷ 0xEB ∷ 0x94 ∷ []) 2321044294 ∷ packet (0xD2 ∷ []) 2321044862 ∷ event 3 79 2321045208 ∷ packet (0xD2 ∷ []) 2321046618 ∷ packet (0x78 ∷ 0x01 ∷ 0x01 ∷ 0xB2 ∷ []) 2321048261 ∷ packet (0xE1 ∷ 0x81 ∷ 0x71 ∷ []) 2321048765 ∷ finishing ∷ [])
    ((105 ∷ 130 ∷ 24 ∷ 105 ∷ 130 ∷ 24 ∷ 45 ∷ 2 ∷ 168 ∷ 195 ∷ 128 ∷ 6 ∷ 0 ∷ 1 ∷ 0 ∷ 0 ∷ 8 ∷ 0 ∷ 235 ∷ 148 ∷ 210 ∷ 45 ∷ 2 ∷ 168 ∷ 195 ∷ 128 ∷ 6 ∷ 0 ∷ 1 ∷ 0 ∷ 0 ∷ 8 ∷ 0 ∷ 235 ∷ 148 ∷ 210 ∷ 210 ∷ 120 ∷ 1 ∷ 1 ∷ 178 ∷ 225 ∷ 129 ∷ 113 ∷ []) ∷ (0 ∷ 2 ∷ 1 ∷ []) ∷ (0 ∷ 16 ∷ 0 ∷ 0 ∷ 17 ∷ 0 ∷ 0 ∷ 18 ∷ 0 ∷ 1 ∷ 1 ∷ 1 ∷ 1 ∷ 0 ∷ 0 ∷ 2 ∷ 3 ∷ 0 ∷ []) ∷ (0 ∷ 2321035764 ∷ 3 ∷ 2321035956 ∷ 6 ∷ 2321036438 ∷ 6 ∷ 2321037615 ∷ 6 ∷ 2321039235 ∷ 9 ∷ 2321040871 ∷ 20 ∷ 2321041474 ∷ 21 ∷ 2321042368 ∷ 21 ∷ 2321042504 ∷ 21 ∷ 2321043486 ∷ 24 ∷ 2321044294 ∷ 35 ∷ 2321044862 ∷ 36 ∷ 2321045208 ∷ 36 ∷ 2321046618 ∷ 37 ∷ 2321048261 ∷ 41 ∷ 2321048765 ∷ []) ∷ (2 ∷ 172 ∷ 3 ∷ 24 ∷ 7 ∷ 82 ∷ 8 ∷ 231 ∷ 12 ∷ 79 ∷ []) ∷ (0 ∷ 0 ∷ 1 ∷ 0 ∷ 2 ∷ 0 ∷ 4 ∷ 0 ∷ 7 ∷ 0 ∷ 9 ∷ 0 ∷ 12 ∷ 0 ∷ 13 ∷ 0 ∷ 14 ∷ 0 ∷ []) ∷ (3 ∷ 0 ∷ 1 ∷ 0 ∷ 2321035764 ∷ 0 ∷ 0 ∷ 1 ∷ 2 ∷ 2321036438 ∷ 4 ∷ 0 ∷ 1 ∷ 4 ∷ 2321039235 ∷ 4 ∷ 0 ∷ 0 ∷ 9 ∷ 2321043486 ∷ 4 ∷ 1 ∷ 1 ∷ 9 ∷ 2321043486 ∷ 0 ∷ 1 ∷ 0 ∷ 12 ∷ 2321045208 ∷ 1 ∷ 0 ∷ 1 ∷ 13 ∷ 2321046618 ∷ 1 ∷ 0 ∷ 0 ∷ 13 ∷ 2321046618 ∷ 5 ∷ 0 ∷ 1 ∷ 15 ∷ 2321048765 ∷ []) ∷ (0 ∷ 0 ∷ 0 ∷ 1 ∷ 1 ∷ 0 ∷ 0 ∷ 3 ∷ 2 ∷ 0 ∷ 0 ∷ 0 ∷ 1 ∷ 2 ∷ 0 ∷ 0 ∷ 0 ∷ 3 ∷ 2 ∷ 0 ∷ 0 ∷ 0 ∷ 1 ∷ 3 ∷ 0 ∷ 0 ∷ 0 ∷ 3 ∷ 0 ∷ 1 ∷ 0 ∷ 0 ∷ 0 ∷ 0 ∷ 3 ∷ 0 ∷ 0 ∷ 0 ∷ 0 ∷ 0 ∷ 0 ∷ 0 ∷ 0 ∷ 1 ∷ []) ∷ (0 ∷ 4 ∷ 8 ∷ 13 ∷ 18 ∷ 23 ∷ 28 ∷ 33 ∷ 38 ∷ []) ∷ (0 ∷ 1 ∷ 2 ∷ 4 ∷ 5 ∷ 6 ∷ 8 ∷ []) ∷ (0 ∷ 3 ∷ 0 ∷ 0 ∷ 1 ∷ 3 ∷ 0 ∷ 0 ∷ 0 ∷ 0 ∷ 2 ∷ 0 ∷ 1 ∷ 0 ∷ 0 ∷ 0 ∷ 0 ∷ 4 ∷ 3 ∷ 0 ∷ 1 ∷ 4 ∷ 0 ∷ 0 ∷ 0 ∷ 0 ∷ 4 ∷ 0 ∷ 0 ∷ 4 ∷ 5 ∷ 0 ∷ 1 ∷ 4 ∷ 1 ∷ 0 ∷ 3 ∷ 4 ∷ 3 ∷ 0 ∷ 0 ∷ 0 ∷ 6 ∷ 0 ∷ 1 ∷ 0 ∷ 2 ∷ 0 ∷ 3 ∷ 3 ∷ 4 ∷ 0 ∷ 3 ∷ 4 ∷ 4 ∷ 0 ∷ 0 ∷ 1 ∷ 7 ∷ 0 ∷ 1 ∷ 1 ∷ 0 ∷ 0 ∷ 0 ∷ 5 ∷ 8 ∷ 0 ∷ 1 ∷ 5 ∷ 0 ∷ 0 ∷ 3 ∷ 1 ∷ 6 ∷ 0 ∷ []) ∷ ([]) ∷ [])
unfolding step bits bytes crc5_of crc16_of after format_of format_ok format_reason reason_of checked_of transaction_status extract_payload details_of with_type with_detail fresh is_read is_set_configuration is_set_interface kind_by kind_of laid is_whole whole_in whole is_of first_of max_of value_of chunks applied count_set note_of with_max device_after count_after shelf_after row_after setup_group control_group begin_group repeat_group other_group group_status group_update group_early_start group_early_append transaction_update event_update handle_raw_packet handle_event handle_detail finish
run-keepalive-10 = refl

run-detail-11 :
    Leaves (packet (0x69 ∷ 0x81 ∷ 0x58 ∷ []) 595605169 ∷ packet (0x69 ∷ 0x81 ∷ 0x58 ∷ []) 595605947 ∷ packet (0x5A ∷ []) 595606417 ∷ detail 1 1 0 2 64 ∷ packet (0x69 ∷ 0x81 ∷ 0x58 ∷ []) 595607737 ∷ packet (0x4B ∷ 0x1D ∷ 0x4B ∷ 0x43 ∷ 0x41 ∷ 0x78 ∷ 0xF6 ∷ 0x54 ∷ 0x4D ∷ 0xB0 ∷ 0xFE ∷ []) 595608686 ∷ packet (0xD2 ∷ []) 595609028 ∷ packet (0x69 ∷ 0x81 ∷ 0x58 ∷ []) 595609683 ∷ packet (0x4B ∷ 0x1A ∷ 0xB5 ∷ 0x2E ∷ 0xF6 ∷ 0x06 ∷ 0x9F ∷ 0x00 ∷ 0x5A ∷ 0xF7 ∷ 0xAF ∷ 0xBA ∷ 0x93 ∷ 0x44 ∷ 0x3F ∷ 0x6D ∷ 0xB7 ∷ 0x98 ∷ 0x98 ∷ 0x41 ∷ 0x61 ∷ 0x44 ∷ 0x22 ∷ 0xC6 ∷ 0xEC ∷ 0x55 ∷ 0x68 ∷ 0xF0 ∷ 0x23 ∷ 0xB2 ∷ 0x0C ∷ 0x32 ∷ 0xA5 ∷ 0x01 ∷ 0xC8 ∷ 0x2F ∷ 0x6D ∷ 0x7A ∷ 0xF8 ∷ 0x1F ∷ 0x7B ∷ 0x38 ∷ 0x74 ∷ 0x6E ∷ 0x9D ∷ 0xB2 ∷ 0x7D ∷ 0x8B ∷ 0xF9 ∷ 0x3E ∷ 0xB9 ∷ 0xF4 ∷ 0xC9 ∷ 0xC7 ∷ 0xED ∷ 0x04 ∷ 0x9C ∷ 0x5E ∷ 0x57 ∷ 0xD5 ∷ 0x86 ∷ 0x63 ∷ 0xBA ∷ 0x82 ∷ 0x9D ∷ 0x0D ∷ 0x48 ∷ []) 595610472 ∷ packet (0xD2 ∷ []) 595610938 ∷ packet (0x69 ∷ 0x81 ∷ 0x58 ∷ []) 595612370 ∷ packet (0xC3 ∷ 0xF2 ∷ 0xD8 ∷ 0x20 ∷ 0x3E ∷ 0xA7 ∷ 0xC5 ∷ 0xC2 ∷ 0xC3 ∷ 0xFD ∷ 0xE6 ∷ 0x34 ∷ 0x5C ∷ 0xBE ∷ 0xD1 ∷ 0x66 ∷ 0xBB ∷ 0x9E ∷ 0x62 ∷ 0xD1 ∷ 0xF3 ∷ 0x13 ∷ 0x6E ∷ 0x20 ∷ 0xE0 ∷ 0x6C ∷ 0x0A ∷ 0xF3 ∷ 0x98 ∷ 0xD5 ∷ 0xB5 ∷ 0x34 ∷ 0xC1 ∷ 0x22 ∷ 0x60 ∷ 0x35 ∷ 0x5B ∷ 0x0A ∷ 0x35 ∷ 0xC2 ∷ 0xB7 ∷ 0x1B ∷ 0xB9 ∷ 0xDF ∷ 0xA5 ∷ 0x2D ∷ 0xA1 ∷ 0x95 ∷ 0x93 ∷ 0x2B ∷ 0xF8 ∷ 0xF5 ∷ 0x34 ∷ 0xE3 ∷ 0x53 ∷ 0xBB ∷ 0x6A ∷ 0x94 ∷ 0xC1 ∷ 0x03 ∷ 0x07 ∷ 0x19 ∷ 0x9C ∷ 0x8F ∷ 0xB5 ∷ 0x2F ∷ 0xD8 ∷ []) 595612628 ∷ packet (0xD2 ∷ []) 595613355 ∷ packet (0x69 ∷ 0x81 ∷ 0x71 ∷ []) 595614035 ∷ packet (0x69 ∷ 0x81 ∷ 0x71 ∷ []) 595614371 ∷ packet (0x5A ∷ []) 595614889 ∷ finishing ∷ [])
    ((105 ∷ 129 ∷ 88 ∷ 105 ∷ 129 ∷ 88 ∷ 90 ∷ 105 ∷ 129 ∷ 88 ∷ 75 ∷ 29 ∷ 75 ∷ 67 ∷ 65 ∷ 120 ∷ 246 ∷ 84 ∷ 77 ∷ 176 ∷ 254 ∷ 210 ∷ 105 ∷ 129 ∷ 88 ∷ 75 ∷ 26 ∷ 181 ∷ 46 ∷ 246 ∷ 6 ∷ 159 ∷ 0 ∷ 90 ∷ 247 ∷ 175 ∷ 186 ∷ 147 ∷ 68 ∷ 63 ∷ 109 ∷ 183 ∷ 152 ∷ 152 ∷ 65 ∷ 97 ∷ 68 ∷ 34 ∷ 198 ∷ 236 ∷ 85 ∷ 104 ∷ 240 ∷ 35 ∷ 178 ∷ 12 ∷ 50 ∷ 165 ∷ 1 ∷ 200 ∷ 47 ∷ 109 ∷ 122 ∷ 248 ∷ 31 ∷ 123 ∷ 56 ∷ 116 ∷ 110 ∷ 157 ∷ 178 ∷ 125 ∷ 139 ∷ 249 ∷ 62 ∷ 185 ∷ 244 ∷ 201 ∷ 199 ∷ 237 ∷ 4 ∷ 156 ∷ 94 ∷ 87 ∷ 213 ∷ 134 ∷ 99 ∷ 186 ∷ 130 ∷ 157 ∷ 13 ∷ 72 ∷ 210 ∷ 105 ∷ 129 ∷ 88 ∷ 195 ∷ 242 ∷ 216 ∷ 32 ∷ 62 ∷ 167 ∷ 197 ∷ 194 ∷ 195 ∷ 253 ∷ 230 ∷ 52 ∷ 92 ∷ 190 ∷ 209 ∷ 102 ∷ 187 ∷ 158 ∷ 98 ∷ 209 ∷ 243 ∷ 19 ∷ 110 ∷ 32 ∷ 224 ∷ 108 ∷ 10 ∷ 243 ∷ 152 ∷ 213 ∷ 181 ∷ 52 ∷ 193 ∷ 34 ∷ 96 ∷ 53 ∷ 91 ∷ 10 ∷ 53 ∷ 194 ∷ 183 ∷ 27 ∷ 185 ∷ 223 ∷ 165 ∷ 45 ∷ 161 ∷ 149 ∷ 147 ∷ 43 ∷ 248 ∷ 245 ∷ 52 ∷ 227 ∷ 83 ∷ 187 ∷ 106 ∷ 148 ∷ 193 ∷ 3 ∷ 7 ∷ 25 ∷ 156 ∷ 143 ∷ 181 ∷ 47 ∷ 216 ∷ 210 ∷ 105 ∷ 129 ∷ 113 ∷ 105 ∷ 129 ∷ 113 ∷ 90 ∷ []) ∷ (0 ∷ 1 ∷ []) ∷ (0 ∷ 16 ∷ 0 ∷ 0 ∷ 17 ∷ 0 ∷ 0 ∷ 18 ∷ 0 ∷ 1 ∷ 1 ∷ 1 ∷ 1 ∷ 3 ∷ 1 ∷ []) ∷ (0 ∷ 595605169 ∷ 3 ∷ 595605947 ∷ 6 ∷ 595606417 ∷ 7 ∷ 595607737 ∷ 10 ∷ 595608686 ∷ 21 ∷ 595609028 ∷ 22 ∷ 595609683 ∷ 25 ∷ 595610472 ∷ 92 ∷ 595610938 ∷ 93 ∷ 595612370 ∷ 96 ∷ 595612628 ∷ 163 ∷ 595613355 ∷ 164 ∷ 595614035 ∷ 167 ∷ 595614371 ∷ 170 ∷ 595614889 ∷ []) ∷ ([]) ∷ (0 ∷ 0 ∷ 1 ∷ 0 ∷ 3 ∷ 0 ∷ 6 ∷ 0 ∷ 9 ∷ 0 ∷ 12 ∷ 0 ∷ 13 ∷ 0 ∷ []) ∷ (3 ∷ 0 ∷ 1 ∷ 0 ∷ 595605169 ∷ 3 ∷ 0 ∷ 0 ∷ 5 ∷ 595609028 ∷ 3 ∷ 1 ∷ 1 ∷ 5 ∷ 595609028 ∷ 4 ∷ 0 ∷ 1 ∷ 12 ∷ 595614035 ∷ []) ∷ (0 ∷ 0 ∷ 0 ∷ 1 ∷ 0 ∷ 0 ∷ 0 ∷ 3 ∷ 0 ∷ 0 ∷ 0 ∷ 1 ∷ 0 ∷ 0 ∷ 0 ∷ 2 ∷ 1 ∷ []) ∷ (0 ∷ 4 ∷ 8 ∷ 12 ∷ []) ∷ (0 ∷ 2 ∷ 3 ∷ []) ∷ (0 ∷ 3 ∷ 0 ∷ 0 ∷ 1 ∷ 3 ∷ 0 ∷ 0 ∷ 0 ∷ 3 ∷ 1 ∷ 0 ∷ 0 ∷ 3 ∷ 2 ∷ 0 ∷ 1 ∷ 3 ∷ 2 ∷ 0 ∷ 3 ∷ 3 ∷ 1 ∷ 0 ∷ 2 ∷ 3 ∷ 2 ∷ 0 ∷ 0 ∷ 3 ∷ 3 ∷ 0 ∷ 2 ∷ 3 ∷ 3 ∷ 8 ∷ 0 ∷ 3 ∷ 4 ∷ 0 ∷ 2 ∷ 3 ∷ 4 ∷ 72 ∷ 0 ∷ 4 ∷ 5 ∷ 0 ∷ 1 ∷ 4 ∷ 0 ∷ 0 ∷ 0 ∷ 4 ∷ 6 ∷ 0 ∷ []) ∷ ([]) ∷ [])
unfolding step bits bytes crc5_of crc16_of after format_of format_ok format_reason reason_of checked_of transaction_status extract_payload details_of with_type with_detail fresh is_read is_set_configuration is_set_interface kind_by kind_of laid is_whole whole_in whole is_of first_of max_of value_of chunks applied count_set note_of with_max device_after count_after shelf_after row_after setup_group control_group begin_group repeat_group other_group group_status group_update group_early_start group_early_append transaction_update event_update handle_raw_packet handle_event handle_detail finish
run-detail-11 = refl

run-address-12 :
    Leaves (packet (0x2D ∷ 0x00 ∷ 0x10 ∷ []) 2581500037 ∷ packet (0xC3 ∷ 0x00 ∷ 0x05 ∷ 0x80 ∷ 0x00 ∷ 0x00 ∷ 0x00 ∷ 0x00 ∷ 0x00 ∷ 0xF5 ∷ 0x34 ∷ []) 2581501369 ∷ packet (0xD2 ∷ []) 2581503092 ∷ packet (0x69 ∷ 0x82 ∷ 0x31 ∷ []) 2581504810 ∷ packet (0x5A ∷ []) 2581505565 ∷ packet (0x2D ∷ 0x82 ∷ 0x18 ∷ []) 2581505732 ∷ packet (0xC3 ∷ 0x00 ∷ 0x05 ∷ 0x80 ∷ 0x00 ∷ 0x00 ∷ 0x00 ∷ 0x00 ∷ 0x00 ∷ 0xF5 ∷ 0x34 ∷ []) 2581506940 ∷ packet (0xD2 ∷ []) 2581507529 ∷ packet (0x69 ∷ 0x82 ∷ 0x18 ∷ []) 2581509293 ∷ packet (0xC3 ∷ 0x00 ∷ 0x00 ∷ []) 2581510809 ∷ packet (0xD2 ∷ []) 2581512390 ∷ packet (0x69 ∷ 0x81 ∷ 0x58 ∷ []) 2581512660 ∷ packet (0x5A ∷ []) 2581513022 ∷ packet (0x2D ∷ 0x80 ∷ 0xA0 ∷ []) 2581513510 ∷ packet (0xC3 ∷ 0x80 ∷ 0x05 ∷ 0x01 ∷ 0x01 ∷ 0x00 ∷ 0x00 ∷ 0x00 ∷ 0x00 ∷ 0xDE ∷ 0x85 ∷ []) 2581514809 ∷ packet (0xD2 ∷ []) 2581516639 ∷ finishing ∷ [])
    ((45 ∷ 0 ∷ 16 ∷ 195 ∷ 0 ∷ 5 ∷ 128 ∷ 0 ∷ 0 ∷ 0 ∷ 0 ∷ 0 ∷ 245 ∷ 52 ∷ 210 ∷ 105 ∷ 130 ∷ 49 ∷ 90 ∷ 45 ∷ 130 ∷ 24 ∷ 195 ∷ 0 ∷ 5 ∷ 128 ∷ 0 ∷ 0 ∷ 0 ∷ 0 ∷ 0 ∷ 245 ∷ 52 ∷ 210 ∷ 105 ∷ 130 ∷ 24 ∷ 195 ∷ 0 ∷ 0 ∷ 210 ∷ 105 ∷ 129 ∷ 88 ∷ 90 ∷ 45 ∷ 128 ∷ 160 ∷ 195 ∷ 128 ∷ 5 ∷ 1 ∷ 1 ∷ 0 ∷ 0 ∷ 0 ∷ 0 ∷ 222 ∷ 133 ∷ 210 ∷ []) ∷ (0 ∷ 2 ∷ 1 ∷ []) ∷ (0 ∷ 16 ∷ 0 ∷ 0 ∷ 17 ∷ 0 ∷ 0 ∷ 18 ∷ 0 ∷ 0 ∷ 0 ∷ 0 ∷ 1 ∷ 3 ∷ 1 ∷ 1 ∷ 1 ∷ 0 ∷ 1 ∷ 1 ∷ 1 ∷ 2 ∷ 1 ∷ 1 ∷ 0 ∷ 1 ∷ 0 ∷ []) ∷ (0 ∷ 2581500037 ∷ 3 ∷ 2581501369 ∷ 14 ∷ 2581503092 ∷ 15 ∷ 2581504810 ∷ 18 ∷ 2581505565 ∷ 19 ∷ 2581505732 ∷ 22 ∷ 2581506940 ∷ 33 ∷ 2581507529 ∷ 34 ∷ 2581509293 ∷ 37 ∷ 2581510809 ∷ 40 ∷ 2581512390 ∷ 41 ∷ 2581512660 ∷ 44 ∷ 2581513022 ∷ 45 ∷ 2581513510 ∷ 48 ∷ 2581514809 ∷ 59 ∷ 2581516639 ∷ []) ∷ ([]) ∷ (0 ∷ 0 ∷ 3 ∷ 0 ∷ 5 ∷ 0 ∷ 8 ∷ 0 ∷ 11 ∷ 0 ∷ 13 ∷ 0 ∷ []) ∷ (3 ∷ 0 ∷ 1 ∷ 0 ∷ 2581500037 ∷ 4 ∷ 0 ∷ 1 ∷ 3 ∷ 2581504810 ∷ 5 ∷ 0 ∷ 1 ∷ 5 ∷ 2581505732 ∷ 5 ∷ 0 ∷ 0 ∷ 7 ∷ 2581507529 ∷ 6 ∷ 0 ∷ 1 ∷ 8 ∷ 2581509293 ∷ 7 ∷ 0 ∷ 1 ∷ 11 ∷ 2581512660 ∷ 8 ∷ 0 ∷ 1 ∷ 13 ∷ 2581513510 ∷ 8 ∷ 0 ∷ 0 ∷ 15 ∷ 2581516639 ∷ []) ∷ (0 ∷ 0 ∷ 0 ∷ 1 ∷ 0 ∷ 0 ∷ 0 ∷ 2 ∷ 1 ∷ 0 ∷ 0 ∷ 0 ∷ 2 ∷ 2 ∷ 1 ∷ 0 ∷ 0 ∷ 0 ∷ 2 ∷ 2 ∷ 3 ∷ 0 ∷ 0 ∷ 0 ∷ 2 ∷ 2 ∷ 0 ∷ 1 ∷ 0 ∷ 0 ∷ 0 ∷ 2 ∷ 2 ∷ 0 ∷ 2 ∷ 1 ∷ 0 ∷ 0 ∷ 0 ∷ 2 ∷ 2 ∷ 0 ∷ 2 ∷ 2 ∷ 1 ∷ 0 ∷ 0 ∷ 0 ∷ 2 ∷ 2 ∷ 0 ∷ 2 ∷ 2 ∷ 3 ∷ []) ∷ (0 ∷ 4 ∷ 9 ∷ 15 ∷ 21 ∷ 28 ∷ 36 ∷ 45 ∷ []) ∷ (0 ∷ 1 ∷ 2 ∷ 4 ∷ 5 ∷ 6 ∷ []) ∷ (0 ∷ 3 ∷ 0 ∷ 0 ∷ 1 ∷ 3 ∷ 0 ∷ 0 ∷ 0 ∷ 4 ∷ 1 ∷ 0 ∷ 1 ∷ 4 ∷ 0 ∷ 0 ∷ 0 ∷ 5 ∷ 2 ∷ 0 ∷ 1 ∷ 5 ∷ 0 ∷ 0 ∷ 0 ∷ 6 ∷ 3 ∷ 0 ∷ 1 ∷ 6 ∷ 0 ∷ 0 ∷ 3 ∷ 5 ∷ 3 ∷ 0 ∷ 2 ∷ 6 ∷ 0 ∷ 0 ∷ 0 ∷ 7 ∷ 4 ∷ 0 ∷ 1 ∷ 7 ∷ 0 ∷ 0 ∷ 0 ∷ 8 ∷ 5 ∷ 0 ∷ 1 ∷ 8 ∷ 0 ∷ 0 ∷ []) ∷ ([]) ∷ [])
unfolding step bits bytes crc5_of crc16_of after format_of format_ok format_reason reason_of checked_of transaction_status extract_payload details_of with_type with_detail fresh is_read is_set_configuration is_set_interface kind_by kind_of laid is_whole whole_in whole is_of first_of max_of value_of chunks applied count_set note_of with_max device_after count_after shelf_after row_after setup_group control_group begin_group repeat_group other_group group_status group_update group_early_start group_early_append transaction_update event_update handle_raw_packet handle_event handle_detail finish
run-address-12 = refl

run-time-13 :
    Leaves (packet (0xA5 ∷ 0x01 ∷ 0xE8 ∷ []) 91 ∷ packet (0xA5 ∷ 0x02 ∷ 0xA8 ∷ []) 335 ∷ packet (0xA5 ∷ 0x03 ∷ 0x50 ∷ []) 798 ∷ packet (0xA5 ∷ 0x04 ∷ 0x28 ∷ []) 4294881590 ∷ packet (0xA5 ∷ 0x05 ∷ 0xD0 ∷ []) 4294882472 ∷ packet (0xA5 ∷ 0x06 ∷ 0x90 ∷ []) 4294883509 ∷ packet (0xA5 ∷ 0x07 ∷ 0x68 ∷ []) 4294884726 ∷ packet (0xA5 ∷ 0x08 ∷ 0x60 ∷ []) 4294884936 ∷ packet (0xA5 ∷ 0x09 ∷ 0x98 ∷ []) 8589796724 ∷ packet (0xA5 ∷ 0x0A ∷ 0xD8 ∷ []) 8589797778 ∷ packet (0xA5 ∷ 0x0B ∷ 0x20 ∷ []) 8589797858 ∷ packet (0x69 ∷ 0x01 ∷ 0xC1 ∷ []) 8589799257 ∷ packet (0xC3 ∷ 0xAD ∷ 0xD2 ∷ 0x85 ∷ 0xC9 ∷ 0xDD ∷ 0x88 ∷ []) 8589799847 ∷ packet (0xD2 ∷ []) 8589800038 ∷ packet (0x69 ∷ 0x01 ∷ 0xC1 ∷ []) 8589801401 ∷ packet (0x5A ∷ []) 8589803013 ∷ finishing ∷ [])
    ((165 ∷ 1 ∷ 232 ∷ 165 ∷ 2 ∷ 168 ∷ 165 ∷ 3 ∷ 80 ∷ 165 ∷ 4 ∷ 40 ∷ 165 ∷ 5 ∷ 208 ∷ 165 ∷ 6 ∷ 144 ∷ 165 ∷ 7 ∷ 104 ∷ 165 ∷ 8 ∷ 96 ∷ 165 ∷ 9 ∷ 152 ∷ 165 ∷ 10 ∷ 216 ∷ 165 ∷ 11 ∷ 32 ∷ 105 ∷ 1 ∷ 193 ∷ 195 ∷ 173 ∷ 210 ∷ 133 ∷ 201 ∷ 221 ∷ 136 ∷ 210 ∷ 105 ∷ 1 ∷ 193 ∷ 90 ∷ []) ∷ (0 ∷ 1 ∷ []) ∷ (0 ∷ 16 ∷ 0 ∷ 0 ∷ 17 ∷ 0 ∷ 0 ∷ 18 ∷ 0 ∷ 1 ∷ 2 ∷ 1 ∷ []) ∷ (0 ∷ 91 ∷ 3 ∷ 335 ∷ 6 ∷ 798 ∷ 9 ∷ 4294881590 ∷ 12 ∷ 4294882472 ∷ 15 ∷ 4294883509 ∷ 18 ∷ 4294884726 ∷ 21 ∷ 4294884936 ∷ 24 ∷ 8589796724 ∷ 27 ∷ 8589797778 ∷ 30 ∷ 8589797858 ∷ 33 ∷ 8589799257 ∷ 36 ∷ 8589799847 ∷ 43 ∷ 8589800038 ∷ 44 ∷ 8589801401 ∷ 47 ∷ 8589803013 ∷ []) ∷ ([]) ∷ (0 ∷ 0 ∷ 11 ∷ 0 ∷ 14 ∷ 0 ∷ []) ∷ (2 ∷ 0 ∷ 1 ∷ 0 ∷ 91 ∷ 3 ∷ 0 ∷ 1 ∷ 11 ∷ 8589799257 ∷ 3 ∷ 0 ∷ 0 ∷ 15 ∷ 8589803013 ∷ 3 ∷ 1 ∷ 1 ∷ 15 ∷ 8589803013 ∷ []) ∷ (0 ∷ 0 ∷ 1 ∷ 0 ∷ 0 ∷ 2 ∷ 1 ∷ 0 ∷ 0 ∷ 2 ∷ 3 ∷ 0 ∷ 0 ∷ 2 ∷ 1 ∷ []) ∷ (0 ∷ 3 ∷ 7 ∷ 11 ∷ []) ∷ (0 ∷ 1 ∷ 3 ∷ []) ∷ (0 ∷ 2 ∷ 0 ∷ 0 ∷ 1 ∷ 2 ∷ 0 ∷ 0 ∷ 0 ∷ 3 ∷ 1 ∷ 0 ∷ 1 ∷ 3 ∷ 0 ∷ 0 ∷ 2 ∷ 3 ∷ 0 ∷ 0 ∷ 0 ∷ 3 ∷ 2 ∷ 0 ∷ 1 ∷ 3 ∷ 1 ∷ 0 ∷ 3 ∷ 3 ∷ 2 ∷ 0 ∷ []) ∷ ([]) ∷ [])
unfolding step bits bytes crc5_of crc16_of after format_of format_ok format_reason reason_of checked_of transaction_status extract_payload details_of with_type with_detail fresh is_read is_set_configuration is_set_interface kind_by kind_of laid is_whole whole_in whole is_of first_of max_of value_of chunks applied count_set note_of with_max device_after count_after shelf_after row_after setup_group control_group begin_group repeat_group other_group group_status group_update group_early_start group_early_append transaction_update event_update handle_raw_packet handle_event handle_detail finish
run-time-13 = refl

run-refused-14 :
    Leaves (packet (0x69 ∷ 0x80 ∷ 0x89 ∷ []) 903606545 ∷ packet (0x69 ∷ 0x80 ∷ 0x89 ∷ []) 903606623 ∷ packet (0x5A ∷ []) 903607568 ∷ detail 0 3 1 2 8 ∷ packet (0xE1 ∷ 0x80 ∷ 0x89 ∷ []) 903607572 ∷ packet (0xC3 ∷ 0xBA ∷ 0xE3 ∷ 0x5E ∷ 0x38 ∷ 0x09 ∷ 0x9A ∷ 0xC2 ∷ 0xFD ∷ 0xF9 ∷ 0xD8 ∷ []) 903609334 ∷ packet (0xD2 ∷ []) 903609883 ∷ packet (0xE1 ∷ 0x80 ∷ 0x89 ∷ []) 903611128 ∷ packet (0x4B ∷ 0x36 ∷ 0xFF ∷ 0x41 ∷ 0x01 ∷ 0x3D ∷ 0x08 ∷ 0x4E ∷ 0xF5 ∷ 0x78 ∷ 0x9D ∷ []) 903611936 ∷ packet (0xD2 ∷ []) 903613929 ∷ packet (0xE1 ∷ 0x80 ∷ 0x89 ∷ []) 903615913 ∷ packet (0xC3 ∷ 0x84 ∷ 0x40 ∷ 0xDC ∷ []) 903616862 ∷ packet (0xD2 ∷ []) 903618693 ∷ packet (0xE1 ∷ 0x01 ∷ 0xC1 ∷ []) 903620254 ∷ finishing ∷ [])
    ((105 ∷ 128 ∷ 137 ∷ 105 ∷ 128 ∷ 137 ∷ 90 ∷ 225 ∷ 128 ∷ 137 ∷ 195 ∷ 186 ∷ 227 ∷ 94 ∷ 56 ∷ 9 ∷ 154 ∷ 194 ∷ 253 ∷ 249 ∷ 216 ∷ 210 ∷ 225 ∷ 128 ∷ 137 ∷ 75 ∷ 54 ∷ 255 ∷ 65 ∷ 1 ∷ 61 ∷ 8 ∷ 78 ∷ 245 ∷ 120 ∷ 157 ∷ 210 ∷ 225 ∷ 128 ∷ 137 ∷ 195 ∷ 132 ∷ 64 ∷ 220 ∷ 210 ∷ 225 ∷ 1 ∷ 193 ∷ []) ∷ (0 ∷ 1 ∷ []) ∷ (0 ∷ 16 ∷ 0 ∷ 0 ∷ 17 ∷ 0 ∷ 0 ∷ 18 ∷ 0 ∷ 0 ∷ 3 ∷ 1 ∷ 0 ∷ 3 ∷ 0 ∷ 1 ∷ 2 ∷ 0 ∷ []) ∷ (0 ∷ 903606545 ∷ 3 ∷ 903606623 ∷ 6 ∷ 903607568 ∷ 7 ∷ 903607572 ∷ 10 ∷ 903609334 ∷ 21 ∷ 903609883 ∷ 22 ∷ 903611128 ∷ 25 ∷ 903611936 ∷ 36 ∷ 903613929 ∷ 37 ∷ 903615913 ∷ 40 ∷ 903616862 ∷ 44 ∷ 903618693 ∷ 45 ∷ 903620254 ∷ []) ∷ ([]) ∷ (0 ∷ 0 ∷ 1 ∷ 0 ∷ 3 ∷ 0 ∷ 6 ∷ 0 ∷ 9 ∷ 0 ∷ 12 ∷ 0 ∷ []) ∷ (3 ∷ 0 ∷ 1 ∷ 0 ∷ 903606545 ∷ 4 ∷ 0 ∷ 1 ∷ 3 ∷ 903607572 ∷ 5 ∷ 0 ∷ 1 ∷ 12 ∷ 903620254 ∷ []) ∷ (0 ∷ 0 ∷ 0 ∷ 1 ∷ 0 ∷ 0 ∷ 0 ∷ 2 ∷ 1 ∷ 0 ∷ 0 ∷ 0 ∷ 2 ∷ 2 ∷ 1 ∷ []) ∷ (0 ∷ 4 ∷ 9 ∷ []) ∷ (0 ∷ 1 ∷ 2 ∷ []) ∷ (0 ∷ 3 ∷ 0 ∷ 0 ∷ 1 ∷ 3 ∷ 0 ∷ 0 ∷ 0 ∷ 3 ∷ 1 ∷ 0 ∷ 0 ∷ 4 ∷ 2 ∷ 0 ∷ 1 ∷ 4 ∷ 0 ∷ 0 ∷ 2 ∷ 4 ∷ 0 ∷ 0 ∷ 0 ∷ 4 ∷ 3 ∷ 0 ∷ 2 ∷ 4 ∷ 1 ∷ 8 ∷ 0 ∷ 4 ∷ 4 ∷ 0 ∷ 2 ∷ 4 ∷ 2 ∷ 16 ∷ 0 ∷ 5 ∷ 5 ∷ 0 ∷ 1 ∷ 5 ∷ 0 ∷ 0 ∷ []) ∷ ([]) ∷ [])
unfolding step bits bytes crc5_of crc16_of after format_of format_ok format_reason reason_of checked_of transaction_status extract_payload details_of with_type with_detail fresh is_read is_set_configuration is_set_interface kind_by kind_of laid is_whole whole_in whole is_of first_of max_of value_of chunks applied count_set note_of with_max device_after count_after shelf_after row_after setup_group control_group begin_group repeat_group other_group group_status group_update group_early_start group_early_append transaction_update event_update handle_raw_packet handle_event handle_detail finish
run-refused-14 = refl

run-soup-15 :
    Leaves (packet (0xD2 ∷ []) 2884982637 ∷ packet (0x69 ∷ 0x83 ∷ 0xC9 ∷ []) 2884984238 ∷ packet (0x69 ∷ 0x83 ∷ 0xC9 ∷ []) 2884985090 ∷ packet (0x5A ∷ []) 2884986090 ∷ detail 3 3 0 0 8 ∷ packet (0x69 ∷ 0x02 ∷ 0xA8 ∷ []) 2884986927 ∷ packet (0x69 ∷ 0x02 ∷ 0xA8 ∷ []) 2884987810 ∷ packet (0x5A ∷ []) 2884989791 ∷ detail 2 0 1 0 8 ∷ packet ([]) 2884991507 ∷ packet (0x96 ∷ []) 2884992177 ∷ event 4 27 2884993510 ∷ packet (0xE1 ∷ 0x01 ∷ 0xE8 ∷ []) 2884995096 ∷ packet (0x4B ∷ 0x1C ∷ 0x50 ∷ 0x4A ∷ 0xC3 ∷ 0x3F ∷ 0x44 ∷ 0xC5 ∷ 0xB5 ∷ 0x70 ∷ 0x42 ∷ 0x3D ∷ 0x00 ∷ 0x9D ∷ 0xFE ∷ 0xCE ∷ 0x34 ∷ 0xAD ∷ 0x30 ∷ 0x78 ∷ 0x31 ∷ 0x70 ∷ 0xF4 ∷ 0x9F ∷ 0x50 ∷ 0xC5 ∷ 0x65 ∷ 0xDF ∷ 0xE9 ∷ 0x8E ∷ 0x26 ∷ 0x40 ∷ 0xC7 ∷ 0x2B ∷ 0x8B ∷ 0x81 ∷ 0x6F ∷ 0xAB ∷ 0x11 ∷ 0xCD ∷ 0x52 ∷ 0xCF ∷ 0x23 ∷ 0x6C ∷ 0xC9 ∷ 0x94 ∷ 0xD9 ∷ 0x21 ∷ 0x07 ∷ 0xD3 ∷ 0xF5 ∷ 0xD3 ∷ 0x4D ∷ 0x1D ∷ 0x0A ∷ 0x0C ∷ 0x4A ∷ 0xA9 ∷ 0x25 ∷ 0xEC ∷ 0x34 ∷ 0x92 ∷ 0x09 ∷ 0x65 ∷ 0xCF ∷ 0x60 ∷ []) 2884995179 ∷ packet (0x87 ∷ 0xF7 ∷ 0x85 ∷ 0x65 ∷ 0x43 ∷ 0x39 ∷ 0xCA ∷ 0xC5 ∷ 0x75 ∷ 0x41 ∷ 0xCB ∷ 0x16 ∷ 0x10 ∷ 0x12 ∷ 0x4A ∷ 0xBC ∷ 0x32 ∷ 0x03 ∷ 0x5A ∷ 0xE4 ∷ 0x33 ∷ 0x92 ∷ 0x05 ∷ 0x7B ∷ 0x6B ∷ 0xFD ∷ 0x3B ∷ 0x0D ∷ 0x4F ∷ 0x01 ∷ 0x5E ∷ 0xA0 ∷ 0xCA ∷ 0x0B ∷ 0x86 ∷ 0x00 ∷ 0x89 ∷ 0xB8 ∷ 0x26 ∷ 0x2E ∷ 0x32 ∷ 0x8D ∷ 0x15 ∷ 0xCD ∷ 0x09 ∷ 0x55 ∷ 0xCC ∷ 0xF4 ∷ 0xA1 ∷ 0x2C ∷ 0x1A ∷ 0x2C ∷ 0xDF ∷ 0xD1 ∷ 0x05 ∷ 0xD2 ∷ 0x42 ∷ 0x17 ∷ 0xA4 ∷ 0x44 ∷ 0x70 ∷ 0xAE ∷ 0xF7 ∷ 0x44 ∷ 0xF3 ∷ 0xBC ∷ []) 2884996696 ∷ packet (0xB4 ∷ 0x82 ∷ 0x18 ∷ []) 2884997615 ∷ finishing ∷ [])
    ((210 ∷ 105 ∷ 131 ∷ 201 ∷ 105 ∷ 131 ∷ 201 ∷ 90 ∷ 105 ∷ 2 ∷ 168 ∷ 105 ∷ 2 ∷ 168 ∷ 90 ∷ 150 ∷ 225 ∷ 1 ∷ 232 ∷ 75 ∷ 28 ∷ 80 ∷ 74 ∷ 195 ∷ 63 ∷ 68 ∷ 197 ∷ 181 ∷ 112 ∷ 66 ∷ 61 ∷ 0 ∷ 157 ∷ 254 ∷ 206 ∷ 52 ∷ 173 ∷ 48 ∷ 120 ∷ 49 ∷ 112 ∷ 244 ∷ 159 ∷ 80 ∷ 197 ∷ 101 ∷ 223 ∷ 233 ∷ 142 ∷ 38 ∷ 64 ∷ 199 ∷ 43 ∷ 139 ∷ 129 ∷ 111 ∷ 171 ∷ 17 ∷ 205 ∷ 82 ∷ 207 ∷ 35 ∷ 108 ∷ 201 ∷ 148 ∷ 217 ∷ 33 ∷ 7 ∷ 211 ∷ 245 ∷ 211 ∷ 77 ∷ 29 ∷ 10 ∷ 12 ∷ 74 ∷ 169 ∷ 37 ∷ 236 ∷ 52 ∷ 146 ∷ 9 ∷ 101 ∷ 207 ∷ 96 ∷ 135 ∷ 247 ∷ 133 ∷ 101 ∷ 67 ∷ 57 ∷ 202 ∷ 197 ∷ 117 ∷ 65 ∷ 203 ∷ 22 ∷ 16 ∷ 18 ∷ 74 ∷ 188 ∷ 50 ∷ 3 ∷ 90 ∷ 228 ∷ 51 ∷ 146 ∷ 5 ∷ 123 ∷ 107 ∷ 253 ∷ 59 ∷ 13 ∷ 79 ∷ 1 ∷ 94 ∷ 160 ∷ 202 ∷ 11 ∷ 134 ∷ 0 ∷ 137 ∷ 184 ∷ 38 ∷ 46 ∷ 50 ∷ 141 ∷ 21 ∷ 205 ∷ 9 ∷ 85 ∷ 204 ∷ 244 ∷ 161 ∷ 44 ∷ 26 ∷ 44 ∷ 223 ∷ 209 ∷ 5 ∷ 210 ∷ 66 ∷ 23 ∷ 164 ∷ 68 ∷ 112 ∷ 174 ∷ 247 ∷ 68 ∷ 243 ∷ 188 ∷ 180 ∷ 130 ∷ 24 ∷ []) ∷ (0 ∷ 3 ∷ 2 ∷ 1 ∷ []) ∷ (0 ∷ 16 ∷ 0 ∷ 0 ∷ 17 ∷ 0 ∷ 0 ∷ 18 ∷ 0 ∷ 1 ∷ 3 ∷ 1 ∷ 2 ∷ 0 ∷ 0 ∷ 3 ∷ 0 ∷ 0 ∷ 2 ∷ 1 ∷ 0 ∷ []) ∷ (0 ∷ 2884982637 ∷ 1 ∷ 2884984238 ∷ 4 ∷ 2884985090 ∷ 7 ∷ 2884986090 ∷ 8 ∷ 2884986927 ∷ 11 ∷ 2884987810 ∷ 14 ∷ 2884989791 ∷ 15 ∷ 2884991507 ∷ 15 ∷ 2884992177 ∷ 16 ∷ 2884993510 ∷ 16 ∷ 2884995096 ∷ 19 ∷ 2884995179 ∷ 85 ∷ 2884996696 ∷ 151 ∷ 2884997615 ∷ []) ∷ (9 ∷ 27 ∷ []) ∷ (0 ∷ 0 ∷ 1 ∷ 0 ∷ 2 ∷ 0 ∷ 4 ∷ 0 ∷ 5 ∷ 0 ∷ 7 ∷ 1 ∷ 8 ∷ 0 ∷ 9 ∷ 0 ∷ 10 ∷ 0 ∷ 12 ∷ 0 ∷ 13 ∷ 0 ∷ []) ∷ (1 ∷ 0 ∷ 1 ∷ 0 ∷ 2884982637 ∷ 1 ∷ 0 ∷ 0 ∷ 0 ∷ 2884982637 ∷ 3 ∷ 0 ∷ 1 ∷ 1 ∷ 2884984238 ∷ 4 ∷ 0 ∷ 1 ∷ 4 ∷ 2884986927 ∷ 4 ∷ 0 ∷ 0 ∷ 6 ∷ 2884989791 ∷ 4 ∷ 1 ∷ 1 ∷ 6 ∷ 2884989791 ∷ 4 ∷ 1 ∷ 0 ∷ 6 ∷ 2884989791 ∷ 1 ∷ 1 ∷ 1 ∷ 7 ∷ 2884991507 ∷ 1 ∷ 1 ∷ 0 ∷ 7 ∷ 2884991507 ∷ 1 ∷ 2 ∷ 1 ∷ 8 ∷ 2884992177 ∷ 1 ∷ 2 ∷ 0 ∷ 8 ∷ 2884992177 ∷ 0 ∷ 0 ∷ 0 ∷ 9 ∷ 2884993510 ∷ 5 ∷ 0 ∷ 1 ∷ 10 ∷ 2884995096 ∷ 1 ∷ 3 ∷ 1 ∷ 12 ∷ 2884996696 ∷ 1 ∷ 3 ∷ 0 ∷ 12 ∷ 2884996696 ∷ 6 ∷ 0 ∷ 1 ∷ 13 ∷ 2884997615 ∷ 6 ∷ 0 ∷ 0 ∷ 13 ∷ 2884997615 ∷ []) ∷ (0 ∷ 1 ∷ 0 ∷ 0 ∷ 3 ∷ 0 ∷ 0 ∷ 0 ∷ 0 ∷ 1 ∷ 0 ∷ 0 ∷ 0 ∷ 2 ∷ 1 ∷ 0 ∷ 0 ∷ 0 ∷ 2 ∷ 3 ∷ 0 ∷ 0 ∷ 0 ∷ 2 ∷ 1 ∷ 0 ∷ 0 ∷ 0 ∷ 2 ∷ 3 ∷ 0 ∷ 1 ∷ 0 ∷ 2 ∷ 0 ∷ 0 ∷ 3 ∷ 0 ∷ 2 ∷ 0 ∷ 0 ∷ 1 ∷ 0 ∷ 2 ∷ 0 ∷ 0 ∷ 3 ∷ 0 ∷ 2 ∷ 0 ∷ 3 ∷ 0 ∷ 0 ∷ 3 ∷ 0 ∷ 0 ∷ 0 ∷ 0 ∷ 0 ∷ 0 ∷ 1 ∷ 0 ∷ 1 ∷ 0 ∷ 0 ∷ 0 ∷ 2 ∷ 0 ∷ 3 ∷ 0 ∷ 0 ∷ 0 ∷ 2 ∷ 0 ∷ 0 ∷ 0 ∷ 0 ∷ 0 ∷ 2 ∷ 1 ∷ 0 ∷ 0 ∷ 0 ∷ 0 ∷ 0 ∷ 2 ∷ 3 ∷ []) ∷ (0 ∷ 3 ∷ 6 ∷ 10 ∷ 15 ∷ 20 ∷ 25 ∷ 30 ∷ 35 ∷ 40 ∷ 45 ∷ 50 ∷ 55 ∷ 61 ∷ 67 ∷ 73 ∷ 80 ∷ []) ∷ (0 ∷ 2 ∷ 3 ∷ 5 ∷ 7 ∷ 9 ∷ 11 ∷ 12 ∷ 13 ∷ 15 ∷ []) ∷ (0 ∷ 1 ∷ 0 ∷ 0 ∷ 1 ∷ 1 ∷ 0 ∷ 0 ∷ 0 ∷ 3 ∷ 1 ∷ 0 ∷ 1 ∷ 3 ∷ 0 ∷ 0 ∷ 3 ∷ 1 ∷ 1 ∷ 0 ∷ 0 ∷ 3 ∷ 2 ∷ 0 ∷ 0 ∷ 4 ∷ 3 ∷ 0 ∷ 1 ∷ 4 ∷ 0 ∷ 0 ∷ 0 ∷ 4 ∷ 4 ∷ 0 ∷ 1 ∷ 4 ∷ 1 ∷ 0 ∷ 3 ∷ 4 ∷ 3 ∷ 0 ∷ 0 ∷ 1 ∷ 5 ∷ 0 ∷ 1 ∷ 1 ∷ 1 ∷ 0 ∷ 3 ∷ 4 ∷ 4 ∷ 0 ∷ 0 ∷ 1 ∷ 6 ∷ 0 ∷ 1 ∷ 1 ∷ 2 ∷ 0 ∷ 3 ∷ 1 ∷ 5 ∷ 0 ∷ 0 ∷ 0 ∷ 7 ∷ 0 ∷ 1 ∷ 0 ∷ 0 ∷ 0 ∷ 3 ∷ 1 ∷ 6 ∷ 0 ∷ 3 ∷ 3 ∷ 6 ∷ 0 ∷ 0 ∷ 5 ∷ 8 ∷ 0 ∷ 1 ∷ 5 ∷ 0 ∷ 0 ∷ 0 ∷ 1 ∷ 9 ∷ 0 ∷ 1 ∷ 1 ∷ 3 ∷ 0 ∷ 0 ∷ 6 ∷ 10 ∷ 0 ∷ 1 ∷ 6 ∷ 0 ∷ 0 ∷ 3 ∷ 1 ∷ 9 ∷ 0 ∷ []) ∷ ([]) ∷ [])
unfolding step bits bytes crc5_of crc16_of after format_of format_ok format_reason reason_of checked_of transaction_status extract_payload details_of with_type with_detail fresh is_read is_set_configuration is_set_interface kind_by kind_of laid is_whole whole_in whole is_of first_of max_of value_of chunks applied count_set note_of with_max device_after count_after shelf_after row_after setup_group control_group begin_group repeat_group other_group group_status group_update group_early_start group_early_append transaction_update event_update handle_raw_packet handle_event handle_detail finish
run-soup-15 = refl

run-mixed-16 :
    Leaves (packet (0x2D ∷ 0x00 ∷ 0x10 ∷ []) 3128399029 ∷ packet (0xC3 ∷ 0x80 ∷ 0x06 ∷ 0x00 ∷ 0x01 ∷ 0x00 ∷ 0x00 ∷ 0x12 ∷ 0x00 ∷ 0xE0 ∷ 0xF4 ∷ []) 3128399772 ∷ packet (0xD2 ∷ []) 3128400727 ∷ packet (0x69 ∷ 0x00 ∷ 0x10 ∷ []) 3128402344 ∷ packet (0x5A ∷ []) 3128403001 ∷ packet (0x69 ∷ 0x00 ∷ 0x10 ∷ []) 3128403469 ∷ packet (0x4B ∷ 0x6D ∷ 0x48 ∷ 0x97 ∷ 0x64 ∷ 0x1E ∷ 0xAC ∷ 0xF1 ∷ 0x1D ∷ 0x9E ∷ 0xFE ∷ []) 3128405394 ∷ packet (0xD2 ∷ []) 3128405951 ∷ packet (0x69 ∷ 0x00 ∷ 0x10 ∷ []) 3128406048 ∷ packet (0xC3 ∷ 0xF6 ∷ 0xF1 ∷ 0xF3 ∷ 0x32 ∷ 0x88 ∷ 0x24 ∷ 0xC2 ∷ 0x91 ∷ 0x06 ∷ 0x35 ∷ []) 3128407357 ∷ packet (0xD2 ∷ []) 3128408569 ∷ packet (0x69 ∷ 0x00 ∷ 0x10 ∷ []) 3128410541 ∷ packet (0xC3 ∷ 0xBB ∷ 0xFC ∷ 0x8C ∷ 0xFE ∷ []) 3128410792 ∷ packet (0xD2 ∷ []) 3128412256 ∷ packet (0xB4 ∷ 0x00 ∷ 0x10 ∷ []) 3128412610 ∷ packet (0xD2 ∷ []) 3128413809 ∷ finishing ∷ [])
    ((45 ∷ 0 ∷ 16 ∷ 195 ∷ 128 ∷ 6 ∷ 0 ∷ 1 ∷ 0 ∷ 0 ∷ 18 ∷ 0 ∷ 224 ∷ 244 ∷ 210 ∷ 105 ∷ 0 ∷ 16 ∷ 90 ∷ 105 ∷ 0 ∷ 16 ∷ 75 ∷ 109 ∷ 72 ∷ 151 ∷ 100 ∷ 30 ∷ 172 ∷ 241 ∷ 29 ∷ 158 ∷ 254 ∷ 210 ∷ 105 ∷ 0 ∷ 16 ∷ 195 ∷ 246 ∷ 241 ∷ 243 ∷ 50 ∷ 136 ∷ 36 ∷ 194 ∷ 145 ∷ 6 ∷ 53 ∷ 210 ∷ 105 ∷ 0 ∷ 16 ∷ 195 ∷ 187 ∷ 252 ∷ 140 ∷ 254 ∷ 210 ∷ 180 ∷ 0 ∷ 16 ∷ 210 ∷ []) ∷ (0 ∷ []) ∷ (0 ∷ 16 ∷ 0 ∷ 0 ∷ 17 ∷ 0 ∷ 0 ∷ 18 ∷ 0 ∷ 0 ∷ 0 ∷ 0 ∷ []) ∷ (0 ∷ 3128399029 ∷ 3 ∷ 3128399772 ∷ 14 ∷ 3128400727 ∷ 15 ∷ 3128402344 ∷ 18 ∷ 3128403001 ∷ 19 ∷ 3128403469 ∷ 22 ∷ 3128405394 ∷ 33 ∷ 3128405951 ∷ 34 ∷ 3128406048 ∷ 37 ∷ 3128407357 ∷ 48 ∷ 3128408569 ∷ 49 ∷ 3128410541 ∷ 52 ∷ 3128410792 ∷ 57 ∷ 3128412256 ∷ 58 ∷ 3128412610 ∷ 61 ∷ 3128413809 ∷ []) ∷ ([]) ∷ (0 ∷ 0 ∷ 3 ∷ 0 ∷ 5 ∷ 0 ∷ 8 ∷ 0 ∷ 11 ∷ 0 ∷ 14 ∷ 0 ∷ []) ∷ (3 ∷ 0 ∷ 1 ∷ 0 ∷ 3128399029 ∷ []) ∷ (0 ∷ 0 ∷ 0 ∷ 1 ∷ []) ∷ (0 ∷ []) ∷ (0 ∷ []) ∷ (0 ∷ 3 ∷ 0 ∷ 0 ∷ 1 ∷ 3 ∷ 0 ∷ 0 ∷ 0 ∷ 3 ∷ 1 ∷ 0 ∷ 0 ∷ 3 ∷ 2 ∷ 0 ∷ 2 ∷ 3 ∷ 2 ∷ 0 ∷ 0 ∷ 3 ∷ 3 ∷ 0 ∷ 2 ∷ 3 ∷ 3 ∷ 8 ∷ 0 ∷ 3 ∷ 4 ∷ 0 ∷ 2 ∷ 3 ∷ 4 ∷ 16 ∷ 0 ∷ 3 ∷ 5 ∷ 0 ∷ []) ∷ ([]) ∷ [])
unfolding step bits bytes crc5_of crc16_of after format_of format_ok format_reason reason_of checked_of transaction_status extract_payload details_of with_type with_detail fresh is_read is_set_configuration is_set_interface kind_by kind_of laid is_whole whole_in whole is_of first_of max_of value_of chunks applied count_set note_of with_max device_after count_after shelf_after row_after setup_group control_group begin_group repeat_group other_group group_status group_update group_early_start group_early_append transaction_update event_update handle_raw_packet handle_event handle_detail finish
run-mixed-16 = refl

run-enumeration-17 :
    Leaves (packet (0x2D ∷ 0x00 ∷ 0x10 ∷ []) 786658758 ∷ packet (0xC3 ∷ 0x80 ∷ 0x06 ∷ 0x00 ∷ 0x01 ∷ 0x00 ∷ 0x00 ∷ 0x12 ∷ 0x00 ∷ 0xE0 ∷ 0xF4 ∷ []) 786659376 ∷ packet (0xD2 ∷ []) 786661253 ∷ packet (0x69 ∷ 0x00 ∷ 0x10 ∷ []) 786662919 ∷ packet (0x4B ∷ 0x3A ∷ 0x20 ∷ 0xA0 ∷ 0xAA ∷ 0x85 ∷ 0x96 ∷ 0x35 ∷ 0xEA ∷ 0x42 ∷ 0x1A ∷ []) 786664815 ∷ packet (0xD2 ∷ []) 786666344 ∷ packet (0x69 ∷ 0x00 ∷ 0x10 ∷ []) 786666811 ∷ packet (0x1E ∷ []) 786667340 ∷ packet (0x2D ∷ 0x00 ∷ 0x10 ∷ []) 786669029 ∷ packet (0xC3 ∷ 0x00 ∷ 0x05 ∷ 0x02 ∷ 0x00 ∷ 0x00 ∷ 0x00 ∷ 0x00 ∷ 0x00 ∷ 0xEB ∷ 0x16 ∷ []) 786669422 ∷ packet (0xD2 ∷ []) 786671366 ∷ packet (0x69 ∷ 0x00 ∷ 0x10 ∷ []) 786673088 ∷ packet (0x4B ∷ 0x00 ∷ 0x00 ∷ []) 786673823 ∷ packet (0xD2 ∷ []) 786674363 ∷ packet (0x2D ∷ 0x02 ∷ 0xA8 ∷ []) 786675566 ∷ packet (0xC3 ∷ 0x80 ∷ 0x06 ∷ 0x00 ∷ 0x01 ∷ 0x00 ∷ 0x00 ∷ 0x12 ∷ 0x00 ∷ 0xE0 ∷ 0xF4 ∷ []) 786675798 ∷ finishing ∷ [])
    ((45 ∷ 0 ∷ 16 ∷ 195 ∷ 128 ∷ 6 ∷ 0 ∷ 1 ∷ 0 ∷ 0 ∷ 18 ∷ 0 ∷ 224 ∷ 244 ∷ 210 ∷ 105 ∷ 0 ∷ 16 ∷ 75 ∷ 58 ∷ 32 ∷ 160 ∷ 170 ∷ 133 ∷ 150 ∷ 53 ∷ 234 ∷ 66 ∷ 26 ∷ 210 ∷ 105 ∷ 0 ∷ 16 ∷ 30 ∷ 45 ∷ 0 ∷ 16 ∷ 195 ∷ 0 ∷ 5 ∷ 2 ∷ 0 ∷ 0 ∷ 0 ∷ 0 ∷ 0 ∷ 235 ∷ 22 ∷ 210 ∷ 105 ∷ 0 ∷ 16 ∷ 75 ∷ 0 ∷ 0 ∷ 210 ∷ 45 ∷ 2 ∷ 168 ∷ 195 ∷ 128 ∷ 6 ∷ 0 ∷ 1 ∷ 0 ∷ 0 ∷ 18 ∷ 0 ∷ 224 ∷ 244 ∷ []) ∷ (0 ∷ 2 ∷ []) ∷ (0 ∷ 16 ∷ 0 ∷ 0 ∷ 17 ∷ 0 ∷ 0 ∷ 18 ∷ 0 ∷ 0 ∷ 0 ∷ 0 ∷ 1 ∷ 0 ∷ 0 ∷ []) ∷ (0 ∷ 786658758 ∷ 3 ∷ 786659376 ∷ 14 ∷ 786661253 ∷ 15 ∷ 786662919 ∷ 18 ∷ 786664815 ∷ 29 ∷ 786666344 ∷ 30 ∷ 786666811 ∷ 33 ∷ 786667340 ∷ 34 ∷ 786669029 ∷ 37 ∷ 786669422 ∷ 48 ∷ 786671366 ∷ 49 ∷ 786673088 ∷ 52 ∷ 786673823 ∷ 55 ∷ 786674363 ∷ 56 ∷ 786675566 ∷ 59 ∷ 786675798 ∷ []) ∷ ([]) ∷ (0 ∷ 0 ∷ 3 ∷ 0 ∷ 6 ∷ 0 ∷ 8 ∷ 0 ∷ 11 ∷ 0 ∷ 14 ∷ 0 ∷ []) ∷ (3 ∷ 0 ∷ 1 ∷ 0 ∷ 786658758 ∷ 3 ∷ 0 ∷ 0 ∷ 8 ∷ 786669029 ∷ 3 ∷ 1 ∷ 1 ∷ 8 ∷ 786669029 ∷ 3 ∷ 1 ∷ 0 ∷ 13 ∷ 786674363 ∷ 4 ∷ 0 ∷ 1 ∷ 14 ∷ 786675566 ∷ []) ∷ (0 ∷ 0 ∷ 0 ∷ 1 ∷ 0 ∷ 0 ∷ 0 ∷ 3 ∷ 0 ∷ 0 ∷ 0 ∷ 1 ∷ 0 ∷ 0 ∷ 0 ∷ 3 ∷ 0 ∷ 0 ∷ 0 ∷ 0 ∷ 1 ∷ []) ∷ (0 ∷ 4 ∷ 8 ∷ 12 ∷ 16 ∷ []) ∷ (0 ∷ 2 ∷ 4 ∷ []) ∷ (0 ∷ 3 ∷ 0 ∷ 0 ∷ 1 ∷ 3 ∷ 0 ∷ 0 ∷ 0 ∷ 3 ∷ 1 ∷ 0 ∷ 2 ∷ 3 ∷ 1 ∷ 0 ∷ 0 ∷ 3 ∷ 2 ∷ 0 ∷ 0 ∷ 3 ∷ 3 ∷ 0 ∷ 1 ∷ 3 ∷ 3 ∷ 0 ∷ 3 ∷ 3 ∷ 1 ∷ 0 ∷ 0 ∷ 3 ∷ 4 ∷ 0 ∷ 0 ∷ 4 ∷ 5 ∷ 0 ∷ 1 ∷ 4 ∷ 0 ∷ 0 ∷ 3 ∷ 3 ∷ 2 ∷ 0 ∷ []) ∷ ([]) ∷ [])
unfolding step bits bytes crc5_of crc16_of after format_of format_ok format_reason reason_of checked_of transaction_status extract_payload details_of with_type with_detail fresh is_read is_set_configuration is_set_interface kind_by kind_of laid is_whole whole_in whole is_of first_of max_of value_of chunks applied count_set note_of with_max device_after count_after shelf_after row_after setup_group control_group begin_group repeat_group other_group group_status group_update group_early_start group_early_append transaction_update event_update handle_raw_packet handle_event handle_detail finish
run-enumeration-17 = refl

run-bulk-18 :
    Leaves (packet (0xB4 ∷ 0x00 ∷ 0x39 ∷ []) 156627666 ∷ packet (0x1E ∷ []) 156629056 ∷ packet (0xE1 ∷ 0x00 ∷ 0x39 ∷ []) 156630986 ∷ packet (0xC3 ∷ 0x5D ∷ 0xD6 ∷ 0x22 ∷ 0xE7 ∷ 0xCA ∷ 0x7C ∷ 0xF5 ∷ 0xD5 ∷ 0x56 ∷ 0x17 ∷ 0x93 ∷ 0x4A ∷ 0xE1 ∷ 0x29 ∷ 0x2E ∷ 0x78 ∷ 0x83 ∷ 0xE2 ∷ 0x83 ∷ 0x52 ∷ 0xD2 ∷ 0xF8 ∷ 0xDA ∷ 0x6C ∷ 0x9A ∷ 0xCF ∷ 0x76 ∷ 0xAD ∷ 0x72 ∷ 0xC7 ∷ 0xDB ∷ 0x3E ∷ 0x6E ∷ 0x09 ∷ 0x38 ∷ 0x75 ∷ 0xB9 ∷ 0x84 ∷ 0x7B ∷ 0xB2 ∷ 0xFD ∷ 0x06 ∷ 0x6B ∷ 0x7C ∷ 0x6B ∷ 0xD3 ∷ 0xFB ∷ 0x4F ∷ 0x24 ∷ 0x08 ∷ 0xFA ∷ 0xA1 ∷ 0xF4 ∷ 0x98 ∷ 0xE6 ∷ 0xD4 ∷ 0xCD ∷ 0x44 ∷ 0x66 ∷ 0xB0 ∷ 0xDB ∷ 0xA1 ∷ 0xA8 ∷ 0xE9 ∷ 0xDD ∷ 0xBE ∷ []) 156632419 ∷ packet (0xD2 ∷ []) 156633180 ∷ packet (0xE1 ∷ 0x00 ∷ 0x39 ∷ []) 156634894 ∷ packet (0x4B ∷ 0x5E ∷ 0xD5 ∷ 0x7B ∷ 0xAA ∷ 0xEE ∷ 0xB4 ∷ 0xC2 ∷ 0xB0 ∷ 0xF3 ∷ 0x4D ∷ 0xF0 ∷ 0x45 ∷ 0x5E ∷ 0xBE ∷ 0x8E ∷ 0xB9 ∷ 0xCF ∷ 0x07 ∷ 0x15 ∷ 0x9C ∷ 0xF4 ∷ 0x66 ∷ 0xEE ∷ 0x1C ∷ 0x95 ∷ 0x90 ∷ 0x57 ∷ 0xA5 ∷ 0xA8 ∷ 0x3E ∷ 0x34 ∷ 0x4B ∷ 0xCA ∷ 0x41 ∷ 0x87 ∷ 0x09 ∷ 0x56 ∷ 0xFB ∷ 0x16 ∷ 0xEA ∷ 0x29 ∷ 0xEB ∷ 0x08 ∷ 0x74 ∷ 0xCF ∷ 0xBC ∷ 0xEC ∷ 0x13 ∷ 0xEE ∷ 0xC1 ∷ 0x1B ∷ 0x1F ∷ 0x75 ∷ 0xEE ∷ 0xB6 ∷ 0xDD ∷ 0xC0 ∷ 0x28 ∷ 0xA8 ∷ 0xE8 ∷ 0x17 ∷ 0x04 ∷ 0xEF ∷ 0x2E ∷ 0xFE ∷ 0xCB ∷ []) 156635900 ∷ packet (0xD2 ∷ []) 156636085 ∷ packet (0xE1 ∷ 0x00 ∷ 0x39 ∷ []) 156636239 ∷ packet (0x4B ∷ 0xC0 ∷ 0x00 ∷ 0xAF ∷ 0x63 ∷ 0x61 ∷ 0xA2 ∷ 0x96 ∷ 0xC1 ∷ 0x85 ∷ 0x30 ∷ 0xAC ∷ 0x32 ∷ 0x92 ∷ 0x7B ∷ 0xAB ∷ 0x21 ∷ 0x66 ∷ 0x37 ∷ 0x8F ∷ 0x74 ∷ 0xEA ∷ 0x08 ∷ 0x3C ∷ 0x5C ∷ 0x37 ∷ 0x5E ∷ 0xF1 ∷ 0xE8 ∷ 0x4B ∷ 0xB1 ∷ 0xE2 ∷ 0x8C ∷ 0x55 ∷ 0x18 ∷ 0xF9 ∷ 0x66 ∷ 0x02 ∷ 0x4A ∷ 0x4A ∷ []) 156637697 ∷ packet (0xD2 ∷ []) 156638109 ∷ packet (0x69 ∷ 0x82 ∷ 0x31 ∷ []) 156640066 ∷ packet (0x69 ∷ 0x82 ∷ 0x31 ∷ []) 156641624 ∷ packet (0x5A ∷ []) 156642734 ∷ detail 2 3 1 2 64 ∷ packet (0x69 ∷ 0x82 ∷ 0x31 ∷ []) 156643449 ∷ finishing ∷ [])
    ((180 ∷ 0 ∷ 57 ∷ 30 ∷ 225 ∷ 0 ∷ 57 ∷ 195 ∷ 93 ∷ 214 ∷ 34 ∷ 231 ∷ 202 ∷ 124 ∷ 245 ∷ 213 ∷ 86 ∷ 23 ∷ 147 ∷ 74 ∷ 225 ∷ 41 ∷ 46 ∷ 120 ∷ 131 ∷ 226 ∷ 131 ∷ 82 ∷ 210 ∷ 248 ∷ 218 ∷ 108 ∷ 154 ∷ 207 ∷ 118 ∷ 173 ∷ 114 ∷ 199 ∷ 219 ∷ 62 ∷ 110 ∷ 9 ∷ 56 ∷ 117 ∷ 185 ∷ 132 ∷ 123 ∷ 178 ∷ 253 ∷ 6 ∷ 107 ∷ 124 ∷ 107 ∷ 211 ∷ 251 ∷ 79 ∷ 36 ∷ 8 ∷ 250 ∷ 161 ∷ 244 ∷ 152 ∷ 230 ∷ 212 ∷ 205 ∷ 68 ∷ 102 ∷ 176 ∷ 219 ∷ 161 ∷ 168 ∷ 233 ∷ 221 ∷ 190 ∷ 210 ∷ 225 ∷ 0 ∷ 57 ∷ 75 ∷ 94 ∷ 213 ∷ 123 ∷ 170 ∷ 238 ∷ 180 ∷ 194 ∷ 176 ∷ 243 ∷ 77 ∷ 240 ∷ 69 ∷ 94 ∷ 190 ∷ 142 ∷ 185 ∷ 207 ∷ 7 ∷ 21 ∷ 156 ∷ 244 ∷ 102 ∷ 238 ∷ 28 ∷ 149 ∷ 144 ∷ 87 ∷ 165 ∷ 168 ∷ 62 ∷ 52 ∷ 75 ∷ 202 ∷ 65 ∷ 135 ∷ 9 ∷ 86 ∷ 251 ∷ 22 ∷ 234 ∷ 41 ∷ 235 ∷ 8 ∷ 116 ∷ 207 ∷ 188 ∷ 236 ∷ 19 ∷ 238 ∷ 193 ∷ 27 ∷ 31 ∷ 117 ∷ 238 ∷ 182 ∷ 221 ∷ 192 ∷ 40 ∷ 168 ∷ 232 ∷ 23 ∷ 4 ∷ 239 ∷ 46 ∷ 254 ∷ 203 ∷ 210 ∷ 225 ∷ 0 ∷ 57 ∷ 75 ∷ 192 ∷ 0 ∷ 175 ∷ 99 ∷ 97 ∷ 162 ∷ 150 ∷ 193 ∷ 133 ∷ 48 ∷ 172 ∷ 50 ∷ 146 ∷ 123 ∷ 171 ∷ 33 ∷ 102 ∷ 55 ∷ 143 ∷ 116 ∷ 234 ∷ 8 ∷ 60 ∷ 92 ∷ 55 ∷ 94 ∷ 241 ∷ 232 ∷ 75 ∷ 177 ∷ 226 ∷ 140 ∷ 85 ∷ 24 ∷ 249 ∷ 102 ∷ 2 ∷ 74 ∷ 74 ∷ 210 ∷ 105 ∷ 130 ∷ 49 ∷ 105 ∷ 130 ∷ 49 ∷ 90 ∷ 105 ∷ 130 ∷ 49 ∷ []) ∷ (0 ∷ 2 ∷ []) ∷ (0 ∷ 16 ∷ 0 ∷ 0 ∷ 17 ∷ 0 ∷ 0 ∷ 18 ∷ 0 ∷ 0 ∷ 2 ∷ 0 ∷ 1 ∷ 3 ∷ 1 ∷ []) ∷ (0 ∷ 156627666 ∷ 3 ∷ 156629056 ∷ 4 ∷ 156630986 ∷ 7 ∷ 156632419 ∷ 74 ∷ 156633180 ∷ 75 ∷ 156634894 ∷ 78 ∷ 156635900 ∷ 145 ∷ 156636085 ∷ 146 ∷ 156636239 ∷ 149 ∷ 156637697 ∷ 189 ∷ 156638109 ∷ 190 ∷ 156640066 ∷ 193 ∷ 156641624 ∷ 196 ∷ 156642734 ∷ 197 ∷ 156643449 ∷ []) ∷ ([]) ∷ (0 ∷ 0 ∷ 2 ∷ 0 ∷ 5 ∷ 0 ∷ 8 ∷ 0 ∷ 11 ∷ 0 ∷ 12 ∷ 0 ∷ 14 ∷ 0 ∷ []) ∷ (3 ∷ 0 ∷ 1 ∷ 1 ∷ 156629056 ∷ 3 ∷ 0 ∷ 0 ∷ 1 ∷ 156629056 ∷ 3 ∷ 1 ∷ 1 ∷ 2 ∷ 156630986 ∷ 4 ∷ 0 ∷ 1 ∷ 11 ∷ 156640066 ∷ []) ∷ (0 ∷ 0 ∷ 0 ∷ 1 ∷ 0 ∷ 0 ∷ 0 ∷ 3 ∷ 0 ∷ 0 ∷ 0 ∷ 1 ∷ 0 ∷ 0 ∷ 0 ∷ 2 ∷ 1 ∷ []) ∷ (0 ∷ 4 ∷ 8 ∷ 12 ∷ []) ∷ (0 ∷ 2 ∷ 3 ∷ []) ∷ (0 ∷ 3 ∷ 0 ∷ 0 ∷ 1 ∷ 3 ∷ 0 ∷ 0 ∷ 0 ∷ 3 ∷ 1 ∷ 0 ∷ 1 ∷ 3 ∷ 1 ∷ 0 ∷ 3 ∷ 3 ∷ 1 ∷ 0 ∷ 2 ∷ 3 ∷ 1 ∷ 0 ∷ 0 ∷ 3 ∷ 2 ∷ 0 ∷ 2 ∷ 3 ∷ 2 ∷ 64 ∷ 0 ∷ 3 ∷ 3 ∷ 0 ∷ 2 ∷ 3 ∷ 3 ∷ 128 ∷ 0 ∷ 4 ∷ 4 ∷ 0 ∷ 1 ∷ 4 ∷ 0 ∷ 0 ∷ 0 ∷ 4 ∷ 5 ∷ 0 ∷ 0 ∷ 4 ∷ 6 ∷ 0 ∷ []) ∷ ([]) ∷ [])
unfolding step bits bytes crc5_of crc16_of after format_of format_ok format_reason reason_of checked_of transaction_status extract_payload details_of with_type with_detail fresh is_read is_set_configuration is_set_interface kind_by kind_of laid is_whole whole_in whole is_of first_of max_of value_of chunks applied count_set note_of with_max device_after count_after shelf_after row_after setup_group control_group begin_group repeat_group other_group group_status group_update group_early_start group_early_append transaction_update event_update handle_raw_packet handle_event handle_detail finish
run-bulk-18 = refl

run-isochronous-19 :
    Leaves (packet (0x69 ∷ 0x00 ∷ 0x39 ∷ []) 4014152871 ∷ packet (0x69 ∷ 0x00 ∷ 0x39 ∷ []) 4014154008 ∷ packet (0x5A ∷ []) 4014154152 ∷ detail 0 2 0 1 64 ∷ packet (0xA5 ∷ 0x01 ∷ 0xE8 ∷ []) 4014154979 ∷ packet (0xE1 ∷ 0x00 ∷ 0x39 ∷ []) 4014156442 ∷ packet (0xC3 ∷ 0x0C ∷ 0x8A ∷ 0x37 ∷ 0x4F ∷ 0xE6 ∷ 0xE7 ∷ 0x9B ∷ 0x63 ∷ 0x57 ∷ 0x72 ∷ 0xDF ∷ 0xFB ∷ 0x19 ∷ 0x3C ∷ 0x27 ∷ 0x73 ∷ 0x72 ∷ 0x68 ∷ 0xEC ∷ 0xD4 ∷ 0xA3 ∷ 0xE9 ∷ 0xDA ∷ 0xE8 ∷ 0xB4 ∷ 0xD5 ∷ 0xB3 ∷ 0x81 ∷ 0x67 ∷ 0xFB ∷ 0xFA ∷ 0x1B ∷ 0x81 ∷ 0x51 ∷ 0xCF ∷ 0x63 ∷ 0xD5 ∷ 0x7A ∷ 0x0E ∷ 0x02 ∷ 0x08 ∷ 0xAD ∷ 0x9F ∷ 0x60 ∷ 0x66 ∷ 0x87 ∷ 0xB7 ∷ 0xCB ∷ 0xA6 ∷ 0xD4 ∷ 0xE7 ∷ 0xD3 ∷ 0x14 ∷ 0xDD ∷ 0x63 ∷ 0xAE ∷ 0x49 ∷ 0xE8 ∷ 0xCF ∷ 0x84 ∷ 0x2D ∷ 0x4D ∷ 0xFD ∷ 0xBE ∷ 0xB2 ∷ []) 4014156563 ∷ packet (0xA5 ∷ 0x02 ∷ 0xA8 ∷ []) 4014157825 ∷ packet (0xE1 ∷ 0x00 ∷ 0x39 ∷ []) 4014158228 ∷ packet (0x87 ∷ 0x00 ∷ 0x00 ∷ []) 4014158640 ∷ packet (0xA5 ∷ 0x03 ∷ 0x50 ∷ []) 4014159680 ∷ packet (0xE1 ∷ 0x00 ∷ 0x39 ∷ []) 4014159946 ∷ packet (0xC3 ∷ 0x00 ∷ 0x00 ∷ []) 4014160679 ∷ packet (0xA5 ∷ 0x04 ∷ 0x28 ∷ []) 4014160997 ∷ packet (0xE1 ∷ 0x00 ∷ 0x39 ∷ []) 4014161607 ∷ packet (0xC3 ∷ 0x42 ∷ 0xEA ∷ 0x8B ∷ 0xA4 ∷ 0x38 ∷ 0x71 ∷ 0x92 ∷ 0xAD ∷ 0xFF ∷ 0xA1 ∷ 0x39 ∷ 0x6E ∷ 0xD2 ∷ 0x40 ∷ 0x62 ∷ 0xB4 ∷ 0x81 ∷ 0xA5 ∷ 0x9F ∷ 0x5E ∷ 0xE4 ∷ 0xD6 ∷ 0x88 ∷ 0x0A ∷ 0x0F ∷ 0xD3 ∷ 0x29 ∷ 0x10 ∷ 0xE3 ∷ 0x22 ∷ 0xA3 ∷ 0x2A ∷ 0x90 ∷ 0x0F ∷ 0xF2 ∷ 0x3B ∷ 0x3E ∷ 0x27 ∷ 0xDC ∷ 0x23 ∷ 0x7F ∷ 0xBD ∷ 0xB8 ∷ 0xCC ∷ 0x77 ∷ 0xDC ∷ 0xB2 ∷ 0x04 ∷ 0xEA ∷ 0x8D ∷ 0x1F ∷ 0x2E ∷ 0x7B ∷ 0x97 ∷ 0xAD ∷ 0xE3 ∷ 0x86 ∷ 0xA8 ∷ 0x52 ∷ 0x3E ∷ 0x4B ∷ 0x96 ∷ 0xBB ∷ 0x14 ∷ 0x46 ∷ []) 4014161967 ∷ finishing ∷ [])
    ((105 ∷ 0 ∷ 57 ∷ 105 ∷ 0 ∷ 57 ∷ 90 ∷ 165 ∷ 1 ∷ 232 ∷ 225 ∷ 0 ∷ 57 ∷ 195 ∷ 12 ∷ 138 ∷ 55 ∷ 79 ∷ 230 ∷ 231 ∷ 155 ∷ 99 ∷ 87 ∷ 114 ∷ 223 ∷ 251 ∷ 25 ∷ 60 ∷ 39 ∷ 115 ∷ 114 ∷ 104 ∷ 236 ∷ 212 ∷ 163 ∷ 233 ∷ 218 ∷ 232 ∷ 180 ∷ 213 ∷ 179 ∷ 129 ∷ 103 ∷ 251 ∷ 250 ∷ 27 ∷ 129 ∷ 81 ∷ 207 ∷ 99 ∷ 213 ∷ 122 ∷ 14 ∷ 2 ∷ 8 ∷ 173 ∷ 159 ∷ 96 ∷ 102 ∷ 135 ∷ 183 ∷ 203 ∷ 166 ∷ 212 ∷ 231 ∷ 211 ∷ 20 ∷ 221 ∷ 99 ∷ 174 ∷ 73 ∷ 232 ∷ 207 ∷ 132 ∷ 45 ∷ 77 ∷ 253 ∷ 190 ∷ 178 ∷ 165 ∷ 2 ∷ 168 ∷ 225 ∷ 0 ∷ 57 ∷ 135 ∷ 0 ∷ 0 ∷ 165 ∷ 3 ∷ 80 ∷ 225 ∷ 0 ∷ 57 ∷ 195 ∷ 0 ∷ 0 ∷ 165 ∷ 4 ∷ 40 ∷ 225 ∷ 0 ∷ 57 ∷ 195 ∷ 66 ∷ 234 ∷ 139 ∷ 164 ∷ 56 ∷ 113 ∷ 146 ∷ 173 ∷ 255 ∷ 161 ∷ 57 ∷ 110 ∷ 210 ∷ 64 ∷ 98 ∷ 180 ∷ 129 ∷ 165 ∷ 159 ∷ 94 ∷ 228 ∷ 214 ∷ 136 ∷ 10 ∷ 15 ∷ 211 ∷ 41 ∷ 16 ∷ 227 ∷ 34 ∷ 163 ∷ 42 ∷ 144 ∷ 15 ∷ 242 ∷ 59 ∷ 62 ∷ 39 ∷ 220 ∷ 35 ∷ 127 ∷ 189 ∷ 184 ∷ 204 ∷ 119 ∷ 220 ∷ 178 ∷ 4 ∷ 234 ∷ 141 ∷ 31 ∷ 46 ∷ 123 ∷ 151 ∷ 173 ∷ 227 ∷ 134 ∷ 168 ∷ 82 ∷ 62 ∷ 75 ∷ 150 ∷ 187 ∷ 20 ∷ 70 ∷ []) ∷ (0 ∷ []) ∷ (0 ∷ 16 ∷ 0 ∷ 0 ∷ 17 ∷ 0 ∷ 0 ∷ 18 ∷ 0 ∷ 0 ∷ 2 ∷ 1 ∷ 0 ∷ 2 ∷ 0 ∷ []) ∷ (0 ∷ 4014152871 ∷ 3 ∷ 4014154008 ∷ 6 ∷ 4014154152 ∷ 7 ∷ 4014154979 ∷ 10 ∷ 4014156442 ∷ 13 ∷ 4014156563 ∷ 79 ∷ 4014157825 ∷ 82 ∷ 4014158228 ∷ 85 ∷ 4014158640 ∷ 88 ∷ 4014159680 ∷ 91 ∷ 4014159946 ∷ 94 ∷ 4014160679 ∷ 97 ∷ 4014160997 ∷ 100 ∷ 4014161607 ∷ 103 ∷ 4014161967 ∷ []) ∷ ([]) ∷ (0 ∷ 0 ∷ 1 ∷ 0 ∷ 3 ∷ 0 ∷ 4 ∷ 0 ∷ 6 ∷ 0 ∷ 7 ∷ 0 ∷ 8 ∷ 0 ∷ 9 ∷ 0 ∷ 10 ∷ 0 ∷ 12 ∷ 0 ∷ 13 ∷ 0 ∷ []) ∷ (3 ∷ 0 ∷ 1 ∷ 0 ∷ 4014152871 ∷ 2 ∷ 0 ∷ 1 ∷ 3 ∷ 4014154979 ∷ 4 ∷ 0 ∷ 1 ∷ 4 ∷ 4014156442 ∷ 1 ∷ 0 ∷ 1 ∷ 8 ∷ 4014158640 ∷ 1 ∷ 0 ∷ 0 ∷ 8 ∷ 4014158640 ∷ []) ∷ (0 ∷ 0 ∷ 0 ∷ 1 ∷ 0 ∷ 0 ∷ 1 ∷ 2 ∷ 0 ∷ 0 ∷ 2 ∷ 2 ∷ 1 ∷ 0 ∷ 1 ∷ 2 ∷ 2 ∷ 2 ∷ 0 ∷ 3 ∷ 2 ∷ 2 ∷ 2 ∷ []) ∷ (0 ∷ 4 ∷ 8 ∷ 13 ∷ 18 ∷ []) ∷ (0 ∷ 1 ∷ 2 ∷ 3 ∷ []) ∷ (0 ∷ 3 ∷ 0 ∷ 0 ∷ 1 ∷ 3 ∷ 0 ∷ 0 ∷ 0 ∷ 3 ∷ 1 ∷ 0 ∷ 0 ∷ 2 ∷ 2 ∷ 0 ∷ 1 ∷ 2 ∷ 0 ∷ 0 ∷ 0 ∷ 4 ∷ 3 ∷ 0 ∷ 1 ∷ 4 ∷ 0 ∷ 0 ∷ 2 ∷ 4 ∷ 0 ∷ 0 ∷ 0 ∷ 2 ∷ 4 ∷ 0 ∷ 0 ∷ 1 ∷ 6 ∷ 0 ∷ 1 ∷ 1 ∷ 0 ∷ 0 ∷ 0 ∷ 2 ∷ 7 ∷ 0 ∷ 0 ∷ 4 ∷ 8 ∷ 0 ∷ 2 ∷ 4 ∷ 1 ∷ 63 ∷ 0 ∷ 2 ∷ 9 ∷ 0 ∷ 0 ∷ 4 ∷ 10 ∷ 0 ∷ 2 ∷ 4 ∷ 2 ∷ 63 ∷ []) ∷ ([]) ∷ [])
unfolding step bits bytes crc5_of crc16_of after format_of format_ok format_reason reason_of checked_of transaction_status extract_payload details_of with_type with_detail fresh is_read is_set_configuration is_set_interface kind_by kind_of laid is_whole whole_in whole is_of first_of max_of value_of chunks applied count_set note_of with_max device_after count_after shelf_after row_after setup_group control_group begin_group repeat_group other_group group_status group_update group_early_start group_early_append transaction_update event_update handle_raw_packet handle_event handle_detail finish
run-isochronous-19 = refl

run-interrupt-20 :
    Leaves (packet (0x69 ∷ 0x01 ∷ 0xC1 ∷ []) 1209435899 ∷ packet (0x5A ∷ []) 1209436056 ∷ packet (0x69 ∷ 0x01 ∷ 0xC1 ∷ []) 1209437161 ∷ packet (0xC3 ∷ 0x6D ∷ 0xC7 ∷ 0x77 ∷ 0x83 ∷ 0x34 ∷ 0xDB ∷ []) 1209438185 ∷ packet (0xD2 ∷ []) 1209439182 ∷ packet (0x69 ∷ 0x01 ∷ 0xC1 ∷ []) 1209439949 ∷ packet (0xC3 ∷ 0xE5 ∷ 0xB9 ∷ 0xF5 ∷ 0x8E ∷ 0xDE ∷ 0x06 ∷ []) 1209440027 ∷ packet (0xD2 ∷ []) 1209440295 ∷ packet (0x69 ∷ 0x00 ∷ 0x39 ∷ []) 1209441874 ∷ packet (0x69 ∷ 0x00 ∷ 0x39 ∷ []) 1209443016 ∷ packet (0x5A ∷ []) 1209444106 ∷ detail 0 2 1 3 8 ∷ packet (0x69 ∷ 0x00 ∷ 0x39 ∷ []) 1209444788 ∷ packet (0xC3 ∷ 0x46 ∷ 0xE3 ∷ 0xE2 ∷ 0x84 ∷ 0x53 ∷ 0xA6 ∷ []) 1209446003 ∷ packet (0xD2 ∷ []) 1209446161 ∷ packet (0x69 ∷ 0x00 ∷ 0x39 ∷ []) 1209446659 ∷ finishing ∷ [])
    ((105 ∷ 1 ∷ 193 ∷ 90 ∷ 105 ∷ 1 ∷ 193 ∷ 195 ∷ 109 ∷ 199 ∷ 119 ∷ 131 ∷ 52 ∷ 219 ∷ 210 ∷ 105 ∷ 1 ∷ 193 ∷ 195 ∷ 229 ∷ 185 ∷ 245 ∷ 142 ∷ 222 ∷ 6 ∷ 210 ∷ 105 ∷ 0 ∷ 57 ∷ 105 ∷ 0 ∷ 57 ∷ 90 ∷ 105 ∷ 0 ∷ 57 ∷ 195 ∷ 70 ∷ 227 ∷ 226 ∷ 132 ∷ 83 ∷ 166 ∷ 210 ∷ 105 ∷ 0 ∷ 57 ∷ []) ∷ (0 ∷ 1 ∷ []) ∷ (0 ∷ 16 ∷ 0 ∷ 0 ∷ 17 ∷ 0 ∷ 0 ∷ 18 ∷ 0 ∷ 1 ∷ 2 ∷ 1 ∷ 0 ∷ 2 ∷ 1 ∷ []) ∷ (0 ∷ 1209435899 ∷ 3 ∷ 1209436056 ∷ 4 ∷ 1209437161 ∷ 7 ∷ 1209438185 ∷ 14 ∷ 1209439182 ∷ 15 ∷ 1209439949 ∷ 18 ∷ 1209440027 ∷ 25 ∷ 1209440295 ∷ 26 ∷ 1209441874 ∷ 29 ∷ 1209443016 ∷ 32 ∷ 1209444106 ∷ 33 ∷ 1209444788 ∷ 36 ∷ 1209446003 ∷ 43 ∷ 1209446161 ∷ 44 ∷ 1209446659 ∷ []) ∷ ([]) ∷ (0 ∷ 0 ∷ 2 ∷ 0 ∷ 5 ∷ 0 ∷ 8 ∷ 0 ∷ 9 ∷ 0 ∷ 11 ∷ 0 ∷ 14 ∷ 0 ∷ []) ∷ (3 ∷ 0 ∷ 1 ∷ 0 ∷ 1209435899 ∷ 3 ∷ 0 ∷ 0 ∷ 4 ∷ 1209439182 ∷ 3 ∷ 1 ∷ 1 ∷ 4 ∷ 1209439182 ∷ 4 ∷ 0 ∷ 1 ∷ 8 ∷ 1209441874 ∷ 4 ∷ 0 ∷ 0 ∷ 13 ∷ 1209446161 ∷ 4 ∷ 1 ∷ 1 ∷ 13 ∷ 1209446161 ∷ 4 ∷ 1 ∷ 0 ∷ 13 ∷ 1209446161 ∷ 4 ∷ 2 ∷ 1 ∷ 14 ∷ 1209446659 ∷ []) ∷ (0 ∷ 0 ∷ 0 ∷ 1 ∷ 0 ∷ 0 ∷ 0 ∷ 3 ∷ 0 ∷ 0 ∷ 0 ∷ 1 ∷ 0 ∷ 0 ∷ 0 ∷ 2 ∷ 1 ∷ 0 ∷ 0 ∷ 0 ∷ 2 ∷ 3 ∷ 0 ∷ 0 ∷ 0 ∷ 2 ∷ 1 ∷ 0 ∷ 0 ∷ 0 ∷ 2 ∷ 3 ∷ 0 ∷ 0 ∷ 0 ∷ 2 ∷ 1 ∷ []) ∷ (0 ∷ 4 ∷ 8 ∷ 12 ∷ 17 ∷ 22 ∷ 27 ∷ 32 ∷ []) ∷ (0 ∷ 2 ∷ 3 ∷ 5 ∷ 7 ∷ []) ∷ (0 ∷ 3 ∷ 0 ∷ 0 ∷ 1 ∷ 3 ∷ 0 ∷ 0 ∷ 0 ∷ 3 ∷ 1 ∷ 0 ∷ 1 ∷ 3 ∷ 1 ∷ 0 ∷ 3 ∷ 3 ∷ 1 ∷ 0 ∷ 2 ∷ 3 ∷ 1 ∷ 0 ∷ 0 ∷ 3 ∷ 2 ∷ 0 ∷ 2 ∷ 3 ∷ 2 ∷ 4 ∷ 0 ∷ 4 ∷ 3 ∷ 0 ∷ 1 ∷ 4 ∷ 0 ∷ 0 ∷ 0 ∷ 4 ∷ 4 ∷ 0 ∷ 0 ∷ 4 ∷ 5 ∷ 0 ∷ 1 ∷ 4 ∷ 2 ∷ 0 ∷ 3 ∷ 4 ∷ 3 ∷ 0 ∷ 2 ∷ 4 ∷ 2 ∷ 0 ∷ 0 ∷ 4 ∷ 6 ∷ 0 ∷ 1 ∷ 4 ∷ 3 ∷ 0 ∷ 3 ∷ 4 ∷ 4 ∷ 0 ∷ []) ∷ ([]) ∷ [])
unfolding step bits bytes crc5_of crc16_of after format_of format_ok format_reason reason_of checked_of transaction_status extract_payload details_of with_type with_detail fresh is_read is_set_configuration is_set_interface kind_by kind_of laid is_whole whole_in whole is_of first_of max_of value_of chunks applied count_set note_of with_max device_after count_after shelf_after row_after setup_group control_group begin_group repeat_group other_group group_status group_update group_early_start group_early_append transaction_update event_update handle_raw_packet handle_event handle_detail finish
run-interrupt-20 = refl

run-split-21 :
    Leaves (packet (0x78 ∷ 0x01 ∷ 0x01 ∷ 0x16 ∷ []) 3085445421 ∷ packet (0xE1 ∷ 0x02 ∷ 0x81 ∷ []) 3085446504 ∷ packet (0x4B ∷ 0xCB ∷ 0x81 ∷ 0x10 ∷ 0xF0 ∷ 0x51 ∷ 0x12 ∷ 0x7B ∷ 0x26 ∷ 0x32 ∷ 0x49 ∷ []) 3085447939 ∷ packet (0xD2 ∷ []) 3085448139 ∷ packet (0x78 ∷ 0x81 ∷ 0x01 ∷ 0xCE ∷ []) 3085448839 ∷ packet (0xE1 ∷ 0x02 ∷ 0x81 ∷ []) 3085449558 ∷ packet (0xD2 ∷ []) 3085449719 ∷ packet (0x78 ∷ 0x81 ∷ 0x01 ∷ 0xCE ∷ []) 3085450227 ∷ packet (0xE1 ∷ 0x02 ∷ 0x81 ∷ []) 3085451528 ∷ packet (0xD2 ∷ []) 3085452199 ∷ packet (0x78 ∷ 0x01 ∷ 0x01 ∷ 0x44 ∷ []) 3085453221 ∷ packet (0xE1 ∷ 0x81 ∷ 0x71 ∷ []) 3085454899 ∷ packet (0x4B ∷ 0x71 ∷ 0x47 ∷ 0x26 ∷ 0xCB ∷ 0x33 ∷ 0xE1 ∷ 0xEA ∷ 0x87 ∷ 0xBC ∷ 0xBE ∷ []) 3085456673 ∷ packet (0xD2 ∷ []) 3085457973 ∷ packet (0x78 ∷ 0x81 ∷ 0x01 ∷ 0x9C ∷ []) 3085458019 ∷ packet (0xE1 ∷ 0x81 ∷ 0x71 ∷ []) 3085459058 ∷ finishing ∷ [])
    ((120 ∷ 1 ∷ 1 ∷ 22 ∷ 225 ∷ 2 ∷ 129 ∷ 75 ∷ 203 ∷ 129 ∷ 16 ∷ 240 ∷ 81 ∷ 18 ∷ 123 ∷ 38 ∷ 50 ∷ 73 ∷ 210 ∷ 120 ∷ 129 ∷ 1 ∷ 206 ∷ 225 ∷ 2 ∷ 129 ∷ 210 ∷ 120 ∷ 129 ∷ 1 ∷ 206 ∷ 225 ∷ 2 ∷ 129 ∷ 210 ∷ 120 ∷ 1 ∷ 1 ∷ 68 ∷ 225 ∷ 129 ∷ 113 ∷ 75 ∷ 113 ∷ 71 ∷ 38 ∷ 203 ∷ 51 ∷ 225 ∷ 234 ∷ 135 ∷ 188 ∷ 190 ∷ 210 ∷ 120 ∷ 129 ∷ 1 ∷ 156 ∷ 225 ∷ 129 ∷ 113 ∷ []) ∷ (0 ∷ 2 ∷ 1 ∷ []) ∷ (0 ∷ 16 ∷ 0 ∷ 0 ∷ 17 ∷ 0 ∷ 0 ∷ 18 ∷ 0 ∷ 1 ∷ 2 ∷ 0 ∷ 2 ∷ 3 ∷ 0 ∷ []) ∷ (0 ∷ 3085445421 ∷ 4 ∷ 3085446504 ∷ 7 ∷ 3085447939 ∷ 18 ∷ 3085448139 ∷ 19 ∷ 3085448839 ∷ 23 ∷ 3085449558 ∷ 26 ∷ 3085449719 ∷ 27 ∷ 3085450227 ∷ 31 ∷ 3085451528 ∷ 34 ∷ 3085452199 ∷ 35 ∷ 3085453221 ∷ 39 ∷ 3085454899 ∷ 42 ∷ 3085456673 ∷ 53 ∷ 3085457973 ∷ 54 ∷ 3085458019 ∷ 58 ∷ 3085459058 ∷ []) ∷ ([]) ∷ (0 ∷ 0 ∷ 3 ∷ 0 ∷ 4 ∷ 0 ∷ 7 ∷ 0 ∷ 10 ∷ 0 ∷ 14 ∷ 0 ∷ []) ∷ (3 ∷ 0 ∷ 1 ∷ 2 ∷ 3085447939 ∷ 1 ∷ 0 ∷ 1 ∷ 3 ∷ 3085448139 ∷ 1 ∷ 0 ∷ 0 ∷ 3 ∷ 3085448139 ∷ 3 ∷ 0 ∷ 0 ∷ 6 ∷ 3085449719 ∷ 3 ∷ 1 ∷ 1 ∷ 6 ∷ 3085449719 ∷ 4 ∷ 0 ∷ 1 ∷ 13 ∷ 3085457973 ∷ []) ∷ (0 ∷ 0 ∷ 0 ∷ 1 ∷ 0 ∷ 1 ∷ 0 ∷ 2 ∷ 0 ∷ 3 ∷ 0 ∷ 2 ∷ 0 ∷ 0 ∷ 0 ∷ 3 ∷ 0 ∷ 0 ∷ 0 ∷ 1 ∷ 0 ∷ 0 ∷ 0 ∷ 2 ∷ 1 ∷ []) ∷ (0 ∷ 4 ∷ 8 ∷ 12 ∷ 16 ∷ 20 ∷ []) ∷ (0 ∷ 1 ∷ 4 ∷ 5 ∷ []) ∷ (0 ∷ 3 ∷ 0 ∷ 0 ∷ 1 ∷ 3 ∷ 0 ∷ 0 ∷ 0 ∷ 1 ∷ 1 ∷ 0 ∷ 1 ∷ 1 ∷ 0 ∷ 0 ∷ 0 ∷ 3 ∷ 2 ∷ 0 ∷ 1 ∷ 3 ∷ 1 ∷ 0 ∷ 3 ∷ 1 ∷ 2 ∷ 0 ∷ 3 ∷ 3 ∷ 2 ∷ 0 ∷ 2 ∷ 3 ∷ 0 ∷ 0 ∷ 0 ∷ 3 ∷ 3 ∷ 0 ∷ 0 ∷ 4 ∷ 4 ∷ 0 ∷ 1 ∷ 4 ∷ 0 ∷ 0 ∷ 0 ∷ 4 ∷ 5 ∷ 0 ∷ []) ∷ ([]) ∷ [])
unfolding step bits bytes crc5_of crc16_of after format_of format_ok format_reason reason_of checked_of transaction_status extract_payload details_of with_type with_detail fresh is_read is_set_configuration is_set_interface kind_by kind_of laid is_whole whole_in whole is_of first_of max_of value_of chunks applied count_set note_of with_max device_after count_after shelf_after row_after setup_group control_group begin_group repeat_group other_group group_status group_update group_early_start group_early_append transaction_update event_update handle_raw_packet handle_event handle_detail finish
run-split-21 = refl

run-sof-22 :
    Leaves (packet (0xA5 ∷ 0x01 ∷ 0xE8 ∷ []) 3570798572 ∷ packet (0xA5 ∷ 0x02 ∷ 0xA8 ∷ []) 3570798632 ∷ packet (0x69 ∷ 0x00 ∷ 0x39 ∷ []) 3570798976 ∷ packet (0x5A ∷ []) 3570800526 ∷ packet (0x69 ∷ 0x00 ∷ 0x39 ∷ []) 3570801077 ∷ packet (0xC3 ∷ 0x4D ∷ 0xF2 ∷ 0x9A ∷ 0x8B ∷ 0x4E ∷ 0xED ∷ 0xAB ∷ 0x29 ∷ 0x29 ∷ 0x84 ∷ []) 3570801506 ∷ packet (0xD2 ∷ []) 3570803107 ∷ packet (0x69 ∷ 0x00 ∷ 0x39 ∷ []) 3570805060 ∷ packet (0x5A ∷ []) 3570805188 ∷ packet (0x69 ∷ 0x00 ∷ 0x39 ∷ []) 3570806104 ∷ packet (0x5A ∷ []) 3570806267 ∷ packet (0x69 ∷ 0x00 ∷ 0x39 ∷ []) 3570807185 ∷ packet (0x5A ∷ []) 3570808209 ∷ packet (0x69 ∷ 0x00 ∷ 0x39 ∷ []) 3570810074 ∷ packet (0x5A ∷ []) 3570810670 ∷ packet (0x69 ∷ 0x00 ∷ 0x39 ∷ []) 3570811761 ∷ finishing ∷ [])
    ((165 ∷ 1 ∷ 232 ∷ 165 ∷ 2 ∷ 168 ∷ 105 ∷ 0 ∷ 57 ∷ 90 ∷ 105 ∷ 0 ∷ 57 ∷ 195 ∷ 77 ∷ 242 ∷ 154 ∷ 139 ∷ 78 ∷ 237 ∷ 171 ∷ 41 ∷ 41 ∷ 132 ∷ 210 ∷ 105 ∷ 0 ∷ 57 ∷ 90 ∷ 105 ∷ 0 ∷ 57 ∷ 90 ∷ 105 ∷ 0 ∷ 57 ∷ 90 ∷ 105 ∷ 0 ∷ 57 ∷ 90 ∷ 105 ∷ 0 ∷ 57 ∷ []) ∷ (0 ∷ []) ∷ (0 ∷ 16 ∷ 0 ∷ 0 ∷ 17 ∷ 0 ∷ 0 ∷ 18 ∷ 0 ∷ 0 ∷ 2 ∷ 1 ∷ []) ∷ (0 ∷ 3570798572 ∷ 3 ∷ 3570798632 ∷ 6 ∷ 3570798976 ∷ 9 ∷ 3570800526 ∷ 10 ∷ 3570801077 ∷ 13 ∷ 3570801506 ∷ 24 ∷ 3570803107 ∷ 25 ∷ 3570805060 ∷ 28 ∷ 3570805188 ∷ 29 ∷ 3570806104 ∷ 32 ∷ 3570806267 ∷ 33 ∷ 3570807185 ∷ 36 ∷ 3570808209 ∷ 37 ∷ 3570810074 ∷ 40 ∷ 3570810670 ∷ 41 ∷ 3570811761 ∷ []) ∷ ([]) ∷ (0 ∷ 0 ∷ 2 ∷ 0 ∷ 4 ∷ 0 ∷ 7 ∷ 0 ∷ 9 ∷ 0 ∷ 11 ∷ 0 ∷ 13 ∷ 0 ∷ 15 ∷ 0 ∷ []) ∷ (2 ∷ 0 ∷ 1 ∷ 0 ∷ 3570798572 ∷ 3 ∷ 0 ∷ 1 ∷ 2 ∷ 3570798976 ∷ 3 ∷ 0 ∷ 0 ∷ 6 ∷ 3570803107 ∷ 3 ∷ 1 ∷ 1 ∷ 6 ∷ 3570803107 ∷ 3 ∷ 1 ∷ 0 ∷ 8 ∷ 3570805188 ∷ 3 ∷ 2 ∷ 1 ∷ 8 ∷ 3570805188 ∷ []) ∷ (0 ∷ 0 ∷ 1 ∷ 0 ∷ 0 ∷ 2 ∷ 1 ∷ 0 ∷ 0 ∷ 2 ∷ 3 ∷ 0 ∷ 0 ∷ 2 ∷ 1 ∷ 0 ∷ 0 ∷ 2 ∷ 3 ∷ 0 ∷ 0 ∷ 2 ∷ 1 ∷ []) ∷ (0 ∷ 3 ∷ 7 ∷ 11 ∷ 15 ∷ 19 ∷ []) ∷ (0 ∷ 1 ∷ 3 ∷ 5 ∷ []) ∷ (0 ∷ 2 ∷ 0 ∷ 0 ∷ 1 ∷ 2 ∷ 0 ∷ 0 ∷ 0 ∷ 3 ∷ 1 ∷ 0 ∷ 1 ∷ 3 ∷ 0 ∷ 0 ∷ 0 ∷ 3 ∷ 2 ∷ 0 ∷ 1 ∷ 3 ∷ 1 ∷ 0 ∷ 3 ∷ 3 ∷ 2 ∷ 0 ∷ 2 ∷ 3 ∷ 1 ∷ 0 ∷ 0 ∷ 3 ∷ 3 ∷ 0 ∷ 1 ∷ 3 ∷ 2 ∷ 0 ∷ 3 ∷ 3 ∷ 3 ∷ 0 ∷ 0 ∷ 3 ∷ 4 ∷ 0 ∷ 0 ∷ 3 ∷ 5 ∷ 0 ∷ 0 ∷ 3 ∷ 6 ∷ 0 ∷ 0 ∷ 3 ∷ 7 ∷ 0 ∷ []) ∷ ([]) ∷ [])
unfolding step bits bytes crc5_of crc16_of after format_of format_ok format_reason reason_of checked_of transaction_status extract_payload details_of with_type with_detail fresh is_read is_set_configuration is_set_interface kind_by kind_of laid is_whole whole_in whole is_of first_of max_of value_of chunks applied count_set note_of with_max device_after count_after shelf_after row_after setup_group control_group begin_group repeat_group other_group group_status group_update group_early_start group_early_append transaction_update event_update handle_raw_packet handle_event handle_detail finish
run-sof-22 = refl

run-malformed-23 :
    Leaves (packet (0xD2 ∷ 0x00 ∷ []) 453084782 ∷ packet (0x69 ∷ 0x02 ∷ 0x81 ∷ []) 453085728 ∷ packet (0xC3 ∷ 0x89 ∷ 0xA6 ∷ 0x5A ∷ 0x25 ∷ 0x27 ∷ 0xB4 ∷ 0x09 ∷ 0xBC ∷ 0xAD ∷ 0x23 ∷ 0x3B ∷ 0xCD ∷ 0x97 ∷ 0x9E ∷ 0x43 ∷ 0xB6 ∷ 0x7B ∷ 0x79 ∷ 0x99 ∷ 0x6C ∷ 0x77 ∷ 0x95 ∷ 0xE9 ∷ 0x21 ∷ 0xDE ∷ 0x98 ∷ 0x8C ∷ 0x03 ∷ 0x65 ∷ 0xC1 ∷ 0x68 ∷ 0x66 ∷ 0x2C ∷ 0x2A ∷ 0x54 ∷ 0xD2 ∷ 0x58 ∷ 0xF1 ∷ 0xAC ∷ 0xC6 ∷ 0x4A ∷ 0x50 ∷ 0xE0 ∷ 0x68 ∷ 0x20 ∷ 0x64 ∷ 0xCD ∷ 0x81 ∷ 0x09 ∷ 0x87 ∷ 0xCC ∷ 0xEE ∷ 0x9E ∷ 0xCC ∷ 0xB5 ∷ 0x34 ∷ 0x63 ∷ 0xBC ∷ 0x2E ∷ 0x32 ∷ 0xCD ∷ 0xC6 ∷ 0xA1 ∷ 0x1F ∷ 0x23 ∷ 0x64 ∷ []) 453086943 ∷ packet (0xD2 ∷ []) 453088895 ∷ packet (0x69 ∷ 0x02 ∷ 0x81 ∷ []) 453089313 ∷ packet (0x5A ∷ []) 453090216 ∷ packet (0x69 ∷ 0x02 ∷ 0x81 ∷ []) 453091650 ∷ packet (0x4B ∷ 0x9B ∷ 0x28 ∷ 0xF5 ∷ 0x4C ∷ 0x60 ∷ 0xDB ∷ 0x63 ∷ 0xDA ∷ 0x40 ∷ 0xEB ∷ 0x87 ∷ 0xEA ∷ 0x68 ∷ 0xE2 ∷ 0xD4 ∷ 0x18 ∷ 0xC0 ∷ 0x85 ∷ 0x73 ∷ 0x0C ∷ 0x19 ∷ 0x9C ∷ 0x09 ∷ 0xE6 ∷ 0xBD ∷ 0x34 ∷ 0xC3 ∷ 0xB8 ∷ 0x00 ∷ 0xEB ∷ 0x28 ∷ 0xB5 ∷ 0xBF ∷ 0xB8 ∷ 0x2C ∷ 0x5A ∷ 0x29 ∷ 0x41 ∷ 0xC9 ∷ 0x37 ∷ 0x52 ∷ 0x4E ∷ 0xAD ∷ 0x81 ∷ 0xD4 ∷ 0x46 ∷ 0x3E ∷ 0x20 ∷ 0xF4 ∷ 0x7C ∷ 0x91 ∷ 0xE4 ∷ 0xCB ∷ 0x0F ∷ 0xB5 ∷ 0x7E ∷ 0x9B ∷ 0xAA ∷ 0x8B ∷ 0xD0 ∷ 0x6C ∷ 0x82 ∷ 0x81 ∷ 0xFB ∷ 0x79 ∷ 0x7D ∷ []) 453092290 ∷ packet (0xD2 ∷ []) 453092302 ∷ packet (0x69 ∷ 0x02 ∷ 0x81 ∷ []) 453093690 ∷ packet (0x4B ∷ 0x5A ∷ 0x90 ∷ 0x29 ∷ 0x7E ∷ 0xDC ∷ 0xBF ∷ 0x25 ∷ 0xEC ∷ 0x76 ∷ 0xA1 ∷ 0xA5 ∷ 0xEA ∷ 0x02 ∷ 0xEA ∷ 0x59 ∷ 0xB3 ∷ 0x85 ∷ 0x30 ∷ 0xC7 ∷ 0x3A ∷ 0xBE ∷ 0x5C ∷ 0x08 ∷ 0x1E ∷ 0x7C ∷ 0xD1 ∷ 0x2C ∷ 0x36 ∷ 0xB3 ∷ 0x2A ∷ 0xDA ∷ 0xA6 ∷ 0x0C ∷ 0x67 ∷ 0x3F ∷ 0xFD ∷ 0x84 ∷ 0x92 ∷ 0x69 ∷ 0x5C ∷ 0x16 ∷ 0xB5 ∷ 0x99 ∷ 0xA5 ∷ 0x5D ∷ 0x8E ∷ 0x81 ∷ 0x0E ∷ 0x17 ∷ 0x1F ∷ 0x54 ∷ 0x36 ∷ 0x7C ∷ 0x8B ∷ 0x8B ∷ 0x48 ∷ 0xD3 ∷ 0x4A ∷ 0x6D ∷ 0xF2 ∷ 0x37 ∷ 0xD8 ∷ 0x37 ∷ 0xDC ∷ 0x2C ∷ 0x67 ∷ []) 453094369 ∷ packet (0xD2 ∷ []) 453094537 ∷ packet (0x69 ∷ 0x02 ∷ 0x81 ∷ []) 453095269 ∷ packet (0x4B ∷ 0xF9 ∷ 0x1A ∷ 0x4F ∷ 0x4C ∷ 0x0E ∷ 0x27 ∷ 0xD8 ∷ 0x74 ∷ 0x20 ∷ 0x41 ∷ 0x19 ∷ 0x35 ∷ 0xE2 ∷ 0x8F ∷ 0x85 ∷ 0xF9 ∷ 0x39 ∷ 0x0C ∷ 0xB0 ∷ 0x30 ∷ 0xF7 ∷ 0xAB ∷ 0x28 ∷ 0xFD ∷ 0x5B ∷ 0x68 ∷ 0x46 ∷ 0x5B ∷ 0x60 ∷ []) 453095798 ∷ packet (0xD2 ∷ []) 453097362 ∷ packet (0xE4 ∷ 0x2C ∷ 0x6C ∷ 0xBA ∷ 0xA6 ∷ 0x55 ∷ 0xEC ∷ 0x84 ∷ 0x84 ∷ 0xDC ∷ []) 453097514 ∷ finishing ∷ [])
    ((210 ∷ 0 ∷ 105 ∷ 2 ∷ 129 ∷ 195 ∷ 137 ∷ 166 ∷ 90 ∷ 37 ∷ 39 ∷ 180 ∷ 9 ∷ 188 ∷ 173 ∷ 35 ∷ 59 ∷ 205 ∷ 151 ∷ 158 ∷ 67 ∷ 182 ∷ 123 ∷ 121 ∷ 153 ∷ 108 ∷ 119 ∷ 149 ∷ 233 ∷ 33 ∷ 222 ∷ 152 ∷ 140 ∷ 3 ∷ 101 ∷ 193 ∷ 104 ∷ 102 ∷ 44 ∷ 42 ∷ 84 ∷ 210 ∷ 88 ∷ 241 ∷ 172 ∷ 198 ∷ 74 ∷ 80 ∷ 224 ∷ 104 ∷ 32 ∷ 100 ∷ 205 ∷ 129 ∷ 9 ∷ 135 ∷ 204 ∷ 238 ∷ 158 ∷ 204 ∷ 181 ∷ 52 ∷ 99 ∷ 188 ∷ 46 ∷ 50 ∷ 205 ∷ 198 ∷ 161 ∷ 31 ∷ 35 ∷ 100 ∷ 210 ∷ 105 ∷ 2 ∷ 129 ∷ 90 ∷ 105 ∷ 2 ∷ 129 ∷ 75 ∷ 155 ∷ 40 ∷ 245 ∷ 76 ∷ 96 ∷ 219 ∷ 99 ∷ 218 ∷ 64 ∷ 235 ∷ 135 ∷ 234 ∷ 104 ∷ 226 ∷ 212 ∷ 24 ∷ 192 ∷ 133 ∷ 115 ∷ 12 ∷ 25 ∷ 156 ∷ 9 ∷ 230 ∷ 189 ∷ 52 ∷ 195 ∷ 184 ∷ 0 ∷ 235 ∷ 40 ∷ 181 ∷ 191 ∷ 184 ∷ 44 ∷ 90 ∷ 41 ∷ 65 ∷ 201 ∷ 55 ∷ 82 ∷ 78 ∷ 173 ∷ 129 ∷ 212 ∷ 70 ∷ 62 ∷ 32 ∷ 244 ∷ 124 ∷ 145 ∷ 228 ∷ 203 ∷ 15 ∷ 181 ∷ 126 ∷ 155 ∷ 170 ∷ 139 ∷ 208 ∷ 108 ∷ 130 ∷ 129 ∷ 251 ∷ 121 ∷ 125 ∷ 210 ∷ 105 ∷ 2 ∷ 129 ∷ 75 ∷ 90 ∷ 144 ∷ 41 ∷ 126 ∷ 220 ∷ 191 ∷ 37 ∷ 236 ∷ 118 ∷ 161 ∷ 165 ∷ 234 ∷ 2 ∷ 234 ∷ 89 ∷ 179 ∷ 133 ∷ 48 ∷ 199 ∷ 58 ∷ 190 ∷ 92 ∷ 8 ∷ 30 ∷ 124 ∷ 209 ∷ 44 ∷ 54 ∷ 179 ∷ 42 ∷ 218 ∷ 166 ∷ 12 ∷ 103 ∷ 63 ∷ 253 ∷ 132 ∷ 146 ∷ 105 ∷ 92 ∷ 22 ∷ 181 ∷ 153 ∷ 165 ∷ 93 ∷ 142 ∷ 129 ∷ 14 ∷ 23 ∷ 31 ∷ 84 ∷ 54 ∷ 124 ∷ 139 ∷ 139 ∷ 72 ∷ 211 ∷ 74 ∷ 109 ∷ 242 ∷ 55 ∷ 216 ∷ 55 ∷ 220 ∷ 44 ∷ 103 ∷ 210 ∷ 105 ∷ 2 ∷ 129 ∷ 75 ∷ 249 ∷ 26 ∷ 79 ∷ 76 ∷ 14 ∷ 39 ∷ 216 ∷ 116 ∷ 32 ∷ 65 ∷ 25 ∷ 53 ∷ 226 ∷ 143 ∷ 133 ∷ 249 ∷ 57 ∷ 12 ∷ 176 ∷ 48 ∷ 247 ∷ 171 ∷ 40 ∷ 253 ∷ 91 ∷ 104 ∷ 70 ∷ 91 ∷ 96 ∷ 210 ∷ 228 ∷ 44 ∷ 108 ∷ 186 ∷ 166 ∷ 85 ∷ 236 ∷ 132 ∷ 132 ∷ 220 ∷ []) ∷ (0 ∷ 2 ∷ []) ∷ (0 ∷ 16 ∷ 0 ∷ 0 ∷ 17 ∷ 0 ∷ 0 ∷ 18 ∷ 0 ∷ 1 ∷ 2 ∷ 1 ∷ []) ∷ (0 ∷ 453084782 ∷ 2 ∷ 453085728 ∷ 5 ∷ 453086943 ∷ 72 ∷ 453088895 ∷ 73 ∷ 453089313 ∷ 76 ∷ 453090216 ∷ 77 ∷ 453091650 ∷ 80 ∷ 453092290 ∷ 147 ∷ 453092302 ∷ 148 ∷ 453093690 ∷ 151 ∷ 453094369 ∷ 218 ∷ 453094537 ∷ 219 ∷ 453095269 ∷ 222 ∷ 453095798 ∷ 252 ∷ 453097362 ∷ 253 ∷ 453097514 ∷ []) ∷ ([]) ∷ (0 ∷ 3 ∷ 1 ∷ 0 ∷ 4 ∷ 0 ∷ 6 ∷ 0 ∷ 9 ∷ 0 ∷ 12 ∷ 0 ∷ 15 ∷ 2 ∷ []) ∷ (1 ∷ 0 ∷ 1 ∷ 0 ∷ 453084782 ∷ 1 ∷ 0 ∷ 0 ∷ 0 ∷ 453084782 ∷ 3 ∷ 0 ∷ 1 ∷ 1 ∷ 453085728 ∷ 3 ∷ 0 ∷ 0 ∷ 5 ∷ 453090216 ∷ 3 ∷ 1 ∷ 1 ∷ 5 ∷ 453090216 ∷ 3 ∷ 1 ∷ 0 ∷ 8 ∷ 453092302 ∷ 3 ∷ 2 ∷ 1 ∷ 8 ∷ 453092302 ∷ 1 ∷ 1 ∷ 1 ∷ 15 ∷ 453097514 ∷ 1 ∷ 1 ∷ 0 ∷ 15 ∷ 453097514 ∷ []) ∷ (0 ∷ 1 ∷ 0 ∷ 0 ∷ 3 ∷ 0 ∷ 0 ∷ 0 ∷ 0 ∷ 1 ∷ 0 ∷ 0 ∷ 0 ∷ 3 ∷ 0 ∷ 0 ∷ 0 ∷ 1 ∷ 0 ∷ 0 ∷ 0 ∷ 3 ∷ 0 ∷ 0 ∷ 0 ∷ 1 ∷ 0 ∷ 1 ∷ 0 ∷ 2 ∷ 0 ∷ 3 ∷ 0 ∷ 2 ∷ []) ∷ (0 ∷ 3 ∷ 6 ∷ 10 ∷ 14 ∷ 18 ∷ 22 ∷ 26 ∷ 30 ∷ []) ∷ (0 ∷ 2 ∷ 4 ∷ 6 ∷ 7 ∷ []) ∷ (0 ∷ 1 ∷ 0 ∷ 0 ∷ 1 ∷ 1 ∷ 0 ∷ 0 ∷ 0 ∷ 3 ∷ 1 ∷ 0 ∷ 1 ∷ 3 ∷ 0 ∷ 0 ∷ 3 ∷ 1 ∷ 1 ∷ 0 ∷ 2 ∷ 3 ∷ 0 ∷ 0 ∷ 0 ∷ 3 ∷ 2 ∷ 0 ∷ 1 ∷ 3 ∷ 1 ∷ 0 ∷ 3 ∷ 3 ∷ 2 ∷ 0 ∷ 0 ∷ 3 ∷ 3 ∷ 0 ∷ 1 ∷ 3 ∷ 2 ∷ 0 ∷ 3 ∷ 3 ∷ 3 ∷ 0 ∷ 2 ∷ 3 ∷ 2 ∷ 64 ∷ 0 ∷ 3 ∷ 4 ∷ 0 ∷ 2 ∷ 3 ∷ 3 ∷ 128 ∷ 0 ∷ 3 ∷ 5 ∷ 0 ∷ 2 ∷ 3 ∷ 4 ∷ 192 ∷ 0 ∷ 1 ∷ 6 ∷ 0 ∷ 1 ∷ 1 ∷ 1 ∷ 0 ∷ []) ∷ ([]) ∷ [])
unfolding step bits bytes crc5_of crc16_of after format_of format_ok format_reason reason_of checked_of transaction_status extract_payload details_of with_type with_detail fresh is_read is_set_configuration is_set_interface kind_by kind_of laid is_whole whole_in whole is_of first_of max_of value_of chunks applied count_set note_of with_max device_after count_after shelf_after row_after setup_group control_group begin_group repeat_group other_group group_status group_update group_early_start group_early_append transaction_update event_update handle_raw_packet handle_event handle_detail finish
run-malformed-23 = refl

run-event-24 :
    Leaves (event 6 247 11018872 ∷ event 2 138 11019357 ∷ event 1 132 11020963 ∷ event 0 134 11022949 ∷ packet (0xE1 ∷ 0x00 ∷ 0x39 ∷ []) 11024013 ∷ packet (0xC3 ∷ 0x98 ∷ 0xC1 ∷ 0xA0 ∷ 0x03 ∷ 0x38 ∷ 0xEA ∷ 0x55 ∷ 0x95 ∷ 0xE8 ∷ 0xF9 ∷ []) 11024683 ∷ packet (0xD2 ∷ []) 11024930 ∷ packet (0xE1 ∷ 0x00 ∷ 0x39 ∷ []) 11026043 ∷ packet (0x4B ∷ 0x02 ∷ 0xF7 ∷ 0x83 ∷ 0xA5 ∷ 0x50 ∷ 0xD0 ∷ 0xEB ∷ 0xB3 ∷ 0xF4 ∷ 0xB4 ∷ []) 11026527 ∷ packet (0xD2 ∷ []) 11027498 ∷ packet (0xE1 ∷ 0x00 ∷ 0x39 ∷ []) 11028987 ∷ packet (0x4B ∷ 0x59 ∷ 0xD0 ∷ 0xF7 ∷ 0xC1 ∷ 0xC6 ∷ 0xC5 ∷ 0x8D ∷ 0x92 ∷ 0x4B ∷ 0xB1 ∷ []) 11029900 ∷ packet (0xD2 ∷ []) 11031552 ∷ packet (0xE1 ∷ 0x00 ∷ 0x39 ∷ []) 11032422 ∷ packet (0x4B ∷ 0x0B ∷ 0x01 ∷ 0x78 ∷ []) 11033297 ∷ packet (0xD2 ∷ []) 11034064 ∷ finishing ∷ [])
    ((225 ∷ 0 ∷ 57 ∷ 195 ∷ 152 ∷ 193 ∷ 160 ∷ 3 ∷ 56 ∷ 234 ∷ 85 ∷ 149 ∷ 232 ∷ 249 ∷ 210 ∷ 225 ∷ 0 ∷ 57 ∷ 75 ∷ 2 ∷ 247 ∷ 131 ∷ 165 ∷ 80 ∷ 208 ∷ 235 ∷ 179 ∷ 244 ∷ 180 ∷ 210 ∷ 225 ∷ 0 ∷ 57 ∷ 75 ∷ 89 ∷ 208 ∷ 247 ∷ 193 ∷ 198 ∷ 197 ∷ 141 ∷ 146 ∷ 75 ∷ 177 ∷ 210 ∷ 225 ∷ 0 ∷ 57 ∷ 75 ∷ 11 ∷ 1 ∷ 120 ∷ 210 ∷ []) ∷ (0 ∷ []) ∷ (0 ∷ 16 ∷ 0 ∷ 0 ∷ 17 ∷ 0 ∷ 0 ∷ 18 ∷ 0 ∷ 0 ∷ 2 ∷ 0 ∷ []) ∷ (0 ∷ 11018872 ∷ 0 ∷ 11019357 ∷ 0 ∷ 11020963 ∷ 0 ∷ 11022949 ∷ 0 ∷ 11024013 ∷ 3 ∷ 11024683 ∷ 14 ∷ 11024930 ∷ 15 ∷ 11026043 ∷ 18 ∷ 11026527 ∷ 29 ∷ 11027498 ∷ 30 ∷ 11028987 ∷ 33 ∷ 11029900 ∷ 44 ∷ 11031552 ∷ 45 ∷ 11032422 ∷ 48 ∷ 11033297 ∷ 52 ∷ 11034064 ∷ []) ∷ (0 ∷ 247 ∷ 1 ∷ 138 ∷ 2 ∷ 132 ∷ 3 ∷ 134 ∷ []) ∷ (0 ∷ 0 ∷ 1 ∷ 0 ∷ 2 ∷ 0 ∷ 3 ∷ 0 ∷ 4 ∷ 0 ∷ 7 ∷ 0 ∷ 10 ∷ 0 ∷ 13 ∷ 0 ∷ []) ∷ (0 ∷ 0 ∷ 0 ∷ 0 ∷ 11018872 ∷ 0 ∷ 1 ∷ 0 ∷ 1 ∷ 11019357 ∷ 0 ∷ 2 ∷ 0 ∷ 2 ∷ 11020963 ∷ 0 ∷ 3 ∷ 1 ∷ 3 ∷ 11022949 ∷ 3 ∷ 0 ∷ 1 ∷ 4 ∷ 11024013 ∷ []) ∷ (3 ∷ 0 ∷ 0 ∷ 3 ∷ 0 ∷ 0 ∷ 3 ∷ 0 ∷ 0 ∷ 1 ∷ 0 ∷ 0 ∷ 2 ∷ 0 ∷ 0 ∷ 1 ∷ []) ∷ (0 ∷ 3 ∷ 6 ∷ 9 ∷ 12 ∷ []) ∷ (0 ∷ 1 ∷ 2 ∷ 3 ∷ 4 ∷ []) ∷ (0 ∷ 0 ∷ 0 ∷ 0 ∷ 1 ∷ 0 ∷ 0 ∷ 0 ∷ 0 ∷ 0 ∷ 1 ∷ 0 ∷ 1 ∷ 0 ∷ 1 ∷ 0 ∷ 0 ∷ 0 ∷ 2 ∷ 0 ∷ 1 ∷ 0 ∷ 2 ∷ 0 ∷ 0 ∷ 0 ∷ 3 ∷ 0 ∷ 1 ∷ 0 ∷ 3 ∷ 0 ∷ 0 ∷ 3 ∷ 4 ∷ 0 ∷ 1 ∷ 3 ∷ 0 ∷ 0 ∷ 2 ∷ 3 ∷ 0 ∷ 0 ∷ 0 ∷ 3 ∷ 5 ∷ 0 ∷ 2 ∷ 3 ∷ 1 ∷ 8 ∷ 0 ∷ 3 ∷ 6 ∷ 0 ∷ 2 ∷ 3 ∷ 2 ∷ 16 ∷ 0 ∷ 3 ∷ 7 ∷ 0 ∷ 2 ∷ 3 ∷ 3 ∷ 24 ∷ []) ∷ ([]) ∷ [])
unfolding step bits bytes crc5_of crc16_of after format_of format_ok format_reason reason_of checked_of transaction_status extract_payload details_of with_type with_detail fresh is_read is_set_configuration is_set_interface kind_by kind_of laid is_whole whole_in whole is_of first_of max_of value_of chunks applied count_set note_of with_max device_after count_after shelf_after row_after setup_group control_group begin_group repeat_group other_group group_status group_update group_early_start group_early_append transaction_update event_update handle_raw_packet handle_event handle_detail finish
run-event-24 = refl

run-chirp-25 :
    Leaves (event 1 83 4039621090 ∷ event 4 43 4039621685 ∷ event 5 82 4039623586 ∷ event 2 38 4039623798 ∷ event 4 114 4039625122 ∷ event 3 144 4039626186 ∷ event 3 159 4039626435 ∷ event 3 10 4039628266 ∷ event 6 54 4039628943 ∷ event 4 211 4039630546 ∷ event 3 199 4039630657 ∷ event 6 169 4039632620 ∷ event 1 66 4039632876 ∷ event 4 239 4039632917 ∷ event 5 138 4039633534 ∷ event 2 11 4039633650 ∷ finishing ∷ [])
    (([]) ∷ (0 ∷ []) ∷ (0 ∷ 16 ∷ 0 ∷ 0 ∷ 17 ∷ 0 ∷ 0 ∷ 18 ∷ 0 ∷ []) ∷ (0 ∷ 4039621090 ∷ 0 ∷ 4039621685 ∷ 0 ∷ 4039623586 ∷ 0 ∷ 4039623798 ∷ 0 ∷ 4039625122 ∷ 0 ∷ 4039626186 ∷ 0 ∷ 4039626435 ∷ 0 ∷ 4039628266 ∷ 0 ∷ 4039628943 ∷ 0 ∷ 4039630546 ∷ 0 ∷ 4039630657 ∷ 0 ∷ 4039632620 ∷ 0 ∷ 4039632876 ∷ 0 ∷ 4039632917 ∷ 0 ∷ 4039633534 ∷ 0 ∷ 4039633650 ∷ []) ∷ (0 ∷ 83 ∷ 1 ∷ 43 ∷ 2 ∷ 82 ∷ 3 ∷ 38 ∷ 4 ∷ 114 ∷ 5 ∷ 144 ∷ 6 ∷ 159 ∷ 7 ∷ 10 ∷ 8 ∷ 54 ∷ 9 ∷ 211 ∷ 10 ∷ 199 ∷ 11 ∷ 169 ∷ 12 ∷ 66 ∷ 13 ∷ 239 ∷ 14 ∷ 138 ∷ 15 ∷ 11 ∷ []) ∷ (0 ∷ 0 ∷ 1 ∷ 0 ∷ 4 ∷ 0 ∷ 11 ∷ 0 ∷ 12 ∷ 0 ∷ 13 ∷ 0 ∷ []) ∷ (0 ∷ 0 ∷ 0 ∷ 0 ∷ 4039621090 ∷ 0 ∷ 1 ∷ 1 ∷ 1 ∷ 4039621685 ∷ 0 ∷ 2 ∷ 0 ∷ 11 ∷ 4039632620 ∷ 0 ∷ 3 ∷ 0 ∷ 12 ∷ 4039632876 ∷ 0 ∷ 4 ∷ 1 ∷ 13 ∷ 4039632917 ∷ []) ∷ (3 ∷ 0 ∷ 0 ∷ 1 ∷ 0 ∷ 0 ∷ 3 ∷ 0 ∷ 0 ∷ 3 ∷ 0 ∷ 0 ∷ 1 ∷ 0 ∷ 0 ∷ []) ∷ (0 ∷ 3 ∷ 6 ∷ 9 ∷ 12 ∷ []) ∷ (0 ∷ 1 ∷ 2 ∷ 3 ∷ 4 ∷ []) ∷ (0 ∷ 0 ∷ 0 ∷ 0 ∷ 1 ∷ 0 ∷ 0 ∷ 0 ∷ 0 ∷ 0 ∷ 1 ∷ 0 ∷ 1 ∷ 0 ∷ 1 ∷ 0 ∷ 0 ∷ 0 ∷ 2 ∷ 0 ∷ 0 ∷ 0 ∷ 3 ∷ 0 ∷ 1 ∷ 0 ∷ 3 ∷ 0 ∷ 0 ∷ 0 ∷ 4 ∷ 0 ∷ 1 ∷ 0 ∷ 4 ∷ 0 ∷ 0 ∷ 0 ∷ 5 ∷ 0 ∷ 1 ∷ 0 ∷ 5 ∷ 0 ∷ []) ∷ ([]) ∷ [])
unfolding step bits bytes crc5_of crc16_of after format_of format_ok format_reason reason_of checked_of transaction_status extract_payload details_of with_type with_detail fresh is_read is_set_configuration is_set_interface kind_by kind_of laid is_whole whole_in whole is_of first_of max_of value_of chunks applied count_set note_of with_max device_after count_after shelf_after row_after setup_group control_group begin_group repeat_group other_group group_status group_update group_early_start group_early_append transaction_update event_update handle_raw_packet handle_event handle_detail finish
run-chirp-25 = refl

run-keepalive-26 :
    Leaves (packet (0x69 ∷ 0x03 ∷ 0x50 ∷ []) 257249230 ∷ event 1 128 257250696 ∷ packet (0x69 ∷ 0x03 ∷ 0x50 ∷ []) 257250764 ∷ event 0 88 257251871 ∷ packet (0x69 ∷ 0x03 ∷ 0x50 ∷ []) 257253429 ∷ packet (0xE1 ∷ 0x03 ∷ 0x50 ∷ []) 257254611 ∷ packet (0xC3 ∷ 0x75 ∷ 0x19 ∷ 0x29 ∷ 0x4A ∷ 0x1B ∷ 0xEA ∷ 0x92 ∷ 0x0F ∷ 0x64 ∷ 0x6D ∷ []) 257254734 ∷ packet (0xD2 ∷ []) 257255647 ∷ packet (0x2D ∷ 0x01 ∷ 0xE8 ∷ []) 257256229 ∷ packet (0xC3 ∷ 0x80 ∷ 0x06 ∷ 0x00 ∷ 0x01 ∷ 0x00 ∷ 0x00 ∷ 0x08 ∷ 0x00 ∷ 0xEB ∷ 0x94 ∷ []) 257257193 ∷ packet (0xD2 ∷ []) 257257277 ∷ event 0 216 257258796 ∷ packet (0xE1 ∷ 0x01 ∷ 0xC1 ∷ []) 257260494 ∷ packet (0xC3 ∷ 0x9C ∷ 0x72 ∷ 0x9A ∷ 0x4A ∷ 0xD9 ∷ 0xBD ∷ 0xD8 ∷ 0x17 ∷ 0xD1 ∷ 0x88 ∷ []) 257260753 ∷ event 0 173 257262613 ∷ packet (0xE1 ∷ 0x01 ∷ 0xC1 ∷ []) 257264396 ∷ finishing ∷ [])
    ((105 ∷ 3 ∷ 80 ∷ 105 ∷ 3 ∷ 80 ∷ 105 ∷ 3 ∷ 80 ∷ 225 ∷ 3 ∷ 80 ∷ 195 ∷ 117 ∷ 25 ∷ 41 ∷ 74 ∷ 27 ∷ 234 ∷ 146 ∷ 15 ∷ 100 ∷ 109 ∷ 210 ∷ 45 ∷ 1 ∷ 232 ∷ 195 ∷ 128 ∷ 6 ∷ 0 ∷ 1 ∷ 0 ∷ 0 ∷ 8 ∷ 0 ∷ 235 ∷ 148 ∷ 210 ∷ 225 ∷ 1 ∷ 193 ∷ 195 ∷ 156 ∷ 114 ∷ 154 ∷ 74 ∷ 217 ∷ 189 ∷ 216 ∷ 23 ∷ 209 ∷ 136 ∷ 225 ∷ 1 ∷ 193 ∷ []) ∷ (0 ∷ 3 ∷ 1 ∷ []) ∷ (0 ∷ 16 ∷ 0 ∷ 0 ∷ 17 ∷ 0 ∷ 0 ∷ 18 ∷ 0 ∷ 1 ∷ 0 ∷ 0 ∷ 2 ∷ 0 ∷ 0 ∷ 2 ∷ 2 ∷ 0 ∷ []) ∷ (0 ∷ 257249230 ∷ 3 ∷ 257250696 ∷ 3 ∷ 257250764 ∷ 6 ∷ 257251871 ∷ 6 ∷ 257253429 ∷ 9 ∷ 257254611 ∷ 12 ∷ 257254734 ∷ 23 ∷ 257255647 ∷ 24 ∷ 257256229 ∷ 27 ∷ 257257193 ∷ 38 ∷ 257257277 ∷ 39 ∷ 257258796 ∷ 39 ∷ 257260494 ∷ 42 ∷ 257260753 ∷ 53 ∷ 257262613 ∷ 53 ∷ 257264396 ∷ []) ∷ (1 ∷ 128 ∷ 3 ∷ 88 ∷ 11 ∷ 216 ∷ 14 ∷ 173 ∷ []) ∷ (0 ∷ 0 ∷ 1 ∷ 0 ∷ 2 ∷ 0 ∷ 3 ∷ 0 ∷ 4 ∷ 0 ∷ 4 ∷ 0 ∷ 5 ∷ 0 ∷ 8 ∷ 0 ∷ 11 ∷ 0 ∷ 12 ∷ 0 ∷ 14 ∷ 0 ∷ 15 ∷ 0 ∷ 15 ∷ 0 ∷ []) ∷ (3 ∷ 0 ∷ 1 ∷ 0 ∷ 257249230 ∷ 0 ∷ 0 ∷ 0 ∷ 1 ∷ 257250696 ∷ 3 ∷ 1 ∷ 1 ∷ 2 ∷ 257250764 ∷ 0 ∷ 1 ∷ 1 ∷ 3 ∷ 257251871 ∷ 3 ∷ 1 ∷ 0 ∷ 5 ∷ 257254611 ∷ 3 ∷ 2 ∷ 1 ∷ 5 ∷ 257254611 ∷ 3 ∷ 2 ∷ 0 ∷ 5 ∷ 257254611 ∷ 3 ∷ 3 ∷ 1 ∷ 5 ∷ 257254611 ∷ 4 ∷ 0 ∷ 1 ∷ 8 ∷ 257256229 ∷ 5 ∷ 0 ∷ 1 ∷ 12 ∷ 257260494 ∷ []) ∷ (0 ∷ 0 ∷ 0 ∷ 1 ∷ 3 ∷ 0 ∷ 0 ∷ 3 ∷ 0 ∷ 0 ∷ 0 ∷ 1 ∷ 1 ∷ 0 ∷ 0 ∷ 3 ∷ 2 ∷ 0 ∷ 0 ∷ 3 ∷ 2 ∷ 0 ∷ 0 ∷ 1 ∷ 2 ∷ 0 ∷ 0 ∷ 3 ∷ 2 ∷ 0 ∷ 0 ∷ 1 ∷ 2 ∷ 0 ∷ 0 ∷ 2 ∷ 1 ∷ 2 ∷ 0 ∷ 0 ∷ 2 ∷ 2 ∷ 1 ∷ []) ∷ (0 ∷ 4 ∷ 8 ∷ 12 ∷ 16 ∷ 20 ∷ 24 ∷ 28 ∷ 32 ∷ 37 ∷ []) ∷ (0 ∷ 1 ∷ 2 ∷ 3 ∷ 5 ∷ 7 ∷ 8 ∷ 9 ∷ []) ∷ (0 ∷ 3 ∷ 0 ∷ 0 ∷ 1 ∷ 3 ∷ 0 ∷ 0 ∷ 0 ∷ 0 ∷ 1 ∷ 0 ∷ 1 ∷ 0 ∷ 0 ∷ 0 ∷ 3 ∷ 3 ∷ 1 ∷ 0 ∷ 0 ∷ 3 ∷ 2 ∷ 0 ∷ 1 ∷ 3 ∷ 1 ∷ 0 ∷ 0 ∷ 0 ∷ 3 ∷ 0 ∷ 1 ∷ 0 ∷ 1 ∷ 0 ∷ 0 ∷ 3 ∷ 4 ∷ 0 ∷ 0 ∷ 3 ∷ 5 ∷ 0 ∷ 1 ∷ 3 ∷ 3 ∷ 0 ∷ 3 ∷ 3 ∷ 4 ∷ 0 ∷ 0 ∷ 3 ∷ 6 ∷ 0 ∷ 1 ∷ 3 ∷ 4 ∷ 0 ∷ 3 ∷ 3 ∷ 5 ∷ 0 ∷ 2 ∷ 3 ∷ 4 ∷ 0 ∷ 0 ∷ 4 ∷ 7 ∷ 0 ∷ 1 ∷ 4 ∷ 0 ∷ 0 ∷ 0 ∷ 0 ∷ 8 ∷ 0 ∷ 0 ∷ 5 ∷ 9 ∷ 0 ∷ 1 ∷ 5 ∷ 0 ∷ 0 ∷ 0 ∷ 0 ∷ 10 ∷ 0 ∷ 0 ∷ 5 ∷ 11 ∷ 0 ∷ 0 ∷ 5 ∷ 12 ∷ 0 ∷ []) ∷ ([]) ∷ [])
unfolding step bits bytes crc5_of crc16_of after format_of format_ok format_reason reason_of checked_of transaction_status extract_payload details_of with_type with_detail fresh is_read is_set_configuration is_set_interface kind_by kind_of laid is_whole whole_in whole is_of first_of max_of value_of chunks applied count_set note_of with_max device_after count_after shelf_after row_after setup_group control_group begin_group repeat_group other_group group_status group_update group_early_start group_early_append transaction_update event_update handle_raw_packet handle_event handle_detail finish
run-keepalive-26 = refl

run-detail-27 :
    Leaves (packet (0x69 ∷ 0x82 ∷ 0x31 ∷ []) 1501629778 ∷ packet (0x69 ∷ 0x82 ∷ 0x31 ∷ []) 1501630024 ∷ packet (0x5A ∷ []) 1501631301 ∷ detail 2 3 0 0 8 ∷ packet (0x69 ∷ 0x82 ∷ 0x31 ∷ []) 1501632659 ∷ packet (0xC3 ∷ 0x8D ∷ 0x2E ∷ 0x2F ∷ 0xFD ∷ 0x93 ∷ 0x31 ∷ 0xEB ∷ 0x0A ∷ 0xFF ∷ 0x8C ∷ 0xB3 ∷ 0xFE ∷ 0xB5 ∷ 0xD0 ∷ 0x38 ∷ 0x36 ∷ 0x64 ∷ 0xA1 ∷ 0x11 ∷ 0xD0 ∷ 0xDE ∷ 0x9F ∷ 0x77 ∷ 0x43 ∷ 0x88 ∷ 0x51 ∷ 0xFF ∷ 0xDD ∷ 0x3B ∷ 0xCF ∷ 0x87 ∷ 0x9D ∷ 0xE3 ∷ 0x90 ∷ 0x15 ∷ 0x18 ∷ 0x9A ∷ 0xDA ∷ 0x7F ∷ 0x00 ∷ 0x35 ∷ 0xF5 ∷ 0xD5 ∷ 0x28 ∷ 0xCA ∷ 0x0F ∷ 0x11 ∷ 0xDA ∷ 0x45 ∷ 0xE3 ∷ 0xF9 ∷ 0xFB ∷ 0x64 ∷ 0xA3 ∷ 0x43 ∷ 0xA8 ∷ 0x01 ∷ 0x3F ∷ 0x55 ∷ 0xBD ∷ 0x13 ∷ 0x0E ∷ 0x6B ∷ 0xBE ∷ 0xB1 ∷ 0x03 ∷ []) 1501634135 ∷ packet (0xD2 ∷ []) 1501635318 ∷ packet (0x69 ∷ 0x82 ∷ 0x31 ∷ []) 1501635378 ∷ packet (0xC3 ∷ 0xBC ∷ 0xE9 ∷ 0x59 ∷ 0x80 ∷ 0x1B ∷ 0xF3 ∷ 0xE6 ∷ 0x0F ∷ 0x7D ∷ []) 1501635862 ∷ packet (0xD2 ∷ []) 1501637841 ∷ packet (0x69 ∷ 0x82 ∷ 0x31 ∷ []) 1501638923 ∷ packet (0x4B ∷ 0x4B ∷ 0x12 ∷ 0x16 ∷ 0x5F ∷ 0xB5 ∷ 0x19 ∷ 0x3A ∷ 0xDD ∷ 0x3B ∷ []) 1501639705 ∷ packet (0xD2 ∷ []) 1501640907 ∷ packet (0x69 ∷ 0x80 ∷ 0x89 ∷ []) 1501641290 ∷ packet (0x69 ∷ 0x80 ∷ 0x89 ∷ []) 1501643116 ∷ packet (0x5A ∷ []) 1501644813 ∷ finishing ∷ [])
    ((105 ∷ 130 ∷ 49 ∷ 105 ∷ 130 ∷ 49 ∷ 90 ∷ 105 ∷ 130 ∷ 49 ∷ 195 ∷ 141 ∷ 46 ∷ 47 ∷ 253 ∷ 147 ∷ 49 ∷ 235 ∷ 10 ∷ 255 ∷ 140 ∷ 179 ∷ 254 ∷ 181 ∷ 208 ∷ 56 ∷ 54 ∷ 100 ∷ 161 ∷ 17 ∷ 208 ∷ 222 ∷ 159 ∷ 119 ∷ 67 ∷ 136 ∷ 81 ∷ 255 ∷ 221 ∷ 59 ∷ 207 ∷ 135 ∷ 157 ∷ 227 ∷ 144 ∷ 21 ∷ 24 ∷ 154 ∷ 218 ∷ 127 ∷ 0 ∷ 53 ∷ 245 ∷ 213 ∷ 40 ∷ 202 ∷ 15 ∷ 17 ∷ 218 ∷ 69 ∷ 227 ∷ 249 ∷ 251 ∷ 100 ∷ 163 ∷ 67 ∷ 168 ∷ 1 ∷ 63 ∷ 85 ∷ 189 ∷ 19 ∷ 14 ∷ 107 ∷ 190 ∷ 177 ∷ 3 ∷ 210 ∷ 105 ∷ 130 ∷ 49 ∷ 195 ∷ 188 ∷ 233 ∷ 89 ∷ 128 ∷ 27 ∷ 243 ∷ 230 ∷ 15 ∷ 125 ∷ 210 ∷ 105 ∷ 130 ∷ 49 ∷ 75 ∷ 75 ∷ 18 ∷ 22 ∷ 95 ∷ 181 ∷ 25 ∷ 58 ∷ 221 ∷ 59 ∷ 210 ∷ 105 ∷ 128 ∷ 137 ∷ 105 ∷ 128 ∷ 137 ∷ 90 ∷ []) ∷ (0 ∷ 2 ∷ []) ∷ (0 ∷ 16 ∷ 0 ∷ 0 ∷ 17 ∷ 0 ∷ 0 ∷ 18 ∷ 0 ∷ 1 ∷ 3 ∷ 1 ∷ 0 ∷ 3 ∷ 1 ∷ []) ∷ (0 ∷ 1501629778 ∷ 3 ∷ 1501630024 ∷ 6 ∷ 1501631301 ∷ 7 ∷ 1501632659 ∷ 10 ∷ 1501634135 ∷ 77 ∷ 1501635318 ∷ 78 ∷ 1501635378 ∷ 81 ∷ 1501635862 ∷ 91 ∷ 1501637841 ∷ 92 ∷ 1501638923 ∷ 95 ∷ 1501639705 ∷ 105 ∷ 1501640907 ∷ 106 ∷ 1501641290 ∷ 109 ∷ 1501643116 ∷ 112 ∷ 1501644813 ∷ []) ∷ ([]) ∷ (0 ∷ 0 ∷ 1 ∷ 0 ∷ 3 ∷ 0 ∷ 6 ∷ 0 ∷ 9 ∷ 0 ∷ 12 ∷ 0 ∷ 13 ∷ 0 ∷ []) ∷ (3 ∷ 0 ∷ 1 ∷ 0 ∷ 1501629778 ∷ 3 ∷ 0 ∷ 0 ∷ 5 ∷ 1501635318 ∷ 3 ∷ 1 ∷ 1 ∷ 5 ∷ 1501635318 ∷ 4 ∷ 0 ∷ 1 ∷ 12 ∷ 1501641290 ∷ []) ∷ (0 ∷ 0 ∷ 0 ∷ 1 ∷ 0 ∷ 0 ∷ 0 ∷ 3 ∷ 0 ∷ 0 ∷ 0 ∷ 1 ∷ 0 ∷ 0 ∷ 0 ∷ 2 ∷ 1 ∷ []) ∷ (0 ∷ 4 ∷ 8 ∷ 12 ∷ []) ∷ (0 ∷ 2 ∷ 3 ∷ []) ∷ (0 ∷ 3 ∷ 0 ∷ 0 ∷ 1 ∷ 3 ∷ 0 ∷ 0 ∷ 0 ∷ 3 ∷ 1 ∷ 0 ∷ 0 ∷ 3 ∷ 2 ∷ 0 ∷ 1 ∷ 3 ∷ 2 ∷ 0 ∷ 3 ∷ 3 ∷ 1 ∷ 0 ∷ 2 ∷ 3 ∷ 2 ∷ 0 ∷ 0 ∷ 3 ∷ 3 ∷ 0 ∷ 2 ∷ 3 ∷ 3 ∷ 64 ∷ 0 ∷ 3 ∷ 4 ∷ 0 ∷ 2 ∷ 3 ∷ 4 ∷ 71 ∷ 0 ∷ 4 ∷ 5 ∷ 0 ∷ 1 ∷ 4 ∷ 0 ∷ 0 ∷ 0 ∷ 4 ∷ 6 ∷ 0 ∷ []) ∷ ([]) ∷ [])
unfolding step bits bytes crc5_of crc16_of after format_of format_ok format_reason reason_of checked_of transaction_status extract_payload details_of with_type with_detail fresh is_read is_set_configuration is_set_interface kind_by kind_of laid is_whole whole_in whole is_of first_of max_of value_of chunks applied count_set note_of with_max device_after count_after shelf_after row_after setup_group control_group begin_group repeat_group other_group group_status group_update group_early_start group_early_append transaction_update event_update handle_raw_packet handle_event handle_detail finish
run-detail-27 = refl

run-address-28 :
    Leaves (packet (0x2D ∷ 0x02 ∷ 0xA8 ∷ []) 3567196204 ∷ packet (0xC3 ∷ 0x40 ∷ 0x09 ∷ 0x01 ∷ 0x01 ∷ 0x00 ∷ 0x00 ∷ 0x00 ∷ 0x00 ∷ 0x1E ∷ 0xD5 ∷ []) 3567196887 ∷ packet (0xD2 ∷ []) 3567197885 ∷ packet (0x69 ∷ 0x02 ∷ 0xA8 ∷ []) 3567197893 ∷ packet (0x4B ∷ 0x00 ∷ 0x00 ∷ []) 3567198096 ∷ packet (0xD2 ∷ []) 3567198734 ∷ packet (0x69 ∷ 0x00 ∷ 0x10 ∷ []) 3567199201 ∷ packet (0x5A ∷ []) 3567199792 ∷ packet (0x2D ∷ 0x00 ∷ 0x10 ∷ []) 3567200275 ∷ packet (0xC3 ∷ 0x80 ∷ 0x05 ∷ 0x02 ∷ 0x00 ∷ 0x00 ∷ 0x00 ∷ 0x08 ∷ 0x00 ∷ 0xE4 ∷ 0xB6 ∷ []) 3567200436 ∷ packet (0xD2 ∷ []) 3567201445 ∷ packet (0x69 ∷ 0x00 ∷ 0x10 ∷ []) 3567202430 ∷ packet (0x4B ∷ 0x90 ∷ 0x77 ∷ 0xD0 ∷ 0x40 ∷ 0x36 ∷ 0x37 ∷ 0x33 ∷ 0x17 ∷ 0x49 ∷ 0x78 ∷ []) 3567204007 ∷ packet (0xD2 ∷ []) 3567205567 ∷ packet (0xB4 ∷ 0x00 ∷ 0x10 ∷ []) 3567206277 ∷ packet (0xD2 ∷ []) 3567207825 ∷ finishing ∷ [])
    ((45 ∷ 2 ∷ 168 ∷ 195 ∷ 64 ∷ 9 ∷ 1 ∷ 1 ∷ 0 ∷ 0 ∷ 0 ∷ 0 ∷ 30 ∷ 213 ∷ 210 ∷ 105 ∷ 2 ∷ 168 ∷ 75 ∷ 0 ∷ 0 ∷ 210 ∷ 105 ∷ 0 ∷ 16 ∷ 90 ∷ 45 ∷ 0 ∷ 16 ∷ 195 ∷ 128 ∷ 5 ∷ 2 ∷ 0 ∷ 0 ∷ 0 ∷ 8 ∷ 0 ∷ 228 ∷ 182 ∷ 210 ∷ 105 ∷ 0 ∷ 16 ∷ 75 ∷ 144 ∷ 119 ∷ 208 ∷ 64 ∷ 54 ∷ 55 ∷ 51 ∷ 23 ∷ 73 ∷ 120 ∷ 210 ∷ 180 ∷ 0 ∷ 16 ∷ 210 ∷ []) ∷ (0 ∷ 2 ∷ []) ∷ (0 ∷ 16 ∷ 0 ∷ 0 ∷ 17 ∷ 0 ∷ 0 ∷ 18 ∷ 0 ∷ 1 ∷ 0 ∷ 0 ∷ 0 ∷ 0 ∷ 0 ∷ []) ∷ (0 ∷ 3567196204 ∷ 3 ∷ 3567196887 ∷ 14 ∷ 3567197885 ∷ 15 ∷ 3567197893 ∷ 18 ∷ 3567198096 ∷ 21 ∷ 3567198734 ∷ 22 ∷ 3567199201 ∷ 25 ∷ 3567199792 ∷ 26 ∷ 3567200275 ∷ 29 ∷ 3567200436 ∷ 40 ∷ 3567201445 ∷ 41 ∷ 3567202430 ∷ 44 ∷ 3567204007 ∷ 55 ∷ 3567205567 ∷ 56 ∷ 3567206277 ∷ 59 ∷ 3567207825 ∷ []) ∷ ([]) ∷ (0 ∷ 0 ∷ 3 ∷ 0 ∷ 6 ∷ 0 ∷ 8 ∷ 0 ∷ 11 ∷ 0 ∷ 14 ∷ 0 ∷ []) ∷ (3 ∷ 0 ∷ 1 ∷ 0 ∷ 3567196204 ∷ 3 ∷ 0 ∷ 0 ∷ 5 ∷ 3567198734 ∷ 4 ∷ 0 ∷ 1 ∷ 6 ∷ 3567199201 ∷ 4 ∷ 0 ∷ 0 ∷ 8 ∷ 3567200275 ∷ 4 ∷ 1 ∷ 1 ∷ 8 ∷ 3567200275 ∷ []) ∷ (0 ∷ 0 ∷ 0 ∷ 1 ∷ 0 ∷ 0 ∷ 0 ∷ 3 ∷ 0 ∷ 0 ∷ 0 ∷ 0 ∷ 1 ∷ 0 ∷ 0 ∷ 0 ∷ 0 ∷ 3 ∷ 0 ∷ 0 ∷ 0 ∷ 0 ∷ 1 ∷ []) ∷ (0 ∷ 4 ∷ 8 ∷ 13 ∷ 18 ∷ []) ∷ (0 ∷ 2 ∷ 4 ∷ []) ∷ (0 ∷ 3 ∷ 0 ∷ 0 ∷ 1 ∷ 3 ∷ 0 ∷ 0 ∷ 0 ∷ 3 ∷ 1 ∷ 0 ∷ 0 ∷ 4 ∷ 2 ∷ 0 ∷ 1 ∷ 4 ∷ 0 ∷ 0 ∷ 3 ∷ 3 ∷ 1 ∷ 0 ∷ 0 ∷ 4 ∷ 3 ∷ 0 ∷ 1 ∷ 4 ∷ 1 ∷ 0 ∷ 3 ∷ 4 ∷ 2 ∷ 0 ∷ 0 ∷ 4 ∷ 4 ∷ 0 ∷ 2 ∷ 4 ∷ 2 ∷ 0 ∷ 0 ∷ 4 ∷ 5 ∷ 0 ∷ []) ∷ (3 ∷ 16845120 ∷ 0 ∷ 0 ∷ []) ∷ [])
unfolding step bits bytes crc5_of crc16_of after format_of format_ok format_reason reason_of checked_of transaction_status extract_payload details_of with_type with_detail fresh is_read is_set_configuration is_set_interface kind_by kind_of laid is_whole whole_in whole is_of first_of max_of value_of chunks applied count_set note_of with_max device_after count_after shelf_after row_after setup_group control_group begin_group repeat_group other_group group_status group_update group_early_start group_early_append transaction_update event_update handle_raw_packet handle_event handle_detail finish
run-address-28 = refl

run-time-29 :
    Leaves (packet (0xA5 ∷ 0x01 ∷ 0xE8 ∷ []) 1977 ∷ packet (0xA5 ∷ 0x02 ∷ 0xA8 ∷ []) 4294968542 ∷ packet (0x69 ∷ 0x80 ∷ 0xA0 ∷ []) 4294969514 ∷ packet (0x5A ∷ []) 4294970972 ∷ packet (0x69 ∷ 0x80 ∷ 0xA0 ∷ []) 4294972761 ∷ packet (0xC3 ∷ 0x35 ∷ 0x2F ∷ 0x2E ∷ 0x54 ∷ 0x5E ∷ 0xF0 ∷ 0x1C ∷ 0xF3 ∷ 0xCE ∷ 0xC1 ∷ []) 4294973639 ∷ packet (0xD2 ∷ []) 4294974751 ∷ packet (0x69 ∷ 0x80 ∷ 0xA0 ∷ []) 4294976150 ∷ packet (0x5A ∷ []) 4294976739 ∷ packet (0x69 ∷ 0x80 ∷ 0xA0 ∷ []) 4294977155 ∷ packet (0x5A ∷ []) 4294978747 ∷ packet (0x69 ∷ 0x80 ∷ 0xA0 ∷ []) 4294980624 ∷ packet (0x5A ∷ []) 4294980719 ∷ packet (0xA5 ∷ 0x03 ∷ 0x50 ∷ []) 8589927475 ∷ packet (0xA5 ∷ 0x04 ∷ 0x28 ∷ []) 8589929162 ∷ packet (0xA5 ∷ 0x05 ∷ 0xD0 ∷ []) 8589930693 ∷ finishing ∷ [])
    ((165 ∷ 1 ∷ 232 ∷ 165 ∷ 2 ∷ 168 ∷ 105 ∷ 128 ∷ 160 ∷ 90 ∷ 105 ∷ 128 ∷ 160 ∷ 195 ∷ 53 ∷ 47 ∷ 46 ∷ 84 ∷ 94 ∷ 240 ∷ 28 ∷ 243 ∷ 206 ∷ 193 ∷ 210 ∷ 105 ∷ 128 ∷ 160 ∷ 90 ∷ 105 ∷ 128 ∷ 160 ∷ 90 ∷ 105 ∷ 128 ∷ 160 ∷ 90 ∷ 165 ∷ 3 ∷ 80 ∷ 165 ∷ 4 ∷ 40 ∷ 165 ∷ 5 ∷ 208 ∷ []) ∷ (0 ∷ []) ∷ (0 ∷ 16 ∷ 0 ∷ 0 ∷ 17 ∷ 0 ∷ 0 ∷ 18 ∷ 0 ∷ 0 ∷ 1 ∷ 1 ∷ []) ∷ (0 ∷ 1977 ∷ 3 ∷ 4294968542 ∷ 6 ∷ 4294969514 ∷ 9 ∷ 4294970972 ∷ 10 ∷ 4294972761 ∷ 13 ∷ 4294973639 ∷ 24 ∷ 4294974751 ∷ 25 ∷ 4294976150 ∷ 28 ∷ 4294976739 ∷ 29 ∷ 4294977155 ∷ 32 ∷ 4294978747 ∷ 33 ∷ 4294980624 ∷ 36 ∷ 4294980719 ∷ 37 ∷ 8589927475 ∷ 40 ∷ 8589929162 ∷ 43 ∷ 8589930693 ∷ []) ∷ ([]) ∷ (0 ∷ 0 ∷ 2 ∷ 0 ∷ 4 ∷ 0 ∷ 7 ∷ 0 ∷ 9 ∷ 0 ∷ 11 ∷ 0 ∷ 13 ∷ 0 ∷ []) ∷ (2 ∷ 0 ∷ 1 ∷ 0 ∷ 1977 ∷ 3 ∷ 0 ∷ 1 ∷ 2 ∷ 4294969514 ∷ 3 ∷ 0 ∷ 0 ∷ 6 ∷ 4294974751 ∷ 3 ∷ 1 ∷ 1 ∷ 6 ∷ 4294974751 ∷ 3 ∷ 1 ∷ 0 ∷ 8 ∷ 4294976739 ∷ 3 ∷ 2 ∷ 1 ∷ 8 ∷ 4294976739 ∷ []) ∷ (0 ∷ 0 ∷ 1 ∷ 0 ∷ 0 ∷ 2 ∷ 1 ∷ 0 ∷ 0 ∷ 2 ∷ 3 ∷ 0 ∷ 0 ∷ 2 ∷ 1 ∷ 0 ∷ 0 ∷ 2 ∷ 3 ∷ 0 ∷ 0 ∷ 2 ∷ 1 ∷ []) ∷ (0 ∷ 3 ∷ 7 ∷ 11 ∷ 15 ∷ 19 ∷ []) ∷ (0 ∷ 1 ∷ 3 ∷ 5 ∷ []) ∷ (0 ∷ 2 ∷ 0 ∷ 0 ∷ 1 ∷ 2 ∷ 0 ∷ 0 ∷ 0 ∷ 3 ∷ 1 ∷ 0 ∷ 1 ∷ 3 ∷ 0 ∷ 0 ∷ 0 ∷ 3 ∷ 2 ∷ 0 ∷ 1 ∷ 3 ∷ 1 ∷ 0 ∷ 3 ∷ 3 ∷ 2 ∷ 0 ∷ 2 ∷ 3 ∷ 1 ∷ 0 ∷ 0 ∷ 3 ∷ 3 ∷ 0 ∷ 1 ∷ 3 ∷ 2 ∷ 0 ∷ 3 ∷ 3 ∷ 3 ∷ 0 ∷ 0 ∷ 3 ∷ 4 ∷ 0 ∷ 0 ∷ 3 ∷ 5 ∷ 0 ∷ 0 ∷ 2 ∷ 6 ∷ 0 ∷ []) ∷ ([]) ∷ [])
unfolding step bits bytes crc5_of crc16_of after format_of format_ok format_reason reason_of checked_of transaction_status extract_payload details_of with_type with_detail fresh is_read is_set_configuration is_set_interface kind_by kind_of laid is_whole whole_in whole is_of first_of max_of value_of chunks applied count_set note_of with_max device_after count_after shelf_after row_after setup_group control_group begin_group repeat_group other_group group_status group_update group_early_start group_early_append transaction_update event_update handle_raw_packet handle_event handle_detail finish
run-time-29 = refl

run-refused-30 :
    Leaves (packet (0x69 ∷ 0x80 ∷ 0xA0 ∷ []) 4067561794 ∷ packet (0x4B ∷ 0xB8 ∷ 0x5B ∷ 0xBF ∷ 0x1D ∷ 0xD2 ∷ 0x8C ∷ 0xD7 ∷ 0x59 ∷ 0xC4 ∷ 0x20 ∷ 0x34 ∷ 0xAC ∷ 0x3B ∷ 0xAC ∷ 0x55 ∷ 0x05 ∷ 0xBF ∷ 0x74 ∷ []) 4067562081 ∷ packet (0xD2 ∷ []) 4067563210 ∷ packet (0x69 ∷ 0x80 ∷ 0xA0 ∷ []) 4067565200 ∷ packet (0x4B ∷ 0xCC ∷ 0x95 ∷ 0x05 ∷ 0xDB ∷ 0x03 ∷ 0x3E ∷ 0x7D ∷ 0x8E ∷ 0x4D ∷ 0x8C ∷ 0x57 ∷ 0xB1 ∷ 0x3B ∷ 0x30 ∷ 0x88 ∷ 0xF6 ∷ 0x02 ∷ 0x40 ∷ []) 4067565272 ∷ packet (0x5A ∷ []) 4067565521 ∷ packet (0x69 ∷ 0x80 ∷ 0xA0 ∷ []) 4067566646 ∷ packet (0x4B ∷ 0x0A ∷ 0x1A ∷ 0xAF ∷ 0x8F ∷ 0xC1 ∷ 0xB2 ∷ 0xEB ∷ 0x1D ∷ 0x02 ∷ 0xBB ∷ 0xE4 ∷ 0x94 ∷ 0x2E ∷ 0xD6 ∷ 0xEC ∷ 0x91 ∷ 0x93 ∷ 0x8E ∷ []) 4067567368 ∷ packet (0x1E ∷ []) 4067568605 ∷ packet (0x69 ∷ 0x80 ∷ 0xA0 ∷ []) 4067569535 ∷ packet (0x4B ∷ 0x69 ∷ 0x6C ∷ 0xC3 ∷ 0x15 ∷ 0x3F ∷ 0xE5 ∷ 0x89 ∷ 0xE8 ∷ 0xFD ∷ 0x93 ∷ 0x35 ∷ 0x63 ∷ 0x9F ∷ []) 4067570021 ∷ packet (0xD2 ∷ []) 4067570247 ∷ packet (0x69 ∷ 0x81 ∷ 0x71 ∷ []) 4067571723 ∷ packet (0x69 ∷ 0x81 ∷ 0x71 ∷ []) 4067572770 ∷ finishing ∷ [])
    ((105 ∷ 128 ∷ 160 ∷ 75 ∷ 184 ∷ 91 ∷ 191 ∷ 29 ∷ 210 ∷ 140 ∷ 215 ∷ 89 ∷ 196 ∷ 32 ∷ 52 ∷ 172 ∷ 59 ∷ 172 ∷ 85 ∷ 5 ∷ 191 ∷ 116 ∷ 210 ∷ 105 ∷ 128 ∷ 160 ∷ 75 ∷ 204 ∷ 149 ∷ 5 ∷ 219 ∷ 3 ∷ 62 ∷ 125 ∷ 142 ∷ 77 ∷ 140 ∷ 87 ∷ 177 ∷ 59 ∷ 48 ∷ 136 ∷ 246 ∷ 2 ∷ 64 ∷ 90 ∷ 105 ∷ 128 ∷ 160 ∷ 75 ∷ 10 ∷ 26 ∷ 175 ∷ 143 ∷ 193 ∷ 178 ∷ 235 ∷ 29 ∷ 2 ∷ 187 ∷ 228 ∷ 148 ∷ 46 ∷ 214 ∷ 236 ∷ 145 ∷ 147 ∷ 142 ∷ 30 ∷ 105 ∷ 128 ∷ 160 ∷ 75 ∷ 105 ∷ 108 ∷ 195 ∷ 21 ∷ 63 ∷ 229 ∷ 137 ∷ 232 ∷ 253 ∷ 147 ∷ 53 ∷ 99 ∷ 159 ∷ 210 ∷ 105 ∷ 129 ∷ 113 ∷ 105 ∷ 129 ∷ 113 ∷ []) ∷ (0 ∷ 1 ∷ []) ∷ (0 ∷ 16 ∷ 0 ∷ 0 ∷ 17 ∷ 0 ∷ 0 ∷ 18 ∷ 0 ∷ 0 ∷ 1 ∷ 1 ∷ 1 ∷ 3 ∷ 1 ∷ []) ∷ (0 ∷ 4067561794 ∷ 3 ∷ 4067562081 ∷ 22 ∷ 4067563210 ∷ 23 ∷ 4067565200 ∷ 26 ∷ 4067565272 ∷ 45 ∷ 4067565521 ∷ 46 ∷ 4067566646 ∷ 49 ∷ 4067567368 ∷ 68 ∷ 4067568605 ∷ 69 ∷ 4067569535 ∷ 72 ∷ 4067570021 ∷ 86 ∷ 4067570247 ∷ 87 ∷ 4067571723 ∷ 90 ∷ 4067572770 ∷ []) ∷ ([]) ∷ (0 ∷ 0 ∷ 3 ∷ 0 ∷ 5 ∷ 0 ∷ 6 ∷ 0 ∷ 8 ∷ 0 ∷ 9 ∷ 0 ∷ 12 ∷ 0 ∷ 13 ∷ 0 ∷ []) ∷ (3 ∷ 0 ∷ 1 ∷ 0 ∷ 4067561794 ∷ 1 ∷ 0 ∷ 1 ∷ 5 ∷ 4067565521 ∷ 1 ∷ 0 ∷ 0 ∷ 5 ∷ 4067565521 ∷ 1 ∷ 1 ∷ 1 ∷ 8 ∷ 4067568605 ∷ 1 ∷ 1 ∷ 0 ∷ 8 ∷ 4067568605 ∷ 4 ∷ 0 ∷ 1 ∷ 12 ∷ 4067571723 ∷ []) ∷ (0 ∷ 0 ∷ 0 ∷ 1 ∷ 0 ∷ 1 ∷ 0 ∷ 2 ∷ 0 ∷ 3 ∷ 0 ∷ 2 ∷ 0 ∷ 1 ∷ 0 ∷ 2 ∷ 0 ∷ 3 ∷ 0 ∷ 2 ∷ 0 ∷ 0 ∷ 0 ∷ 2 ∷ 1 ∷ []) ∷ (0 ∷ 4 ∷ 8 ∷ 12 ∷ 16 ∷ 20 ∷ []) ∷ (0 ∷ 1 ∷ 3 ∷ 5 ∷ []) ∷ (0 ∷ 3 ∷ 0 ∷ 0 ∷ 1 ∷ 3 ∷ 0 ∷ 0 ∷ 2 ∷ 3 ∷ 0 ∷ 0 ∷ 0 ∷ 1 ∷ 2 ∷ 0 ∷ 1 ∷ 1 ∷ 0 ∷ 0 ∷ 0 ∷ 1 ∷ 4 ∷ 0 ∷ 1 ∷ 1 ∷ 1 ∷ 0 ∷ 3 ∷ 1 ∷ 2 ∷ 0 ∷ 0 ∷ 3 ∷ 5 ∷ 0 ∷ 2 ∷ 3 ∷ 1 ∷ 16 ∷ 0 ∷ 4 ∷ 6 ∷ 0 ∷ 1 ∷ 4 ∷ 0 ∷ 0 ∷ 3 ∷ 1 ∷ 3 ∷ 0 ∷ 0 ∷ 4 ∷ 7 ∷ 0 ∷ []) ∷ ([]) ∷ [])
unfolding step bits bytes crc5_of crc16_of after format_of format_ok format_reason reason_of checked_of transaction_status extract_payload details_of with_type with_detail fresh is_read is_set_configuration is_set_interface kind_by kind_of laid is_whole whole_in whole is_of first_of max_of value_of chunks applied count_set note_of with_max device_after count_after shelf_after row_after setup_group control_group begin_group repeat_group other_group group_status group_update group_early_start group_early_append transaction_update event_update handle_raw_packet handle_event handle_detail finish
run-refused-30 = refl

run-soup-31 :
    Leaves (event 0 213 2275405255 ∷ packet (0x1E ∷ []) 2275406009 ∷ packet (0x87 ∷ 0x00 ∷ 0x00 ∷ []) 2275407046 ∷ packet (0x69 ∷ 0x81 ∷ 0x58 ∷ []) 2275408684 ∷ packet (0x69 ∷ 0x81 ∷ 0x58 ∷ []) 2275410200 ∷ packet (0x5A ∷ []) 2275410788 ∷ detail 1 1 1 3 8 ∷ packet (0xD2 ∷ []) 2275412308 ∷ packet (0x69 ∷ 0x02 ∷ 0x81 ∷ []) 2275412772 ∷ packet (0x69 ∷ 0x02 ∷ 0x81 ∷ []) 2275412939 ∷ packet (0x5A ∷ []) 2275413310 ∷ detail 2 2 0 0 8 ∷ packet (0x1E ∷ []) 2275414793 ∷ packet (0xA5 ∷ 0xC9 ∷ 0xD4 ∷ []) 2275416199 ∷ packet (0x2D ∷ 0x81 ∷ 0x71 ∷ []) 2275417041 ∷ packet (0x3C ∷ []) 2275417775 ∷ finishing ∷ [])
    ((30 ∷ 135 ∷ 0 ∷ 0 ∷ 105 ∷ 129 ∷ 88 ∷ 105 ∷ 129 ∷ 88 ∷ 90 ∷ 210 ∷ 105 ∷ 2 ∷ 129 ∷ 105 ∷ 2 ∷ 129 ∷ 90 ∷ 30 ∷ 165 ∷ 201 ∷ 212 ∷ 45 ∷ 129 ∷ 113 ∷ 60 ∷ []) ∷ (0 ∷ 1 ∷ 2 ∷ []) ∷ (0 ∷ 16 ∷ 0 ∷ 0 ∷ 17 ∷ 0 ∷ 0 ∷ 18 ∷ 0 ∷ 1 ∷ 1 ∷ 1 ∷ 2 ∷ 2 ∷ 1 ∷ 1 ∷ 3 ∷ 0 ∷ []) ∷ (0 ∷ 2275405255 ∷ 0 ∷ 2275406009 ∷ 1 ∷ 2275407046 ∷ 4 ∷ 2275408684 ∷ 7 ∷ 2275410200 ∷ 10 ∷ 2275410788 ∷ 11 ∷ 2275412308 ∷ 12 ∷ 2275412772 ∷ 15 ∷ 2275412939 ∷ 18 ∷ 2275413310 ∷ 19 ∷ 2275414793 ∷ 20 ∷ 2275416199 ∷ 23 ∷ 2275417041 ∷ 26 ∷ 2275417775 ∷ []) ∷ (0 ∷ 213 ∷ []) ∷ (0 ∷ 0 ∷ 1 ∷ 0 ∷ 2 ∷ 0 ∷ 3 ∷ 0 ∷ 4 ∷ 0 ∷ 6 ∷ 0 ∷ 7 ∷ 0 ∷ 8 ∷ 0 ∷ 10 ∷ 0 ∷ 11 ∷ 0 ∷ 12 ∷ 0 ∷ 13 ∷ 0 ∷ []) ∷ (0 ∷ 0 ∷ 1 ∷ 0 ∷ 2275405255 ∷ 1 ∷ 0 ∷ 1 ∷ 1 ∷ 2275406009 ∷ 1 ∷ 0 ∷ 0 ∷ 1 ∷ 2275406009 ∷ 1 ∷ 1 ∷ 1 ∷ 2 ∷ 2275407046 ∷ 1 ∷ 1 ∷ 0 ∷ 2 ∷ 2275407046 ∷ 3 ∷ 0 ∷ 1 ∷ 3 ∷ 2275408684 ∷ 1 ∷ 2 ∷ 1 ∷ 6 ∷ 2275412308 ∷ 1 ∷ 2 ∷ 0 ∷ 6 ∷ 2275412308 ∷ 4 ∷ 0 ∷ 1 ∷ 7 ∷ 2275412772 ∷ 1 ∷ 3 ∷ 1 ∷ 10 ∷ 2275414793 ∷ 1 ∷ 3 ∷ 0 ∷ 10 ∷ 2275414793 ∷ 2 ∷ 0 ∷ 1 ∷ 11 ∷ 2275416199 ∷ 5 ∷ 0 ∷ 1 ∷ 12 ∷ 2275417041 ∷ 1 ∷ 4 ∷ 1 ∷ 13 ∷ 2275417775 ∷ 1 ∷ 4 ∷ 0 ∷ 13 ∷ 2275417775 ∷ []) ∷ (1 ∷ 0 ∷ 0 ∷ 2 ∷ 1 ∷ 0 ∷ 2 ∷ 3 ∷ 0 ∷ 2 ∷ 1 ∷ 0 ∷ 2 ∷ 3 ∷ 0 ∷ 2 ∷ 0 ∷ 0 ∷ 1 ∷ 2 ∷ 1 ∷ 0 ∷ 2 ∷ 2 ∷ 3 ∷ 0 ∷ 2 ∷ 2 ∷ 0 ∷ 0 ∷ 2 ∷ 1 ∷ 2 ∷ 1 ∷ 0 ∷ 2 ∷ 2 ∷ 2 ∷ 3 ∷ 0 ∷ 2 ∷ 2 ∷ 2 ∷ 0 ∷ 1 ∷ 2 ∷ 2 ∷ 2 ∷ 0 ∷ 2 ∷ 2 ∷ 2 ∷ 1 ∷ 2 ∷ 1 ∷ 2 ∷ 2 ∷ 2 ∷ 2 ∷ 2 ∷ 3 ∷ 2 ∷ 2 ∷ 2 ∷ 2 ∷ []) ∷ (0 ∷ 3 ∷ 6 ∷ 9 ∷ 12 ∷ 15 ∷ 19 ∷ 23 ∷ 27 ∷ 32 ∷ 37 ∷ 42 ∷ 47 ∷ 53 ∷ 59 ∷ []) ∷ (0 ∷ 1 ∷ 3 ∷ 5 ∷ 6 ∷ 8 ∷ 9 ∷ 11 ∷ 12 ∷ 13 ∷ []) ∷ (0 ∷ 0 ∷ 0 ∷ 0 ∷ 1 ∷ 0 ∷ 0 ∷ 0 ∷ 0 ∷ 1 ∷ 1 ∷ 0 ∷ 1 ∷ 1 ∷ 0 ∷ 0 ∷ 0 ∷ 1 ∷ 2 ∷ 0 ∷ 1 ∷ 1 ∷ 1 ∷ 0 ∷ 3 ∷ 1 ∷ 2 ∷ 0 ∷ 0 ∷ 3 ∷ 3 ∷ 0 ∷ 1 ∷ 3 ∷ 0 ∷ 0 ∷ 3 ∷ 1 ∷ 3 ∷ 0 ∷ 0 ∷ 3 ∷ 4 ∷ 0 ∷ 0 ∷ 1 ∷ 5 ∷ 0 ∷ 1 ∷ 1 ∷ 2 ∷ 0 ∷ 0 ∷ 4 ∷ 6 ∷ 0 ∷ 1 ∷ 4 ∷ 0 ∷ 0 ∷ 3 ∷ 1 ∷ 5 ∷ 0 ∷ 0 ∷ 4 ∷ 7 ∷ 0 ∷ 0 ∷ 1 ∷ 8 ∷ 0 ∷ 1 ∷ 1 ∷ 3 ∷ 0 ∷ 0 ∷ 2 ∷ 9 ∷ 0 ∷ 1 ∷ 2 ∷ 0 ∷ 0 ∷ 3 ∷ 1 ∷ 7 ∷ 0 ∷ 0 ∷ 5 ∷ 10 ∷ 0 ∷ 1 ∷ 5 ∷ 0 ∷ 0 ∷ 0 ∷ 1 ∷ 11 ∷ 0 ∷ 1 ∷ 1 ∷ 4 ∷ 0 ∷ []) ∷ ([]) ∷ [])
unfolding step bits bytes crc5_of crc16_of after format_of format_ok format_reason reason_of checked_of transaction_status extract_payload details_of with_type with_detail fresh is_read is_set_configuration is_set_interface kind_by kind_of laid is_whole whole_in whole is_of first_of max_of value_of chunks applied count_set note_of with_max device_after count_after shelf_after row_after setup_group control_group begin_group repeat_group other_group group_status group_update group_early_start group_early_append transaction_update event_update handle_raw_packet handle_event handle_detail finish
run-soup-31 = refl

run-mixed-32 :
    Leaves (packet (0xA5 ∷ 0x01 ∷ 0xE8 ∷ []) 3041798599 ∷ packet (0xE1 ∷ 0x01 ∷ 0xC1 ∷ []) 3041799757 ∷ packet (0x4B ∷ 0x0B ∷ 0xAB ∷ 0xBE ∷ 0xE3 ∷ 0x11 ∷ 0xD1 ∷ 0x81 ∷ 0xDD ∷ 0x21 ∷ 0x2F ∷ 0x62 ∷ 0x34 ∷ 0x73 ∷ 0x40 ∷ 0x08 ∷ 0x09 ∷ 0xE3 ∷ 0xC2 ∷ 0x3E ∷ 0xE1 ∷ 0x4A ∷ 0xCF ∷ 0x4B ∷ 0xA7 ∷ 0xD3 ∷ 0x96 ∷ 0x2F ∷ 0x2C ∷ 0xA1 ∷ 0xF8 ∷ 0x4B ∷ 0x24 ∷ 0xF1 ∷ 0x29 ∷ 0x67 ∷ 0x5A ∷ 0xEF ∷ 0x05 ∷ 0xF7 ∷ 0xBD ∷ 0xBF ∷ 0x03 ∷ 0xC9 ∷ 0xEB ∷ 0x36 ∷ 0x40 ∷ 0x38 ∷ 0xA3 ∷ 0x0D ∷ 0x60 ∷ 0x49 ∷ 0xF9 ∷ 0x2D ∷ 0x01 ∷ 0x2B ∷ 0x4A ∷ 0x62 ∷ 0x51 ∷ 0x35 ∷ 0x46 ∷ 0x85 ∷ 0x6C ∷ 0xD6 ∷ 0x64 ∷ 0x10 ∷ []) 3041801392 ∷ packet (0xA5 ∷ 0x02 ∷ 0xA8 ∷ []) 3041801746 ∷ packet (0xA5 ∷ 0x03 ∷ 0x50 ∷ []) 3041802877 ∷ packet (0xE1 ∷ 0x01 ∷ 0xC1 ∷ []) 3041802963 ∷ packet (0x0F ∷ 0x00 ∷ 0x00 ∷ []) 3041804167 ∷ packet (0xA5 ∷ 0x04 ∷ 0x28 ∷ []) 3041805791 ∷ packet (0xE1 ∷ 0x01 ∷ 0xC1 ∷ []) 3041807433 ∷ event 0 250 3041808985 ∷ packet (0x87 ∷ 0x19 ∷ 0x4E ∷ 0xE2 ∷ 0x1D ∷ 0xC6 ∷ 0x73 ∷ 0x9F ∷ 0xFC ∷ 0x41 ∷ 0x09 ∷ 0xCD ∷ 0x1D ∷ 0x51 ∷ 0x70 ∷ 0xB7 ∷ 0xBF ∷ 0x88 ∷ 0x4F ∷ 0x3C ∷ 0x86 ∷ 0xDD ∷ 0xA0 ∷ 0x70 ∷ 0x04 ∷ 0x3E ∷ 0xF5 ∷ 0x42 ∷ 0xFF ∷ 0xAA ∷ 0xB8 ∷ 0x96 ∷ 0x5F ∷ 0x8A ∷ 0x8C ∷ 0x9F ∷ 0xFA ∷ 0xB9 ∷ 0x1A ∷ 0x5E ∷ 0xB0 ∷ 0xE1 ∷ 0x44 ∷ 0x46 ∷ 0x3E ∷ 0x05 ∷ 0x7B ∷ 0x70 ∷ 0x96 ∷ 0xFD ∷ 0xC0 ∷ 0x80 ∷ 0x4F ∷ 0x70 ∷ 0x41 ∷ 0xEE ∷ 0xE0 ∷ 0x01 ∷ 0xB7 ∷ 0xF7 ∷ 0x9B ∷ 0x13 ∷ 0x32 ∷ 0x30 ∷ 0xEC ∷ 0xE6 ∷ 0xD4 ∷ []) 3041810447 ∷ packet (0xA5 ∷ 0x05 ∷ 0xD0 ∷ []) 3041811643 ∷ packet (0xE1 ∷ 0x01 ∷ 0xC1 ∷ []) 3041812487 ∷ packet (0xC3 ∷ 0x1D ∷ 0x62 ∷ 0x83 ∷ 0x81 ∷ 0xAB ∷ 0x1B ∷ 0x1B ∷ 0x0C ∷ 0xBD ∷ 0x01 ∷ 0x69 ∷ 0x3C ∷ 0x15 ∷ 0x66 ∷ 0xF7 ∷ 0x7C ∷ 0x20 ∷ 0xB1 ∷ 0x35 ∷ 0x8D ∷ 0x99 ∷ 0xDC ∷ 0x22 ∷ 0xE1 ∷ 0xCD ∷ 0x74 ∷ 0x1C ∷ 0x81 ∷ 0xB7 ∷ 0xF0 ∷ 0xA5 ∷ 0x17 ∷ 0xE8 ∷ 0x84 ∷ 0x2F ∷ 0x9A ∷ 0x04 ∷ 0x0E ∷ 0x81 ∷ 0x35 ∷ 0xC0 ∷ 0xF9 ∷ 0x42 ∷ 0x04 ∷ 0xD7 ∷ 0xC7 ∷ 0x00 ∷ 0xC1 ∷ 0xBC ∷ 0xF2 ∷ 0xE5 ∷ 0x11 ∷ 0xD3 ∷ 0xFF ∷ 0xB3 ∷ 0x2E ∷ 0x77 ∷ 0x41 ∷ 0xEF ∷ 0xC1 ∷ 0xB2 ∷ 0xFB ∷ 0xD8 ∷ 0x3D ∷ 0x70 ∷ 0x9D ∷ 0xAA ∷ []) 3041812848 ∷ packet (0xA5 ∷ 0x06 ∷ 0x90 ∷ []) 4864073974 ∷ packet (0xA5 ∷ 0x07 ∷ 0x68 ∷ []) 4864075520 ∷ finishing ∷ [])
    ((165 ∷ 1 ∷ 232 ∷ 225 ∷ 1 ∷ 193 ∷ 75 ∷ 11 ∷ 171 ∷ 190 ∷ 227 ∷ 17 ∷ 209 ∷ 129 ∷ 221 ∷ 33 ∷ 47 ∷ 98 ∷ 52 ∷ 115 ∷ 64 ∷ 8 ∷ 9 ∷ 227 ∷ 194 ∷ 62 ∷ 225 ∷ 74 ∷ 207 ∷ 75 ∷ 167 ∷ 211 ∷ 150 ∷ 47 ∷ 44 ∷ 161 ∷ 248 ∷ 75 ∷ 36 ∷ 241 ∷ 41 ∷ 103 ∷ 90 ∷ 239 ∷ 5 ∷ 247 ∷ 189 ∷ 191 ∷ 3 ∷ 201 ∷ 235 ∷ 54 ∷ 64 ∷ 56 ∷ 163 ∷ 13 ∷ 96 ∷ 73 ∷ 249 ∷ 45 ∷ 1 ∷ 43 ∷ 74 ∷ 98 ∷ 81 ∷ 53 ∷ 70 ∷ 133 ∷ 108 ∷ 214 ∷ 100 ∷ 16 ∷ 165 ∷ 2 ∷ 168 ∷ 165 ∷ 3 ∷ 80 ∷ 225 ∷ 1 ∷ 193 ∷ 15 ∷ 0 ∷ 0 ∷ 165 ∷ 4 ∷ 40 ∷ 225 ∷ 1 ∷ 193 ∷ 135 ∷ 25 ∷ 78 ∷ 226 ∷ 29 ∷ 198 ∷ 115 ∷ 159 ∷ 252 ∷ 65 ∷ 9 ∷ 205 ∷ 29 ∷ 81 ∷ 112 ∷ 183 ∷ 191 ∷ 136 ∷ 79 ∷ 60 ∷ 134 ∷ 221 ∷ 160 ∷ 112 ∷ 4 ∷ 62 ∷ 245 ∷ 66 ∷ 255 ∷ 170 ∷ 184 ∷ 150 ∷ 95 ∷ 138 ∷ 140 ∷ 159 ∷ 250 ∷ 185 ∷ 26 ∷ 94 ∷ 176 ∷ 225 ∷ 68 ∷ 70 ∷ 62 ∷ 5 ∷ 123 ∷ 112 ∷ 150 ∷ 253 ∷ 192 ∷ 128 ∷ 79 ∷ 112 ∷ 65 ∷ 238 ∷ 224 ∷ 1 ∷ 183 ∷ 247 ∷ 155 ∷ 19 ∷ 50 ∷ 48 ∷ 236 ∷ 230 ∷ 212 ∷ 165 ∷ 5 ∷ 208 ∷ 225 ∷ 1 ∷ 193 ∷ 195 ∷ 29 ∷ 98 ∷ 131 ∷ 129 ∷ 171 ∷ 27 ∷ 27 ∷ 12 ∷ 189 ∷ 1 ∷ 105 ∷ 60 ∷ 21 ∷ 102 ∷ 247 ∷ 124 ∷ 32 ∷ 177 ∷ 53 ∷ 141 ∷ 153 ∷ 220 ∷ 34 ∷ 225 ∷ 205 ∷ 116 ∷ 28 ∷ 129 ∷ 183 ∷ 240 ∷ 165 ∷ 23 ∷ 232 ∷ 132 ∷ 47 ∷ 154 ∷ 4 ∷ 14 ∷ 129 ∷ 53 ∷ 192 ∷ 249 ∷ 66 ∷ 4 ∷ 215 ∷ 199 ∷ 0 ∷ 193 ∷ 188 ∷ 242 ∷ 229 ∷ 17 ∷ 211 ∷ 255 ∷ 179 ∷ 46 ∷ 119 ∷ 65 ∷ 239 ∷ 193 ∷ 178 ∷ 251 ∷ 216 ∷ 61 ∷ 112 ∷ 157 ∷ 170 ∷ 165 ∷ 6 ∷ 144 ∷ 165 ∷ 7 ∷ 104 ∷ []) ∷ (0 ∷ 1 ∷ []) ∷ (0 ∷ 16 ∷ 0 ∷ 0 ∷ 17 ∷ 0 ∷ 0 ∷ 18 ∷ 0 ∷ 1 ∷ 2 ∷ 0 ∷ []) ∷ (0 ∷ 3041798599 ∷ 3 ∷ 3041799757 ∷ 6 ∷ 3041801392 ∷ 72 ∷ 3041801746 ∷ 75 ∷ 3041802877 ∷ 78 ∷ 3041802963 ∷ 81 ∷ 3041804167 ∷ 84 ∷ 3041805791 ∷ 87 ∷ 3041807433 ∷ 90 ∷ 3041808985 ∷ 90 ∷ 3041810447 ∷ 157 ∷ 3041811643 ∷ 160 ∷ 3041812487 ∷ 163 ∷ 3041812848 ∷ 231 ∷ 4864073974 ∷ 234 ∷ 4864075520 ∷ []) ∷ (9 ∷ 250 ∷ []) ∷ (0 ∷ 0 ∷ 1 ∷ 0 ∷ 3 ∷ 0 ∷ 5 ∷ 0 ∷ 6 ∷ 0 ∷ 7 ∷ 0 ∷ 8 ∷ 0 ∷ 9 ∷ 0 ∷ 10 ∷ 0 ∷ 10 ∷ 0 ∷ 11 ∷ 0 ∷ 12 ∷ 0 ∷ 14 ∷ 0 ∷ []) ∷ (2 ∷ 0 ∷ 1 ∷ 0 ∷ 3041798599 ∷ 3 ∷ 0 ∷ 1 ∷ 1 ∷ 3041799757 ∷ 1 ∷ 0 ∷ 1 ∷ 6 ∷ 3041804167 ∷ 1 ∷ 0 ∷ 0 ∷ 6 ∷ 3041804167 ∷ 0 ∷ 0 ∷ 1 ∷ 9 ∷ 3041808985 ∷ 1 ∷ 1 ∷ 1 ∷ 10 ∷ 3041810447 ∷ 1 ∷ 1 ∷ 0 ∷ 10 ∷ 3041810447 ∷ []) ∷ (0 ∷ 0 ∷ 1 ∷ 0 ∷ 0 ∷ 2 ∷ 1 ∷ 0 ∷ 1 ∷ 2 ∷ 2 ∷ 0 ∷ 3 ∷ 2 ∷ 2 ∷ 1 ∷ 0 ∷ 3 ∷ 3 ∷ 2 ∷ 1 ∷ 0 ∷ 0 ∷ 2 ∷ 3 ∷ 0 ∷ 0 ∷ []) ∷ (0 ∷ 3 ∷ 7 ∷ 11 ∷ 15 ∷ 19 ∷ 23 ∷ []) ∷ (0 ∷ 1 ∷ 2 ∷ 4 ∷ 5 ∷ []) ∷ (0 ∷ 2 ∷ 0 ∷ 0 ∷ 1 ∷ 2 ∷ 0 ∷ 0 ∷ 0 ∷ 3 ∷ 1 ∷ 0 ∷ 1 ∷ 3 ∷ 0 ∷ 0 ∷ 0 ∷ 2 ∷ 2 ∷ 0 ∷ 0 ∷ 1 ∷ 4 ∷ 0 ∷ 1 ∷ 1 ∷ 0 ∷ 0 ∷ 0 ∷ 2 ∷ 5 ∷ 0 ∷ 0 ∷ 0 ∷ 7 ∷ 0 ∷ 1 ∷ 0 ∷ 0 ∷ 0 ∷ 3 ∷ 1 ∷ 3 ∷ 0 ∷ 0 ∷ 3 ∷ 8 ∷ 0 ∷ 0 ∷ 1 ∷ 9 ∷ 0 ∷ 1 ∷ 1 ∷ 1 ∷ 0 ∷ 0 ∷ 2 ∷ 10 ∷ 0 ∷ 0 ∷ 3 ∷ 11 ∷ 0 ∷ 0 ∷ 2 ∷ 12 ∷ 0 ∷ []) ∷ ([]) ∷ [])
unfolding step bits bytes crc5_of crc16_of after format_of format_ok format_reason reason_of checked_of transaction_status extract_payload details_of with_type with_detail fresh is_read is_set_configuration is_set_interface kind_by kind_of laid is_whole whole_in whole is_of first_of max_of value_of chunks applied count_set note_of with_max device_after count_after shelf_after row_after setup_group control_group begin_group repeat_group other_group group_status group_update group_early_start group_early_append transaction_update event_update handle_raw_packet handle_event handle_detail finish
run-mixed-32 = refl

run-enumeration-33 :
    Leaves (packet (0x2D ∷ 0x00 ∷ 0x10 ∷ []) 3189905823 ∷ packet (0xC3 ∷ 0x80 ∷ 0x06 ∷ 0x00 ∷ 0x01 ∷ 0x00 ∷ 0x00 ∷ 0x12 ∷ 0x00 ∷ 0xE0 ∷ 0xF4 ∷ []) 3189906631 ∷ packet (0xD2 ∷ []) 3189906700 ∷ packet (0x69 ∷ 0x00 ∷ 0x10 ∷ []) 3189908667 ∷ packet (0x5A ∷ []) 3189909056 ∷ packet (0x69 ∷ 0x00 ∷ 0x10 ∷ []) 3189909102 ∷ packet (0x5A ∷ []) 3189909955 ∷ packet (0x69 ∷ 0x00 ∷ 0x10 ∷ []) 3189911337 ∷ packet (0xC3 ∷ 0xC4 ∷ 0x78 ∷ 0xB8 ∷ 0x3C ∷ 0xBD ∷ 0xCF ∷ 0xFD ∷ 0x4D ∷ 0x95 ∷ 0xDB ∷ []) 3189912922 ∷ packet (0xD2 ∷ []) 3189914011 ∷ packet (0x69 ∷ 0x00 ∷ 0x10 ∷ []) 3189915617 ∷ packet (0xC3 ∷ 0xF6 ∷ 0x4A ∷ 0xD7 ∷ 0x0E ∷ 0x22 ∷ 0x08 ∷ 0x48 ∷ 0x7C ∷ 0x1C ∷ 0xE3 ∷ []) 3189915933 ∷ packet (0xD2 ∷ []) 3189917545 ∷ packet (0x69 ∷ 0x00 ∷ 0x10 ∷ []) 3189917856 ∷ packet (0x5A ∷ []) 3189919139 ∷ packet (0x69 ∷ 0x00 ∷ 0x10 ∷ []) 3189919757 ∷ finishing ∷ [])
    ((45 ∷ 0 ∷ 16 ∷ 195 ∷ 128 ∷ 6 ∷ 0 ∷ 1 ∷ 0 ∷ 0 ∷ 18 ∷ 0 ∷ 224 ∷ 244 ∷ 210 ∷ 105 ∷ 0 ∷ 16 ∷ 90 ∷ 105 ∷ 0 ∷ 16 ∷ 90 ∷ 105 ∷ 0 ∷ 16 ∷ 195 ∷ 196 ∷ 120 ∷ 184 ∷ 60 ∷ 189 ∷ 207 ∷ 253 ∷ 77 ∷ 149 ∷ 219 ∷ 210 ∷ 105 ∷ 0 ∷ 16 ∷ 195 ∷ 246 ∷ 74 ∷ 215 ∷ 14 ∷ 34 ∷ 8 ∷ 72 ∷ 124 ∷ 28 ∷ 227 ∷ 210 ∷ 105 ∷ 0 ∷ 16 ∷ 90 ∷ 105 ∷ 0 ∷ 16 ∷ []) ∷ (0 ∷ []) ∷ (0 ∷ 16 ∷ 0 ∷ 0 ∷ 17 ∷ 0 ∷ 0 ∷ 18 ∷ 0 ∷ 0 ∷ 0 ∷ 0 ∷ []) ∷ (0 ∷ 3189905823 ∷ 3 ∷ 3189906631 ∷ 14 ∷ 3189906700 ∷ 15 ∷ 3189908667 ∷ 18 ∷ 3189909056 ∷ 19 ∷ 3189909102 ∷ 22 ∷ 3189909955 ∷ 23 ∷ 3189911337 ∷ 26 ∷ 3189912922 ∷ 37 ∷ 3189914011 ∷ 38 ∷ 3189915617 ∷ 41 ∷ 3189915933 ∷ 52 ∷ 3189917545 ∷ 53 ∷ 3189917856 ∷ 56 ∷ 3189919139 ∷ 57 ∷ 3189919757 ∷ []) ∷ ([]) ∷ (0 ∷ 0 ∷ 3 ∷ 0 ∷ 5 ∷ 0 ∷ 7 ∷ 0 ∷ 10 ∷ 0 ∷ 13 ∷ 0 ∷ 15 ∷ 0 ∷ []) ∷ (3 ∷ 0 ∷ 1 ∷ 0 ∷ 3189905823 ∷ []) ∷ (0 ∷ 0 ∷ 0 ∷ 1 ∷ []) ∷ (0 ∷ []) ∷ (0 ∷ []) ∷ (0 ∷ 3 ∷ 0 ∷ 0 ∷ 1 ∷ 3 ∷ 0 ∷ 0 ∷ 0 ∷ 3 ∷ 1 ∷ 0 ∷ 0 ∷ 3 ∷ 2 ∷ 0 ∷ 0 ∷ 3 ∷ 3 ∷ 0 ∷ 2 ∷ 3 ∷ 3 ∷ 0 ∷ 0 ∷ 3 ∷ 4 ∷ 0 ∷ 2 ∷ 3 ∷ 4 ∷ 8 ∷ 0 ∷ 3 ∷ 5 ∷ 0 ∷ 0 ∷ 3 ∷ 6 ∷ 0 ∷ []) ∷ ([]) ∷ [])
unfolding step bits bytes crc5_of crc16_of after format_of format_ok format_reason reason_of checked_of transaction_status extract_payload details_of with_type with_detail fresh is_read is_set_configuration is_set_interface kind_by kind_of laid is_whole whole_in whole is_of first_of max_of value_of chunks applied count_set note_of with_max device_after count_after shelf_after row_after setup_group control_group begin_group repeat_group other_group group_status group_update group_early_start group_early_append transaction_update event_update handle_raw_packet handle_event handle_detail finish
run-enumeration-33 = refl

run-bulk-34 :
    Leaves (packet (0xB4 ∷ 0x00 ∷ 0x39 ∷ []) 3654592211 ∷ packet (0x5A ∷ []) 3654593896 ∷ packet (0xE1 ∷ 0x00 ∷ 0x39 ∷ []) 3654594433 ∷ packet (0x4B ∷ 0x34 ∷ 0x9F ∷ 0x43 ∷ 0x5F ∷ 0x6D ∷ 0x68 ∷ 0xEB ∷ 0x60 ∷ 0x13 ∷ 0x5D ∷ 0x12 ∷ 0x41 ∷ 0xD2 ∷ 0xFD ∷ 0x12 ∷ 0xF2 ∷ 0xAD ∷ 0xE3 ∷ []) 3654595098 ∷ packet (0xD2 ∷ []) 3654596053 ∷ packet (0xE1 ∷ 0x00 ∷ 0x39 ∷ []) 3654597708 ∷ packet (0x4B ∷ 0xE7 ∷ 0x51 ∷ 0x83 ∷ 0x55 ∷ 0x9F ∷ 0xFB ∷ 0x08 ∷ 0x7F ∷ 0x5C ∷ 0x89 ∷ 0x38 ∷ 0x22 ∷ 0x7A ∷ 0xC5 ∷ 0x33 ∷ 0xF9 ∷ 0xFD ∷ 0x7C ∷ []) 3654599343 ∷ packet (0xD2 ∷ []) 3654599943 ∷ packet (0xE1 ∷ 0x00 ∷ 0x39 ∷ []) 3654600458 ∷ packet (0x4B ∷ 0xF1 ∷ 0x0C ∷ 0x62 ∷ 0x8B ∷ 0xFB ∷ 0x43 ∷ 0xDA ∷ 0xBF ∷ 0xA5 ∷ 0x6B ∷ 0x0F ∷ 0x8E ∷ 0xA5 ∷ 0x65 ∷ 0x5B ∷ 0x71 ∷ 0x53 ∷ 0x71 ∷ []) 3654601088 ∷ packet (0xD2 ∷ []) 3654602985 ∷ packet (0xE1 ∷ 0x00 ∷ 0x39 ∷ []) 3654604936 ∷ packet (0xC3 ∷ 0x0B ∷ 0x0A ∷ 0x42 ∷ 0x0E ∷ 0x67 ∷ 0xE6 ∷ 0xF6 ∷ 0x8C ∷ 0x04 ∷ 0xE3 ∷ 0x1D ∷ 0xAE ∷ 0x1C ∷ 0x05 ∷ 0x73 ∷ 0x95 ∷ []) 3654606727 ∷ packet (0xD2 ∷ []) 3654607051 ∷ packet (0x69 ∷ 0x82 ∷ 0x18 ∷ []) 3654607503 ∷ packet (0x4B ∷ 0xCB ∷ 0xCD ∷ 0xAA ∷ 0x49 ∷ 0x5D ∷ 0xD0 ∷ 0x57 ∷ 0x52 ∷ 0xD3 ∷ 0xFF ∷ 0x88 ∷ 0x34 ∷ 0x36 ∷ 0x1E ∷ 0x6E ∷ 0x64 ∷ 0x6F ∷ 0xB9 ∷ []) 3654609022 ∷ finishing ∷ [])
    ((180 ∷ 0 ∷ 57 ∷ 90 ∷ 225 ∷ 0 ∷ 57 ∷ 75 ∷ 52 ∷ 159 ∷ 67 ∷ 95 ∷ 109 ∷ 104 ∷ 235 ∷ 96 ∷ 19 ∷ 93 ∷ 18 ∷ 65 ∷ 210 ∷ 253 ∷ 18 ∷ 242 ∷ 173 ∷ 227 ∷ 210 ∷ 225 ∷ 0 ∷ 57 ∷ 75 ∷ 231 ∷ 81 ∷ 131 ∷ 85 ∷ 159 ∷ 251 ∷ 8 ∷ 127 ∷ 92 ∷ 137 ∷ 56 ∷ 34 ∷ 122 ∷ 197 ∷ 51 ∷ 249 ∷ 253 ∷ 124 ∷ 210 ∷ 225 ∷ 0 ∷ 57 ∷ 75 ∷ 241 ∷ 12 ∷ 98 ∷ 139 ∷ 251 ∷ 67 ∷ 218 ∷ 191 ∷ 165 ∷ 107 ∷ 15 ∷ 142 ∷ 165 ∷ 101 ∷ 91 ∷ 113 ∷ 83 ∷ 113 ∷ 210 ∷ 225 ∷ 0 ∷ 57 ∷ 195 ∷ 11 ∷ 10 ∷ 66 ∷ 14 ∷ 103 ∷ 230 ∷ 246 ∷ 140 ∷ 4 ∷ 227 ∷ 29 ∷ 174 ∷ 28 ∷ 5 ∷ 115 ∷ 149 ∷ 210 ∷ 105 ∷ 130 ∷ 24 ∷ 75 ∷ 203 ∷ 205 ∷ 170 ∷ 73 ∷ 93 ∷ 208 ∷ 87 ∷ 82 ∷ 211 ∷ 255 ∷ 136 ∷ 52 ∷ 54 ∷ 30 ∷ 110 ∷ 100 ∷ 111 ∷ 185 ∷ []) ∷ (0 ∷ 2 ∷ []) ∷ (0 ∷ 16 ∷ 0 ∷ 0 ∷ 17 ∷ 0 ∷ 0 ∷ 18 ∷ 0 ∷ 0 ∷ 2 ∷ 0 ∷ 1 ∷ 1 ∷ 1 ∷ []) ∷ (0 ∷ 3654592211 ∷ 3 ∷ 3654593896 ∷ 4 ∷ 3654594433 ∷ 7 ∷ 3654595098 ∷ 26 ∷ 3654596053 ∷ 27 ∷ 3654597708 ∷ 30 ∷ 3654599343 ∷ 49 ∷ 3654599943 ∷ 50 ∷ 3654600458 ∷ 53 ∷ 3654601088 ∷ 72 ∷ 3654602985 ∷ 73 ∷ 3654604936 ∷ 76 ∷ 3654606727 ∷ 93 ∷ 3654607051 ∷ 94 ∷ 3654607503 ∷ 97 ∷ 3654609022 ∷ []) ∷ ([]) ∷ (0 ∷ 0 ∷ 2 ∷ 0 ∷ 5 ∷ 0 ∷ 8 ∷ 0 ∷ 11 ∷ 0 ∷ 14 ∷ 0 ∷ []) ∷ (3 ∷ 0 ∷ 1 ∷ 1 ∷ 3654593896 ∷ 3 ∷ 0 ∷ 0 ∷ 1 ∷ 3654593896 ∷ 3 ∷ 1 ∷ 1 ∷ 2 ∷ 3654594433 ∷ 4 ∷ 0 ∷ 1 ∷ 14 ∷ 3654607503 ∷ []) ∷ (0 ∷ 0 ∷ 0 ∷ 1 ∷ 0 ∷ 0 ∷ 0 ∷ 3 ∷ 0 ∷ 0 ∷ 0 ∷ 1 ∷ 0 ∷ 0 ∷ 0 ∷ 2 ∷ 1 ∷ []) ∷ (0 ∷ 4 ∷ 8 ∷ 12 ∷ []) ∷ (0 ∷ 2 ∷ 3 ∷ []) ∷ (0 ∷ 3 ∷ 0 ∷ 0 ∷ 1 ∷ 3 ∷ 0 ∷ 0 ∷ 0 ∷ 3 ∷ 1 ∷ 0 ∷ 1 ∷ 3 ∷ 1 ∷ 0 ∷ 3 ∷ 3 ∷ 1 ∷ 0 ∷ 2 ∷ 3 ∷ 1 ∷ 0 ∷ 0 ∷ 3 ∷ 2 ∷ 0 ∷ 2 ∷ 3 ∷ 2 ∷ 16 ∷ 0 ∷ 3 ∷ 3 ∷ 0 ∷ 2 ∷ 3 ∷ 3 ∷ 32 ∷ 0 ∷ 3 ∷ 4 ∷ 0 ∷ 2 ∷ 3 ∷ 4 ∷ 48 ∷ 0 ∷ 4 ∷ 5 ∷ 0 ∷ 1 ∷ 4 ∷ 0 ∷ 0 ∷ []) ∷ ([]) ∷ [])
unfolding step bits bytes crc5_of crc16_of after format_of format_ok format_reason reason_of checked_of transaction_status extract_payload details_of with_type with_detail fresh is_read is_set_configuration is_set_interface kind_by kind_of laid is_whole whole_in whole is_of first_of max_of value_of chunks applied count_set note_of with_max device_after count_after shelf_after row_after setup_group control_group begin_group repeat_group other_group group_status group_update group_early_start group_early_append transaction_update event_update handle_raw_packet handle_event handle_detail finish
run-bulk-34 = refl

run-isochronous-35 :
    Leaves (packet (0xA5 ∷ 0x01 ∷ 0xE8 ∷ []) 3752506128 ∷ packet (0xE1 ∷ 0x00 ∷ 0x39 ∷ []) 3752506899 ∷ packet (0x87 ∷ 0xEB ∷ 0x96 ∷ 0x8C ∷ 0xB5 ∷ 0xB2 ∷ 0xD3 ∷ 0x41 ∷ 0x1C ∷ 0x40 ∷ 0xEB ∷ 0xAD ∷ 0x4F ∷ 0x95 ∷ 0xB4 ∷ 0x4A ∷ 0x3F ∷ 0x64 ∷ 0x6E ∷ 0xA2 ∷ 0xD4 ∷ 0x4F ∷ 0x6C ∷ 0x55 ∷ 0x74 ∷ 0x21 ∷ 0x70 ∷ 0xE3 ∷ 0x05 ∷ 0x92 ∷ 0x71 ∷ 0x8A ∷ 0x82 ∷ 0xE4 ∷ 0xE5 ∷ 0xE2 ∷ 0x76 ∷ 0x68 ∷ 0x5D ∷ 0x13 ∷ 0x2E ∷ 0xA7 ∷ 0x30 ∷ 0xBA ∷ 0x76 ∷ 0x2E ∷ 0xF5 ∷ 0x9D ∷ 0x9F ∷ 0x29 ∷ 0xF5 ∷ 0xA3 ∷ 0x27 ∷ 0xBD ∷ 0x77 ∷ 0xAB ∷ 0xBF ∷ 0x46 ∷ 0x74 ∷ 0x36 ∷ 0x78 ∷ 0x96 ∷ 0x11 ∷ 0xF7 ∷ 0x5B ∷ 0xD3 ∷ []) 3752508106 ∷ packet (0xA5 ∷ 0x02 ∷ 0xA8 ∷ []) 3752508208 ∷ packet (0xE1 ∷ 0x00 ∷ 0x39 ∷ []) 3752509188 ∷ packet (0x87 ∷ 0x00 ∷ 0x00 ∷ []) 3752510470 ∷ packet (0xA5 ∷ 0x03 ∷ 0x50 ∷ []) 3752511033 ∷ packet (0xE1 ∷ 0x00 ∷ 0x39 ∷ []) 3752511805 ∷ packet (0x87 ∷ 0x00 ∷ 0x00 ∷ []) 3752512778 ∷ packet (0xA5 ∷ 0x04 ∷ 0x28 ∷ []) 3752512789 ∷ packet (0x69 ∷ 0x81 ∷ 0x58 ∷ []) 3752512815 ∷ packet (0x4B ∷ 0xFA ∷ 0x03 ∷ 0xA5 ∷ 0x04 ∷ 0xB8 ∷ 0x28 ∷ 0x33 ∷ 0xB1 ∷ 0x31 ∷ 0xF1 ∷ 0x58 ∷ 0xA5 ∷ 0xEE ∷ 0xDA ∷ 0x82 ∷ 0x73 ∷ 0xC3 ∷ 0x3A ∷ 0x35 ∷ 0x61 ∷ 0x2B ∷ 0x2E ∷ 0x9D ∷ 0x13 ∷ 0xB1 ∷ 0xFF ∷ 0x7A ∷ 0x5B ∷ 0x11 ∷ 0xE5 ∷ 0x69 ∷ 0x8A ∷ 0x6F ∷ 0xE2 ∷ 0x74 ∷ 0xF5 ∷ 0xC5 ∷ 0xC7 ∷ 0x2A ∷ 0x20 ∷ 0xA8 ∷ 0xD4 ∷ 0xBD ∷ 0xF0 ∷ 0xAD ∷ 0xF1 ∷ 0x87 ∷ 0x86 ∷ 0xF0 ∷ 0x2D ∷ 0x5D ∷ 0x02 ∷ 0xEA ∷ 0xA9 ∷ 0x8D ∷ 0x23 ∷ 0x24 ∷ 0x1B ∷ 0x6F ∷ 0xD8 ∷ 0xB6 ∷ 0xE3 ∷ 0xD7 ∷ 0xC3 ∷ 0xE4 ∷ 0x6C ∷ []) 3752514312 ∷ packet (0xA5 ∷ 0x05 ∷ 0xD0 ∷ []) 3752515672 ∷ packet (0x69 ∷ 0x81 ∷ 0x58 ∷ []) 3752516554 ∷ packet (0x4B ∷ 0xE0 ∷ 0xD9 ∷ 0x24 ∷ 0xF9 ∷ 0x14 ∷ 0x3D ∷ 0x2B ∷ 0xE0 ∷ 0x8B ∷ 0x05 ∷ 0x69 ∷ 0x40 ∷ 0xAA ∷ 0x4E ∷ 0x0C ∷ 0x59 ∷ 0x49 ∷ 0x35 ∷ 0x97 ∷ 0x6F ∷ 0xBB ∷ 0x12 ∷ 0x18 ∷ 0x07 ∷ 0xDA ∷ 0x84 ∷ 0x48 ∷ 0xFB ∷ 0x29 ∷ 0x19 ∷ 0xC0 ∷ 0xAE ∷ 0x7D ∷ 0xCC ∷ 0x4B ∷ 0x4B ∷ 0xBD ∷ 0xB2 ∷ 0x73 ∷ 0xB3 ∷ 0xFE ∷ 0x8D ∷ 0x7C ∷ 0xFF ∷ 0xB8 ∷ 0x4C ∷ 0x5C ∷ 0xE9 ∷ 0x5F ∷ 0xA7 ∷ 0x10 ∷ 0xD9 ∷ 0xAE ∷ 0x0F ∷ 0x44 ∷ 0x80 ∷ 0x18 ∷ 0xDA ∷ 0x72 ∷ 0x6E ∷ 0x9C ∷ 0xB4 ∷ 0xD2 ∷ 0xDC ∷ 0xFE ∷ 0xE5 ∷ 0xE6 ∷ []) 3752517377 ∷ packet (0xA5 ∷ 0x06 ∷ 0x90 ∷ []) 3752518751 ∷ finishing ∷ [])
    ((165 ∷ 1 ∷ 232 ∷ 225 ∷ 0 ∷ 57 ∷ 135 ∷ 235 ∷ 150 ∷ 140 ∷ 181 ∷ 178 ∷ 211 ∷ 65 ∷ 28 ∷ 64 ∷ 235 ∷ 173 ∷ 79 ∷ 149 ∷ 180 ∷ 74 ∷ 63 ∷ 100 ∷ 110 ∷ 162 ∷ 212 ∷ 79 ∷ 108 ∷ 85 ∷ 116 ∷ 33 ∷ 112 ∷ 227 ∷ 5 ∷ 146 ∷ 113 ∷ 138 ∷ 130 ∷ 228 ∷ 229 ∷ 226 ∷ 118 ∷ 104 ∷ 93 ∷ 19 ∷ 46 ∷ 167 ∷ 48 ∷ 186 ∷ 118 ∷ 46 ∷ 245 ∷ 157 ∷ 159 ∷ 41 ∷ 245 ∷ 163 ∷ 39 ∷ 189 ∷ 119 ∷ 171 ∷ 191 ∷ 70 ∷ 116 ∷ 54 ∷ 120 ∷ 150 ∷ 17 ∷ 247 ∷ 91 ∷ 211 ∷ 165 ∷ 2 ∷ 168 ∷ 225 ∷ 0 ∷ 57 ∷ 135 ∷ 0 ∷ 0 ∷ 165 ∷ 3 ∷ 80 ∷ 225 ∷ 0 ∷ 57 ∷ 135 ∷ 0 ∷ 0 ∷ 165 ∷ 4 ∷ 40 ∷ 105 ∷ 129 ∷ 88 ∷ 75 ∷ 250 ∷ 3 ∷ 165 ∷ 4 ∷ 184 ∷ 40 ∷ 51 ∷ 177 ∷ 49 ∷ 241 ∷ 88 ∷ 165 ∷ 238 ∷ 218 ∷ 130 ∷ 115 ∷ 195 ∷ 58 ∷ 53 ∷ 97 ∷ 43 ∷ 46 ∷ 157 ∷ 19 ∷ 177 ∷ 255 ∷ 122 ∷ 91 ∷ 17 ∷ 229 ∷ 105 ∷ 138 ∷ 111 ∷ 226 ∷ 116 ∷ 245 ∷ 197 ∷ 199 ∷ 42 ∷ 32 ∷ 168 ∷ 212 ∷ 189 ∷ 240 ∷ 173 ∷ 241 ∷ 135 ∷ 134 ∷ 240 ∷ 45 ∷ 93 ∷ 2 ∷ 234 ∷ 169 ∷ 141 ∷ 35 ∷ 36 ∷ 27 ∷ 111 ∷ 216 ∷ 182 ∷ 227 ∷ 215 ∷ 195 ∷ 228 ∷ 108 ∷ 165 ∷ 5 ∷ 208 ∷ 105 ∷ 129 ∷ 88 ∷ 75 ∷ 224 ∷ 217 ∷ 36 ∷ 249 ∷ 20 ∷ 61 ∷ 43 ∷ 224 ∷ 139 ∷ 5 ∷ 105 ∷ 64 ∷ 170 ∷ 78 ∷ 12 ∷ 89 ∷ 73 ∷ 53 ∷ 151 ∷ 111 ∷ 187 ∷ 18 ∷ 24 ∷ 7 ∷ 218 ∷ 132 ∷ 72 ∷ 251 ∷ 41 ∷ 25 ∷ 192 ∷ 174 ∷ 125 ∷ 204 ∷ 75 ∷ 75 ∷ 189 ∷ 178 ∷ 115 ∷ 179 ∷ 254 ∷ 141 ∷ 124 ∷ 255 ∷ 184 ∷ 76 ∷ 92 ∷ 233 ∷ 95 ∷ 167 ∷ 16 ∷ 217 ∷ 174 ∷ 15 ∷ 68 ∷ 128 ∷ 24 ∷ 218 ∷ 114 ∷ 110 ∷ 156 ∷ 180 ∷ 210 ∷ 220 ∷ 254 ∷ 229 ∷ 230 ∷ 165 ∷ 6 ∷ 144 ∷ []) ∷ (0 ∷ 1 ∷ []) ∷ (0 ∷ 16 ∷ 0 ∷ 0 ∷ 17 ∷ 0 ∷ 0 ∷ 18 ∷ 0 ∷ 0 ∷ 2 ∷ 0 ∷ 1 ∷ 1 ∷ 1 ∷ []) ∷ (0 ∷ 3752506128 ∷ 3 ∷ 3752506899 ∷ 6 ∷ 3752508106 ∷ 72 ∷ 3752508208 ∷ 75 ∷ 3752509188 ∷ 78 ∷ 3752510470 ∷ 81 ∷ 3752511033 ∷ 84 ∷ 3752511805 ∷ 87 ∷ 3752512778 ∷ 90 ∷ 3752512789 ∷ 93 ∷ 3752512815 ∷ 96 ∷ 3752514312 ∷ 163 ∷ 3752515672 ∷ 166 ∷ 3752516554 ∷ 169 ∷ 3752517377 ∷ 237 ∷ 3752518751 ∷ []) ∷ ([]) ∷ (0 ∷ 0 ∷ 1 ∷ 0 ∷ 2 ∷ 0 ∷ 3 ∷ 0 ∷ 4 ∷ 0 ∷ 5 ∷ 0 ∷ 6 ∷ 0 ∷ 7 ∷ 0 ∷ 8 ∷ 0 ∷ 9 ∷ 0 ∷ 10 ∷ 0 ∷ 12 ∷ 0 ∷ 13 ∷ 0 ∷ 15 ∷ 0 ∷ []) ∷ (2 ∷ 0 ∷ 1 ∷ 0 ∷ 3752506128 ∷ 3 ∷ 0 ∷ 1 ∷ 1 ∷ 3752506899 ∷ 1 ∷ 0 ∷ 1 ∷ 2 ∷ 3752508106 ∷ 1 ∷ 0 ∷ 0 ∷ 2 ∷ 3752508106 ∷ 3 ∷ 1 ∷ 1 ∷ 4 ∷ 3752509188 ∷ 1 ∷ 1 ∷ 1 ∷ 5 ∷ 3752510470 ∷ 1 ∷ 1 ∷ 0 ∷ 5 ∷ 3752510470 ∷ 3 ∷ 2 ∷ 1 ∷ 7 ∷ 3752511805 ∷ 1 ∷ 2 ∷ 1 ∷ 8 ∷ 3752512778 ∷ 1 ∷ 2 ∷ 0 ∷ 8 ∷ 3752512778 ∷ 4 ∷ 0 ∷ 1 ∷ 10 ∷ 3752512815 ∷ []) ∷ (0 ∷ 0 ∷ 1 ∷ 0 ∷ 0 ∷ 2 ∷ 1 ∷ 0 ∷ 1 ∷ 2 ∷ 2 ∷ 0 ∷ 3 ∷ 2 ∷ 2 ∷ 0 ∷ 0 ∷ 2 ∷ 1 ∷ 0 ∷ 1 ∷ 2 ∷ 2 ∷ 0 ∷ 3 ∷ 2 ∷ 2 ∷ 0 ∷ 0 ∷ 2 ∷ 1 ∷ 0 ∷ 1 ∷ 2 ∷ 2 ∷ 0 ∷ 3 ∷ 2 ∷ 2 ∷ 0 ∷ 0 ∷ 2 ∷ 2 ∷ 1 ∷ []) ∷ (0 ∷ 3 ∷ 7 ∷ 11 ∷ 15 ∷ 19 ∷ 23 ∷ 27 ∷ 31 ∷ 35 ∷ 39 ∷ []) ∷ (0 ∷ 1 ∷ 2 ∷ 4 ∷ 5 ∷ 7 ∷ 8 ∷ 10 ∷ []) ∷ (0 ∷ 2 ∷ 0 ∷ 0 ∷ 1 ∷ 2 ∷ 0 ∷ 0 ∷ 0 ∷ 3 ∷ 1 ∷ 0 ∷ 1 ∷ 3 ∷ 0 ∷ 0 ∷ 0 ∷ 1 ∷ 2 ∷ 0 ∷ 1 ∷ 1 ∷ 0 ∷ 0 ∷ 0 ∷ 2 ∷ 3 ∷ 0 ∷ 0 ∷ 3 ∷ 4 ∷ 0 ∷ 1 ∷ 3 ∷ 1 ∷ 0 ∷ 3 ∷ 1 ∷ 3 ∷ 0 ∷ 3 ∷ 3 ∷ 3 ∷ 0 ∷ 0 ∷ 1 ∷ 5 ∷ 0 ∷ 1 ∷ 1 ∷ 1 ∷ 0 ∷ 0 ∷ 2 ∷ 6 ∷ 0 ∷ 0 ∷ 3 ∷ 7 ∷ 0 ∷ 1 ∷ 3 ∷ 2 ∷ 0 ∷ 3 ∷ 1 ∷ 5 ∷ 0 ∷ 3 ∷ 3 ∷ 5 ∷ 0 ∷ 0 ∷ 1 ∷ 8 ∷ 0 ∷ 1 ∷ 1 ∷ 2 ∷ 0 ∷ 0 ∷ 2 ∷ 9 ∷ 0 ∷ 0 ∷ 4 ∷ 10 ∷ 0 ∷ 1 ∷ 4 ∷ 0 ∷ 0 ∷ 3 ∷ 1 ∷ 7 ∷ 0 ∷ 0 ∷ 2 ∷ 11 ∷ 0 ∷ 0 ∷ 4 ∷ 12 ∷ 0 ∷ 0 ∷ 2 ∷ 13 ∷ 0 ∷ []) ∷ ([]) ∷ [])
unfolding step bits bytes crc5_of crc16_of after format_of format_ok format_reason reason_of checked_of transaction_status extract_payload details_of with_type with_detail fresh is_read is_set_configuration is_set_interface kind_by kind_of laid is_whole whole_in whole is_of first_of max_of value_of chunks applied count_set note_of with_max device_after count_after shelf_after row_after setup_group control_group begin_group repeat_group other_group group_status group_update group_early_start group_early_append transaction_update event_update handle_raw_packet handle_event handle_detail finish
run-isochronous-35 = refl

run-interrupt-36 :
    Leaves (packet (0x69 ∷ 0x01 ∷ 0xC1 ∷ []) 119848754 ∷ packet (0x69 ∷ 0x01 ∷ 0xC1 ∷ []) 119849261 ∷ packet (0x5A ∷ []) 119850523 ∷ detail 1 2 1 3 8 ∷ packet (0x69 ∷ 0x01 ∷ 0xC1 ∷ []) 119852349 ∷ packet (0xC3 ∷ 0xE3 ∷ 0x89 ∷ 0xA5 ∷ 0x7A ∷ 0xE3 ∷ 0x06 ∷ []) 119853443 ∷ packet (0xD2 ∷ []) 119855409 ∷ packet (0x69 ∷ 0x01 ∷ 0xC1 ∷ []) 119856193 ∷ packet (0x5A ∷ []) 119856697 ∷ packet (0x69 ∷ 0x01 ∷ 0xC1 ∷ []) 119857830 ∷ packet (0xC3 ∷ 0x60 ∷ 0xAB ∷ 0x26 ∷ 0xDB ∷ 0x66 ∷ 0x46 ∷ 0x6A ∷ 0x9D ∷ 0xD0 ∷ 0x57 ∷ []) 119859113 ∷ packet (0xD2 ∷ []) 119860610 ∷ packet (0x69 ∷ 0x01 ∷ 0xC1 ∷ []) 119862071 ∷ packet (0x69 ∷ 0x01 ∷ 0xC1 ∷ []) 119863683 ∷ packet (0x5A ∷ []) 119865293 ∷ detail 1 2 1 3 8 ∷ finishing ∷ [])
    ((105 ∷ 1 ∷ 193 ∷ 105 ∷ 1 ∷ 193 ∷ 90 ∷ 105 ∷ 1 ∷ 193 ∷ 195 ∷ 227 ∷ 137 ∷ 165 ∷ 122 ∷ 227 ∷ 6 ∷ 210 ∷ 105 ∷ 1 ∷ 193 ∷ 90 ∷ 105 ∷ 1 ∷ 193 ∷ 195 ∷ 96 ∷ 171 ∷ 38 ∷ 219 ∷ 102 ∷ 70 ∷ 106 ∷ 157 ∷ 208 ∷ 87 ∷ 210 ∷ 105 ∷ 1 ∷ 193 ∷ 105 ∷ 1 ∷ 193 ∷ 90 ∷ []) ∷ (0 ∷ 1 ∷ []) ∷ (0 ∷ 16 ∷ 0 ∷ 0 ∷ 17 ∷ 0 ∷ 0 ∷ 18 ∷ 0 ∷ 1 ∷ 2 ∷ 1 ∷ []) ∷ (0 ∷ 119848754 ∷ 3 ∷ 119849261 ∷ 6 ∷ 119850523 ∷ 7 ∷ 119852349 ∷ 10 ∷ 119853443 ∷ 17 ∷ 119855409 ∷ 18 ∷ 119856193 ∷ 21 ∷ 119856697 ∷ 22 ∷ 119857830 ∷ 25 ∷ 119859113 ∷ 36 ∷ 119860610 ∷ 37 ∷ 119862071 ∷ 40 ∷ 119863683 ∷ 43 ∷ 119865293 ∷ []) ∷ ([]) ∷ (0 ∷ 0 ∷ 1 ∷ 0 ∷ 3 ∷ 0 ∷ 6 ∷ 0 ∷ 8 ∷ 0 ∷ 11 ∷ 0 ∷ 12 ∷ 0 ∷ []) ∷ (3 ∷ 0 ∷ 1 ∷ 0 ∷ 119848754 ∷ 3 ∷ 0 ∷ 0 ∷ 5 ∷ 119855409 ∷ 3 ∷ 1 ∷ 1 ∷ 5 ∷ 119855409 ∷ 3 ∷ 1 ∷ 0 ∷ 5 ∷ 119855409 ∷ 3 ∷ 2 ∷ 1 ∷ 6 ∷ 119856193 ∷ 3 ∷ 2 ∷ 0 ∷ 10 ∷ 119860610 ∷ 3 ∷ 3 ∷ 1 ∷ 10 ∷ 119860610 ∷ 3 ∷ 3 ∷ 0 ∷ 13 ∷ 119865293 ∷ 3 ∷ 4 ∷ 1 ∷ 13 ∷ 119865293 ∷ []) ∷ (0 ∷ 0 ∷ 0 ∷ 1 ∷ 0 ∷ 0 ∷ 0 ∷ 3 ∷ 0 ∷ 0 ∷ 0 ∷ 1 ∷ 0 ∷ 0 ∷ 0 ∷ 3 ∷ 0 ∷ 0 ∷ 0 ∷ 1 ∷ 0 ∷ 0 ∷ 0 ∷ 3 ∷ 0 ∷ 0 ∷ 0 ∷ 1 ∷ 0 ∷ 0 ∷ 0 ∷ 3 ∷ 0 ∷ 0 ∷ 0 ∷ 1 ∷ []) ∷ (0 ∷ 4 ∷ 8 ∷ 12 ∷ 16 ∷ 20 ∷ 24 ∷ 28 ∷ 32 ∷ []) ∷ (0 ∷ 2 ∷ 4 ∷ 6 ∷ 8 ∷ []) ∷ (0 ∷ 3 ∷ 0 ∷ 0 ∷ 1 ∷ 3 ∷ 0 ∷ 0 ∷ 0 ∷ 3 ∷ 1 ∷ 0 ∷ 0 ∷ 3 ∷ 2 ∷ 0 ∷ 1 ∷ 3 ∷ 2 ∷ 0 ∷ 3 ∷ 3 ∷ 1 ∷ 0 ∷ 2 ∷ 3 ∷ 2 ∷ 0 ∷ 0 ∷ 3 ∷ 3 ∷ 0 ∷ 1 ∷ 3 ∷ 3 ∷ 0 ∷ 3 ∷ 3 ∷ 2 ∷ 0 ∷ 0 ∷ 3 ∷ 4 ∷ 0 ∷ 1 ∷ 3 ∷ 4 ∷ 0 ∷ 3 ∷ 3 ∷ 3 ∷ 0 ∷ 2 ∷ 3 ∷ 4 ∷ 4 ∷ 0 ∷ 3 ∷ 5 ∷ 0 ∷ 0 ∷ 3 ∷ 6 ∷ 0 ∷ 1 ∷ 3 ∷ 6 ∷ 0 ∷ 3 ∷ 3 ∷ 4 ∷ 0 ∷ []) ∷ ([]) ∷ [])
unfolding step bits bytes crc5_of crc16_of after format_of format_ok format_reason reason_of checked_of transaction_status extract_payload details_of with_type with_detail fresh is_read is_set_configuration is_set_interface kind_by kind_of laid is_whole whole_in whole is_of first_of max_of value_of chunks applied count_set note_of with_max device_after count_after shelf_after row_after setup_group control_group begin_group repeat_group other_group group_status group_update group_early_start group_early_append transaction_update event_update handle_raw_packet handle_event handle_detail finish
run-interrupt-36 = refl

run-split-37 :
    Leaves (packet (0x78 ∷ 0x01 ∷ 0x01 ∷ 0x44 ∷ []) 2089659219 ∷ packet (0xE1 ∷ 0x00 ∷ 0x39 ∷ []) 2089660600 ∷ packet (0xC3 ∷ 0x24 ∷ 0x74 ∷ 0x5F ∷ 0x07 ∷ 0x17 ∷ 0x53 ∷ 0xD2 ∷ 0xA8 ∷ 0x99 ∷ 0xCC ∷ []) 2089661186 ∷ packet (0x78 ∷ 0x81 ∷ 0x01 ∷ 0x9C ∷ []) 2089662356 ∷ packet (0xE1 ∷ 0x00 ∷ 0x39 ∷ []) 2089663087 ∷ packet (0x96 ∷ []) 2089664329 ∷ packet (0x78 ∷ 0x81 ∷ 0x01 ∷ 0x9C ∷ []) 2089665891 ∷ packet (0xE1 ∷ 0x00 ∷ 0x39 ∷ []) 2089666655 ∷ packet (0xD2 ∷ []) 2089668417 ∷ packet (0x78 ∷ 0x81 ∷ 0x01 ∷ 0x9C ∷ []) 2089669572 ∷ packet (0xE1 ∷ 0x00 ∷ 0x39 ∷ []) 2089670313 ∷ packet (0xD2 ∷ []) 2089671588 ∷ packet (0x78 ∷ 0x01 ∷ 0x01 ∷ 0x16 ∷ []) 2089671669 ∷ packet (0xE1 ∷ 0x82 ∷ 0x31 ∷ []) 2089673316 ∷ packet (0x0F ∷ 0xA4 ∷ 0x99 ∷ 0x19 ∷ 0x79 ∷ 0xC6 ∷ 0xB6 ∷ []) 2089673341 ∷ packet (0xD2 ∷ []) 2089673552 ∷ finishing ∷ [])
    ((120 ∷ 1 ∷ 1 ∷ 68 ∷ 225 ∷ 0 ∷ 57 ∷ 195 ∷ 36 ∷ 116 ∷ 95 ∷ 7 ∷ 23 ∷ 83 ∷ 210 ∷ 168 ∷ 153 ∷ 204 ∷ 120 ∷ 129 ∷ 1 ∷ 156 ∷ 225 ∷ 0 ∷ 57 ∷ 150 ∷ 120 ∷ 129 ∷ 1 ∷ 156 ∷ 225 ∷ 0 ∷ 57 ∷ 210 ∷ 120 ∷ 129 ∷ 1 ∷ 156 ∷ 225 ∷ 0 ∷ 57 ∷ 210 ∷ 120 ∷ 1 ∷ 1 ∷ 22 ∷ 225 ∷ 130 ∷ 49 ∷ 15 ∷ 164 ∷ 153 ∷ 25 ∷ 121 ∷ 198 ∷ 182 ∷ 210 ∷ []) ∷ (0 ∷ 2 ∷ []) ∷ (0 ∷ 16 ∷ 0 ∷ 0 ∷ 17 ∷ 0 ∷ 0 ∷ 18 ∷ 0 ∷ 0 ∷ 2 ∷ 0 ∷ 1 ∷ 3 ∷ 0 ∷ []) ∷ (0 ∷ 2089659219 ∷ 4 ∷ 2089660600 ∷ 7 ∷ 2089661186 ∷ 18 ∷ 2089662356 ∷ 22 ∷ 2089663087 ∷ 25 ∷ 2089664329 ∷ 26 ∷ 2089665891 ∷ 30 ∷ 2089666655 ∷ 33 ∷ 2089668417 ∷ 34 ∷ 2089669572 ∷ 38 ∷ 2089670313 ∷ 41 ∷ 2089671588 ∷ 42 ∷ 2089671669 ∷ 46 ∷ 2089673316 ∷ 49 ∷ 2089673341 ∷ 56 ∷ 2089673552 ∷ []) ∷ ([]) ∷ (0 ∷ 0 ∷ 3 ∷ 0 ∷ 4 ∷ 0 ∷ 5 ∷ 0 ∷ 6 ∷ 0 ∷ 8 ∷ 0 ∷ 9 ∷ 0 ∷ 11 ∷ 0 ∷ 12 ∷ 0 ∷ 14 ∷ 0 ∷ 15 ∷ 0 ∷ []) ∷ (3 ∷ 0 ∷ 1 ∷ 4 ∷ 2089663087 ∷ 1 ∷ 0 ∷ 1 ∷ 5 ∷ 2089664329 ∷ 1 ∷ 0 ∷ 0 ∷ 5 ∷ 2089664329 ∷ 1 ∷ 1 ∷ 1 ∷ 8 ∷ 2089668417 ∷ 1 ∷ 1 ∷ 0 ∷ 8 ∷ 2089668417 ∷ 1 ∷ 2 ∷ 1 ∷ 11 ∷ 2089671588 ∷ 1 ∷ 2 ∷ 0 ∷ 11 ∷ 2089671588 ∷ 1 ∷ 3 ∷ 1 ∷ 14 ∷ 2089673341 ∷ 1 ∷ 3 ∷ 0 ∷ 14 ∷ 2089673341 ∷ 1 ∷ 4 ∷ 1 ∷ 15 ∷ 2089673552 ∷ 1 ∷ 4 ∷ 0 ∷ 15 ∷ 2089673552 ∷ []) ∷ (0 ∷ 0 ∷ 0 ∷ 1 ∷ 0 ∷ 1 ∷ 0 ∷ 2 ∷ 0 ∷ 3 ∷ 0 ∷ 2 ∷ 0 ∷ 1 ∷ 0 ∷ 2 ∷ 0 ∷ 3 ∷ 0 ∷ 2 ∷ 0 ∷ 1 ∷ 0 ∷ 2 ∷ 0 ∷ 3 ∷ 0 ∷ 2 ∷ 0 ∷ 1 ∷ 0 ∷ 2 ∷ 0 ∷ 0 ∷ 3 ∷ 0 ∷ 2 ∷ 0 ∷ 0 ∷ 1 ∷ 0 ∷ 2 ∷ 0 ∷ 0 ∷ 3 ∷ 0 ∷ 2 ∷ 0 ∷ []) ∷ (0 ∷ 4 ∷ 8 ∷ 12 ∷ 16 ∷ 20 ∷ 24 ∷ 28 ∷ 33 ∷ 38 ∷ 43 ∷ []) ∷ (0 ∷ 1 ∷ 3 ∷ 5 ∷ 7 ∷ 9 ∷ []) ∷ (0 ∷ 3 ∷ 0 ∷ 0 ∷ 0 ∷ 3 ∷ 2 ∷ 0 ∷ 1 ∷ 3 ∷ 1 ∷ 0 ∷ 0 ∷ 1 ∷ 3 ∷ 0 ∷ 1 ∷ 1 ∷ 0 ∷ 0 ∷ 0 ∷ 3 ∷ 4 ∷ 0 ∷ 0 ∷ 1 ∷ 5 ∷ 0 ∷ 1 ∷ 1 ∷ 1 ∷ 0 ∷ 3 ∷ 1 ∷ 2 ∷ 0 ∷ 0 ∷ 3 ∷ 6 ∷ 0 ∷ 0 ∷ 1 ∷ 7 ∷ 0 ∷ 1 ∷ 1 ∷ 2 ∷ 0 ∷ 3 ∷ 1 ∷ 3 ∷ 0 ∷ 0 ∷ 4 ∷ 8 ∷ 0 ∷ 0 ∷ 1 ∷ 9 ∷ 0 ∷ 1 ∷ 1 ∷ 3 ∷ 0 ∷ 3 ∷ 1 ∷ 4 ∷ 0 ∷ 0 ∷ 1 ∷ 10 ∷ 0 ∷ 1 ∷ 1 ∷ 4 ∷ 0 ∷ 3 ∷ 1 ∷ 5 ∷ 0 ∷ []) ∷ ([]) ∷ [])
unfolding step bits bytes crc5_of crc16_of after format_of format_ok format_reason reason_of checked_of transaction_status extract_payload details_of with_type with_detail fresh is_read is_set_configuration is_set_interface kind_by kind_of laid is_whole whole_in whole is_of first_of max_of value_of chunks applied count_set note_of with_max device_after count_after shelf_after row_after setup_group control_group begin_group repeat_group other_group group_status group_update group_early_start group_early_append transaction_update event_update handle_raw_packet handle_event handle_detail finish
run-split-37 = refl

run-sof-38 :
    Leaves (packet (0xA5 ∷ 0x01 ∷ 0xE8 ∷ []) 380929397 ∷ packet (0xA5 ∷ 0x02 ∷ 0xA8 ∷ []) 380930000 ∷ packet (0xA5 ∷ 0x03 ∷ 0x50 ∷ []) 380931889 ∷ packet (0xA5 ∷ 0x04 ∷ 0x28 ∷ []) 380932262 ∷ packet (0xA5 ∷ 0x05 ∷ 0xD0 ∷ []) 380933693 ∷ packet (0xA5 ∷ 0x06 ∷ 0x90 ∷ []) 380934251 ∷ packet (0x69 ∷ 0x81 ∷ 0x58 ∷ []) 380935987 ∷ packet (0x69 ∷ 0x81 ∷ 0x58 ∷ []) 380936983 ∷ packet (0x5A ∷ []) 380938524 ∷ detail 1 1 1 3 8 ∷ packet (0x69 ∷ 0x81 ∷ 0x58 ∷ []) 380938595 ∷ packet (0x5A ∷ []) 380939479 ∷ packet (0x69 ∷ 0x81 ∷ 0x58 ∷ []) 380940230 ∷ packet (0xC3 ∷ 0x94 ∷ 0xF9 ∷ 0x93 ∷ 0x55 ∷ 0x95 ∷ 0x27 ∷ 0x49 ∷ 0x87 ∷ 0x25 ∷ 0x3E ∷ []) 380940248 ∷ packet (0xD2 ∷ []) 380942044 ∷ packet (0xA5 ∷ 0x07 ∷ 0x68 ∷ []) 380943097 ∷ finishing ∷ [])
    ((165 ∷ 1 ∷ 232 ∷ 165 ∷ 2 ∷ 168 ∷ 165 ∷ 3 ∷ 80 ∷ 165 ∷ 4 ∷ 40 ∷ 165 ∷ 5 ∷ 208 ∷ 165 ∷ 6 ∷ 144 ∷ 105 ∷ 129 ∷ 88 ∷ 105 ∷ 129 ∷ 88 ∷ 90 ∷ 105 ∷ 129 ∷ 88 ∷ 90 ∷ 105 ∷ 129 ∷ 88 ∷ 195 ∷ 148 ∷ 249 ∷ 147 ∷ 85 ∷ 149 ∷ 39 ∷ 73 ∷ 135 ∷ 37 ∷ 62 ∷ 210 ∷ 165 ∷ 7 ∷ 104 ∷ []) ∷ (0 ∷ 1 ∷ []) ∷ (0 ∷ 16 ∷ 0 ∷ 0 ∷ 17 ∷ 0 ∷ 0 ∷ 18 ∷ 0 ∷ 1 ∷ 1 ∷ 1 ∷ []) ∷ (0 ∷ 380929397 ∷ 3 ∷ 380930000 ∷ 6 ∷ 380931889 ∷ 9 ∷ 380932262 ∷ 12 ∷ 380933693 ∷ 15 ∷ 380934251 ∷ 18 ∷ 380935987 ∷ 21 ∷ 380936983 ∷ 24 ∷ 380938524 ∷ 25 ∷ 380938595 ∷ 28 ∷ 380939479 ∷ 29 ∷ 380940230 ∷ 32 ∷ 380940248 ∷ 43 ∷ 380942044 ∷ 44 ∷ 380943097 ∷ []) ∷ ([]) ∷ (0 ∷ 0 ∷ 6 ∷ 0 ∷ 7 ∷ 0 ∷ 9 ∷ 0 ∷ 11 ∷ 0 ∷ 14 ∷ 0 ∷ []) ∷ (2 ∷ 0 ∷ 1 ∷ 0 ∷ 380929397 ∷ 3 ∷ 0 ∷ 1 ∷ 6 ∷ 380935987 ∷ 3 ∷ 0 ∷ 0 ∷ 13 ∷ 380942044 ∷ 3 ∷ 1 ∷ 1 ∷ 13 ∷ 380942044 ∷ []) ∷ (0 ∷ 0 ∷ 1 ∷ 0 ∷ 0 ∷ 2 ∷ 1 ∷ 0 ∷ 0 ∷ 2 ∷ 3 ∷ 0 ∷ 0 ∷ 2 ∷ 1 ∷ []) ∷ (0 ∷ 3 ∷ 7 ∷ 11 ∷ []) ∷ (0 ∷ 1 ∷ 3 ∷ []) ∷ (0 ∷ 2 ∷ 0 ∷ 0 ∷ 1 ∷ 2 ∷ 0 ∷ 0 ∷ 0 ∷ 3 ∷ 1 ∷ 0 ∷ 1 ∷ 3 ∷ 0 ∷ 0 ∷ 0 ∷ 3 ∷ 2 ∷ 0 ∷ 0 ∷ 3 ∷ 3 ∷ 0 ∷ 0 ∷ 3 ∷ 4 ∷ 0 ∷ 1 ∷ 3 ∷ 3 ∷ 0 ∷ 3 ∷ 3 ∷ 2 ∷ 0 ∷ 2 ∷ 3 ∷ 3 ∷ 0 ∷ 0 ∷ 2 ∷ 5 ∷ 0 ∷ []) ∷ ([]) ∷ [])
unfolding step bits bytes crc5_of crc16_of after format_of format_ok format_reason reason_of checked_of transaction_status extract_payload details_of with_type with_detail fresh is_read is_set_configuration is_set_interface kind_by kind_of laid is_whole whole_in whole is_of first_of max_of value_of chunks applied count_set note_of with_max device_after count_after shelf_after row_after setup_group control_group begin_group repeat_group other_group group_status group_update group_early_start group_early_append transaction_update event_update handle_raw_packet handle_event handle_detail finish
run-sof-38 = refl

run-malformed-39 :
    Leaves (packet (0xCB ∷ 0xEA ∷ 0xE2 ∷ 0x5F ∷ 0xD0 ∷ 0xA1 ∷ 0xA1 ∷ 0xDE ∷ 0xB3 ∷ 0xF8 ∷ 0x49 ∷ 0x5F ∷ 0x48 ∷ 0xA9 ∷ []) 3821855260 ∷ packet (0x69 ∷ 0x82 ∷ 0x18 ∷ []) 3821856667 ∷ packet (0xC3 ∷ 0x6A ∷ 0xE4 ∷ 0x1B ∷ 0xE8 ∷ 0x2E ∷ 0x77 ∷ 0xC9 ∷ 0xDF ∷ 0x50 ∷ 0xAB ∷ []) 3821858301 ∷ packet (0xD2 ∷ []) 3821859795 ∷ packet (0x69 ∷ 0x82 ∷ 0x18 ∷ []) 3821860453 ∷ packet (0xC3 ∷ 0x9A ∷ 0x4F ∷ 0xED ∷ 0xC2 ∷ 0x9B ∷ 0xFF ∷ 0x5C ∷ 0xF7 ∷ 0x81 ∷ 0x1D ∷ []) 3821860558 ∷ packet (0xD2 ∷ []) 3821862114 ∷ packet (0x69 ∷ 0x82 ∷ 0x18 ∷ []) 3821862753 ∷ packet (0x4B ∷ 0x9B ∷ 0x9B ∷ 0xD4 ∷ 0xD4 ∷ []) 3821863148 ∷ packet (0xD2 ∷ []) 3821864781 ∷ packet ([]) 3821865330 ∷ packet (0xE1 ∷ 0x81 ∷ 0x58 ∷ []) 3821866955 ∷ packet (0x4B ∷ 0x67 ∷ 0x74 ∷ 0x8B ∷ 0xBE ∷ 0x2F ∷ 0xB2 ∷ 0x46 ∷ 0x8E ∷ 0xE0 ∷ 0x6A ∷ []) 3821867652 ∷ packet (0xD2 ∷ []) 3821868394 ∷ packet (0xE1 ∷ 0x81 ∷ 0x58 ∷ []) 3821869646 ∷ packet (0xC3 ∷ 0x54 ∷ 0x9F ∷ 0xB7 ∷ 0x5F ∷ 0xA5 ∷ 0x69 ∷ 0x1F ∷ 0x6F ∷ 0xE1 ∷ 0x74 ∷ []) 3821870683 ∷ finishing ∷ [])
    ((203 ∷ 234 ∷ 226 ∷ 95 ∷ 208 ∷ 161 ∷ 161 ∷ 222 ∷ 179 ∷ 248 ∷ 73 ∷ 95 ∷ 72 ∷ 169 ∷ 105 ∷ 130 ∷ 24 ∷ 195 ∷ 106 ∷ 228 ∷ 27 ∷ 232 ∷ 46 ∷ 119 ∷ 201 ∷ 223 ∷ 80 ∷ 171 ∷ 210 ∷ 105 ∷ 130 ∷ 24 ∷ 195 ∷ 154 ∷ 79 ∷ 237 ∷ 194 ∷ 155 ∷ 255 ∷ 92 ∷ 247 ∷ 129 ∷ 29 ∷ 210 ∷ 105 ∷ 130 ∷ 24 ∷ 75 ∷ 155 ∷ 155 ∷ 212 ∷ 212 ∷ 210 ∷ 225 ∷ 129 ∷ 88 ∷ 75 ∷ 103 ∷ 116 ∷ 139 ∷ 190 ∷ 47 ∷ 178 ∷ 70 ∷ 142 ∷ 224 ∷ 106 ∷ 210 ∷ 225 ∷ 129 ∷ 88 ∷ 195 ∷ 84 ∷ 159 ∷ 183 ∷ 95 ∷ 165 ∷ 105 ∷ 31 ∷ 111 ∷ 225 ∷ 116 ∷ []) ∷ (0 ∷ 2 ∷ 1 ∷ []) ∷ (0 ∷ 16 ∷ 0 ∷ 0 ∷ 17 ∷ 0 ∷ 0 ∷ 18 ∷ 0 ∷ 1 ∷ 1 ∷ 1 ∷ 2 ∷ 1 ∷ 0 ∷ []) ∷ (0 ∷ 3821855260 ∷ 14 ∷ 3821856667 ∷ 17 ∷ 3821858301 ∷ 28 ∷ 3821859795 ∷ 29 ∷ 3821860453 ∷ 32 ∷ 3821860558 ∷ 43 ∷ 3821862114 ∷ 44 ∷ 3821862753 ∷ 47 ∷ 3821863148 ∷ 52 ∷ 3821864781 ∷ 53 ∷ 3821865330 ∷ 53 ∷ 3821866955 ∷ 56 ∷ 3821867652 ∷ 67 ∷ 3821868394 ∷ 68 ∷ 3821869646 ∷ 71 ∷ 3821870683 ∷ []) ∷ ([]) ∷ (0 ∷ 2 ∷ 1 ∷ 0 ∷ 4 ∷ 0 ∷ 7 ∷ 0 ∷ 10 ∷ 1 ∷ 11 ∷ 0 ∷ 14 ∷ 0 ∷ []) ∷ (1 ∷ 0 ∷ 1 ∷ 0 ∷ 3821855260 ∷ 1 ∷ 0 ∷ 0 ∷ 0 ∷ 3821855260 ∷ 3 ∷ 0 ∷ 1 ∷ 1 ∷ 3821856667 ∷ 1 ∷ 1 ∷ 1 ∷ 10 ∷ 3821865330 ∷ 1 ∷ 1 ∷ 0 ∷ 10 ∷ 3821865330 ∷ 4 ∷ 0 ∷ 1 ∷ 11 ∷ 3821866955 ∷ []) ∷ (0 ∷ 1 ∷ 0 ∷ 0 ∷ 3 ∷ 0 ∷ 0 ∷ 0 ∷ 0 ∷ 1 ∷ 0 ∷ 1 ∷ 0 ∷ 2 ∷ 0 ∷ 3 ∷ 0 ∷ 2 ∷ 0 ∷ 0 ∷ 0 ∷ 2 ∷ 1 ∷ []) ∷ (0 ∷ 3 ∷ 6 ∷ 10 ∷ 14 ∷ 18 ∷ []) ∷ (0 ∷ 2 ∷ 3 ∷ 5 ∷ []) ∷ (0 ∷ 1 ∷ 0 ∷ 0 ∷ 1 ∷ 1 ∷ 0 ∷ 0 ∷ 0 ∷ 3 ∷ 1 ∷ 0 ∷ 1 ∷ 3 ∷ 0 ∷ 0 ∷ 3 ∷ 1 ∷ 1 ∷ 0 ∷ 2 ∷ 3 ∷ 0 ∷ 0 ∷ 0 ∷ 3 ∷ 2 ∷ 0 ∷ 2 ∷ 3 ∷ 1 ∷ 8 ∷ 0 ∷ 3 ∷ 3 ∷ 0 ∷ 2 ∷ 3 ∷ 2 ∷ 16 ∷ 0 ∷ 1 ∷ 4 ∷ 0 ∷ 1 ∷ 1 ∷ 1 ∷ 0 ∷ 0 ∷ 4 ∷ 5 ∷ 0 ∷ 1 ∷ 4 ∷ 0 ∷ 0 ∷ 3 ∷ 1 ∷ 3 ∷ 0 ∷ 2 ∷ 4 ∷ 0 ∷ 0 ∷ 0 ∷ 4 ∷ 6 ∷ 0 ∷ []) ∷ ([]) ∷ [])
unfolding step bits bytes crc5_of crc16_of after format_of format_ok format_reason reason_of checked_of transaction_status extract_payload details_of with_type with_detail fresh is_read is_set_configuration is_set_interface kind_by kind_of laid is_whole whole_in whole is_of first_of max_of value_of chunks applied count_set note_of with_max device_after count_after shelf_after row_after setup_group control_group begin_group repeat_group other_group group_status group_update group_early_start group_early_append transaction_update event_update handle_raw_packet handle_event handle_detail finish
run-malformed-39 = refl

run-event-40 :
    Leaves (event 4 36 211915244 ∷ event 7 170 211916174 ∷ event 4 56 211916527 ∷ event 6 22 211917256 ∷ packet (0x78 ∷ 0x01 ∷ 0x01 ∷ 0x44 ∷ []) 211917629 ∷ packet (0x69 ∷ 0x82 ∷ 0x18 ∷ []) 211918436 ∷ packet (0xD2 ∷ []) 211919869 ∷ packet (0x78 ∷ 0x81 ∷ 0x01 ∷ 0x9C ∷ []) 211920877 ∷ packet (0x69 ∷ 0x82 ∷ 0x18 ∷ []) 211922697 ∷ packet (0x1E ∷ []) 211924353 ∷ event 2 226 211925704 ∷ event 1 42 211926687 ∷ event 4 218 211928146 ∷ event 6 145 211929316 ∷ packet (0xA5 ∷ 0x01 ∷ 0xE8 ∷ []) 211929391 ∷ packet (0xA5 ∷ 0x02 ∷ 0xA8 ∷ []) 211930722 ∷ finishing ∷ [])
    ((120 ∷ 1 ∷ 1 ∷ 68 ∷ 105 ∷ 130 ∷ 24 ∷ 210 ∷ 120 ∷ 129 ∷ 1 ∷ 156 ∷ 105 ∷ 130 ∷ 24 ∷ 30 ∷ 165 ∷ 1 ∷ 232 ∷ 165 ∷ 2 ∷ 168 ∷ []) ∷ (0 ∷ 2 ∷ []) ∷ (0 ∷ 16 ∷ 0 ∷ 0 ∷ 17 ∷ 0 ∷ 0 ∷ 18 ∷ 0 ∷ 1 ∷ 1 ∷ 1 ∷ []) ∷ (0 ∷ 211915244 ∷ 0 ∷ 211916174 ∷ 0 ∷ 211916527 ∷ 0 ∷ 211917256 ∷ 0 ∷ 211917629 ∷ 4 ∷ 211918436 ∷ 7 ∷ 211919869 ∷ 8 ∷ 211920877 ∷ 12 ∷ 211922697 ∷ 15 ∷ 211924353 ∷ 16 ∷ 211925704 ∷ 16 ∷ 211926687 ∷ 16 ∷ 211928146 ∷ 16 ∷ 211929316 ∷ 16 ∷ 211929391 ∷ 19 ∷ 211930722 ∷ []) ∷ (0 ∷ 36 ∷ 1 ∷ 170 ∷ 2 ∷ 56 ∷ 3 ∷ 22 ∷ 10 ∷ 226 ∷ 11 ∷ 42 ∷ 12 ∷ 218 ∷ 13 ∷ 145 ∷ []) ∷ (0 ∷ 0 ∷ 1 ∷ 0 ∷ 2 ∷ 0 ∷ 3 ∷ 0 ∷ 4 ∷ 0 ∷ 7 ∷ 0 ∷ 10 ∷ 0 ∷ 11 ∷ 0 ∷ 12 ∷ 0 ∷ 13 ∷ 0 ∷ 14 ∷ 0 ∷ []) ∷ (0 ∷ 0 ∷ 0 ∷ 0 ∷ 211915244 ∷ 0 ∷ 1 ∷ 0 ∷ 1 ∷ 211916174 ∷ 0 ∷ 2 ∷ 0 ∷ 2 ∷ 211916527 ∷ 0 ∷ 3 ∷ 0 ∷ 3 ∷ 211917256 ∷ 3 ∷ 0 ∷ 1 ∷ 6 ∷ 211919869 ∷ 0 ∷ 4 ∷ 0 ∷ 10 ∷ 211925704 ∷ 0 ∷ 5 ∷ 0 ∷ 11 ∷ 211926687 ∷ 0 ∷ 6 ∷ 1 ∷ 12 ∷ 211928146 ∷ 0 ∷ 7 ∷ 0 ∷ 13 ∷ 211929316 ∷ 2 ∷ 0 ∷ 1 ∷ 14 ∷ 211929391 ∷ []) ∷ (3 ∷ 0 ∷ 0 ∷ 3 ∷ 0 ∷ 0 ∷ 3 ∷ 0 ∷ 0 ∷ 3 ∷ 0 ∷ 0 ∷ 0 ∷ 0 ∷ 0 ∷ 1 ∷ 3 ∷ 0 ∷ 0 ∷ 3 ∷ 3 ∷ 0 ∷ 0 ∷ 0 ∷ 1 ∷ 0 ∷ 0 ∷ 0 ∷ 3 ∷ 0 ∷ 0 ∷ 0 ∷ 0 ∷ 0 ∷ 1 ∷ 0 ∷ []) ∷ (0 ∷ 3 ∷ 6 ∷ 9 ∷ 12 ∷ 16 ∷ 20 ∷ 24 ∷ 28 ∷ 32 ∷ []) ∷ (0 ∷ 1 ∷ 2 ∷ 3 ∷ 4 ∷ 5 ∷ 6 ∷ 7 ∷ 8 ∷ 9 ∷ []) ∷ (0 ∷ 0 ∷ 0 ∷ 0 ∷ 1 ∷ 0 ∷ 0 ∷ 0 ∷ 0 ∷ 0 ∷ 1 ∷ 0 ∷ 1 ∷ 0 ∷ 1 ∷ 0 ∷ 0 ∷ 0 ∷ 2 ∷ 0 ∷ 1 ∷ 0 ∷ 2 ∷ 0 ∷ 0 ∷ 0 ∷ 3 ∷ 0 ∷ 1 ∷ 0 ∷ 3 ∷ 0 ∷ 0 ∷ 3 ∷ 4 ∷ 0 ∷ 1 ∷ 3 ∷ 0 ∷ 0 ∷ 0 ∷ 3 ∷ 5 ∷ 0 ∷ 0 ∷ 0 ∷ 6 ∷ 0 ∷ 1 ∷ 0 ∷ 4 ∷ 0 ∷ 3 ∷ 3 ∷ 5 ∷ 0 ∷ 0 ∷ 0 ∷ 7 ∷ 0 ∷ 1 ∷ 0 ∷ 5 ∷ 0 ∷ 0 ∷ 0 ∷ 8 ∷ 0 ∷ 1 ∷ 0 ∷ 6 ∷ 0 ∷ 0 ∷ 0 ∷ 9 ∷ 0 ∷ 1 ∷ 0 ∷ 7 ∷ 0 ∷ 0 ∷ 2 ∷ 10 ∷ 0 ∷ 1 ∷ 2 ∷ 0 ∷ 0 ∷ []) ∷ ([]) ∷ [])
unfolding step bits bytes crc5_of crc16_of after format_of format_ok format_reason reason_of checked_of transaction_status extract_payload details_of with_type with_detail fresh is_read is_set_configuration is_set_interface kind_by kind_of laid is_whole whole_in whole is_of first_of max_of value_of chunks applied count_set note_of with_max device_after count_after shelf_after row_after setup_group control_group begin_group repeat_group other_group group_status group_update group_early_start group_early_append transaction_update event_update handle_raw_packet handle_event handle_detail finish
run-event-40 = refl

run-chirp-41 :
    Leaves (event 1 129 2839268644 ∷ event 6 50 2839269404 ∷ event 5 63 2839270592 ∷ event 6 63 2839271068 ∷ event 3 209 2839272396 ∷ event 4 74 2839272982 ∷ event 3 131 2839274201 ∷ event 6 243 2839274787 ∷ event 2 242 2839275678 ∷ event 3 41 2839276833 ∷ event 2 178 2839278809 ∷ event 4 188 2839280243 ∷ event 5 190 2839281938 ∷ event 2 178 2839282806 ∷ event 4 103 2839284772 ∷ event 3 75 2839284969 ∷ finishing ∷ [])
    (([]) ∷ (0 ∷ []) ∷ (0 ∷ 16 ∷ 0 ∷ 0 ∷ 17 ∷ 0 ∷ 0 ∷ 18 ∷ 0 ∷ []) ∷ (0 ∷ 2839268644 ∷ 0 ∷ 2839269404 ∷ 0 ∷ 2839270592 ∷ 0 ∷ 2839271068 ∷ 0 ∷ 2839272396 ∷ 0 ∷ 2839272982 ∷ 0 ∷ 2839274201 ∷ 0 ∷ 2839274787 ∷ 0 ∷ 2839275678 ∷ 0 ∷ 2839276833 ∷ 0 ∷ 2839278809 ∷ 0 ∷ 2839280243 ∷ 0 ∷ 2839281938 ∷ 0 ∷ 2839282806 ∷ 0 ∷ 2839284772 ∷ 0 ∷ 2839284969 ∷ []) ∷ (0 ∷ 129 ∷ 1 ∷ 50 ∷ 2 ∷ 63 ∷ 3 ∷ 63 ∷ 4 ∷ 209 ∷ 5 ∷ 74 ∷ 6 ∷ 131 ∷ 7 ∷ 243 ∷ 8 ∷ 242 ∷ 9 ∷ 41 ∷ 10 ∷ 178 ∷ 11 ∷ 188 ∷ 12 ∷ 190 ∷ 13 ∷ 178 ∷ 14 ∷ 103 ∷ 15 ∷ 75 ∷ []) ∷ (0 ∷ 0 ∷ 1 ∷ 0 ∷ 2 ∷ 0 ∷ 3 ∷ 0 ∷ 4 ∷ 0 ∷ 5 ∷ 0 ∷ 6 ∷ 0 ∷ 7 ∷ 0 ∷ 8 ∷ 0 ∷ 9 ∷ 0 ∷ 10 ∷ 0 ∷ 11 ∷ 0 ∷ 12 ∷ 0 ∷ 13 ∷ 0 ∷ 14 ∷ 0 ∷ 15 ∷ 0 ∷ []) ∷ (0 ∷ 0 ∷ 0 ∷ 0 ∷ 2839268644 ∷ 0 ∷ 1 ∷ 0 ∷ 1 ∷ 2839269404 ∷ 0 ∷ 2 ∷ 0 ∷ 2 ∷ 2839270592 ∷ 0 ∷ 3 ∷ 0 ∷ 3 ∷ 2839271068 ∷ 0 ∷ 4 ∷ 0 ∷ 4 ∷ 2839272396 ∷ 0 ∷ 5 ∷ 0 ∷ 5 ∷ 2839272982 ∷ 0 ∷ 6 ∷ 0 ∷ 6 ∷ 2839274201 ∷ 0 ∷ 7 ∷ 0 ∷ 7 ∷ 2839274787 ∷ 0 ∷ 8 ∷ 0 ∷ 8 ∷ 2839275678 ∷ 0 ∷ 9 ∷ 0 ∷ 9 ∷ 2839276833 ∷ 0 ∷ 10 ∷ 0 ∷ 10 ∷ 2839278809 ∷ 0 ∷ 11 ∷ 0 ∷ 11 ∷ 2839280243 ∷ 0 ∷ 12 ∷ 0 ∷ 12 ∷ 2839281938 ∷ 0 ∷ 13 ∷ 0 ∷ 13 ∷ 2839282806 ∷ 0 ∷ 14 ∷ 0 ∷ 14 ∷ 2839284772 ∷ 0 ∷ 15 ∷ 0 ∷ 15 ∷ 2839284969 ∷ []) ∷ (3 ∷ 0 ∷ 0 ∷ 3 ∷ 0 ∷ 0 ∷ 3 ∷ 0 ∷ 0 ∷ 3 ∷ 0 ∷ 0 ∷ 3 ∷ 0 ∷ 0 ∷ 3 ∷ 0 ∷ 0 ∷ 3 ∷ 0 ∷ 0 ∷ 3 ∷ 0 ∷ 0 ∷ 3 ∷ 0 ∷ 0 ∷ 3 ∷ 0 ∷ 0 ∷ 3 ∷ 0 ∷ 0 ∷ 3 ∷ 0 ∷ 0 ∷ 3 ∷ 0 ∷ 0 ∷ 3 ∷ 0 ∷ 0 ∷ 3 ∷ 0 ∷ 0 ∷ 3 ∷ 0 ∷ 0 ∷ []) ∷ (0 ∷ 3 ∷ 6 ∷ 9 ∷ 12 ∷ 15 ∷ 18 ∷ 21 ∷ 24 ∷ 27 ∷ 30 ∷ 33 ∷ 36 ∷ 39 ∷ 42 ∷ 45 ∷ []) ∷ (0 ∷ 1 ∷ 2 ∷ 3 ∷ 4 ∷ 5 ∷ 6 ∷ 7 ∷ 8 ∷ 9 ∷ 10 ∷ 11 ∷ 12 ∷ 13 ∷ 14 ∷ 15 ∷ []) ∷ (0 ∷ 0 ∷ 0 ∷ 0 ∷ 1 ∷ 0 ∷ 0 ∷ 0 ∷ 0 ∷ 0 ∷ 1 ∷ 0 ∷ 1 ∷ 0 ∷ 1 ∷ 0 ∷ 0 ∷ 0 ∷ 2 ∷ 0 ∷ 1 ∷ 0 ∷ 2 ∷ 0 ∷ 0 ∷ 0 ∷ 3 ∷ 0 ∷ 1 ∷ 0 ∷ 3 ∷ 0 ∷ 0 ∷ 0 ∷ 4 ∷ 0 ∷ 1 ∷ 0 ∷ 4 ∷ 0 ∷ 0 ∷ 0 ∷ 5 ∷ 0 ∷ 1 ∷ 0 ∷ 5 ∷ 0 ∷ 0 ∷ 0 ∷ 6 ∷ 0 ∷ 1 ∷ 0 ∷ 6 ∷ 0 ∷ 0 ∷ 0 ∷ 7 ∷ 0 ∷ 1 ∷ 0 ∷ 7 ∷ 0 ∷ 0 ∷ 0 ∷ 8 ∷ 0 ∷ 1 ∷ 0 ∷ 8 ∷ 0 ∷ 0 ∷ 0 ∷ 9 ∷ 0 ∷ 1 ∷ 0 ∷ 9 ∷ 0 ∷ 0 ∷ 0 ∷ 10 ∷ 0 ∷ 1 ∷ 0 ∷ 10 ∷ 0 ∷ 0 ∷ 0 ∷ 11 ∷ 0 ∷ 1 ∷ 0 ∷ 11 ∷ 0 ∷ 0 ∷ 0 ∷ 12 ∷ 0 ∷ 1 ∷ 0 ∷ 12 ∷ 0 ∷ 0 ∷ 0 ∷ 13 ∷ 0 ∷ 1 ∷ 0 ∷ 13 ∷ 0 ∷ 0 ∷ 0 ∷ 14 ∷ 0 ∷ 1 ∷ 0 ∷ 14 ∷ 0 ∷ 0 ∷ 0 ∷ 15 ∷ 0 ∷ 1 ∷ 0 ∷ 15 ∷ 0 ∷ []) ∷ ([]) ∷ [])
unfolding step bits bytes crc5_of crc16_of after format_of format_ok format_reason reason_of checked_of transaction_status extract_payload details_of with_type with_detail fresh is_read is_set_configuration is_set_interface kind_by kind_of laid is_whole whole_in whole is_of first_of max_of value_of chunks applied count_set note_of with_max device_after count_after shelf_after row_after setup_group control_group begin_group repeat_group other_group group_status group_update group_early_start group_early_append transaction_update event_update handle_raw_packet handle_event handle_detail finish
run-chirp-41 = refl

run-keepalive-42 :
    Leaves (packet (0x69 ∷ 0x03 ∷ 0x79 ∷ []) 803959483 ∷ event 0 164 803959488 ∷ packet (0x2D ∷ 0x03 ∷ 0x50 ∷ []) 803960886 ∷ packet (0xC3 ∷ 0x80 ∷ 0x06 ∷ 0x00 ∷ 0x01 ∷ 0x00 ∷ 0x00 ∷ 0x08 ∷ 0x00 ∷ 0xEB ∷ 0x94 ∷ []) 803961842 ∷ packet (0xD2 ∷ []) 803963831 ∷ packet (0x69 ∷ 0x03 ∷ 0x79 ∷ []) 803965472 ∷ packet (0x69 ∷ 0x03 ∷ 0x79 ∷ []) 803966469 ∷ event 0 7 803967480 ∷ event 6 157 803967638 ∷ packet (0xD2 ∷ []) 803968921 ∷ packet (0x69 ∷ 0x81 ∷ 0x58 ∷ []) 803970667 ∷ event 0 140 803971996 ∷ event 0 51 803973446 ∷ packet (0x2D ∷ 0x01 ∷ 0xE8 ∷ []) 803973781 ∷ packet (0xC3 ∷ 0x80 ∷ 0x06 ∷ 0x00 ∷ 0x01 ∷ 0x00 ∷ 0x00 ∷ 0x08 ∷ 0x00 ∷ 0xEB ∷ 0x94 ∷ []) 803975629 ∷ packet (0xD2 ∷ []) 803976216 ∷ finishing ∷ [])
    ((105 ∷ 3 ∷ 121 ∷ 45 ∷ 3 ∷ 80 ∷ 195 ∷ 128 ∷ 6 ∷ 0 ∷ 1 ∷ 0 ∷ 0 ∷ 8 ∷ 0 ∷ 235 ∷ 148 ∷ 210 ∷ 105 ∷ 3 ∷ 121 ∷ 105 ∷ 3 ∷ 121 ∷ 210 ∷ 105 ∷ 129 ∷ 88 ∷ 45 ∷ 1 ∷ 232 ∷ 195 ∷ 128 ∷ 6 ∷ 0 ∷ 1 ∷ 0 ∷ 0 ∷ 8 ∷ 0 ∷ 235 ∷ 148 ∷ 210 ∷ []) ∷ (0 ∷ 3 ∷ 1 ∷ []) ∷ (0 ∷ 16 ∷ 0 ∷ 0 ∷ 17 ∷ 0 ∷ 0 ∷ 18 ∷ 0 ∷ 1 ∷ 2 ∷ 1 ∷ 1 ∷ 0 ∷ 0 ∷ 2 ∷ 1 ∷ 1 ∷ 2 ∷ 0 ∷ 0 ∷ []) ∷ (0 ∷ 803959483 ∷ 3 ∷ 803959488 ∷ 3 ∷ 803960886 ∷ 6 ∷ 803961842 ∷ 17 ∷ 803963831 ∷ 18 ∷ 803965472 ∷ 21 ∷ 803966469 ∷ 24 ∷ 803967480 ∷ 24 ∷ 803967638 ∷ 24 ∷ 803968921 ∷ 25 ∷ 803970667 ∷ 28 ∷ 803971996 ∷ 28 ∷ 803973446 ∷ 28 ∷ 803973781 ∷ 31 ∷ 803975629 ∷ 42 ∷ 803976216 ∷ []) ∷ (1 ∷ 164 ∷ 7 ∷ 7 ∷ 8 ∷ 157 ∷ 11 ∷ 140 ∷ 12 ∷ 51 ∷ []) ∷ (0 ∷ 0 ∷ 1 ∷ 0 ∷ 2 ∷ 0 ∷ 2 ∷ 0 ∷ 5 ∷ 0 ∷ 6 ∷ 0 ∷ 7 ∷ 0 ∷ 8 ∷ 0 ∷ 9 ∷ 0 ∷ 9 ∷ 0 ∷ 10 ∷ 0 ∷ 11 ∷ 0 ∷ 13 ∷ 0 ∷ []) ∷ (3 ∷ 0 ∷ 1 ∷ 0 ∷ 803959483 ∷ 0 ∷ 0 ∷ 1 ∷ 1 ∷ 803959488 ∷ 4 ∷ 0 ∷ 1 ∷ 2 ∷ 803960886 ∷ 0 ∷ 1 ∷ 0 ∷ 8 ∷ 803967638 ∷ 1 ∷ 0 ∷ 1 ∷ 9 ∷ 803968921 ∷ 1 ∷ 0 ∷ 0 ∷ 9 ∷ 803968921 ∷ 5 ∷ 0 ∷ 1 ∷ 10 ∷ 803970667 ∷ 0 ∷ 2 ∷ 1 ∷ 11 ∷ 803971996 ∷ 6 ∷ 0 ∷ 1 ∷ 13 ∷ 803973781 ∷ []) ∷ (0 ∷ 0 ∷ 0 ∷ 1 ∷ 1 ∷ 0 ∷ 0 ∷ 3 ∷ 2 ∷ 0 ∷ 0 ∷ 0 ∷ 1 ∷ 3 ∷ 0 ∷ 0 ∷ 0 ∷ 3 ∷ 0 ∷ 1 ∷ 0 ∷ 0 ∷ 0 ∷ 0 ∷ 3 ∷ 0 ∷ 0 ∷ 0 ∷ 0 ∷ 0 ∷ 0 ∷ 0 ∷ 0 ∷ 1 ∷ 1 ∷ 0 ∷ 0 ∷ 0 ∷ 0 ∷ 3 ∷ 2 ∷ 0 ∷ 0 ∷ 0 ∷ 0 ∷ 0 ∷ 1 ∷ []) ∷ (0 ∷ 4 ∷ 8 ∷ 13 ∷ 18 ∷ 23 ∷ 28 ∷ 34 ∷ 40 ∷ []) ∷ (0 ∷ 1 ∷ 2 ∷ 3 ∷ 4 ∷ 6 ∷ 7 ∷ 8 ∷ []) ∷ (0 ∷ 3 ∷ 0 ∷ 0 ∷ 1 ∷ 3 ∷ 0 ∷ 0 ∷ 0 ∷ 0 ∷ 1 ∷ 0 ∷ 1 ∷ 0 ∷ 0 ∷ 0 ∷ 0 ∷ 3 ∷ 2 ∷ 0 ∷ 0 ∷ 4 ∷ 3 ∷ 0 ∷ 1 ∷ 4 ∷ 0 ∷ 0 ∷ 0 ∷ 3 ∷ 4 ∷ 0 ∷ 0 ∷ 0 ∷ 6 ∷ 0 ∷ 0 ∷ 0 ∷ 7 ∷ 0 ∷ 1 ∷ 0 ∷ 2 ∷ 0 ∷ 3 ∷ 3 ∷ 3 ∷ 0 ∷ 3 ∷ 4 ∷ 3 ∷ 0 ∷ 0 ∷ 3 ∷ 8 ∷ 0 ∷ 0 ∷ 1 ∷ 9 ∷ 0 ∷ 1 ∷ 1 ∷ 0 ∷ 0 ∷ 0 ∷ 5 ∷ 10 ∷ 0 ∷ 1 ∷ 5 ∷ 0 ∷ 0 ∷ 3 ∷ 1 ∷ 5 ∷ 0 ∷ 0 ∷ 0 ∷ 11 ∷ 0 ∷ 1 ∷ 0 ∷ 3 ∷ 0 ∷ 0 ∷ 6 ∷ 12 ∷ 0 ∷ 1 ∷ 6 ∷ 0 ∷ 0 ∷ []) ∷ ([]) ∷ [])
unfolding step bits bytes crc5_of crc16_of after format_of format_ok format_reason reason_of checked_of transaction_status extract_payload details_of with_type with_detail fresh is_read is_set_configuration is_set_interface kind_by kind_of laid is_whole whole_in whole is_of first_of max_of value_of chunks applied count_set note_of with_max device_after count_after shelf_after row_after setup_group control_group begin_group repeat_group other_group group_status group_update group_early_start group_early_append transaction_update event_update handle_raw_packet handle_event handle_detail finish
run-keepalive-42 = refl

run-detail-43 :
    Leaves (packet (0x69 ∷ 0x83 ∷ 0xC9 ∷ []) 3947885392 ∷ packet (0x69 ∷ 0x83 ∷ 0xC9 ∷ []) 3947885466 ∷ packet (0x5A ∷ []) 3947886064 ∷ detail 3 3 1 2 0 ∷ packet (0x69 ∷ 0x83 ∷ 0xC9 ∷ []) 3947886709 ∷ packet (0xC3 ∷ 0xD1 ∷ 0xD2 ∷ 0x0D ∷ 0x6B ∷ 0x68 ∷ 0x2D ∷ 0xD7 ∷ 0xC8 ∷ 0x77 ∷ 0xB2 ∷ []) 3947888007 ∷ packet (0xD2 ∷ []) 3947889090 ∷ packet (0x69 ∷ 0x83 ∷ 0xC9 ∷ []) 3947890982 ∷ packet (0xC3 ∷ 0xC2 ∷ 0xB4 ∷ 0x03 ∷ 0x2D ∷ 0x0D ∷ 0x67 ∷ 0xB5 ∷ 0xBC ∷ 0x5A ∷ 0xFD ∷ 0x77 ∷ 0xB6 ∷ 0xC7 ∷ 0xB2 ∷ 0x04 ∷ 0x76 ∷ 0x7B ∷ 0x12 ∷ 0xB6 ∷ 0x7F ∷ 0x99 ∷ 0x87 ∷ 0x03 ∷ 0x94 ∷ 0x02 ∷ 0xBF ∷ 0x6F ∷ 0xE4 ∷ 0xE4 ∷ 0x72 ∷ 0xCA ∷ 0x05 ∷ 0xAE ∷ 0x2D ∷ 0xD2 ∷ 0xDF ∷ 0x5E ∷ 0x1B ∷ 0x25 ∷ 0xA8 ∷ 0x5E ∷ 0x52 ∷ 0xE1 ∷ 0xE0 ∷ 0xAD ∷ 0x94 ∷ 0x25 ∷ 0xC3 ∷ 0xF2 ∷ 0x63 ∷ 0x07 ∷ 0x7E ∷ 0xB3 ∷ 0x38 ∷ 0xB6 ∷ 0xD3 ∷ 0xDA ∷ 0xFB ∷ 0x03 ∷ 0x56 ∷ 0xCB ∷ 0x93 ∷ 0x14 ∷ 0x4D ∷ 0x51 ∷ []) 3947891314 ∷ packet (0xD2 ∷ []) 3947892690 ∷ packet (0x69 ∷ 0x83 ∷ 0xC9 ∷ []) 3947893709 ∷ packet (0x4B ∷ 0x9D ∷ 0xC3 ∷ 0x36 ∷ 0xF3 ∷ 0x86 ∷ 0x42 ∷ 0xC6 ∷ 0xD4 ∷ 0x5F ∷ 0x2D ∷ []) 3947895122 ∷ packet (0xD2 ∷ []) 3947895677 ∷ packet (0x69 ∷ 0x01 ∷ 0xC1 ∷ []) 3947897300 ∷ packet (0x69 ∷ 0x01 ∷ 0xC1 ∷ []) 3947897873 ∷ packet (0x5A ∷ []) 3947899059 ∷ finishing ∷ [])
    ((105 ∷ 131 ∷ 201 ∷ 105 ∷ 131 ∷ 201 ∷ 90 ∷ 105 ∷ 131 ∷ 201 ∷ 195 ∷ 209 ∷ 210 ∷ 13 ∷ 107 ∷ 104 ∷ 45 ∷ 215 ∷ 200 ∷ 119 ∷ 178 ∷ 210 ∷ 105 ∷ 131 ∷ 201 ∷ 195 ∷ 194 ∷ 180 ∷ 3 ∷ 45 ∷ 13 ∷ 103 ∷ 181 ∷ 188 ∷ 90 ∷ 253 ∷ 119 ∷ 182 ∷ 199 ∷ 178 ∷ 4 ∷ 118 ∷ 123 ∷ 18 ∷ 182 ∷ 127 ∷ 153 ∷ 135 ∷ 3 ∷ 148 ∷ 2 ∷ 191 ∷ 111 ∷ 228 ∷ 228 ∷ 114 ∷ 202 ∷ 5 ∷ 174 ∷ 45 ∷ 210 ∷ 223 ∷ 94 ∷ 27 ∷ 37 ∷ 168 ∷ 94 ∷ 82 ∷ 225 ∷ 224 ∷ 173 ∷ 148 ∷ 37 ∷ 195 ∷ 242 ∷ 99 ∷ 7 ∷ 126 ∷ 179 ∷ 56 ∷ 182 ∷ 211 ∷ 218 ∷ 251 ∷ 3 ∷ 86 ∷ 203 ∷ 147 ∷ 20 ∷ 77 ∷ 81 ∷ 210 ∷ 105 ∷ 131 ∷ 201 ∷ 75 ∷ 157 ∷ 195 ∷ 54 ∷ 243 ∷ 134 ∷ 66 ∷ 198 ∷ 212 ∷ 95 ∷ 45 ∷ 210 ∷ 105 ∷ 1 ∷ 193 ∷ 105 ∷ 1 ∷ 193 ∷ 90 ∷ []) ∷ (0 ∷ 3 ∷ 1 ∷ []) ∷ (0 ∷ 16 ∷ 0 ∷ 0 ∷ 17 ∷ 0 ∷ 0 ∷ 18 ∷ 0 ∷ 1 ∷ 3 ∷ 1 ∷ 2 ∷ 2 ∷ 1 ∷ []) ∷ (0 ∷ 3947885392 ∷ 3 ∷ 3947885466 ∷ 6 ∷ 3947886064 ∷ 7 ∷ 3947886709 ∷ 10 ∷ 3947888007 ∷ 21 ∷ 3947889090 ∷ 22 ∷ 3947890982 ∷ 25 ∷ 3947891314 ∷ 91 ∷ 3947892690 ∷ 92 ∷ 3947893709 ∷ 95 ∷ 3947895122 ∷ 106 ∷ 3947895677 ∷ 107 ∷ 3947897300 ∷ 110 ∷ 3947897873 ∷ 113 ∷ 3947899059 ∷ []) ∷ ([]) ∷ (0 ∷ 0 ∷ 1 ∷ 0 ∷ 3 ∷ 0 ∷ 6 ∷ 0 ∷ 9 ∷ 0 ∷ 12 ∷ 0 ∷ 13 ∷ 0 ∷ []) ∷ (3 ∷ 0 ∷ 1 ∷ 0 ∷ 3947885392 ∷ 3 ∷ 0 ∷ 0 ∷ 5 ∷ 3947889090 ∷ 3 ∷ 1 ∷ 1 ∷ 5 ∷ 3947889090 ∷ 4 ∷ 0 ∷ 1 ∷ 12 ∷ 3947897300 ∷ []) ∷ (0 ∷ 0 ∷ 0 ∷ 1 ∷ 0 ∷ 0 ∷ 0 ∷ 3 ∷ 0 ∷ 0 ∷ 0 ∷ 1 ∷ 0 ∷ 0 ∷ 0 ∷ 2 ∷ 1 ∷ []) ∷ (0 ∷ 4 ∷ 8 ∷ 12 ∷ []) ∷ (0 ∷ 2 ∷ 3 ∷ []) ∷ (0 ∷ 3 ∷ 0 ∷ 0 ∷ 1 ∷ 3 ∷ 0 ∷ 0 ∷ 0 ∷ 3 ∷ 1 ∷ 0 ∷ 0 ∷ 3 ∷ 2 ∷ 0 ∷ 1 ∷ 3 ∷ 2 ∷ 0 ∷ 3 ∷ 3 ∷ 1 ∷ 0 ∷ 2 ∷ 3 ∷ 2 ∷ 0 ∷ 0 ∷ 3 ∷ 3 ∷ 0 ∷ 2 ∷ 3 ∷ 3 ∷ 8 ∷ 0 ∷ 3 ∷ 4 ∷ 0 ∷ 2 ∷ 3 ∷ 4 ∷ 71 ∷ 0 ∷ 4 ∷ 5 ∷ 0 ∷ 1 ∷ 4 ∷ 0 ∷ 0 ∷ 0 ∷ 4 ∷ 6 ∷ 0 ∷ []) ∷ ([]) ∷ [])
unfolding step bits bytes crc5_of crc16_of after format_of format_ok format_reason reason_of checked_of transaction_status extract_payload details_of with_type with_detail fresh is_read is_set_configuration is_set_interface kind_by kind_of laid is_whole whole_in whole is_of first_of max_of value_of chunks applied count_set note_of with_max device_after count_after shelf_after row_after setup_group control_group begin_group repeat_group other_group group_status group_update group_early_start group_early_append transaction_update event_update handle_raw_packet handle_event handle_detail finish
run-detail-43 = refl

run-address-44 :
    Leaves (packet (0x2D ∷ 0x00 ∷ 0x10 ∷ []) 697980306 ∷ packet (0xC3 ∷ 0x00 ∷ 0x05 ∷ 0x80 ∷ 0x00 ∷ 0x00 ∷ 0x00 ∷ 0x00 ∷ 0x00 ∷ 0xF5 ∷ 0x34 ∷ []) 697981388 ∷ packet (0xD2 ∷ []) 697982463 ∷ packet (0x69 ∷ 0x00 ∷ 0x10 ∷ []) 697982701 ∷ packet (0x4B ∷ 0x00 ∷ 0x00 ∷ []) 697983717 ∷ packet (0xD2 ∷ []) 697985094 ∷ packet (0x69 ∷ 0x01 ∷ 0xE8 ∷ []) 697986012 ∷ packet (0x5A ∷ []) 697987720 ∷ packet (0x2D ∷ 0x00 ∷ 0x10 ∷ []) 697988042 ∷ packet (0xC3 ∷ 0x00 ∷ 0x05 ∷ 0x00 ∷ 0x01 ∷ 0x00 ∷ 0x00 ∷ 0x08 ∷ 0x00 ∷ 0xD0 ∷ 0xF4 ∷ []) 697988657 ∷ packet (0xD2 ∷ []) 697989465 ∷ packet (0xE1 ∷ 0x00 ∷ 0x10 ∷ []) 697990626 ∷ packet (0x4B ∷ 0x16 ∷ 0xEE ∷ 0xF6 ∷ 0x79 ∷ 0xBE ∷ 0x49 ∷ 0xB7 ∷ 0x41 ∷ 0xFB ∷ 0xBE ∷ []) 697991136 ∷ packet (0x5A ∷ []) 697992801 ∷ packet (0xE1 ∷ 0x00 ∷ 0x10 ∷ []) 697993039 ∷ packet (0xC3 ∷ 0x16 ∷ 0xEE ∷ 0xF6 ∷ 0x79 ∷ 0xBE ∷ 0x49 ∷ 0xB7 ∷ 0x41 ∷ 0xFB ∷ 0xBE ∷ []) 697993987 ∷ finishing ∷ [])
    ((45 ∷ 0 ∷ 16 ∷ 195 ∷ 0 ∷ 5 ∷ 128 ∷ 0 ∷ 0 ∷ 0 ∷ 0 ∷ 0 ∷ 245 ∷ 52 ∷ 210 ∷ 105 ∷ 0 ∷ 16 ∷ 75 ∷ 0 ∷ 0 ∷ 210 ∷ 105 ∷ 1 ∷ 232 ∷ 90 ∷ 45 ∷ 0 ∷ 16 ∷ 195 ∷ 0 ∷ 5 ∷ 0 ∷ 1 ∷ 0 ∷ 0 ∷ 8 ∷ 0 ∷ 208 ∷ 244 ∷ 210 ∷ 225 ∷ 0 ∷ 16 ∷ 75 ∷ 22 ∷ 238 ∷ 246 ∷ 121 ∷ 190 ∷ 73 ∷ 183 ∷ 65 ∷ 251 ∷ 190 ∷ 90 ∷ 225 ∷ 0 ∷ 16 ∷ 195 ∷ 22 ∷ 238 ∷ 246 ∷ 121 ∷ 190 ∷ 73 ∷ 183 ∷ 65 ∷ 251 ∷ 190 ∷ []) ∷ (0 ∷ 128 ∷ 1 ∷ []) ∷ (0 ∷ 16 ∷ 0 ∷ 0 ∷ 17 ∷ 0 ∷ 0 ∷ 18 ∷ 0 ∷ 0 ∷ 0 ∷ 0 ∷ 2 ∷ 0 ∷ 0 ∷ []) ∷ (0 ∷ 697980306 ∷ 3 ∷ 697981388 ∷ 14 ∷ 697982463 ∷ 15 ∷ 697982701 ∷ 18 ∷ 697983717 ∷ 21 ∷ 697985094 ∷ 22 ∷ 697986012 ∷ 25 ∷ 697987720 ∷ 26 ∷ 697988042 ∷ 29 ∷ 697988657 ∷ 40 ∷ 697989465 ∷ 41 ∷ 697990626 ∷ 44 ∷ 697991136 ∷ 55 ∷ 697992801 ∷ 56 ∷ 697993039 ∷ 59 ∷ 697993987 ∷ []) ∷ ([]) ∷ (0 ∷ 0 ∷ 3 ∷ 0 ∷ 6 ∷ 0 ∷ 8 ∷ 0 ∷ 11 ∷ 0 ∷ 14 ∷ 0 ∷ []) ∷ (3 ∷ 0 ∷ 1 ∷ 0 ∷ 697980306 ∷ 3 ∷ 0 ∷ 0 ∷ 5 ∷ 697985094 ∷ 4 ∷ 0 ∷ 1 ∷ 6 ∷ 697986012 ∷ 3 ∷ 1 ∷ 1 ∷ 8 ∷ 697988042 ∷ []) ∷ (0 ∷ 0 ∷ 0 ∷ 1 ∷ 0 ∷ 0 ∷ 0 ∷ 3 ∷ 0 ∷ 0 ∷ 0 ∷ 0 ∷ 1 ∷ 0 ∷ 0 ∷ 0 ∷ 1 ∷ 2 ∷ []) ∷ (0 ∷ 4 ∷ 8 ∷ 13 ∷ []) ∷ (0 ∷ 2 ∷ 3 ∷ []) ∷ (0 ∷ 3 ∷ 0 ∷ 0 ∷ 1 ∷ 3 ∷ 0 ∷ 0 ∷ 0 ∷ 3 ∷ 1 ∷ 0 ∷ 0 ∷ 4 ∷ 2 ∷ 0 ∷ 1 ∷ 4 ∷ 0 ∷ 0 ∷ 3 ∷ 3 ∷ 1 ∷ 0 ∷ 0 ∷ 3 ∷ 3 ∷ 0 ∷ 1 ∷ 3 ∷ 2 ∷ 0 ∷ 0 ∷ 3 ∷ 4 ∷ 0 ∷ 0 ∷ 3 ∷ 5 ∷ 0 ∷ []) ∷ ([]) ∷ [])
unfolding step bits bytes crc5_of crc16_of after format_of format_ok format_reason reason_of checked_of transaction_status extract_payload details_of with_type with_detail fresh is_read is_set_configuration is_set_interface kind_by kind_of laid is_whole whole_in whole is_of first_of max_of value_of chunks applied count_set note_of with_max device_after count_after shelf_after row_after setup_group control_group begin_group repeat_group other_group group_status group_update group_early_start group_early_append transaction_update event_update handle_raw_packet handle_event handle_detail finish
run-address-44 = refl

run-time-45 :
    Leaves (packet (0xA5 ∷ 0x01 ∷ 0xE8 ∷ []) 2361370334 ∷ packet (0xA5 ∷ 0x02 ∷ 0xA8 ∷ []) 2361371090 ∷ packet (0xA5 ∷ 0x03 ∷ 0x50 ∷ []) 2361372515 ∷ packet (0xA5 ∷ 0x04 ∷ 0x28 ∷ []) 2361373590 ∷ packet (0xA5 ∷ 0x05 ∷ 0xD0 ∷ []) 6656338525 ∷ packet (0xA5 ∷ 0x06 ∷ 0x90 ∷ []) 10951302217 ∷ packet (0xA5 ∷ 0x07 ∷ 0x68 ∷ []) 10951302464 ∷ packet (0x69 ∷ 0x00 ∷ 0x39 ∷ []) 10951302478 ∷ packet (0x5A ∷ []) 10951303580 ∷ packet (0x69 ∷ 0x00 ∷ 0x39 ∷ []) 10951303772 ∷ packet (0xC3 ∷ 0x96 ∷ 0x82 ∷ 0xB3 ∷ 0x82 ∷ 0x87 ∷ 0x2A ∷ []) 10951303956 ∷ packet (0xD2 ∷ []) 10951304921 ∷ packet (0x69 ∷ 0x00 ∷ 0x39 ∷ []) 10951305601 ∷ packet (0x5A ∷ []) 10951306968 ∷ packet (0x69 ∷ 0x00 ∷ 0x39 ∷ []) 10951308044 ∷ packet (0x5A ∷ []) 10951309884 ∷ finishing ∷ [])
    ((165 ∷ 1 ∷ 232 ∷ 165 ∷ 2 ∷ 168 ∷ 165 ∷ 3 ∷ 80 ∷ 165 ∷ 4 ∷ 40 ∷ 165 ∷ 5 ∷ 208 ∷ 165 ∷ 6 ∷ 144 ∷ 165 ∷ 7 ∷ 104 ∷ 105 ∷ 0 ∷ 57 ∷ 90 ∷ 105 ∷ 0 ∷ 57 ∷ 195 ∷ 150 ∷ 130 ∷ 179 ∷ 130 ∷ 135 ∷ 42 ∷ 210 ∷ 105 ∷ 0 ∷ 57 ∷ 90 ∷ 105 ∷ 0 ∷ 57 ∷ 90 ∷ []) ∷ (0 ∷ []) ∷ (0 ∷ 16 ∷ 0 ∷ 0 ∷ 17 ∷ 0 ∷ 0 ∷ 18 ∷ 0 ∷ 0 ∷ 2 ∷ 1 ∷ []) ∷ (0 ∷ 2361370334 ∷ 3 ∷ 2361371090 ∷ 6 ∷ 2361372515 ∷ 9 ∷ 2361373590 ∷ 12 ∷ 6656338525 ∷ 15 ∷ 10951302217 ∷ 18 ∷ 10951302464 ∷ 21 ∷ 10951302478 ∷ 24 ∷ 10951303580 ∷ 25 ∷ 10951303772 ∷ 28 ∷ 10951303956 ∷ 35 ∷ 10951304921 ∷ 36 ∷ 10951305601 ∷ 39 ∷ 10951306968 ∷ 40 ∷ 10951308044 ∷ 43 ∷ 10951309884 ∷ []) ∷ ([]) ∷ (0 ∷ 0 ∷ 7 ∷ 0 ∷ 9 ∷ 0 ∷ 12 ∷ 0 ∷ 14 ∷ 0 ∷ []) ∷ (2 ∷ 0 ∷ 1 ∷ 0 ∷ 2361370334 ∷ 3 ∷ 0 ∷ 1 ∷ 7 ∷ 10951302478 ∷ 3 ∷ 0 ∷ 0 ∷ 11 ∷ 10951304921 ∷ 3 ∷ 1 ∷ 1 ∷ 11 ∷ 10951304921 ∷ 3 ∷ 1 ∷ 0 ∷ 13 ∷ 10951306968 ∷ 3 ∷ 2 ∷ 1 ∷ 13 ∷ 10951306968 ∷ []) ∷ (0 ∷ 0 ∷ 1 ∷ 0 ∷ 0 ∷ 2 ∷ 1 ∷ 0 ∷ 0 ∷ 2 ∷ 3 ∷ 0 ∷ 0 ∷ 2 ∷ 1 ∷ 0 ∷ 0 ∷ 2 ∷ 3 ∷ 0 ∷ 0 ∷ 2 ∷ 1 ∷ []) ∷ (0 ∷ 3 ∷ 7 ∷ 11 ∷ 15 ∷ 19 ∷ []) ∷ (0 ∷ 1 ∷ 3 ∷ 5 ∷ []) ∷ (0 ∷ 2 ∷ 0 ∷ 0 ∷ 1 ∷ 2 ∷ 0 ∷ 0 ∷ 0 ∷ 3 ∷ 1 ∷ 0 ∷ 1 ∷ 3 ∷ 0 ∷ 0 ∷ 0 ∷ 3 ∷ 2 ∷ 0 ∷ 1 ∷ 3 ∷ 1 ∷ 0 ∷ 3 ∷ 3 ∷ 2 ∷ 0 ∷ 2 ∷ 3 ∷ 1 ∷ 0 ∷ 0 ∷ 3 ∷ 3 ∷ 0 ∷ 1 ∷ 3 ∷ 2 ∷ 0 ∷ 3 ∷ 3 ∷ 3 ∷ 0 ∷ 0 ∷ 3 ∷ 4 ∷ 0 ∷ []) ∷ ([]) ∷ [])
unfolding step bits bytes crc5_of crc16_of after format_of format_ok format_reason reason_of checked_of transaction_status extract_payload details_of with_type with_detail fresh is_read is_set_configuration is_set_interface kind_by kind_of laid is_whole whole_in whole is_of first_of max_of value_of chunks applied count_set note_of with_max device_after count_after shelf_after row_after setup_group control_group begin_group repeat_group other_group group_status group_update group_early_start group_early_append transaction_update event_update handle_raw_packet handle_event handle_detail finish
run-time-45 = refl

run-refused-46 :
    Leaves (packet (0x69 ∷ 0x82 ∷ 0x31 ∷ []) 773993096 ∷ packet (0x4B ∷ 0xE3 ∷ 0x06 ∷ 0x6E ∷ 0xD1 ∷ 0x4D ∷ 0x74 ∷ 0xE5 ∷ 0x2C ∷ 0x7D ∷ 0xB7 ∷ 0xD3 ∷ 0x92 ∷ 0x67 ∷ 0x70 ∷ 0xBB ∷ 0x36 ∷ 0x50 ∷ 0xD1 ∷ []) 773994438 ∷ packet (0x96 ∷ []) 773995998 ∷ packet (0x69 ∷ 0x82 ∷ 0x31 ∷ []) 773997924 ∷ packet (0xC3 ∷ 0x12 ∷ 0x33 ∷ 0xD2 ∷ 0x71 ∷ 0xE6 ∷ 0x0C ∷ 0x41 ∷ 0xE9 ∷ 0x21 ∷ 0x0D ∷ 0x35 ∷ 0x79 ∷ 0x9E ∷ 0xB7 ∷ 0x40 ∷ 0x53 ∷ 0xBD ∷ []) 773999298 ∷ packet (0xD2 ∷ []) 774000822 ∷ detail 2 2 0 1 64 ∷ packet (0xE1 ∷ 0x80 ∷ 0xA0 ∷ []) 774001076 ∷ packet (0xC3 ∷ 0xAE ∷ 0x0D ∷ 0x7D ∷ 0x42 ∷ 0xC2 ∷ 0x6D ∷ 0x43 ∷ 0x38 ∷ 0x7E ∷ 0x6C ∷ 0x81 ∷ 0xAB ∷ 0x47 ∷ 0x18 ∷ 0xEA ∷ 0xEE ∷ 0xEC ∷ 0x9A ∷ 0x74 ∷ 0xAA ∷ 0x59 ∷ 0xB4 ∷ 0xA3 ∷ 0xF8 ∷ 0xC4 ∷ 0x67 ∷ 0xA5 ∷ 0xC4 ∷ 0xE2 ∷ 0x9A ∷ 0x13 ∷ 0x44 ∷ 0x98 ∷ 0x0C ∷ 0xA0 ∷ 0xC5 ∷ 0x95 ∷ 0x71 ∷ 0x8E ∷ 0x05 ∷ 0xCB ∷ 0x2D ∷ 0x91 ∷ 0x13 ∷ 0x3C ∷ 0x9C ∷ 0x6C ∷ 0x8F ∷ 0xBA ∷ 0xFE ∷ 0x0D ∷ 0x4C ∷ 0x13 ∷ 0x50 ∷ 0xE1 ∷ 0x19 ∷ 0x94 ∷ 0xDF ∷ 0x71 ∷ 0x8A ∷ 0x73 ∷ 0xE9 ∷ 0x59 ∷ 0xF5 ∷ 0x4A ∷ 0x2C ∷ []) 774001706 ∷ packet (0xD2 ∷ []) 774003357 ∷ packet (0xE1 ∷ 0x80 ∷ 0xA0 ∷ []) 774004373 ∷ packet (0x4B ∷ 0x9C ∷ 0xD1 ∷ 0x64 ∷ 0x30 ∷ 0x5E ∷ 0x5E ∷ 0x4C ∷ 0x17 ∷ 0x23 ∷ 0x12 ∷ 0x58 ∷ 0x2C ∷ 0x0F ∷ 0x1F ∷ 0x5D ∷ 0xDC ∷ 0x30 ∷ 0x14 ∷ 0xF7 ∷ 0xDC ∷ 0xAF ∷ 0x64 ∷ 0x82 ∷ 0x7F ∷ 0x5A ∷ 0xD9 ∷ 0xE2 ∷ 0x9F ∷ 0x5D ∷ 0xBA ∷ 0xF9 ∷ 0x70 ∷ 0x02 ∷ 0x73 ∷ 0x8E ∷ 0xA4 ∷ 0x53 ∷ 0xC9 ∷ 0x91 ∷ 0xBA ∷ 0x5C ∷ 0x75 ∷ 0x83 ∷ 0x6A ∷ 0x58 ∷ 0x97 ∷ 0x13 ∷ 0x1B ∷ 0xD7 ∷ 0xD9 ∷ 0xBE ∷ 0x5E ∷ 0x49 ∷ 0x6F ∷ 0xBE ∷ 0xDA ∷ 0xF7 ∷ 0xE7 ∷ 0x81 ∷ 0x05 ∷ 0x9D ∷ 0x66 ∷ 0x6A ∷ 0xDE ∷ 0xC2 ∷ 0x15 ∷ []) 774005533 ∷ packet (0xD2 ∷ []) 774006690 ∷ packet (0xE1 ∷ 0x80 ∷ 0xA0 ∷ []) 774007393 ∷ packet (0x4B ∷ 0x1F ∷ 0x0D ∷ 0x4E ∷ 0x37 ∷ 0x53 ∷ 0x57 ∷ 0xB9 ∷ 0x78 ∷ 0x44 ∷ 0xF8 ∷ 0x98 ∷ 0x1D ∷ 0xBA ∷ 0xFC ∷ 0x51 ∷ 0x88 ∷ 0x38 ∷ 0x80 ∷ 0x55 ∷ 0x2A ∷ 0x18 ∷ 0xBF ∷ 0x32 ∷ 0x1D ∷ 0x61 ∷ 0xBF ∷ 0xC7 ∷ 0xBD ∷ 0xF4 ∷ 0x14 ∷ 0xCF ∷ 0x25 ∷ 0xA2 ∷ 0xC4 ∷ 0x87 ∷ 0xF7 ∷ 0x6C ∷ 0x4A ∷ 0xCF ∷ 0x5E ∷ 0x6F ∷ 0x3A ∷ 0x90 ∷ 0xF0 ∷ 0x15 ∷ 0xD2 ∷ 0xA0 ∷ 0xBD ∷ 0x26 ∷ 0xC5 ∷ 0x69 ∷ 0xDF ∷ 0x8A ∷ 0x46 ∷ 0xFC ∷ 0xD6 ∷ 0x29 ∷ 0x1D ∷ 0x69 ∷ 0xAC ∷ 0x41 ∷ 0xB5 ∷ 0xF9 ∷ 0x8E ∷ 0xEC ∷ 0xBF ∷ []) 774008321 ∷ finishing ∷ [])
    ((105 ∷ 130 ∷ 49 ∷ 75 ∷ 227 ∷ 6 ∷ 110 ∷ 209 ∷ 77 ∷ 116 ∷ 229 ∷ 44 ∷ 125 ∷ 183 ∷ 211 ∷ 146 ∷ 103 ∷ 112 ∷ 187 ∷ 54 ∷ 80 ∷ 209 ∷ 150 ∷ 105 ∷ 130 ∷ 49 ∷ 195 ∷ 18 ∷ 51 ∷ 210 ∷ 113 ∷ 230 ∷ 12 ∷ 65 ∷ 233 ∷ 33 ∷ 13 ∷ 53 ∷ 121 ∷ 158 ∷ 183 ∷ 64 ∷ 83 ∷ 189 ∷ 210 ∷ 225 ∷ 128 ∷ 160 ∷ 195 ∷ 174 ∷ 13 ∷ 125 ∷ 66 ∷ 194 ∷ 109 ∷ 67 ∷ 56 ∷ 126 ∷ 108 ∷ 129 ∷ 171 ∷ 71 ∷ 24 ∷ 234 ∷ 238 ∷ 236 ∷ 154 ∷ 116 ∷ 170 ∷ 89 ∷ 180 ∷ 163 ∷ 248 ∷ 196 ∷ 103 ∷ 165 ∷ 196 ∷ 226 ∷ 154 ∷ 19 ∷ 68 ∷ 152 ∷ 12 ∷ 160 ∷ 197 ∷ 149 ∷ 113 ∷ 142 ∷ 5 ∷ 203 ∷ 45 ∷ 145 ∷ 19 ∷ 60 ∷ 156 ∷ 108 ∷ 143 ∷ 186 ∷ 254 ∷ 13 ∷ 76 ∷ 19 ∷ 80 ∷ 225 ∷ 25 ∷ 148 ∷ 223 ∷ 113 ∷ 138 ∷ 115 ∷ 233 ∷ 89 ∷ 245 ∷ 74 ∷ 44 ∷ 210 ∷ 225 ∷ 128 ∷ 160 ∷ 75 ∷ 156 ∷ 209 ∷ 100 ∷ 48 ∷ 94 ∷ 94 ∷ 76 ∷ 23 ∷ 35 ∷ 18 ∷ 88 ∷ 44 ∷ 15 ∷ 31 ∷ 93 ∷ 220 ∷ 48 ∷ 20 ∷ 247 ∷ 220 ∷ 175 ∷ 100 ∷ 130 ∷ 127 ∷ 90 ∷ 217 ∷ 226 ∷ 159 ∷ 93 ∷ 186 ∷ 249 ∷ 112 ∷ 2 ∷ 115 ∷ 142 ∷ 164 ∷ 83 ∷ 201 ∷ 145 ∷ 186 ∷ 92 ∷ 117 ∷ 131 ∷ 106 ∷ 88 ∷ 151 ∷ 19 ∷ 27 ∷ 215 ∷ 217 ∷ 190 ∷ 94 ∷ 73 ∷ 111 ∷ 190 ∷ 218 ∷ 247 ∷ 231 ∷ 129 ∷ 5 ∷ 157 ∷ 102 ∷ 106 ∷ 222 ∷ 194 ∷ 21 ∷ 210 ∷ 225 ∷ 128 ∷ 160 ∷ 75 ∷ 31 ∷ 13 ∷ 78 ∷ 55 ∷ 83 ∷ 87 ∷ 185 ∷ 120 ∷ 68 ∷ 248 ∷ 152 ∷ 29 ∷ 186 ∷ 252 ∷ 81 ∷ 136 ∷ 56 ∷ 128 ∷ 85 ∷ 42 ∷ 24 ∷ 191 ∷ 50 ∷ 29 ∷ 97 ∷ 191 ∷ 199 ∷ 189 ∷ 244 ∷ 20 ∷ 207 ∷ 37 ∷ 162 ∷ 196 ∷ 135 ∷ 247 ∷ 108 ∷ 74 ∷ 207 ∷ 94 ∷ 111 ∷ 58 ∷ 144 ∷ 240 ∷ 21 ∷ 210 ∷ 160 ∷ 189 ∷ 38 ∷ 197 ∷ 105 ∷ 223 ∷ 138 ∷ 70 ∷ 252 ∷ 214 ∷ 41 ∷ 29 ∷ 105 ∷ 172 ∷ 65 ∷ 181 ∷ 249 ∷ 142 ∷ 236 ∷ 191 ∷ []) ∷ (0 ∷ 2 ∷ []) ∷ (0 ∷ 16 ∷ 0 ∷ 0 ∷ 17 ∷ 0 ∷ 0 ∷ 18 ∷ 0 ∷ 1 ∷ 3 ∷ 1 ∷ 0 ∷ 1 ∷ 0 ∷ []) ∷ (0 ∷ 773993096 ∷ 3 ∷ 773994438 ∷ 22 ∷ 773995998 ∷ 23 ∷ 773997924 ∷ 26 ∷ 773999298 ∷ 44 ∷ 774000822 ∷ 45 ∷ 774001076 ∷ 48 ∷ 774001706 ∷ 115 ∷ 774003357 ∷ 116 ∷ 774004373 ∷ 119 ∷ 774005533 ∷ 186 ∷ 774006690 ∷ 187 ∷ 774007393 ∷ 190 ∷ 774008321 ∷ []) ∷ ([]) ∷ (0 ∷ 0 ∷ 3 ∷ 0 ∷ 6 ∷ 0 ∷ 9 ∷ 0 ∷ 12 ∷ 0 ∷ []) ∷ (3 ∷ 0 ∷ 1 ∷ 0 ∷ 773993096 ∷ 4 ∷ 0 ∷ 1 ∷ 6 ∷ 774001076 ∷ []) ∷ (0 ∷ 0 ∷ 0 ∷ 1 ∷ 0 ∷ 0 ∷ 0 ∷ 2 ∷ 1 ∷ []) ∷ (0 ∷ 4 ∷ []) ∷ (0 ∷ 1 ∷ []) ∷ (0 ∷ 3 ∷ 0 ∷ 0 ∷ 1 ∷ 3 ∷ 0 ∷ 0 ∷ 2 ∷ 3 ∷ 0 ∷ 0 ∷ 0 ∷ 3 ∷ 1 ∷ 0 ∷ 2 ∷ 3 ∷ 1 ∷ 16 ∷ 0 ∷ 4 ∷ 2 ∷ 0 ∷ 1 ∷ 4 ∷ 0 ∷ 0 ∷ 2 ∷ 4 ∷ 0 ∷ 0 ∷ 0 ∷ 4 ∷ 3 ∷ 0 ∷ 2 ∷ 4 ∷ 1 ∷ 64 ∷ 0 ∷ 4 ∷ 4 ∷ 0 ∷ []) ∷ ([]) ∷ [])
unfolding step bits bytes crc5_of crc16_of after format_of format_ok format_reason reason_of checked_of transaction_status extract_payload details_of with_type with_detail fresh is_read is_set_configuration is_set_interface kind_by kind_of laid is_whole whole_in whole is_of first_of max_of value_of chunks applied count_set note_of with_max device_after count_after shelf_after row_after setup_group control_group begin_group repeat_group other_group group_status group_update group_early_start group_early_append transaction_update event_update handle_raw_packet handle_event handle_detail finish
run-refused-46 = refl

run-soup-47 :
    Leaves (packet (0x2D ∷ 0x00 ∷ 0x39 ∷ []) 1501356162 ∷ packet (0x69 ∷ 0x81 ∷ 0x71 ∷ []) 1501357080 ∷ packet (0x69 ∷ 0x81 ∷ 0x71 ∷ []) 1501358779 ∷ packet (0x5A ∷ []) 1501360275 ∷ detail 1 3 1 0 8 ∷ event 0 198 1501360604 ∷ packet (0x3C ∷ []) 1501362444 ∷ packet ([]) 1501363266 ∷ packet (0x69 ∷ 0x81 ∷ 0x58 ∷ []) 1501363425 ∷ packet (0x4B ∷ 0x82 ∷ 0x8F ∷ 0x40 ∷ 0x3E ∷ 0x03 ∷ 0x8A ∷ 0x93 ∷ 0x3B ∷ 0xC9 ∷ 0xCD ∷ 0xC0 ∷ []) 1501364354 ∷ event 6 16 1501365638 ∷ packet (0x2D ∷ 0x83 ∷ 0xE0 ∷ []) 1501366917 ∷ packet (0xD2 ∷ []) 1501368418 ∷ packet (0xA5 ∷ 0x7D ∷ 0xB9 ∷ []) 1501368864 ∷ packet (0x0F ∷ 0x23 ∷ 0xC4 ∷ 0xD2 ∷ 0xCD ∷ 0xE7 ∷ 0x71 ∷ 0x7D ∷ 0x84 ∷ 0x24 ∷ 0x93 ∷ 0x3D ∷ 0xBE ∷ 0xB6 ∷ 0x79 ∷ 0x11 ∷ 0x82 ∷ 0x09 ∷ 0x3C ∷ 0xD0 ∷ 0x1B ∷ 0x9E ∷ 0x4B ∷ 0x95 ∷ 0x73 ∷ 0xE0 ∷ 0xDB ∷ 0x9F ∷ 0x63 ∷ 0x35 ∷ 0x3E ∷ 0x97 ∷ 0x09 ∷ 0x97 ∷ 0xCB ∷ 0xD3 ∷ 0xFD ∷ 0xED ∷ 0x25 ∷ 0xA0 ∷ 0x4F ∷ 0x39 ∷ 0xB8 ∷ 0x5F ∷ 0x16 ∷ 0x03 ∷ 0xFC ∷ 0xA1 ∷ 0xC7 ∷ 0xAB ∷ 0xBE ∷ 0x95 ∷ 0x2E ∷ 0xE4 ∷ 0xBB ∷ 0xDD ∷ 0x88 ∷ 0x95 ∷ 0x76 ∷ 0x99 ∷ 0xC0 ∷ 0x56 ∷ 0x87 ∷ 0xA4 ∷ 0x83 ∷ 0x40 ∷ []) 1501369593 ∷ packet (0x69 ∷ 0x81 ∷ 0x58 ∷ []) 1501369859 ∷ finishing ∷ [])
    ((45 ∷ 0 ∷ 57 ∷ 105 ∷ 129 ∷ 113 ∷ 105 ∷ 129 ∷ 113 ∷ 90 ∷ 60 ∷ 105 ∷ 129 ∷ 88 ∷ 75 ∷ 130 ∷ 143 ∷ 64 ∷ 62 ∷ 3 ∷ 138 ∷ 147 ∷ 59 ∷ 201 ∷ 205 ∷ 192 ∷ 45 ∷ 131 ∷ 224 ∷ 210 ∷ 165 ∷ 125 ∷ 185 ∷ 15 ∷ 35 ∷ 196 ∷ 210 ∷ 205 ∷ 231 ∷ 113 ∷ 125 ∷ 132 ∷ 36 ∷ 147 ∷ 61 ∷ 190 ∷ 182 ∷ 121 ∷ 17 ∷ 130 ∷ 9 ∷ 60 ∷ 208 ∷ 27 ∷ 158 ∷ 75 ∷ 149 ∷ 115 ∷ 224 ∷ 219 ∷ 159 ∷ 99 ∷ 53 ∷ 62 ∷ 151 ∷ 9 ∷ 151 ∷ 203 ∷ 211 ∷ 253 ∷ 237 ∷ 37 ∷ 160 ∷ 79 ∷ 57 ∷ 184 ∷ 95 ∷ 22 ∷ 3 ∷ 252 ∷ 161 ∷ 199 ∷ 171 ∷ 190 ∷ 149 ∷ 46 ∷ 228 ∷ 187 ∷ 221 ∷ 136 ∷ 149 ∷ 118 ∷ 153 ∷ 192 ∷ 86 ∷ 135 ∷ 164 ∷ 131 ∷ 64 ∷ 105 ∷ 129 ∷ 88 ∷ []) ∷ (0 ∷ 1 ∷ 3 ∷ []) ∷ (0 ∷ 16 ∷ 0 ∷ 0 ∷ 17 ∷ 0 ∷ 0 ∷ 18 ∷ 0 ∷ 0 ∷ 2 ∷ 0 ∷ 1 ∷ 3 ∷ 1 ∷ 1 ∷ 1 ∷ 1 ∷ 2 ∷ 1 ∷ 0 ∷ []) ∷ (0 ∷ 1501356162 ∷ 3 ∷ 1501357080 ∷ 6 ∷ 1501358779 ∷ 9 ∷ 1501360275 ∷ 10 ∷ 1501360604 ∷ 10 ∷ 1501362444 ∷ 11 ∷ 1501363266 ∷ 11 ∷ 1501363425 ∷ 14 ∷ 1501364354 ∷ 26 ∷ 1501365638 ∷ 26 ∷ 1501366917 ∷ 29 ∷ 1501368418 ∷ 30 ∷ 1501368864 ∷ 33 ∷ 1501369593 ∷ 99 ∷ 1501369859 ∷ []) ∷ (4 ∷ 198 ∷ 9 ∷ 16 ∷ []) ∷ (0 ∷ 0 ∷ 1 ∷ 0 ∷ 2 ∷ 0 ∷ 4 ∷ 0 ∷ 5 ∷ 0 ∷ 6 ∷ 1 ∷ 7 ∷ 0 ∷ 9 ∷ 0 ∷ 10 ∷ 0 ∷ 11 ∷ 0 ∷ 12 ∷ 0 ∷ 13 ∷ 0 ∷ 14 ∷ 0 ∷ []) ∷ (3 ∷ 0 ∷ 1 ∷ 0 ∷ 1501356162 ∷ 3 ∷ 0 ∷ 0 ∷ 1 ∷ 1501357080 ∷ 4 ∷ 0 ∷ 1 ∷ 1 ∷ 1501357080 ∷ 0 ∷ 0 ∷ 1 ∷ 4 ∷ 1501360604 ∷ 1 ∷ 0 ∷ 1 ∷ 5 ∷ 1501362444 ∷ 1 ∷ 0 ∷ 0 ∷ 5 ∷ 1501362444 ∷ 1 ∷ 1 ∷ 1 ∷ 6 ∷ 1501363266 ∷ 1 ∷ 1 ∷ 0 ∷ 6 ∷ 1501363266 ∷ 5 ∷ 0 ∷ 1 ∷ 7 ∷ 1501363425 ∷ 0 ∷ 1 ∷ 0 ∷ 9 ∷ 1501365638 ∷ 6 ∷ 0 ∷ 1 ∷ 10 ∷ 1501366917 ∷ 1 ∷ 2 ∷ 1 ∷ 11 ∷ 1501368418 ∷ 1 ∷ 2 ∷ 0 ∷ 11 ∷ 1501368418 ∷ 2 ∷ 0 ∷ 1 ∷ 12 ∷ 1501368864 ∷ 1 ∷ 3 ∷ 1 ∷ 13 ∷ 1501369593 ∷ 1 ∷ 3 ∷ 0 ∷ 13 ∷ 1501369593 ∷ 5 ∷ 1 ∷ 1 ∷ 14 ∷ 1501369859 ∷ []) ∷ (0 ∷ 0 ∷ 0 ∷ 1 ∷ 0 ∷ 0 ∷ 0 ∷ 3 ∷ 0 ∷ 0 ∷ 0 ∷ 0 ∷ 1 ∷ 1 ∷ 0 ∷ 0 ∷ 0 ∷ 3 ∷ 2 ∷ 1 ∷ 0 ∷ 0 ∷ 0 ∷ 2 ∷ 3 ∷ 0 ∷ 0 ∷ 0 ∷ 2 ∷ 1 ∷ 0 ∷ 0 ∷ 0 ∷ 2 ∷ 3 ∷ 0 ∷ 0 ∷ 0 ∷ 2 ∷ 0 ∷ 0 ∷ 0 ∷ 0 ∷ 1 ∷ 3 ∷ 0 ∷ 0 ∷ 0 ∷ 0 ∷ 3 ∷ 0 ∷ 0 ∷ 0 ∷ 0 ∷ 0 ∷ 0 ∷ 1 ∷ 0 ∷ 1 ∷ 0 ∷ 0 ∷ 0 ∷ 0 ∷ 2 ∷ 0 ∷ 3 ∷ 0 ∷ 0 ∷ 0 ∷ 0 ∷ 2 ∷ 0 ∷ 0 ∷ 1 ∷ 0 ∷ 0 ∷ 0 ∷ 2 ∷ 0 ∷ 1 ∷ 2 ∷ 0 ∷ 0 ∷ 0 ∷ 2 ∷ 0 ∷ 3 ∷ 2 ∷ 0 ∷ 0 ∷ 0 ∷ 2 ∷ 0 ∷ 0 ∷ 2 ∷ 0 ∷ 0 ∷ 1 ∷ 2 ∷ []) ∷ (0 ∷ 4 ∷ 8 ∷ 13 ∷ 18 ∷ 23 ∷ 28 ∷ 33 ∷ 38 ∷ 44 ∷ 50 ∷ 57 ∷ 64 ∷ 71 ∷ 78 ∷ 85 ∷ 92 ∷ []) ∷ (0 ∷ 2 ∷ 3 ∷ 4 ∷ 6 ∷ 8 ∷ 9 ∷ 10 ∷ 11 ∷ 13 ∷ 14 ∷ 16 ∷ []) ∷ (0 ∷ 3 ∷ 0 ∷ 0 ∷ 1 ∷ 3 ∷ 0 ∷ 0 ∷ 0 ∷ 4 ∷ 1 ∷ 0 ∷ 1 ∷ 4 ∷ 0 ∷ 0 ∷ 3 ∷ 3 ∷ 1 ∷ 0 ∷ 0 ∷ 4 ∷ 2 ∷ 0 ∷ 0 ∷ 0 ∷ 3 ∷ 0 ∷ 1 ∷ 0 ∷ 0 ∷ 0 ∷ 0 ∷ 1 ∷ 4 ∷ 0 ∷ 1 ∷ 1 ∷ 0 ∷ 0 ∷ 0 ∷ 1 ∷ 5 ∷ 0 ∷ 1 ∷ 1 ∷ 1 ∷ 0 ∷ 3 ∷ 1 ∷ 4 ∷ 0 ∷ 0 ∷ 5 ∷ 6 ∷ 0 ∷ 1 ∷ 5 ∷ 0 ∷ 0 ∷ 3 ∷ 1 ∷ 5 ∷ 0 ∷ 0 ∷ 0 ∷ 7 ∷ 0 ∷ 1 ∷ 0 ∷ 1 ∷ 0 ∷ 3 ∷ 4 ∷ 6 ∷ 0 ∷ 3 ∷ 5 ∷ 6 ∷ 0 ∷ 0 ∷ 6 ∷ 8 ∷ 0 ∷ 1 ∷ 6 ∷ 0 ∷ 0 ∷ 0 ∷ 1 ∷ 9 ∷ 0 ∷ 1 ∷ 1 ∷ 2 ∷ 0 ∷ 0 ∷ 2 ∷ 10 ∷ 0 ∷ 1 ∷ 2 ∷ 0 ∷ 0 ∷ 3 ∷ 1 ∷ 9 ∷ 0 ∷ 0 ∷ 1 ∷ 11 ∷ 0 ∷ 1 ∷ 1 ∷ 3 ∷ 0 ∷ 0 ∷ 5 ∷ 12 ∷ 0 ∷ 1 ∷ 5 ∷ 1 ∷ 0 ∷ 3 ∷ 1 ∷ 11 ∷ 0 ∷ []) ∷ ([]) ∷ [])
unfolding step bits bytes crc5_of crc16_of after format_of format_ok format_reason reason_of checked_of transaction_status extract_payload details_of with_type with_detail fresh is_read is_set_configuration is_set_interface kind_by kind_of laid is_whole whole_in whole is_of first_of max_of value_of chunks applied count_set note_of with_max device_after count_after shelf_after row_after setup_group control_group begin_group repeat_group other_group group_status group_update group_early_start group_early_append transaction_update event_update handle_raw_packet handle_event handle_detail finish
run-soup-47 = refl

run-mixed-48 :
    Leaves (packet (0x3C ∷ []) 4127720311 ∷ packet (0xB4 ∷ 0x02 ∷ 0xA8 ∷ []) 4127722176 ∷ packet (0x87 ∷ 0x9F ∷ 0x00 ∷ 0xD7 ∷ []) 4127723368 ∷ packet (0x4B ∷ 0x2D ∷ 0x80 ∷ 0xA2 ∷ []) 4127724424 ∷ packet (0x96 ∷ []) 4127725633 ∷ packet (0xB4 ∷ 0x02 ∷ 0x81 ∷ []) 4127727590 ∷ packet (0x3C ∷ []) 4127728435 ∷ packet (0xE1 ∷ 0x81 ∷ 0x71 ∷ []) 4127728673 ∷ packet (0x69 ∷ 0x83 ∷ 0xC9 ∷ []) 4127729267 ∷ packet (0x69 ∷ 0x83 ∷ 0xC9 ∷ []) 4127730663 ∷ packet (0x5A ∷ []) 4127732052 ∷ detail 3 3 0 2 8 ∷ packet (0xB4 ∷ 0x00 ∷ 0x39 ∷ []) 4127732318 ∷ packet (0xD2 ∷ []) 4127733484 ∷ packet (0xC3 ∷ 0xFC ∷ 0xA2 ∷ 0x05 ∷ 0x61 ∷ 0x02 ∷ 0x28 ∷ 0x31 ∷ 0x4B ∷ 0x5A ∷ 0xA5 ∷ []) 4127735153 ∷ packet (0x69 ∷ 0x03 ∷ 0x50 ∷ []) 4127736611 ∷ finishing ∷ [])
    ((60 ∷ 180 ∷ 2 ∷ 168 ∷ 135 ∷ 159 ∷ 0 ∷ 215 ∷ 75 ∷ 45 ∷ 128 ∷ 162 ∷ 150 ∷ 180 ∷ 2 ∷ 129 ∷ 60 ∷ 225 ∷ 129 ∷ 113 ∷ 105 ∷ 131 ∷ 201 ∷ 105 ∷ 131 ∷ 201 ∷ 90 ∷ 180 ∷ 0 ∷ 57 ∷ 210 ∷ 195 ∷ 252 ∷ 162 ∷ 5 ∷ 97 ∷ 2 ∷ 40 ∷ 49 ∷ 75 ∷ 90 ∷ 165 ∷ 105 ∷ 3 ∷ 80 ∷ []) ∷ (0 ∷ 2 ∷ 1 ∷ 3 ∷ []) ∷ (0 ∷ 16 ∷ 0 ∷ 0 ∷ 17 ∷ 0 ∷ 0 ∷ 18 ∷ 0 ∷ 1 ∷ 0 ∷ 0 ∷ 1 ∷ 2 ∷ 0 ∷ 2 ∷ 3 ∷ 0 ∷ 3 ∷ 3 ∷ 1 ∷ 0 ∷ 2 ∷ 0 ∷ 3 ∷ 0 ∷ 0 ∷ []) ∷ (0 ∷ 4127720311 ∷ 1 ∷ 4127722176 ∷ 4 ∷ 4127723368 ∷ 8 ∷ 4127724424 ∷ 12 ∷ 4127725633 ∷ 13 ∷ 4127727590 ∷ 16 ∷ 4127728435 ∷ 17 ∷ 4127728673 ∷ 20 ∷ 4127729267 ∷ 23 ∷ 4127730663 ∷ 26 ∷ 4127732052 ∷ 27 ∷ 4127732318 ∷ 30 ∷ 4127733484 ∷ 31 ∷ 4127735153 ∷ 42 ∷ 4127736611 ∷ []) ∷ ([]) ∷ (0 ∷ 0 ∷ 1 ∷ 0 ∷ 2 ∷ 0 ∷ 3 ∷ 0 ∷ 4 ∷ 0 ∷ 5 ∷ 0 ∷ 6 ∷ 0 ∷ 7 ∷ 0 ∷ 8 ∷ 0 ∷ 9 ∷ 0 ∷ 11 ∷ 0 ∷ 13 ∷ 0 ∷ 14 ∷ 0 ∷ []) ∷ (1 ∷ 0 ∷ 1 ∷ 0 ∷ 4127720311 ∷ 1 ∷ 0 ∷ 0 ∷ 0 ∷ 4127720311 ∷ 1 ∷ 1 ∷ 1 ∷ 2 ∷ 4127723368 ∷ 1 ∷ 1 ∷ 0 ∷ 2 ∷ 4127723368 ∷ 1 ∷ 2 ∷ 1 ∷ 3 ∷ 4127724424 ∷ 1 ∷ 2 ∷ 0 ∷ 3 ∷ 4127724424 ∷ 1 ∷ 3 ∷ 1 ∷ 4 ∷ 4127725633 ∷ 1 ∷ 3 ∷ 0 ∷ 4 ∷ 4127725633 ∷ 1 ∷ 4 ∷ 1 ∷ 6 ∷ 4127728435 ∷ 1 ∷ 4 ∷ 0 ∷ 6 ∷ 4127728435 ∷ 5 ∷ 0 ∷ 1 ∷ 7 ∷ 4127728673 ∷ 6 ∷ 0 ∷ 1 ∷ 8 ∷ 4127729267 ∷ 7 ∷ 0 ∷ 1 ∷ 12 ∷ 4127733484 ∷ 7 ∷ 0 ∷ 0 ∷ 12 ∷ 4127733484 ∷ 1 ∷ 5 ∷ 1 ∷ 13 ∷ 4127735153 ∷ 1 ∷ 5 ∷ 0 ∷ 13 ∷ 4127735153 ∷ 8 ∷ 0 ∷ 1 ∷ 14 ∷ 4127736611 ∷ []) ∷ (0 ∷ 1 ∷ 0 ∷ 0 ∷ 3 ∷ 0 ∷ 0 ∷ 1 ∷ 0 ∷ 0 ∷ 0 ∷ 3 ∷ 0 ∷ 0 ∷ 0 ∷ 1 ∷ 0 ∷ 0 ∷ 0 ∷ 3 ∷ 0 ∷ 0 ∷ 0 ∷ 1 ∷ 0 ∷ 0 ∷ 0 ∷ 3 ∷ 0 ∷ 0 ∷ 0 ∷ 1 ∷ 0 ∷ 0 ∷ 0 ∷ 0 ∷ 3 ∷ 0 ∷ 0 ∷ 0 ∷ 0 ∷ 0 ∷ 0 ∷ 0 ∷ 0 ∷ 1 ∷ 0 ∷ 0 ∷ 0 ∷ 0 ∷ 0 ∷ 2 ∷ 1 ∷ 0 ∷ 0 ∷ 0 ∷ 0 ∷ 0 ∷ 2 ∷ 2 ∷ 1 ∷ 0 ∷ 0 ∷ 0 ∷ 0 ∷ 0 ∷ 2 ∷ 2 ∷ 3 ∷ 0 ∷ 1 ∷ 0 ∷ 0 ∷ 0 ∷ 2 ∷ 2 ∷ 0 ∷ 0 ∷ 3 ∷ 0 ∷ 0 ∷ 0 ∷ 2 ∷ 2 ∷ 0 ∷ 0 ∷ 0 ∷ 0 ∷ 0 ∷ 0 ∷ 2 ∷ 2 ∷ 0 ∷ 1 ∷ []) ∷ (0 ∷ 3 ∷ 6 ∷ 10 ∷ 14 ∷ 18 ∷ 22 ∷ 26 ∷ 30 ∷ 35 ∷ 40 ∷ 46 ∷ 53 ∷ 61 ∷ 69 ∷ 77 ∷ 85 ∷ []) ∷ (0 ∷ 2 ∷ 4 ∷ 6 ∷ 8 ∷ 10 ∷ 11 ∷ 12 ∷ 14 ∷ 16 ∷ []) ∷ (0 ∷ 1 ∷ 0 ∷ 0 ∷ 1 ∷ 1 ∷ 0 ∷ 0 ∷ 0 ∷ 3 ∷ 1 ∷ 0 ∷ 0 ∷ 1 ∷ 2 ∷ 0 ∷ 1 ∷ 1 ∷ 1 ∷ 0 ∷ 3 ∷ 1 ∷ 1 ∷ 0 ∷ 0 ∷ 1 ∷ 3 ∷ 0 ∷ 1 ∷ 1 ∷ 2 ∷ 0 ∷ 3 ∷ 1 ∷ 2 ∷ 0 ∷ 0 ∷ 1 ∷ 4 ∷ 0 ∷ 1 ∷ 1 ∷ 3 ∷ 0 ∷ 3 ∷ 1 ∷ 3 ∷ 0 ∷ 0 ∷ 4 ∷ 5 ∷ 0 ∷ 0 ∷ 1 ∷ 6 ∷ 0 ∷ 1 ∷ 1 ∷ 4 ∷ 0 ∷ 3 ∷ 1 ∷ 4 ∷ 0 ∷ 0 ∷ 5 ∷ 7 ∷ 0 ∷ 1 ∷ 5 ∷ 0 ∷ 0 ∷ 3 ∷ 1 ∷ 5 ∷ 0 ∷ 0 ∷ 6 ∷ 8 ∷ 0 ∷ 1 ∷ 6 ∷ 0 ∷ 0 ∷ 0 ∷ 6 ∷ 9 ∷ 0 ∷ 0 ∷ 7 ∷ 10 ∷ 0 ∷ 1 ∷ 7 ∷ 0 ∷ 0 ∷ 0 ∷ 1 ∷ 11 ∷ 0 ∷ 1 ∷ 1 ∷ 5 ∷ 0 ∷ 3 ∷ 7 ∷ 8 ∷ 0 ∷ 0 ∷ 8 ∷ 12 ∷ 0 ∷ 1 ∷ 8 ∷ 0 ∷ 0 ∷ 3 ∷ 1 ∷ 9 ∷ 0 ∷ []) ∷ ([]) ∷ [])
unfolding step bits bytes crc5_of crc16_of after format_of format_ok format_reason reason_of checked_of transaction_status extract_payload details_of with_type with_detail fresh is_read is_set_configuration is_set_interface kind_by kind_of laid is_whole whole_in whole is_of first_of max_of value_of chunks applied count_set note_of with_max device_after count_after shelf_after row_after setup_group control_group begin_group repeat_group other_group group_status group_update group_early_start group_early_append transaction_update event_update handle_raw_packet handle_event handle_detail finish
run-mixed-48 = refl

run-enumeration-49 :
    Leaves (packet (0x2D ∷ 0x00 ∷ 0x10 ∷ []) 3988958958 ∷ packet (0xC3 ∷ 0x80 ∷ 0x06 ∷ 0x00 ∷ 0x01 ∷ 0x00 ∷ 0x00 ∷ 0x12 ∷ 0x00 ∷ 0xE0 ∷ 0xF4 ∷ []) 3988959693 ∷ packet (0xD2 ∷ []) 3988960860 ∷ packet (0x69 ∷ 0x00 ∷ 0x10 ∷ []) 3988961879 ∷ packet (0xC3 ∷ 0x99 ∷ 0x89 ∷ 0x2C ∷ 0x5E ∷ 0xEA ∷ 0xC1 ∷ 0x8E ∷ 0xF3 ∷ 0x80 ∷ 0x5A ∷ []) 3988962129 ∷ packet (0xD2 ∷ []) 3988962790 ∷ packet (0x69 ∷ 0x00 ∷ 0x10 ∷ []) 3988963204 ∷ packet (0x4B ∷ 0x48 ∷ 0x4E ∷ 0xB6 ∷ 0xAD ∷ 0xB4 ∷ 0x33 ∷ 0x50 ∷ 0xF8 ∷ 0x49 ∷ 0x95 ∷ []) 3988964080 ∷ packet (0xD2 ∷ []) 3988965053 ∷ packet (0x69 ∷ 0x00 ∷ 0x10 ∷ []) 3988965410 ∷ packet (0xC3 ∷ 0x77 ∷ 0x84 ∷ 0xD9 ∷ 0xDC ∷ []) 3988965443 ∷ packet (0xD2 ∷ []) 3988966153 ∷ packet (0xB4 ∷ 0x00 ∷ 0x10 ∷ []) 3988966264 ∷ packet (0xD2 ∷ []) 3988967465 ∷ packet (0xE1 ∷ 0x00 ∷ 0x10 ∷ []) 3988968010 ∷ packet (0x4B ∷ 0x00 ∷ 0x00 ∷ []) 3988968922 ∷ finishing ∷ [])
    ((45 ∷ 0 ∷ 16 ∷ 195 ∷ 128 ∷ 6 ∷ 0 ∷ 1 ∷ 0 ∷ 0 ∷ 18 ∷ 0 ∷ 224 ∷ 244 ∷ 210 ∷ 105 ∷ 0 ∷ 16 ∷ 195 ∷ 153 ∷ 137 ∷ 44 ∷ 94 ∷ 234 ∷ 193 ∷ 142 ∷ 243 ∷ 128 ∷ 90 ∷ 210 ∷ 105 ∷ 0 ∷ 16 ∷ 75 ∷ 72 ∷ 78 ∷ 182 ∷ 173 ∷ 180 ∷ 51 ∷ 80 ∷ 248 ∷ 73 ∷ 149 ∷ 210 ∷ 105 ∷ 0 ∷ 16 ∷ 195 ∷ 119 ∷ 132 ∷ 217 ∷ 220 ∷ 210 ∷ 180 ∷ 0 ∷ 16 ∷ 210 ∷ 225 ∷ 0 ∷ 16 ∷ 75 ∷ 0 ∷ 0 ∷ []) ∷ (0 ∷ []) ∷ (0 ∷ 16 ∷ 0 ∷ 0 ∷ 17 ∷ 0 ∷ 0 ∷ 18 ∷ 0 ∷ 0 ∷ 0 ∷ 0 ∷ []) ∷ (0 ∷ 3988958958 ∷ 3 ∷ 3988959693 ∷ 14 ∷ 3988960860 ∷ 15 ∷ 3988961879 ∷ 18 ∷ 3988962129 ∷ 29 ∷ 3988962790 ∷ 30 ∷ 3988963204 ∷ 33 ∷ 3988964080 ∷ 44 ∷ 3988965053 ∷ 45 ∷ 3988965410 ∷ 48 ∷ 3988965443 ∷ 53 ∷ 3988966153 ∷ 54 ∷ 3988966264 ∷ 57 ∷ 3988967465 ∷ 58 ∷ 3988968010 ∷ 61 ∷ 3988968922 ∷ []) ∷ ([]) ∷ (0 ∷ 0 ∷ 3 ∷ 0 ∷ 6 ∷ 0 ∷ 9 ∷ 0 ∷ 12 ∷ 0 ∷ 14 ∷ 0 ∷ []) ∷ (3 ∷ 0 ∷ 1 ∷ 0 ∷ 3988958958 ∷ []) ∷ (0 ∷ 0 ∷ 0 ∷ 1 ∷ []) ∷ (0 ∷ []) ∷ (0 ∷ []) ∷ (0 ∷ 3 ∷ 0 ∷ 0 ∷ 1 ∷ 3 ∷ 0 ∷ 0 ∷ 0 ∷ 3 ∷ 1 ∷ 0 ∷ 2 ∷ 3 ∷ 1 ∷ 0 ∷ 0 ∷ 3 ∷ 2 ∷ 0 ∷ 2 ∷ 3 ∷ 2 ∷ 8 ∷ 0 ∷ 3 ∷ 3 ∷ 0 ∷ 2 ∷ 3 ∷ 3 ∷ 16 ∷ 0 ∷ 3 ∷ 4 ∷ 0 ∷ 0 ∷ 3 ∷ 5 ∷ 0 ∷ []) ∷ ([]) ∷ [])
unfolding step bits bytes crc5_of crc16_of after format_of format_ok format_reason reason_of checked_of transaction_status extract_payload details_of with_type with_detail fresh is_read is_set_configuration is_set_interface kind_by kind_of laid is_whole whole_in whole is_of first_of max_of value_of chunks applied count_set note_of with_max device_after count_after shelf_after row_after setup_group control_group begin_group repeat_group other_group group_status group_update group_early_start group_early_append transaction_update event_update handle_raw_packet handle_event handle_detail finish
run-enumeration-49 = refl

run-bulk-50 :
    Leaves (packet (0x69 ∷ 0x82 ∷ 0x18 ∷ []) 315841407 ∷ packet (0x69 ∷ 0x82 ∷ 0x18 ∷ []) 315842406 ∷ packet (0x5A ∷ []) 315842846 ∷ detail 2 1 1 2 16 ∷ packet (0x69 ∷ 0x82 ∷ 0x18 ∷ []) 315844636 ∷ packet (0xC3 ∷ 0x3E ∷ 0xC7 ∷ 0x2B ∷ 0x82 ∷ 0x43 ∷ 0xE0 ∷ 0xCA ∷ 0x84 ∷ 0x14 ∷ 0xD5 ∷ 0xE8 ∷ 0xD9 ∷ 0x2A ∷ 0xA7 ∷ 0x37 ∷ 0x6A ∷ 0x00 ∷ 0x4A ∷ []) 315846111 ∷ packet (0xD2 ∷ []) 315846552 ∷ packet (0x69 ∷ 0x82 ∷ 0x18 ∷ []) 315846901 ∷ packet (0x4B ∷ 0x04 ∷ 0x58 ∷ 0xFC ∷ 0x10 ∷ 0xFB ∷ 0x2C ∷ 0x85 ∷ 0x6D ∷ 0x7C ∷ 0x84 ∷ 0x65 ∷ 0x2C ∷ 0x57 ∷ 0x15 ∷ 0x63 ∷ 0xF3 ∷ 0x3E ∷ 0xF5 ∷ []) 315848141 ∷ packet (0xD2 ∷ []) 315848507 ∷ packet (0x69 ∷ 0x82 ∷ 0x18 ∷ []) 315848755 ∷ packet (0x4B ∷ 0xE9 ∷ 0x24 ∷ 0xCE ∷ 0x0F ∷ 0xA9 ∷ 0x69 ∷ 0x41 ∷ 0xA0 ∷ 0xC6 ∷ 0x3F ∷ 0x75 ∷ 0x0A ∷ 0x29 ∷ 0x65 ∷ 0xF5 ∷ 0x1D ∷ 0x9A ∷ 0x9A ∷ []) 315849758 ∷ packet (0xD2 ∷ []) 315850615 ∷ packet (0x69 ∷ 0x82 ∷ 0x18 ∷ []) 315852393 ∷ packet (0x5A ∷ []) 315853418 ∷ packet (0x69 ∷ 0x82 ∷ 0x18 ∷ []) 315853980 ∷ finishing ∷ [])
    ((105 ∷ 130 ∷ 24 ∷ 105 ∷ 130 ∷ 24 ∷ 90 ∷ 105 ∷ 130 ∷ 24 ∷ 195 ∷ 62 ∷ 199 ∷ 43 ∷ 130 ∷ 67 ∷ 224 ∷ 202 ∷ 132 ∷ 20 ∷ 213 ∷ 232 ∷ 217 ∷ 42 ∷ 167 ∷ 55 ∷ 106 ∷ 0 ∷ 74 ∷ 210 ∷ 105 ∷ 130 ∷ 24 ∷ 75 ∷ 4 ∷ 88 ∷ 252 ∷ 16 ∷ 251 ∷ 44 ∷ 133 ∷ 109 ∷ 124 ∷ 132 ∷ 101 ∷ 44 ∷ 87 ∷ 21 ∷ 99 ∷ 243 ∷ 62 ∷ 245 ∷ 210 ∷ 105 ∷ 130 ∷ 24 ∷ 75 ∷ 233 ∷ 36 ∷ 206 ∷ 15 ∷ 169 ∷ 105 ∷ 65 ∷ 160 ∷ 198 ∷ 63 ∷ 117 ∷ 10 ∷ 41 ∷ 101 ∷ 245 ∷ 29 ∷ 154 ∷ 154 ∷ 210 ∷ 105 ∷ 130 ∷ 24 ∷ 90 ∷ 105 ∷ 130 ∷ 24 ∷ []) ∷ (0 ∷ 2 ∷ []) ∷ (0 ∷ 16 ∷ 0 ∷ 0 ∷ 17 ∷ 0 ∷ 0 ∷ 18 ∷ 0 ∷ 1 ∷ 1 ∷ 1 ∷ []) ∷ (0 ∷ 315841407 ∷ 3 ∷ 315842406 ∷ 6 ∷ 315842846 ∷ 7 ∷ 315844636 ∷ 10 ∷ 315846111 ∷ 29 ∷ 315846552 ∷ 30 ∷ 315846901 ∷ 33 ∷ 315848141 ∷ 52 ∷ 315848507 ∷ 53 ∷ 315848755 ∷ 56 ∷ 315849758 ∷ 75 ∷ 315850615 ∷ 76 ∷ 315852393 ∷ 79 ∷ 315853418 ∷ 80 ∷ 315853980 ∷ []) ∷ ([]) ∷ (0 ∷ 0 ∷ 1 ∷ 0 ∷ 3 ∷ 0 ∷ 6 ∷ 0 ∷ 9 ∷ 0 ∷ 12 ∷ 0 ∷ 14 ∷ 0 ∷ []) ∷ (3 ∷ 0 ∷ 1 ∷ 0 ∷ 315841407 ∷ 3 ∷ 0 ∷ 0 ∷ 5 ∷ 315846552 ∷ 3 ∷ 1 ∷ 1 ∷ 5 ∷ 315846552 ∷ 3 ∷ 1 ∷ 0 ∷ 13 ∷ 315853418 ∷ 3 ∷ 2 ∷ 1 ∷ 13 ∷ 315853418 ∷ []) ∷ (0 ∷ 0 ∷ 0 ∷ 1 ∷ 0 ∷ 0 ∷ 0 ∷ 3 ∷ 0 ∷ 0 ∷ 0 ∷ 1 ∷ 0 ∷ 0 ∷ 0 ∷ 3 ∷ 0 ∷ 0 ∷ 0 ∷ 1 ∷ []) ∷ (0 ∷ 4 ∷ 8 ∷ 12 ∷ 16 ∷ []) ∷ (0 ∷ 2 ∷ 4 ∷ []) ∷ (0 ∷ 3 ∷ 0 ∷ 0 ∷ 1 ∷ 3 ∷ 0 ∷ 0 ∷ 0 ∷ 3 ∷ 1 ∷ 0 ∷ 0 ∷ 3 ∷ 2 ∷ 0 ∷ 1 ∷ 3 ∷ 2 ∷ 0 ∷ 3 ∷ 3 ∷ 1 ∷ 0 ∷ 2 ∷ 3 ∷ 2 ∷ 0 ∷ 0 ∷ 3 ∷ 3 ∷ 0 ∷ 2 ∷ 3 ∷ 3 ∷ 16 ∷ 0 ∷ 3 ∷ 4 ∷ 0 ∷ 2 ∷ 3 ∷ 4 ∷ 32 ∷ 0 ∷ 3 ∷ 5 ∷ 0 ∷ 1 ∷ 3 ∷ 5 ∷ 0 ∷ 3 ∷ 3 ∷ 2 ∷ 0 ∷ 0 ∷ 3 ∷ 6 ∷ 0 ∷ []) ∷ ([]) ∷ [])
unfolding step bits bytes crc5_of crc16_of after format_of format_ok format_reason reason_of checked_of transaction_status extract_payload details_of with_type with_detail fresh is_read is_set_configuration is_set_interface kind_by kind_of laid is_whole whole_in whole is_of first_of max_of value_of chunks applied count_set note_of with_max device_after count_after shelf_after row_after setup_group control_group begin_group repeat_group other_group group_status group_update group_early_start group_early_append transaction_update event_update handle_raw_packet handle_event handle_detail finish
run-bulk-50 = refl

run-isochronous-51 :
    Leaves (packet (0x69 ∷ 0x01 ∷ 0xC1 ∷ []) 1317488543 ∷ packet (0x69 ∷ 0x01 ∷ 0xC1 ∷ []) 1317490357 ∷ packet (0x5A ∷ []) 1317491815 ∷ detail 1 2 1 1 64 ∷ packet (0xA5 ∷ 0x01 ∷ 0xE8 ∷ []) 1317492268 ∷ packet (0x69 ∷ 0x01 ∷ 0xC1 ∷ []) 1317493006 ∷ packet (0x0F ∷ 0x96 ∷ 0x2F ∷ 0xA3 ∷ 0xC1 ∷ 0xE4 ∷ 0xBA ∷ 0x69 ∷ 0x0D ∷ 0x2D ∷ 0x8D ∷ 0x68 ∷ 0x95 ∷ 0x57 ∷ 0x22 ∷ 0x4D ∷ 0x58 ∷ 0x2A ∷ 0x0B ∷ 0x11 ∷ 0xC6 ∷ 0x33 ∷ 0x21 ∷ 0x4C ∷ 0x8C ∷ 0xD3 ∷ 0xE2 ∷ 0x99 ∷ 0xCD ∷ 0xA1 ∷ 0x53 ∷ 0x13 ∷ 0xE2 ∷ 0xF8 ∷ 0xD2 ∷ 0x1F ∷ 0x15 ∷ 0x8B ∷ 0x81 ∷ 0xED ∷ 0x14 ∷ 0x03 ∷ 0xE9 ∷ 0xB7 ∷ 0xFD ∷ 0x08 ∷ 0x23 ∷ 0x2D ∷ 0x57 ∷ 0xBA ∷ 0x12 ∷ 0x7D ∷ 0x2B ∷ 0xD0 ∷ 0x0F ∷ 0x3D ∷ 0x3E ∷ 0xB9 ∷ 0x3A ∷ 0xF2 ∷ 0x09 ∷ 0x1F ∷ 0x52 ∷ 0x7D ∷ 0xF7 ∷ 0x1C ∷ 0x65 ∷ 0x8F ∷ []) 1317494854 ∷ packet (0xA5 ∷ 0x02 ∷ 0xA8 ∷ []) 1317496114 ∷ packet (0x69 ∷ 0x01 ∷ 0xC1 ∷ []) 1317497940 ∷ packet (0x0F ∷ 0x7A ∷ 0x61 ∷ 0x00 ∷ 0x78 ∷ 0xB8 ∷ 0x30 ∷ 0x8A ∷ 0xBB ∷ 0x97 ∷ 0x74 ∷ 0x22 ∷ 0xEF ∷ 0x07 ∷ 0x3A ∷ 0x4E ∷ 0xFF ∷ 0xFC ∷ 0x26 ∷ 0xC3 ∷ 0xC7 ∷ 0x2D ∷ 0xB1 ∷ 0xA3 ∷ 0x61 ∷ 0x71 ∷ 0x7A ∷ 0xBA ∷ 0x96 ∷ 0x6B ∷ 0x85 ∷ 0xE2 ∷ 0x55 ∷ 0x5C ∷ 0xC1 ∷ 0x7E ∷ 0x94 ∷ 0x8A ∷ 0x0D ∷ 0xD1 ∷ 0xA8 ∷ 0x04 ∷ 0x23 ∷ 0xA8 ∷ 0x62 ∷ 0xF9 ∷ 0x90 ∷ 0xDC ∷ 0x68 ∷ 0xE3 ∷ 0x36 ∷ 0xE0 ∷ 0x76 ∷ 0xE2 ∷ 0xEB ∷ 0x3B ∷ 0xF3 ∷ 0x06 ∷ 0x54 ∷ 0x16 ∷ 0x7E ∷ 0x00 ∷ 0xF4 ∷ 0x67 ∷ 0x0F ∷ 0xE0 ∷ 0x4A ∷ []) 1317498843 ∷ packet (0xA5 ∷ 0x03 ∷ 0x50 ∷ []) 1317500357 ∷ packet (0x69 ∷ 0x01 ∷ 0xC1 ∷ []) 1317500767 ∷ packet (0xC3 ∷ 0xC9 ∷ 0xF5 ∷ 0x20 ∷ 0x50 ∷ 0xB7 ∷ 0xDB ∷ 0x76 ∷ 0x24 ∷ 0x47 ∷ 0x78 ∷ 0x5A ∷ 0xB1 ∷ 0xDE ∷ 0xA3 ∷ 0x45 ∷ 0x11 ∷ 0x81 ∷ 0x31 ∷ 0xD9 ∷ 0x3D ∷ 0xE3 ∷ 0x39 ∷ 0x3F ∷ 0xE0 ∷ 0x0B ∷ 0xE5 ∷ 0xF4 ∷ 0x07 ∷ 0xC2 ∷ 0xBA ∷ 0xE7 ∷ 0x7C ∷ 0x51 ∷ 0xAB ∷ 0x77 ∷ 0x68 ∷ 0xA6 ∷ 0x2A ∷ 0xF0 ∷ 0xDE ∷ 0x84 ∷ 0x54 ∷ 0x9A ∷ 0x46 ∷ 0xBE ∷ 0xDE ∷ 0x91 ∷ 0x33 ∷ 0x50 ∷ 0x2A ∷ 0x88 ∷ 0xFF ∷ 0x38 ∷ 0x11 ∷ 0xB5 ∷ 0xDE ∷ 0x84 ∷ 0x36 ∷ 0xD1 ∷ 0x51 ∷ 0x20 ∷ 0x2A ∷ 0xAE ∷ 0xFD ∷ 0xD7 ∷ 0xAD ∷ 0x85 ∷ []) 1317502008 ∷ packet (0xA5 ∷ 0x04 ∷ 0x28 ∷ []) 1317502401 ∷ packet (0x69 ∷ 0x01 ∷ 0xC1 ∷ []) 1317502564 ∷ packet (0x0F ∷ 0x39 ∷ 0x0B ∷ 0x09 ∷ 0x60 ∷ 0x69 ∷ 0xF5 ∷ 0x94 ∷ 0x02 ∷ 0xFB ∷ 0xE5 ∷ 0x62 ∷ 0x33 ∷ 0x5B ∷ 0xE1 ∷ 0xDB ∷ 0x46 ∷ 0x86 ∷ 0x8A ∷ 0x6D ∷ 0xF4 ∷ 0xC0 ∷ 0xE6 ∷ 0xB6 ∷ 0x5D ∷ 0x6D ∷ 0x96 ∷ 0x0E ∷ 0xCE ∷ 0xB3 ∷ 0xFA ∷ 0x84 ∷ 0x3D ∷ 0x66 ∷ 0x53 ∷ 0x4E ∷ 0x5D ∷ 0x5F ∷ 0xB7 ∷ 0x2E ∷ 0x4E ∷ 0xEA ∷ 0x25 ∷ 0x9B ∷ 0x45 ∷ 0x8A ∷ 0x6B ∷ 0xA6 ∷ 0xC9 ∷ 0xF9 ∷ 0x66 ∷ 0xF7 ∷ 0x75 ∷ 0x30 ∷ 0x2C ∷ 0x14 ∷ 0xF6 ∷ 0x02 ∷ 0x54 ∷ 0x1A ∷ 0xAF ∷ 0x27 ∷ 0x42 ∷ 0xA1 ∷ 0xFA ∷ 0x8E ∷ 0xBE ∷ []) 1317503856 ∷ finishing ∷ [])
    ((105 ∷ 1 ∷ 193 ∷ 105 ∷ 1 ∷ 193 ∷ 90 ∷ 165 ∷ 1 ∷ 232 ∷ 105 ∷ 1 ∷ 193 ∷ 15 ∷ 150 ∷ 47 ∷ 163 ∷ 193 ∷ 228 ∷ 186 ∷ 105 ∷ 13 ∷ 45 ∷ 141 ∷ 104 ∷ 149 ∷ 87 ∷ 34 ∷ 77 ∷ 88 ∷ 42 ∷ 11 ∷ 17 ∷ 198 ∷ 51 ∷ 33 ∷ 76 ∷ 140 ∷ 211 ∷ 226 ∷ 153 ∷ 205 ∷ 161 ∷ 83 ∷ 19 ∷ 226 ∷ 248 ∷ 210 ∷ 31 ∷ 21 ∷ 139 ∷ 129 ∷ 237 ∷ 20 ∷ 3 ∷ 233 ∷ 183 ∷ 253 ∷ 8 ∷ 35 ∷ 45 ∷ 87 ∷ 186 ∷ 18 ∷ 125 ∷ 43 ∷ 208 ∷ 15 ∷ 61 ∷ 62 ∷ 185 ∷ 58 ∷ 242 ∷ 9 ∷ 31 ∷ 82 ∷ 125 ∷ 247 ∷ 28 ∷ 101 ∷ 143 ∷ 165 ∷ 2 ∷ 168 ∷ 105 ∷ 1 ∷ 193 ∷ 15 ∷ 122 ∷ 97 ∷ 0 ∷ 120 ∷ 184 ∷ 48 ∷ 138 ∷ 187 ∷ 151 ∷ 116 ∷ 34 ∷ 239 ∷ 7 ∷ 58 ∷ 78 ∷ 255 ∷ 252 ∷ 38 ∷ 195 ∷ 199 ∷ 45 ∷ 177 ∷ 163 ∷ 97 ∷ 113 ∷ 122 ∷ 186 ∷ 150 ∷ 107 ∷ 133 ∷ 226 ∷ 85 ∷ 92 ∷ 193 ∷ 126 ∷ 148 ∷ 138 ∷ 13 ∷ 209 ∷ 168 ∷ 4 ∷ 35 ∷ 168 ∷ 98 ∷ 249 ∷ 144 ∷ 220 ∷ 104 ∷ 227 ∷ 54 ∷ 224 ∷ 118 ∷ 226 ∷ 235 ∷ 59 ∷ 243 ∷ 6 ∷ 84 ∷ 22 ∷ 126 ∷ 0 ∷ 244 ∷ 103 ∷ 15 ∷ 224 ∷ 74 ∷ 165 ∷ 3 ∷ 80 ∷ 105 ∷ 1 ∷ 193 ∷ 195 ∷ 201 ∷ 245 ∷ 32 ∷ 80 ∷ 183 ∷ 219 ∷ 118 ∷ 36 ∷ 71 ∷ 120 ∷ 90 ∷ 177 ∷ 222 ∷ 163 ∷ 69 ∷ 17 ∷ 129 ∷ 49 ∷ 217 ∷ 61 ∷ 227 ∷ 57 ∷ 63 ∷ 224 ∷ 11 ∷ 229 ∷ 244 ∷ 7 ∷ 194 ∷ 186 ∷ 231 ∷ 124 ∷ 81 ∷ 171 ∷ 119 ∷ 104 ∷ 166 ∷ 42 ∷ 240 ∷ 222 ∷ 132 ∷ 84 ∷ 154 ∷ 70 ∷ 190 ∷ 222 ∷ 145 ∷ 51 ∷ 80 ∷ 42 ∷ 136 ∷ 255 ∷ 56 ∷ 17 ∷ 181 ∷ 222 ∷ 132 ∷ 54 ∷ 209 ∷ 81 ∷ 32 ∷ 42 ∷ 174 ∷ 253 ∷ 215 ∷ 173 ∷ 133 ∷ 165 ∷ 4 ∷ 40 ∷ 105 ∷ 1 ∷ 193 ∷ 15 ∷ 57 ∷ 11 ∷ 9 ∷ 96 ∷ 105 ∷ 245 ∷ 148 ∷ 2 ∷ 251 ∷ 229 ∷ 98 ∷ 51 ∷ 91 ∷ 225 ∷ 219 ∷ 70 ∷ 134 ∷ 138 ∷ 109 ∷ 244 ∷ 192 ∷ 230 ∷ 182 ∷ 93 ∷ 109 ∷ 150 ∷ 14 ∷ 206 ∷ 179 ∷ 250 ∷ 132 ∷ 61 ∷ 102 ∷ 83 ∷ 78 ∷ 93 ∷ 95 ∷ 183 ∷ 46 ∷ 78 ∷ 234 ∷ 37 ∷ 155 ∷ 69 ∷ 138 ∷ 107 ∷ 166 ∷ 201 ∷ 249 ∷ 102 ∷ 247 ∷ 117 ∷ 48 ∷ 44 ∷ 20 ∷ 246 ∷ 2 ∷ 84 ∷ 26 ∷ 175 ∷ 39 ∷ 66 ∷ 161 ∷ 250 ∷ 142 ∷ 190 ∷ []) ∷ (0 ∷ 1 ∷ []) ∷ (0 ∷ 16 ∷ 0 ∷ 0 ∷ 17 ∷ 0 ∷ 0 ∷ 18 ∷ 0 ∷ 1 ∷ 2 ∷ 1 ∷ []) ∷ (0 ∷ 1317488543 ∷ 3 ∷ 1317490357 ∷ 6 ∷ 1317491815 ∷ 7 ∷ 1317492268 ∷ 10 ∷ 1317493006 ∷ 13 ∷ 1317494854 ∷ 81 ∷ 1317496114 ∷ 84 ∷ 1317497940 ∷ 87 ∷ 1317498843 ∷ 154 ∷ 1317500357 ∷ 157 ∷ 1317500767 ∷ 160 ∷ 1317502008 ∷ 228 ∷ 1317502401 ∷ 231 ∷ 1317502564 ∷ 234 ∷ 1317503856 ∷ []) ∷ ([]) ∷ (0 ∷ 0 ∷ 1 ∷ 0 ∷ 3 ∷ 0 ∷ 4 ∷ 0 ∷ 5 ∷ 0 ∷ 6 ∷ 0 ∷ 7 ∷ 0 ∷ 8 ∷ 0 ∷ 9 ∷ 0 ∷ 10 ∷ 0 ∷ 12 ∷ 0 ∷ 13 ∷ 0 ∷ 14 ∷ 0 ∷ []) ∷ (3 ∷ 0 ∷ 1 ∷ 0 ∷ 1317488543 ∷ 2 ∷ 0 ∷ 1 ∷ 3 ∷ 1317492268 ∷ 1 ∷ 0 ∷ 1 ∷ 5 ∷ 1317494854 ∷ 1 ∷ 0 ∷ 0 ∷ 5 ∷ 1317494854 ∷ 1 ∷ 1 ∷ 1 ∷ 8 ∷ 1317498843 ∷ 1 ∷ 1 ∷ 0 ∷ 8 ∷ 1317498843 ∷ 3 ∷ 0 ∷ 0 ∷ 11 ∷ 1317502008 ∷ 3 ∷ 1 ∷ 1 ∷ 11 ∷ 1317502008 ∷ 1 ∷ 2 ∷ 1 ∷ 14 ∷ 1317503856 ∷ 1 ∷ 2 ∷ 0 ∷ 14 ∷ 1317503856 ∷ []) ∷ (0 ∷ 0 ∷ 0 ∷ 1 ∷ 0 ∷ 0 ∷ 1 ∷ 2 ∷ 0 ∷ 1 ∷ 2 ∷ 2 ∷ 0 ∷ 3 ∷ 2 ∷ 2 ∷ 0 ∷ 1 ∷ 2 ∷ 2 ∷ 0 ∷ 3 ∷ 2 ∷ 2 ∷ 0 ∷ 0 ∷ 2 ∷ 3 ∷ 0 ∷ 0 ∷ 2 ∷ 1 ∷ 0 ∷ 1 ∷ 2 ∷ 2 ∷ 0 ∷ 3 ∷ 2 ∷ 2 ∷ []) ∷ (0 ∷ 4 ∷ 8 ∷ 12 ∷ 16 ∷ 20 ∷ 24 ∷ 28 ∷ 32 ∷ 36 ∷ []) ∷ (0 ∷ 1 ∷ 2 ∷ 4 ∷ 7 ∷ 8 ∷ []) ∷ (0 ∷ 3 ∷ 0 ∷ 0 ∷ 1 ∷ 3 ∷ 0 ∷ 0 ∷ 0 ∷ 3 ∷ 1 ∷ 0 ∷ 0 ∷ 2 ∷ 2 ∷ 0 ∷ 1 ∷ 2 ∷ 0 ∷ 0 ∷ 0 ∷ 1 ∷ 4 ∷ 0 ∷ 1 ∷ 1 ∷ 0 ∷ 0 ∷ 0 ∷ 2 ∷ 5 ∷ 0 ∷ 0 ∷ 1 ∷ 7 ∷ 0 ∷ 1 ∷ 1 ∷ 1 ∷ 0 ∷ 3 ∷ 1 ∷ 3 ∷ 0 ∷ 0 ∷ 2 ∷ 8 ∷ 0 ∷ 0 ∷ 3 ∷ 9 ∷ 0 ∷ 1 ∷ 3 ∷ 2 ∷ 0 ∷ 3 ∷ 1 ∷ 4 ∷ 0 ∷ 3 ∷ 3 ∷ 4 ∷ 0 ∷ 2 ∷ 3 ∷ 2 ∷ 0 ∷ 0 ∷ 2 ∷ 10 ∷ 0 ∷ 0 ∷ 1 ∷ 12 ∷ 0 ∷ 1 ∷ 1 ∷ 2 ∷ 0 ∷ []) ∷ ([]) ∷ [])
unfolding step bits bytes crc5_of crc16_of after format_of format_ok format_reason reason_of checked_of transaction_status extract_payload details_of with_type with_detail fresh is_read is_set_configuration is_set_interface kind_by kind_of laid is_whole whole_in whole is_of first_of max_of value_of chunks applied count_set note_of with_max device_after count_after shelf_after row_after setup_group control_group begin_group repeat_group other_group group_status group_update group_early_start group_early_append transaction_update event_update handle_raw_packet handle_event handle_detail finish
run-isochronous-51 = refl

run-interrupt-52 :
    Leaves (packet (0x69 ∷ 0x80 ∷ 0xA0 ∷ []) 129254606 ∷ packet (0x69 ∷ 0x80 ∷ 0xA0 ∷ []) 129256552 ∷ packet (0x5A ∷ []) 129256567 ∷ detail 0 1 1 3 8 ∷ packet (0x69 ∷ 0x80 ∷ 0xA0 ∷ []) 129258256 ∷ packet (0xC3 ∷ 0x3D ∷ 0x0B ∷ 0xBB ∷ 0x5D ∷ 0xC6 ∷ 0x30 ∷ 0x58 ∷ 0x8B ∷ 0x76 ∷ 0x1F ∷ []) 129259748 ∷ packet (0xD2 ∷ []) 129260993 ∷ packet (0x69 ∷ 0x80 ∷ 0xA0 ∷ []) 129261820 ∷ packet (0xC3 ∷ 0x6B ∷ 0x65 ∷ 0x08 ∷ 0x27 ∷ 0xB4 ∷ 0x3A ∷ []) 129263336 ∷ packet (0xD2 ∷ []) 129264990 ∷ packet (0x69 ∷ 0x80 ∷ 0xA0 ∷ []) 129266768 ∷ packet (0xC3 ∷ 0xF3 ∷ 0x0E ∷ 0x8A ∷ 0x24 ∷ 0xF8 ∷ 0x25 ∷ 0xBD ∷ 0xD6 ∷ 0xA0 ∷ 0x6D ∷ []) 129268753 ∷ packet (0xD2 ∷ []) 129269754 ∷ packet (0x69 ∷ 0x00 ∷ 0x39 ∷ []) 129271469 ∷ packet (0x5A ∷ []) 129272084 ∷ packet (0x69 ∷ 0x00 ∷ 0x39 ∷ []) 129273120 ∷ finishing ∷ [])
    ((105 ∷ 128 ∷ 160 ∷ 105 ∷ 128 ∷ 160 ∷ 90 ∷ 105 ∷ 128 ∷ 160 ∷ 195 ∷ 61 ∷ 11 ∷ 187 ∷ 93 ∷ 198 ∷ 48 ∷ 88 ∷ 139 ∷ 118 ∷ 31 ∷ 210 ∷ 105 ∷ 128 ∷ 160 ∷ 195 ∷ 107 ∷ 101 ∷ 8 ∷ 39 ∷ 180 ∷ 58 ∷ 210 ∷ 105 ∷ 128 ∷ 160 ∷ 195 ∷ 243 ∷ 14 ∷ 138 ∷ 36 ∷ 248 ∷ 37 ∷ 189 ∷ 214 ∷ 160 ∷ 109 ∷ 210 ∷ 105 ∷ 0 ∷ 57 ∷ 90 ∷ 105 ∷ 0 ∷ 57 ∷ []) ∷ (0 ∷ []) ∷ (0 ∷ 16 ∷ 0 ∷ 0 ∷ 17 ∷ 0 ∷ 0 ∷ 18 ∷ 0 ∷ 0 ∷ 1 ∷ 1 ∷ 0 ∷ 2 ∷ 1 ∷ []) ∷ (0 ∷ 129254606 ∷ 3 ∷ 129256552 ∷ 6 ∷ 129256567 ∷ 7 ∷ 129258256 ∷ 10 ∷ 129259748 ∷ 21 ∷ 129260993 ∷ 22 ∷ 129261820 ∷ 25 ∷ 129263336 ∷ 32 ∷ 129264990 ∷ 33 ∷ 129266768 ∷ 36 ∷ 129268753 ∷ 47 ∷ 129269754 ∷ 48 ∷ 129271469 ∷ 51 ∷ 129272084 ∷ 52 ∷ 129273120 ∷ []) ∷ ([]) ∷ (0 ∷ 0 ∷ 1 ∷ 0 ∷ 3 ∷ 0 ∷ 6 ∷ 0 ∷ 9 ∷ 0 ∷ 12 ∷ 0 ∷ 14 ∷ 0 ∷ []) ∷ (3 ∷ 0 ∷ 1 ∷ 0 ∷ 129254606 ∷ 3 ∷ 0 ∷ 0 ∷ 5 ∷ 129260993 ∷ 3 ∷ 1 ∷ 1 ∷ 5 ∷ 129260993 ∷ 3 ∷ 1 ∷ 0 ∷ 8 ∷ 129264990 ∷ 3 ∷ 2 ∷ 1 ∷ 9 ∷ 129266768 ∷ 4 ∷ 0 ∷ 1 ∷ 12 ∷ 129271469 ∷ []) ∷ (0 ∷ 0 ∷ 0 ∷ 1 ∷ 0 ∷ 0 ∷ 0 ∷ 3 ∷ 0 ∷ 0 ∷ 0 ∷ 1 ∷ 0 ∷ 0 ∷ 0 ∷ 3 ∷ 0 ∷ 0 ∷ 0 ∷ 1 ∷ 0 ∷ 0 ∷ 0 ∷ 2 ∷ 1 ∷ []) ∷ (0 ∷ 4 ∷ 8 ∷ 12 ∷ 16 ∷ 20 ∷ []) ∷ (0 ∷ 2 ∷ 4 ∷ 5 ∷ []) ∷ (0 ∷ 3 ∷ 0 ∷ 0 ∷ 1 ∷ 3 ∷ 0 ∷ 0 ∷ 0 ∷ 3 ∷ 1 ∷ 0 ∷ 0 ∷ 3 ∷ 2 ∷ 0 ∷ 1 ∷ 3 ∷ 2 ∷ 0 ∷ 3 ∷ 3 ∷ 1 ∷ 0 ∷ 2 ∷ 3 ∷ 2 ∷ 0 ∷ 0 ∷ 3 ∷ 3 ∷ 0 ∷ 2 ∷ 3 ∷ 3 ∷ 8 ∷ 0 ∷ 3 ∷ 4 ∷ 0 ∷ 1 ∷ 3 ∷ 4 ∷ 0 ∷ 3 ∷ 3 ∷ 2 ∷ 0 ∷ 2 ∷ 3 ∷ 4 ∷ 12 ∷ 0 ∷ 4 ∷ 5 ∷ 0 ∷ 1 ∷ 4 ∷ 0 ∷ 0 ∷ 0 ∷ 4 ∷ 6 ∷ 0 ∷ []) ∷ ([]) ∷ [])
unfolding step bits bytes crc5_of crc16_of after format_of format_ok format_reason reason_of checked_of transaction_status extract_payload details_of with_type with_detail fresh is_read is_set_configuration is_set_interface kind_by kind_of laid is_whole whole_in whole is_of first_of max_of value_of chunks applied count_set note_of with_max device_after count_after shelf_after row_after setup_group control_group begin_group repeat_group other_group group_status group_update group_early_start group_early_append transaction_update event_update handle_raw_packet handle_event handle_detail finish
run-interrupt-52 = refl

run-split-53 :
    Leaves (packet (0x78 ∷ 0x01 ∷ 0x01 ∷ 0x44 ∷ []) 1612739148 ∷ packet (0x69 ∷ 0x81 ∷ 0x58 ∷ []) 1612740462 ∷ packet (0xD2 ∷ []) 1612740796 ∷ packet (0x78 ∷ 0x81 ∷ 0x01 ∷ 0x9C ∷ []) 1612741830 ∷ packet (0x69 ∷ 0x81 ∷ 0x58 ∷ []) 1612743593 ∷ packet (0xC3 ∷ 0x58 ∷ 0x34 ∷ 0x93 ∷ 0xB9 ∷ 0x50 ∷ 0xE8 ∷ 0x7C ∷ 0xA5 ∷ 0x3F ∷ 0x9A ∷ []) 1612744566 ∷ packet (0x78 ∷ 0x01 ∷ 0x01 ∷ 0x44 ∷ []) 1612745771 ∷ packet (0xE1 ∷ 0x81 ∷ 0x71 ∷ []) 1612747234 ∷ packet (0xC3 ∷ 0x00 ∷ 0x00 ∷ []) 1612748219 ∷ packet (0xD2 ∷ []) 1612748669 ∷ packet (0x78 ∷ 0x81 ∷ 0x01 ∷ 0x9C ∷ []) 1612749471 ∷ packet (0xE1 ∷ 0x81 ∷ 0x71 ∷ []) 1612749659 ∷ packet (0x96 ∷ []) 1612750653 ∷ packet (0x78 ∷ 0x01 ∷ 0x01 ∷ 0xB2 ∷ []) 1612752034 ∷ packet (0xE1 ∷ 0x80 ∷ 0x89 ∷ []) 1612753678 ∷ packet (0xC3 ∷ 0x00 ∷ 0x00 ∷ []) 1612755195 ∷ finishing ∷ [])
    ((120 ∷ 1 ∷ 1 ∷ 68 ∷ 105 ∷ 129 ∷ 88 ∷ 210 ∷ 120 ∷ 129 ∷ 1 ∷ 156 ∷ 105 ∷ 129 ∷ 88 ∷ 195 ∷ 88 ∷ 52 ∷ 147 ∷ 185 ∷ 80 ∷ 232 ∷ 124 ∷ 165 ∷ 63 ∷ 154 ∷ 120 ∷ 1 ∷ 1 ∷ 68 ∷ 225 ∷ 129 ∷ 113 ∷ 195 ∷ 0 ∷ 0 ∷ 210 ∷ 120 ∷ 129 ∷ 1 ∷ 156 ∷ 225 ∷ 129 ∷ 113 ∷ 150 ∷ 120 ∷ 1 ∷ 1 ∷ 178 ∷ 225 ∷ 128 ∷ 137 ∷ 195 ∷ 0 ∷ 0 ∷ []) ∷ (0 ∷ 1 ∷ []) ∷ (0 ∷ 16 ∷ 0 ∷ 0 ∷ 17 ∷ 0 ∷ 0 ∷ 18 ∷ 0 ∷ 1 ∷ 1 ∷ 1 ∷ 1 ∷ 3 ∷ 0 ∷ 0 ∷ 3 ∷ 0 ∷ []) ∷ (0 ∷ 1612739148 ∷ 4 ∷ 1612740462 ∷ 7 ∷ 1612740796 ∷ 8 ∷ 1612741830 ∷ 12 ∷ 1612743593 ∷ 15 ∷ 1612744566 ∷ 26 ∷ 1612745771 ∷ 30 ∷ 1612747234 ∷ 33 ∷ 1612748219 ∷ 36 ∷ 1612748669 ∷ 37 ∷ 1612749471 ∷ 41 ∷ 1612749659 ∷ 44 ∷ 1612750653 ∷ 45 ∷ 1612752034 ∷ 49 ∷ 1612753678 ∷ 52 ∷ 1612755195 ∷ []) ∷ ([]) ∷ (0 ∷ 0 ∷ 3 ∷ 0 ∷ 6 ∷ 0 ∷ 10 ∷ 0 ∷ 12 ∷ 0 ∷ 13 ∷ 0 ∷ []) ∷ (3 ∷ 0 ∷ 1 ∷ 2 ∷ 1612740796 ∷ 3 ∷ 0 ∷ 0 ∷ 5 ∷ 1612744566 ∷ 3 ∷ 1 ∷ 1 ∷ 5 ∷ 1612744566 ∷ 4 ∷ 0 ∷ 1 ∷ 9 ∷ 1612748669 ∷ 1 ∷ 0 ∷ 1 ∷ 12 ∷ 1612750653 ∷ 1 ∷ 0 ∷ 0 ∷ 12 ∷ 1612750653 ∷ 5 ∷ 0 ∷ 1 ∷ 15 ∷ 1612755195 ∷ []) ∷ (0 ∷ 0 ∷ 0 ∷ 1 ∷ 0 ∷ 0 ∷ 0 ∷ 3 ∷ 0 ∷ 0 ∷ 0 ∷ 1 ∷ 0 ∷ 0 ∷ 0 ∷ 2 ∷ 1 ∷ 0 ∷ 1 ∷ 0 ∷ 2 ∷ 2 ∷ 0 ∷ 3 ∷ 0 ∷ 2 ∷ 2 ∷ 0 ∷ 0 ∷ 0 ∷ 2 ∷ 2 ∷ 1 ∷ []) ∷ (0 ∷ 4 ∷ 8 ∷ 12 ∷ 17 ∷ 22 ∷ 27 ∷ []) ∷ (0 ∷ 2 ∷ 3 ∷ 4 ∷ 6 ∷ []) ∷ (0 ∷ 3 ∷ 0 ∷ 0 ∷ 1 ∷ 3 ∷ 0 ∷ 0 ∷ 0 ∷ 3 ∷ 1 ∷ 0 ∷ 1 ∷ 3 ∷ 1 ∷ 0 ∷ 3 ∷ 3 ∷ 1 ∷ 0 ∷ 2 ∷ 3 ∷ 1 ∷ 0 ∷ 0 ∷ 4 ∷ 2 ∷ 0 ∷ 1 ∷ 4 ∷ 0 ∷ 0 ∷ 0 ∷ 1 ∷ 4 ∷ 0 ∷ 1 ∷ 1 ∷ 0 ∷ 0 ∷ 0 ∷ 5 ∷ 5 ∷ 0 ∷ 1 ∷ 5 ∷ 0 ∷ 0 ∷ 3 ∷ 1 ∷ 4 ∷ 0 ∷ []) ∷ ([]) ∷ [])
unfolding step bits bytes crc5_of crc16_of after format_of format_ok format_reason reason_of checked_of transaction_status extract_payload details_of with_type with_detail fresh is_read is_set_configuration is_set_interface kind_by kind_of laid is_whole whole_in whole is_of first_of max_of value_of chunks applied count_set note_of with_max device_after count_after shelf_after row_after setup_group control_group begin_group repeat_group other_group group_status group_update group_early_start group_early_append transaction_update event_update handle_raw_packet handle_event handle_detail finish
run-split-53 = refl

run-sof-54 :
    Leaves (packet (0xA5 ∷ 0x01 ∷ 0xE8 ∷ []) 3922982299 ∷ packet (0xA5 ∷ 0x02 ∷ 0xA8 ∷ []) 3922984071 ∷ packet (0x69 ∷ 0x81 ∷ 0x58 ∷ []) 3922984872 ∷ packet (0x69 ∷ 0x81 ∷ 0x58 ∷ []) 3922986433 ∷ packet (0x5A ∷ []) 3922987938 ∷ detail 1 1 1 3 8 ∷ packet (0x69 ∷ 0x81 ∷ 0x58 ∷ []) 3922989363 ∷ packet (0x5A ∷ []) 3922989456 ∷ packet (0x69 ∷ 0x81 ∷ 0x58 ∷ []) 3922990716 ∷ packet (0x5A ∷ []) 3922991185 ∷ packet (0x69 ∷ 0x81 ∷ 0x58 ∷ []) 3922992356 ∷ packet (0x5A ∷ []) 3922992357 ∷ packet (0x69 ∷ 0x81 ∷ 0x58 ∷ []) 3922993759 ∷ packet (0x5A ∷ []) 3922995445 ∷ packet (0x69 ∷ 0x81 ∷ 0x58 ∷ []) 3922997408 ∷ packet (0x5A ∷ []) 3922997633 ∷ finishing ∷ [])
    ((165 ∷ 1 ∷ 232 ∷ 165 ∷ 2 ∷ 168 ∷ 105 ∷ 129 ∷ 88 ∷ 105 ∷ 129 ∷ 88 ∷ 90 ∷ 105 ∷ 129 ∷ 88 ∷ 90 ∷ 105 ∷ 129 ∷ 88 ∷ 90 ∷ 105 ∷ 129 ∷ 88 ∷ 90 ∷ 105 ∷ 129 ∷ 88 ∷ 90 ∷ 105 ∷ 129 ∷ 88 ∷ 90 ∷ []) ∷ (0 ∷ 1 ∷ []) ∷ (0 ∷ 16 ∷ 0 ∷ 0 ∷ 17 ∷ 0 ∷ 0 ∷ 18 ∷ 0 ∷ 1 ∷ 1 ∷ 1 ∷ []) ∷ (0 ∷ 3922982299 ∷ 3 ∷ 3922984071 ∷ 6 ∷ 3922984872 ∷ 9 ∷ 3922986433 ∷ 12 ∷ 3922987938 ∷ 13 ∷ 3922989363 ∷ 16 ∷ 3922989456 ∷ 17 ∷ 3922990716 ∷ 20 ∷ 3922991185 ∷ 21 ∷ 3922992356 ∷ 24 ∷ 3922992357 ∷ 25 ∷ 3922993759 ∷ 28 ∷ 3922995445 ∷ 29 ∷ 3922997408 ∷ 32 ∷ 3922997633 ∷ []) ∷ ([]) ∷ (0 ∷ 0 ∷ 2 ∷ 0 ∷ 3 ∷ 0 ∷ 5 ∷ 0 ∷ 7 ∷ 0 ∷ 9 ∷ 0 ∷ 11 ∷ 0 ∷ 13 ∷ 0 ∷ []) ∷ (2 ∷ 0 ∷ 1 ∷ 0 ∷ 3922982299 ∷ 3 ∷ 0 ∷ 1 ∷ 2 ∷ 3922984872 ∷ []) ∷ (0 ∷ 0 ∷ 1 ∷ 0 ∷ 0 ∷ 2 ∷ 1 ∷ []) ∷ (0 ∷ 3 ∷ []) ∷ (0 ∷ 1 ∷ []) ∷ (0 ∷ 2 ∷ 0 ∷ 0 ∷ 1 ∷ 2 ∷ 0 ∷ 0 ∷ 0 ∷ 3 ∷ 1 ∷ 0 ∷ 1 ∷ 3 ∷ 0 ∷ 0 ∷ 0 ∷ 3 ∷ 2 ∷ 0 ∷ 0 ∷ 3 ∷ 3 ∷ 0 ∷ 0 ∷ 3 ∷ 4 ∷ 0 ∷ 0 ∷ 3 ∷ 5 ∷ 0 ∷ 0 ∷ 3 ∷ 6 ∷ 0 ∷ 0 ∷ 3 ∷ 7 ∷ 0 ∷ []) ∷ ([]) ∷ [])
unfolding step bits bytes crc5_of crc16_of after format_of format_ok format_reason reason_of checked_of transaction_status extract_payload details_of with_type with_detail fresh is_read is_set_configuration is_set_interface kind_by kind_of laid is_whole whole_in whole is_of first_of max_of value_of chunks applied count_set note_of with_max device_after count_after shelf_after row_after setup_group control_group begin_group repeat_group other_group group_status group_update group_early_start group_early_append transaction_update event_update handle_raw_packet handle_event handle_detail finish
run-sof-54 = refl

run-malformed-55 :
    Leaves (packet (0xE1 ∷ 0x01 ∷ 0xC9 ∷ []) 882849554 ∷ packet (0x69 ∷ 0x82 ∷ 0x31 ∷ []) 882851392 ∷ packet (0xC3 ∷ 0x5D ∷ 0xF2 ∷ 0xAC ∷ 0xC8 ∷ 0x83 ∷ 0x4D ∷ 0xE1 ∷ 0x82 ∷ 0x88 ∷ 0x1A ∷ 0xE2 ∷ 0x5C ∷ 0x54 ∷ 0x09 ∷ 0x37 ∷ 0xBB ∷ 0xDF ∷ 0xDD ∷ []) 882853322 ∷ packet (0xD2 ∷ []) 882853650 ∷ packet (0x69 ∷ 0x82 ∷ 0x31 ∷ []) 882855146 ∷ packet (0xC3 ∷ 0x0F ∷ 0xFE ∷ 0xDE ∷ 0x25 ∷ 0xA7 ∷ 0x14 ∷ 0xE8 ∷ 0x91 ∷ 0x96 ∷ 0xBC ∷ 0x75 ∷ 0xE1 ∷ 0x3F ∷ 0x30 ∷ 0x46 ∷ 0x8C ∷ 0xB8 ∷ 0xF0 ∷ []) 882855251 ∷ packet (0xD2 ∷ []) 882855376 ∷ packet (0x69 ∷ 0x82 ∷ 0x31 ∷ []) 882857144 ∷ packet (0x5A ∷ []) 882858886 ∷ packet (0x69 ∷ 0x82 ∷ 0x31 ∷ []) 882858971 ∷ packet (0x5A ∷ []) 882860460 ∷ packet (0x69 ∷ 0x82 ∷ 0x31 ∷ []) 882861694 ∷ packet (0x4B ∷ 0x8E ∷ 0x86 ∷ 0x70 ∷ 0x1E ∷ 0x4A ∷ 0xFB ∷ 0x78 ∷ 0x2A ∷ 0x42 ∷ 0x9F ∷ 0x18 ∷ 0xCE ∷ 0x8B ∷ 0xE8 ∷ 0x39 ∷ 0x76 ∷ 0x18 ∷ 0x29 ∷ []) 882862100 ∷ packet (0xD2 ∷ []) 882862919 ∷ packet (0x69 ∷ 0x82 ∷ 0x31 ∷ []) 882863857 ∷ packet (0xC3 ∷ 0x02 ∷ 0x73 ∷ 0x21 ∷ 0x1F ∷ 0x44 ∷ 0xCF ∷ 0xE7 ∷ 0xEE ∷ 0x34 ∷ 0x0B ∷ 0x1F ∷ 0x29 ∷ 0x74 ∷ 0xB8 ∷ 0x1E ∷ 0xDC ∷ 0x80 ∷ 0x58 ∷ []) 882865224 ∷ finishing ∷ [])
    ((225 ∷ 1 ∷ 201 ∷ 105 ∷ 130 ∷ 49 ∷ 195 ∷ 93 ∷ 242 ∷ 172 ∷ 200 ∷ 131 ∷ 77 ∷ 225 ∷ 130 ∷ 136 ∷ 26 ∷ 226 ∷ 92 ∷ 84 ∷ 9 ∷ 55 ∷ 187 ∷ 223 ∷ 221 ∷ 210 ∷ 105 ∷ 130 ∷ 49 ∷ 195 ∷ 15 ∷ 254 ∷ 222 ∷ 37 ∷ 167 ∷ 20 ∷ 232 ∷ 145 ∷ 150 ∷ 188 ∷ 117 ∷ 225 ∷ 63 ∷ 48 ∷ 70 ∷ 140 ∷ 184 ∷ 240 ∷ 210 ∷ 105 ∷ 130 ∷ 49 ∷ 90 ∷ 105 ∷ 130 ∷ 49 ∷ 90 ∷ 105 ∷ 130 ∷ 49 ∷ 75 ∷ 142 ∷ 134 ∷ 112 ∷ 30 ∷ 74 ∷ 251 ∷ 120 ∷ 42 ∷ 66 ∷ 159 ∷ 24 ∷ 206 ∷ 139 ∷ 232 ∷ 57 ∷ 118 ∷ 24 ∷ 41 ∷ 210 ∷ 105 ∷ 130 ∷ 49 ∷ 195 ∷ 2 ∷ 115 ∷ 33 ∷ 31 ∷ 68 ∷ 207 ∷ 231 ∷ 238 ∷ 52 ∷ 11 ∷ 31 ∷ 41 ∷ 116 ∷ 184 ∷ 30 ∷ 220 ∷ 128 ∷ 88 ∷ []) ∷ (0 ∷ 2 ∷ []) ∷ (0 ∷ 16 ∷ 0 ∷ 0 ∷ 17 ∷ 0 ∷ 0 ∷ 18 ∷ 0 ∷ 1 ∷ 3 ∷ 1 ∷ []) ∷ (0 ∷ 882849554 ∷ 3 ∷ 882851392 ∷ 6 ∷ 882853322 ∷ 25 ∷ 882853650 ∷ 26 ∷ 882855146 ∷ 29 ∷ 882855251 ∷ 48 ∷ 882855376 ∷ 49 ∷ 882857144 ∷ 52 ∷ 882858886 ∷ 53 ∷ 882858971 ∷ 56 ∷ 882860460 ∷ 57 ∷ 882861694 ∷ 60 ∷ 882862100 ∷ 79 ∷ 882862919 ∷ 80 ∷ 882863857 ∷ 83 ∷ 882865224 ∷ []) ∷ ([]) ∷ (0 ∷ 4 ∷ 1 ∷ 0 ∷ 4 ∷ 0 ∷ 7 ∷ 0 ∷ 9 ∷ 0 ∷ 11 ∷ 0 ∷ 14 ∷ 0 ∷ []) ∷ (1 ∷ 0 ∷ 1 ∷ 0 ∷ 882849554 ∷ 1 ∷ 0 ∷ 0 ∷ 0 ∷ 882849554 ∷ 3 ∷ 0 ∷ 1 ∷ 1 ∷ 882851392 ∷ 3 ∷ 0 ∷ 0 ∷ 8 ∷ 882858886 ∷ 3 ∷ 1 ∷ 1 ∷ 8 ∷ 882858886 ∷ 3 ∷ 1 ∷ 0 ∷ 13 ∷ 882862919 ∷ 3 ∷ 2 ∷ 1 ∷ 13 ∷ 882862919 ∷ []) ∷ (0 ∷ 1 ∷ 0 ∷ 0 ∷ 3 ∷ 0 ∷ 0 ∷ 0 ∷ 0 ∷ 1 ∷ 0 ∷ 0 ∷ 0 ∷ 3 ∷ 0 ∷ 0 ∷ 0 ∷ 1 ∷ 0 ∷ 0 ∷ 0 ∷ 3 ∷ 0 ∷ 0 ∷ 0 ∷ 1 ∷ []) ∷ (0 ∷ 3 ∷ 6 ∷ 10 ∷ 14 ∷ 18 ∷ 22 ∷ []) ∷ (0 ∷ 2 ∷ 4 ∷ 6 ∷ []) ∷ (0 ∷ 1 ∷ 0 ∷ 0 ∷ 1 ∷ 1 ∷ 0 ∷ 0 ∷ 0 ∷ 3 ∷ 1 ∷ 0 ∷ 1 ∷ 3 ∷ 0 ∷ 0 ∷ 3 ∷ 1 ∷ 1 ∷ 0 ∷ 2 ∷ 3 ∷ 0 ∷ 0 ∷ 0 ∷ 3 ∷ 2 ∷ 0 ∷ 2 ∷ 3 ∷ 1 ∷ 16 ∷ 0 ∷ 3 ∷ 3 ∷ 0 ∷ 1 ∷ 3 ∷ 2 ∷ 0 ∷ 3 ∷ 3 ∷ 2 ∷ 0 ∷ 0 ∷ 3 ∷ 4 ∷ 0 ∷ 0 ∷ 3 ∷ 5 ∷ 0 ∷ 1 ∷ 3 ∷ 4 ∷ 0 ∷ 3 ∷ 3 ∷ 3 ∷ 0 ∷ 2 ∷ 3 ∷ 4 ∷ 32 ∷ 0 ∷ 3 ∷ 6 ∷ 0 ∷ []) ∷ ([]) ∷ [])
unfolding step bits bytes crc5_of crc16_of after format_of format_ok format_reason reason_of checked_of transaction_status extract_payload details_of with_type with_detail fresh is_read is_set_configuration is_set_interface kind_by kind_of laid is_whole whole_in whole is_of first_of max_of value_of chunks applied count_set note_of with_max device_after count_after shelf_after row_after setup_group control_group begin_group repeat_group other_group group_status group_update group_early_start group_early_append transaction_update event_update handle_raw_packet handle_event handle_detail finish
run-malformed-55 = refl

run-event-56 :
    Leaves (event 3 74 4286261186 ∷ event 4 85 4286263045 ∷ packet (0xA5 ∷ 0x01 ∷ 0xE8 ∷ []) 4286264774 ∷ packet (0xA5 ∷ 0x02 ∷ 0xA8 ∷ []) 4286265372 ∷ event 0 135 4286266960 ∷ event 2 230 4286267834 ∷ event 2 68 4286267839 ∷ packet (0x78 ∷ 0x01 ∷ 0x01 ∷ 0x44 ∷ []) 4286268250 ∷ packet (0xE1 ∷ 0x02 ∷ 0x81 ∷ []) 4286269639 ∷ packet (0x0F ∷ 0x00 ∷ 0x00 ∷ []) 4286270263 ∷ packet (0xD2 ∷ []) 4286270306 ∷ packet (0x78 ∷ 0x81 ∷ 0x01 ∷ 0x9C ∷ []) 4286272227 ∷ packet (0xE1 ∷ 0x02 ∷ 0x81 ∷ []) 4286272491 ∷ packet (0xD2 ∷ []) 4286272980 ∷ event 2 68 4286273085 ∷ event 1 225 4286274925 ∷ finishing ∷ [])
    ((165 ∷ 1 ∷ 232 ∷ 165 ∷ 2 ∷ 168 ∷ 120 ∷ 1 ∷ 1 ∷ 68 ∷ 225 ∷ 2 ∷ 129 ∷ 15 ∷ 0 ∷ 0 ∷ 210 ∷ 120 ∷ 129 ∷ 1 ∷ 156 ∷ 225 ∷ 2 ∷ 129 ∷ 210 ∷ []) ∷ (0 ∷ 2 ∷ []) ∷ (0 ∷ 16 ∷ 0 ∷ 0 ∷ 17 ∷ 0 ∷ 0 ∷ 18 ∷ 0 ∷ 1 ∷ 2 ∷ 0 ∷ []) ∷ (0 ∷ 4286261186 ∷ 0 ∷ 4286263045 ∷ 0 ∷ 4286264774 ∷ 3 ∷ 4286265372 ∷ 6 ∷ 4286266960 ∷ 6 ∷ 4286267834 ∷ 6 ∷ 4286267839 ∷ 6 ∷ 4286268250 ∷ 10 ∷ 4286269639 ∷ 13 ∷ 4286270263 ∷ 16 ∷ 4286270306 ∷ 17 ∷ 4286272227 ∷ 21 ∷ 4286272491 ∷ 24 ∷ 4286272980 ∷ 25 ∷ 4286273085 ∷ 25 ∷ 4286274925 ∷ []) ∷ (0 ∷ 74 ∷ 1 ∷ 85 ∷ 4 ∷ 135 ∷ 5 ∷ 230 ∷ 6 ∷ 68 ∷ 14 ∷ 68 ∷ 15 ∷ 225 ∷ []) ∷ (0 ∷ 0 ∷ 1 ∷ 0 ∷ 2 ∷ 0 ∷ 4 ∷ 0 ∷ 5 ∷ 0 ∷ 6 ∷ 0 ∷ 7 ∷ 0 ∷ 7 ∷ 0 ∷ 9 ∷ 0 ∷ 10 ∷ 0 ∷ 11 ∷ 0 ∷ 13 ∷ 0 ∷ 14 ∷ 0 ∷ 15 ∷ 0 ∷ []) ∷ (0 ∷ 0 ∷ 0 ∷ 0 ∷ 4286261186 ∷ 0 ∷ 1 ∷ 0 ∷ 1 ∷ 4286263045 ∷ 2 ∷ 0 ∷ 1 ∷ 2 ∷ 4286264774 ∷ 0 ∷ 2 ∷ 1 ∷ 4 ∷ 4286266960 ∷ 0 ∷ 3 ∷ 0 ∷ 5 ∷ 4286267834 ∷ 0 ∷ 4 ∷ 0 ∷ 6 ∷ 4286267839 ∷ 1 ∷ 0 ∷ 1 ∷ 9 ∷ 4286270263 ∷ 1 ∷ 0 ∷ 0 ∷ 9 ∷ 4286270263 ∷ 1 ∷ 1 ∷ 1 ∷ 10 ∷ 4286270306 ∷ 1 ∷ 1 ∷ 0 ∷ 10 ∷ 4286270306 ∷ 1 ∷ 2 ∷ 1 ∷ 13 ∷ 4286272980 ∷ 1 ∷ 2 ∷ 0 ∷ 13 ∷ 4286272980 ∷ 0 ∷ 5 ∷ 0 ∷ 14 ∷ 4286273085 ∷ 0 ∷ 6 ∷ 0 ∷ 15 ∷ 4286274925 ∷ []) ∷ (3 ∷ 0 ∷ 0 ∷ 3 ∷ 0 ∷ 0 ∷ 0 ∷ 0 ∷ 1 ∷ 1 ∷ 0 ∷ 3 ∷ 3 ∷ 0 ∷ 0 ∷ 3 ∷ 0 ∷ 0 ∷ 0 ∷ 1 ∷ 0 ∷ 0 ∷ 0 ∷ 3 ∷ 0 ∷ 0 ∷ 0 ∷ 1 ∷ 0 ∷ 0 ∷ 0 ∷ 3 ∷ 0 ∷ 0 ∷ 0 ∷ 1 ∷ 0 ∷ 0 ∷ 0 ∷ 3 ∷ 0 ∷ 0 ∷ 3 ∷ 0 ∷ 0 ∷ 0 ∷ 3 ∷ 0 ∷ 0 ∷ 0 ∷ []) ∷ (0 ∷ 3 ∷ 6 ∷ 9 ∷ 12 ∷ 15 ∷ 18 ∷ 22 ∷ 26 ∷ 30 ∷ 34 ∷ 38 ∷ 42 ∷ 46 ∷ []) ∷ (0 ∷ 1 ∷ 2 ∷ 3 ∷ 4 ∷ 5 ∷ 6 ∷ 8 ∷ 10 ∷ 12 ∷ 13 ∷ []) ∷ (0 ∷ 0 ∷ 0 ∷ 0 ∷ 1 ∷ 0 ∷ 0 ∷ 0 ∷ 0 ∷ 0 ∷ 1 ∷ 0 ∷ 1 ∷ 0 ∷ 1 ∷ 0 ∷ 0 ∷ 2 ∷ 2 ∷ 0 ∷ 1 ∷ 2 ∷ 0 ∷ 0 ∷ 0 ∷ 0 ∷ 3 ∷ 0 ∷ 1 ∷ 0 ∷ 2 ∷ 0 ∷ 0 ∷ 0 ∷ 4 ∷ 0 ∷ 1 ∷ 0 ∷ 3 ∷ 0 ∷ 0 ∷ 0 ∷ 5 ∷ 0 ∷ 1 ∷ 0 ∷ 4 ∷ 0 ∷ 0 ∷ 2 ∷ 6 ∷ 0 ∷ 0 ∷ 3 ∷ 7 ∷ 0 ∷ 0 ∷ 1 ∷ 8 ∷ 0 ∷ 1 ∷ 1 ∷ 0 ∷ 0 ∷ 0 ∷ 1 ∷ 9 ∷ 0 ∷ 1 ∷ 1 ∷ 1 ∷ 0 ∷ 3 ∷ 1 ∷ 7 ∷ 0 ∷ 0 ∷ 3 ∷ 10 ∷ 0 ∷ 0 ∷ 1 ∷ 11 ∷ 0 ∷ 1 ∷ 1 ∷ 2 ∷ 0 ∷ 3 ∷ 1 ∷ 8 ∷ 0 ∷ 0 ∷ 0 ∷ 12 ∷ 0 ∷ 1 ∷ 0 ∷ 5 ∷ 0 ∷ 3 ∷ 1 ∷ 9 ∷ 0 ∷ 3 ∷ 2 ∷ 9 ∷ 0 ∷ 0 ∷ 0 ∷ 13 ∷ 0 ∷ 1 ∷ 0 ∷ 6 ∷ 0 ∷ []) ∷ ([]) ∷ [])
unfolding step bits bytes crc5_of crc16_of after format_of format_ok format_reason reason_of checked_of transaction_status extract_payload details_of with_type with_detail fresh is_read is_set_configuration is_set_interface kind_by kind_of laid is_whole whole_in whole is_of first_of max_of value_of chunks applied count_set note_of with_max device_after count_after shelf_after row_after setup_group control_group begin_group repeat_group other_group group_status group_update group_early_start group_early_append transaction_update event_update handle_raw_packet handle_event handle_detail finish
run-event-56 = refl

run-chirp-57 :
    Leaves (event 1 92 2232364717 ∷ event 4 189 2232364956 ∷ event 5 155 2232366242 ∷ event 2 154 2232367877 ∷ event 4 250 2232367955 ∷ event 3 167 2232368479 ∷ event 4 67 2232369532 ∷ event 5 243 2232370017 ∷ packet (0xA5 ∷ 0x01 ∷ 0xE8 ∷ []) 2232371058 ∷ packet (0x69 ∷ 0x00 ∷ 0x39 ∷ []) 2232372731 ∷ packet (0x69 ∷ 0x00 ∷ 0x39 ∷ []) 2232374721 ∷ packet (0x5A ∷ []) 2232376344 ∷ detail 0 2 1 3 8 ∷ packet (0x69 ∷ 0x00 ∷ 0x39 ∷ []) 2232377919 ∷ packet (0xC3 ∷ 0x8F ∷ 0x75 ∷ 0xF5 ∷ 0xA1 ∷ 0x42 ∷ 0x3D ∷ []) 2232379013 ∷ packet (0xD2 ∷ []) 2232380384 ∷ finishing ∷ [])
    ((165 ∷ 1 ∷ 232 ∷ 105 ∷ 0 ∷ 57 ∷ 105 ∷ 0 ∷ 57 ∷ 90 ∷ 105 ∷ 0 ∷ 57 ∷ 195 ∷ 143 ∷ 117 ∷ 245 ∷ 161 ∷ 66 ∷ 61 ∷ 210 ∷ []) ∷ (0 ∷ []) ∷ (0 ∷ 16 ∷ 0 ∷ 0 ∷ 17 ∷ 0 ∷ 0 ∷ 18 ∷ 0 ∷ 0 ∷ 2 ∷ 1 ∷ []) ∷ (0 ∷ 2232364717 ∷ 0 ∷ 2232364956 ∷ 0 ∷ 2232366242 ∷ 0 ∷ 2232367877 ∷ 0 ∷ 2232367955 ∷ 0 ∷ 2232368479 ∷ 0 ∷ 2232369532 ∷ 0 ∷ 2232370017 ∷ 0 ∷ 2232371058 ∷ 3 ∷ 2232372731 ∷ 6 ∷ 2232374721 ∷ 9 ∷ 2232376344 ∷ 10 ∷ 2232377919 ∷ 13 ∷ 2232379013 ∷ 20 ∷ 2232380384 ∷ []) ∷ (0 ∷ 92 ∷ 1 ∷ 189 ∷ 2 ∷ 155 ∷ 3 ∷ 154 ∷ 4 ∷ 250 ∷ 5 ∷ 167 ∷ 6 ∷ 67 ∷ 7 ∷ 243 ∷ []) ∷ (0 ∷ 0 ∷ 1 ∷ 0 ∷ 4 ∷ 0 ∷ 7 ∷ 0 ∷ 8 ∷ 0 ∷ 9 ∷ 0 ∷ 10 ∷ 0 ∷ 12 ∷ 0 ∷ []) ∷ (0 ∷ 0 ∷ 0 ∷ 0 ∷ 2232364717 ∷ 0 ∷ 1 ∷ 1 ∷ 1 ∷ 2232364956 ∷ 0 ∷ 2 ∷ 0 ∷ 7 ∷ 2232370017 ∷ 2 ∷ 0 ∷ 1 ∷ 8 ∷ 2232371058 ∷ 3 ∷ 0 ∷ 1 ∷ 9 ∷ 2232372731 ∷ 3 ∷ 0 ∷ 0 ∷ 14 ∷ 2232380384 ∷ 3 ∷ 1 ∷ 1 ∷ 14 ∷ 2232380384 ∷ 3 ∷ 1 ∷ 0 ∷ 14 ∷ 2232380384 ∷ []) ∷ (3 ∷ 0 ∷ 0 ∷ 1 ∷ 0 ∷ 0 ∷ 3 ∷ 0 ∷ 0 ∷ 0 ∷ 0 ∷ 1 ∷ 0 ∷ 0 ∷ 2 ∷ 1 ∷ 0 ∷ 0 ∷ 2 ∷ 3 ∷ 0 ∷ 0 ∷ 2 ∷ 1 ∷ 0 ∷ 0 ∷ 2 ∷ 3 ∷ []) ∷ (0 ∷ 3 ∷ 6 ∷ 9 ∷ 12 ∷ 16 ∷ 20 ∷ 24 ∷ []) ∷ (0 ∷ 1 ∷ 2 ∷ 3 ∷ 4 ∷ 6 ∷ []) ∷ (0 ∷ 0 ∷ 0 ∷ 0 ∷ 1 ∷ 0 ∷ 0 ∷ 0 ∷ 0 ∷ 0 ∷ 1 ∷ 0 ∷ 1 ∷ 0 ∷ 1 ∷ 0 ∷ 0 ∷ 0 ∷ 2 ∷ 0 ∷ 0 ∷ 0 ∷ 3 ∷ 0 ∷ 1 ∷ 0 ∷ 3 ∷ 0 ∷ 0 ∷ 2 ∷ 4 ∷ 0 ∷ 1 ∷ 2 ∷ 0 ∷ 0 ∷ 0 ∷ 3 ∷ 5 ∷ 0 ∷ 1 ∷ 3 ∷ 0 ∷ 0 ∷ 0 ∷ 3 ∷ 6 ∷ 0 ∷ 0 ∷ 3 ∷ 7 ∷ 0 ∷ 1 ∷ 3 ∷ 2 ∷ 0 ∷ 3 ∷ 3 ∷ 5 ∷ 0 ∷ 2 ∷ 3 ∷ 2 ∷ 0 ∷ []) ∷ ([]) ∷ [])
unfolding step bits bytes crc5_of crc16_of after format_of format_ok format_reason reason_of checked_of transaction_status extract_payload details_of with_type with_detail fresh is_read is_set_configuration is_set_interface kind_by kind_of laid is_whole whole_in whole is_of first_of max_of value_of chunks applied count_set note_of with_max device_after count_after shelf_after row_after setup_group control_group begin_group repeat_group other_group group_status group_update group_early_start group_early_append transaction_update event_update handle_raw_packet handle_event handle_detail finish
run-chirp-57 = refl

run-keepalive-58 :
    Leaves (packet (0x78 ∷ 0x01 ∷ 0x01 ∷ 0xB2 ∷ []) 2953339300 ∷ event 0 210 2953341129 ∷ event 0 110 2953341799 ∷ event 4 124 2953342175 ∷ packet (0x78 ∷ 0x81 ∷ 0x01 ∷ 0x9C ∷ []) 2953343385 ∷ packet (0xE1 ∷ 0x03 ∷ 0x50 ∷ []) 2953345372 ∷ event 0 175 2953346946 ∷ event 0 229 2953347774 ∷ packet (0x69 ∷ 0x03 ∷ 0x50 ∷ []) 2953348779 ∷ event 0 23 2953349393 ∷ packet (0x69 ∷ 0x03 ∷ 0x50 ∷ []) 2953350123 ∷ event 0 81 2953352105 ∷ packet (0xD2 ∷ []) 2953354099 ∷ packet (0xE1 ∷ 0x80 ∷ 0xA0 ∷ []) 2953354233 ∷ packet (0xC3 ∷ 0xFD ∷ 0xBB ∷ 0x41 ∷ 0x19 ∷ 0x72 ∷ 0xC4 ∷ 0x2F ∷ 0x90 ∷ 0x2E ∷ 0x28 ∷ []) 2953355273 ∷ event 0 192 2953356877 ∷ finishing ∷ [])
    ((120 ∷ 1 ∷ 1 ∷ 178 ∷ 120 ∷ 129 ∷ 1 ∷ 156 ∷ 225 ∷ 3 ∷ 80 ∷ 105 ∷ 3 ∷ 80 ∷ 105 ∷ 3 ∷ 80 ∷ 210 ∷ 225 ∷ 128 ∷ 160 ∷ 195 ∷ 253 ∷ 187 ∷ 65 ∷ 25 ∷ 114 ∷ 196 ∷ 47 ∷ 144 ∷ 46 ∷ 40 ∷ []) ∷ (0 ∷ 3 ∷ []) ∷ (0 ∷ 16 ∷ 0 ∷ 0 ∷ 17 ∷ 0 ∷ 0 ∷ 18 ∷ 0 ∷ 1 ∷ 0 ∷ 0 ∷ 0 ∷ 1 ∷ 0 ∷ []) ∷ (0 ∷ 2953339300 ∷ 4 ∷ 2953341129 ∷ 4 ∷ 2953341799 ∷ 4 ∷ 2953342175 ∷ 4 ∷ 2953343385 ∷ 8 ∷ 2953345372 ∷ 11 ∷ 2953346946 ∷ 11 ∷ 2953347774 ∷ 11 ∷ 2953348779 ∷ 14 ∷ 2953349393 ∷ 14 ∷ 2953350123 ∷ 17 ∷ 2953352105 ∷ 17 ∷ 2953354099 ∷ 18 ∷ 2953354233 ∷ 21 ∷ 2953355273 ∷ 32 ∷ 2953356877 ∷ []) ∷ (1 ∷ 210 ∷ 2 ∷ 110 ∷ 3 ∷ 124 ∷ 6 ∷ 175 ∷ 7 ∷ 229 ∷ 9 ∷ 23 ∷ 11 ∷ 81 ∷ 15 ∷ 192 ∷ []) ∷ (0 ∷ 0 ∷ 1 ∷ 0 ∷ 3 ∷ 0 ∷ 4 ∷ 0 ∷ 6 ∷ 0 ∷ 8 ∷ 0 ∷ 9 ∷ 0 ∷ 10 ∷ 0 ∷ 10 ∷ 0 ∷ 11 ∷ 0 ∷ 12 ∷ 0 ∷ 12 ∷ 0 ∷ 13 ∷ 0 ∷ 15 ∷ 0 ∷ []) ∷ (0 ∷ 0 ∷ 1 ∷ 1 ∷ 2953341129 ∷ 0 ∷ 1 ∷ 0 ∷ 3 ∷ 2953342175 ∷ 0 ∷ 2 ∷ 1 ∷ 6 ∷ 2953346946 ∷ 3 ∷ 0 ∷ 1 ∷ 8 ∷ 2953348779 ∷ 1 ∷ 0 ∷ 1 ∷ 12 ∷ 2953354099 ∷ 1 ∷ 0 ∷ 0 ∷ 12 ∷ 2953354099 ∷ 4 ∷ 0 ∷ 1 ∷ 13 ∷ 2953354233 ∷ []) ∷ (1 ∷ 0 ∷ 0 ∷ 3 ∷ 0 ∷ 0 ∷ 1 ∷ 0 ∷ 0 ∷ 0 ∷ 2 ∷ 0 ∷ 0 ∷ 1 ∷ 2 ∷ 1 ∷ 0 ∷ 2 ∷ 2 ∷ 3 ∷ 0 ∷ 2 ∷ 2 ∷ 0 ∷ 0 ∷ 2 ∷ 1 ∷ []) ∷ (0 ∷ 3 ∷ 6 ∷ 10 ∷ 14 ∷ 18 ∷ 22 ∷ []) ∷ (0 ∷ 1 ∷ 2 ∷ 3 ∷ 4 ∷ 6 ∷ []) ∷ (0 ∷ 0 ∷ 1 ∷ 0 ∷ 1 ∷ 0 ∷ 0 ∷ 0 ∷ 0 ∷ 0 ∷ 2 ∷ 0 ∷ 1 ∷ 0 ∷ 1 ∷ 0 ∷ 0 ∷ 3 ∷ 3 ∷ 0 ∷ 0 ∷ 0 ∷ 4 ∷ 0 ∷ 1 ∷ 0 ∷ 2 ∷ 0 ∷ 0 ∷ 3 ∷ 5 ∷ 0 ∷ 1 ∷ 3 ∷ 1 ∷ 0 ∷ 0 ∷ 0 ∷ 6 ∷ 0 ∷ 0 ∷ 3 ∷ 7 ∷ 0 ∷ 0 ∷ 0 ∷ 9 ∷ 0 ∷ 0 ∷ 3 ∷ 10 ∷ 0 ∷ 0 ∷ 1 ∷ 11 ∷ 0 ∷ 1 ∷ 1 ∷ 0 ∷ 0 ∷ 0 ∷ 4 ∷ 12 ∷ 0 ∷ 1 ∷ 4 ∷ 0 ∷ 0 ∷ 3 ∷ 1 ∷ 5 ∷ 0 ∷ 0 ∷ 0 ∷ 13 ∷ 0 ∷ []) ∷ ([]) ∷ [])
unfolding step bits bytes crc5_of crc16_of after format_of format_ok format_reason reason_of checked_of transaction_status extract_payload details_of with_type with_detail fresh is_read is_set_configuration is_set_interface kind_by kind_of laid is_whole whole_in whole is_of first_of max_of value_of chunks applied count_set note_of with_max device_after count_after shelf_after row_after setup_group control_group begin_group repeat_group other_group group_status group_update group_early_start group_early_append transaction_update event_update handle_raw_packet handle_event handle_detail finish
run-keepalive-58 = refl

run-detail-59 :
    Leaves (packet (0x69 ∷ 0x80 ∷ 0xA0 ∷ []) 819116844 ∷ packet (0x69 ∷ 0x80 ∷ 0xA0 ∷ []) 819117068 ∷ packet (0x5A ∷ []) 819118585 ∷ detail 0 1 1 0 64 ∷ packet (0x69 ∷ 0x80 ∷ 0xA0 ∷ []) 819119109 ∷ packet (0x4B ∷ 0x61 ∷ 0xA0 ∷ 0x89 ∷ 0x6B ∷ 0x26 ∷ 0x3C ∷ 0x59 ∷ 0xC8 ∷ 0x12 ∷ 0x08 ∷ []) 819119297 ∷ packet (0xD2 ∷ []) 819121077 ∷ packet (0x69 ∷ 0x80 ∷ 0xA0 ∷ []) 819122785 ∷ packet (0xC3 ∷ 0x4C ∷ 0x85 ∷ 0xFE ∷ 0x64 ∷ 0x34 ∷ 0x44 ∷ 0xCA ∷ 0xA1 ∷ 0x6E ∷ 0x77 ∷ 0x0B ∷ 0xA2 ∷ 0x04 ∷ 0xF2 ∷ 0xF0 ∷ 0xDB ∷ 0x56 ∷ 0x41 ∷ 0x8D ∷ 0x67 ∷ 0x22 ∷ 0xC4 ∷ 0x6A ∷ 0x52 ∷ 0x5F ∷ 0x50 ∷ 0x5E ∷ 0x76 ∷ 0xA8 ∷ 0x04 ∷ 0xE0 ∷ 0xED ∷ 0xA6 ∷ 0xA4 ∷ 0x9D ∷ 0x08 ∷ 0x56 ∷ 0x8F ∷ 0x48 ∷ 0x16 ∷ 0xDD ∷ 0x06 ∷ 0xC9 ∷ 0xD0 ∷ 0xC5 ∷ 0x65 ∷ 0xBF ∷ 0x95 ∷ 0x8F ∷ 0x6F ∷ 0x38 ∷ 0x1B ∷ 0xFD ∷ 0x0D ∷ 0xBB ∷ 0x0B ∷ 0x3F ∷ 0xFE ∷ 0x91 ∷ 0x53 ∷ 0xF6 ∷ 0x88 ∷ 0x11 ∷ 0x78 ∷ 0xB5 ∷ []) 819124248 ∷ packet (0xD2 ∷ []) 819125177 ∷ packet (0x69 ∷ 0x80 ∷ 0xA0 ∷ []) 819126741 ∷ packet (0xC3 ∷ 0x6A ∷ 0x22 ∷ 0xD5 ∷ 0x43 ∷ 0x2E ∷ 0xCE ∷ 0x03 ∷ 0xC3 ∷ 0x45 ∷ 0xDD ∷ []) 819126845 ∷ packet (0xD2 ∷ []) 819127689 ∷ packet (0x69 ∷ 0x01 ∷ 0xC1 ∷ []) 819128012 ∷ packet (0x69 ∷ 0x01 ∷ 0xC1 ∷ []) 819129538 ∷ packet (0x5A ∷ []) 819131077 ∷ finishing ∷ [])
    ((105 ∷ 128 ∷ 160 ∷ 105 ∷ 128 ∷ 160 ∷ 90 ∷ 105 ∷ 128 ∷ 160 ∷ 75 ∷ 97 ∷ 160 ∷ 137 ∷ 107 ∷ 38 ∷ 60 ∷ 89 ∷ 200 ∷ 18 ∷ 8 ∷ 210 ∷ 105 ∷ 128 ∷ 160 ∷ 195 ∷ 76 ∷ 133 ∷ 254 ∷ 100 ∷ 52 ∷ 68 ∷ 202 ∷ 161 ∷ 110 ∷ 119 ∷ 11 ∷ 162 ∷ 4 ∷ 242 ∷ 240 ∷ 219 ∷ 86 ∷ 65 ∷ 141 ∷ 103 ∷ 34 ∷ 196 ∷ 106 ∷ 82 ∷ 95 ∷ 80 ∷ 94 ∷ 118 ∷ 168 ∷ 4 ∷ 224 ∷ 237 ∷ 166 ∷ 164 ∷ 157 ∷ 8 ∷ 86 ∷ 143 ∷ 72 ∷ 22 ∷ 221 ∷ 6 ∷ 201 ∷ 208 ∷ 197 ∷ 101 ∷ 191 ∷ 149 ∷ 143 ∷ 111 ∷ 56 ∷ 27 ∷ 253 ∷ 13 ∷ 187 ∷ 11 ∷ 63 ∷ 254 ∷ 145 ∷ 83 ∷ 246 ∷ 136 ∷ 17 ∷ 120 ∷ 181 ∷ 210 ∷ 105 ∷ 128 ∷ 160 ∷ 195 ∷ 106 ∷ 34 ∷ 213 ∷ 67 ∷ 46 ∷ 206 ∷ 3 ∷ 195 ∷ 69 ∷ 221 ∷ 210 ∷ 105 ∷ 1 ∷ 193 ∷ 105 ∷ 1 ∷ 193 ∷ 90 ∷ []) ∷ (0 ∷ 1 ∷ []) ∷ (0 ∷ 16 ∷ 0 ∷ 0 ∷ 17 ∷ 0 ∷ 0 ∷ 18 ∷ 0 ∷ 0 ∷ 1 ∷ 1 ∷ 1 ∷ 2 ∷ 1 ∷ []) ∷ (0 ∷ 819116844 ∷ 3 ∷ 819117068 ∷ 6 ∷ 819118585 ∷ 7 ∷ 819119109 ∷ 10 ∷ 819119297 ∷ 21 ∷ 819121077 ∷ 22 ∷ 819122785 ∷ 25 ∷ 819124248 ∷ 91 ∷ 819125177 ∷ 92 ∷ 819126741 ∷ 95 ∷ 819126845 ∷ 106 ∷ 819127689 ∷ 107 ∷ 819128012 ∷ 110 ∷ 819129538 ∷ 113 ∷ 819131077 ∷ []) ∷ ([]) ∷ (0 ∷ 0 ∷ 1 ∷ 0 ∷ 3 ∷ 0 ∷ 6 ∷ 0 ∷ 9 ∷ 0 ∷ 12 ∷ 0 ∷ 13 ∷ 0 ∷ []) ∷ (3 ∷ 0 ∷ 1 ∷ 0 ∷ 819116844 ∷ 3 ∷ 0 ∷ 0 ∷ 5 ∷ 819121077 ∷ 3 ∷ 1 ∷ 1 ∷ 5 ∷ 819121077 ∷ 3 ∷ 1 ∷ 0 ∷ 5 ∷ 819121077 ∷ 3 ∷ 2 ∷ 1 ∷ 6 ∷ 819122785 ∷ 3 ∷ 2 ∷ 0 ∷ 8 ∷ 819125177 ∷ 3 ∷ 3 ∷ 1 ∷ 9 ∷ 819126741 ∷ 3 ∷ 3 ∷ 0 ∷ 11 ∷ 819127689 ∷ 4 ∷ 0 ∷ 1 ∷ 12 ∷ 819128012 ∷ []) ∷ (0 ∷ 0 ∷ 0 ∷ 1 ∷ 0 ∷ 0 ∷ 0 ∷ 3 ∷ 0 ∷ 0 ∷ 0 ∷ 1 ∷ 0 ∷ 0 ∷ 0 ∷ 3 ∷ 0 ∷ 0 ∷ 0 ∷ 1 ∷ 0 ∷ 0 ∷ 0 ∷ 3 ∷ 0 ∷ 0 ∷ 0 ∷ 1 ∷ 0 ∷ 0 ∷ 0 ∷ 3 ∷ 0 ∷ 0 ∷ 0 ∷ 0 ∷ 1 ∷ []) ∷ (0 ∷ 4 ∷ 8 ∷ 12 ∷ 16 ∷ 20 ∷ 24 ∷ 28 ∷ 32 ∷ []) ∷ (0 ∷ 2 ∷ 4 ∷ 6 ∷ 8 ∷ []) ∷ (0 ∷ 3 ∷ 0 ∷ 0 ∷ 1 ∷ 3 ∷ 0 ∷ 0 ∷ 0 ∷ 3 ∷ 1 ∷ 0 ∷ 0 ∷ 3 ∷ 2 ∷ 0 ∷ 1 ∷ 3 ∷ 2 ∷ 0 ∷ 3 ∷ 3 ∷ 1 ∷ 0 ∷ 0 ∷ 3 ∷ 3 ∷ 0 ∷ 1 ∷ 3 ∷ 3 ∷ 0 ∷ 3 ∷ 3 ∷ 2 ∷ 0 ∷ 2 ∷ 3 ∷ 3 ∷ 0 ∷ 0 ∷ 3 ∷ 4 ∷ 0 ∷ 1 ∷ 3 ∷ 4 ∷ 0 ∷ 3 ∷ 3 ∷ 3 ∷ 0 ∷ 2 ∷ 3 ∷ 4 ∷ 63 ∷ 0 ∷ 4 ∷ 5 ∷ 0 ∷ 1 ∷ 4 ∷ 0 ∷ 0 ∷ 3 ∷ 3 ∷ 4 ∷ 0 ∷ 0 ∷ 4 ∷ 6 ∷ 0 ∷ []) ∷ ([]) ∷ [])
unfolding step bits bytes crc5_of crc16_of after format_of format_ok format_reason reason_of checked_of transaction_status extract_payload details_of with_type with_detail fresh is_read is_set_configuration is_set_interface kind_by kind_of laid is_whole whole_in whole is_of first_of max_of value_of chunks applied count_set note_of with_max device_after count_after shelf_after row_after setup_group control_group begin_group repeat_group other_group group_status group_update group_early_start group_early_append transaction_update event_update handle_raw_packet handle_event handle_detail finish
run-detail-59 = refl

run-address-60 :
    Leaves (packet (0x2D ∷ 0x82 ∷ 0x18 ∷ []) 2442754746 ∷ packet (0xC3 ∷ 0x00 ∷ 0x09 ∷ 0x00 ∷ 0x00 ∷ 0x00 ∷ 0x00 ∷ 0x08 ∷ 0x00 ∷ 0x21 ∷ 0x34 ∷ []) 2442754817 ∷ packet (0xD2 ∷ []) 2442755069 ∷ packet (0xE1 ∷ 0x82 ∷ 0x18 ∷ []) 2442756301 ∷ packet (0xC3 ∷ 0xD9 ∷ 0xC3 ∷ 0x6E ∷ 0xEC ∷ 0x69 ∷ 0x3D ∷ 0xC8 ∷ 0xB2 ∷ 0x43 ∷ 0x72 ∷ []) 2442756499 ∷ packet (0xD2 ∷ []) 2442757438 ∷ packet (0x69 ∷ 0x82 ∷ 0x18 ∷ []) 2442758204 ∷ packet (0x4B ∷ 0x00 ∷ 0x00 ∷ []) 2442759075 ∷ packet (0xD2 ∷ []) 2442759786 ∷ packet (0x69 ∷ 0x82 ∷ 0x31 ∷ []) 2442761236 ∷ packet (0x5A ∷ []) 2442762577 ∷ packet (0x2D ∷ 0x02 ∷ 0xA8 ∷ []) 2442764460 ∷ packet (0xC3 ∷ 0x80 ∷ 0x09 ∷ 0x7F ∷ 0x00 ∷ 0x00 ∷ 0x00 ∷ 0x08 ∷ 0x00 ∷ 0x22 ∷ 0x9B ∷ []) 2442764633 ∷ packet (0xD2 ∷ []) 2442765926 ∷ packet (0x69 ∷ 0x02 ∷ 0xA8 ∷ []) 2442766722 ∷ packet (0x4B ∷ 0xF7 ∷ 0xBA ∷ 0x47 ∷ 0x8A ∷ 0x56 ∷ 0x9A ∷ 0x56 ∷ 0x11 ∷ 0xB2 ∷ 0x3E ∷ []) 2442768200 ∷ finishing ∷ [])
    ((45 ∷ 130 ∷ 24 ∷ 195 ∷ 0 ∷ 9 ∷ 0 ∷ 0 ∷ 0 ∷ 0 ∷ 8 ∷ 0 ∷ 33 ∷ 52 ∷ 210 ∷ 225 ∷ 130 ∷ 24 ∷ 195 ∷ 217 ∷ 195 ∷ 110 ∷ 236 ∷ 105 ∷ 61 ∷ 200 ∷ 178 ∷ 67 ∷ 114 ∷ 210 ∷ 105 ∷ 130 ∷ 24 ∷ 75 ∷ 0 ∷ 0 ∷ 210 ∷ 105 ∷ 130 ∷ 49 ∷ 90 ∷ 45 ∷ 2 ∷ 168 ∷ 195 ∷ 128 ∷ 9 ∷ 127 ∷ 0 ∷ 0 ∷ 0 ∷ 8 ∷ 0 ∷ 34 ∷ 155 ∷ 210 ∷ 105 ∷ 2 ∷ 168 ∷ 75 ∷ 247 ∷ 186 ∷ 71 ∷ 138 ∷ 86 ∷ 154 ∷ 86 ∷ 17 ∷ 178 ∷ 62 ∷ []) ∷ (0 ∷ 2 ∷ []) ∷ (0 ∷ 16 ∷ 0 ∷ 0 ∷ 17 ∷ 0 ∷ 0 ∷ 18 ∷ 0 ∷ 1 ∷ 1 ∷ 0 ∷ 1 ∷ 1 ∷ 1 ∷ 1 ∷ 3 ∷ 1 ∷ 1 ∷ 0 ∷ 0 ∷ []) ∷ (0 ∷ 2442754746 ∷ 3 ∷ 2442754817 ∷ 14 ∷ 2442755069 ∷ 15 ∷ 2442756301 ∷ 18 ∷ 2442756499 ∷ 29 ∷ 2442757438 ∷ 30 ∷ 2442758204 ∷ 33 ∷ 2442759075 ∷ 36 ∷ 2442759786 ∷ 37 ∷ 2442761236 ∷ 40 ∷ 2442762577 ∷ 41 ∷ 2442764460 ∷ 44 ∷ 2442764633 ∷ 55 ∷ 2442765926 ∷ 56 ∷ 2442766722 ∷ 59 ∷ 2442768200 ∷ []) ∷ ([]) ∷ (0 ∷ 0 ∷ 3 ∷ 0 ∷ 6 ∷ 0 ∷ 9 ∷ 0 ∷ 11 ∷ 0 ∷ 14 ∷ 0 ∷ []) ∷ (3 ∷ 0 ∷ 1 ∷ 0 ∷ 2442754746 ∷ 3 ∷ 0 ∷ 0 ∷ 2 ∷ 2442755069 ∷ 3 ∷ 1 ∷ 1 ∷ 3 ∷ 2442756301 ∷ 4 ∷ 0 ∷ 1 ∷ 6 ∷ 2442758204 ∷ 5 ∷ 0 ∷ 1 ∷ 9 ∷ 2442761236 ∷ 6 ∷ 0 ∷ 1 ∷ 11 ∷ 2442764460 ∷ []) ∷ (0 ∷ 0 ∷ 0 ∷ 1 ∷ 0 ∷ 0 ∷ 0 ∷ 3 ∷ 0 ∷ 0 ∷ 0 ∷ 1 ∷ 0 ∷ 0 ∷ 0 ∷ 2 ∷ 1 ∷ 0 ∷ 0 ∷ 0 ∷ 2 ∷ 2 ∷ 1 ∷ 0 ∷ 0 ∷ 0 ∷ 2 ∷ 2 ∷ 2 ∷ 1 ∷ []) ∷ (0 ∷ 4 ∷ 8 ∷ 12 ∷ 17 ∷ 23 ∷ []) ∷ (0 ∷ 2 ∷ 3 ∷ 4 ∷ 5 ∷ []) ∷ (0 ∷ 3 ∷ 0 ∷ 0 ∷ 1 ∷ 3 ∷ 0 ∷ 0 ∷ 0 ∷ 3 ∷ 1 ∷ 0 ∷ 1 ∷ 3 ∷ 1 ∷ 0 ∷ 3 ∷ 3 ∷ 1 ∷ 0 ∷ 2 ∷ 3 ∷ 1 ∷ 0 ∷ 0 ∷ 4 ∷ 2 ∷ 0 ∷ 1 ∷ 4 ∷ 0 ∷ 0 ∷ 2 ∷ 4 ∷ 0 ∷ 0 ∷ 0 ∷ 5 ∷ 3 ∷ 0 ∷ 1 ∷ 5 ∷ 0 ∷ 0 ∷ 0 ∷ 6 ∷ 4 ∷ 0 ∷ 1 ∷ 6 ∷ 0 ∷ 0 ∷ 0 ∷ 6 ∷ 5 ∷ 0 ∷ []) ∷ ([]) ∷ [])
unfolding step bits bytes crc5_of crc16_of after format_of format_ok format_reason reason_of checked_of transaction_status extract_payload details_of with_type with_detail fresh is_read is_set_configuration is_set_interface kind_by kind_of laid is_whole whole_in whole is_of first_of max_of value_of chunks applied count_set note_of with_max device_after count_after shelf_after row_after setup_group control_group begin_group repeat_group other_group group_status group_update group_early_start group_early_append transaction_update event_update handle_raw_packet handle_event handle_detail finish
run-address-60 = refl

run-time-61 :
    Leaves (packet (0xA5 ∷ 0x01 ∷ 0xE8 ∷ []) 2774474355 ∷ packet (0x69 ∷ 0x01 ∷ 0xC1 ∷ []) 2774475811 ∷ packet (0x69 ∷ 0x01 ∷ 0xC1 ∷ []) 2774477723 ∷ packet (0x5A ∷ []) 2774478106 ∷ detail 1 2 1 3 8 ∷ packet (0x69 ∷ 0x01 ∷ 0xC1 ∷ []) 2774478720 ∷ packet (0x5A ∷ []) 2774480187 ∷ packet (0x69 ∷ 0x01 ∷ 0xC1 ∷ []) 2774481763 ∷ packet (0x5A ∷ []) 2774483124 ∷ packet (0xA5 ∷ 0x02 ∷ 0xA8 ∷ []) 4294967848 ∷ packet (0xA5 ∷ 0x03 ∷ 0x50 ∷ []) 4294969520 ∷ packet (0xA5 ∷ 0x04 ∷ 0x28 ∷ []) 4294970139 ∷ packet (0xA5 ∷ 0x05 ∷ 0xD0 ∷ []) 4294971886 ∷ packet (0xA5 ∷ 0x06 ∷ 0x90 ∷ []) 4294973285 ∷ packet (0xA5 ∷ 0x07 ∷ 0x68 ∷ []) 4724680520 ∷ packet (0xA5 ∷ 0x08 ∷ 0x60 ∷ []) 4724680799 ∷ finishing ∷ [])
    ((165 ∷ 1 ∷ 232 ∷ 105 ∷ 1 ∷ 193 ∷ 105 ∷ 1 ∷ 193 ∷ 90 ∷ 105 ∷ 1 ∷ 193 ∷ 90 ∷ 105 ∷ 1 ∷ 193 ∷ 90 ∷ 165 ∷ 2 ∷ 168 ∷ 165 ∷ 3 ∷ 80 ∷ 165 ∷ 4 ∷ 40 ∷ 165 ∷ 5 ∷ 208 ∷ 165 ∷ 6 ∷ 144 ∷ 165 ∷ 7 ∷ 104 ∷ 165 ∷ 8 ∷ 96 ∷ []) ∷ (0 ∷ 1 ∷ []) ∷ (0 ∷ 16 ∷ 0 ∷ 0 ∷ 17 ∷ 0 ∷ 0 ∷ 18 ∷ 0 ∷ 1 ∷ 2 ∷ 1 ∷ []) ∷ (0 ∷ 2774474355 ∷ 3 ∷ 2774475811 ∷ 6 ∷ 2774477723 ∷ 9 ∷ 2774478106 ∷ 10 ∷ 2774478720 ∷ 13 ∷ 2774480187 ∷ 14 ∷ 2774481763 ∷ 17 ∷ 2774483124 ∷ 18 ∷ 4294967848 ∷ 21 ∷ 4294969520 ∷ 24 ∷ 4294970139 ∷ 27 ∷ 4294971886 ∷ 30 ∷ 4294973285 ∷ 33 ∷ 4724680520 ∷ 36 ∷ 4724680799 ∷ []) ∷ ([]) ∷ (0 ∷ 0 ∷ 1 ∷ 0 ∷ 2 ∷ 0 ∷ 4 ∷ 0 ∷ 6 ∷ 0 ∷ 8 ∷ 0 ∷ []) ∷ (2 ∷ 0 ∷ 1 ∷ 0 ∷ 2774474355 ∷ 3 ∷ 0 ∷ 1 ∷ 1 ∷ 2774475811 ∷ []) ∷ (0 ∷ 0 ∷ 1 ∷ 0 ∷ 0 ∷ 2 ∷ 1 ∷ []) ∷ (0 ∷ 3 ∷ []) ∷ (0 ∷ 1 ∷ []) ∷ (0 ∷ 2 ∷ 0 ∷ 0 ∷ 1 ∷ 2 ∷ 0 ∷ 0 ∷ 0 ∷ 3 ∷ 1 ∷ 0 ∷ 1 ∷ 3 ∷ 0 ∷ 0 ∷ 0 ∷ 3 ∷ 2 ∷ 0 ∷ 0 ∷ 3 ∷ 3 ∷ 0 ∷ 0 ∷ 3 ∷ 4 ∷ 0 ∷ 0 ∷ 2 ∷ 5 ∷ 0 ∷ []) ∷ ([]) ∷ [])
unfolding step bits bytes crc5_of crc16_of after format_of format_ok format_reason reason_of checked_of transaction_status extract_payload details_of with_type with_detail fresh is_read is_set_configuration is_set_interface kind_by kind_of laid is_whole whole_in whole is_of first_of max_of value_of chunks applied count_set note_of with_max device_after count_after shelf_after row_after setup_group control_group begin_group repeat_group other_group group_status group_update group_early_start group_early_append transaction_update event_update handle_raw_packet handle_event handle_detail finish
run-time-61 = refl

run-refused-62 :
    Leaves (packet (0x69 ∷ 0x80 ∷ 0xA0 ∷ []) 2829521224 ∷ packet (0x5A ∷ []) 2829521480 ∷ packet (0x69 ∷ 0x80 ∷ 0xA0 ∷ []) 2829522162 ∷ packet (0x5A ∷ []) 2829523857 ∷ packet (0x69 ∷ 0x80 ∷ 0xA0 ∷ []) 2829525217 ∷ packet (0xC3 ∷ 0x60 ∷ 0x55 ∷ 0xA4 ∷ 0x80 ∷ 0xC5 ∷ 0x85 ∷ 0x09 ∷ 0x89 ∷ 0x4E ∷ 0xF0 ∷ []) 2829525555 ∷ packet (0xD2 ∷ []) 2829526043 ∷ packet (0x69 ∷ 0x80 ∷ 0xA0 ∷ []) 2829527106 ∷ packet (0x4B ∷ 0xCC ∷ 0x85 ∷ 0x24 ∷ 0x88 ∷ 0x54 ∷ 0xEB ∷ 0x66 ∷ 0x0E ∷ 0x4B ∷ 0xA2 ∷ []) 2829528711 ∷ packet (0xD2 ∷ []) 2829528948 ∷ packet (0x69 ∷ 0x80 ∷ 0xA0 ∷ []) 2829530686 ∷ packet (0x4B ∷ 0xF7 ∷ 0x8D ∷ 0x81 ∷ 0xF3 ∷ 0x18 ∷ 0xA4 ∷ 0x15 ∷ 0x08 ∷ []) 2829531974 ∷ packet (0xD2 ∷ []) 2829532984 ∷ packet (0x69 ∷ 0x82 ∷ 0x31 ∷ []) 2829535350 ∷ finishing ∷ [])
    ((105 ∷ 128 ∷ 160 ∷ 90 ∷ 105 ∷ 128 ∷ 160 ∷ 90 ∷ 105 ∷ 128 ∷ 160 ∷ 195 ∷ 96 ∷ 85 ∷ 164 ∷ 128 ∷ 197 ∷ 133 ∷ 9 ∷ 137 ∷ 78 ∷ 240 ∷ 210 ∷ 105 ∷ 128 ∷ 160 ∷ 75 ∷ 204 ∷ 133 ∷ 36 ∷ 136 ∷ 84 ∷ 235 ∷ 102 ∷ 14 ∷ 75 ∷ 162 ∷ 210 ∷ 105 ∷ 128 ∷ 160 ∷ 75 ∷ 247 ∷ 141 ∷ 129 ∷ 243 ∷ 24 ∷ 164 ∷ 21 ∷ 8 ∷ 210 ∷ 105 ∷ 130 ∷ 49 ∷ []) ∷ (0 ∷ 2 ∷ []) ∷ (0 ∷ 16 ∷ 0 ∷ 0 ∷ 17 ∷ 0 ∷ 0 ∷ 18 ∷ 0 ∷ 0 ∷ 1 ∷ 1 ∷ 1 ∷ 3 ∷ 1 ∷ []) ∷ (0 ∷ 2829521224 ∷ 3 ∷ 2829521480 ∷ 4 ∷ 2829522162 ∷ 7 ∷ 2829523857 ∷ 8 ∷ 2829525217 ∷ 11 ∷ 2829525555 ∷ 22 ∷ 2829526043 ∷ 23 ∷ 2829527106 ∷ 26 ∷ 2829528711 ∷ 37 ∷ 2829528948 ∷ 38 ∷ 2829530686 ∷ 41 ∷ 2829531974 ∷ 50 ∷ 2829532984 ∷ 51 ∷ 2829535350 ∷ []) ∷ ([]) ∷ (0 ∷ 0 ∷ 2 ∷ 0 ∷ 4 ∷ 0 ∷ 7 ∷ 0 ∷ 10 ∷ 0 ∷ 13 ∷ 0 ∷ []) ∷ (3 ∷ 0 ∷ 1 ∷ 0 ∷ 2829521224 ∷ 3 ∷ 0 ∷ 0 ∷ 6 ∷ 2829526043 ∷ 3 ∷ 1 ∷ 1 ∷ 6 ∷ 2829526043 ∷ 4 ∷ 0 ∷ 1 ∷ 13 ∷ 2829535350 ∷ []) ∷ (0 ∷ 0 ∷ 0 ∷ 1 ∷ 0 ∷ 0 ∷ 0 ∷ 3 ∷ 0 ∷ 0 ∷ 0 ∷ 1 ∷ 0 ∷ 0 ∷ 0 ∷ 2 ∷ 1 ∷ []) ∷ (0 ∷ 4 ∷ 8 ∷ 12 ∷ []) ∷ (0 ∷ 2 ∷ 3 ∷ []) ∷ (0 ∷ 3 ∷ 0 ∷ 0 ∷ 1 ∷ 3 ∷ 0 ∷ 0 ∷ 0 ∷ 3 ∷ 1 ∷ 0 ∷ 0 ∷ 3 ∷ 2 ∷ 0 ∷ 1 ∷ 3 ∷ 2 ∷ 0 ∷ 3 ∷ 3 ∷ 1 ∷ 0 ∷ 2 ∷ 3 ∷ 2 ∷ 0 ∷ 0 ∷ 3 ∷ 3 ∷ 0 ∷ 2 ∷ 3 ∷ 3 ∷ 8 ∷ 0 ∷ 3 ∷ 4 ∷ 0 ∷ 2 ∷ 3 ∷ 4 ∷ 16 ∷ 0 ∷ 4 ∷ 5 ∷ 0 ∷ 1 ∷ 4 ∷ 0 ∷ 0 ∷ []) ∷ ([]) ∷ [])
unfolding step bits bytes crc5_of crc16_of after format_of format_ok format_reason reason_of checked_of transaction_status extract_payload details_of with_type with_detail fresh is_read is_set_configuration is_set_interface kind_by kind_of laid is_whole whole_in whole is_of first_of max_of value_of chunks applied count_set note_of with_max device_after count_after shelf_after row_after setup_group control_group begin_group repeat_group other_group group_status group_update group_early_start group_early_append transaction_update event_update handle_raw_packet handle_event handle_detail finish
run-refused-62 = refl

run-soup-63 :
    Leaves (packet (0x2D ∷ 0x03 ∷ 0x50 ∷ []) 2898560192 ∷ packet (0x78 ∷ 0x81 ∷ 0x01 ∷ 0x6A ∷ []) 2898561454 ∷ event 1 167 2898561752 ∷ packet (0xA5 ∷ 0x96 ∷ 0xE9 ∷ []) 2898563720 ∷ packet (0x3C ∷ []) 2898564597 ∷ event 2 214 2898565085 ∷ packet (0x2D ∷ 0x80 ∷ 0x89 ∷ []) 2898566162 ∷ packet (0xA5 ∷ 0x92 ∷ 0x75 ∷ []) 2898567427 ∷ packet ([]) 2898568340 ∷ packet (0xA5 ∷ 0xE1 ∷ 0xDA ∷ []) 2898570212 ∷ packet (0x69 ∷ 0x01 ∷ 0xC1 ∷ []) 2898570505 ∷ packet (0x69 ∷ 0x01 ∷ 0xC1 ∷ []) 2898572098 ∷ packet (0x69 ∷ 0x01 ∷ 0xC1 ∷ []) 2898572341 ∷ packet (0x5A ∷ []) 2898574043 ∷ detail 1 2 1 3 8 ∷ packet (0x69 ∷ 0x00 ∷ 0x39 ∷ []) 2898575164 ∷ finishing ∷ [])
    ((45 ∷ 3 ∷ 80 ∷ 120 ∷ 129 ∷ 1 ∷ 106 ∷ 165 ∷ 150 ∷ 233 ∷ 60 ∷ 45 ∷ 128 ∷ 137 ∷ 165 ∷ 146 ∷ 117 ∷ 165 ∷ 225 ∷ 218 ∷ 105 ∷ 1 ∷ 193 ∷ 105 ∷ 1 ∷ 193 ∷ 105 ∷ 1 ∷ 193 ∷ 90 ∷ 105 ∷ 0 ∷ 57 ∷ []) ∷ (0 ∷ 3 ∷ 1 ∷ []) ∷ (0 ∷ 16 ∷ 0 ∷ 0 ∷ 17 ∷ 0 ∷ 0 ∷ 18 ∷ 0 ∷ 1 ∷ 0 ∷ 0 ∷ 0 ∷ 3 ∷ 0 ∷ 2 ∷ 2 ∷ 1 ∷ 0 ∷ 2 ∷ 1 ∷ []) ∷ (0 ∷ 2898560192 ∷ 3 ∷ 2898561454 ∷ 7 ∷ 2898561752 ∷ 7 ∷ 2898563720 ∷ 10 ∷ 2898564597 ∷ 11 ∷ 2898565085 ∷ 11 ∷ 2898566162 ∷ 14 ∷ 2898567427 ∷ 17 ∷ 2898568340 ∷ 17 ∷ 2898570212 ∷ 20 ∷ 2898570505 ∷ 23 ∷ 2898572098 ∷ 26 ∷ 2898572341 ∷ 29 ∷ 2898574043 ∷ 30 ∷ 2898575164 ∷ []) ∷ (2 ∷ 167 ∷ 5 ∷ 214 ∷ []) ∷ (0 ∷ 0 ∷ 1 ∷ 0 ∷ 2 ∷ 0 ∷ 3 ∷ 0 ∷ 4 ∷ 0 ∷ 5 ∷ 0 ∷ 6 ∷ 0 ∷ 7 ∷ 0 ∷ 8 ∷ 1 ∷ 9 ∷ 0 ∷ 10 ∷ 0 ∷ 11 ∷ 0 ∷ 12 ∷ 0 ∷ 14 ∷ 0 ∷ []) ∷ (3 ∷ 0 ∷ 1 ∷ 0 ∷ 2898560192 ∷ 0 ∷ 0 ∷ 0 ∷ 2 ∷ 2898561752 ∷ 2 ∷ 0 ∷ 1 ∷ 3 ∷ 2898563720 ∷ 1 ∷ 0 ∷ 1 ∷ 4 ∷ 2898564597 ∷ 1 ∷ 0 ∷ 0 ∷ 4 ∷ 2898564597 ∷ 0 ∷ 1 ∷ 0 ∷ 5 ∷ 2898565085 ∷ 4 ∷ 0 ∷ 1 ∷ 6 ∷ 2898566162 ∷ 4 ∷ 0 ∷ 0 ∷ 7 ∷ 2898567427 ∷ 2 ∷ 1 ∷ 1 ∷ 7 ∷ 2898567427 ∷ 1 ∷ 1 ∷ 1 ∷ 8 ∷ 2898568340 ∷ 1 ∷ 1 ∷ 0 ∷ 8 ∷ 2898568340 ∷ 2 ∷ 2 ∷ 1 ∷ 9 ∷ 2898570212 ∷ 5 ∷ 0 ∷ 1 ∷ 10 ∷ 2898570505 ∷ 6 ∷ 0 ∷ 1 ∷ 14 ∷ 2898575164 ∷ []) ∷ (0 ∷ 0 ∷ 0 ∷ 1 ∷ 3 ∷ 0 ∷ 0 ∷ 3 ∷ 0 ∷ 0 ∷ 1 ∷ 0 ∷ 0 ∷ 1 ∷ 2 ∷ 0 ∷ 0 ∷ 3 ∷ 2 ∷ 0 ∷ 3 ∷ 0 ∷ 3 ∷ 0 ∷ 0 ∷ 0 ∷ 0 ∷ 0 ∷ 1 ∷ 0 ∷ 0 ∷ 0 ∷ 0 ∷ 3 ∷ 0 ∷ 0 ∷ 1 ∷ 0 ∷ 0 ∷ 0 ∷ 1 ∷ 2 ∷ 0 ∷ 0 ∷ 0 ∷ 3 ∷ 2 ∷ 0 ∷ 0 ∷ 0 ∷ 0 ∷ 1 ∷ 0 ∷ 0 ∷ 0 ∷ 0 ∷ 2 ∷ 0 ∷ 0 ∷ 1 ∷ 0 ∷ 0 ∷ 2 ∷ 0 ∷ 0 ∷ 2 ∷ 1 ∷ []) ∷ (0 ∷ 4 ∷ 8 ∷ 12 ∷ 16 ∷ 20 ∷ 24 ∷ 29 ∷ 34 ∷ 39 ∷ 44 ∷ 49 ∷ 54 ∷ 60 ∷ []) ∷ (0 ∷ 1 ∷ 2 ∷ 3 ∷ 5 ∷ 6 ∷ 8 ∷ 9 ∷ 11 ∷ 12 ∷ 13 ∷ []) ∷ (0 ∷ 3 ∷ 0 ∷ 0 ∷ 1 ∷ 3 ∷ 0 ∷ 0 ∷ 0 ∷ 0 ∷ 2 ∷ 0 ∷ 1 ∷ 0 ∷ 0 ∷ 0 ∷ 3 ∷ 3 ∷ 1 ∷ 0 ∷ 0 ∷ 2 ∷ 3 ∷ 0 ∷ 1 ∷ 2 ∷ 0 ∷ 0 ∷ 0 ∷ 1 ∷ 4 ∷ 0 ∷ 1 ∷ 1 ∷ 0 ∷ 0 ∷ 0 ∷ 0 ∷ 5 ∷ 0 ∷ 1 ∷ 0 ∷ 1 ∷ 0 ∷ 3 ∷ 1 ∷ 4 ∷ 0 ∷ 0 ∷ 4 ∷ 6 ∷ 0 ∷ 1 ∷ 4 ∷ 0 ∷ 0 ∷ 0 ∷ 2 ∷ 7 ∷ 0 ∷ 1 ∷ 2 ∷ 1 ∷ 0 ∷ 3 ∷ 2 ∷ 6 ∷ 0 ∷ 3 ∷ 4 ∷ 6 ∷ 0 ∷ 0 ∷ 1 ∷ 8 ∷ 0 ∷ 1 ∷ 1 ∷ 1 ∷ 0 ∷ 0 ∷ 2 ∷ 9 ∷ 0 ∷ 1 ∷ 2 ∷ 2 ∷ 0 ∷ 3 ∷ 1 ∷ 8 ∷ 0 ∷ 3 ∷ 2 ∷ 8 ∷ 0 ∷ 0 ∷ 5 ∷ 10 ∷ 0 ∷ 1 ∷ 5 ∷ 0 ∷ 0 ∷ 0 ∷ 5 ∷ 11 ∷ 0 ∷ 0 ∷ 5 ∷ 12 ∷ 0 ∷ 0 ∷ 6 ∷ 13 ∷ 0 ∷ 1 ∷ 6 ∷ 0 ∷ 0 ∷ []) ∷ ([]) ∷ [])
unfolding step bits bytes crc5_of crc16_of after format_of format_ok format_reason reason_of checked_of transaction_status extract_payload details_of with_type with_detail fresh is_read is_set_configuration is_set_interface kind_by kind_of laid is_whole whole_in whole is_of first_of max_of value_of chunks applied count_set note_of with_max device_after count_after shelf_after row_after setup_group control_group begin_group repeat_group other_group group_status group_update group_early_start group_early_append transaction_update event_update handle_raw_packet handle_event handle_detail finish
run-soup-63 = refl

run-mixed-64 :
    Leaves (packet (0x69 ∷ 0x02 ∷ 0x81 ∷ []) 4226191536 ∷ event 0 222 4226192683 ∷ packet (0x78 ∷ 0x81 ∷ 0x01 ∷ 0x9C ∷ []) 4226194409 ∷ packet (0xE1 ∷ 0x02 ∷ 0x81 ∷ []) 4226195061 ∷ packet (0x69 ∷ 0x02 ∷ 0x81 ∷ []) 4226196417 ∷ event 4 139 4226196594 ∷ packet (0x2D ∷ 0x02 ∷ 0xA8 ∷ []) 4226197553 ∷ packet (0xC3 ∷ 0x80 ∷ 0x06 ∷ 0x00 ∷ 0x01 ∷ 0x00 ∷ 0x00 ∷ 0x08 ∷ 0x00 ∷ 0xEB ∷ 0x94 ∷ []) 4226198544 ∷ event 0 148 4226198614 ∷ event 5 124 4226198714 ∷ event 4 226 4226200456 ∷ packet (0xD2 ∷ []) 4226201469 ∷ packet (0x5A ∷ []) 4226202915 ∷ packet (0x0F ∷ 0x00 ∷ 0x00 ∷ []) 4226203515 ∷ packet ([]) 4226204793 ∷ packet (0x78 ∷ 0x01 ∷ 0x01 ∷ 0xE0 ∷ []) 4226205328 ∷ finishing ∷ [])
    ((105 ∷ 2 ∷ 129 ∷ 120 ∷ 129 ∷ 1 ∷ 156 ∷ 225 ∷ 2 ∷ 129 ∷ 105 ∷ 2 ∷ 129 ∷ 45 ∷ 2 ∷ 168 ∷ 195 ∷ 128 ∷ 6 ∷ 0 ∷ 1 ∷ 0 ∷ 0 ∷ 8 ∷ 0 ∷ 235 ∷ 148 ∷ 210 ∷ 90 ∷ 15 ∷ 0 ∷ 0 ∷ 120 ∷ 1 ∷ 1 ∷ 224 ∷ []) ∷ (0 ∷ 2 ∷ []) ∷ (0 ∷ 16 ∷ 0 ∷ 0 ∷ 17 ∷ 0 ∷ 0 ∷ 18 ∷ 0 ∷ 1 ∷ 2 ∷ 1 ∷ 1 ∷ 2 ∷ 0 ∷ 1 ∷ 0 ∷ 0 ∷ []) ∷ (0 ∷ 4226191536 ∷ 3 ∷ 4226192683 ∷ 3 ∷ 4226194409 ∷ 7 ∷ 4226195061 ∷ 10 ∷ 4226196417 ∷ 13 ∷ 4226196594 ∷ 13 ∷ 4226197553 ∷ 16 ∷ 4226198544 ∷ 27 ∷ 4226198614 ∷ 27 ∷ 4226198714 ∷ 27 ∷ 4226200456 ∷ 27 ∷ 4226201469 ∷ 28 ∷ 4226202915 ∷ 29 ∷ 4226203515 ∷ 32 ∷ 4226204793 ∷ 32 ∷ 4226205328 ∷ []) ∷ (1 ∷ 222 ∷ 5 ∷ 139 ∷ 8 ∷ 148 ∷ 9 ∷ 124 ∷ 10 ∷ 226 ∷ []) ∷ (0 ∷ 0 ∷ 1 ∷ 0 ∷ 2 ∷ 0 ∷ 2 ∷ 0 ∷ 4 ∷ 0 ∷ 5 ∷ 0 ∷ 6 ∷ 0 ∷ 8 ∷ 0 ∷ 9 ∷ 0 ∷ 10 ∷ 0 ∷ 11 ∷ 0 ∷ 12 ∷ 0 ∷ 13 ∷ 0 ∷ 14 ∷ 1 ∷ 15 ∷ 0 ∷ []) ∷ (3 ∷ 0 ∷ 1 ∷ 0 ∷ 4226191536 ∷ 0 ∷ 0 ∷ 1 ∷ 1 ∷ 4226192683 ∷ 0 ∷ 1 ∷ 0 ∷ 5 ∷ 4226196594 ∷ 5 ∷ 0 ∷ 1 ∷ 6 ∷ 4226197553 ∷ 0 ∷ 2 ∷ 1 ∷ 8 ∷ 4226198614 ∷ 0 ∷ 3 ∷ 0 ∷ 9 ∷ 4226198714 ∷ 0 ∷ 4 ∷ 0 ∷ 10 ∷ 4226200456 ∷ 1 ∷ 0 ∷ 1 ∷ 12 ∷ 4226202915 ∷ 1 ∷ 0 ∷ 0 ∷ 12 ∷ 4226202915 ∷ 1 ∷ 1 ∷ 1 ∷ 13 ∷ 4226203515 ∷ 1 ∷ 1 ∷ 0 ∷ 13 ∷ 4226203515 ∷ 1 ∷ 2 ∷ 1 ∷ 14 ∷ 4226204793 ∷ 1 ∷ 2 ∷ 0 ∷ 14 ∷ 4226204793 ∷ []) ∷ (0 ∷ 0 ∷ 0 ∷ 1 ∷ 1 ∷ 0 ∷ 0 ∷ 3 ∷ 3 ∷ 0 ∷ 0 ∷ 0 ∷ 0 ∷ 0 ∷ 0 ∷ 0 ∷ 0 ∷ 0 ∷ 1 ∷ 1 ∷ 0 ∷ 0 ∷ 0 ∷ 0 ∷ 3 ∷ 3 ∷ 0 ∷ 0 ∷ 0 ∷ 0 ∷ 0 ∷ 3 ∷ 0 ∷ 0 ∷ 0 ∷ 0 ∷ 0 ∷ 0 ∷ 1 ∷ 0 ∷ 0 ∷ 0 ∷ 0 ∷ 0 ∷ 3 ∷ 0 ∷ 0 ∷ 0 ∷ 0 ∷ 0 ∷ 1 ∷ 0 ∷ 0 ∷ 0 ∷ 0 ∷ 0 ∷ 3 ∷ 0 ∷ 0 ∷ 0 ∷ 0 ∷ 0 ∷ 1 ∷ 0 ∷ 0 ∷ 0 ∷ 0 ∷ 0 ∷ 3 ∷ 0 ∷ 0 ∷ 0 ∷ 0 ∷ []) ∷ (0 ∷ 4 ∷ 8 ∷ 13 ∷ 19 ∷ 25 ∷ 31 ∷ 37 ∷ 43 ∷ 49 ∷ 55 ∷ 61 ∷ 67 ∷ []) ∷ (0 ∷ 1 ∷ 2 ∷ 3 ∷ 4 ∷ 5 ∷ 6 ∷ 7 ∷ 9 ∷ 11 ∷ []) ∷ (0 ∷ 3 ∷ 0 ∷ 0 ∷ 1 ∷ 3 ∷ 0 ∷ 0 ∷ 0 ∷ 0 ∷ 1 ∷ 0 ∷ 1 ∷ 0 ∷ 0 ∷ 0 ∷ 0 ∷ 3 ∷ 2 ∷ 0 ∷ 0 ∷ 4 ∷ 3 ∷ 0 ∷ 0 ∷ 3 ∷ 4 ∷ 0 ∷ 0 ∷ 0 ∷ 5 ∷ 0 ∷ 1 ∷ 0 ∷ 1 ∷ 0 ∷ 3 ∷ 3 ∷ 2 ∷ 0 ∷ 0 ∷ 5 ∷ 6 ∷ 0 ∷ 1 ∷ 5 ∷ 0 ∷ 0 ∷ 0 ∷ 0 ∷ 7 ∷ 0 ∷ 1 ∷ 0 ∷ 2 ∷ 0 ∷ 0 ∷ 0 ∷ 8 ∷ 0 ∷ 1 ∷ 0 ∷ 3 ∷ 0 ∷ 0 ∷ 0 ∷ 9 ∷ 0 ∷ 1 ∷ 0 ∷ 4 ∷ 0 ∷ 0 ∷ 5 ∷ 10 ∷ 0 ∷ 0 ∷ 1 ∷ 11 ∷ 0 ∷ 1 ∷ 1 ∷ 0 ∷ 0 ∷ 0 ∷ 1 ∷ 12 ∷ 0 ∷ 1 ∷ 1 ∷ 1 ∷ 0 ∷ 3 ∷ 1 ∷ 8 ∷ 0 ∷ 0 ∷ 1 ∷ 13 ∷ 0 ∷ 1 ∷ 1 ∷ 2 ∷ 0 ∷ 3 ∷ 1 ∷ 9 ∷ 0 ∷ []) ∷ ([]) ∷ [])
unfolding step bits bytes crc5_of crc16_of after format_of format_ok format_reason reason_of checked_of transaction_status extract_payload details_of with_type with_detail fresh is_read is_set_configuration is_set_interface kind_by kind_of laid is_whole whole_in whole is_of first_of max_of value_of chunks applied count_set note_of with_max device_after count_after shelf_after row_after setup_group control_group begin_group repeat_group other_group group_status group_update group_early_start group_early_append transaction_update event_update handle_raw_packet handle_event handle_detail finish
run-mixed-64 = refl
