-- Laws (proved): the packet and the time in group rows, computed by the rules (02, 9): of packets, of an event that ends a transaction, and of finish.
use mathlib.Core.Path.{◌≡◌, refl}
use mathlib.Core.List.{List, [], ◌∷◌}
use Prim.Native.Nat.{ℕ}
use Rattle.crc.specs.Crc.{step, bits, bytes, crc5_of, crc16_of}
use Rattle.usb.specs.Bits.{after}
use Rattle.usb.specs.Packet.{format_of, format_ok, format_reason, reason_of, checked_of}
use Rattle.transaction.specs.Status.{transaction_status}
use Rattle.transaction.specs.Payload.{extract_payload}
use Rattle.details.specs.Details.{details_of, with_type, with_detail, fresh}
use Rattle.descriptors.specs.Kind.{is_read, is_set_configuration, is_set_interface, kind_by, kind_of}
use Rattle.descriptors.specs.Laid.{laid}
use Rattle.descriptors.specs.Whole.{is_whole, whole_in, whole}
use Rattle.descriptors.specs.Entries.{is_of, first_of, max_of, value_of}
use Rattle.descriptors.specs.Store.{chunks}
use Rattle.descriptors.specs.Chosen.{applied, count_set}
use Rattle.descriptors.specs.Complete.{note_of, with_max, device_after, count_after, shelf_after, row_after}
use Rattle.group.specs.Control.{setup_group, control_group}
use Rattle.group.specs.Data.{begin_group, repeat_group, other_group}
use Rattle.group.specs.Group.{group_status}
use Rattle.rules.specs.Groups.{group_update, group_early_start, group_early_append}
use Rattle.rules.specs.Transactions.{transaction_update}
use Rattle.rules.specs.Events.{event_update}
use Rattle.rules.specs.Decoder as decoder
use Rattle.rules.specs.Decoder.{handle_raw_packet, handle_event, handle_detail, finish}
use Rattle.rules.specs.Rows.{log}
use Rattle.rules.specs.World.{World}
use Rattle.rules.proofs.Runs.{Lent, packet, event, finishing, runs}

-- the fourth and the fifth word of each row of five
abbrev fourths : List ℕ → List ℕ
fourths [] = []
fourths (a ∷ []) = []
fourths (a ∷ b ∷ []) = []
fourths (a ∷ b ∷ c ∷ []) = []
fourths (a ∷ b ∷ c ∷ d ∷ []) = []
fourths (a ∷ b ∷ c ∷ d ∷ e ∷ ws) = d ∷ fourths ws

abbrev fifths : List ℕ → List ℕ
fifths [] = []
fifths (a ∷ []) = []
fifths (a ∷ b ∷ []) = []
fifths (a ∷ b ∷ c ∷ []) = []
fifths (a ∷ b ∷ c ∷ d ∷ []) = []
fifths (a ∷ b ∷ c ∷ d ∷ e ∷ ws) = e ∷ fifths ws

-- a SOF at 5 and a lone ACK at 7, which has a start row and an end row
sof_ack : List Lent
sof_ack = packet (0xA5 ∷ 0x00 ∷ 0x10 ∷ []) 5 ∷ packet (0xD2 ∷ []) 7 ∷ []

numbers : fourths (log 6 (runs sof_ack decoder.fresh).journal) ≡ 0 ∷ 1 ∷ 1 ∷ []
unfolding sof_ack step bits bytes crc5_of crc16_of after format_of format_ok format_reason reason_of checked_of transaction_status extract_payload details_of with_type with_detail fresh is_read is_set_configuration is_set_interface kind_by kind_of laid is_whole whole_in whole is_of first_of max_of value_of chunks applied count_set note_of with_max device_after count_after shelf_after row_after setup_group control_group begin_group repeat_group other_group group_status group_update group_early_start group_early_append transaction_update event_update handle_raw_packet handle_event handle_detail finish
numbers = refl

times : fifths (log 6 (runs sof_ack decoder.fresh).journal) ≡ 5 ∷ 7 ∷ 7 ∷ []
unfolding sof_ack step bits bytes crc5_of crc16_of after format_of format_ok format_reason reason_of checked_of transaction_status extract_payload details_of with_type with_detail fresh is_read is_set_configuration is_set_interface kind_by kind_of laid is_whole whole_in whole is_of first_of max_of value_of chunks applied count_set note_of with_max device_after count_after shelf_after row_after setup_group control_group begin_group repeat_group other_group group_status group_update group_early_start group_early_append transaction_update event_update handle_raw_packet handle_event handle_detail finish
times = refl

-- a SOF at 5 and a PING at 6, whose group starts and ends when its transaction does: by an event at 9, packet 2, with a row of its own; or by finish
sof_ping : List Lent
sof_ping = packet (0xA5 ∷ 0x00 ∷ 0x10 ∷ []) 5 ∷ packet (0xB4 ∷ 0x80 ∷ 0xA0 ∷ []) 6 ∷ []

sof_ping_event : List Lent
sof_ping_event = packet (0xA5 ∷ 0x00 ∷ 0x10 ∷ []) 5 ∷ packet (0xB4 ∷ 0x80 ∷ 0xA0 ∷ []) 6 ∷ event 7 100 9 ∷ []

evented : log 6 (runs sof_ping_event decoder.fresh).journal ≡ 2 ∷ 0 ∷ 1 ∷ 0 ∷ 5 ∷ 3 ∷ 0 ∷ 1 ∷ 2 ∷ 9 ∷ 3 ∷ 0 ∷ 0 ∷ 2 ∷ 9 ∷ 0 ∷ 0 ∷ 0 ∷ 2 ∷ 9 ∷ []
unfolding sof_ping_event step bits bytes crc5_of crc16_of after format_of format_ok format_reason reason_of checked_of transaction_status extract_payload details_of with_type with_detail fresh is_read is_set_configuration is_set_interface kind_by kind_of laid is_whole whole_in whole is_of first_of max_of value_of chunks applied count_set note_of with_max device_after count_after shelf_after row_after setup_group control_group begin_group repeat_group other_group group_status group_update group_early_start group_early_append transaction_update event_update handle_raw_packet handle_event handle_detail finish
evented = refl

finished : log 6 (runs (finishing ∷ []) (runs sof_ping decoder.fresh)).journal ≡ 2 ∷ 0 ∷ 1 ∷ 0 ∷ 5 ∷ 3 ∷ 0 ∷ 1 ∷ 1 ∷ 6 ∷ 3 ∷ 0 ∷ 0 ∷ 1 ∷ 6 ∷ []
unfolding sof_ping step bits bytes crc5_of crc16_of after format_of format_ok format_reason reason_of checked_of transaction_status extract_payload details_of with_type with_detail fresh is_read is_set_configuration is_set_interface kind_by kind_of laid is_whole whole_in whole is_of first_of max_of value_of chunks applied count_set note_of with_max device_after count_after shelf_after row_after setup_group control_group begin_group repeat_group other_group group_status group_update group_early_start group_early_append transaction_update event_update handle_raw_packet handle_event handle_detail finish
finished = refl
