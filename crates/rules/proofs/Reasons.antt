-- Laws (proved): the reasons in transaction rows, computed by the rules (02, 1): one packet of each, a valid one, an event, and a malformed packet that resumes the suspended
-- transaction, so that it has two rows.
use mathlib.Core.Path.{◌≡◌, refl}
use mathlib.Core.List.{List, [], ◌∷◌}
use Rattle.crc.specs.Crc.{step, bits, bytes, crc5_of, crc16_of}
use Rattle.usb.specs.Bits.{after}
use Rattle.usb.specs.Packet.{format_of, format_ok, format_reason, reason_of, checked_of}
use Rattle.transaction.specs.Status.{transaction_status}
use Rattle.transaction.specs.Payload.{extract_payload}
use Rattle.details.specs.Details.{details_of, with_type, with_detail, fresh}
use Rattle.descriptors.specs.Kind.{is_read, is_set_configuration, is_set_interface, kind_by, kind_of}
use Rattle.descriptors.specs.Laid.{laid}
use Rattle.descriptors.specs.Whole.{is_whole, whole_in, whole}
use Rattle.descriptors.specs.Entries.{is_of, first_of, max_of, value_of}
use Rattle.descriptors.specs.Store.{chunks}
use Rattle.descriptors.specs.Chosen.{applied, count_set}
use Rattle.descriptors.specs.Complete.{note_of, with_max, device_after, count_after, shelf_after, row_after}
use Rattle.group.specs.Control.{setup_group, control_group}
use Rattle.group.specs.Data.{begin_group, repeat_group, other_group}
use Rattle.group.specs.Group.{group_status}
use Rattle.rules.specs.Groups.{group_update, group_early_start, group_early_append}
use Rattle.rules.specs.Transactions.{transaction_update}
use Rattle.rules.specs.Events.{event_update}
use Rattle.rules.specs.Decoder as decoder
use Rattle.rules.specs.Decoder.{handle_raw_packet, handle_event, handle_detail, finish}
use Rattle.rules.specs.Rows.{log}
use Rattle.rules.specs.World.{World}
use Rattle.rules.proofs.Runs.{Lent, packet, event, runs}

malformed : List Lent
malformed =
    -- empty; a SETUP of two bytes; one with a wrong CRC; F0, which is reserved
    packet [] 0
    ∷ packet (0x2D ∷ 0x00 ∷ []) 1
    ∷ packet (0x2D ∷ 0x00 ∷ 0x11 ∷ []) 2
    ∷ packet (0xF0 ∷ []) 3
    -- a SOF, a keepalive, D3
    ∷ packet (0xA5 ∷ 0x00 ∷ 0x10 ∷ []) 4
    ∷ event 0 100 5
    ∷ packet (0xD3 ∷ []) 6 ∷ []

reasons : log 5 (runs malformed decoder.fresh).journal ≡ 0 ∷ 1 ∷ 1 ∷ 3 ∷ 2 ∷ 4 ∷ 3 ∷ 2 ∷ 4 ∷ 0 ∷ 5 ∷ 0 ∷ 6 ∷ 2 ∷ 6 ∷ 2 ∷ []
unfolding malformed step bits bytes crc5_of crc16_of after format_of format_ok format_reason reason_of checked_of transaction_status extract_payload details_of with_type with_detail fresh is_read is_set_configuration is_set_interface kind_by kind_of laid is_whole whole_in whole is_of first_of max_of value_of chunks applied count_set note_of with_max device_after count_after shelf_after row_after setup_group control_group begin_group repeat_group other_group group_status group_update group_early_start group_early_append transaction_update event_update handle_raw_packet handle_event handle_detail finish
reasons = refl
