-- Short runs from a fresh decoder, computed: every fate is met, with its reason, which no law tells apart. Packet rows are numbered from 0, and events have one too; the endpoint that the
-- packets go to is row 3.
use mathlib.Core.Bool.{false}
use mathlib.Core.List.{List, [], ◌∷◌}
use mathlib.Core.Path.{◌≡◌, refl}
use Prim.Native.Nat.{ℕ}
use Rattle.crc.specs.Crc.{step, bits, bytes, crc5_of, crc16_of}
use Rattle.usb.specs.Bits.{after}
use Rattle.usb.specs.Packet.{format_of, format_ok, format_reason, reason_of, checked_of}
use Rattle.transaction.specs.Status.{transaction_status}
use Rattle.transaction.specs.Payload.{extract_payload}
use Rattle.details.specs.Details.{details_of, with_type, fresh}
use Rattle.descriptors.specs.Kind.{is_read, is_set_configuration, is_set_interface, kind_by, kind_of}
use Rattle.descriptors.specs.Laid.{laid}
use Rattle.descriptors.specs.Whole.{is_whole, whole_in, whole}
use Rattle.descriptors.specs.Entries.{is_of, first_of, max_of, value_of}
use Rattle.descriptors.specs.Store.{chunks}
use Rattle.descriptors.specs.Chosen.{applied, count_set}
use Rattle.descriptors.specs.Complete.{note_of, with_max, device_after, count_after, shelf_after, row_after}
use Rattle.group.specs.Control.{setup_group, control_group}
use Rattle.group.specs.Data.{begin_group, repeat_group, other_group}
use Rattle.group.specs.Group.{group_status}
use Rattle.rules.specs.World.{World}
use Rattle.rules.specs.Groups.{group_update, group_early_start, group_early_append}
use Rattle.rules.specs.Transactions.{transaction_update}
use Rattle.rules.specs.Events.{event_update}
use Rattle.rules.specs.Decoder.{handle_raw_packet, handle_event, finish}
use Rattle.rules.specs.Decoder as Decoder
use Rattle.rules.proofs.Runs.{Lent, packet, event, finishing, runs}
use Rattle.ledger.specs.Ledger.{Setup, Stray, Replaced, Failed, Unused, Waited, Forgotten, Dropped, Fate, Held, Waiting, Counted, Passed, Line, Ledger, packet_turns, turns}

abbrev tells : List Lent → World → Ledger → Ledger
tells [] w l = l
tells (k ∷ ks) w l = tells ks (runs (k ∷ []) w) (turns false (k w.shelf) w l)

-- packet row, length and fate
abbrev line : ℕ → ℕ → Fate → Line
line n m f = record { packet = n; length = m; fate = f }

-- ---- calls: an OUT to address 0, number 1, of which no type is known

abbrev out : Lent
out = packet (0xE1 ∷ 0x80 ∷ 0xA0 ∷ []) 0

-- DATA0 and DATA1 with eight bytes; DATA1 with none
abbrev data0 : Lent
data0 = packet (0xC3 ∷ 0x00 ∷ 0x01 ∷ 0x02 ∷ 0x03 ∷ 0x04 ∷ 0x05 ∷ 0x06 ∷ 0x07 ∷ 0xB9 ∷ 0x85 ∷ []) 0

abbrev data1 : Lent
data1 = packet (0x4B ∷ 0x00 ∷ 0x01 ∷ 0x02 ∷ 0x03 ∷ 0x04 ∷ 0x05 ∷ 0x06 ∷ 0x07 ∷ 0xB9 ∷ 0x85 ∷ []) 0

abbrev empty : Lent
empty = packet (0x4B ∷ 0x00 ∷ 0x00 ∷ []) 0

abbrev ack : Lent
ack = packet (0xD2 ∷ []) 0

abbrev nak : Lent
nak = packet (0x5A ∷ []) 0

-- to number 0: a SETUP, SET_CONFIGURATION 0, and the IN of its status
abbrev setup : Lent
setup = packet (0x2D ∷ 0x00 ∷ 0x10 ∷ []) 0

abbrev request : Lent
request = packet (0xC3 ∷ 0x00 ∷ 0x09 ∷ 0x00 ∷ 0x00 ∷ 0x00 ∷ 0x00 ∷ 0x00 ∷ 0x00 ∷ 0x26 ∷ 0xF4 ∷ []) 0

abbrev status : Lent
status = packet (0x69 ∷ 0x00 ∷ 0x10 ∷ []) 0

-- a start split and a complete split
abbrev ssplit : Lent
ssplit = packet (0x78 ∷ 0x01 ∷ 0x01 ∷ 0x16 ∷ []) 0

abbrev csplit : Lent
csplit = packet (0x78 ∷ 0x81 ∷ 0x01 ∷ 0xCE ∷ []) 0

abbrev keepalive : Lent
keepalive = event 0 0 0

abbrev reset : Lent
reset = event 1 0 0

-- ---- runs, and what became of their payloads, the newest first

abbrev cases : List (List Lent × Ledger)
cases =
    -- acknowledged; refused by a NAK, and repeated
    (out ∷ data0 ∷ ack ∷ out ∷ data1 ∷ nak ∷ out ∷ data1 ∷ ack ∷ [], line 7 8 (Counted 3) ∷ line 4 8 (Passed Failed 3) ∷ line 1 8 (Counted 3) ∷ [])
    -- no handshake yet
    ∷ (out ∷ data0 ∷ [], line 1 8 Held ∷ [])
    -- two data packets behind one token; a token in the place of a handshake
    ∷ (out ∷ data0 ∷ data1 ∷ out ∷ data0 ∷ out ∷ [], line 4 8 (Passed Failed 3) ∷ line 2 8 (Passed Stray 0) ∷ line 1 8 (Passed Replaced 3) ∷ [])
    -- a request without data: its setup bytes, and the empty payload of its status
    ∷ (setup ∷ request ∷ ack ∷ status ∷ empty ∷ ack ∷ [], line 4 0 (Passed Unused 3) ∷ line 1 8 (Passed Setup 3) ∷ [])
    -- no token before it
    ∷ (data0 ∷ [], line 0 8 (Passed Stray 0) ∷ [])
    -- a keepalive before the handshake
    ∷ (out ∷ data0 ∷ keepalive ∷ ack ∷ [], line 1 8 (Counted 3) ∷ [])
    -- two keepalives
    ∷ (out ∷ data0 ∷ keepalive ∷ keepalive ∷ ack ∷ [], line 1 8 (Passed Forgotten 3) ∷ [])
    -- a keepalive, and then another event
    ∷ (out ∷ data0 ∷ keepalive ∷ reset ∷ ack ∷ [], line 1 8 (Counted 3) ∷ [])
    -- another event
    ∷ (out ∷ data0 ∷ reset ∷ [], line 1 8 (Passed Failed 3) ∷ [])
    -- finish
    ∷ (out ∷ data0 ∷ finishing ∷ [], line 1 8 (Passed Failed 3) ∷ [])
    -- a split without its token, a keepalive: answer 8
    ∷ (ssplit ∷ keepalive ∷ data0 ∷ [], line 2 8 (Passed Dropped 0) ∷ [])
    -- a start split's payload waits
    ∷ (ssplit ∷ out ∷ data0 ∷ [], line 2 8 (Waiting 3) ∷ [])
    -- and is counted by the complete split
    ∷ (ssplit ∷ out ∷ data0 ∷ csplit ∷ out ∷ ack ∷ [], line 2 8 (Counted 3) ∷ [])
    -- or is taken by the next end and not used
    ∷ (ssplit ∷ out ∷ data0 ∷ csplit ∷ out ∷ nak ∷ out ∷ data0 ∷ ack ∷ [], line 7 8 (Counted 3) ∷ line 2 8 (Passed Waited 3) ∷ [])
    ∷ []

abbrev Told : List (List Lent × Ledger) → Type 0
Told [] = Unit {0}
Told (c ∷ cs) = (tells c.0 Decoder.fresh [] ≡ c.1) × Told cs

pub fates : Told cases
unfolding step bits bytes crc5_of crc16_of after format_of format_ok format_reason reason_of checked_of transaction_status extract_payload details_of with_type fresh is_read is_set_configuration is_set_interface kind_by kind_of laid is_whole whole_in whole is_of first_of max_of value_of chunks applied count_set note_of with_max device_after count_after shelf_after row_after setup_group control_group begin_group repeat_group other_group group_status group_update group_early_start group_early_append transaction_update event_update handle_raw_packet handle_event finish packet_turns
fates = (refl, (refl, (refl, (refl, (refl, (refl, (refl, (refl, (refl, (refl, (refl, (refl, (refl, (refl, tt))))))))))))))
