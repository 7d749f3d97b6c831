-- To be believed: 01's starred bench cases, in its order; lines in quotation marks are its. `Starred`: each of them holds (Cases.antt says what that means),
-- and proofs/Held.antt proves it.
-- Hold it to: 01, "Bench cases", the starred ones in their order; 02, 1, for the reasons
use Rattle.std.specs.Prelude.{ℕ, true, false, List, [], ◌∷◌, Ok, Err}
use Rattle.usb.specs.Pid.{OUT, SETUP, DATA1, ACK}
use Rattle.usb.specs.Types.{Isochronous, Bulk}
use Rattle.usb.specs.declared.reason.Reason.TheVariants.{Empty as NoBytes, Pid as BadPid, Length as WrongLength, Crc as BadCrc}
use Rattle.details.specs.Kind.{Unknown}
use Rattle.transaction.specs.Table.{any, only}
use Rattle.transaction.specs.declared.Status.TheVariants.{Continue, Done, Ambiguous, Invalid}
use Rattle.group.specs.declared.GroupStatus.TheVariants as group
use Rattle.rules.specs.declared.Slot.TheVariants.{Empty, Current, Suspended}
use Rattle.starred.specs.Cases.{Case, check, token, payload, data0, short, group, calls, any_split, any_keepalive, any_packet, ◌answers◌, ◌leaves◌, All}

-- a DATA0 of 11 bytes: the setup data that ask for the device descriptor, and their CRC16; and one of 10, with one byte less
abbrev pub eleven : List ℕ
eleven = 0xC3 ∷ 0x80 ∷ 0x06 ∷ 0x00 ∷ 0x01 ∷ 0x00 ∷ 0x00 ∷ 0x40 ∷ 0x00 ∷ 0xDD ∷ 0x94 ∷ []

abbrev pub ten : List ℕ
ten = 0xC3 ∷ 0x80 ∷ 0x06 ∷ 0x00 ∷ 0x01 ∷ 0x00 ∷ 0x00 ∷ 0x40 ∷ 0x65 ∷ 0x5D ∷ []

abbrev pub cases : List Case
cases =
    -- "empty packet: Malformed." (the reasons are 02's, 1)
    check [] (Err NoBytes)
    -- "`2D 00 10`: SETUP to 0, 0."
    ∷ check (0x2D ∷ 0x00 ∷ 0x10 ∷ []) (Ok SETUP)
    ∷ token (0x2D ∷ 0x00 ∷ 0x10 ∷ []) (record { address = 0; number = 0 })
    -- "`2D 00 11`: Malformed."
    ∷ check (0x2D ∷ 0x00 ∷ 0x11 ∷ []) (Err BadCrc)
    -- "`4B 00 00`: DATA1, empty payload."
    ∷ check (0x4B ∷ 0x00 ∷ 0x00 ∷ []) (Ok DATA1)
    ∷ payload (0x4B ∷ 0x00 ∷ 0x00 ∷ []) []
    -- "`D2` ACK; `D2 00` and `D3` Malformed."
    ∷ check (0xD2 ∷ []) (Ok ACK)
    ∷ check (0xD2 ∷ 0x00 ∷ []) (Err WrongLength)
    ∷ check (0xD3 ∷ []) (Err BadPid)
    -- "SETUP then DATA0 of 11 bytes Continue, of 10 Invalid."
    ∷ data0 SETUP any (only 11) eleven Continue
    ∷ data0 SETUP any (only 10) ten Invalid
    -- "OUT then DATA0: Ambiguous, Done, Continue for unknown, isochronous, bulk."
    ∷ data0 OUT (only Unknown) any eleven Ambiguous
    ∷ data0 OUT (only Isochronous) any eleven Done
    ∷ data0 OUT (only Bulk) any eleven Continue
    -- "63 of 64 is short, 64 not, 0 of unknown not."
    ∷ short 63 64 true
    ∷ short 64 64 false
    ∷ short 0 0 false
    -- so at a bulk endpoint the first closes its group, and the others don't; "isochronous 63 of 64 doesn't close."
    ∷ group Bulk 63 64 group.Done
    ∷ group Bulk 64 64 group.Continue
    ∷ group Bulk 0 0 group.Continue
    ∷ group Isochronous 63 64 group.Continue
    -- "SPLIT, keepalive, packet: answer 8."
    ∷ calls (any_split answers 0 ∷ any_keepalive answers 0 ∷ any_packet answers 8 ∷ [])
    -- "Two keepalives with no packet between: the suspended transaction is gone."
    ∷ calls (any_split leaves Current ∷ any_keepalive leaves Suspended ∷ any_keepalive leaves Empty ∷ any_packet answers 0 ∷ [])
    ∷ []

abbrev pub Starred : Type 0
Starred = All cases
