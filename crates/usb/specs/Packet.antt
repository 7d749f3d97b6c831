-- To be believed: USB 2.0, 8.3 and 8.4, with the lengths of document 01: which byte strings are packets.
-- Assumes nothing.
-- Hold it to: USB 2.0, 8.3 and 8.4; 01, "Packets"; validate_packet of usb.rs; 02, 1: "empty, bad PID byte, wrong length, bad CRC, numbered 1 to 4 and tested in that order"
use Rattle.std.specs.Prelude.{ℕ, ◌-◌, Bool, true, false, List, [], ◌∷◌, eqb, leb, length, get_or, take, drop, Option, Some, None, Result, Ok, Err, ⊤}
use Rattle.crc.specs.Crc.{crc5_of, crc16_of}
use Rattle.usb.specs.Bits.{number, after, field}
use Rattle.usb.specs.Pid.{OUT, IN, SOF, SETUP, DATA0, DATA1, DATA2, MDATA, ACK, NAK, STALL, NYET, ERR, SPLIT, PING}
use Rattle.usb.specs.declared.Format.{Format}
use Rattle.usb.specs.declared.Format.TheVariants.{Token, Handshake, Data, Split}
use Rattle.usb.specs.declared.reason.Reason.{Reason}
use Rattle.usb.specs.declared.reason.Reason.TheVariants.{Empty, Pid, Length, Crc}

abbrev pub pick : {A : Type 0} → Bool → A → A → A
pick true a b = a
pick false a b = b

abbrev pub both : Bool → Bool → Bool
both true b = b
both false b = false

-- whether x stands in a list
abbrev pub among : List ℕ → ℕ → Bool
among [] x = false
among (y ∷ ys) x = pick (eqb x y) true (among ys x)

-- the formats of 8.4
abbrev pub token_format : Option Format
token_format = Some Token

abbrev pub handshake_format : Option Format
handshake_format = Some Handshake

abbrev pub data_format : Option Format
data_format = Some Data

abbrev pub split_format : Option Format
split_format = Some Split

-- table 8-1, with the formats of 8.4.1 and 8.4.3, 8.4.2, 8.4.4, 8.4.5; any other first byte is no PID
unfoldable pub format_of : ℕ → Option Format
format_of pid =
    pick (among (OUT ∷ IN ∷ SOF ∷ SETUP ∷ PING ∷ []) pid) token_format
    (pick (among (SPLIT ∷ []) pid) split_format
    (pick (among (DATA0 ∷ DATA1 ∷ DATA2 ∷ MDATA ∷ []) pid) data_format
    (pick (among (ACK ∷ NAK ∷ STALL ∷ NYET ∷ ERR ∷ []) pid) handshake_format None)))

-- a data packet's payload: from byte 1 up to two before the end
abbrev pub payload_of : List ℕ → List ℕ
payload_of p = take (length p - 3) (drop 1 p)

-- 8.4.1, 8.4.3: 11 bits and their CRC5; 8.4.2: 19 bits and their CRC5; 8.4.4: a payload and its CRC16
abbrev pub token_sums : List ℕ → Bool
token_sums p = eqb (crc5_of (after 2 p) 11) (field 11 5 (after 2 p))

abbrev pub split_sums : List ℕ → Bool
split_sums p = eqb (crc5_of (after 3 p) 19) (field 19 5 (after 3 p))

abbrev pub data_sums : List ℕ → Bool
data_sums p = eqb (crc16_of (payload_of p)) (number (get_or p (length p - 2) 0 ∷ get_or p (length p - 1) 0 ∷ []))

-- what a format asks of a packet, its length and its CRC, put together by `by`: 8.4.1 and 8.4.3, three bytes; 8.4.2, four; 8.4.4, a payload of at most 1,024;
-- 8.4.5, the PID alone. `none` where there is no format
abbrev pub asked : {A : Type 0} → A → (Bool → Bool → A) → Option Format → List ℕ → A
asked none by (Some Token) p = by (eqb (length p) 3) (token_sums p)
asked none by (Some Split) p = by (eqb (length p) 4) (split_sums p)
asked none by (Some Data) p = by (both (leb 3 (length p)) (leb (length p) 1027)) (data_sums p)
asked none by (Some Handshake) p = by (eqb (length p) 1) true
asked none by None p = none

-- both are as they should be
unfoldable pub format_ok : Option Format → List ℕ → Bool
format_ok format p = asked false both format p

-- ---- 02, 1: why bytes are no packet

-- Ok where both are as they should be; the length is tested before the CRC
abbrev pub first_wrong : Bool → Bool → Result ⊤ Reason
first_wrong long sums = pick long (pick sums (Ok tt) (Err Crc)) (Err Length)

-- what is wrong with a packet of this format, if anything is
unfoldable pub format_reason : Option Format → List ℕ → Result ⊤ Reason
format_reason format p = asked (Err Pid) first_wrong format p

-- what was found, with the PID byte where nothing is wrong
abbrev pub with_pid : ℕ → Result ⊤ Reason → Result ℕ Reason
with_pid pid (Ok _) = Ok pid
with_pid pid (Err reason) = Err reason

-- the PID byte of a valid packet; all else is malformed, with the first reason that applies
unfoldable pub checked_of : List ℕ → Result ℕ Reason
checked_of [] = Err Empty
checked_of (pid ∷ rest) = pick (format_ok (format_of pid) (pid ∷ rest)) (Ok pid) (with_pid pid (format_reason (format_of pid) (pid ∷ rest)))

-- the numbers of the reasons, and that of none
abbrev pub no_reason : ℕ
no_reason = 0

abbrev pub reason_number : Reason → ℕ
reason_number Empty = 1
reason_number Pid = 2
reason_number Length = 3
reason_number Crc = 4

abbrev pub number_of : {A : Type 0} → Result A Reason → ℕ
number_of (Ok _) = no_reason
number_of (Err reason) = reason_number reason

-- the number of the first that applies; 0 of a packet that is valid (Laws: reason-none)
unfoldable pub reason_of : List ℕ → ℕ
reason_of [] = reason_number Empty
reason_of (pid ∷ rest) = number_of (format_reason (format_of pid) (pid ∷ rest))
