-- To be believed: USB 2.0, 8.4.1, 8.4.2 and 9.3: the fields of a packet, each with its first bit and its number of bits.
-- Assumes nothing.
-- Hold it to: USB 2.0, 8.4.1, 8.4.2 and 9.3 (table 9-2); TokenFields, SplitFields and SetupFields of usb.rs
use Rattle.std.specs.Prelude.{ℕ, List}
use Rattle.usb.specs.Bits.{after, field}
use Rattle.usb.specs.declared.fields.Token.{Token}
use Rattle.usb.specs.declared.fields.Split.{Split}
use Rattle.usb.specs.declared.fields.Setup.{Setup}

-- 8.4.1, figure 8-5: the 7 bits of ADDR (8.3.2.1), the 4 of ENDP (8.3.2.2)
abbrev pub token_of : List ℕ → Token
token_of p = record { address = field 0 7 (after 2 p); number = field 7 4 (after 2 p) }

-- 8.4.2: hub address, SC, port, S, E (unused where SC is 1), endpoint type
abbrev pub split_of : List ℕ → Split
split_of p =
    record {
      hub = field 0 7 (after 3 p);
      sc = field 7 1 (after 3 p);
      port = field 8 7 (after 3 p);
      start = field 15 1 (after 3 p);
      end = field 16 1 (after 3 p);
      kind = field 17 2 (after 3 p);
    }

-- 9.3: the setup data are the 8 bytes of the payload
abbrev pub setup_data_of : List ℕ → ℕ
setup_data_of p = after 8 p

-- table 9-2: bmRequestType, b_request, wValue, wIndex, wLength
abbrev pub setup_of : ℕ → Setup
setup_of d =
    record {
      kind = field 0 8 d;
      request = field 8 8 d;
      value = field 16 16 d;
      index = field 32 16 d;
      length = field 48 16 d;
    }

-- table 9-2: what bmRequestType is made of
abbrev pub request_type_of : ℕ → ℕ
request_type_of kind = field 5 2 kind

abbrev pub direction_of : ℕ → ℕ
direction_of kind = field 7 1 kind
