-- To be believed: what the control rules look at in a request: its fields are USB 2.0's (usb, Fields; 9.3, table 9-2).
-- Hold it to: USB 2.0, 9.3 and table 9-2; 01, "Rules of a group": "wValue mod 256"
use Rattle.std.specs.Prelude.{ℕ, ◌%◌, ◌==◌}
use Rattle.usb.specs.Fields.{setup_of, direction_of, request_type_of}
use Rattle.transaction.specs.Table.{pick}

-- 1 is device to host
abbrev pub direction : ℕ → ℕ
direction setup = direction_of (setup_of setup).kind

-- 0 is standard
abbrev pub request_type : ℕ → ℕ
request_type setup = request_type_of (setup_of setup).kind

abbrev pub b_request : ℕ → ℕ
b_request setup = (setup_of setup).request

-- wValue mod 256 (01, Rules of a group)
abbrev pub address_of : ℕ → ℕ
address_of setup = (setup_of setup).value % 256

-- 1 where wLength is not 0, else 0
abbrev pub with_data : ℕ → ℕ
with_data setup = pick ((setup_of setup).length == 0) 0 1
