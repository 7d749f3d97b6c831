-- To be believed: the record, the device and the endpoints that a fresh decoder has (fn new of decoder.rs; 01, "Making a fresh decoder"), and the record of a
-- refused one.
-- Hold it to: Decoder::new of decoder.rs; 01, "Answer numbers": "Making a fresh decoder .."
use Rattle.std.specs.Prelude.{ℕ, Bool, false, List, length, set, replicate}
use Rattle.transaction.specs.declared.Style.TheVariants.{Nothing}
use Rattle.transaction.specs.declared.Transaction.{Transaction}
use Rattle.details.specs.Details.{fresh}
use Rattle.details.specs.Kind.{Unknown}
use Rattle.endpoints.specs.Table.{store_at, new_endpoint}
use Rattle.details.specs.declared.Device.{Device}
use Rattle.rules.specs.World.{no_item, new_transaction}
use Rattle.rules.specs.declared.EventState.TheVariants.{Idle}
use Rattle.rules.specs.declared.Slot.TheVariants.{Empty}
use Rattle.record.specs.declared.Counts.{Counts}
use Rattle.record.specs.declared.Decoder.{Decoder}

-- so many devices and endpoints, and no other row
abbrev pub counts_of : ℕ → ℕ → Counts
counts_of m n =
    record {
      bytes = 0;
      devices = m;
      endpoints = n;
      packets = 0;
      events = 0;
      transactions = 0;
      groups = 0;
      statebytes = 0;
      states = 0;
      items = 0;
      links = 0;
      requests = 0;
    }

-- what stands in an empty slot
abbrev pub no_transaction : Transaction
no_transaction = new_transaction Nothing 0 0 0 Unknown

-- in this mode, with those counts, and nothing else yet
abbrev pub idle_with : Bool → Counts → Decoder
idle_with high n =
    record {
      counts = n;
      slot = Empty;
      transaction = no_transaction;
      last = no_item;
      event = Idle;
      keepalive = false;
      waiting = 0;
      finished = false;
      high = high;
      time = 0;
    }

-- "writes one device and three endpoint rows"; "a mode, chosen at the fresh decoder" (02, 6)
abbrev pub fresh_decoder : Bool → Decoder
fresh_decoder high = idle_with high (counts_of 1 3)

-- the default device at address 0, and the special endpoints on it: EVENT_EP_NUM, INVALID_EP_NUM, FRAMING_EP_NUM
abbrev pub fresh_devices : List Device → List Device
fresh_devices devices = set devices 0 (fresh 0)

-- all other words are 0, so that nothing a caller left in the lent table is seen by a later call
abbrev pub clear_table : List ℕ → List ℕ
clear_table table = replicate (length table) 0

unfoldable pub fresh_table : List ℕ → List ℕ
fresh_table table = store_at (store_at (store_at (clear_table table) 0 (new_endpoint 0 0x10)) 1 (new_endpoint 0 0x11)) 2 (new_endpoint 0 0x12)

-- "refused, it returns a record that every call answers 1": its first device does not stand
abbrev pub refused_decoder : Decoder
refused_decoder = idle_with false (counts_of 0 0)
