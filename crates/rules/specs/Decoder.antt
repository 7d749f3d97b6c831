-- To be believed: the public functions of decoder.rs, and the detail call of 01. handle_metadata is left out.
-- Hold it to: Decoder::new, handle_raw_packet, handle_event and finish of decoder.rs; 01, "Modules in port order", 3: "A detail call sets both"; 02, 9: "rows written by finish hold the last packet's number and time"
use Rattle.std.specs.Prelude.{Bool, false, List, [], ◌∷◌, ℕ, zero, suc, pred, ◌+◌, eqb, length}
use Rattle.usb.specs.Packet.{no_reason, reason_of}
use Rattle.transaction.specs.Table.{pick}
use Rattle.transaction.specs.declared.Style.TheVariants.{Nothing}
use Rattle.details.specs.Details as details
use Rattle.details.specs.Kind.{Unknown}
use Rattle.endpoints.specs.Table.{with_phase, new_endpoint}
use Rattle.endpoints.specs.declared.Endpoint.{Endpoint}
use Rattle.endpoints.specs.declared.Phase.{Phase}
use Rattle.endpoints.specs.declared.Phase.TheVariants.{None, Early, Active, Ended}
use Rattle.rules.specs.Rows.{Row, BytesRow, PacketRow, EventRow, Over}
use Rattle.rules.specs.World.{World, ◌▷◌, no_item, with_endpoints, with_slot, with_event_state, with_keepalive, with_bytes, with_packets, with_journal, push, new_transaction, make_world, stamp, stamped, last_stamped}
use Rattle.rules.specs.Endpoints.{add_device, device_for, add_endpoint, set_detail_on}
use Rattle.rules.specs.Transactions.{transaction_end, transaction_update}
use Rattle.rules.specs.Events.{LsKeepalive, event_update}
use Rattle.rules.specs.declared.Slot.{Slot}
use Rattle.rules.specs.declared.Slot.TheVariants.{Empty, Current, Suspended}
use Rattle.rules.specs.declared.EventState.TheVariants.{Idle}

-- ---- fn new

abbrev pub nothing_yet : World
nothing_yet = make_world (λ j. new_endpoint 0 0) 0 (λ j. details.fresh 0) 0 Empty (new_transaction Nothing 0 0 0 Unknown) no_item Idle false (stamp 0 0 0) []
    0 0 0 0 0 0 []

-- the default device, and the special endpoints: EVENT_EP_NUM, INVALID_EP_NUM, FRAMING_EP_NUM
abbrev pub fresh : World
fresh = nothing_yet ▷ add_device 0 ▷ add_endpoint 0 0x10 ▷ add_endpoint 0 0x11 ▷ add_endpoint 0 0x12

-- ---- fn handle_raw_packet

-- self.capture.packet_data.append(packet)
abbrev pub append_bytes : List ℕ → World → World
append_bytes packet w = w ▷ push (BytesRow packet) ▷ with_bytes (w.bytes + length packet)

-- packet_index.push(start), packet_times.push(timestamp_ns)
abbrev pub push_packet : ℕ → ℕ → World → World
push_packet start time w = w ▷ push (PacketRow start time) ▷ with_packets (suc w.packets)

unfoldable pub handle_raw_packet : Bool → List ℕ → ℕ → World → World
handle_raw_packet high packet time w =
    w ▷ stamped time (reason_of packet)
    ▷ with_event_state Idle
    ▷ append_bytes packet
    ▷ push_packet w.bytes time
    ▷ transaction_update high w.packets packet

-- ---- fn handle_event

-- self.suspended_transaction = self.transaction_state.take()
abbrev pub suspend_at : Slot → Slot
suspend_at Empty = Empty
suspend_at Current = Suspended
suspend_at Suspended = Empty

abbrev pub suspend : World → World
suspend w = with_slot (suspend_at w.slot) w

-- if let Some(group) = ep_data.active.take(), for each endpoint; early groups stay
abbrev pub end_phase : Phase → Phase
end_phase None = None
end_phase Early = Early
end_phase Active = Ended
end_phase Ended = Ended

abbrev pub over_row : Phase → ℕ → ℕ → List Row → List Row
over_row None x k js = js
over_row Early x k js = js
over_row Active x k js = Over x k ∷ js
over_row Ended x k js = js

abbrev pub over_rows : ℕ → (ℕ → Endpoint) → List Row → List Row
over_rows zero f js = js
over_rows (suc n) f js = over_row (f n).phase n (pred (f n).groups) (over_rows n f js)

abbrev pub end_all_active : World → World
end_all_active w =
    w ▷ with_journal (over_rows w.count w.endpoints w.journal)
    ▷ with_endpoints (λ j. with_phase (end_phase (w.endpoints j).phase) (w.endpoints j))

abbrev pub end_all : World → World
end_all w =
    w ▷ transaction_end false false
    ▷ end_all_active
    ▷ with_keepalive false

-- a keepalive suspends what is running, any other event ends it
abbrev pub interrupt : ℕ → World → World
interrupt kind w = pick (eqb kind LsKeepalive) (suspend w) (end_all w)

unfoldable pub handle_event : ℕ → ℕ → ℕ → World → World
handle_event kind code time w =
    w ▷ stamped time no_reason
    ▷ interrupt kind
    ▷ push_packet w.bytes time
    ▷ push (EventRow w.packets code)
    ▷ event_update w.packets kind

-- ---- fn finish

unfoldable pub finish : World → World
finish w = w ▷ last_stamped ▷ transaction_end false false

-- ---- the detail call (01, Details and tables)

unfoldable pub handle_detail : ℕ → ℕ → ℕ → ℕ → ℕ → World → World
handle_detail address number direction kind max w = set_detail_on (device_for address w) number direction kind max w
