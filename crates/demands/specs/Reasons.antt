-- Laws (proved): "Grouping doesn't change" (02, 1): a packet is grouped by its validity, and not by the reason that it is malformed. Two packets that are both malformed and
-- as long as each other leave the same world, and the same rows but for the reason and the packet's bytes. proofs/Reasons.antt proves it.
use Rattle.std.specs.Prelude.{Bool, ℕ, List, [], map, ◌≡◌, length}
use Rattle.usb.specs.Packet.{no_reason, reason_of}
use Rattle.rules.specs.Rows.{Row, naming, BytesRow, DeviceRow, EndpointRow, PacketRow, EventRow, TransactionRow, GroupRow, StateRow, StateBytes, ItemRow, T, G, D, E, RequestRow, Over}
use Rattle.rules.specs.World.{World, with_context, with_journal, stamp}
use Rattle.rules.specs.Decoder.{handle_raw_packet}

-- a row without the reason, and without bytes
abbrev pub plain : Row → Row
plain (BytesRow bs) = BytesRow []
plain (DeviceRow a) = DeviceRow a
plain (EndpointRow d n r) = EndpointRow d n r
plain (PacketRow s t) = PacketRow s t
plain (EventRow p c) = EventRow p c
plain (TransactionRow r) = TransactionRow (naming r.packet no_reason)
plain (GroupRow r) = GroupRow r
plain (StateRow s) = StateRow s
plain (StateBytes ss) = StateBytes ss
plain (ItemRow g) = ItemRow g
plain (T x t) = T x t
plain (G x t) = G x t
plain (D x t n) = D x t n
plain (E x i) = E x i
plain (RequestRow r) = RequestRow r
plain (Over x k) = Over x k

-- a world without them
abbrev pub plainly : World → World
plainly w = with_context (stamp w.context.packet w.context.time no_reason) (with_journal (map plain w.journal) w)

abbrev pub SameGrouping : Type 0
SameGrouping =
    (high : Bool) (p q : List ℕ) (time : ℕ) (w : World)
    → (reason_of p ≡ 0 → ⊥)
    → (reason_of q ≡ 0 → ⊥)
    → length p ≡ length q
    → plainly (handle_raw_packet high p time w) ≡ plainly (handle_raw_packet high q time w)
