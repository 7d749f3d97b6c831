-- An event's row has no record; another's is that of its bytes.
-- Assumes nothing.
use Rattle.std.proofs.Common.{◌≡◌, ℕ, ◌+◌, ◌-◌, ◌*◌, List, get_or, take, drop, sym, subst}
use Rattle.text.specs.Append.{Appended}
use Rattle.pcap.specs.Export.{item_at}
use Rattle.pcap.specs.File.{Item}
use Rattle.pcap.specs.Inner.{record_bytes}
use Rattle.reading.specs.Packets.{packet_bytes}
use Rattle.pcap.proofs.Turns.{bytes_are, one_body}
use Rattle.pcap.proofs.write.write_row.Goals as goal

pub returns : goal.returns
returns c =
    let w = c.write_record in
    let a = c.args in
    let start : ℕ = c.start_of-start.result in
    let size : ℕ = c.size_of.result in
    let time : ℕ = get_or a.packets.now (a.k * 2 + 1) 0 in
    let r : Item = item_at time (packet_bytes a.k a.n a.packets.now a.bytes.now) in
    let packet_is : take (start + size - start) (drop start a.bytes.now) ≡ packet_bytes a.k a.n a.packets.now a.bytes.now =
    bytes_are a.k a.n a.packets.now a.bytes.now c.start_of-start.ensures c.size_of.ensures in
    subst (λ (b : List ℕ). Appended a.out.now a.at b w.new.out w.result) (sym (one_body a.event r c.if-event.false))
    (subst (λ (p : List ℕ). Appended a.out.now a.at (record_bytes time p) w.new.out w.result) packet_is w.ensures)
