-- What was met, and what is left, give the whole.
-- Assumes nothing.
use Rattle.std.proofs.Common.{◌≡◌, ℕ, ◌+◌, ◌*◌, ◌≤◌, length, get_or, sym, refl, ◌∙◌, subst, arith}
use Rattle.pcap.specs.Export.{Source, lent}
use Rattle.reading.specs.Packets.{packet_bytes}
use Rattle.reading.proofs.PacketsLaws.{stops, packet_size}
use Rattle.pcap.specs.Inner.{Small}
use Rattle.pcap.proofs.Turns.{Owed, owed-step, owed_none, small-step}
use Rattle.pcap.proofs.logs.survey_rows.Goals as goal

pub loop-k-preserved : goal.loop-k-preserved
loop-k-preserved c =
    let a = c.args in
    let l = c.loop-k in
    let e = c.is_event-event in
    let logs : Source = lent a.bytes.now a.n a.packets.now a.marks a.events.now in
    let time : ℕ = get_or logs.packets (l.k * 2 + 1) 0 in
    let size_small : c.size_of-size.result ≤ 1073741824 = omega (arith, c.size_of-size.ensures, stops l.k logs.rows logs.packets (length logs.bytes), c.requires.short) in
    let size_is : c.size_of-size.result ≡ length (packet_bytes l.k logs.rows logs.packets logs.bytes) = c.size_of-size.ensures ∙ sym (packet_size l.k logs.rows logs.packets logs.bytes) in (
      subst (Small (l.k + 1)) (sym c.add_row-s.ensures) (small-step l.k l.s e.result time c.size_of-size.result l.invariant.0 size_small),
      subst (Owed logs (l.k + 1)) (sym c.add_row-s.ensures)
          (owed-step logs l.k l.s c.loop-k-test.true time c.size_of-size.result refl size_is l.invariant.1 e.result e.ensures),
    )

pub returns : goal.returns
returns c =
    let a = c.args in
    owed_none (lent a.bytes.now a.n a.packets.now a.marks a.events.now) c.loop-k.k c.loop-k.s c.loop-k-test.false c.loop-k.invariant.1
