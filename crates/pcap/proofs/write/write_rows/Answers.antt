-- The rows that are left give the records that are left.
-- Assumes nothing.
use Rattle.std.proofs.Common.{◌≡◌, ℕ, ◌+◌, ◌-◌, List, ◌++◌, sym, ap, ◌∙◌, subst, arith}
use Rattle.rows.specs.One.{one}
use Rattle.rows.specs.Sets.{one_small}
use Rattle.text.proofs.Appends.{Left, room, step, done}
use Rattle.pcap.specs.File.{body_of}
use Rattle.pcap.specs.Fits.{Fits}
use Rattle.pcap.specs.Export.{Source, lent, written_format, item_of, kept, items_from, items_of}
use Rattle.rows.proofs.FlagLaws.{from-one}
use Rattle.pcap.proofs.Turns.{next_body, no_body, row_fits, rest-fits}
use Rattle.pcap.proofs.write.write_rows.Goals as goal

pub write_row-next-requires-clause-fits : goal.write_row-next-requires-clause-fits
write_row-next-requires-clause-fits c =
    let a = c.args in
    let b = c.is_event-event in
    row_fits (lent a.bytes.now a.n a.packets.now a.marks a.events.now) a.n c.loop-k.k c.loop-k.taken c.loop-k-test.true b.result b.ensures c.loop-k.invariant.1.1

pub write_row-next-requires-clause-room : goal.write_row-next-requires-clause-room
write_row-next-requires-clause-room c =
    let a = c.args in
    let b = c.is_event-event in
    let k : ℕ = c.loop-k.k in
    let taken : ℕ = c.loop-k.taken in
    let logs : Source = lent a.bytes.now a.n a.packets.now a.marks a.events.now in
    room (body_of written_format (kept b.result (item_of logs k))) (body_of written_format (items_from logs (logs.rows - (k + 1)) (k + 1) (taken + one b.result)))
    c.loop-k.invariant.1.0 (next_body logs logs.rows k taken c.loop-k-test.true b.result b.ensures) c.requires.room

pub loop-k-preserved : goal.loop-k-preserved
loop-k-preserved c =
    let a = c.args in
    let h = c.loop-k-test.true in
    let b = c.is_event-event in
    let w = c.write_row-next in
    let k : ℕ = c.loop-k.k in
    let taken : ℕ = c.loop-k.taken in
    let logs : Source = lent a.bytes.now a.n a.packets.now a.marks a.events.now in
    let own : List ℕ = body_of written_format (kept b.result (item_of logs k)) in
    let rest : List ℕ = body_of written_format (items_from logs (logs.rows - (k + 1)) (k + 1) (taken + one b.result)) in
    let parted : body_of written_format (items_from logs (logs.rows - k) k taken) ≡ own ++ rest = next_body logs logs.rows k taken h b.result b.ensures in
    let i = c.loop-k.invariant.1 in
    let e : taken + one b.result ≡ taken + c.from-taken.result = ap (λ (m : ℕ). taken + m) (sym (c.from-taken.ensures ∙ from-one b.result)) in (
      omega (arith, e, one_small b.result, c.loop-k.invariant.0),
      (
        subst (λ (t : ℕ). Left a.out.now a.at (body_of written_format (items_of logs)) w.new.out w.result (body_of written_format (items_from logs (logs.rows - (k + 1)) (k + 1) t))) e
            (step own rest i.0 parted w.ensures),
        subst (λ (t : ℕ). Fits written_format (items_from logs (logs.rows - (k + 1)) (k + 1) t)) e
            (rest-fits logs logs.rows k taken h b.result b.ensures i.1),
      ),
    )

pub returns : goal.returns
returns c =
    let a = c.args in
    let l = c.loop-k in
    let logs : Source = lent a.bytes.now a.n a.packets.now a.marks a.events.now in
    done (subst (Left a.out.now a.at (body_of written_format (items_of logs)) l.out l.next)
    (no_body logs a.n l.k l.taken c.loop-k-test.false) l.invariant.1.0)
