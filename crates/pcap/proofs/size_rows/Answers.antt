use Rattle.std.proofs.Common.{sym, ap, ◌∙◌}
use Rattle.pcap.specs.Export.{Source, lent}
use Rattle.pcap.specs.Inner.{accepted_by}
use Rattle.pcap.proofs.ExportLaws.{size-late, size_fine}
use Rattle.pcap.specs.declared.Survey.{Survey}
use Rattle.pcap.proofs.size_rows.Goals as goal

pub returns-then-s : goal.returns-then-s
returns-then-s c = let logs : Source = let a = c.args in lent a.bytes.now a.n a.packets.now a.marks a.events.now in
    let s = c in
    c.refuse.ensures ∙ sym (size-late (logs) (sym (ap (λ (x : Survey). x.late) s.survey_rows-s.ensures) ∙ c.if-s.true))

pub returns : goal.returns
returns c = let logs : Source = let a = c.args in lent a.bytes.now a.n a.packets.now a.marks a.events.now in
    let s = c in
    c.accept.ensures
    ∙ ap accepted_by s.survey_rows-s.ensures
    ∙ sym (size_fine (logs) (sym (ap (λ (x : Survey). x.late) s.survey_rows-s.ensures) ∙ c.if-s.false))
