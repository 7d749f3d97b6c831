-- What was met is not late, so all of it fits.
-- Assumes nothing.
use Rattle.std.proofs.Common.{◌≡◌, sym, ap, ◌∙◌, arith}
use Rattle.pcap.specs.Export.{Source, lent, items_of, late}
use Rattle.pcap.proofs.ExportLaws.{fits_all}
use Rattle.pcap.specs.declared.Survey.{Survey}
use Rattle.pcap.proofs.export_rows.Goals as goal

pub write_rows-requires-clause-fits : goal.write_rows-requires-clause-fits
write_rows-requires-clause-fits c =
    let logs : Source = let a = c.args in lent a.bytes.now a.n a.packets.now a.marks a.events.now in
    let late_is : late (items_of logs) ≡ c.survey_rows-s.result.late = sym (ap (λ (s : Survey). s.late) c.survey_rows-s.ensures) in
    fits_all logs (omega (arith, c.requires.short)) (late_is ∙ c.if-s.false)
