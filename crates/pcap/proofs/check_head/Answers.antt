use Rattle.std.proofs.Common.{true, false, ap, ◌∙◌}
use Rattle.std.specs.Prelude.{Err}
use Rattle.pcap.specs.Pcap.{unit_of, marked}
use Rattle.pcap.specs.declared.HeadError.TheVariants.{Mark}
use Rattle.pcap.proofs.Cases.{short, long, here, elsewhere}
use Rattle.pcap.proofs.check_head.Goals as goal

pub returns-then-file-lt-HEAD : goal.returns-then-file-lt-HEAD
returns-then-file-lt-HEAD c = short c.args.file.now c.if-file-lt-HEAD.true

pub returns-in-Some : goal.returns-in-Some
returns-in-Some c =
    let t = c.args.file.now in
    c.link.ensures ∙ here t false (marked true t (Err Mark)) (c.in-Some.ensures ∙ ap unit_of c.number_at.ensures) ∙ long t c.if-file-lt-HEAD.false

pub returns-in-Some-unit_of : goal.returns-in-Some-unit_of
returns-in-Some-unit_of c =
    let t = c.args.file.now in
    c.link-in-Some-unit_of.ensures ∙ here t true (Err Mark) (c.in-Some-unit_of.ensures ∙ ap unit_of c.number_at-2.ensures)
    ∙ elsewhere t false (marked true t (Err Mark)) (c.in_default.ensures ∙ ap unit_of c.number_at.ensures) ∙ long t c.if-file-lt-HEAD.false

pub returns : goal.returns
returns c =
    let t = c.args.file.now in
    elsewhere t true (Err Mark) (c.in_default-unit_of.ensures ∙ ap unit_of c.number_at-2.ensures)
    ∙ elsewhere t false (marked true t (Err Mark)) (c.in_default.ensures ∙ ap unit_of c.number_at.ensures) ∙ long t c.if-file-lt-HEAD.false
