use mathlib.Core.Bool.{Bool, ◌&&◌}
use mathlib.Core.Path.{sym, ap, ◌∙◌}
use Rattle.usb.proofs.Arms.{and_false}
use Rattle.transaction.specs.High.{is_high}
use Rattle.transaction.proofs.HighLaws.{not-high}
use Rattle.transaction.proofs.simple.status_in.Goals as goal
use Rattle.transaction.proofs.simple.status_in.Goals.{else-high-via-then-high+else-is_high, else-high-via-else-high}

pub returns : goal.returns
returns c =
    let a = c.args in
    c.simple_status.ensures
    ∙ not-high a.high a.first a.last a.next a.kind a.len (elim c.else-high.branch [
      | else-high-via-then-high+else-is_high w ↦ ap (λ (b : Bool). a.high && b) (sym w.is_high.ensures ∙ w.if-is_high.false) ∙ and_false a.high
      | else-high-via-else-high w ↦ ap (λ (b : Bool). b && is_high a.last a.next a.kind) w.if-high.false
    ])
