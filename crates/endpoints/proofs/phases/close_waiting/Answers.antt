use Rattle.std.proofs.Common.{rules, ◌+◌, ◌*◌, ◌-◌, arith, ap, ◌∙◌, length}
use Rattle.std.proofs.lemmas.List.Edits.{sets}
use Rattle.endpoints.specs.Each.{closing}
use Rattle.endpoints.proofs.Turns.{closing_hit, closing_miss, row_next}
use Rattle.endpoints.proofs.phases.close_waiting.Goals as goal
use Rattle.endpoints.proofs.phases.close_waiting.Goals.{then-table-i-eq-ENDED, else-table-i-eq-ENDED}

pub loop-i-preserved : goal.loop-i-preserved
loop-i-preserved c =
    let s = c.args in
    let l = c.loop-i in
    elim c.if-table-i-eq-ENDED.branch [
      | then-table-i-eq-ENDED w ↦
          let hit = closing_hit s.table.now _ _ c.loop-i-test.true s.item w.if-table-i-eq-ENDED.true in
          let rest = closing s.table.now s.item (l.i + 1) (s.n - (l.i + 1)) in
          rw (w.links-is, w.row-is) (
            omega (arith, w.put.auto.log),
            (
              omega (arith, ap length hit),
              l.invariant.1.1 ∙ ap (sets l.links (l.row * 4)) hit ∙ row_next l.links w.put.new.log rest l.row 3 l.i s.item 0 w.put.ensures,
            ),
          )
      | else-table-i-eq-ENDED w ↦
          let miss = closing_miss s.table.now _ _ c.loop-i-test.true s.item w.if-table-i-eq-ENDED.false in
          rw (w.links-is, w.row-is) (search rules, (omega (arith, ap length miss), l.invariant.1.1 ∙ ap (sets l.links (l.row * 4)) miss))
    ]
