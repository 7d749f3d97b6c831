use Rattle.std.proofs.Common.{rules, ◌∙◌, eq-eqb, ne_eqb}
use Rattle.endpoints.specs.Find.{is_endpoint}
use Rattle.details.proofs.Searches.{first_miss}
use Rattle.endpoints.proofs.find.find_endpoint.Goals as goal
use Rattle.endpoints.proofs.find.find_endpoint.Goals.{else-table-at-via-then-table-at+else-table-at-2, else-table-at-via-else-table-at}

pub loop-i-preserved : goal.loop-i-preserved
loop-i-preserved c =
    let miss = first_miss (is_endpoint c.args.table.now c.args.device c.args.address) _ _ c.if-n-i.false in (
      search rules,
      c.loop-i.invariant.1
          ∙ miss (elim c.else-table-at.branch [
            | else-table-at-via-then-table-at+else-table-at-2 w ↦ simp (eq-eqb _ _ w.if-table-at.true, ne_eqb _ _ w.if-table-at-2.false)
            | else-table-at-via-else-table-at w ↦ simp (ne_eqb _ _ w.if-table-at.false)
          ]),
    )
