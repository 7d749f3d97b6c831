use Rattle.std.proofs.Common.{rules}
use Rattle.endpoints.specs.Table.{entry_at}
use native.Mathlib.Omega.{arith}
use native.Mathlib.Numerals.{add-one}
use mathlib.Core.Path.{◌≡◌, refl, ◌∙◌}
use Rattle.quick.proofs.begin.begin_link.Goals as goal

pub overflow_add-e : goal.overflow_add-e
overflow_add-e c = let s = c in
    let e : c.load-e.result.transactions ≡ (entry_at s.args.table.now s.args.t.endpoint).transactions = rw c.load-e.ensures refl in
    let h = rw c.if-l.true at s.requires.l_bound in
    omega (arith, e, h)

pub put-requires : goal.put-requires
put-requires c = let h = rw c.if-l.true at c.requires.link_width_in_bounds in omega (arith, h)

pub returns-then-l : goal.returns-then-l
returns-then-l c = let l = c.load-e.ensures in
    rw c.if-l.true
    (record { value = rw l refl; table_after = c.store.ensures ∙ rw (l, add-one) refl; links_after = c.put.ensures })

pub returns : goal.returns
returns c = rw c.if-l.false (record { value = refl; table_after = refl; links_after = refl })
