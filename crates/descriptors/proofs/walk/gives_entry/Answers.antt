use Rattle.std.proofs.Common.{arith, sym, ◌∙◌}
use Rattle.descriptors.specs.Entries.{gives_entry}
use Rattle.descriptors.proofs.EntriesLaws.{of-long}
use Rattle.descriptors.proofs.walk.gives_entry.Goals as goal
use Rattle.descriptors.proofs.walk.gives_entry.Goals.{else-is_of-via-then-is_of+else-is_named, else-is_of-via-else-is_of}

pub bounds-d-2 : goal.bounds-d-2
bounds-d-2 c = let h = of-long 5 7 c.args.d.now (sym c.is_of.ensures ∙ c.if-is_of.true) in omega arith

pub returns-then-is_named : goal.returns-then-is_named
unfolding gives_entry
returns-then-is_named c = let e = sym c.is_of.ensures ∙ c.if-is_of.true in let f = sym c.is_named.ensures ∙ c.if-is_named.true in rw (e, f)

pub returns-else-is_of : goal.returns-else-is_of
unfolding gives_entry
returns-else-is_of c =
    elim c.else-is_of.branch [
      | else-is_of-via-then-is_of+else-is_named w ↦ let e = sym c.is_of.ensures ∙ w.if-is_of.true in let f = sym w.is_named.ensures ∙ w.if-is_named.false in rw (e, f)
      | else-is_of-via-else-is_of w ↦ let e = sym c.is_of.ensures ∙ w.if-is_of.false in rw e
    ]
