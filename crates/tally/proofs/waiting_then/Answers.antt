use Rattle.rows.proofs.FlagLaws.{from-one}
use Rattle.tally.specs.Tallies.{waiting_then}
use Rattle.tally.proofs.waiting_then.Goals as goal
use Rattle.std.proofs.Common.{ℕ, ◌+◌, ◌-◌, ap, ◌∙◌}

pub returns-then-e : goal.returns-then-e
unfolding waiting_then
returns-then-e c = simp c.if-e.true (rw (ap (λ (k : ℕ). c.args.waiting + c.args.active + k) (c.from.ensures ∙ from-one _), c.is_active-was.ensures) at (c.saturating_sub.ensures ∙ ap (λ (k : ℕ). c.args.waiting + c.args.active + c.from.result - k) (c.from-then-e.ensures ∙ from-one _)))

pub returns-else-e : goal.returns-else-e
unfolding waiting_then
returns-else-e c = simp c.if-e.false
