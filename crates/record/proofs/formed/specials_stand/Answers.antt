use Rattle.record.specs.Formed.{specials_stand}
use Rattle.record.proofs.formed.specials_stand.Goals as goal
use Rattle.std.proofs.Common.{◌-◌}

pub returns : goal.returns
unfolding specials_stand
returns c = simp (c.is_special-3.ensures, c.is_special-2.ensures, c.is_special.ensures, c.load-framing.ensures, c.load-invalid.ensures, c.load-event.ensures)
