use Rattle.std.proofs.Common.{◌∙◌}
use Rattle.update.proofs.Words.{words_are}
use Rattle.update.proofs.entry.entry_update.Goals as goal
use Rattle.std.proofs.Common.{◌-◌}

pub returns : goal.returns
returns c = rw (c.ended_entry-e.ensures, c.become_entry-e.ensures, c.start_entry-e.ensures, c.link_entry-e.ensures, c.end_entry-e.ensures, c.over_entry-e.ensures) at c.close_entry.ensures
    ∙ words_are c.args.u c.args.pid c.args.e
