use Rattle.tally.specs.Tallies.{tally_rows}
use Rattle.tally.proofs.tally_rows.Goals as goal

pub returns : goal.returns
unfolding tally_rows
returns c = rw (c.add_event.ensures, c.add_packet.ensures) at c.tally_act.ensures
