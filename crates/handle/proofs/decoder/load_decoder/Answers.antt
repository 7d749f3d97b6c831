use Rattle.handle.specs.Words.{decoder_in}
use Rattle.handle.proofs.decoder.load_decoder.Goals as goal
use Rattle.std.proofs.Common.{◌-◌}
use Rattle.handle.specs.Place as place

pub returns : goal.returns
unfolding decoder_in
returns c = simp (c.event_of.ensures, c.slot_of.ensures, c.load_transaction.ensures, c.load_counts.ensures)
