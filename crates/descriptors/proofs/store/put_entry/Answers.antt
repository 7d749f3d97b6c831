use Rattle.descriptors.specs.Entries.{entry_of}
use Rattle.descriptors.proofs.store.put_entry.Goals as goal

pub returns : goal.returns
unfolding entry_of
returns c = c.put.ensures
