use Rattle.record.specs.Fresh.{fresh_table}
use Rattle.start.proofs.fresh.store_specials.Goals as goal

pub returns : goal.returns
unfolding fresh_table
returns c = simp (c.new_endpoint-framing.ensures, c.store-2.ensures, c.new_endpoint-invalid.ensures, c.store.ensures, c.new_endpoint-event.ensures, c.clear_table.ensures) at c.store-3.ensures
