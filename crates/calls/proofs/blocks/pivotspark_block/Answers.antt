use Rattle.calls.proofs.Keeping.{block_by}
use Rattle.calls.proofs.blocks.pivotspark_block.Goals as goal
use Rattle.std.proofs.Common.{◌-◌}

pub returns : goal.returns
returns c = block_by c.load_record-s.ensures.decoder_value c.load_record-s.ensures.devices_value c.load_ticks-ticks.ensures c.records-r.ensures c.keep_block.ensures.keeps c.keep_block.ensures.keeps_clock c.keep_block.ensures.told_after
