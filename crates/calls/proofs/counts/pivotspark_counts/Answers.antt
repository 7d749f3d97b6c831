-- Assumes nothing.
use mathlib.Core.Path.{ap}
use Rattle.record.specs.declared.Decoder.{Decoder}
use Rattle.handle.specs.Words.{decoder_in, count_words}
use Rattle.rows.proofs.Filled.{filled}
use Rattle.calls.proofs.counts.pivotspark_counts.Goals as goal

pub returns : goal.returns
returns c = filled c.args.counts.now (count_words (decoder_in c.args.record.now).counts) c.told-counts (ap (λ (d : Decoder). count_words d.counts) c.load_decoder.ensures)
