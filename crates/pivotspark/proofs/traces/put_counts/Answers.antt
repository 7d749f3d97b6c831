-- Assumes nothing.
use Rattle.pivotspark.proofs.Telling.{too_few, enough}
use Rattle.pivotspark.proofs.traces.put_counts.Goals as goal

pub returns-then-counts-lt12 : goal.returns-then-counts-lt12
returns-then-counts-lt12 c = let a = c.args in too_few a.counts.now a.d.counts c.if-counts-lt12.true

pub returns : goal.returns
returns c = let a = c.args in enough a.counts.now a.d.counts c.if-counts-lt12.false c.copy_from_slice.ensures.after
