-- What was met, and what is left, give the whole.
-- Assumes nothing.
use Rattle.pcap.specs.Export.{lent}
use Rattle.pcap.specs.Inner.{Small}
use Rattle.pcap.proofs.Turns.{Owed}
use Rattle.pcap.proofs.logs.survey_rows.Given as goal

abbrev pub invariant-loop-k : goal.invariant-loop-k
invariant-loop-k l = Small l.k l.s × Owed (lent l.bytes l.n l.packets l.marks l.events) l.k l.s
