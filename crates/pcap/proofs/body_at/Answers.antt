use Rattle.std.proofs.Common.{arith}
use Rattle.pcap.proofs.Cases.{cut_short, cut-other, too-late}
use Rattle.pcap.proofs.PcapLaws.{packet_of}
use Rattle.pcap.proofs.body_at.Goals as goal

pub returns-then-left-lt-RECORD : goal.returns-then-left-lt-RECORD
returns-then-left-lt-RECORD c = let a = c.args in cut_short a.f a.file.now a.at (omega arith)

pub returns-then-left-count : goal.returns-then-left-count
returns-then-left-count c = let a = c.args in cut_short a.f a.file.now a.at (omega arith)

pub returns-then-original-captured : goal.returns-then-original-captured
returns-then-original-captured c = let o = c in let n = o in let a = n.args in cut-other a.f a.file.now a.at _ _ n.number_at-captured.ensures o.number_at-original.ensures (omega arith) c.if-original-captured.true

pub returns-then-fraction-unit-ge-SECOND : goal.returns-then-fraction-unit-ge-SECOND
returns-then-fraction-unit-ge-SECOND c = let r = c in let e = r in let o = e in let n = o in let a = n.args in too-late a.f a.file.now a.at _ _ n.number_at-captured.ensures o.number_at-original.ensures _ r.number_at-fraction.ensures (omega arith) e.if-original-captured.false c.if-fraction-unit-ge-SECOND.true

pub returns : goal.returns
returns c = let g = c in let r = g in let e = r in let o = e in let n = o in let a = n.args in packet_of a.f a.file.now a.at _ _ _ _ n.number_at-captured.ensures o.number_at-original.ensures r.number_at-fraction.ensures c.number_at-seconds.ensures (omega arith) e.if-original-captured.false g.if-fraction-unit-ge-SECOND.false
