use Rattle.std.proofs.Common.{rules}
use Rattle.stream.proofs.Finding.{at_trace, at_pcap}
use Rattle.stream.proofs.part.part_at.Goals as goal

pub returns-in-Trace : goal.returns-in-Trace
returns-in-Trace c = let told = c in
    let a = told.args in
    let the_rest = at_trace a.reader a.ready a.clock a.records.now a.at told.in-Trace.is c.record_at.ensures c.trace_part.ensures in record { value = the_rest.0; seconds_at = the_rest.1 }

pub returns-in-Pcap : goal.returns-in-Pcap
returns-in-Pcap c = let told = c in
    let a = told.args in
    let the_rest = at_pcap a.reader a.ready a.clock a.records.now a.at told.in-Pcap.is c.next_record.ensures c.pcap_part.ensures.value c.pcap_part.ensures.short in record { value = the_rest.0; seconds_at = the_rest.1 }
