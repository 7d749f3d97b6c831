use Rattle.calls.proofs.Keeping.{import_by}
use Rattle.calls.proofs.pcap_records.pivotspark_pcap_records.Goals as goal
use Rattle.std.proofs.Common.{◌-◌}

pub returns : goal.returns
returns c = import_by c.load_record-s.ensures.decoder_value c.load_record-s.ensures.devices_value c.load_format-f.ensures c.import_from-r.ensures c.keep_import.ensures.keeps
    c.keep_import.ensures.told_after
