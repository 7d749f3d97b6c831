-- To be believed: the world (rules, World) that a record, its devices and its endpoint table stand for.
-- Hold it to: struct Decoder of decoder.rs, field by field (rules, World)
use Rattle.std.specs.Prelude.{ℕ, pred, List, [], get_or}
use Rattle.details.specs.Search.{blank}
use Rattle.endpoints.specs.Table.{entry_at}
use Rattle.details.specs.declared.Device.{Device}
use Rattle.rules.specs.World.{World, stamp}
use Rattle.record.specs.declared.Decoder.{Decoder}

-- nothing is appended yet: the journal is that of one call; and what was brought last is the last packet row
abbrev pub world_of : Decoder → List Device → List ℕ → World
world_of d devices table =
    record {
      endpoints = entry_at table;
      count = d.counts.endpoints;
      devices = λ j. get_or devices j blank;
      device_count = d.counts.devices;
      slot = d.slot;
      transaction = d.transaction;
      last_item = d.last;
      event_state = d.event;
      keepalive = d.keepalive;
      context = stamp (pred d.counts.packets) d.time 0;
      shelf = [];
      bytes = d.counts.bytes;
      packets = d.counts.packets;
      transactions = d.counts.transactions;
      groups = d.counts.groups;
      state_bytes = d.counts.statebytes;
      items = d.counts.items;
      journal = [];
    }
