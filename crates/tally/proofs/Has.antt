-- Laws (proved): that a world has these counts, with nothing appended yet; so has the world of a record (record, World).
use Rattle.std.specs.Prelude.{[], ◌≡◌}
use Rattle.rules.specs.World.{World}
use Rattle.record.specs.declared.Counts.{Counts}

pub record Has (n : Counts) (w : World) : Type 0 where
  pub journal : w.journal ≡ []
  pub bytes : w.bytes ≡ n.bytes
  pub devices : w.device_count ≡ n.devices
  pub endpoints : w.count ≡ n.endpoints
  pub packets : w.packets ≡ n.packets
  pub transactions : w.transactions ≡ n.transactions
  pub groups : w.groups ≡ n.groups
  pub statebytes : w.state_bytes ≡ n.statebytes
  pub items : w.items ≡ n.items
