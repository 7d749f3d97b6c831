-- Inner (cited by private contracts alone): what a plan asks of the record and the endpoint table; all of it holds of a well-formed record
-- (`ready`).
use Rattle.std.specs.Prelude.{◌≡◌, ℕ, ◌^◌, ◌<◌, ◌≤◌, true, List}
use Rattle.std.proofs.Common.{arith}
use Rattle.endpoints.specs.Table.{entry_at}
use Rattle.details.specs.declared.Device.{Device}
use Rattle.endpoints.specs.declared.Endpoint.{Endpoint}
use Rattle.record.specs.Formed.{holds}
use Rattle.record.proofs.FormedLaws.{WellFormed}
use Rattle.record.specs.declared.Counts.{Counts}
use Rattle.record.specs.declared.Decoder.{Decoder}

-- an entry: its device is there, and its counts are words
pub record Known (n : Counts) (e : Endpoint) : Type 0 where
  pub device : e.device < n.devices
  pub transactions : e.transactions < 2 ^ 64
  pub groups : e.groups < 2 ^ 64

pub record Ready (d : Decoder) (table : List ℕ) : Type 0 where
  pub devices : d.counts.devices ≤ 64
  pub three : 3 ≤ d.counts.endpoints
  pub endpoints : d.counts.endpoints ≤ 128
  pub transactions : d.counts.transactions < 2 ^ 64
  pub entries : (i : ℕ) → i < d.counts.endpoints → Known d.counts (entry_at table i)
  pub held : holds d.slot ≡ true → d.transaction.endpoint < d.counts.endpoints
  -- the special endpoints that packets are on have their addresses
  pub invalid : (entry_at table 1).address ≡ 0x11
  pub framing : (entry_at table 2).address ≡ 0x12

pub ready : (d : Decoder) (devices : List Device) (table : List ℕ) (room : Counts) → WellFormed d devices table room → Ready d table
ready d devices table room w =
    let n = w.counts in
    record {
      devices = n.few_devices;
      three = w.specials.three;
      endpoints = n.few_endpoints;
      transactions = omega (arith, w.numbered.transactions);
      entries = λ i h. let e = (w.endpoints i h).entry in record { device = e.device; transactions = omega (arith, e.transactions, w.numbered.links); groups = omega (arith, e.groups, w.numbered.links) };
      held = λ h. (w.held h).endpoint;
      invalid = w.specials.invalid.address;
      framing = w.specials.framing.address;
    }
