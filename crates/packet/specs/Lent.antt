-- Inner (cited by private contracts alone): what packet_in asks of the devices, which it is not given: what it goes by (plan, Near) is taken from devices with
-- which the state is not ill.
use Rattle.std.specs.Prelude.{◌≡◌, false, List, ℕ, length}
use Rattle.details.specs.declared.Device.{Device}
use Rattle.record.specs.World.{world_of}
use Rattle.record.specs.declared.Decoder.{Decoder}
use Rattle.plan.specs.Packet.{old_endpoint}
use Rattle.call.specs.Outcome.{is_ill}
use Rattle.call.specs.State.{Logs, state}
use Rattle.decide.specs.Near.{Seen}
use Rattle.decide.specs.declared.near.Near.{Near}

pub record Lent (near : Near) (packet : List ℕ) (d : Decoder) (devices : List Device) (table : List ℕ) (l : Logs) : Type 0 where
  pub ill : is_ill (state d devices table l) ≡ false
  pub many : length devices ≡ 64
  pub seen : Seen near (old_endpoint d.slot d.transaction) packet (world_of d devices table)

-- there are such devices
pub record SomeLent (near : Near) (packet : List ℕ) (d : Decoder) (table : List ℕ) (l : Logs) : Type 0 where
  pub devices : List Device
  pub lent : Lent near packet d devices table l

-- so it is with any such devices and any shelf
abbrev pub ForLent : Near → List ℕ → Decoder → List ℕ → Logs → (List Device → List ℕ → Type 0) → Type 0
ForLent near packet d table l p = (devices : List Device) → Lent near packet d devices table l → (shelf : List ℕ) → p devices shelf
