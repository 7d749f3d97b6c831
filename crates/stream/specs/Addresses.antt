-- Inner (cited by private contracts alone): the addresses of the device rows, kept beside them, so that a search reads these alone.
use Rattle.std.specs.Prelude.{ℕ, ◌<◌, Bool, List, ◌≡◌, eqb, length, get_or, Option}
use Rattle.details.specs.Search.{blank, last_of}
use Rattle.details.specs.declared.Device.{Device}
use Rattle.usb.specs.Fields.{token_of}
use Rattle.endpoints.specs.Table.{entry_at}
use Rattle.record.specs.declared.Decoder.{Decoder}
use Rattle.plan.specs.Packet.{old_endpoint}
use Rattle.decide.specs.Near.{place_in}
use Rattle.stream.specs.declared.sight.Sight.{Sight}

-- of the first n rows of the 64
pub record Addressed (n : ℕ) (a : List ℕ) (v : List Device) : Type 0 where
  pub size : length a ≡ 64
  pub each : (i : ℕ) → i < n → get_or a i 0 ≡ (get_or v i blank).address

-- whether row i has that address
abbrev pub is_address : List ℕ → ℕ → ℕ → Bool
is_address a address i = eqb (get_or a i 0) address

-- the last of the first n rows that has it, as found_device (details, Search) finds it in the devices
unfoldable pub found_address : List ℕ → ℕ → ℕ → Option ℕ
found_address a n address = last_of (is_address a address) n

-- where a packet's details are looked for
abbrev pub sight_of : List ℕ → Decoder → List ℕ → List ℕ → Sight
sight_of a d table packet =
    let found = found_address a d.counts.devices (token_of packet).address in
    let e = entry_at table (old_endpoint d.slot d.transaction) in
    record { found = found; place = place_in found; number = (token_of packet).number; owner = e.device; address = e.address }
