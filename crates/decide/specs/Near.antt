-- Inner (cited by private contracts alone): what a packet's steps go by of the devices (src/near.rt), and the steps by that alone.
use Rattle.std.specs.Prelude.{◌≡◌, ℕ, ◌+◌, true, false, List, ◌==◌, Option, Some, None}
use Rattle.usb.specs.Pid.{SETUP, IN, OUT, PING, SOF}
use Rattle.usb.specs.Fields.{token_of}
use Rattle.transaction.specs.Table.{pick, only, ◌or◌}
use Rattle.details.specs.Details.{bare, details_of, fresh}
use Rattle.details.specs.Kind.{Invalid, Framing}
use Rattle.details.specs.declared.Detail.{Detail}
use Rattle.details.specs.declared.Device.{Device}
use Rattle.endpoints.specs.declared.Endpoint.{Endpoint}
use Rattle.transaction.specs.declared.Status.{Status}
use Rattle.transaction.specs.declared.Transaction.{Transaction}
use Rattle.rules.specs.World.{World, with_pid, invalid_ep, framing_ep}
use Rattle.endpoints.specs.Table.{new_endpoint}
use Rattle.rules.specs.Endpoints.{device_for, address_for, endpoint_lookup, detail_of}
use Rattle.record.specs.World.{world_of}
use Rattle.record.specs.declared.Counts.{Counts}
use Rattle.record.specs.declared.Decoder.{Decoder}
use Rattle.plan.specs.Packet.{going, update_for}
use Rattle.plan.specs.declared.Middle.{Middle}
use Rattle.plan.specs.declared.Place.{Place}
use Rattle.decide.specs.declared.near.Near.{Near}

-- the place of a device that was found, else the first
abbrev pub place_in : Option ℕ → ℕ
place_in (Some i) = i
place_in None = 0

-- by the row of that device, the number of the packet's token, and the details of the old transaction's endpoint
abbrev pub near_by : Option ℕ → ℕ → Device → Detail → Near
near_by found number row old =
    record { found = found; inward = details_of row (address_for IN number); outward = details_of row number; old = old }

-- it is that of the world's devices; x0 is the old transaction's endpoint
pub record Seen (near : Near) (x0 : ℕ) (packet : List ℕ) (w : World) : Type 0 where
  pub found : near.found ≡ device_for (token_of packet).address w
  pub inward : near.inward ≡ details_of (w.devices (place_in near.found)) (address_for IN (token_of packet).number)
  pub outward : near.outward ≡ details_of (w.devices (place_in near.found)) (token_of packet).number
  pub old : near.old ≡ detail_of x0 w

-- so it is, whatever devices it was taken from
abbrev pub ForSeen : Near → ℕ → List ℕ → Decoder → List ℕ → (World → Type 0) → Type 0
ForSeen near x0 packet d table p = (devices : List Device) → Seen near x0 packet (world_of d devices table) → p (world_of d devices table)

-- ---- the endpoint of a packet (plan, Packet), by the device and the details

-- found, on the device that stands for the packet's address
abbrev pub found_on : Option ℕ → ℕ → List ℕ → World → Option ℕ
found_on device pid packet w =
    pick (pid == SOF) (Some framing_ep)
    (pick ((SETUP or IN or OUT or only PING) pid)
    (endpoint_lookup device (address_for pid (token_of packet).number) w)
    (Some invalid_ep))

-- its details: a special endpoint has a kind of its own
abbrev pub detail_by : ℕ → Near → Detail
detail_by pid near =
    pick (pid == SOF) (bare Framing)
    (pick ((SETUP or IN or OUT or only PING) pid)
    (pick (pid == IN) near.inward near.outward)
    (bare Invalid))

-- standing, where the endpoint's entry is e and its details are known
abbrev pub standing_on : ℕ → Endpoint → ℕ → Detail → Endpoint → Place
standing_on x0 e0 i detail e =
    record { x = i; new = false; device = false; place = e.device; number = e.address; detail = detail; entry = pick (i == x0) e0 e }

-- new_on, where the details on a device that was found are known
abbrev pub new_by : Option ℕ → Detail → ℕ → ℕ → Counts → Place
new_by (Some i) detail owner address n =
    record { x = n.endpoints; new = true; device = false; place = i; number = address; detail = detail; entry = new_endpoint i address }
new_by None detail owner address n =
    record { x = n.endpoints; new = true; device = true; place = n.devices; number = address; detail = details_of (fresh owner) address; entry = new_endpoint n.devices address }

-- going_on, on the endpoint p
abbrev pub going_by : Status → Place → ℕ → Transaction → Middle
going_by s p pid b =
    record { begin = going false (with_pid pid b) (update_for s pid (with_pid pid b) p.entry); entry = p.entry; detail = p.detail }
