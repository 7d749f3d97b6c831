-- To be believed: the functions of decoder.rs that find and add devices and endpoints, and what is known of an endpoint.
-- Hold it to: add_device, add_endpoint and packet_endpoint of decoder.rs; endpoint_lookup, packet_endpoint, endpoint_details, set_endpoint_type of capture.rs
use Rattle.std.specs.Prelude.{◌&&◌, not, List, ℕ, suc, ◌+◌, ◌/◌, eqb, Option, Some, None}
use Rattle.usb.specs.Pid.{SETUP, IN, OUT, SOF, PING}
use Rattle.usb.specs.Fields.{token_of}
use Rattle.transaction.specs.Table.{pick, only, ◌or◌}
use Rattle.details.specs.Details.{number_of, details_of, with_type, with_detail, fresh}
use Rattle.details.specs.Search.{first_from, last_of}
use Rattle.details.specs.declared.Detail.{Detail}
use Rattle.details.specs.declared.Device.{Device}
use Rattle.rules.specs.Rows.{DeviceRow, EndpointRow}
use Rattle.rules.specs.World.{World, ◌▷◌, invalid_ep, framing_ep, with_endpoints, with_count, with_devices, with_device_count, push, change_device}
use Rattle.endpoints.specs.Table.{new_endpoint}

-- ---- fn add_device

abbrev pub add_device : ℕ → World → World
add_device address w =
    w ▷ push (DeviceRow address)
    ▷ with_devices (λ j. pick (eqb j w.device_count) (fresh address) (w.devices j))
    ▷ with_device_count (suc w.device_count)

-- ---- fn add_endpoint; an endpoint's address is its number, and 128 more where the direction is In (USB 2.0, 9.6.6)

-- device_index: the device that now stands for an address
abbrev pub device_for : ℕ → World → Option ℕ
device_for address w = last_of (λ i. eqb (w.devices i).address address) w.device_count

abbrev pub push_endpoint : ℕ → ℕ → World → World
push_endpoint d address w =
    w ▷ push (EndpointRow d (number_of address) (address / 128))
    ▷ with_endpoints (λ j. pick (eqb j w.count) (new_endpoint d address) (w.endpoints j))
    ▷ with_count (suc w.count)

abbrev pub add_endpoint_on : Option ℕ → ℕ → ℕ → World → World
add_endpoint_on (Some d) device address w = w ▷ push_endpoint d address
add_endpoint_on None device address w = w ▷ add_device device ▷ push_endpoint w.device_count address

abbrev pub add_endpoint : ℕ → ℕ → World → World
add_endpoint device address w = add_endpoint_on (device_for device w) device address w

-- ---- fn packet_endpoint

-- 01, Packets: direction In only for IN with a nonzero number
abbrev pub address_for : ℕ → ℕ → ℕ
address_for pid number = pick (eqb pid IN && not (eqb number 0)) (number + 128) number

-- fn endpoint_lookup of capture.rs
abbrev pub endpoint_lookup : Option ℕ → ℕ → World → Option ℕ
endpoint_lookup (Some d) address w = first_from (λ i. eqb (w.endpoints i).device d && eqb (w.endpoints i).address address) 0 w.count
endpoint_lookup None address w = None

-- fn packet_endpoint of capture.rs: SOF goes to framing, a token to its address and number, any other packet to invalid
abbrev pub found : ℕ → List ℕ → World → Option ℕ
found pid packet w =
    pick (eqb pid SOF) (Some framing_ep)
    (pick ((SETUP or IN or OUT or only PING) pid)
    (endpoint_lookup (device_for (token_of packet).address w) (address_for pid (token_of packet).number) w)
    (Some invalid_ep))

abbrev pub packet_endpoint_at : Option ℕ → ℕ → List ℕ → World → World
packet_endpoint_at (Some i) pid packet w = w
packet_endpoint_at None pid packet w = w ▷ add_endpoint (token_of packet).address (address_for pid (token_of packet).number)

abbrev pub packet_endpoint : ℕ → List ℕ → World → World
packet_endpoint pid packet w = packet_endpoint_at (found pid packet w) pid packet w

-- the number that packet_endpoint gives back: where the endpoint is new, the next
abbrev pub number_at : Option ℕ → World → ℕ
number_at (Some i) w = i
number_at None w = w.count

abbrev pub endpoint_of : ℕ → List ℕ → World → ℕ
endpoint_of pid packet w = number_at (found pid packet w) w

-- ---- what is known of an endpoint (01, Details and tables)

-- endpoint_details, of the endpoint's device
abbrev pub detail_of : ℕ → World → Detail
detail_of x w = details_of (w.devices (w.endpoints x).device) (w.endpoints x).address

abbrev pub typed : ℕ → ℕ → Device → Device
typed address kind d = with_type d address kind

-- set_endpoint_type
abbrev pub set_endpoint_type : ℕ → ℕ → World → World
set_endpoint_type x kind w = change_device (w.endpoints x).device (typed (w.endpoints x).address kind) w

abbrev pub detailed : ℕ → ℕ → ℕ → ℕ → Device → Device
detailed number direction kind max d = with_detail d number direction kind max

-- a detail call: for an address with no device it is refused (answer 6)
abbrev pub set_detail_on : Option ℕ → ℕ → ℕ → ℕ → ℕ → World → World
set_detail_on (Some d) number direction kind max w = change_device d (detailed number direction kind max) w
set_detail_on None number direction kind max w = w
