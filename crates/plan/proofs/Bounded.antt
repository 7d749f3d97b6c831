-- The endpoint of a packet is one of the rows, or the next; what is decided for it has its numbers in their ranges.
use mathlib.Core.Path.{◌≡◌, refl}
use mathlib.Core.Bool.{Bool, true, false, ◌&&◌, not}
use mathlib.Core.List.{List}
use Prim.Native.Nat.{ℕ, ◌+◌, ◌/◌, ◌^◌, ◌<◌, ◌≤◌}
use native.Mathlib.Nat.{mod-lt}
use native.Mathlib.Omega.{arith}
use lib.Dec.{eqb}
use Rattle.rows.specs.One.{one}
use Rattle.usb.specs.Bits.{after}
use Rattle.usb.specs.Fields.{token_of}
use Rattle.usb.specs.Pid.{SETUP, IN, OUT, SOF, PING, SPLIT, MALFORMED}
use Rattle.transaction.specs.Payload.{start_pid}
use Rattle.transaction.specs.Table.{pick, only, ◌or◌}
use Rattle.transaction.specs.declared.Status.{Status}
use Rattle.transaction.specs.declared.Status.TheVariants.{New, Continue, Retry, Done, Fail, Ambiguous, Invalid}
use Rattle.transaction.specs.declared.Style.{Style}
use Rattle.transaction.specs.declared.Style.TheVariants.{Nothing, Simple, Split, Token}
use Rattle.transaction.specs.declared.Transaction.{Transaction}
use Rattle.details.specs.Kind.{Unknown}
use Rattle.details.specs.Search.{first_from}
use Rattle.details.proofs.SearchLaws.{First, Last, first-is, last-is}
use Rattle.endpoints.specs.declared.Endpoint.{Endpoint}
use Rattle.std.specs.Prelude.{Option, Some, None}
use Rattle.rules.specs.World.{World, invalid_ep, framing_ep}
use Rattle.endpoints.specs.Table.{new_endpoint}
use Rattle.rules.specs.Endpoints.{device_for, address_for, endpoint_lookup, found}
use Rattle.plan.specs.Packet.{entry_by, standing, new_on, place_at, place_of, start_on, start_split, start_plain, starting, going_on, appending_at, appending, middle_of}
use Rattle.plan.specs.declared.Middle.{Middle}
use Rattle.plan.specs.declared.Place.{Place}
use Rattle.plan.proofs.Small.{Small, new_small}

-- a row that a search found
abbrev pub Within : ℕ → Option ℕ → Type 0
Within n (Some i) = i < n
Within n None = Unit {0}

first_within : (n : ℕ) (test : ℕ → Bool) (f : Option ℕ) → First test 0 n f → Within n f
first_within n test (Some j) h = omega (arith, h.1.0)
first_within n test None h = tt

last_within : (n : ℕ) (test : ℕ → Bool) (f : Option ℕ) → Last test n f → Within n f
last_within n test (Some j) h = h.0
last_within n test None h = tt

pub device_within : (address : ℕ) (w : World) → Within w.device_count (device_for address w)
device_within address w = last_within w.device_count (λ i. eqb (w.devices i).address address) (device_for address w) (last-is (λ i. eqb (w.devices i).address address) w.device_count)

pub found_within : (pid : ℕ) (packet : List ℕ) (w : World) → 3 ≤ w.count → Within w.count (found pid packet w)
found_within pid packet w h = by (eqb pid SOF) ((SETUP or IN or OUT or only PING) pid)
  where
    looked : (f : Option ℕ) (address : ℕ) → Within w.count (endpoint_lookup f address w)
    looked (Some d) address =
        let test : ℕ → Bool = λ i. eqb (w.endpoints i).device d && eqb (w.endpoints i).address address in
        first_within w.count test (first_from test 0 w.count) (first-is test w.count 0)
    looked None address = tt

    by : (a b : Bool) → Within w.count (pick a (Some framing_ep) (pick b (endpoint_lookup (device_for (token_of packet).address w) (address_for pid (token_of packet).number) w) (Some invalid_ep)))
    by true b = omega arith
    by false true = looked (device_for (token_of packet).address w) (address_for pid (token_of packet).number)
    by false false = omega arith

-- an endpoint's address is a byte
address_byte : (pid : ℕ) (packet : List ℕ) → address_for pid (token_of packet).number < 256
address_byte pid packet = by (eqb pid IN && not (eqb (token_of packet).number 0))
  where
    small : (token_of packet).number < 2 ^ 4
    small = mod-lt (after 2 packet / 2 ^ 7) {m = 2 ^ 4} (omega arith)

    by : (b : Bool) → pick b ((token_of packet).number + 128) (token_of packet).number < 256
    by true = omega (arith, small)
    by false = omega (arith, small)

-- what is decided, on n endpoints, with at most ts T rows and gs G rows each; r is the number of the next transaction row
pub record Bounded (n ts gs r : ℕ) (m : Middle) : Type 0 where
  pub there : m.begin.transaction.endpoint < n + one m.begin.endpoint
  pub number : m.begin.number < 256
  pub token : start_pid m.begin.transaction.style < 256
  pub place : m.begin.endpoint ≡ true → m.begin.place < 2 ^ 64
  pub entry : Small ts gs m.entry
  pub row : m.begin.row ≡ true → m.begin.transaction.id ≡ r

record Placed (n ts gs : ℕ) (p : Place) : Type 0 where
  there : p.x < n + one p.new
  number : p.number < 256
  place : p.new ≡ true → p.place < 2 ^ 64
  entry : Small ts gs p.entry

pub never : {P : Type 0} → false ≡ true → P
never h = absurd (let z : ◌≡◌ {A = ℕ} 0 1 = cc in omega arith)

-- the entries are small, and so is that of the old transaction's endpoint
module _ (w : World) (special : 3 ≤ w.count) (devices : w.device_count ≤ 64) (ts gs x0 : ℕ) (e0 : Endpoint) (small : Small ts gs e0) (entries : (j : ℕ) → j < w.count → Small ts gs (w.endpoints j)) where
  entry_small : (j : ℕ) → j < w.count → Small ts gs (entry_by x0 e0 j w)
  entry_small j h = by (eqb j x0)
    where
      by : (b : Bool) → Small ts gs (pick b e0 (w.endpoints j))
      by true = small
      by false = entries j h

  standing-placed : (i : ℕ) → i < w.count → Placed w.count ts gs (standing x0 e0 i w)
  standing-placed i h = record { there = omega arith; number = (entries i h).fits.address; place = never; entry = entry_small i h }

  new-placed : (g : Option ℕ) (owner address : ℕ) → address < 256 → Within w.device_count g → Placed w.count ts gs (new_on g owner address w)
  new-placed (Some d) owner address h v = record { there = omega arith; number = h; place = λ q. omega arith; entry = new_small d address h }
  new-placed None owner address h v = record { there = omega arith; number = h; place = λ q. omega arith; entry = new_small w.device_count address h }

  place-placed : (pid : ℕ) (packet : List ℕ) → Placed w.count ts gs (place_of x0 e0 pid packet w)
  unfolding place_of
  place-placed pid packet = by (found pid packet w) (found_within pid packet w special)
    where
      by : (f : Option ℕ) → Within w.count f → Placed w.count ts gs (place_at f x0 e0 pid packet w)
      by (Some i) h = standing-placed i h
      by None h = new-placed (device_for (token_of packet).address w) (token_of packet).address (address_for pid (token_of packet).number) (address_byte pid packet) (device_within (token_of packet).address w)

  module _ (s : Status) (pid n : ℕ) (byte : pid < 256) (packet : List ℕ) where
    on_bounded : (p : Place) (kind owner : ℕ) → Placed w.count ts gs p → Bounded w.count ts gs n (start_on s p kind owner pid n)
    on_bounded p kind owner l = record { there = l.there; number = l.number; token = byte; place = l.place; entry = l.entry; row = λ q. refl }

    starting_bounded : Bounded w.count ts gs n (starting s x0 e0 pid packet n w)
    unfolding starting
    starting_bounded = by (eqb pid MALFORMED) (eqb pid SPLIT)
      where
        first : Placed w.count ts gs (standing x0 e0 invalid_ep w)
        first = standing-placed invalid_ep (omega arith)

        by : (a b : Bool) → Bounded w.count ts gs n (pick a (start_on s (standing x0 e0 invalid_ep w) Unknown 0 pid n) (pick b (start_split packet pid n (standing x0 e0 invalid_ep w)) (start_plain s (place_of x0 e0 pid packet w) pid packet n)))
        by true b = on_bounded (standing x0 e0 invalid_ep w) Unknown 0 first
        by false true = record { there = omega arith; number = omega arith; token = omega arith; place = never; entry = entry_small invalid_ep (omega arith); row = λ q. refl }
        by false false = on_bounded (place_of x0 e0 pid packet w) _ (token_of packet).address (place-placed pid packet)

    module _ (b : Transaction) (on : b.endpoint < w.count) (old : x0 < w.count) (token : start_pid b.style < 256) where
      going_bounded : Bounded w.count ts gs n (going_on s x0 e0 pid b w)
      going_bounded = record { there = omega arith; number = omega arith; token = token; place = never; entry = entry_small x0 old; row = never }

      appending_bounded : Bounded w.count ts gs n (appending s x0 e0 pid packet b w)
      unfolding appending
      appending_bounded = by b.style
        where
          by : (t : Style) → Bounded w.count ts gs n (appending_at t s x0 e0 pid packet b w)
          by Nothing = going_bounded
          by (Simple first) = going_bounded
          by (Split sc kind) = let l = place-placed pid packet in record { there = l.there; number = l.number; token = byte; place = l.place; entry = l.entry; row = never }
          by (Token sc kind t) = going_bounded

-- the statuses by which a transaction goes on
abbrev pub on_going : Status → Bool
on_going New = false
on_going Continue = true
on_going Retry = true
on_going Done = true
on_going Fail = true
on_going Ambiguous = true
on_going Invalid = false

pub middle_bounded : (w : World) → 3 ≤ w.count → w.device_count ≤ 64 → (ts gs x0 : ℕ) (e0 : Endpoint) → x0 < w.count → Small ts gs e0 → ((j : ℕ) → j < w.count → Small ts gs (w.endpoints j))
    → (s : Status) (pid n : ℕ) → pid < 256 → (packet : List ℕ) (b : Transaction) → (on_going s ≡ true → b.endpoint < w.count) → start_pid b.style < 256 → Bounded w.count ts gs n (middle_of s x0 e0 pid packet n b w)
middle_bounded w special devices ts gs x0 e0 old small entries s pid n byte packet b on token = by s on
  where
    goes : (s : Status) → b.endpoint < w.count → Bounded w.count ts gs n (appending s x0 e0 pid packet b w)
    goes s h = appending_bounded w special devices ts gs x0 e0 small entries s pid n byte packet b h old token

    begins : (s : Status) → Bounded w.count ts gs n (starting s x0 e0 pid packet n w)
    begins s = starting_bounded w special devices ts gs x0 e0 small entries s pid n byte packet

    by : (s : Status) → (on_going s ≡ true → b.endpoint < w.count) → Bounded w.count ts gs n (middle_of s x0 e0 pid packet n b w)
    by New h = begins New
    by Continue h = goes Continue (h refl)
    by Retry h = goes Retry (h refl)
    by Done h = goes Done (h refl)
    by Fail h = goes Fail (h refl)
    by Ambiguous h = goes Ambiguous (h refl)
    by Invalid h = begins Invalid
