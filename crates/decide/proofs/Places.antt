-- What the searches find is there, a token's number is small, and the endpoint of a packet by what was taken of the devices (Near).
use Rattle.std.proofs.Common.{◌≡◌, ℕ, ◌+◌, ◌<◌, ◌≤◌, Bool, true, false, not, ◌&&◌, eqb, List, [], sym, refl, ap, ◌∙◌, subst, mod-lt, arith, eqb-true, Option, Some, None}
use Rattle.usb.specs.Pid.{SETUP, IN, OUT, PING, SOF}
use Rattle.usb.specs.Fields.{token_of}
use Rattle.usb.specs.declared.fields.Token.{Token}
use Rattle.transaction.specs.Table.{pick, only, ◌or◌}
use Rattle.details.specs.Search.{first_from, last_of}
use Rattle.details.specs.Lookup.{found_device}
use Rattle.details.proofs.SearchLaws.{First, Last, first-is, last-is}
use Rattle.details.specs.Details.{bare, details_of}
use Rattle.details.specs.Kind.{Invalid, Framing}
use Rattle.details.specs.declared.Detail.{Detail}
use Rattle.details.specs.declared.Device.{Device}
use Rattle.endpoints.specs.Table.{entry_at}
use Rattle.endpoints.specs.declared.Endpoint.{Endpoint}
use Rattle.transaction.specs.declared.Status.{Status}
use Rattle.transaction.specs.declared.Transaction.{Transaction}
use Rattle.rules.specs.World.{World, invalid_ep, framing_ep}
use Rattle.rules.specs.Endpoints.{device_for, address_for, endpoint_lookup, detail_of}
use Rattle.record.specs.Bools.{both}
use Rattle.record.specs.World.{world_of}
use Rattle.record.specs.declared.Decoder.{Decoder}
use Rattle.plan.specs.Packet.{standing, new_on, place_at, place_of, going_on}
use Rattle.plan.specs.declared.Middle.{Middle}
use Rattle.plan.specs.declared.Place.{Place}
use Rattle.decide.specs.Ready.{Ready}
use Rattle.decide.specs.Near.{Seen, place_in, near_by, found_on, detail_by, standing_on, new_by, going_by}
use Rattle.decide.specs.declared.near.Near.{Near}

pub number_small : (packet : List ℕ) {t : Token} → t ≡ token_of packet → t.number < 16
number_small packet e = rw e (mod-lt _ (omega arith))

-- a row that was found is one of the first n
abbrev Below : ℕ → Option ℕ → Type 0
Below n (Some i) = i < n
Below n None = Unit {0}

at-below : (n : ℕ) (f : Option ℕ) (i : ℕ) → Below n f → f ≡ Some i → i < n
at-below n (Some j) i b e = let q : j ≡ i = cc in omega arith
at-below n None i b e = absurd (let z : ◌≡◌ {A = ℕ} 0 1 = cc in omega arith)

last-below : (test : ℕ → Bool) (n : ℕ) → Below n (last_of test n)
last-below test n = by (last_of test n) (last-is test n)
  where
    by : (f : Option ℕ) → Last test n f → Below n f
    by (Some i) l = l.0
    by None l = tt

first_below : (test : ℕ → Bool) (n : ℕ) → Below n (first_from test 0 n)
first_below test n = by (first_from test 0 n) (first-is test n 0)
  where
    by : (f : Option ℕ) → First test 0 n f → Below n f
    by (Some i) l = omega (arith, l.1.0)
    by None l = tt

pub place_few : (devices : List Device) (n address : ℕ) (f : Option ℕ) → f ≡ found_device devices n address → n ≤ 64 → place_in f < 64
unfolding found_device
place_few devices n address f e h = by f (subst (λ (g : Option ℕ). Below n g) (sym e) (last-below _ n))
  where
    by : (g : Option ℕ) → Below n g → place_in g < 64
    by (Some i) l = omega (arith, l, h)
    by None l = omega arith

module _ (w : World) (h : 3 ≤ w.count) where
  lookup-below : (f : Option ℕ) (address : ℕ) → Below w.count (endpoint_lookup f address w)
  lookup-below (Some d) address = first_below (λ i. eqb (w.endpoints i).device d && eqb (w.endpoints i).address address) w.count
  lookup-below None address = tt

  either-below : (a b : Bool) (f : Option ℕ) → Below w.count f → Below w.count (pick a (Some 2) (pick b f (Some 1)))
  either-below true b f l = omega arith
  either-below false true f l = l
  either-below false false f l = omega arith

  pub found_at : (device : Option ℕ) (pid : ℕ) (packet : List ℕ) (f : Option ℕ) (i : ℕ) → f ≡ found_on device pid packet w → f ≡ Some i → i < w.count
  found_at device pid packet f i e g =
      at-below w.count (found_on device pid packet w) i
      (either-below (eqb pid SOF) ((SETUP or IN or OUT or only PING) pid) _ (lookup-below device (address_for pid (token_of packet).number)))
      (sym e ∙ g)

-- ---- what was taken of the devices

pub seen_by : {near : Near} {x0 : ℕ} {packet : List ℕ} {w : World} {found : Option ℕ} {number : ℕ} {row : Device} {old : Detail} → near ≡ near_by found number row old
    → found ≡ device_for (token_of packet).address w → number ≡ (token_of packet).number → row ≡ w.devices (place_in found) → old ≡ detail_of x0 w → Seen near x0 packet w
seen_by {near} {packet = packet} {w = w} e f n r o =
    let same = sym (ap (λ (a : Near). a.found) e) in
    record {
      found = ap (λ (a : Near). a.found) e ∙ f;
      inward = ap (λ (a : Near). a.inward) e ∙ ((λ i. details_of (r i) (address_for IN (n i))) ∙ ap (λ (g : Option ℕ). details_of (w.devices (place_in g)) (address_for IN (token_of packet).number)) same);
      outward = ap (λ (a : Near). a.outward) e ∙ ((λ i. details_of (r i) (n i)) ∙ ap (λ (g : Option ℕ). details_of (w.devices (place_in g)) (token_of packet).number) same);
      old = ap (λ (a : Near). a.old) e ∙ o;
    }

-- ---- the details of an endpoint that was found

module _ (w : World) where
  -- an endpoint that was looked up is on that device, and has that address
  abbrev Owned : Option ℕ → ℕ → Option ℕ → Type 0
  Owned f address (Some i) = ((w.endpoints i).device ≡ place_in f) × ((w.endpoints i).address ≡ address)
  Owned f address None = Unit {0}

  abbrev matching : ℕ → ℕ → ℕ → Bool
  matching d address i = eqb (w.endpoints i).device d && eqb (w.endpoints i).address address

  lookup_owned : (f : Option ℕ) (address : ℕ) → Owned f address (endpoint_lookup f address w)
  lookup_owned (Some d) address = by (first_from (matching d address) 0 w.count) (first-is (matching d address) w.count 0)
    where
      by : (g : Option ℕ) → First (matching d address) 0 w.count g → Owned (Some d) address g
      by (Some i) l = let h = both _ _ l.1.1.0 in (eqb-true _ _ h.0, eqb-true _ _ h.1)
      by None l = tt
  lookup_owned None address = tt

-- the special endpoints that packets are on
framing-detail : (k : Device) → details_of k 0x12 ≡ bare Framing
unfolding details_of
framing-detail k = refl

invalid-detail : (k : Device) → details_of k 0x11 ≡ bare Invalid
unfolding details_of
invalid-detail k = refl

nothing-found : {P : Type 0} {i : ℕ} → Some i ≡ None → P
nothing-found h = absurd (let z : ◌≡◌ {A = ℕ} 0 1 = cc in omega arith)

module _ (d : Decoder) (table : List ℕ) (r : Ready d table) (near : Near) (x0 : ℕ) (e0 : Endpoint) (packet : List ℕ) (v : List Device) (s : Seen near x0 packet (world_of d v table)) where
  abbrev w : World
  w = world_of d v table

  abbrev number : ℕ
  number = (token_of packet).number

  framing-is : bare Framing ≡ detail_of framing_ep w
  framing-is = sym (ap (details_of (w.devices (w.endpoints 2).device)) r.framing ∙ framing-detail (w.devices (w.endpoints 2).device))

  invalid-is : bare Invalid ≡ detail_of invalid_ep w
  invalid-is = sym (ap (details_of (w.devices (w.endpoints 1).device)) r.invalid ∙ invalid-detail (w.devices (w.endpoints 1).device))

  -- on the device that was found, by the direction
  direction-is : (pid : ℕ) → pick (eqb pid IN) near.inward near.outward ≡ details_of (w.devices (place_in near.found)) (address_for pid number)
  direction-is pid = by (eqb pid IN)
    where
      by : (b : Bool) → pick b near.inward near.outward ≡ details_of (w.devices (place_in near.found)) (pick (b && not (eqb number 0)) (number + 128) number)
      by true = s.inward
      by false = s.outward

  abbrev looked : ℕ → Option ℕ
  looked pid = endpoint_lookup near.found (address_for pid number) w

  detail-is : (pid i : ℕ) → found_on near.found pid packet w ≡ Some i → detail_by pid near ≡ detail_of i w
  detail-is pid i = by (eqb pid SOF) ((SETUP or IN or OUT or only PING) pid)
    where
      by : (a b : Bool) → pick a (Some framing_ep) (pick b (looked pid) (Some invalid_ep)) ≡ Some i
          → pick a (bare Framing) (pick b (pick (eqb pid IN) near.inward near.outward) (bare Invalid)) ≡ detail_of i w
      by true b h = let q : framing_ep ≡ i = cc in framing-is ∙ ap (λ (j : ℕ). detail_of j w) q
      by false true h =
          let o : Owned w near.found (address_for pid number) (Some i) = subst (λ (g : Option ℕ). Owned w near.found (address_for pid number) g) h (lookup_owned w near.found (address_for pid number)) in
          direction-is pid ∙ (λ k. details_of (w.devices (sym o.0 k)) (sym o.1 k))
      by false false h = let q : invalid_ep ≡ i = cc in invalid-is ∙ ap (λ (j : ℕ). detail_of j w) q

  -- none is found of a token only
  token-is : (pid : ℕ) → found_on near.found pid packet w ≡ None → detail_by pid near ≡ pick (eqb pid IN) near.inward near.outward
  token-is pid = by (eqb pid SOF) ((SETUP or IN or OUT or only PING) pid)
    where
      by : (a b : Bool) → pick a (Some framing_ep) (pick b (looked pid) (Some invalid_ep)) ≡ None
          → pick a (bare Framing) (pick b (pick (eqb pid IN) near.inward near.outward) (bare Invalid)) ≡ pick (eqb pid IN) near.inward near.outward
      by true b h = nothing-found h
      by false true h = refl
      by false false h = nothing-found h

  -- a lookup goes by the endpoints alone
  lookup_by : (f : Option ℕ) (address : ℕ) → endpoint_lookup f address (world_of d [] table) ≡ endpoint_lookup f address w
  lookup_by (Some i) address = refl
  lookup_by None address = refl

  found-is : (pid : ℕ) {f : Option ℕ} → f ≡ found_on near.found pid packet (world_of d [] table) → f ≡ found_on near.found pid packet w
  found-is pid e = e ∙ ap (λ (g : Option ℕ). pick (eqb pid SOF) (Some 2) (pick ((SETUP or IN or OUT or only PING) pid) g (Some 1))) (lookup_by near.found (address_for pid number))

  place_is : (pid : ℕ) {f : Option ℕ} → f ≡ found_on near.found pid packet (world_of d [] table) → place_at f x0 e0 pid packet w ≡ place_of x0 e0 pid packet w
  unfolding place_of
  place_is pid e = ap (λ (g : Option ℕ). place_at g x0 e0 pid packet w) (found-is pid e ∙ ap (λ (g : Option ℕ). found_on g pid packet w) s.found)

  pub place_found : (pid : ℕ) {f : Option ℕ} {detail : Detail} {p : Place} (i : ℕ) → f ≡ found_on near.found pid packet (world_of d [] table) → f ≡ Some i
      → detail ≡ detail_by pid near → p ≡ standing_on x0 e0 i detail (entry_at table i) → p ≡ place_of x0 e0 pid packet w
  place_found pid i e q k h =
      h
      ∙ (ap (λ (a : Detail). standing_on x0 e0 i a (entry_at table i)) (k ∙ detail-is pid i (sym (found-is pid e) ∙ q))
      ∙ (ap (λ (g : Option ℕ). place_at g x0 e0 pid packet w) (sym q) ∙ place_is pid e))

  new_is : (f : Option ℕ) (detail : Detail) (owner address : ℕ) → detail ≡ details_of (w.devices (place_in f)) address → new_by f detail owner address d.counts ≡ new_on f owner address w
  new_is (Some i) detail owner address e = ap (λ (a : Detail). new_by (Some i) a owner address d.counts) e
  new_is None detail owner address e = refl

  pub place-new : (pid : ℕ) {f : Option ℕ} {detail : Detail} {p : Place} {owner address : ℕ} → f ≡ found_on near.found pid packet (world_of d [] table) → f ≡ None
      → detail ≡ detail_by pid near → owner ≡ (token_of packet).address → address ≡ address_for pid number
      → p ≡ new_by near.found detail owner address d.counts → p ≡ place_of x0 e0 pid packet w
  place-new pid {detail = detail} {owner = owner} {address = address} e q k a b h =
      h
      ∙ (new_is near.found detail owner address (k ∙ (token-is pid (sym (found-is pid e) ∙ q) ∙ (direction-is pid ∙ ap (details_of (w.devices (place_in near.found))) (sym b))))
      ∙ ((λ i. new_on (s.found i) (a i) (b i) w)
      ∙ (ap (λ (g : Option ℕ). place_at g x0 e0 pid packet w) (sym q) ∙ place_is pid e)))

  -- the invalid endpoint, and that of the old transaction
  pub stand-invalid : {p : Place} → p ≡ standing_on x0 e0 1 (bare Invalid) (entry_at table 1) → p ≡ standing x0 e0 invalid_ep w
  stand-invalid h = h ∙ ap (λ (a : Detail). standing_on x0 e0 1 a (entry_at table 1)) invalid-is

  pub going-is : {m : Middle} (status : Status) (pid : ℕ) (b : Transaction) → m ≡ going_by status (standing_on x0 e0 x0 near.old (entry_at table x0)) pid b → m ≡ going_on status x0 e0 pid b w
  going-is status pid b h = h ∙ ap (λ (a : Detail). going_by status (standing_on x0 e0 x0 a (entry_at table x0)) pid b) s.old
