-- Worlds with the same devices and endpoints, of which the entries may differ in what a search does not read: the endpoint of a packet is the same in both.
use mathlib.Core.Path.{◌≡◌, refl, ap, ◌∙◌}
use mathlib.Core.Bool.{Bool, true, false, ◌&&◌}
use mathlib.Core.List.{List}
use Prim.Native.Nat.{ℕ}
use lib.Dec.{eqb}
use Rattle.usb.specs.Pid.{SETUP, IN, OUT, SOF, PING, SPLIT, MALFORMED}
use Rattle.usb.specs.Fields.{token_of}
use Rattle.transaction.specs.Table.{pick, only, ◌or◌}
use Rattle.transaction.specs.declared.Status.{Status}
use Rattle.transaction.specs.declared.Style.{Style}
use Rattle.transaction.specs.declared.Style.TheVariants.{Nothing, Simple, Split, Token}
use Rattle.transaction.specs.declared.Transaction.{Transaction}
use Rattle.details.specs.Kind.{Unknown}
use Rattle.details.specs.Details.{details_of, fresh}
use Rattle.details.specs.Search.{first_from, last_of}
use Rattle.details.specs.declared.Detail.{Detail}
use Rattle.endpoints.specs.declared.Endpoint.{Endpoint}
use Rattle.std.specs.Prelude.{Option, Some, None}
use Rattle.rules.specs.World.{World, invalid_ep, framing_ep, new_transaction, with_pid}
use Rattle.endpoints.specs.Table.{new_endpoint}
use Rattle.rules.specs.Endpoints.{device_for, address_for, endpoint_lookup, found, detail_of}
use Rattle.plan.specs.Packet.{going, entry_by, standing, new_on, place_at, place_of, update_for, type_by, start_on, start_split, start_plain, starting, with_token_on, going_on, appending_at, appending}
use Rattle.plan.specs.declared.Place.{Place}

pub record Alike (w v : World) : Type 0 where
  pub count : v.count ≡ w.count
  pub devices : v.devices ≡ w.devices
  pub device_count : v.device_count ≡ w.device_count
  pub device : (j : ℕ) → (v.endpoints j).device ≡ (w.endpoints j).device
  pub address : (j : ℕ) → (v.endpoints j).address ≡ (w.endpoints j).address

-- one after the other
pub alike_then : {u v w : World} → Alike u v → Alike v w → Alike u w
alike_then a b =
    record { count = b.count ∙ a.count; devices = b.devices ∙ a.devices; device_count = b.device_count ∙ a.device_count; device = λ j. b.device j ∙ a.device j; address = λ j. b.address j ∙ a.address j }

module _ {w v : World} (a : Alike w v) where
  pub same-device : (address : ℕ) → device_for address v ≡ device_for address w
  same-device address i = last_of (λ j. eqb (a.devices i j).address address) (a.device_count i)

  same_lookup : (f : Option ℕ) (address : ℕ) → endpoint_lookup f address v ≡ endpoint_lookup f address w
  same_lookup (Some d) address = λ i. first_from (λ j. eqb (a.device j i) d && eqb (a.address j i) address) 0 (a.count i)
  same_lookup None address = refl

  pub same-found : (pid : ℕ) (packet : List ℕ) → found pid packet v ≡ found pid packet w
  same-found pid packet =
      ap (λ (f : Option ℕ). pick (eqb pid SOF) (Some framing_ep) (pick ((SETUP or IN or OUT or only PING) pid) f (Some invalid_ep)))
      (ap (λ (f : Option ℕ). endpoint_lookup f (address_for pid (token_of packet).number) v) (same-device (token_of packet).address) ∙ same_lookup (device_for (token_of packet).address w) (address_for pid (token_of packet).number))

  pub same-detail : (j : ℕ) → detail_of j v ≡ detail_of j w
  same-detail j i = details_of (a.devices i (a.device j i)) (a.address j i)

  same_new : (g : Option ℕ) (owner address : ℕ) → new_on g owner address v ≡ new_on g owner address w
  same_new (Some d) owner address =
      λ i. record { x = a.count i; new = true; device = false; place = d; number = address; detail = details_of (a.devices i d) address; entry = new_endpoint d address }
  same_new None owner address =
      λ i. record { x = a.count i; new = true; device = true; place = a.device_count i; number = address; detail = details_of (fresh owner) address; entry = new_endpoint (a.device_count i) address }

  -- the endpoint of a packet, where its entry is the same too
  module _ (x0 : ℕ) (e0 : Endpoint) (same : (j : ℕ) → entry_by x0 e0 j v ≡ entry_by x0 e0 j w) where
    pub same-standing : (j : ℕ) → standing x0 e0 j v ≡ standing x0 e0 j w
    same-standing j i = record { x = j; new = false; device = false; place = a.device j i; number = a.address j i; detail = same-detail j i; entry = same j i }

    same_place : (pid : ℕ) (packet : List ℕ) → place_of x0 e0 pid packet v ≡ place_of x0 e0 pid packet w
    unfolding place_of
    same_place pid packet = ap (λ (f : Option ℕ). place_at f x0 e0 pid packet v) (same-found pid packet) ∙ by (found pid packet w)
      where
        by : (f : Option ℕ) → place_at f x0 e0 pid packet v ≡ place_at f x0 e0 pid packet w
        by (Some j) = same-standing j
        by None =
            let address = address_for pid (token_of packet).number in
            ap (λ (g : Option ℕ). new_on g (token_of packet).address address v) (same-device (token_of packet).address) ∙ same_new (device_for (token_of packet).address w) (token_of packet).address address

    pub same-starting : (s : Status) (pid : ℕ) (packet : List ℕ) (n : ℕ) → starting s x0 e0 pid packet n v ≡ starting s x0 e0 pid packet n w
    unfolding starting
    same-starting s pid packet n i =
        pick (eqb pid MALFORMED)
        (start_on s (same-standing invalid_ep i) Unknown 0 pid n)
        (pick (eqb pid SPLIT) (start_split packet pid n (same-standing invalid_ep i)) (start_plain s (same_place pid packet i) pid packet n))

    pub same-appending : (s : Status) (pid : ℕ) (packet : List ℕ) (b : Transaction) → appending s x0 e0 pid packet b v ≡ appending s x0 e0 pid packet b w
    unfolding appending
    same-appending s pid packet b = by b.style
      where
        goes : going_on s x0 e0 pid b v ≡ going_on s x0 e0 pid b w
        goes i =
            let p = same-standing x0 i in
            record { begin = going false (with_pid pid b) (update_for s pid (with_pid pid b) p.entry); entry = p.entry; detail = p.detail }

        by : (t : Style) → appending_at t s x0 e0 pid packet b v ≡ appending_at t s x0 e0 pid packet b w
        by Nothing = goes
        by (Simple first) = goes
        by (Split sc kind) = ap (λ (p : Place). with_token_on s p sc kind (token_of packet).address pid b) (same_place pid packet)
        by (Token sc kind token) = goes

  -- the step that begins, where the entries differ, but not in what is decided from them
  module _ (x0 : ℕ) (e0 : Endpoint) (s : Status) (pid : ℕ) (near : (j : ℕ) (t : Transaction) → update_for s pid t (entry_by x0 e0 j v) ≡ update_for s pid t (entry_by x0 e0 j w)) (packet : List ℕ) (n : ℕ) where
    near-standing : (kind_of : Detail → ℕ) (owner j : ℕ)
        → (start_on s (standing x0 e0 j v) (kind_of (detail_of j v)) owner pid n).begin
        ≡ (start_on s (standing x0 e0 j w) (kind_of (detail_of j w)) owner pid n).begin
    near-standing kind_of owner j =
        (λ i. let t = new_transaction (Simple pid) n pid j (kind_of (same-detail j i)) in
        record { row = true; device = false; endpoint = false; types = false; owner = owner; place = a.device j i; number = a.address j i; kind = 0; transaction = t; update = update_for s pid t (entry_by x0 e0 j v) })
        ∙ (λ i. let t = new_transaction (Simple pid) n pid j (kind_of (detail_of j w)) in
        record { row = true; device = false; endpoint = false; types = false; owner = owner; place = (w.endpoints j).device; number = (w.endpoints j).address; kind = 0; transaction = t; update = near j t i })

    near-plain : (f : Option ℕ) → (start_plain s (place_at f x0 e0 pid packet v) pid packet n).begin ≡ (start_plain s (place_at f x0 e0 pid packet w) pid packet n).begin
    near-plain (Some j) = near-standing (λ d. type_by d.kind) (token_of packet).address j
    near-plain None =
        let address = address_for pid (token_of packet).number in
        ap (λ (p : Place). (start_plain s p pid packet n).begin)
        (ap (λ (g : Option ℕ). new_on g (token_of packet).address address v) (same-device (token_of packet).address) ∙ same_new (device_for (token_of packet).address w) (token_of packet).address address)

    pub near-starting : (starting s x0 e0 pid packet n v).begin ≡ (starting s x0 e0 pid packet n w).begin
    unfolding starting place_of
    near-starting =
        ap (λ (f : Option ℕ). (pick (eqb pid MALFORMED) (start_on s (standing x0 e0 invalid_ep v) Unknown 0 pid n) (pick (eqb pid SPLIT) (start_split packet pid n (standing x0 e0 invalid_ep v)) (start_plain s (place_at f x0 e0 pid packet v) pid packet n))).begin) (same-found pid packet)
        ∙ by (eqb pid MALFORMED) (eqb pid SPLIT)
      where
        by : (b c : Bool)
            → (pick b (start_on s (standing x0 e0 invalid_ep v) Unknown 0 pid n) (pick c (start_split packet pid n (standing x0 e0 invalid_ep v)) (start_plain s (place_at (found pid packet w) x0 e0 pid packet v) pid packet n))).begin
            ≡ (pick b (start_on s (standing x0 e0 invalid_ep w) Unknown 0 pid n) (pick c (start_split packet pid n (standing x0 e0 invalid_ep w)) (start_plain s (place_at (found pid packet w) x0 e0 pid packet w) pid packet n))).begin
        by true c = near-standing (λ d. Unknown) 0 invalid_ep
        by false true = refl
        by false false = near-plain (found pid packet w)
