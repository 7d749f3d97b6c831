-- packet_endpoint, and what is stored of a device, keep what stands: a new endpoint is on a device that was found or was just added.
use Prim.Native.Nat.{ℕ, suc, ◌<◌}
use native.Mathlib.Nat.{le_refl}
use native.Mathlib.Omega.{arith}
use mathlib.Core.Bool.{Bool, true, false, true≢false}
use mathlib.Core.List.{List}
use mathlib.Core.Logic.{◌⊎◌, inl, inr}
use mathlib.Core.Path.{◌≡◌, refl, sym}
use borrow.Author.Tests.{eqb-false, ne_eqb}
use lib.Dec.{eqb}
use Rattle.usb.specs.Fields.{token_of}
use Rattle.transaction.specs.Table.{pick}
use Rattle.transaction.specs.declared.Transaction.{Transaction}
use Rattle.details.proofs.SearchLaws.{Last, last-is}
use Rattle.details.specs.declared.Device.{Device}
use Rattle.endpoints.specs.declared.Endpoint.{Endpoint}
use Rattle.std.specs.Prelude.{Option, Some, None}
use Rattle.rules.proofs.Moves.{Spot, found-spot}
use Rattle.rules.specs.World.{World, no_item}
use Rattle.endpoints.specs.Table.{new_endpoint}
use Rattle.rules.specs.Endpoints.{add_device, device_for, push_endpoint, add_endpoint_on, address_for, found, packet_endpoint_at, packet_endpoint, number_at, endpoint_of}
use Rattle.record.proofs.FormedLaws.{Special}
use Rattle.sound.specs.Fit.{EntryFit}
use Rattle.sound.proofs.FitsTame.{Stands, StandsIn, longer, deviced}
use Rattle.sound.proofs.FitsUpdate.{device_stands}

-- ---- an endpoint more

new-fits : (k d m a : ℕ) → m < d → EntryFit k d (new_endpoint m a)
new-fits k d m a h =
    record { transactions = omega arith; groups = omega arith; device = h; pendinglink = λ q. absurd (true≢false (sym q)); group = λ q. absurd (true≢false (sym q)) }

module _ (f : ℕ → Endpoint) (c : ℕ) (e : Endpoint) where
  abbrev extended : ℕ → Endpoint
  extended j = pick (eqb j c) e (f j)

  old : (j : ℕ) → j < c → extended j ≡ f j
  old j h = rw (ne_eqb j c (λ z. omega arith))

  special : (j m : ℕ) → j < c → Special (f j) m → Special (extended j) m
  special j m h s = rw (old j h) s

wider-last : (l c i : ℕ) → (l ≡ no_item) ⊎ ((l < c) × (0 < i)) → (l ≡ no_item) ⊎ ((l < suc c) × (0 < i))
wider-last l c i (inl q) = inl q
wider-last l c i (inr h) = inr (omega (arith, h.0), h.1)

more-endpoints : {b : Bool} {y : ℕ} {f : ℕ → Endpoint} {c a d : ℕ} {t : Transaction} {r l i k : ℕ} (m n : ℕ) → m < d → Stands b y f c a d t r l i k → Stands b y (λ j. pick (eqb j c) (new_endpoint m n) (f j)) (suc c) a d t r l i k
more-endpoints {b} {y} {f} {c} {a} {d} {t} {r} {l} {i} {k} m n h s =
    record {
      device = s.device;
      first = s.first;
      three = omega (arith, s.three);
      event = special f c e 0 16 (omega (arith, s.three)) s.event;
      invalid = special f c e 1 17 (omega (arith, s.three)) s.invalid;
      framing = special f c e 2 18 (omega (arith, s.three)) s.framing;
      rests = rw (old f c e 0 (omega (arith, s.three))) s.rests;
      entries = entry;
      held = λ q. (let u = s.held q in record { endpoint = omega (arith, u.endpoint); id = u.id; link = λ z. ((u.link z).0, rw (old f c e t.endpoint u.endpoint) (u.link z).1) });
      last = wider-last l c i s.last;
      target = s.target;
    }
  where
    e : Endpoint
    e = new_endpoint m n

    entry : (j : ℕ) → j < suc c → EntryFit k d (pick (eqb j c) e (f j))
    entry j q = by (eqb j c) refl
      where
        by : (z : Bool) → eqb j c ≡ z → EntryFit k d (pick z e (f j))
        by true z = new-fits k d m n h
        by false z = let ne = eqb-false j c z in s.entries j (omega arith)

module _ (n : ℕ) (b : Bool) (y : ℕ) where
  push_stands : (d a : ℕ) (w : World) → d < w.device_count → StandsIn n b y w → StandsIn n b y (push_endpoint d a w)
  push_stands d a w h s = more-endpoints d a h (longer (omega arith) s)

  add_stands : (g : Option ℕ) (device a : ℕ) (w : World) → Last (λ i. eqb (w.devices i).address device) w.device_count g → StandsIn n b y w → StandsIn n b y (add_endpoint_on g device a w)
  add_stands (Some d) device a w h s = push_stands d a w h.0 s
  add_stands None device a w h s = push_stands w.device_count a (add_device device w) (omega arith) (device_stands n b y device w s)

-- ---- packet_endpoint: its number x is one that is there, and not the event endpoint's

pub record Placed (n : ℕ) (b : Bool) (y x : ℕ) (w v : World) : Type 0 where
  pub rows : v.transactions ≡ w.transactions
  pub stands : StandsIn n b y v
  pub there : x < v.count
  pub real : ¬ (x ≡ 0)

added-count : (g : Option ℕ) (device a : ℕ) (w : World) → (add_endpoint_on g device a w).count ≡ suc w.count
added-count (Some d) device a w = refl
added-count None device a w = refl

added-rows : (g : Option ℕ) (device a : ℕ) (w : World) → (add_endpoint_on g device a w).transactions ≡ w.transactions
added-rows (Some d) device a w = refl
added-rows None device a w = refl

pub placing : (n : ℕ) (b : Bool) (y pid : ℕ) (p : List ℕ) (w : World) → StandsIn n b y w → Placed n b y (endpoint_of pid p w) w (packet_endpoint pid p w)
placing n b y pid p w s = by (found pid p w) (found-spot pid p w s.three s.event.address)
  where
    by : (g : Option ℕ) → Spot g w.count → Placed n b y (number_at g w) w (packet_endpoint_at g pid p w)
    by (Some i) h = record { rows = refl; stands = s; there = h.0; real = h.1 }
    by None h =
        let d = device_for (token_of p).address w in
        let a = address_for pid (token_of p).number in
        let q = added-count d (token_of p).address a w in
        record { rows = added-rows d (token_of p).address a w; stands = add_stands n b y d (token_of p).address a w (last-is (λ i. eqb (w.devices i).address (token_of p).address) w.device_count) s; there = omega arith; real = λ z. omega (arith, s.three) }
