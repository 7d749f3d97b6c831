-- A new device, a new endpoint, the endpoint that a token goes to, a type that a split stores: what two shelves have in common stays.
use Prim.Native.Nat.{ℕ, zero, suc, ◌+◌, ◌*◌, ◌≤◌, ◌<◌, min, zero-le}
use native.Mathlib.Nat.{le_refl, mod-lt}
use native.Mathlib.Omega.{arith}
use mathlib.Core.Path.{◌≡◌, refl, sym, ap, subst, ◌∙◌}
use mathlib.Core.Bool.{Bool, true, false, ◌&&◌, not}
use mathlib.Core.List.{List}
use mathlib.Core.Logic.{◌⊎◌, inl, inr}
use borrow.Author.Tests.{eqb-true, eqb-false, eq-eqb, ne_eqb}
use lib.Dec.{eqb}
use Rattle.usb.specs.Fields.{token_of}
use Rattle.usb.specs.Pid.{SETUP, IN, OUT, SOF, PING}
use Rattle.transaction.specs.Table.{pick, only, ◌or◌}
use Rattle.transaction.specs.declared.Transaction.{Transaction}
use Rattle.details.specs.Details.{fresh, with_type}
use Rattle.details.proofs.DetailsLaws.{type-kept}
use Rattle.details.proofs.SearchLaws.{First, Last, first-is, last-is}
use Rattle.details.specs.Search.{first_from}
use Rattle.details.specs.declared.Device.{Device}
use Rattle.std.specs.Prelude.{Option, Some, None}
use Rattle.endpoints.specs.Table.{new_endpoint}
use Rattle.endpoints.specs.declared.Endpoint.{Endpoint}
use Rattle.descriptors.specs.Kind.{kind_of}
use Rattle.descriptors.specs.Laid.{is_laid}
use Rattle.rules.specs.World.{World, change, change_device, with_slot, with_transaction, with_pending, with_total}
use Rattle.rules.specs.Endpoints.{add_device, device_for, push_endpoint, add_endpoint_on, address_for, endpoint_lookup, found, packet_endpoint_at, packet_endpoint, number_at, endpoint_of, typed, set_endpoint_type}
use Rattle.rules.specs.declared.Slot.{Slot}
use Rattle.demands.specs.Shelf.{Agree}
use Rattle.record.specs.Bools.{both}
use Rattle.unread.proofs.Kin.{Plain, plain, view, Aims, Still, Mild, Tame, Softly, soft, changes}
use Rattle.unread.proofs.Stages.{never, awaits}

-- ---- where INs and OUTs go

address_aims : (pid n : ℕ) → n < 16 → Aims pid (address_for pid n)
address_aims pid n h = (λ q. subst (λ (k : ℕ). (128 ≤ address_for k n) ⊎ (address_for k n ≡ 0)) (sym q) (by (eqb n 0) refl), λ q. subst (λ (k : ℕ). address_for k n < 128) (sym q) (omega arith))
  where
    by : (b : Bool) → eqb n 0 ≡ b → (128 ≤ pick (true && not b) (n + 128) n) ⊎ (pick (true && not b) (n + 128) n ≡ 0)
    by true q = inr (eqb-true n 0 q)
    by false q = inl (omega arith)

-- a packet that is neither goes anywhere
no_aims : (pid address : ℕ) → (pid ≡ IN → ⊥) → (pid ≡ OUT → ⊥) → Aims pid address
no_aims pid address i o = (λ q. absurd (i q), λ q. absurd (o q))

small : (p : List ℕ) → (token_of p).number < 16
small p = mod-lt _ (omega arith)

module _ (h g : List ℕ) where
  -- ---- the transaction and the slot are no part of it

  pub with-transaction : (t : Transaction) (w : World) → Still h g (view w) → Still h g (view (with_transaction t w))
  with-transaction t w s = record { long = s.long; three = s.three; event = s.event; owner = s.owner; entries = s.entries; payload = s.payload; waits = s.waits }

  pub with-slot : (z : Slot) (w : World) → Still h g (view w) → Still h g (view (with_slot z w))
  with-slot z w s = record { long = s.long; three = s.three; event = s.event; owner = s.owner; entries = s.entries; payload = s.payload; waits = s.waits }

  -- ---- devices

  pub device_still : (a : ℕ) (w : World) → Still h g (view w) → Still h g (view (add_device a w))
  unfolding fresh
  device_still a w s =
      record { long = s.long; three = s.three; event = s.event; owner = λ x. omega (arith, s.owner x); entries = λ i l. by i (eqb i w.device_count) refl l; payload = s.payload; waits = s.waits }
    where
      by : (i : ℕ) (b : Bool) → eqb i w.device_count ≡ b → i < suc w.device_count → Agree (i * 8192 + 4096) (min (pick b (fresh a) (w.devices i)).kept 585 * 7) h g
      by i true q l = refl
      by i false q l = s.entries i (let n = eqb-false i w.device_count q in omega arith)

  pub row_still : (d : ℕ) (f : Device → Device) → ((v : Device) → (f v).kept ≡ v.kept) → (w : World) → Still h g (view w) → Still h g (view (change_device d f w))
  row_still d f k w s =
      record { long = s.long; three = s.three; event = s.event; owner = s.owner; entries = λ i l. subst (λ (n : ℕ). Agree (i * 8192 + 4096) (min n 585 * 7) h g) (sym (by (eqb i d) (w.devices i))) (s.entries i l); payload = s.payload; waits = s.waits }
    where
      by : (b : Bool) (v : Device) → (pick b (f v) v).kept ≡ v.kept
      by true v = k v
      by false v = refl

  -- ---- endpoints

  pub push_still : (d a : ℕ) (w : World) → d < w.device_count → Still h g (view w) → Still h g (view (push_endpoint d a w))
  push_still d a w l s =
      record {
        long = s.long;
        three = omega (arith, s.three);
        event = ap (λ (b : Bool). (pick b (new_endpoint d a) (w.endpoints 0)).address) (ne_eqb 0 w.count (λ q. omega (arith, s.three))) ∙ s.event;
        owner = λ x. owned x (eqb x w.count);
        entries = s.entries;
        payload = λ x. counts x (eqb x w.count);
        waits = λ x. waiting x (eqb x w.count);
      }
    where
      owned : (x : ℕ) (b : Bool) → (pick b (new_endpoint d a) (w.endpoints x)).device < w.device_count
      owned x true = l
      owned x false = s.owner x

      counts : (x : ℕ) (b : Bool) → is_laid (kind_of (pick b (new_endpoint d a) (w.endpoints x)).setup) ≡ true
          → Agree ((pick b (new_endpoint d a) (w.endpoints x)).device * 8192) (min (pick b (new_endpoint d a) (w.endpoints x)).payload 4096) h g
      counts x true r = refl
      counts x false r = s.payload x r

      waiting : (x : ℕ) (b : Bool) → (pick b (new_endpoint d a) (w.endpoints x)).pending ≡ true
          → ((pick b (new_endpoint d a) (w.endpoints x)).address < 128) × ((pick b (new_endpoint d a) (w.endpoints x)).address ≡ 0 → awaits (pick b (new_endpoint d a) (w.endpoints x)) ≡ true → ⊥)
      waiting x true r = never r
      waiting x false r = s.waits x r

  -- one with a payload that waits, where no IN brings data
  pub pending_still : (x n i : ℕ) (w : World) → Still h g (view w) → ((w.endpoints x).address < 128) × ((w.endpoints x).address ≡ 0 → awaits (w.endpoints x) ≡ true → ⊥)
      → Still h g (view (change x (with_pending n i) w))
  pending_still x n i w s k =
      record {
        long = s.long;
        three = s.three;
        event = number (λ e. e.address) (λ e. refl) 0 ∙ s.event;
        owner = λ j. omega (arith, number (λ e. e.device) (λ e. refl) j, s.owner j);
        entries = s.entries;
        payload = λ j. counts j (eqb j x);
        waits = λ j. waiting j (eqb j x) refl;
      }
    where
      number : (f : Endpoint → ℕ) → ((e : Endpoint) → f (with_pending n i e) ≡ f e) → (j : ℕ) → f (pick (eqb j x) (with_pending n i (w.endpoints j)) (w.endpoints j)) ≡ f (w.endpoints j)
      number f q j = by (eqb j x)
        where
          by : (b : Bool) → f (pick b (with_pending n i (w.endpoints j)) (w.endpoints j)) ≡ f (w.endpoints j)
          by true = q (w.endpoints j)
          by false = refl

      counts : (j : ℕ) (b : Bool) → is_laid (kind_of (pick b (with_pending n i (w.endpoints j)) (w.endpoints j)).setup) ≡ true
          → Agree ((pick b (with_pending n i (w.endpoints j)) (w.endpoints j)).device * 8192) (min (pick b (with_pending n i (w.endpoints j)) (w.endpoints j)).payload 4096) h g
      counts j true r = s.payload j r
      counts j false r = s.payload j r

      waiting : (j : ℕ) (b : Bool) → eqb j x ≡ b → (pick b (with_pending n i (w.endpoints j)) (w.endpoints j)).pending ≡ true
          → ((pick b (with_pending n i (w.endpoints j)) (w.endpoints j)).address < 128) × ((pick b (with_pending n i (w.endpoints j)) (w.endpoints j)).address ≡ 0 → awaits (pick b (with_pending n i (w.endpoints j)) (w.endpoints j)) ≡ true → ⊥)
      waiting j true q r = subst (λ (y : ℕ). ((w.endpoints y).address < 128) × ((w.endpoints y).address ≡ 0 → awaits (w.endpoints y) ≡ true → ⊥)) (sym (eqb-true j x q)) k
      waiting j false q r = s.waits j r

  -- ---- the endpoint of a packet

  pub record Placed (pid x : ℕ) (w : World) : Type 0 where
    pub still : Still h g (view w)
    pub there : x < w.count
    pub aims : Aims pid (w.endpoints x).address

  module _ (pid : ℕ) (p : List ℕ) (w : World) (s : Still h g (view w)) where
    abbrev number : ℕ
    number = (token_of p).number

    abbrev address : ℕ
    address = address_for pid number

    new_at : (d : ℕ) (v : World) → d < v.device_count → Still h g (view v) → Placed pid v.count (push_endpoint d address v)
    new_at d v l k =
        record {
          still = push_still d address v l k;
          there = omega arith;
          aims = subst (Aims pid) (sym (ap (λ (b : Bool). (pick b (new_endpoint d address) (v.endpoints v.count)).address) (eq-eqb v.count v.count refl))) (address_aims pid number (small p));
        }

    new-placed : (f : Option ℕ) → Last (λ i. eqb (w.devices i).address (token_of p).address) w.device_count f → Placed pid w.count (add_endpoint_on f (token_of p).address address w)
    new-placed (Some d) l = new_at d w l.0 s
    new-placed None l = new_at w.device_count (add_device (token_of p).address w) (omega arith) (device_still (token_of p).address w s)

    missing : Placed pid w.count (packet_endpoint_at None pid p w)
    missing = new-placed (device_for (token_of p).address w) (last-is (λ i. eqb (w.devices i).address (token_of p).address) w.device_count)

    looked : (f : Option ℕ) → Placed pid (number_at (endpoint_lookup f address w) w) (packet_endpoint_at (endpoint_lookup f address w) pid p w)
    looked None = missing
    looked (Some d) = by (first_from test 0 w.count) (first-is test w.count 0)
      where
        test : ℕ → Bool
        test i = eqb (w.endpoints i).device d && eqb (w.endpoints i).address address

        by : (f : Option ℕ) → First test 0 w.count f → Placed pid (number_at f w) (packet_endpoint_at f pid p w)
        by (Some i) r =
            let a = both (eqb (w.endpoints i).device d) (eqb (w.endpoints i).address address) r.1.1.0 in
            record { still = s; there = omega (arith, r.1.0); aims = subst (Aims pid) (sym (eqb-true (w.endpoints i).address address a.1)) (address_aims pid number (small p)) }
        by None r = missing

    pub placed : Placed pid (endpoint_of pid p w) (packet_endpoint pid p w)
    placed = by (eqb pid SOF) ((SETUP or IN or OUT or only PING) pid) refl refl
      where
        by : (a b : Bool) → eqb pid SOF ≡ a → (SETUP or IN or OUT or only PING) pid ≡ b
            → (let f = pick a (Some 2) (pick b (endpoint_lookup (device_for (token_of p).address w) address w) (Some 1)) in Placed pid (number_at f w) (packet_endpoint_at f pid p w))
        by true b q r =
            let z = eqb-true pid SOF q in
            record { still = s; there = omega (arith, s.three); aims = no_aims pid _ (λ i. omega arith) (λ o. omega arith) }
        by false true q r = looked (device_for (token_of p).address w)
        by false false q r =
            record {
              still = s;
              there = omega (arith, s.three);
              aims = no_aims pid _ (λ i. never (sym r ∙ ap (SETUP or IN or OUT or only PING) i)) (λ o. never (sym r ∙ ap (SETUP or IN or OUT or only PING) o));
            }

  pub typed_still : (x kind : ℕ) (w : World) → Still h g (view w) → Still h g (view (set_endpoint_type x kind w))
  typed_still x kind w s = row_still (w.endpoints x).device (typed (w.endpoints x).address kind) (λ v. (type-kept v (w.endpoints x).address kind).kept) w s

-- ---- one endpoint changed, and a total

pub change_tame : (x : ℕ) (f : Endpoint → Endpoint) → ((a : Endpoint) → Softly a (f a)) → ((a : Endpoint) → awaits (f a) ≡ true → awaits a ≡ true) → (w : World) → Tame (view w) (view (change x f w))
change_tame x f s k w = record { mild = changes x f s w; awaited = λ j. by (eqb j x) (w.endpoints j) }
  where
    by : (b : Bool) (a : Endpoint) → awaits (pick b (f a) a) ≡ true → awaits a ≡ true
    by true a h = k a h
    by false a h = h

pub total_tame : (x n : ℕ) (w : World) → Tame (view w) (view (change x (with_total n) w))
total_tame x n w = change_tame x (with_total n) (λ a. soft a _ refl refl refl (le_refl a.payload) refl) (λ a h. h) w
