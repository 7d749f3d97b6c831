-- The laws of the addresses beside the devices: a search in them is one in the devices, and both take a new row alike.
use Prim.Native.Nat.{ℕ, zero, suc, ◌+◌, ◌<◌, ◌≤◌}
use native.Mathlib.Omega.{arith}
use mathlib.Core.Bool.{Bool, true, false, cond}
use mathlib.Core.List.{List}
use mathlib.Core.Path.{◌≡◌, refl, sym, ap, subst, ◌∙◌}
use borrow.Author.Tests.{eqb-true, eqb-false}
use lib.Dec.{eqb}
use lib.ListN.{length, get_or, set, length-set}
use lib.Seq.{get_or-set_same, get_or-set_other}
use Rattle.details.specs.Search.{blank, last_of}
use Rattle.details.specs.Lookup.{is_device, found_device}
use Rattle.details.specs.declared.Device.{Device}
use Rattle.std.specs.Prelude.{Option, Some}
use Rattle.packet.specs.After.{Placed}
use Rattle.packet.specs.declared.change.Change.{Change}
use Rattle.usb.specs.Fields.{token_of}
use Rattle.usb.specs.declared.fields.Token.{Token}
use Rattle.endpoints.specs.Table.{entry_at}
use Rattle.endpoints.specs.declared.Endpoint.{Endpoint}
use Rattle.record.specs.declared.Decoder.{Decoder}
use Rattle.plan.specs.Packet.{old_endpoint}
use Rattle.decide.specs.Near.{place_in}
use Rattle.stream.specs.Addresses.{Addressed, is_address, found_address, sight_of}
use Rattle.stream.specs.declared.sight.Sight.{Sight}

-- what is found by the addresses is what is found in the devices
pub found_same : {a : List ℕ} {v : List Device} → Addressed 64 a v → (n x : ℕ) → n ≤ 64 → found_address a n x ≡ found_device v n x
unfolding found_address found_device
found_same {a} {v} h n x few = by n few
  where
    by : (m : ℕ) → m ≤ 64 → last_of (is_address a x) m ≡ last_of (is_device v x) m
    by zero u = refl
    by (suc m) u =
        let e = h.each m (omega arith) in
        let r = by m (omega arith) in
        λ i. cond (eqb (e i) x) (Some m) (r i)

-- one row, stored in both
module _ {n : ℕ} {a : List ℕ} {v : List Device} (h : Addressed n a v) (many : length v ≡ 64) (i : ℕ) (few : i < 64) (d : Device) where
  pub addressed-set : Addressed n (set a i d.address) (set v i d)
  addressed-set = record { size = length-set a i d.address ∙ h.size; each = λ j u. by j u (eqb j i) refl }
    where
      same : get_or (set a i d.address) i 0 ≡ (get_or (set v i d) i blank).address
      same =
          let z = h.size in
          get_or-set_same a i d.address 0 (omega arith) ∙ sym (ap (λ (y : Device). y.address) (get_or-set_same v i d blank (omega arith)))

      by : (j : ℕ) → j < n → (b : Bool) → eqb j i ≡ b → get_or (set a i d.address) j 0 ≡ (get_or (set v i d) j blank).address
      by j u true e = subst (λ (k : ℕ). get_or (set a i d.address) k 0 ≡ (get_or (set v i d) k blank).address) (sym (eqb-true j i e)) same
      by j u false e =
          let o = eqb-false j i e in
          get_or-set_other a i j d.address 0 o ∙ (h.each j u ∙ sym (ap (λ (y : Device). y.address) (get_or-set_other v i j d blank o)))

pub addressed-none : {a : List ℕ} {v : List Device} → length a ≡ 64 → Addressed 0 a v
addressed-none h = record { size = h; each = λ j u. absurd (omega arith) }

pub addressed-all : {i : ℕ} {a : List ℕ} {v : List Device} → Addressed i a v → 64 ≤ i → Addressed 64 a v
addressed-all h few = record { size = h.size; each = λ j u. h.each j (omega arith) }

-- one address more, of a row that is there
pub addressed-next : {i : ℕ} {a : List ℕ} {v : List Device} → Addressed i a v → i < 64 → Addressed (i + 1) (set a i (get_or v i blank).address) v
addressed-next {i} {a} {v} h few = record { size = length-set a i _ ∙ h.size; each = λ j u. by j u (eqb j i) refl }
  where
    same : get_or (set a i (get_or v i blank).address) i 0 ≡ (get_or v i blank).address
    same = let z = h.size in get_or-set_same a i (get_or v i blank).address 0 (omega arith)

    by : (j : ℕ) → j < i + 1 → (b : Bool) → eqb j i ≡ b → get_or (set a i (get_or v i blank).address) j 0 ≡ (get_or v j blank).address
    by j u true e = subst (λ (k : ℕ). get_or (set a i (get_or v i blank).address) k 0 ≡ (get_or v k blank).address) (sym (eqb-true j i e)) same
    by j u false e = let o = eqb-false j i e in get_or-set_other a i j (get_or v i blank).address 0 o ∙ h.each j (omega arith)

-- what a packet changes, made in both
pub addressed-made : {a : List ℕ} {v : List Device} → Addressed 64 a v → length v ≡ 64 → (c : Change) {packet requests : List ℕ} → Placed c packet requests → (x r y : Device)
    → Addressed 64 (set (set (set a c.place x.address) c.reading.place r.address) c.at y.address) (set (set (set v c.place x) c.reading.place r) c.at y)
addressed-made {a} {v} h many c p x r y =
    let first = length-set v c.place x ∙ many in
    let second = length-set (set v c.place x) c.reading.place r ∙ first in
    addressed-set (addressed-set (addressed-set h many c.place p.place x) first c.reading.place p.owner r) second c.at p.at y

-- where a packet's details are looked for, as the code finds it
pub sight_by : (a : List ℕ) (d : Decoder) (table packet : List ℕ) {t : Token} {f : Option ℕ} {p : ℕ} {e : Endpoint}
    → t ≡ token_of packet → f ≡ found_address a d.counts.devices t.address → p ≡ place_in f → e ≡ entry_at table (old_endpoint d.slot d.transaction)
    → record { found = f; place = p; number = t.number; owner = e.device; address = e.address } ≡ sight_of a d table packet
sight_by a d table packet {t} {f} {p} {e} q r h k =
    let g = r ∙ ap (λ (x : Token). found_address a d.counts.devices x.address) q in
    λ i. record { found = g i; place = (h ∙ ap place_in g) i; number = (q i).number; owner = (k i).device; address = (k i).address }
