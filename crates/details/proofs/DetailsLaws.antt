-- Laws (proved): one entry changed: what a split's type and a detail call leave as it was.
use Rattle.std.specs.Prelude.{ℕ, ◌<◌, ◌≡◌, Bool, false, cond, length}
use Rattle.std.proofs.Math.Path.{refl}
use Rattle.std.proofs.Math.Bool.{true}
use Rattle.std.proofs.Common.{length-set, get_or-set_other}
use Rattle.std.proofs.Math.Seq.{get_or-set_same}
use Rattle.details.specs.declared.Detail.{Detail}
use Rattle.details.specs.declared.Device.{Device}
use Rattle.details.specs.Details.{bare, entry_for, stored, change, storable, with_type, detail_entry, obeyed, with_detail, with_given, fresh}

-- the device keeps its address, its configuration, its number of descriptor entries, and its number of details
pub record Kept (d e : Device) : Type 0 where
  pub address : e.address ≡ d.address
  pub chosen : e.chosen ≡ d.chosen
  pub kept : e.kept ≡ d.kept
  pub count : length e.details ≡ length d.details

-- a change that is made or not
module _ (d : Device) (i : ℕ) (x : Detail) where
  maybe-kept : (b : Bool) → Kept d (cond b (change d i x) d)
  maybe-kept true = record { address = refl; chosen = refl; kept = refl; count = length-set d.details i x }
  maybe-kept false = record { address = refl; chosen = refl; kept = refl; count = refl }

  maybe-other : (b : Bool) (j : ℕ) → (j ≡ i → ⊥) → stored (cond b (change d i x) d) j ≡ stored d j
  maybe-other true j ne = get_or-set_other d.details i j x (bare 0) ne
  maybe-other false j ne = refl

module _ (d : Device) (address k : ℕ) where
  pub type-kept : Kept d (with_type d address k)
  unfolding with_type
  type-kept = maybe-kept d (entry_for address) _ (storable d address)

  -- the other entries stay
  pub type-other : (j : ℕ) → (j ≡ entry_for address → ⊥) → stored (with_type d address k) j ≡ stored d j
  unfolding with_type
  type-other j ne = maybe-other d (entry_for address) _ (storable d address) j ne

-- a detail call's entry and a descriptor's
module _ (d : Device) (number direction k m : ℕ) where
  abbrev pub typed_entry : Detail
  typed_entry = record { kind = k; given = false; max = m }

  abbrev pub given_entry : Detail
  given_entry = record { kind = k; given = true; max = m }

  pub detail-kept : Kept d (with_detail d number direction k m)
  unfolding with_detail
  detail-kept = maybe-kept d (detail_entry number direction) typed_entry (obeyed d number direction)

  pub detail-other : (j : ℕ) → (j ≡ detail_entry number direction → ⊥) → stored (with_detail d number direction k m) j ≡ stored d j
  unfolding with_detail
  detail-other j ne = maybe-other d (detail_entry number direction) typed_entry (obeyed d number direction) j ne

  -- the entry itself holds both, where no descriptor gave them
  pub detail_same : (stored d (detail_entry number direction)).given ≡ false → detail_entry number direction < length d.details
      → stored (with_detail d number direction k m) (detail_entry number direction) ≡ typed_entry
  unfolding with_detail
  detail_same e h = rw e (get_or-set_same d.details (detail_entry number direction) typed_entry (bare 0) h)

  -- where one did, nothing changes: no detail overrides a descriptor (02, 13)
  pub detail-given : (stored d (detail_entry number direction)).given ≡ true → with_detail d number direction k m ≡ d
  unfolding with_detail
  detail-given e = rw e refl

  -- but a descriptor overrides a detail
  pub given-over : (k' m' : ℕ) → detail_entry number direction < length d.details
      → stored (with_given (with_detail d number direction k m) number direction k' m') (detail_entry number direction) ≡ record { kind = k'; given = true; max = m' }
  unfolding with_given
  given-over k' m' h =
      let e = detail-kept.count in
      get_or-set_same (with_detail d number direction k m).details (detail_entry number direction) (record { kind = k'; given = true; max = m' }) (bare 0) (rw e h)

  pub given-kept : Kept d (with_given d number direction k m)
  unfolding with_given
  given-kept = maybe-kept d (detail_entry number direction) given_entry true

  pub given-other : (j : ℕ) → (j ≡ detail_entry number direction → ⊥) → stored (with_given d number direction k m) j ≡ stored d j
  unfolding with_given
  given-other j ne = maybe-other d (detail_entry number direction) given_entry true j ne

  pub given_same : detail_entry number direction < length d.details → stored (with_given d number direction k m) (detail_entry number direction) ≡ given_entry
  unfolding with_given
  given_same h = get_or-set_same d.details (detail_entry number direction) given_entry (bare 0) h

pub length-fresh : (address : ℕ) → length (fresh address).details ≡ 32
unfolding fresh
length-fresh address = refl
