-- Laws (proved): what the parts of a completed request come to, and that a note tells what it counts.
-- Assumes nothing.
use Rattle.std.specs.Prelude.{ℕ, ◌+◌, ◌-◌, ◌/◌, ◌%◌, ◌≤◌, ◌<◌, min, ◌≡◌, refl, List, [], ◌∷◌, length, take, drop, Bool, Option, is_some, ◌⊎◌}
use Rattle.std.specs.Option.{option_map_or}
use Rattle.std.proofs.Common.{arith, ◌∙◌, subst, length-append, inl, inr}
use Rattle.std.proofs.Math.Path.{sym, ap}
use Rattle.std.proofs.Math.Bool.{true, false}
use borrow.Author.Tests.{lt-ltb, le-ltb}
use Rattle.std.proofs.Math.Dec.{ltb}
use Rattle.rows.specs.Sets.{one_small}
use Rattle.usb.specs.Fields.{setup_of}
use Rattle.details.specs.Details.{with_given}
use Rattle.details.specs.declared.Device.{Device}
use Rattle.descriptors.specs.Kind.{kind_of}
use Rattle.descriptors.specs.Entries.{max_of, value_of}
use Rattle.descriptors.specs.Store.{stored_at, left_by, added_by}
use Rattle.descriptors.specs.Steps.{Reads}
use Rattle.descriptors.proofs.HeldLaws.{chunks-length}
use Rattle.descriptors.specs.Chosen.{configuration_choice, interface_choice, is_chosen, applied, count_set}
use Rattle.descriptors.specs.Complete.{payload_at, noted, max_note, set_note, note_of, with_max, device_after, count_after, shelf_after, payload_for, entries_for, completed_by, CompletesAs, Completes, device_by}
use Rattle.descriptors.specs.declared.choose.Choice.{Choice}
use Rattle.descriptors.specs.declared.complete.Asked.{Asked}
use Rattle.descriptors.specs.declared.complete.Completed.{Completed}
use Rattle.descriptors.specs.declared.request.Kind.{Kind}
use Rattle.descriptors.specs.declared.request.Kind.TheVariants.{DeviceRead, ConfigurationRead, SetConfiguration, SetInterface, Other}

-- a note tells what it counts, and how many
module _ (what count : ℕ) (h : what < 4) where
  pub note_what : noted what count % 4 ≡ what
  note_what = omega arith

  pub note-count : noted what count / 4 ≡ count
  note-count = omega arith

-- the bytes that the code reads
pub part-is : (start n k : ℕ) (shelf : List ℕ) → k ≡ min n 4096 → take (start + k - start) (drop start shelf) ≡ payload_at start n shelf
part-is start n k shelf e = let z : start + k - start ≡ min n 4096 = omega arith in ap (λ (i : ℕ). take i (drop start shelf)) z

-- the max of a device read
module _ (p : List ℕ) (r : Option ℕ) (e : r ≡ max_of p) where
  pub max-given : (d : Device) → option_map_or (with_given d 0 0 0) r d ≡ with_max p d
  unfolding with_max
  max-given d = ap (λ (r : Option ℕ). option_map_or (with_given d 0 0 0) r d) e

-- entries that are meant are no more than entries
pub count_few : (c : Choice) (es : List (List ℕ)) → count_set c es ≤ length es
unfolding count_set
count_few c [] = omega arith
count_few c (e ∷ es) = omega (arith, one_small (is_chosen c e), count_few c es)

pub count_most : (c : Choice) (base k kept : ℕ) (shelf : List ℕ) → k ≡ min kept 585 → count_set c (stored_at base k shelf) ≤ 585
count_most c base k kept shelf e = omega (arith, e, count_few c (stored_at base k shelf), chunks-length k (drop base shelf))

module _ (a : Asked) (shelf : List ℕ) where
  -- SET_CONFIGURATION
  pub configuration-told : (note chosen : ℕ) (c : Choice) → c ≡ configuration_choice (setup_of a.setup) → note ≡ set_note c (entries_for a shelf)
      → chosen ≡ (setup_of a.setup).value → record { note = note; kept = a.kept; chosen = chosen } ≡ completed_by a shelf SetConfiguration
  unfolding note_of count_after
  configuration-told note chosen c q n v =
      let m = n ∙ ap (λ (c : Choice). set_note c (entries_for a shelf)) q in
      λ i. record { note = m i; kept = a.kept; chosen = v i }

  -- SET_INTERFACE, where none is chosen and where one is
  pub interface-none : 256 ≤ a.chosen → record { note = 0; kept = a.kept; chosen = a.chosen } ≡ completed_by a shelf SetInterface
  unfolding note_of count_after
  interface-none h = let z : ltb a.chosen 256 ≡ false = le-ltb _ _ h in rw z

  pub interface-told : (note : ℕ) (c : Choice) → a.chosen < 256 → c ≡ interface_choice (setup_of a.setup) a.chosen
      → note ≡ set_note c (entries_for a shelf) → record { note = note; kept = a.kept; chosen = a.chosen } ≡ completed_by a shelf SetInterface
  unfolding note_of count_after
  interface-told note c h q n =
      let z : ltb a.chosen 256 ≡ true = lt-ltb _ _ h in
      let m = n ∙ ap (λ (c : Choice). set_note c (entries_for a shelf)) q in
      rw z (λ i. record { note = m i; kept = a.kept; chosen = a.chosen })

  pub interface-unset : (d : Device) → 256 ≤ a.chosen → d ≡ device_by SetInterface a shelf d
  unfolding device_after
  interface-unset d h = let z : ltb a.chosen 256 ≡ false = le-ltb _ _ h in rw z

  pub interface-set : (c : Choice) (d r : Device) → a.chosen < 256 → c ≡ interface_choice (setup_of a.setup) a.chosen
      → r ≡ applied c (entries_for a shelf) d → r ≡ device_by SetInterface a shelf d
  unfolding device_after
  interface-set c d r h q e =
      let z : ltb a.chosen 256 ≡ true = lt-ltb _ _ h in
      rw z (e ∙ ap (λ (c : Choice). applied c (entries_for a shelf) d) q)

  -- a configuration read
  module _ (b : Bool) (e : b ≡ is_some (value_of (payload_for a shelf))) where
    pub read_none : b ≡ false → (r : Completed) → r ≡ record { note = 0; kept = a.kept; chosen = a.chosen } → CompletesAs ConfigurationRead a shelf shelf r
    unfolding note_of count_after shelf_after
    read_none h r q = let n = sym e ∙ h in record { stored = rw n; told = rw n q }

    pub read_some : b ≡ true → {shelf₁ : List ℕ} {count added : ℕ} → (note : ℕ)
        → Reads (a.start + 4096) (min a.kept 585) (payload_for a shelf) shelf shelf₁ count added → note ≡ noted 2 added
        → CompletesAs ConfigurationRead a shelf shelf₁ (record { note = note; kept = count; chosen = a.chosen })
    unfolding note_of count_after shelf_after
    read_some h {shelf₁} {count} {added} note r q =
        let n = sym e ∙ h in
        let m = q ∙ ap (noted 2) r.more in
        record { stored = rw n r.stored; told = rw n (λ i. record { note = m i; kept = r.counted i; chosen = a.chosen }) }

-- a read, where the code's numbers are the cut ones
pub reads_cut : (start n count k kept : ℕ) (shelf shelf₁ : List ℕ) (c d : ℕ) → count ≡ min n 4096 → k ≡ min kept 585
    → Reads (start + 4096) k (take count (drop start shelf)) shelf shelf₁ c d → Reads (start + 4096) (min kept 585) (payload_at start n shelf) shelf shelf₁ c d
reads_cut start n count k kept shelf shelf₁ c d e f r =
    subst (λ (k : ℕ). Reads (start + 4096) k (payload_at start n shelf) shelf shelf₁ c d) f
    (subst (λ (i : ℕ). Reads (start + 4096) k (take i (drop start shelf)) shelf shelf₁ c d) e r)

pub reads_added : {base kept : ℕ} {p store store₁ : List ℕ} {count added : ℕ} → Reads base kept p store store₁ count added → added ≤ count
reads_added {base} {kept} {p} {store} r =
    let es = stored_at base kept store in
    omega (arith, r.counted, r.more, length-append (left_by p es) (added_by p es))

-- the contract permits one outcome
pub completes-once : {kind : Kind} {a : Asked} {shelf x y : List ℕ} {r t : Completed} → CompletesAs kind a shelf x r → CompletesAs kind a shelf y t → (x ≡ y) × (r ≡ t)
completes-once h g = (h.stored ∙ sym g.stored, h.told ∙ sym g.told)

-- a kind that the setup data tell
pub as-kind : {a : Asked} {k : Kind} {shelf shelf₁ : List ℕ} {r : Completed} → k ≡ kind_of a.setup → CompletesAs k a shelf shelf₁ r → Completes a shelf shelf₁ r
as-kind {a} {k} {shelf} {shelf₁} {r} e h = subst (λ (k : Kind). CompletesAs k a shelf shelf₁ r) e h

-- requests that leave the shelf
module _ (a : Asked) (shelf : List ℕ) (r : Completed) where
  pub device-noted : (note : ℕ) → note ≡ max_note (payload_for a shelf) → r ≡ record { note = note; kept = a.kept; chosen = a.chosen } → CompletesAs DeviceRead a shelf shelf r
  unfolding note_of count_after shelf_after
  device-noted note n e = record { stored = refl; told = e ∙ (λ i. record { note = n i; kept = a.kept; chosen = a.chosen }) }

  pub other-noted : r ≡ record { note = 0; kept = a.kept; chosen = a.chosen } → CompletesAs Other a shelf shelf r
  unfolding note_of count_after shelf_after
  other-noted e = record { stored = refl; told = e }

  pub configuration-noted : r ≡ completed_by a shelf SetConfiguration → CompletesAs SetConfiguration a shelf shelf r
  unfolding shelf_after
  configuration-noted e = record { stored = refl; told = e }

  pub interface-noted : r ≡ completed_by a shelf SetInterface → CompletesAs SetInterface a shelf shelf r
  unfolding shelf_after
  interface-noted e = record { stored = refl; told = e }

-- the details
module _ (a : Asked) (shelf : List ℕ) (d r : Device) where
  pub by_kind : {k : Kind} → k ≡ kind_of a.setup → r ≡ device_by k a shelf d → r ≡ device_by (kind_of a.setup) a shelf d
  by_kind e h = h ∙ ap (λ (k : Kind). device_by k a shelf d) e

  pub max_by : r ≡ with_max (payload_for a shelf) d → r ≡ device_by DeviceRead a shelf d
  unfolding device_after
  max_by e = e

  pub configuration_by : (c : Choice) → c ≡ configuration_choice (setup_of a.setup) → r ≡ applied c (entries_for a shelf) d
      → r ≡ device_by SetConfiguration a shelf d
  unfolding device_after
  configuration_by c q e = e ∙ ap (λ (c : Choice). applied c (entries_for a shelf) d) q

-- and where they stay
pub still_by : (a : Asked) (shelf : List ℕ) (d : Device) (m : Kind) → m ≡ kind_of a.setup → (m ≡ ConfigurationRead) ⊎ (m ≡ Other) → d ≡ device_by (kind_of a.setup) a shelf d
unfolding device_after
still_by a shelf d m e (inl f) = by_kind a shelf d d (sym f ∙ e) refl
still_by a shelf d m e (inr f) = by_kind a shelf d d (sym f ∙ e) refl
