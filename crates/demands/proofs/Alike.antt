-- Shelves that hold the same where something is kept: what is read there, what is laid by there, and what a request that completes takes from there.
use Prim.Native.Nat.{ℕ, zero, suc, ◌+◌, ◌-◌, ◌*◌, ◌≤◌, min}
use native.Mathlib.Omega.{arith}
use mathlib.Core.Path.{◌≡◌, refl, sym, ap, ◌∙◌}
use mathlib.Core.Bool.{Bool, true, false}
use mathlib.Core.List.{List, [], ◌∷◌}
use lib.ListN.{length, take, drop, set, get_or, length-set}
use lib.Seq.{sets, take-nil, take-take}
use Rattle.usb.specs.Fields.{setup_of}
use Rattle.usb.specs.declared.fields.Setup.{Setup}
use Rattle.transaction.specs.Table.{pick}
use Rattle.details.specs.declared.Device.{Device}
use Rattle.descriptors.specs.Chosen.{chosen_after}
use Rattle.descriptors.specs.Complete.{payload_for, entries_for, note_of, device_after, count_after, shelf_after, row_with, row_after, note_by, row_by, shelf_by}
use Rattle.descriptors.specs.Kind.{kind_of}
use Rattle.descriptors.specs.Laid.{is_laid, laid}
use Rattle.descriptors.specs.Store.{chunks}
use Rattle.descriptors.specs.declared.complete.Asked.{Asked}
use Rattle.descriptors.specs.declared.request.Kind.{Kind}
use Rattle.descriptors.specs.declared.request.Kind.TheVariants.{DeviceRead, ConfigurationRead, SetConfiguration, SetInterface, Other}
use Rattle.demands.specs.Shelf.{Agree}

pub fewer : (at m n : ℕ) (h g : List ℕ) → m ≤ n → Agree at n h g → Agree at m h g
fewer at m n h g l e = sym (take-take m n (drop at h) l) ∙ ap (take m) e ∙ take-take m n (drop at g) l

-- ---- the same bytes stored in the same place

set-agree : (h g : List ℕ) (i at k v : ℕ) → length h ≡ length g → Agree at k h g → Agree at k (set h i v) (set g i v)
set-agree [] [] i at k v l e = refl
set-agree [] (y ∷ g) i at k v l e = absurd (omega arith)
set-agree (x ∷ h) [] i at k v l e = absurd (omega arith)
set-agree (x ∷ h) (y ∷ g) zero (suc at) k v l e = e
set-agree (x ∷ h) (y ∷ g) (suc i) (suc at) k v l e = set-agree h g i at k v (omega arith) e
set-agree (x ∷ h) (y ∷ g) i zero zero v l e = refl
set-agree (x ∷ h) (y ∷ g) zero zero (suc k) v l e = ap (λ (r : List ℕ). v ∷ r) (ap (drop 1) e)
set-agree (x ∷ h) (y ∷ g) (suc i) zero (suc k) v l e =
    let head : x ≡ y = ap (λ (r : List ℕ). get_or r 0 0) e in
    let tail = set-agree h g i zero k v (omega arith) (ap (drop 1) e) in
    λ j. head j ∷ tail j

pub sets-agree : (vs h g : List ℕ) (i at k : ℕ) → length h ≡ length g → Agree at k h g → Agree at k (sets h i vs) (sets g i vs)
sets-agree [] h g i at k l e = e
sets-agree (v ∷ vs) h g i at k l e =
    sets-agree vs (set h i v) (set g i v) (suc i) at k (length-set h i v ∙ l ∙ sym (length-set g i v)) (set-agree h g i at k v l e)

module _ (start count : ℕ) (payload h g : List ℕ) (l : length h ≡ length g) where
  pub laid-agree : (at k : ℕ) → Agree at k h g → Agree at k (laid start count payload h) (laid start count payload g)
  unfolding laid
  laid-agree at k e = sets-agree (take (4096 - count) payload) h g (start + count) at k l e

-- ---- entries

drop_nil : (n : ℕ) → ◌≡◌ {A = List ℕ} (drop n []) []
drop_nil zero = refl
drop_nil (suc n) = refl

drop-take : (n m : ℕ) (l : List ℕ) → drop n (take (n + m) l) ≡ take m (drop n l)
drop-take n m [] = ap (drop n) (take-nil (n + m)) ∙ drop_nil n ∙ sym (ap (take m) (drop_nil n) ∙ take-nil m)
drop-take zero m (x ∷ l) = let z : 0 + m ≡ m = omega arith in ap (λ (k : ℕ). take k (x ∷ l)) z
drop-take (suc n) m (x ∷ l) =
    let z : suc n + m ≡ suc (n + m) = omega arith in
    ap (λ (k : ℕ). drop (suc n) (take k (x ∷ l))) z ∙ drop-take n m l

pub chunks-agree : (n : ℕ) (h g : List ℕ) → take (n * 7) h ≡ take (n * 7) g → chunks n h ≡ chunks n g
unfolding chunks
chunks-agree zero h g e = refl
chunks-agree (suc n) h g e =
    let z : suc n * 7 ≡ 7 + n * 7 = omega arith in
    let f : take (7 + n * 7) h ≡ take (7 + n * 7) g = ap (λ (k : ℕ). take k h) (sym z) ∙ e ∙ ap (λ (k : ℕ). take k g) z in
    let first = fewer 0 7 (7 + n * 7) h g (omega arith) f in
    let rest = chunks-agree n (drop 7 h) (drop 7 g) (sym (drop-take 7 (n * 7) h) ∙ ap (drop 7) f ∙ drop-take 7 (n * 7) g) in
    λ i. first i ∷ rest i

-- ---- a request that completes

-- the bytes that count, where they are a read's, and the entries that are kept
pub record Asks (a : Asked) (h g : List ℕ) : Type 0 where
  pub payload : is_laid (kind_of a.setup) ≡ true → Agree a.start (min a.length 4096) h g
  pub entries : Agree (a.start + 4096) (min a.kept 585 * 7) h g

-- no request but a read looks at its payload
module _ (u : Setup) (chosen : ℕ) (es : List (List ℕ)) where
  note-unread : (k : Kind) (p q : List ℕ) → (is_laid k ≡ true → p ≡ q) → note_of k u chosen p es ≡ note_of k u chosen q es
  unfolding note_of
  note-unread DeviceRead p q e = ap (λ (x : List ℕ). note_of DeviceRead u chosen x es) (e refl)
  note-unread ConfigurationRead p q e = ap (λ (x : List ℕ). note_of ConfigurationRead u chosen x es) (e refl)
  note-unread SetConfiguration p q e = refl
  note-unread SetInterface p q e = refl
  note-unread Other p q e = refl

  device-unread : (k : Kind) (d : Device) (p q : List ℕ) → (is_laid k ≡ true → p ≡ q) → device_after k u chosen p es d ≡ device_after k u chosen q es d
  unfolding device_after
  device-unread DeviceRead d p q e = ap (λ (x : List ℕ). device_after DeviceRead u chosen x es d) (e refl)
  device-unread ConfigurationRead d p q e = refl
  device-unread SetConfiguration d p q e = refl
  device-unread SetInterface d p q e = refl
  device-unread Other d p q e = refl

count-unread : (k : Kind) (p q : List ℕ) (es : List (List ℕ)) (kept : ℕ) → (is_laid k ≡ true → p ≡ q) → count_after k p es kept ≡ count_after k q es kept
unfolding count_after
count-unread DeviceRead p q es kept e = refl
count-unread ConfigurationRead p q es kept e = ap (λ (x : List ℕ). count_after ConfigurationRead x es kept) (e refl)
count-unread SetConfiguration p q es kept e = refl
count-unread SetInterface p q es kept e = refl
count-unread Other p q es kept e = refl

stored-unread : (k : Kind) (start : ℕ) (p q : List ℕ) (es : List (List ℕ)) (g : List ℕ) → (is_laid k ≡ true → p ≡ q) → shelf_after k start p es g ≡ shelf_after k start q es g
unfolding shelf_after
stored-unread DeviceRead start p q es g e = refl
stored-unread ConfigurationRead start p q es g e = ap (λ (x : List ℕ). shelf_after ConfigurationRead start x es g) (e refl)
stored-unread SetConfiguration start p q es g e = refl
stored-unread SetInterface start p q es g e = refl
stored-unread Other start p q es g e = refl

module _ (a : Asked) (h g : List ℕ) (s : Asks a h g) where
  abbrev kind : Kind
  kind = kind_of a.setup

  abbrev setup : Setup
  setup = setup_of a.setup

  entries_same : entries_for a h ≡ entries_for a g
  entries_same = chunks-agree (min a.kept 585) (drop (a.start + 4096) h) (drop (a.start + 4096) g) s.entries

  pub note_same : note_by a h ≡ note_by a g
  note_same =
      note-unread setup a.chosen (entries_for a h) kind (payload_for a h) (payload_for a g) s.payload
      ∙ ap (note_of kind setup a.chosen (payload_for a g)) entries_same

  pub row_same : (d : Device) → row_by a h d ≡ row_by a g d
  unfolding row_after
  row_same d =
      let n = note_same in
      let k = count-unread kind (payload_for a h) (payload_for a g) (entries_for a h) a.kept s.payload ∙ ap (λ (es : List (List ℕ)). count_after kind (payload_for a g) es a.kept) entries_same in
      let v = device-unread setup a.chosen (entries_for a h) kind d (payload_for a h) (payload_for a g) s.payload ∙ ap (λ (es : List (List ℕ)). device_after kind setup a.chosen (payload_for a g) es d) entries_same in
      λ i. row_with (record { note = n i; kept = k i; chosen = chosen_after kind setup a.chosen }) (v i)

  -- what it stores on one it stores on the other
  pub shelf_same : shelf_by a g ≡ shelf_after kind a.start (payload_for a h) (entries_for a h) g
  shelf_same =
      sym (stored-unread kind a.start (payload_for a h) (payload_for a g) (entries_for a h) g s.payload ∙ ap (λ (es : List (List ℕ)). shelf_after kind a.start (payload_for a g) es g) entries_same)
