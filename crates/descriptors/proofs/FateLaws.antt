-- Laws (proved): what is read of a device, and what it comes to, without a shelf: the bytes that counted, and the entries. So what the shelf held before does
-- not matter, nor what it holds behind the bytes and the entries that count.
-- Assumes nothing.
use Rattle.std.specs.Prelude.{ℕ, ◌+◌, ◌≤◌, ◌≡◌, refl, Bool, true, false, cond, List, [], ◌∷◌, ◌++◌, length, take}
use Rattle.std.proofs.Common.{arith, sym, ap, ◌∙◌, append_assoc, append-nil, length-append}
use Rattle.usb.specs.Fields.{setup_of}
use Rattle.details.specs.declared.Device.{Device}
use Rattle.descriptors.specs.Whole.{joined}
use Rattle.descriptors.specs.Kind.{kind_of}
use Rattle.descriptors.specs.Store.{chunks}
use Rattle.descriptors.specs.Chosen.{chosen_after}
use Rattle.descriptors.specs.Laid.{laid}
use Rattle.descriptors.specs.Complete.{payload_at, entries_at, note_of, device_after, shelf_after, payload_for, entries_for, completed_by, CompletesAs, device_by}
use Rattle.descriptors.proofs.ShelfLaws.{SamePart, entries_after, laid_same-length, laid_uncounted, laid-counted, laid-entries, after-length, after-payload, after-entries}
use Rattle.descriptors.specs.declared.complete.Asked.{Asked}
use Rattle.descriptors.specs.declared.complete.Completed.{Completed}
use Rattle.descriptors.specs.declared.request.Kind.{Kind}
use Rattle.descriptors.specs.declared.request.Kind.TheVariants.{DeviceRead, ConfigurationRead, SetConfiguration, SetInterface, Other}

-- what happens to a device: a request begins, a payload of it comes (and counts or not), a request with these setup data completes
pub data Deed : Type 0 where
  Begins : Deed
  Comes : List ℕ → Bool → Deed
  Ends : ℕ → Deed

-- as the decoder has it: the shelf, the length of the payload, what the device's row says, and the notes so far, the newest first
pub record Shelved : Type 0 where
  pub shelf : List ℕ
  pub length : ℕ
  pub kept : ℕ
  pub chosen : ℕ
  pub device : Device
  pub notes : List ℕ

-- the same without a shelf: the bytes that counted, and the entries
pub record Known : Type 0 where
  pub payload : List ℕ
  pub entries : List (List ℕ)
  pub chosen : ℕ
  pub device : Device
  pub notes : List ℕ

abbrev pub asked_of : ℕ → ℕ → Shelved → Asked
asked_of start setup s = record { setup = setup; length = s.length; start = start; kept = s.kept; chosen = s.chosen }

abbrev pub does : ℕ → Deed → Shelved → Shelved
does start Begins s = record { shelf = s.shelf; length = 0; kept = s.kept; chosen = s.chosen; device = s.device; notes = s.notes }
does start (Comes p counts) s =
    record {
      shelf = laid start s.length p s.shelf;
      length = cond counts (s.length + length p) s.length;
      kept = s.kept;
      chosen = s.chosen;
      device = s.device;
      notes = s.notes;
    }
does start (Ends setup) s =
    let a = asked_of start setup s in
    let r = completed_by a s.shelf (kind_of setup) in
    record {
      shelf = shelf_after (kind_of setup) start (payload_for a s.shelf) (entries_for a s.shelf) s.shelf;
      length = s.length;
      kept = r.kept;
      chosen = r.chosen;
      device = device_by (kind_of setup) a s.shelf s.device;
      notes = r.note ∷ s.notes;
    }

abbrev pub learns : Deed → Known → Known
learns Begins k = record { payload = []; entries = k.entries; chosen = k.chosen; device = k.device; notes = k.notes }
learns (Comes p counts) k =
    record { payload = cond counts (k.payload ++ p) k.payload; entries = k.entries; chosen = k.chosen; device = k.device; notes = k.notes }
learns (Ends setup) k =
    let p = take 4096 k.payload in
    record {
      payload = k.payload;
      entries = entries_after (kind_of setup) p k.entries;
      chosen = chosen_after (kind_of setup) (setup_of setup) k.chosen;
      device = device_after (kind_of setup) (setup_of setup) k.chosen p k.entries k.device;
      notes = note_of (kind_of setup) (setup_of setup) k.chosen p k.entries ∷ k.notes;
    }

-- the decoder has just this
pub record Stands (start : ℕ) (s : Shelved) (k : Known) : Type 0 where
  pub room : start + 8192 ≤ length s.shelf
  pub counted : s.length ≡ length k.payload
  pub bytes : payload_at start s.length s.shelf ≡ take 4096 k.payload
  pub entries : entries_at start s.kept s.shelf ≡ k.entries
  pub chosen : s.chosen ≡ k.chosen
  pub device : s.device ≡ k.device
  pub notes : s.notes ≡ k.notes

-- a new device's row on any shelf
abbrev pub newly : List ℕ → ℕ → Device → Shelved
newly shelf chosen d = record { shelf = shelf; length = 0; kept = 0; chosen = chosen; device = d; notes = [] }

abbrev pub unknowing : ℕ → Device → Known
unknowing chosen d = record { payload = []; entries = []; chosen = chosen; device = d; notes = [] }

pub stands-new : (start chosen : ℕ) (shelf : List ℕ) (d : Device) → start + 8192 ≤ length shelf → Stands start (newly shelf chosen d) (unknowing chosen d)
unfolding chunks
stands-new start chosen shelf d h = record { room = h; counted = refl; bytes = refl; entries = refl; chosen = refl; device = refl; notes = refl }

module _ {start : ℕ} {s : Shelved} {k : Known} (h : Stands start s k) where
  -- other devices' parts may change
  pub stands_else : (shelf : List ℕ) → length shelf ≡ length s.shelf → SamePart start shelf s.shelf
      → Stands start (record { shelf = shelf; length = s.length; kept = s.kept; chosen = s.chosen; device = s.device; notes = s.notes }) k
  stands_else shelf l same =
      record {
        room = omega (arith, l, h.room);
        counted = h.counted;
        bytes = same.payload s.length ∙ h.bytes;
        entries = same.entries s.kept ∙ h.entries;
        chosen = h.chosen;
        device = h.device;
        notes = h.notes;
      }

  stands-begins : Stands start (does start Begins s) (learns Begins k)
  stands-begins =
      record { room = h.room; counted = refl; bytes = refl; entries = h.entries; chosen = h.chosen; device = h.device; notes = h.notes }

  stands-comes : (p : List ℕ) (counts : Bool) → Stands start (does start (Comes p counts) s) (learns (Comes p counts) k)
  stands-comes p true =
      record {
        room = omega (arith, h.room, laid_same-length start s.length p s.shelf);
        counted = omega (arith, h.counted, length-append k.payload p);
        bytes = laid-counted start s.length k.payload p s.shelf h.counted h.room h.bytes;
        entries = laid-entries start s.length p s.shelf s.kept ∙ h.entries;
        chosen = h.chosen;
        device = h.device;
        notes = h.notes;
      }
  stands-comes p false =
      record {
        room = omega (arith, h.room, laid_same-length start s.length p s.shelf);
        counted = h.counted;
        bytes = laid_uncounted start s.length p s.shelf ∙ h.bytes;
        entries = laid-entries start s.length p s.shelf s.kept ∙ h.entries;
        chosen = h.chosen;
        device = h.device;
        notes = h.notes;
      }

  stands-ends : (setup : ℕ) → Stands start (does start (Ends setup) s) (learns (Ends setup) k)
  stands-ends setup =
      let kind = kind_of setup in
      let p = payload_at start s.length s.shelf in
      let b = h.bytes in
      let e = h.entries in
      let c = h.chosen in
      let d = h.device in
      let n = h.notes in
      record {
        room = omega (arith, h.room, after-length start s.kept p s.shelf h.room kind);
        counted = h.counted;
        bytes = after-payload start s.kept p s.shelf h.room kind s.length ∙ h.bytes;
        entries = after-entries start s.kept p s.shelf h.room kind ∙ (λ i. entries_after kind (b i) (e i));
        chosen = ap (chosen_after kind (setup_of setup)) c;
        device = λ i. device_after kind (setup_of setup) (c i) (b i) (e i) (d i);
        notes = λ i. note_of kind (setup_of setup) (c i) (b i) (e i) ∷ n i;
      }

  pub stands-does : (deed : Deed) → Stands start (does start deed s) (learns deed k)
  stands-does Begins = stands-begins
  stands-does (Comes p counts) = stands-comes p counts
  stands-does (Ends setup) = stands-ends setup

abbrev pub does_all : ℕ → List Deed → Shelved → Shelved
does_all start [] s = s
does_all start (x ∷ xs) s = does_all start xs (does start x s)

abbrev pub learns_all : List Deed → Known → Known
learns_all [] k = k
learns_all (x ∷ xs) k = learns_all xs (learns x k)

pub stands-all : (start : ℕ) (xs : List Deed) (s : Shelved) (k : Known) → Stands start s k → Stands start (does_all start xs s) (learns_all xs k)
stands-all start [] s k h = h
stands-all start (x ∷ xs) s k h = stands-all start xs (does start x s) (learns x k) (stands-does h x)

-- from a new device's row on, over any two shelves, notes, details and the chosen configuration are the same
pub record SameFate (a b : Shelved) : Type 0 where
  pub notes : a.notes ≡ b.notes
  pub device : a.device ≡ b.device
  pub chosen : a.chosen ≡ b.chosen

pub shelf-unread : (start chosen : ℕ) (d : Device) (xs : List Deed) (one other : List ℕ) → start + 8192 ≤ length one → start + 8192 ≤ length other
    → SameFate (does_all start xs (newly one chosen d)) (does_all start xs (newly other chosen d))
shelf-unread start chosen d xs one other h g =
    let a = stands-all start xs (newly one chosen d) (unknowing chosen d) (stands-new start chosen one d h) in
    let b = stands-all start xs (newly other chosen d) (unknowing chosen d) (stands-new start chosen other d g) in
    record { notes = a.notes ∙ sym b.notes; device = a.device ∙ sym b.device; chosen = a.chosen ∙ sym b.chosen }

-- payloads that counted are read behind each other, in their order, and cut at 4,096
abbrev pub coming : List (List ℕ) → List Deed
coming [] = []
coming (p ∷ ps) = Comes p true ∷ coming ps

payloads_learnt : (ps : List (List ℕ)) (k : Known) → (learns_all (coming ps) k).payload ≡ k.payload ++ joined ps
payloads_learnt [] k = sym (append-nil k.payload)
payloads_learnt (p ∷ ps) k = payloads_learnt ps (learns (Comes p true) k) ∙ append_assoc k.payload p (joined ps)

pub payloads-read : (start chosen : ℕ) (d : Device) (ps : List (List ℕ)) (shelf : List ℕ) → start + 8192 ≤ length shelf
    → payload_at start (does_all start (coming ps) (newly shelf chosen d)).length (does_all start (coming ps) (newly shelf chosen d)).shelf ≡ take 4096 (joined ps)
payloads-read start chosen d ps shelf h =
    (stands-all start (coming ps) (newly shelf chosen d) (unknowing chosen d) (stands-new start chosen shelf d h)).bytes
    ∙ ap (take 4096) (payloads_learnt ps (unknowing chosen d))

-- what a request makes the details is the same by the shelf before it and after it
pub device_still : (kind : Kind) (a : Asked) (shelf shelf₁ : List ℕ) (r : Completed) (d : Device) → CompletesAs kind a shelf shelf₁ r
    → device_by kind a shelf₁ d ≡ device_by kind a shelf d
unfolding device_after shelf_after
device_still DeviceRead a shelf shelf₁ r d h = ap (λ (s : List ℕ). device_by DeviceRead a s d) h.stored
device_still ConfigurationRead a shelf shelf₁ r d h = refl
device_still SetConfiguration a shelf shelf₁ r d h = ap (λ (s : List ℕ). device_by SetConfiguration a s d) h.stored
device_still SetInterface a shelf shelf₁ r d h = ap (λ (s : List ℕ). device_by SetInterface a s d) h.stored
device_still Other a shelf shelf₁ r d h = refl
