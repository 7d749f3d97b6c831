-- The two ways of each test: a payload is laid by or not, a request completes or not.
-- Assumes nothing.
use Prim.Native.Nat.{ℕ, ◌*◌}
use mathlib.Core.Path.{◌≡◌, sym, ap, ◌∙◌}
use mathlib.Core.Bool.{Bool, true, false}
use mathlib.Core.List.{List}
use Rattle.usb.specs.Packet.{payload_of}
use Rattle.transaction.specs.Table.{pick}
use Rattle.details.specs.declared.Device.{Device}
use Rattle.descriptors.specs.Kind.{kind_of}
use Rattle.descriptors.specs.Laid.{laid}
use Rattle.descriptors.specs.Complete.{Completes, device_by, row_with, note_by, row_by, shelf_by}
use Rattle.descriptors.proofs.RowLaws.{row_still}
use Rattle.descriptors.specs.declared.complete.Asked.{Asked}
use Rattle.descriptors.specs.declared.complete.Completed.{Completed}
use Rattle.shelving.specs.Shelve.{asked_with, laid_shelf, Shelves}
use Rattle.shelving.specs.declared.Reading.{Reading}

pub laid_if : (t : Reading) (packet shelf : List ℕ) → t.keeps ≡ true → (x : List ℕ) → x ≡ laid (t.device * 8192) t.count (payload_of packet) shelf
    → x ≡ laid_shelf t packet shelf
laid_if t packet shelf h x q = q ∙ ap (λ (b : Bool). pick b (laid (t.device * 8192) t.count (payload_of packet) shelf) shelf) (sym h)

pub unlaid_if : (t : Reading) (packet shelf : List ℕ) → t.keeps ≡ false → shelf ≡ laid_shelf t packet shelf
unlaid_if t packet shelf h = ap (λ (b : Bool). pick b (laid (t.device * 8192) t.count (payload_of packet) shelf) shelf) (sym h)

module _ (t : Reading) (d : Device) (packet shelf h : List ℕ) (there : h ≡ laid_shelf t packet shelf) where
  abbrev s : Asked
  s = asked_with t d.kept d.chosen

  abbrev l : List ℕ
  l = laid_shelf t packet shelf

  pub shelved : t.asks ≡ true → (a : Asked) (h₁ : List ℕ) (c : Completed) (row : Device) → a ≡ asked_with t d.kept d.chosen → Completes a h h₁ c
      → row ≡ row_with c (device_by (kind_of a.setup) a h₁ d) → Shelves t d packet shelf h₁ (record { note = c.note; row = row })
  shelved q a h₁ c row ea k er =
      record {
        stored = k.stored ∙ (λ i. shelf_by (ea i) (there i)) ∙ (λ i. pick (sym q i) (shelf_by s l) l);
        note = ap (λ (x : Completed). x.note) k.told ∙ (λ i. note_by (ea i) (there i)) ∙ (λ i. pick (sym q i) (note_by s l) 0);
        row = er ∙ row_still (kind_of a.setup) a h h₁ c d k ∙ (λ i. row_by (ea i) (there i) d) ∙ (λ i. pick (sym q i) (row_by s l d) d);
      }

  pub unshelved : t.asks ≡ false → Shelves t d packet shelf h (record { note = 0; row = d })
  unshelved q =
      record {
        stored = there ∙ (λ i. pick (sym q i) (shelf_by s l) l);
        note = λ i. pick (sym q i) (note_by s l) 0;
        row = λ i. pick (sym q i) (row_by s l d) d;
      }

-- what is written where a test holds
pub put_if : (b : Bool) (l x y : List ℕ) → b ≡ true → x ≡ y → x ≡ pick b y l
put_if b l x y h q = q ∙ ap (λ (c : Bool). pick c y l) (sym h)
