-- The change, made by its caller, leaves the devices that the steps of a packet leave, where the row that is read for is the one that they leave.
use mathlib.Core.Path.{◌≡◌, refl, sym, ap, ◌∙◌}
use mathlib.Core.Bool.{Bool, true, false, ◌&&◌, ◌||◌, false≢true}
use mathlib.Core.List.{List}
use Prim.Native.Nat.{ℕ, ◌+◌, ◌*◌, ◌<◌}
use borrow.Author.Tests.{eqb-true, eqb-false}
use lib.Dec.{eqb}
use lib.ListN.{length, get_or, set, length-set}
use lib.Seq.{sets, get_or-set_same, get_or-set_other, set-get_or}
use Rattle.rows.specs.One.{one}
use Rattle.rows.specs.Widths.{request_width}
use Rattle.usb.specs.Packet.{payload_of}
use Rattle.transaction.specs.Table.{pick}
use Rattle.details.specs.Details.{with_type, fresh}
use Rattle.details.specs.Search.{blank}
use Rattle.details.specs.declared.Device.{Device}
use Rattle.descriptors.specs.Complete.{shelf_by}
use Rattle.descriptors.specs.Complete as descriptors
use Rattle.descriptors.specs.Laid.{laid}
use Rattle.rules.specs.Rows.{asking, request_words}
use Rattle.record.specs.Bools.{neither}
use Rattle.plan.specs.Packet.{keeps}
use Rattle.plan.specs.declared.Plan.{Plan}
use Rattle.update.specs.Update.{when}
use Rattle.plan.specs.Devices.{changes, row_after, adds_device, address_of}
use Rattle.plan.proofs.Devices.{placed}
use Rattle.shelving.specs.Shelve.{is_asked, reading_of, asked_with, laid_shelf, shelf_after, note_after, row_after as rowShelved, request_after}
use Rattle.shelving.specs.declared.Reading.{Reading}
use Rattle.packet.specs.After.{change_by, row_by, added_by, is_change, row_put, own_row, row_read, changed, shelved, requested}
use Rattle.packet.specs.declared.change.Change.{Change}

-- one row stored
store_at : (v : List Device) (k : ℕ) (x : Device) (i : ℕ) → k < length v → get_or (set v k x) i blank ≡ pick (eqb i k) x (get_or v i blank)
store_at v k x i h = by (eqb i k) refl
  where
    by : (b : Bool) → eqb i k ≡ b → get_or (set v k x) i blank ≡ pick b x (get_or v i blank)
    by true e = let q = eqb-true i k e in rw q (get_or-set_same v k x blank h)
    by false e = get_or-set_other v k i x blank (eqb-false i k e)

-- the rows once the first is stored, and once the one that is read for is
abbrev told : Change → List Device → ℕ → Device
told c v i = pick (eqb i c.place) (row_by c (get_or v c.place blank)) (get_or v i blank)

pub put_at : (c : Change) (v : List Device) (i : ℕ) → c.place < length v → get_or (row_put c v) i blank ≡ told c v i
put_at c v i h = store_at v c.place (row_by c (get_or v c.place blank)) i h

put-length : (c : Change) (v : List Device) → length (row_put c v) ≡ length v
put-length c v = length-set v c.place (row_by c (get_or v c.place blank))

module _ (c : Change) (packet shelf : List ℕ) (v : List Device) where
  -- the row that is read for
  abbrev row : Device
  row = rowShelved c.reading (own_row c v) packet shelf

  read_length : length (row_read c packet shelf v) ≡ length v
  read_length = length-set (row_put c v) c.reading.place row ∙ put-length c v

  abbrev read : ℕ → Device
  read i = pick (eqb i c.reading.place) row (told c v i)

  read_at : (i : ℕ) → c.place < length v → c.reading.place < length v → get_or (row_read c packet shelf v) i blank ≡ read i
  read_at i h g =
      store_at (row_put c v) c.reading.place row i (rw (put-length c v) g)
      ∙ ap (pick (eqb i c.reading.place) row) (put_at c v i h)

  -- all of them
  changed_at : (i : ℕ) → c.place < length v → c.reading.place < length v → c.at < length v
      → get_or (changed c packet shelf v) i blank ≡ pick (eqb i c.at) (added_by c (read c.at)) (read i)
  unfolding changed
  changed_at i h g l =
      store_at (row_read c packet shelf v) c.at (added_by c (get_or (row_read c packet shelf v) c.at blank)) i (rw read_length l)
      ∙ (λ k. pick (eqb i c.at) (added_by c (read_at c.at h g k)) (read_at i h g k))

  pub changed-length : length (changed c packet shelf v) ≡ length v
  unfolding changed
  changed-length = length-set (row_read c packet shelf v) c.at (added_by c (get_or (row_read c packet shelf v) c.at blank)) ∙ read_length

  pub changed_beyond : (i : ℕ) → (i ≡ c.place → ⊥) → (i ≡ c.reading.place → ⊥) → (i ≡ c.at → ⊥) → get_or (changed c packet shelf v) i blank ≡ get_or v i blank
  unfolding changed
  changed_beyond i h g l =
      get_or-set_other (row_read c packet shelf v) c.at i (added_by c (get_or (row_read c packet shelf v) c.at blank)) blank l
      ∙ get_or-set_other (row_put c v) c.reading.place i row blank g
      ∙ get_or-set_other v c.place i (row_by c (get_or v c.place blank)) blank h

  -- made by hand
  pub changed_by : {x r y : Device} → x ≡ row_by c (get_or v c.place blank) → r ≡ rowShelved c.reading (get_or (set v c.place x) c.reading.place blank) packet shelf
      → y ≡ added_by c (get_or (set (set v c.place x) c.reading.place r) c.at blank)
      → set (set (set v c.place x) c.reading.place r) c.at y ≡ changed c packet shelf v
  unfolding changed
  changed_by {x} {r} {y} e f g =
      ap (set (set (set v c.place x) c.reading.place r) c.at) g
      ∙ ap (λ (q : Device). let u = set (set v c.place x) c.reading.place q in set u c.at (added_by c (get_or u c.at blank))) f
      ∙ ap (λ (q : Device). let z = set v c.place q in let u = set z c.reading.place (rowShelved c.reading (get_or z c.reading.place blank) packet shelf) in set u c.at (added_by c (get_or u c.at blank))) e

  pub shelved_by : {x : Device} {h : List ℕ} → x ≡ row_by c (get_or v c.place blank) → h ≡ shelf_after c.reading (get_or (set v c.place x) c.reading.place blank) packet shelf
      → h ≡ shelved c packet shelf v
  unfolding shelved
  shelved_by e f = f ∙ ap (λ (q : Device). shelf_after c.reading (get_or (set v c.place q) c.reading.place blank) packet shelf) e

  pub requested_by : {x : Device} {n : ℕ} (requests : List ℕ) {q : List ℕ} → x ≡ row_by c (get_or v c.place blank) → n ≡ note_after c.reading (get_or (set v c.place x) c.reading.place blank) packet shelf
      → q ≡ request_after c.reading c.row n requests → q ≡ requested c packet shelf v requests
  unfolding requested
  requested_by {x} {n} requests e f g =
      g ∙ ap (λ (m : ℕ). request_after c.reading c.row m requests) (f ∙ ap (λ (z : Device). note_after c.reading (get_or (set v c.place z) c.reading.place blank) packet shelf) e)

  -- where there is nothing to do
  module _ (h : is_change c ≡ false) where
    quiet : (((c.device || (c.types || c.adds)) ≡ false) × ((c.reading.keeps ≡ false) × (c.reading.asks ≡ false)))
    quiet =
        let a = neither (c.device || (c.types || c.adds)) (c.reading.keeps || c.reading.asks) h in
        (a.0, neither c.reading.keeps c.reading.asks a.1)

    pub shelved-none : shelved c packet shelf v ≡ shelf
    unfolding shelved
    shelved-none =
        let k = quiet.1 in
        (λ i. pick (k.1 i) (shelf_by (asked_with c.reading (own_row c v).kept (own_row c v).chosen) (laid_shelf c.reading packet shelf)) (laid_shelf c.reading packet shelf))
        ∙ (λ i. pick (k.0 i) (laid (c.reading.device * 8192) c.reading.count (payload_of packet) shelf) shelf)

    pub requested-none : (requests : List ℕ) → requested c packet shelf v requests ≡ requests
    unfolding requested
    requested-none requests = λ i. pick (quiet.1.1 i) (sets requests (c.row * request_width) (request_words (asking c.reading.endpoint c.reading.setup c.reading.length (note_after c.reading (own_row c v) packet shelf)))) requests

    pub changed-none : changed c packet shelf v ≡ v
    unfolding changed
    changed-none =
        (λ i. let u = rest i in set u c.at (added_by c (get_or u c.at blank)))
        ∙ by c.device c.types c.adds quiet.0
      where
        -- nothing is read
        rest : row_read c packet shelf v ≡ row_put c v
        rest =
            (λ i. set (row_put c v) c.reading.place (pick (quiet.1.1 i) (descriptors.row_by (asked_with c.reading (own_row c v).kept (own_row c v).chosen) (laid_shelf c.reading packet shelf) (own_row c v)) (own_row c v)))
            ∙ set-get_or (row_put c v) c.reading.place blank

        row : Bool → Bool → Device → Device
        row d t x = when t (λ x. with_type x c.number c.kind) (pick d (fresh c.owner) x)

        by : (d t a : Bool) → (d || (t || a)) ≡ false
            → (let u = set v c.place (row d t (get_or v c.place blank)) in set u c.at (pick a (fresh c.address) (get_or u c.at blank))) ≡ v
        by true t a h = absurd (false≢true (sym h))
        by false true a h = absurd (false≢true (sym h))
        by false false true h = absurd (false≢true (sym h))
        by false false false h = set-get_or (set v c.place (get_or v c.place blank)) c.at blank ∙ set-get_or v c.place blank

-- a row stored as it was
as_was : (i : ℕ) (f : ℕ → Device) → pick (eqb i 0) (f 0) (f i) ≡ f i
as_was i f = by (eqb i 0) refl
  where
    by : (b : Bool) → eqb i 0 ≡ b → pick b (f 0) (f i) ≡ f i
    by true h = let q = eqb-true i 0 h in rw q refl
    by false h = refl

-- where no request completes, the row stays
unasked-row : (t : Reading) (d : Device) (packet shelf : List ℕ) → t.asks ≡ false → rowShelved t d packet shelf ≡ d
unasked-row t d packet shelf q = λ i. pick (q i) (descriptors.row_by (asked_with t d.kept d.chosen) (laid_shelf t packet shelf) d) d

module _ (high : Bool) (p : Plan) (v : List Device) (n m : ℕ) where
  abbrev begun : ℕ → Device
  begun i = placed (changes p.begin) p.begin.place (row_after p.begin (λ j. get_or v j blank)) i (get_or v i blank)

  pub begun-told : (i : ℕ) → told (change_by high p n m) v i ≡ begun i
  begun-told i = by p.begin.device p.begin.types
    where
      row : Bool → Bool → Device → Device
      row d t x = when t (λ x. with_type x p.begin.number p.begin.kind) (pick d (fresh p.begin.owner) x)

      by : (d t : Bool) → (let k = pick (d || t) p.begin.place 0 in pick (eqb i k) (row d t (get_or v k blank)) (get_or v i blank))
          ≡ placed (d || t) p.begin.place (row d t (get_or v p.begin.place blank)) i (get_or v i blank)
      by true t = refl
      by false true = refl
      by false false = as_was i (λ j. get_or v j blank)

  -- where a request completes, the row of its device then is d
  module _ (packet shelf : List ℕ) (d : Device) (same : is_asked p ≡ true → rowShelved (reading_of high p) (own_row (change_by high p n m) v) packet shelf ≡ d) where
    abbrev asked : ℕ → Device
    asked i = placed (is_asked p) p.close.entry.device d i (begun i)

    asked-told : (i : ℕ) → (change_by high p n m).place < length v → read (change_by high p n m) packet shelf v i ≡ asked i
    asked-told i h = by (is_asked p) refl ∙ ap (placed (is_asked p) p.close.entry.device d i) (begun-told i)
      where
        -- nothing is read
        unread : is_asked p ≡ false → rowShelved (reading_of high p) (own_row (change_by high p n m) v) packet shelf ≡ told (change_by high p n m) v 0
        unread q =
            unasked-row (reading_of high p) (own_row (change_by high p n m) v) packet shelf q
            ∙ put_at (change_by high p n m) v (pick (is_asked p) p.close.entry.device 0) h
            ∙ ap (λ (b : Bool). told (change_by high p n m) v (pick b p.close.entry.device 0)) q

        by : (b : Bool) → is_asked p ≡ b
            → pick (eqb i (pick (is_asked p) p.close.entry.device 0)) (rowShelved (reading_of high p) (own_row (change_by high p n m) v) packet shelf) (told (change_by high p n m) v i)
            ≡ placed b p.close.entry.device d i (told (change_by high p n m) v i)
        by true q =
            ap (λ (b : Bool). pick (eqb i (pick b p.close.entry.device 0)) (rowShelved (reading_of high p) (own_row (change_by high p n m) v) packet shelf) (told (change_by high p n m) v i)) q
            ∙ ap (λ (x : Device). pick (eqb i p.close.entry.device) x (told (change_by high p n m) v i)) (same q)
        by false q =
            (λ k. pick (eqb i (pick (q k) p.close.entry.device 0)) (unread q k) (told (change_by high p n m) v i))
            ∙ as_was i (told (change_by high p n m) v)

    pub change-told : (i : ℕ) → (change_by high p n m).place < length v → (change_by high p n m).reading.place < length v → (change_by high p n m).at < length v
        → get_or (changed (change_by high p n m) packet shelf v) i blank ≡ placed (p.closes && adds_device p.close.effect) (n + one p.begin.device) (fresh (address_of p.close.effect)) i (asked i)
    change-told i h g l =
        changed_at (change_by high p n m) packet shelf v i h g l
        ∙ (λ k. pick (eqb i (change_by high p n m).at) (added_by (change_by high p n m) (asked-told (change_by high p n m).at h k)) (asked-told i h k))
        ∙ by (p.closes && adds_device p.close.effect)
      where
        by : (a : Bool) → (let k = pick a (n + one p.begin.device) 0 in pick (eqb i k) (pick a (fresh (address_of p.close.effect)) (asked k)) (asked i))
            ≡ placed a (n + one p.begin.device) (fresh (address_of p.close.effect)) i (asked i)
        by true = refl
        by false = as_was i asked

-- where the rows are: below m, given that the begun one is, that row 0 is, and that the added one and the one that is read for are
pub change_in : (high : Bool) (p : Plan) (n r m : ℕ) → 0 < m → (changes p.begin ≡ true → p.begin.place < m) → ((p.closes && adds_device p.close.effect) ≡ true → n + one p.begin.device < m)
    → p.end.entry.device < m → p.close.entry.device < m
    → ((change_by high p n r).place < m) × (((change_by high p n r).at < m) × (((reading_of high p).device < m) × ((reading_of high p).place < m)))
change_in high p n r m some begun end kept asked = (by (changes p.begin) p.begin.place begun, (by (p.closes && adds_device p.close.effect) (n + one p.begin.device) end, (by (keeps high p) p.end.entry.device (λ h. kept), by (is_asked p) p.close.entry.device (λ h. asked))))
  where
    by : (b : Bool) (i : ℕ) → (b ≡ true → i < m) → pick b i 0 < m
    by true i h = h refl
    by false i h = some
