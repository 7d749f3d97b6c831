-- Laws (proved): what is stored is loaded again, for every record and every 64 devices of the code; the length stays; and the words that belong to no field stay.
use Rattle.std.specs.Prelude.{ℕ, zero, suc, ◌+◌, ◌*◌, ◌/◌, ◌%◌, ◌<◌, ◌≤◌, Bool, true, false, cond, List, [], ◌∷◌, map, ◌≡◌, refl, ltb}
use Rattle.std.proofs.Common.{mod-eq_of_lt, sym, ◌∙◌, ltb-true, ext_get_or, get_or-append-add}
use native.Mathlib.Omega.{arith}
use Rattle.std.proofs.Math.Path.{ap, subst}
use Rattle.std.proofs.Math.ListN.{length, get_or, get_or-map}
use Rattle.std.proofs.lemmas.List.{length-map}
use Rattle.std.proofs.lemmas.List.Edits.{sets}
use Rattle.std.proofs.Math.Seq.{length-sets}
use Rattle.rows.specs.One.{one}
use Rattle.rows.specs.Sets.{one_small, get_d-sets_in, get_d-sets-below, get_d-sets_past}
use Rattle.details.specs.Details.{bare}
use Rattle.details.specs.Search.{blank}
use Rattle.details.specs.declared.Detail.{Detail}
use Rattle.details.specs.declared.Device.{Device}
use Rattle.endpoints.specs.Table.{flag_of, byte_of}
use Rattle.transaction.specs.declared.Style.{Style}
use Rattle.transaction.specs.declared.Style.TheVariants.{Nothing, Simple, Split, Token}
use Rattle.rules.specs.declared.EventState.{EventState}
use Rattle.rules.specs.declared.EventState.TheVariants.{Idle, LsKeepaliveGroup, AwaitDeviceChirp, PartialDeviceChirp, ValidDeviceChirp, AwaitHostChirp, PartialHostChirp, ValidHostChirp}
use Rattle.rules.specs.declared.Slot.{Slot}
use Rattle.rules.specs.declared.Slot.TheVariants.{Empty, Current, Suspended}
use Rattle.record.specs.declared.Decoder.{Decoder}
use Rattle.handle.specs.Fits.{StyleFits, TransactionFits, DetailFits, DeviceFits, DevicesFit}
use Rattle.handle.specs.Place as place
use Rattle.handle.specs.Size as size
use Rattle.handle.specs.Words.{word_in, style_of, style_words, slot_of, slot_word, event_of, event_word, decoder_of, detail_of, from, device_of, device_at, decoder_in, devices_in, decoder_words, decoder_stored, detail_word, device_words, row_stored, rows_stored, stored}

-- ---- lists by number

module _ {A : Type 0} where
  pub length_from : (f : ℕ → A) (i n : ℕ) → length (from f i n) ≡ n
  length_from f i zero = refl
  length_from f i (suc n) = ap suc (length_from f (suc i) n)

  -- a list is what its elements say
  pub from_is : (l : List A) (f : ℕ → A) (i : ℕ) (d : A) → ((j : ℕ) → j < length l → f (i + j) ≡ get_or l j d) → from f i (length l) ≡ l
  from_is [] f i d h = refl
  from_is (x ∷ xs) f i d h =
      let e : i + 0 ≡ i = omega arith in
      let first : f i ≡ x = ap f (sym e) ∙ h 0 (omega arith) in
      let rest = from_is xs f (suc i) d (λ j u. (let q : suc i + j ≡ i + suc j = omega arith in ap f q) ∙ h (suc j) (omega arith)) in
      λ k. first k ∷ rest k

  -- the same from another place
  pub from_along : (f g : ℕ → A) (n i j : ℕ) → ((k : ℕ) → k < n → f (i + k) ≡ g (j + k)) → from f i n ≡ from g j n
  from_along f g zero i j h = refl
  from_along f g (suc n) i j h =
      let e : i + 0 ≡ i = omega arith in
      let q : j + 0 ≡ j = omega arith in
      let first : f i ≡ g j = ap f (sym e) ∙ (h 0 (omega arith) ∙ ap g q) in
      let rest = from_along f g n (suc i) (suc j) (λ k u. (let a : suc i + k ≡ i + suc k = omega arith in ap f a) ∙ (h (suc k) (omega arith) ∙ (let b : j + suc k ≡ suc j + k = omega arith in ap g b))) in
      λ k. first k ∷ rest k

-- ---- words that agree where they are read

-- the first n words, and nothing behind them
abbrev up_to : ℕ → (ℕ → ℕ) → ℕ → ℕ
up_to n f k = cond (ltb k n) (f k) 0

up_same : (n : ℕ) (f g : ℕ → ℕ) → ((k : ℕ) → k < n → f k ≡ g k) → up_to n f ≡ up_to n g
up_same n f g h = λ i k. by k (ltb k n) refl i
  where
    by : (k : ℕ) (b : Bool) → ltb k n ≡ b → cond b (f k) 0 ≡ cond b (g k) 0
    by k true e = h k (ltb-true k n e)
    by k false e = refl

pub decoder_same : (f g : ℕ → ℕ) → ((k : ℕ) → k < size.head → f k ≡ g k) → decoder_of f ≡ decoder_of g
decoder_same f g h = ap decoder_of (up_same size.head f g h)

pub device_same : (f g : ℕ → ℕ) → ((k : ℕ) → k < place.width → f k ≡ g k) → device_of f ≡ device_of g
device_same f g h = ap device_of (up_same place.width f g h)

-- ---- each field

pub flag_one : (b : Bool) → flag_of (one b) ≡ b
flag_one true = refl
flag_one false = refl

slot-back : (s : Slot) → slot_of (slot_word s) ≡ s
slot-back Empty = refl
slot-back Current = refl
slot-back Suspended = refl

event-back : (e : EventState) → event_of (event_word e) ≡ e
event-back Idle = refl
event-back LsKeepaliveGroup = refl
event-back AwaitDeviceChirp = refl
event-back PartialDeviceChirp = refl
event-back ValidDeviceChirp = refl
event-back AwaitHostChirp = refl
event-back PartialHostChirp = refl
event-back ValidHostChirp = refl

style-back : (s : Style) → StyleFits (style_words s) → style_of (style_words s).style (byte_of (style_words s).sc) (byte_of (style_words s).kind) (byte_of (style_words s).pid) ≡ s
style-back Nothing h = refl
style-back (Simple pid) h = λ i. Simple (mod-eq_of_lt h.pid i)
style-back (Split sc kind) h = λ i. Split (mod-eq_of_lt h.sc i) (mod-eq_of_lt h.kind i)
style-back (Token sc kind pid) h = λ i. Token (mod-eq_of_lt h.sc i) (mod-eq_of_lt h.kind i) (mod-eq_of_lt h.pid i)

-- a record's own words make it
decoder-back : (d : Decoder) → TransactionFits d.transaction → decoder_of (λ k. get_or (decoder_words d) k 0) ≡ d
decoder-back d h =
    let t = d.transaction in
    λ i. record {
      counts = d.counts;
      transaction = record {
        style = style-back t.style h.style i;
        last = mod-eq_of_lt h.last i;
        id = t.id;
        endpoint = t.endpoint;
        kind = mod-eq_of_lt h.kind i;
        linked = flag_one t.linked i;
        ready = flag_one t.ready i;
        filled = flag_one t.filled i;
        link = t.link;
        setup = t.setup;
        payload = t.payload;
      };
      last = d.last;
      waiting = d.waiting;
      time = d.time;
      slot = slot-back d.slot i;
      event = event-back d.event i;
      keepalive = flag_one d.keepalive i;
      finished = flag_one d.finished i;
      high = flag_one d.high i;
    }

detail-back : (x : Detail) → DetailFits x → detail_of (detail_word x) ≡ x
detail-back x h =
    let g = one_small x.given in
    let kind : byte_of (detail_word x) ≡ x.kind = omega (arith, h.kind, h.max, g) in
    let above : detail_word x / 256 ≡ one x.given + 256 * x.max = omega (arith, h.kind, g) in
    let given : byte_of (detail_word x / 256) ≡ one x.given = ap byte_of above ∙ low (one x.given) x.max g in
    let top : detail_word x / 65536 ≡ x.max = omega (arith, h.kind, g) in
    let max : detail_word x / 65536 % 65536 ≡ x.max = ap (λ (n : ℕ). n % 65536) top ∙ mod-eq_of_lt h.max in
    λ i. record { kind = kind i; given = (ap flag_of given ∙ flag_one x.given) i; max = max i }
  where
    low : (a b : ℕ) → a ≤ 1 → (a + 256 * b) % 256 ≡ a
    low a b u = omega arith

-- a device's own words make it
device-back : (v : Device) (spare : ℕ) → DeviceFits v → device_of (λ k. get_or (device_words v spare) k 0) ≡ v
device-back v spare h = λ i. record { address = mod-eq_of_lt h.address i; chosen = mod-eq_of_lt h.chosen i; kept = mod-eq_of_lt h.kept i; details = all i }
  where
    f : ℕ → Detail
    f k = detail_of (get_or (device_words v spare) k 0)

    one-back : (j : ℕ) → j < length v.details → f (4 + j) ≡ get_or v.details j (bare 0)
    one-back j u =
        ap detail_of (get_or-append-add (v.address ∷ v.chosen ∷ v.kept ∷ spare ∷ []) (map detail_word v.details) j 0 ∙ get_or-map detail_word v.details j (bare 0))
        ∙ detail-back (get_or v.details j (bare 0)) (h.details.each j (let m = h.details.many in omega arith))

    all : from f 4 32 ≡ v.details
    all = ap (λ (n : ℕ). from f 4 n) (sym h.details.many) ∙ from_is v.details f 4 (bare 0) one-back

-- ---- one row

module _ (w : List ℕ) (i : ℕ) (v : Device) where
  pub length-row : length (row_stored w i v) ≡ length w
  length-row = length-sets w (place.row i) (device_words v (word_in w (place.row i + place.spare)))

  module _ (many : length v.details ≡ 32) where
    row-long : length (device_words v (word_in w (place.row i + place.spare))) ≡ place.width
    row-long = let e = length-map v.details detail_word in omega arith

    pub row_in : (k : ℕ) → length w ≡ size.words → i < 64 → k < place.width
        → word_in (row_stored w i v) (place.row i + k) ≡ get_or (device_words v (word_in w (place.row i + place.spare))) k 0
    row_in k l u g = let e = row-long in get_d-sets_in (device_words v (word_in w (place.row i + place.spare))) w (place.row i) k 0 (omega arith) (omega arith)

    pub row_past : (x : ℕ) → place.row i + place.width ≤ x → word_in (row_stored w i v) x ≡ word_in w x
    row_past x u = let e = row-long in get_d-sets_past (device_words v (word_in w (place.row i + place.spare))) w (place.row i) x 0 (omega arith)

  pub row_below : (x : ℕ) → x < place.row i → word_in (row_stored w i v) x ≡ word_in w x
  row_below x u = get_d-sets-below (device_words v (word_in w (place.row i + place.spare))) w (place.row i) x 0 u

-- ---- all rows

pub length-rows : (vs : List Device) (w : List ℕ) (i : ℕ) → length (rows_stored w i vs) ≡ length w
length-rows [] w i = refl
length-rows (v ∷ vs) w i = length-rows vs (row_stored w i v) (suc i) ∙ length-row w i v

-- words below them stay
pub rows-below : (vs : List Device) (w : List ℕ) (i x : ℕ) → x < place.row i → word_in (rows_stored w i vs) x ≡ word_in w x
rows-below [] w i x u = refl
rows-below (v ∷ vs) w i x u = rows-below vs (row_stored w i v) (suc i) x (omega arith) ∙ row_below w i v x u

-- word k of the row of device i + j
pub rows_in : (vs : List Device) (w : List ℕ) (i j k : ℕ) → DevicesFit vs → length w ≡ size.words → i + length vs ≤ 64 → j < length vs → k < place.width
    → word_in (rows_stored w i vs) (place.row (i + j) + k) ≡ get_or (device_words (get_or vs j blank) (word_in w (place.row (i + j) + place.spare))) k 0
rows_in [] w i j k f l m u g = absurd (omega arith)
rows_in (v ∷ vs) w i zero k f l m u g =
    let e : i + 0 ≡ i = omega arith in
    subst (λ (n : ℕ). word_in (rows_stored w i (v ∷ vs)) (place.row n + k) ≡ get_or (device_words v (word_in w (place.row n + place.spare))) k 0) (sym e)
    (rows-below vs (row_stored w i v) (suc i) (place.row i + k) (omega arith) ∙ row_in w i v (f.each 0 u).details.many k l (omega arith) g)
rows_in (v ∷ vs) w i (suc j) k f l m u g =
    let e : i + suc j ≡ suc i + j = omega arith in
    subst (λ (n : ℕ). word_in (rows_stored w i (v ∷ vs)) (place.row n + k) ≡ get_or (device_words (get_or vs j blank) (word_in w (place.row n + place.spare))) k 0) (sym e)
    (rows_in vs (row_stored w i v) (suc i) j k (record { each = λ n h. f.each (suc n) (omega arith) }) (length-row w i v ∙ l) (omega arith) (omega arith) g
    ∙ ap (λ (s : ℕ). get_or (device_words (get_or vs j blank) s) k 0) (row_past w i v (f.each 0 (omega arith)).details.many (place.row (suc i + j) + place.spare) (omega arith)))

-- ---- the record

module _ (w : List ℕ) (d : Decoder) (vs : List Device) where
  pub length-stored : length (stored w d vs) ≡ length w
  unfolding stored
  length-stored = length-rows vs (decoder_stored w d) 0 ∙ length-sets w 0 (decoder_words d)

  -- what is stored is loaded again
  pub decoder-stored : TransactionFits d.transaction → length w ≡ size.words → decoder_in (stored w d vs) ≡ d
  unfolding stored decoder_in
  decoder-stored f l =
      decoder_same (word_in (rows_stored (decoder_stored w d) 0 vs)) (λ k. get_or (decoder_words d) k 0)
      (λ k u. rows-below vs (decoder_stored w d) 0 k (omega arith) ∙ (let e : k ≡ 0 + k = omega arith in ap (word_in (decoder_stored w d)) e ∙ get_d-sets_in (decoder_words d) w 0 k 0 u (omega arith)))
      ∙ decoder-back d f

  pub devices-stored : DevicesFit vs → length vs ≡ 64 → length w ≡ size.words → devices_in (stored w d vs) ≡ vs
  unfolding stored devices_in
  devices-stored f m l =
      ap (λ (n : ℕ). from (device_at (rows_stored (decoder_stored w d) 0 vs)) 0 n) (sym m) ∙ from_is vs (device_at (rows_stored (decoder_stored w d) 0 vs)) 0 blank one-back
    where
      one-back : (j : ℕ) → j < length vs → device_at (rows_stored (decoder_stored w d) 0 vs) (0 + j) ≡ get_or vs j blank
      one-back j h =
          device_same (λ k. word_in (rows_stored (decoder_stored w d) 0 vs) (place.row (0 + j) + k)) (λ k. get_or (device_words (get_or vs j blank) (word_in (decoder_stored w d) (place.row (0 + j) + place.spare))) k 0)
          (λ k g. rows_in vs (decoder_stored w d) 0 j k f (length-sets w 0 (decoder_words d) ∙ l) (omega arith) h g)
          ∙ device-back (get_or vs j blank) (word_in (decoder_stored w d) (place.row (0 + j) + place.spare)) (f.each j h)

  -- words that belong to no field stay as they were: those behind the record's own, and one in each row
  pub head-stays : (k : ℕ) → size.head ≤ k → k < place.rows → word_in (stored w d vs) k ≡ word_in w k
  unfolding stored
  head-stays k u g = rows-below vs (decoder_stored w d) 0 k (omega arith) ∙ get_d-sets_past (decoder_words d) w 0 k 0 u

  pub spare-stays : DevicesFit vs → length vs ≡ 64 → length w ≡ size.words → (i : ℕ) → i < 64 → word_in (stored w d vs) (place.row i + place.spare) ≡ word_in w (place.row i + place.spare)
  unfolding stored
  spare-stays f m l i u =
      let e : 0 + i ≡ i = omega arith in
      subst (λ (n : ℕ). word_in (rows_stored (decoder_stored w d) 0 vs) (place.row n + place.spare) ≡ word_in (decoder_stored w d) (place.row n + place.spare)) e
      (rows_in vs (decoder_stored w d) 0 i place.spare f (length-sets w 0 (decoder_words d) ∙ l) (omega arith) (omega arith) (omega arith))
      ∙ get_d-sets_past (decoder_words d) w 0 (place.row i + place.spare) 0 (omega arith)
