-- Laws (proved): of what an export gives and leaves: for callers.
-- Assumes nothing.
use Rattle.std.specs.Prelude.{◌≡◌, ℕ, zero, suc, ◌+◌, ◌*◌, ◌/◌, ◌^◌, ◌<◌, ◌≤◌, Bool, true, false, cond, ◌||◌, List, ◌++◌, length, take, drop, ◌≢◌, nat_lt, slice_index}
use Rattle.std.proofs.Common.{arith, sym, ◌∙◌, ltb-true, ltb-false, lt-ltb, le-ltb, length-take}
use Rattle.std.proofs.Math.Path.{refl, ap}
use Rattle.std.proofs.lemmas.List.Edits.{sets, sets-eq}
use Rattle.std.proofs.Math.Seq.{take-append_seam}
use Rattle.rows.specs.One.{one}
use Rattle.rows.specs.Widths.{packet_width}
use Rattle.reading.specs.Packets.{packet_bytes}
use Rattle.reading.proofs.PacketsLaws.{stops, packet_size}
use Rattle.pcap.specs.Pcap.{time_of}
use Rattle.pcap.specs.File.{Item}
use Rattle.pcap.specs.Fits.{Fit, Fits}
use Rattle.pcap.specs.Reading.{read_file}
use Rattle.pcap.proofs.Written.{file-written}
use Rattle.pcap.specs.Export.{Source, written_format, item_at, item_of, event_at, kept, items_from, items_of, late, lent, counted, source_of, taken_from, size_of, refusal, accepted, file_bytes, judged, Exports}
use Rattle.pcap.specs.Inner.{extent_of, Within}
use Rattle.pcap.specs.declared.Exported.{Exported}
use Rattle.pcap.specs.declared.Extent.{Extent}

-- ---- what is not late can be written

first_false : (a b : Bool) → a || b ≡ false → a ≡ false
first_false false b h = refl
first_false true b h = h

second_false : (a b : Bool) → a || b ≡ false → b ≡ false
second_false false b h = h
second_false true false h = refl
second_false true true h = h

item-fits : (time : ℕ) (bytes : List ℕ) → time / 10 ^ 9 < 2 ^ 32 → length bytes < 2 ^ 32 → Fit written_format (item_at time bytes)
item-fits time bytes h g =
    record { seconds_fit = omega arith; fraction_fit = omega arith; size_fit = g; below-second = omega arith }

kept-fits : (b : Bool) (time : ℕ) (bytes : List ℕ) (rest : List Item) → length bytes < 2 ^ 32
    → (late rest ≡ false → Fits written_format rest)
    → late (kept b (item_at time bytes) ++ rest) ≡ false
    → Fits written_format (kept b (item_at time bytes) ++ rest)
kept-fits true time bytes rest g f h = f h
kept-fits false time bytes rest g f h =
    let q = ltb-false 4294967295 (time / 10 ^ 9) (first_false _ (late rest) h) in
    (item-fits time bytes (omega arith) g, f (second_false (nat_lt 4294967295 (time / 10 ^ 9)) (late rest) h))

module _ (l : Source) (short : length l.bytes < 2 ^ 32) where
  fits-from : (n k t : ℕ) → late (items_from l n k t) ≡ false → Fits written_format (items_from l n k t)
  unfolding items_from
  fits-from zero k t h = tt
  fits-from (suc n) k t h =
      let g : length (packet_bytes k l.rows l.packets l.bytes) < 2 ^ 32
      = omega (arith, packet_size k l.rows l.packets l.bytes, stops k l.rows l.packets (length l.bytes)) in
      kept-fits (event_at l t k) (slice_index l.packets (k * packet_width + 1)) (packet_bytes k l.rows l.packets l.bytes)
      (items_from l n (k + 1) (t + one (event_at l t k))) g (fits-from n (k + 1) (t + one (event_at l t k))) h

  pub fits_all : late (items_of l) ≡ false → Fits written_format (items_of l)
  fits_all = fits-from l.rows 0 0

-- ---- the logs by any counts

module _ (m : ℕ) (bytes : List ℕ) (n : ℕ) (packets : List ℕ) (e : ℕ) (events : List ℕ) {x : Extent}
    (q : x ≡ extent_of m (length bytes) n (length packets) e (length events)) where
  bytes_are : x.bytes ≡ counted 1073741824 m (length bytes)
  bytes_are = ap (λ (y : Extent). y.bytes) q

  rows_are : x.rows ≡ counted 16777216 n (length packets / 2)
  rows_are = ap (λ (y : Extent). y.rows) q

  marks_are : x.marks ≡ counted 16777216 e (length events / 2)
  marks_are = ap (λ (y : Extent). y.marks) q

  pub counted_within : Within (lent (take x.bytes bytes) x.rows packets x.marks events)
  counted_within =
      record {
        packet-rows = omega (arith, rows_are);
        event-rows = omega (arith, marks_are);
        few = omega (arith, rows_are);
        short = omega (arith, bytes_are, length-take x.bytes bytes);
      }

  pub counted-length : x.bytes ≡ length (take x.bytes bytes)
  counted-length = omega (arith, bytes_are, length-take x.bytes bytes)

  pub counted_source : lent (take x.bytes bytes) x.rows packets x.marks events ≡ source_of m bytes n packets e events
  counted_source = λ i. lent (take (bytes_are i) bytes) (rows_are i) packets (marks_are i) events

pub source_within : (m : ℕ) (bytes : List ℕ) (n : ℕ) (packets : List ℕ) (e : ℕ) (events : List ℕ) → Within (source_of m bytes n packets e events)
source_within m bytes n packets e events = counted_within m bytes n packets e events refl

-- ---- the three outcomes

module _ (l : Source) where
  pub size-late : late (items_of l) ≡ true → size_of l ≡ refusal 18
  unfolding size_of
  size-late h = ap (λ (b : Bool). cond b (refusal 18) (accepted l)) h

  pub size_fine : late (items_of l) ≡ false → size_of l ≡ accepted l
  unfolding size_of
  size_fine h = ap (λ (b : Bool). cond b (refusal 18) (accepted l)) h

  module _ (before : List ℕ) where
    judged-late : {A : Type 0} (x y z : A) → late (items_of l) ≡ true → judged (length before) l x y z ≡ x
    judged-late x y z h = ap (λ (b : Bool). cond b x (cond (nat_lt (length before) (length (file_bytes l))) y z)) h

    judged-long : {A : Type 0} (x y z : A) → late (items_of l) ≡ false → length before < length (file_bytes l) → judged (length before) l x y z ≡ y
    judged-long x y z h g =
        ap (λ (b : Bool). cond b x (cond (nat_lt (length before) (length (file_bytes l))) y z)) h
        ∙ ap (λ (b : Bool). cond b y z) (lt-ltb (length before) (length (file_bytes l)) g)

    judged_fine : {A : Type 0} (x y z : A) → late (items_of l) ≡ false → length (file_bytes l) ≤ length before → judged (length before) l x y z ≡ z
    judged_fine x y z h g =
        ap (λ (b : Bool). cond b x (cond (nat_lt (length before) (length (file_bytes l))) y z)) h
        ∙ ap (λ (b : Bool). cond b y z) (le-ltb (length before) (length (file_bytes l)) g)

    pub export-late : (r : Exported) → late (items_of l) ≡ true → r ≡ refusal 18 → Exports l before before r
    export-late r h e =
        record {
          result = e ∙ sym (judged-late (refusal 18) (refusal 7) (accepted l) h);
          buffer = sym (judged-late before before (sets before 0 (file_bytes l)) h);
        }

    pub export-long : (r : Exported) → late (items_of l) ≡ false → length before < length (file_bytes l) → r ≡ refusal 7 → Exports l before before r
    export-long r h g e =
        record {
          result = e ∙ sym (judged-long (refusal 18) (refusal 7) (accepted l) h g);
          buffer = sym (judged-long before before (sets before 0 (file_bytes l)) h g);
        }

    pub export_fine : (after : List ℕ) (r : Exported) → late (items_of l) ≡ false → length (file_bytes l) ≤ length before
        → after ≡ sets before 0 (file_bytes l) → r ≡ accepted l → Exports l before after r
    export_fine after r h g d e =
        record {
          result = e ∙ sym (judged_fine (refusal 18) (refusal 7) (accepted l) h g);
          buffer = d ∙ sym (judged_fine before before (sets before 0 (file_bytes l)) h g);
        }

-- counts that the logs have, within 01's sizes, are taken as they are
pub source-whole : (m : ℕ) (bytes : List ℕ) (n : ℕ) (packets : List ℕ) (e : ℕ) (events : List ℕ)
    → m ≤ length bytes → m ≤ 1073741824 → n * 2 ≤ length packets → n ≤ 16777216 → e * 2 ≤ length events → e ≤ 16777216
    → source_of m bytes n packets e events ≡ lent (take m bytes) n packets e events
source-whole m bytes n packets e events h₁ h₂ h₃ h₄ h₅ h₆ =
    let a : counted 1073741824 m (length bytes) ≡ m = omega arith in
    let b : counted 16777216 n (length packets / 2) ≡ n = omega arith in
    let c : counted 16777216 e (length events / 2) ≡ e = omega arith in
    λ i. lent (take (a i) bytes) (b i) packets (c i) events

-- ---- of any export

-- one outcome alone is permitted
pub export_unique : (l : Source) (before : List ℕ) {after after' : List ℕ} {r r' : Exported} → Exports l before after r → Exports l before after' r'
    → (r ≡ r') × (after ≡ after')
export_unique l before x y = (x.result ∙ sym y.result, x.buffer ∙ sym y.buffer)

refused_by : (a b : Bool) (x : Exported) (before full : List ℕ) → x.answer ≡ 0 → ((cond a (refusal 18) (cond b (refusal 7) x)).answer ≢ 0)
    → cond a before (cond b before full) ≡ before
refused_by true b x before full e h = refl
refused_by false true x before full e h = refl
refused_by false false x before full e h = absurd (h e)

accepted-by : (a b : Bool) (x : Exported) → (cond a (refusal 18) (cond b (refusal 7) x)).answer ≡ 0 → (a ≡ false) × (b ≡ false)
accepted-by true b x h = absurd (omega arith)
accepted-by false true x h = absurd (omega arith)
accepted-by false false x h = (refl, refl)

module _ (l : Source) (before : List ℕ) {after : List ℕ} {r : Exported} (x : Exports l before after r) where
  -- refused, nothing is written
  pub refused-leaves : (r.answer ≢ 0) → after ≡ before
  refused-leaves h =
      x.buffer
      ∙ refused_by (late (items_of l)) (nat_lt (length before) (length (file_bytes l))) (accepted l) before (sets before 0 (file_bytes l)) refl
      (λ e. h (ap (λ (y : Exported). y.answer) x.result ∙ e))

  module _ (h : r.answer ≡ 0) where
    fine : (late (items_of l) ≡ false) × (nat_lt (length before) (length (file_bytes l)) ≡ false)
    fine =
        accepted-by (late (items_of l)) (nat_lt (length before) (length (file_bytes l))) (accepted l)
        (sym (ap (λ (y : Exported). y.answer) x.result) ∙ h)

    short_enough : length (file_bytes l) ≤ length before
    short_enough = ltb-false (length before) (length (file_bytes l)) fine.1

    -- accepted, the file stands at the start of the buffer
    pub accepted-is : r ≡ accepted l
    accepted-is = x.result ∙ judged_fine l before (refusal 18) (refusal 7) (accepted l) fine.0 short_enough

    pub accepted_file : take r.length after ≡ file_bytes l
    accepted_file =
        let t = file_bytes l in
        ap (λ (y : Exported). take y.length after) accepted-is
        ∙ ap (take (length t)) (x.buffer ∙ judged_fine l before before before (sets before 0 t) fine.0 short_enough ∙ sets-eq t before 0 (omega (arith, short_enough)))
        ∙ take-append_seam t (drop (0 + length t) before)

    -- and what is read from it are the records that were written, to its end
    pub there_and_back : length l.bytes < 2 ^ 32 → read_file (take r.length after) ≡ record { items = items_of l; answer = 0; place = r.length }
    there_and_back g =
        ap read_file accepted_file
        ∙ file-written false true (items_of l) (fits_all l g fine.0)
        ∙ ap (λ (y : Exported). record { items = items_of l; answer = 0; place = y.length }) (sym accepted-is)

-- of any logs, by any counts
pub export-read : (m : ℕ) (bytes : List ℕ) (n : ℕ) (packets : List ℕ) (e : ℕ) (events : List ℕ) (before : List ℕ) {after : List ℕ} {r : Exported}
    → Exports (source_of m bytes n packets e events) before after r → r.answer ≡ 0
    → read_file (take r.length after) ≡ record { items = items_of (source_of m bytes n packets e events); answer = 0; place = r.length }
export-read m bytes n packets e events before x h =
    there_and_back (source_of m bytes n packets e events) before x h (omega (arith, (source_within m bytes n packets e events).short))

-- a row's time is that of its record
pub time-back : (l : Source) (k : ℕ) → time_of written_format (item_of l k).seconds (item_of l k).fraction ≡ slice_index l.packets (k * packet_width + 1)
time-back l k = omega arith

-- ---- `export_size` is exact

module _ (l : Source) (before : List ℕ) {after : List ℕ} {r : Exported} (x : Exports l before after r) where
  by_size : (a : Bool) → a ≡ late (items_of l) → (b : Bool) → b ≡ nat_lt (length before) (length (file_bytes l)) → (y : Exported) → y ≡ accepted l
      → ((cond a (refusal 18) y).length ≤ length before → cond a (refusal 18) (cond b (refusal 7) y) ≡ cond a (refusal 18) y)
      × (length before < (cond a (refusal 18) y).length → cond a (refusal 18) (cond b (refusal 7) y) ≡ refusal 7)
  by_size true p b q y e = (λ h. refl, λ h. absurd (omega arith))
  by_size false p true q y e =
      let g = ltb-true (length before) (length (file_bytes l)) (sym q) in
      (λ h. absurd (omega (arith, g, ap (λ (z : Exported). z.length) e, h)), λ h. refl)
  by_size false p false q y e =
      let g = ltb-false (length before) (length (file_bytes l)) (sym q) in
      (λ h. refl, λ h. absurd (omega (arith, g, ap (λ (z : Exported). z.length) e, h)))

  -- a buffer of that length is enough, and then both give the same; a shorter one is refused
  pub size_enough : (size_of l).length ≤ length before → r ≡ size_of l
  unfolding size_of
  size_enough h = x.result ∙ (by_size (late (items_of l)) refl (nat_lt (length before) (length (file_bytes l))) refl (accepted l) refl).0 h

  pub size_needed : length before < (size_of l).length → r ≡ refusal 7
  unfolding size_of
  size_needed h = x.result ∙ (by_size (late (items_of l)) refl (nat_lt (length before) (length (file_bytes l))) refl (accepted l) refl).1 h

-- ---- every row is written or left behind

kept-count : (b : Bool) (r : Item) (rest : List Item) (t m n : ℕ) → length rest + m ≡ n + (t + one b) → length (kept b r ++ rest) + m ≡ suc n + t
kept-count true r rest t m n h = omega arith
kept-count false r rest t m n h = omega arith

counts-from : (l : Source) (n k t : ℕ) → length (items_from l n k t) + taken_from l n k t ≡ n + t
unfolding items_from taken_from
counts-from l zero k t = omega arith
counts-from l (suc n) k t =
    let b = event_at l t k in
    kept-count b (item_of l k) (items_from l n (k + 1) (t + one b)) t (taken_from l n (k + 1) (t + one b)) n (counts-from l n (k + 1) (t + one b))

pub counts-add : (l : Source) → length (items_of l) + taken_from l l.rows 0 0 ≡ l.rows
counts-add l = omega (arith, counts-from l l.rows 0 0)
