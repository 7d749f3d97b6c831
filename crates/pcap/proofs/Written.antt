-- Laws (proved): what is written is read, in all four formats: for callers.
-- Assumes nothing.
use Rattle.std.specs.Prelude.{◌≡◌, ℕ, zero, suc, ◌+◌, ◌^◌, ◌<◌, ◌≤◌, Bool, true, false, Ok, List, [], ◌∷◌, ◌++◌, length, drop, refl}
use Rattle.std.proofs.Common.{arith, sym, ap, ◌∙◌, append_assoc, le-leb, lt-ltb, le-ltb, length-append, take_at}
use Rattle.std.proofs.Math.Seq.{slice, drop-append-add}
use Rattle.pcap.specs.Numbers.{number, number_at}
use Rattle.pcap.specs.Pcap.{head_of, next_at}
use Rattle.pcap.specs.File.{four, Item, format, head_bytes, heading, item_bytes, body_of, file_of}
use Rattle.pcap.specs.Fits.{Fit, Fits}
use Rattle.pcap.specs.Reading.{Read, onward, read_from, read_of, opened, read_file, records_of}
use Rattle.pcap.proofs.PcapLaws.{packet_of}
use Rattle.pcap.specs.declared.Format.{Format}
use Rattle.pcap.specs.declared.Next.TheVariants.{Packet}

-- a number that is written is read
pub number-four : (big : Bool) (n : ℕ) → n < 2 ^ 32 → number big (four big n) ≡ n
number-four true n h = omega arith
number-four false n h = omega arith

-- the numbers of a heading
module _ (s fr n : ℕ) (v : List ℕ) where
  at_0 : (big : Bool) → s < 2 ^ 32 → number_at big 0 (heading big s fr n ++ v) ≡ s
  unfolding number_at
  at_0 true h = number-four true s h
  at_0 false h = number-four false s h

  at_4 : (big : Bool) → fr < 2 ^ 32 → number_at big 4 (heading big s fr n ++ v) ≡ fr
  unfolding number_at
  at_4 true h = number-four true fr h
  at_4 false h = number-four false fr h

  at_8 : (big : Bool) → n < 2 ^ 32 → number_at big 8 (heading big s fr n ++ v) ≡ n
  unfolding number_at
  at_8 true h = number-four true n h
  at_8 false h = number-four false n h

  at_12 : (big : Bool) → n < 2 ^ 32 → number_at big 12 (heading big s fr n ++ v) ≡ n
  unfolding number_at
  at_12 true h = number-four true n h
  at_12 false h = number-four false n h

  past-heading : (big : Bool) → drop 16 (heading big s fr n ++ v) ≡ v
  past-heading true = refl
  past-heading false = refl

  size : (big : Bool) → length (heading big s fr n ++ v) ≡ length v + 16
  size true = omega arith
  size false = omega arith

-- a number behind a prefix
behind : (big : Bool) (before u : List ℕ) (k : ℕ) → number_at big (length before + k) (before ++ u) ≡ number_at big k u
unfolding number_at
behind big before u k = rw (drop-append-add before u k)

-- one record, behind any prefix and before any rest
module _ (f : Format) (r : Item) (fit : Fit f r) (before rest : List ℕ) where
  numbered : (k : ℕ)
      → number_at f.big (length before + k) (before ++ (item_bytes f r ++ rest))
      ≡ number_at f.big k (heading f.big r.seconds r.fraction (length r.bytes) ++ (r.bytes ++ rest))
  numbered k =
      behind f.big before (item_bytes f r ++ rest) k
      ∙ ap (number_at f.big k) (append_assoc (heading f.big r.seconds r.fraction (length r.bytes)) r.bytes rest)

  item_size : length (item_bytes f r) ≡ length r.bytes + 16
  item_size = size r.seconds r.fraction (length r.bytes) r.bytes f.big

  pub item-end : length (before ++ item_bytes f r) ≡ length before + 16 + length r.bytes
  item-end = omega (arith, item_size, length-append before (item_bytes f r))

  whole_size : length (before ++ (item_bytes f r ++ rest)) ≡ length before + 16 + length r.bytes + length rest
  whole_size = omega (arith, item_size, length-append before (item_bytes f r ++ rest), length-append (item_bytes f r) rest)

  pub item-next : Packet r.seconds r.fraction (length before + 16) (length before + 16 + length r.bytes)
      ≡ next_at f (before ++ (item_bytes f r ++ rest)) (length before)
  item-next =
      let s = r.seconds in
      let x = r.fraction in
      let n = length r.bytes in
      let v = r.bytes ++ rest in
      let z : length before ≡ length before + 0 = omega arith in
      let l : length before < length (before ++ (item_bytes f r ++ rest)) = omega (arith, whole_size) in
      packet_of f (before ++ (item_bytes f r ++ rest)) (length before) n n x s
      (sym (numbered 8 ∙ at_8 s x n v f.big fit.size_fit))
      (sym (numbered 12 ∙ at_12 s x n v f.big fit.size_fit))
      (sym (numbered 4 ∙ at_4 s x n v f.big fit.fraction_fit))
      (sym (ap (λ (k : ℕ). number_at f.big k (before ++ (item_bytes f r ++ rest))) z ∙ numbered 0 ∙ at_0 s x n v f.big fit.seconds_fit))
      (omega (arith, whole_size))
      refl
      fit.below-second
      ∙ rw (lt-ltb _ _ l)

  pub item-bytes : slice (length before + 16) (length before + 16 + length r.bytes) (before ++ (item_bytes f r ++ rest)) ≡ r.bytes
  item-bytes =
      ap (λ (l : List ℕ). slice (length before + 16) (length before + 16 + length r.bytes) l) (sym (append_assoc before (item_bytes f r) rest))
      ∙ ap (drop (length before + 16)) (take_at (before ++ item_bytes f r) rest (length before + 16 + length r.bytes) item-end)
      ∙ drop-append-add before (item_bytes f r) 16
      ∙ past-heading r.seconds r.fraction (length r.bytes) r.bytes f.big

-- any number of records, behind any prefix
pub read_behind : (f : Format) (rs : List Item) (n : ℕ) (before : List ℕ) → length rs < n → Fits f rs
    → read_from f n (before ++ body_of f rs) (length before) ≡ record { items = rs; answer = 0; place = length (before ++ body_of f rs) }
read_behind f rs zero before h fits = absurd (omega arith)
read_behind f [] (suc n) before h fits =
    let e : length (before ++ []) ≡ length before = omega (arith, length-append before []) in
    rw (e, le-ltb (length before) (length before) (omega arith))
read_behind f (r ∷ rs) (suc n) before h fits =
    let t = before ++ (item_bytes f r ++ body_of f rs) in
    let end = length before + 16 + length r.bytes in
    let next = read_behind f rs n (before ++ item_bytes f r) (omega arith) fits.1 in
    let q : read_from f n t end ≡ record { items = rs; answer = 0; place = length t }
    = rw (append_assoc before (item_bytes f r) (body_of f rs), item-end f r fits.0 before (body_of f rs)) at next in
    ap (onward t (length before) (read_from f n t)) (sym (item-next f r fits.0 before (body_of f rs)))
    ∙ λ i. record {
      items = record { seconds = r.seconds; fraction = r.fraction; bytes = item-bytes f r fits.0 before (body_of f rs) i } ∷ (q i).items;
      answer = (q i).answer;
      place = (q i).place;
    }

head_size : (f : Format) → length (head_bytes f) ≡ 24
head_size f = sized f.big f.unit where
  sized : (big : Bool) (unit : ℕ) → length (head_bytes (record { big = big; unit = unit })) ≡ 24
  sized true unit = refl
  sized false unit = refl

fewer : (f : Format) (rs : List Item) → length rs ≤ length (body_of f rs)
fewer f [] = omega arith
fewer f (r ∷ rs) = omega (arith, fewer f rs, length-append (item_bytes f r) (body_of f rs), size r.seconds r.fraction (length r.bytes) r.bytes f.big)

-- all is read, and nothing is refused
pub read_whole : (f : Format) (rs : List Item) → Fits f rs → read_of f (file_of f rs) ≡ record { items = rs; answer = 0; place = length (file_of f rs) }
unfolding read_of
read_whole f rs fits =
    let n : length rs < length (file_of f rs) = omega (arith, fewer f rs, head_size f, length-append (head_bytes f) (body_of f rs)) in
    rw (head_size f) at (read_behind f rs (length (file_of f rs)) (head_bytes f) n fits)

pub read-written : (f : Format) (rs : List Item) → Fits f rs → records_of f (file_of f rs) ≡ rs
read-written f rs fits = ap (λ (x : Read). x.items) (read_whole f rs fits)

-- a head that is written gives its format, whatever follows
pub head-written : (big nano : Bool) (body : List ℕ) → head_of (head_bytes (format big nano) ++ body) ≡ Ok (format big nano)
unfolding head_of number_at
head-written true true body = rw (le-leb 24 (length (head_bytes (format true true) ++ body)) (omega arith))
head-written true false body = rw (le-leb 24 (length (head_bytes (format true false) ++ body)) (omega arith))
head-written false true body = rw (le-leb 24 (length (head_bytes (format false true) ++ body)) (omega arith))
head-written false false body = rw (le-leb 24 (length (head_bytes (format false false) ++ body)) (omega arith))

-- so a file in any of the four formats is read whole, its format by its head
pub file-written : (big nano : Bool) (rs : List Item) → Fits (format big nano) rs
    → read_file (file_of (format big nano) rs) ≡ record { items = rs; answer = 0; place = length (file_of (format big nano) rs) }
file-written big nano rs fits =
    let f = format big nano in
    ap (opened (file_of f rs)) (head-written big nano (body_of f rs)) ∙ read_whole f rs fits
