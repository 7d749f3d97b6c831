-- One turn of a loop over packet rows: what is left is the next row's record, or none, and what is left then.
-- Assumes nothing.
use Rattle.std.proofs.Common.{◌≡◌, ℕ, suc, ◌+◌, ◌-◌, ◌*◌, ◌/◌, ◌<◌, ◌≤◌, Bool, true, false, ◌||◌, ltb, List, [], ◌∷◌, ◌++◌, length, get_or, take, drop, sym, refl, ap, ◌∙◌, subst, true≢false, append_assoc, append-nil, arith, length-append}
use Rattle.std.specs.Int.{from_bool}
use mathlib.Core.Bool.{false≢true}
use Rattle.rows.specs.One.{one}
use Rattle.rows.specs.Widths.{packet_width}
use Rattle.reading.specs.Packets.{start_of, packet_bytes}
use Rattle.reading.specs.Size.{size_at}
use Rattle.text.specs.Append.{Appended}
use Rattle.pcap.specs.File.{Item, item_bytes, body_of}
use Rattle.pcap.specs.Fits.{Fit, Fits}
use Rattle.pcap.specs.Export.{Source, written_format, item_of, event_at, kept, items_from, taken_from, items_of, late, file_bytes}
use Rattle.pcap.specs.Inner.{seen, Small, survey_of}
use Rattle.pcap.specs.declared.Format.{Format}
use Rattle.pcap.specs.declared.Survey.{Survey}

-- ---- records behind each other

pub body-append : (f : Format) (xs ys : List Item) → body_of f (xs ++ ys) ≡ body_of f xs ++ body_of f ys
body-append f [] ys = refl
body-append f (x ∷ xs) ys = ap (λ (b : List ℕ). item_bytes f x ++ b) (body-append f xs ys) ∙ sym (append_assoc (item_bytes f x) (body_of f xs) (body_of f ys))

pub fits-first : (f : Format) (xs ys : List Item) → Fits f (xs ++ ys) → Fits f xs
fits-first f [] ys h = tt
fits-first f (x ∷ xs) ys h = (h.0, fits-first f xs ys h.1)

pub fits-rest : (f : Format) (xs ys : List Item) → Fits f (xs ++ ys) → Fits f ys
fits-rest f [] ys h = h
fits-rest f (x ∷ xs) ys h = fits-rest f xs ys h.1

-- ---- a row's own record

-- a flag as a number, as the library has it

-- the bytes as the code has them
pub bytes_are : (k n : ℕ) (rows bytes : List ℕ) {start size : ℕ} → start ≡ start_of k n rows (length bytes) → size ≡ size_at k n rows (length bytes)
    → take (start + size - start) (drop start bytes) ≡ packet_bytes k n rows bytes
bytes_are k n rows bytes {start} {size} a b =
    let e : start + size - start ≡ size = omega arith in
    ap (λ (m : ℕ). take m (drop start bytes)) (e ∙ b) ∙ ap (λ (m : ℕ). take (size_at k n rows (length bytes)) (drop m bytes)) a

pub none_appended : (l : List ℕ) (at : ℕ) (b : Bool) (r : Item) → b ≡ true → Appended l at (body_of written_format (kept b r)) l at
none_appended l at true r q = record { stored = refl; place = omega arith }
none_appended l at false r q = absurd (false≢true q)

pub one_body : (b : Bool) (r : Item) → b ≡ false → body_of written_format (kept b r) ≡ item_bytes written_format r
one_body true r q = absurd (true≢false q)
one_body false r q = append-nil (item_bytes written_format r)

first_fits : (f : Format) (r : Item) (rs : List Item) → Fits f (r ∷ rs) → Fit f r
first_fits f r rs h = h.0

pub one-fits : (b : Bool) (r : Item) → b ≡ false → Fits written_format (kept b r) → Fit written_format r
one-fits true r q h = absurd (true≢false q)
one-fits false r q h = first_fits written_format r [] h

-- ---- rows from k on, where t events were taken; b says whether row k is an event's

module _ (l : Source) (n k t : ℕ) where
  next-items : k < n → (b : Bool) → b ≡ event_at l t k → items_from l (n - k) k t ≡ kept b (item_of l k) ++ items_from l (n - (k + 1)) (k + 1) (t + one b)
  unfolding items_from
  next-items h b q =
      let e : n - k ≡ suc (n - (k + 1)) = omega arith in
      subst (λ (c : Bool). items_from l (n - k) k t ≡ kept c (item_of l k) ++ items_from l (n - (k + 1)) (k + 1) (t + one c)) (sym q)
      (ap (λ (m : ℕ). items_from l m k t) e)

  no_items : n ≤ k → items_from l (n - k) k t ≡ []
  unfolding items_from
  no_items h = let e : n - k ≡ 0 = omega arith in ap (λ (m : ℕ). items_from l m k t) e

  next-taken : k < n → (b : Bool) → b ≡ event_at l t k → taken_from l (n - k) k t ≡ taken_from l (n - (k + 1)) (k + 1) (t + one b)
  unfolding taken_from
  next-taken h b q =
      let e : n - k ≡ suc (n - (k + 1)) = omega arith in
      subst (λ (c : Bool). taken_from l (n - k) k t ≡ taken_from l (n - (k + 1)) (k + 1) (t + one c)) (sym q)
      (ap (λ (m : ℕ). taken_from l m k t) e)

  no-taken : n ≤ k → taken_from l (n - k) k t ≡ t
  unfolding taken_from
  no-taken h = let e : n - k ≡ 0 = omega arith in ap (λ (m : ℕ). taken_from l m k t) e

  -- of the bytes that are left, the row's own come first
  pub next_body : k < n → (b : Bool) → b ≡ event_at l t k
      → body_of written_format (items_from l (n - k) k t)
      ≡ body_of written_format (kept b (item_of l k)) ++ body_of written_format (items_from l (n - (k + 1)) (k + 1) (t + one b))
  next_body h b q =
      ap (body_of written_format) (next-items h b q)
      ∙ body-append written_format (kept b (item_of l k)) (items_from l (n - (k + 1)) (k + 1) (t + one b))

  pub no_body : n ≤ k → body_of written_format (items_from l (n - k) k t) ≡ []
  no_body h = ap (body_of written_format) (no_items h)

  module _ (h : k < n) (b : Bool) (q : b ≡ event_at l t k) (fits : Fits written_format (items_from l (n - k) k t)) where
    pub row_fits : Fits written_format (kept b (item_of l k))
    row_fits = fits-first written_format (kept b (item_of l k)) (items_from l (n - (k + 1)) (k + 1) (t + one b)) (subst (Fits written_format) (next-items h b q) fits)

    pub rest-fits : Fits written_format (items_from l (n - (k + 1)) (k + 1) (t + one b))
    rest-fits = fits-rest written_format (kept b (item_of l k)) (items_from l (n - (k + 1)) (k + 1) (t + one b)) (subst (Fits written_format) (next-items h b q) fits)

-- ---- the survey: what was met, and what is left, give the whole

pub record Owed (l : Source) (k : ℕ) (s : Survey) : Type 0 where
  pub late_is : s.late || late (items_from l (l.rows - k) k s.events) ≡ late (items_of l)
  pub length-is : s.length + length (body_of written_format (items_from l (l.rows - k) k s.events)) ≡ length (file_bytes l)
  pub packets-is : s.packets + length (items_from l (l.rows - k) k s.events) ≡ length (items_of l)
  pub events-is : taken_from l (l.rows - k) k s.events ≡ taken_from l l.rows 0 0

pub small-step : (k : ℕ) (s : Survey) (b : Bool) (time size : ℕ) → Small k s → size ≤ 1073741824 → Small (k + 1) (seen b time size s)
small-step k s true time size a h = record { length_small = omega arith; packets_small = omega arith; events_small = omega arith }
small-step k s false time size a h = record { length_small = omega arith; packets_small = omega arith; events_small = omega arith }

or_assoc : (a b c : Bool) → a || (b || c) ≡ (a || b) || c
or_assoc true b c = refl
or_assoc false b c = refl

or_false : (a : Bool) → a || false ≡ a
or_false true = refl
or_false false = refl

module _ (l : Source) (k : ℕ) (s : Survey) (h : k < l.rows) (time size : ℕ)
    (u : time ≡ get_or l.packets (k * packet_width + 1) 0)
    (z : size ≡ length (packet_bytes k l.rows l.packets l.bytes))
    (o : Owed l k s) where
  pub owed-step : (b : Bool) → b ≡ event_at l s.events k → Owed l (k + 1) (seen b time size s)
  owed-step true q =
      let e = next-items l l.rows k s.events h true q in
      record {
        late_is = ap (λ (r : List Item). s.late || late r) (sym e) ∙ o.late_is;
        length-is = ap (λ (r : List Item). s.length + length (body_of written_format r)) (sym e) ∙ o.length-is;
        packets-is = ap (λ (r : List Item). s.packets + length r) (sym e) ∙ o.packets-is;
        events-is = sym (next-taken l l.rows k s.events h true q) ∙ o.events-is;
      }
  owed-step false q =
      let none : s.events + 0 ≡ s.events = omega arith in
      let rest = items_from l (l.rows - (k + 1)) (k + 1) s.events in
      let e : items_from l (l.rows - k) k s.events ≡ item_of l k ∷ rest
      = next-items l l.rows k s.events h false q ∙ ap (λ (t : ℕ). item_of l k ∷ items_from l (l.rows - (k + 1)) (k + 1) t) none in
      let i = item_of l k in
      record {
        late_is =
            sym (or_assoc s.late (ltb 4294967295 (time / 1000000000)) (late rest))
            ∙ ap (λ (t : ℕ). s.late || (ltb 4294967295 (t / 1000000000) || late rest)) u
            ∙ ap (λ (r : List Item). s.late || late r) (sym e)
            ∙ o.late_is;
        length-is =
            omega (arith, length-append (item_bytes written_format i) (body_of written_format rest), z, ap (λ (r : List Item). length (body_of written_format r)) e, o.length-is);
        packets-is = omega (arith, ap (λ (r : List Item). length r) e, o.packets-is);
        events-is =
            ap (λ (t : ℕ). taken_from l (l.rows - (k + 1)) (k + 1) t) (sym none)
            ∙ sym (next-taken l l.rows k s.events h false q)
            ∙ o.events-is;
      }

pub owed_none : (l : Source) (k : ℕ) (s : Survey) → l.rows ≤ k → Owed l k s → s ≡ survey_of l
owed_none l k s h o =
    let e = no_items l l.rows k s.events h in
    let a : s.late ≡ late (items_of l) = sym (or_false s.late) ∙ ap (λ (r : List Item). s.late || late r) (sym e) ∙ o.late_is in
    let b : s.length ≡ length (file_bytes l) = omega (arith, ap (λ (r : List Item). length (body_of written_format r)) e, o.length-is) in
    let c : s.packets ≡ length (items_of l) = omega (arith, ap (λ (r : List Item). length r) e, o.packets-is) in
    let d : s.events ≡ taken_from l l.rows 0 0 = sym (no-taken l l.rows k s.events h) ∙ o.events-is in
    λ i. record { late = a i; length = b i; packets = c i; events = d i }
