-- Laws (proved): parts behind each other are the whole; a part has room in its buffer; one that has room for a line goes on, so that calls come to an end.
-- Assumes nothing.
use Prim.Native.Nat.{ℕ, zero, suc, ◌+◌, ◌*◌, ◌-◌, ◌<◌, ◌≤◌}
use native.Mathlib.Omega.{arith}
use Rattle.std.proofs.Common.{le-div_iff_mul-le, sym, ap, ◌∙◌}
use Rattle.std.specs.Prelude.{Bool, cond, ◌≡◌, Some, leb}
use Rattle.std.proofs.Math.Bool.{true, false}
use Rattle.std.proofs.Math.Path.{refl}
use mathlib.Core.List.{List, [], ◌∷◌, ◌++◌, append_assoc}
use borrow.Author.Tests.{le-leb, lt-leb, leb-true}
use Rattle.std.proofs.Math.ListN.{length, length-append}
use Rattle.text.specs.Lines.{longest}
use Rattle.lines.specs.Listing.{width_of, each, lines_of, state_lines}
use Rattle.lines.specs.declared.Kind.{Kind}
use Rattle.lines.specs.declared.Kind.TheVariants.{Device, Endpoint, Packet, Event, Transaction, Group, Item, Link, Request}
use Rattle.parts.specs.Parts.{fitting, next_of, row_line, rows_of, state_row, state_rows, state_end, named_of}
use Rattle.parts.specs.Calls.{stop_of, bytes_of, number_of}

-- ---- one part

module _ (line : ℕ → List ℕ) where
  -- no more rows than there are
  choose_le : (b : Bool) (x n : ℕ) → x ≤ n → cond b (suc x) 0 ≤ suc n
  choose_le true x n h = omega arith
  choose_le false x n h = omega arith

  pub fitting_le : (room i count : ℕ) → fitting line room i count ≤ count
  unfolding fitting
  fitting_le room i zero = omega arith
  fitting_le room i (suc count) = choose_le (leb longest room) (fitting line (room - length (line i)) (i + 1) count) count (fitting_le (room - length (line i)) (i + 1) count)

  pub next_le : (n room from : ℕ) → from ≤ n → next_of line n room from ≤ n
  next_le n room from h = omega (arith, fitting_le room from (n - from))

  -- at row i of n: one row more where there is room for it
  pub fitting-more : (n room i : ℕ) → i < n → longest ≤ room → fitting line room i (n - i) ≡ suc (fitting line (room - length (line i)) (i + 1) (n - (i + 1)))
  unfolding fitting
  fitting-more n room i h r = let e : n - i ≡ suc (n - (i + 1)) = omega arith in rw (e, le-leb longest room r)

  pub fitting-short : (room i count : ℕ) → room < longest → fitting line room i count ≡ 0
  unfolding fitting
  fitting-short room i zero r = refl
  fitting-short room i (suc count) r = rw (lt-leb longest room r)

  pub fitting-none : (n room i : ℕ) → n ≤ i → fitting line room i (n - i) ≡ 0
  unfolding fitting
  fitting-none n room i h = let e : n - i ≡ 0 = omega arith in rw e

  -- a part that has room for a line goes on
  pub goes_on : (n room from : ℕ) → from < n → longest ≤ room → from < next_of line n room from
  goes_on n room from h r = omega (arith, fitting-more n room from h r)

  -- where no line is longer than the longest, the bytes of a part have room in the buffer
  fits_one :
      (b : Bool) (room i k : ℕ) → (b ≡ true → longest ≤ room) → length (line i) ≤ longest → length (each line (i + 1) k) ≤ room - length (line i)
      → length (each line i (cond b (suc k) 0)) ≤ room
  unfolding each
  fits_one true room i k h s r = let g = h refl in simp length-append (omega arith)
  fits_one false room i k h s r = omega arith

  pub fits : ((i : ℕ) → length (line i) ≤ longest) → (room i count : ℕ) → length (each line i (fitting line room i count)) ≤ room
  unfolding fitting each
  fits s room i zero = omega arith
  fits s room i (suc count) =
      fits_one (leb longest room) room i (fitting line (room - length (line i)) (i + 1) count) (leb-true longest room) (s i) (fits s (room - length (line i)) (i + 1) count)

  -- ---- parts behind each other

  each_join : (a b i : ℕ) → each line i (a + b) ≡ each line i a ++ each line (i + a) b
  unfolding each
  each_join zero b i = let e : i + 0 ≡ i = omega arith in let z : 0 + b ≡ b = omega arith in rw (e, z)
  each_join (suc a) b i =
      let e : suc a + b ≡ suc (a + b) = omega arith in
      let f : i + suc a ≡ i + 1 + a = omega arith in
      rw (e, f, each_join a b (i + 1), append_assoc)

  pub stop-from : (n : ℕ) (rooms : List ℕ) (from : ℕ) → from ≤ stop_of line n from rooms
  unfolding stop_of
  stop-from n [] from = omega arith
  stop-from n (room ∷ rooms) from = omega (arith, stop-from n rooms (next_of line n room from))

  -- the bytes of calls are the lines of the rows that they passed
  pub parts_are : (n : ℕ) (rooms : List ℕ) (from : ℕ) → bytes_of line n from rooms ≡ each line from (stop_of line n from rooms - from)
  unfolding stop_of bytes_of each
  parts_are n [] from = let e : from - from ≡ 0 = omega arith in rw e
  parts_are n (room ∷ rooms) from =
      let p = fitting line room from (n - from) in
      let s = stop_of line n (from + p) rooms in
      let e : s - from ≡ p + (s - (from + p)) = omega (arith, stop-from n rooms (from + p)) in
      rw (e, each_join p (s - (from + p)) from, parts_are n rooms (from + p))

  -- calls up to the last row are the whole
  pub whole : (n : ℕ) (rooms : List ℕ) → stop_of line n 0 rooms ≡ n → bytes_of line n 0 rooms ≡ each line 0 n
  whole n rooms h = let e : n - 0 ≡ n = omega arith in parts_are n rooms 0 ∙ rw (h, e)

  -- the same, where n is said by another name
  pub whole_of : (r n : ℕ) → r ≡ n → (rooms : List ℕ) → stop_of line r 0 rooms ≡ n → bytes_of line r 0 rooms ≡ each line 0 n
  whole_of r n q rooms h = whole r rooms (h ∙ sym q) ∙ ap (each line 0) q

-- ---- of a log that has the rows that are asked for

pub width_some : (kind : Kind) → 0 < width_of kind
width_some Device = omega arith
width_some Endpoint = omega arith
width_some Packet = omega arith
width_some Event = omega arith
width_some Transaction = omega arith
width_some Group = omega arith
width_some Item = omega arith
width_some Link = omega arith
width_some Request = omega arith

pub rows-there : (kind : Kind) (n : ℕ) (log : List ℕ) → n * width_of kind ≤ length log → rows_of kind n log ≡ n
rows-there kind n log h = omega (arith, (le-div_iff_mul-le (width_some kind)).1 h)

pub lines_are :
    (kind : Kind) (n : ℕ) (log : List ℕ) → n * width_of kind ≤ length log → (rooms : List ℕ) → stop_of (row_line kind log) (rows_of kind n log) 0 rooms ≡ n
    → bytes_of (row_line kind log) (rows_of kind n log) 0 rooms ≡ lines_of kind n log
unfolding lines_of
lines_are kind n log h rooms e = whole_of (row_line kind log) (rows_of kind n log) n (rows-there kind n log h) rooms e

states_by :
    (n : ℕ) (states : List ℕ) (m : ℕ) (statebytes : List ℕ) (r s : ℕ) → r ≡ n → s ≡ m → (rooms : List ℕ) → stop_of (state_row r states s statebytes) r 0 rooms ≡ n
    → bytes_of (state_row r states s statebytes) r 0 rooms ≡ state_lines n states m statebytes
unfolding state_lines
states_by n states m statebytes r s p q rooms e = whole_of (state_row r states s statebytes) r n p rooms e ∙ rw (p, q)

pub states_are :
    (n : ℕ) (states : List ℕ) (m : ℕ) (statebytes : List ℕ) → n ≤ length states → m ≤ length statebytes → (rooms : List ℕ)
    → stop_of (state_row (state_rows n states) states (state_end m statebytes) statebytes) (state_rows n states) 0 rooms ≡ n
    → bytes_of (state_row (state_rows n states) states (state_end m statebytes) statebytes) (state_rows n states) 0 rooms ≡ state_lines n states m statebytes
states_are n states m statebytes h g rooms e = states_by n states m statebytes (state_rows n states) (state_end m statebytes) (omega arith) (omega arith) rooms e

-- a kind goes by its log's number
pub named-kind : (kind : Kind) → named_of (number_of kind) ≡ Some kind
named-kind Device = refl
named-kind Endpoint = refl
named-kind Packet = refl
named-kind Event = refl
named-kind Transaction = refl
named-kind Group = refl
named-kind Item = refl
named-kind Link = refl
named-kind Request = refl
