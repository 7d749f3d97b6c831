-- Laws (proved): as many calls with room as there are rows come to the end; and calls to the end of each kind are the whole listing. They rest on
-- specs/PartsLaws, whose statements wrong programs change, and stand here so that such an edit can be read.
use Prim.Native.Nat.{ℕ, suc, ◌+◌, ◌*◌, ◌≤◌}
use native.Mathlib.Omega.{arith}
use Rattle.std.specs.Prelude.{Bool, ◌≡◌, ltb}
use Rattle.std.proofs.Math.Bool.{true, false}
use Rattle.std.proofs.Math.Path.{refl}
use mathlib.Core.List.{List, [], ◌∷◌, ◌++◌}
use borrow.Author.Tests.{ltb-true, ltb-false}
use Rattle.std.proofs.Math.ListN.{length}
use Rattle.rows.proofs.WidthsLaws.{log-number}
use Rattle.text.specs.Words.{title}
use Rattle.text.specs.Lines.{longest}
use Rattle.record.specs.declared.Counts.{Counts}
use Rattle.call.specs.State.{Logs, log_at, count_at}
use Rattle.lines.specs.Listing.{width_of, lines_of, state_lines, listing, Counted}
use Rattle.lines.specs.declared.Kind.{Kind}
use Rattle.lines.specs.declared.Kind.TheVariants.{Device, Endpoint, Packet, Event, Transaction, Group, Item, Link, Request}
use Rattle.parts.specs.Parts.{next_of, state_rows}
use Rattle.parts.specs.Calls.{stop_of, bytes_of, Roomy, one, number_of, Ended, bytes_by, states_line, in_parts}
use Rattle.parts.specs.PartsLaws.{goes_on, next_le, lines_are, states_are}

module _ (line : ℕ → List ℕ) where
  -- as many calls with room for a line as there are rows come to the last row
  further : (n room from k : ℕ) → longest ≤ room → n ≤ from + suc k → n ≤ next_of line n room from + k
  further n room from k r l = by (ltb from n) refl
    where
      by : (b : Bool) → ltb from n ≡ b → n ≤ next_of line n room from + k
      by true e = omega (arith, goes_on line n room from (ltb-true from n e) r)
      by false e = omega (arith, ltb-false from n e)

  pub ends : (n : ℕ) (rooms : List ℕ) (from : ℕ) → Roomy rooms → from ≤ n → n ≤ from + length rooms → stop_of line n from rooms ≡ n
  unfolding stop_of
  ends n [] from r h l = omega arith
  ends n (room ∷ rooms) from (one q r) h l = ends n rooms (next_of line n room from) r (next_le line n room from h) (further n room from (length rooms) q l)

-- ---- the whole listing

counted-kind : (n : Counts) (l : Logs) → Counted n l → (kind : Kind) → count_at (number_of kind) n * width_of kind ≤ length (log_at (number_of kind) l)
counted-kind n l h Device = h 1 (omega arith) (log-number 1 refl)
counted-kind n l h Endpoint = h 2 (omega arith) (log-number 2 refl)
counted-kind n l h Packet = h 3 (omega arith) (log-number 3 refl)
counted-kind n l h Event = h 4 (omega arith) (log-number 4 refl)
counted-kind n l h Transaction = h 5 (omega arith) (log-number 5 refl)
counted-kind n l h Group = h 6 (omega arith) (log-number 6 refl)
counted-kind n l h Item = h 9 (omega arith) (log-number 9 refl)
counted-kind n l h Link = h 10 (omega arith) (log-number 10 refl)
counted-kind n l h Request = h 11 (omega arith) (log-number 11 refl)

-- calls to the end of each kind make the listing
module _ (n : Counts) (l : Logs) (rooms : ℕ → List ℕ) (h : Counted n l) (e : Ended n l rooms) where
  kind_are : (kind : Kind) → bytes_by n l rooms kind ≡ lines_of kind (count_at (number_of kind) n) (log_at (number_of kind) l)
  kind_are kind = lines_are kind (count_at (number_of kind) n) (log_at (number_of kind) l) (counted-kind n l h kind) (rooms (number_of kind)) (e.kinds kind)

  states-all : bytes_of (states_line n l rooms) (state_rows n.states l.states) 0 (rooms 8) ≡ state_lines n.states l.states n.statebytes l.statebytes
  states-all =
      states_are n.states l.states n.statebytes l.statebytes (omega (arith, h 8 (omega arith) (log-number 8 refl))) (omega (arith, h 7 (omega arith) (log-number 7 refl)))
      (rooms 8)
      e.states

  pub in-parts : in_parts n l rooms ≡ listing n l
  unfolding in_parts listing
  in-parts =
      λ i. title
      ++ (kind_are Device i
      ++ (kind_are Endpoint i
      ++ (kind_are Packet i
      ++ (kind_are Event i
      ++ (kind_are Transaction i
      ++ (kind_are Group i
      ++ (states-all i
      ++ (kind_are Item i
      ++ (kind_are Link i
      ++ kind_are Request i)))))))))
