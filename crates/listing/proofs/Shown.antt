-- What is shown of a run: room for it, and that it is what the specification shows.
-- Assumes nothing.
use Prim.Native.Nat.{ℕ, zero, suc, ◌+◌, ◌*◌, ◌≤◌, ◌<◌}
use native.Mathlib.Omega.{arith}
use mathlib.Core.Bool.{Bool}
use mathlib.Core.List.{List, ◌++◌}
use mathlib.Core.Path.{◌≡◌, refl, sym, ap, subst}
use lib.ListN.{length, replicate, length-append, length-replicate}
use Rattle.text.specs.Append.{Room, Appended}
use Rattle.text.specs.Lines.{longest, details_line, refused_line}
use Rattle.text.proofs.Lengths.{details-fits, refused-fits}
use Rattle.text.specs.Words.{too_long}
use Rattle.record.specs.RoomLaws.{Within}
use Rattle.record.specs.declared.Counts.{Counts}
use Rattle.call.specs.State.{Logs, State, room_by, room_of}
use Rattle.trace.specs.Details.{details_of}
use Rattle.lines.specs.Listing.{listing, Counted, rows_of}
use Rattle.lines.proofs.ListingLaws.{counted, listing-fits, listed, listing-listed}
use Rattle.step.specs.Block.{Stand}
use Rattle.run.specs.Run.{Ran}
use Rattle.listing.specs.Prints.{most_input, no_table, no_rows, no_shelf, shown, Prints, Printed, text_room}
use Rattle.listing.specs.Shows.{Listable, Shows}
use Rattle.listing.proofs.PrintsLaws.{ran_within}

-- by the answer
pub refusal : (a p k : ℕ) (n : Counts) (l : Logs) → (a ≡ 0 → ⊥) → shown a p k n l ≡ refused_line a p
refusal zero p k n l ne = absurd (ne refl)
refusal (suc a) p k n l ne = refl

pub finish : (a p k : ℕ) (n : Counts) (l : Logs) → a ≡ 0 → shown a p k n l ≡ listing n l ++ details_line k
finish zero p k n l e = refl
finish (suc a) p k n l e = absurd (omega arith)

-- as `report` has the logs
shown-listed : (a p k : ℕ) (n : Counts) (l : Logs) → shown a p k n (listed l) ≡ shown a p k n l
shown-listed zero p k n l = ap (λ (x : List ℕ). x ++ details_line k) (listing-listed n l)
shown-listed (suc a) p k n l = refl

rows_within : (n room : Counts) → Within n room → rows_of n ≤ rows_of room
rows_within n room w = omega arith

shown-fits : (a p k : ℕ) (n : Counts) (l l₀ : Logs) → (a ≡ 0 → Within n (room_of l₀)) → length (shown a p k n l) ≤ text_room l₀
shown-fits zero p k n l l₀ h = omega (arith, length-append (listing n l) (details_line k), listing-fits n l, details-fits k, rows_within n (room_of l₀) (h refl))
shown-fits (suc a) p k n l l₀ h = omega (arith, refused-fits (suc a) p)

module _ {high : Bool} {trace t : List ℕ} {l : Logs} {h : List ℕ} {a p : ℕ} {q : Stand} (ran : Ran high trace t l h a p q) {k : ℕ} (e : k ≡ details_of trace) where
  abbrev s : State
  s = q.state

  pub has-rows : Listable a s.decoder.counts (listed s.logs)
  has-rows z = counted s.decoder.counts s.logs (ran_within ran z)

  -- on logs as long as those that the run began with
  pub text-room : (out : List ℕ) → room_of s.logs ≡ room_of l → text_room l ≤ length out → Room out 0 (shown a p k s.decoder.counts (listed s.logs))
  text-room out r u =
      omega (arith, shown-fits a p k s.decoder.counts (listed s.logs) l (λ z. subst (Within s.decoder.counts) r (ran_within ran z)))

  pub shows :
      {before after : List ℕ} {end : ℕ}
      → Room before 0 (shown a p k s.decoder.counts (listed s.logs))
      → Appended before 0 (shown a p k s.decoder.counts (listed s.logs)) after end
      → Shows high trace t l h before after end
  shows {before} {after} {end} r x =
      record {
        answer = a;
        place = p;
        final = q;
        ran = ran;
        appended =
            subst (λ (m : ℕ). Appended before 0 (shown a p m s.decoder.counts s.logs) after end) e
            (subst (λ (text : List ℕ). Appended before 0 text after end) (shown-listed a p k s.decoder.counts s.logs) x);
        within = omega (arith, x.place);
      }

-- ---- the program's own logs

-- n zeros are as many
pub zeros : (n : ℕ) → n ≡ length (replicate {A = ℕ} n 0)
zeros n = sym (length-replicate {A = ℕ} n 0)

pub own_room : text_room no_rows ≡ 379548
unfolding room_by
own_room = refl

pub too-long :
    {high : Bool} {trace before after : List ℕ} {end : ℕ}
    → most_input < length trace
    → text_room no_rows ≤ length before
    → Appended before 0 too_long after end
    → Printed high trace before after end
too-long h r x = record { text = too_long; prints = Prints.long h; appended = x; within = omega (arith, own_room, x.place) }

pub printed : {high : Bool} {trace before after : List ℕ} {end : ℕ} → length trace ≤ most_input → Shows high trace no_table no_rows no_shelf before after end → Printed high trace before after end
printed {trace} h x =
    record {
      text = shown x.answer x.place (details_of trace) x.final.state.decoder.counts x.final.state.logs;
      prints = Prints.runs h x.ran;
      appended = x.appended;
      within = x.within;
    }
