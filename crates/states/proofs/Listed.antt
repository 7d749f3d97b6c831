-- What specs/Whole.antt claims: of every sequence of calls, and of every run, since its calls are such a sequence.
use Prim.Native.Nat.{ℕ, ◌*◌}
use native.Mathlib.Omega.{arith}
use mathlib.Core.Bool.{Bool}
use mathlib.Core.List.{List, ◌∷◌, ◌++◌, []}
use mathlib.Core.Path.{◌≡◌, refl, sym, ap, subst}
use lib.ListN.{length, take}
use Rattle.endpoints.specs.Word as word
use Rattle.rows.proofs.WidthsLaws.{log-number}
use Rattle.rules.specs.Demand.{finishing}
use Rattle.rules.specs.Rows.{Row, log}
use Rattle.text.specs.Lines.{state_line}
use Rattle.trace.specs.declared.clock.Clock.{Clock}
use Rattle.record.specs.RoomLaws.{Within, all_held}
use Rattle.record.specs.declared.Counts.{Counts}
use Rattle.call.proofs.OutcomeLaws.{sound}
use Rattle.call.specs.State.{Logs, State, room_by, room_of}
use Rattle.lines.specs.Listing.{state_bytes, state_lines}
use Rattle.step.specs.Block.{Stand}
use Rattle.run.specs.Run.{Runs, Ran}
use Rattle.run.specs.Run.Runs.{ends, stops}
use Rattle.run.specs.Run.Ran.{wrong, refused, runs}
use Rattle.demands.specs.Sequence.{Sequence, made, then, Meets}
use Rattle.demands.proofs.Blocks.{block-sequence}
use Rattle.demands.proofs.Kept.{kept}
use Rattle.demands.proofs.Meets.{meets}
use Rattle.states.specs.Whole.{rows, bytes_at, Whole, Comes, ListedWhole}
use Rattle.states.proofs.Tiled.{Stepped, wider, stepped}
use Rattle.states.proofs.Sequences.{tiled}
use Rattle.states.proofs.Cuts as cuts

-- ---- a sequence

pub whole : {js : List Row} {s : State} → Sequence js s → Whole s
unfolding room_by state_lines
whole {js} {s} q =
    let h : Meets js s = meets q in
    let fits : Within s.decoder.counts (room_of s.logs) = subst (λ (n : Counts). Within n (room_of s.logs)) (all_held s.table s.decoder.counts (kept q).firsts) (sound s h.well).0.counts in
    let n = rows s in
    let m = s.decoder.counts.statebytes in
    let states = s.logs.states in
    let bytes = s.logs.statebytes in
    let by-words : n * 1 ≡ n = omega arith in
    let told : take n states ≡ log 8 js = subst (λ (x : ℕ). take x states ≡ log 8 js) by-words (h.told 8 (log-number 8 refl)) in
    let places : Stepped 0 128 (take n states ++ (m ∷ [])) = subst (λ (l : List ℕ). Stepped 0 128 (l ++ (m ∷ []))) (sym told) (stepped (wider fits.few_endpoints (tiled q))) in
    record {
      first = cuts.first n states m bytes fits.states fits.statebytes places;
      forward = cuts.forward n states m bytes fits.states fits.statebytes places;
      most = cuts.most n states m bytes fits.states fits.statebytes places;
      all = cuts.all n states m bytes fits.states fits.statebytes places;
      listed =
          cuts.each_same (λ i. state_line i (state_bytes n states m bytes i)) (λ i. state_line i (bytes_at s i)) n 0
          (λ i a b. ap (state_line i) (cuts.uncut n states m bytes fits.states fits.statebytes places i (omega arith)));
    }

-- ---- a run

-- its records are a block, and finish is one call more
records : {trace : List ℕ} {at a p : ℕ} {c : Clock} {s s' : Stand} → Comes s.state → Runs trace at c s a p s' → Comes s'.state
records q (ends x f) = let b = block-sequence q.sequence x in record { history = _; sequence = then finishing _ _ b.sequence f }
records q (stops x h) = let b = block-sequence q.sequence x in record { history = _; sequence = b.sequence }

pub comes : {high : Bool} {trace t : List ℕ} {l : Logs} {h : List ℕ} {a p : ℕ} {s : Stand} → length t ≡ word.table → Ran high trace t l h a p s → a ≡ 0 → Comes s.state
comes ht (wrong h) e = absurd (h e)
comes ht (refused h m n) e = absurd (n e)
comes ht (runs h m r) e = records (record { history = _; sequence = made refl ht m }) r

-- ---- both

pub listed-whole : ListedWhole
listed-whole = record { sequence = whole; comes = comes; run = λ ht r e. whole (comes ht r e).sequence }
