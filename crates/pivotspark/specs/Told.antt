-- To be believed: what the entry for whole traces gives back and leaves.
-- Hold it to: ours: the C entry pivotspark_trace
use Rattle.std.specs.Prelude.{ℕ, ◌+◌, ◌*◌, ◌%◌, Bool, cond, not, List, ◌≡◌, eqb, leb, length}
use Rattle.std.proofs.lemmas.List.Edits.{sets}
use Rattle.record.specs.declared.Counts.{Counts}
use Rattle.call.specs.State.{Logs, count_words}
use Rattle.step.specs.Block.{Stand}
use Rattle.run.specs.Run.{Ran}

-- the mode for high-bandwidth isochronous data (02, 6), as a byte: any but 0 is on
abbrev pub is_on : ℕ → Bool
is_on mode = not (eqb mode 0)

-- the answer in the top byte, the place below it
abbrev pub told : ℕ → ℕ → ℕ
told answer place = 72057594037927936 * answer + place % 72057594037927936

-- the record's counts, stored from the start of the words lent for them; where those are fewer than twelve, all stay as they were
unfoldable pub counted : List ℕ → Counts → List ℕ
counted l n = cond (leb 12 (length l)) (sets l 0 (count_words n)) l

-- the trace is run in this mode on this table, these logs and the shelf h, with the words `counts` lent for the counts; the call gives back r and leaves t', l', h' and counts'
pub record Told (high : Bool) (trace t : List ℕ) (l : Logs) (h counts : List ℕ) (r : ℕ) (t' : List ℕ) (l' : Logs) (h' counts' : List ℕ) : Type 0 where
  pub answer : ℕ
  pub place : ℕ
  pub final : Stand
  pub ran : Ran high trace t l h answer place final
  pub result : r ≡ told answer place
  pub table : t' ≡ final.state.table
  pub logs : l' ≡ final.state.logs
  pub shelf : h' ≡ final.shelf
  pub counted : counts' ≡ counted counts final.state.decoder.counts
