-- Laws (proved): state rows are listed whole. `list` does not believe the numbers in a lent log, and cuts a state row by them (lines, specs/Listing.antt:
-- `start_of`, `size_of`). The claim is that no sequence of calls, and no run, comes to these limits: `listed-whole : ListedWhole` (proofs/Listed.antt).
use Rattle.std.specs.Prelude.{ℕ, ◌+◌, ◌≤◌, ◌<◌, Bool, cond, List, ◌≡◌, ltb, length, take, get_or}
use Rattle.std.proofs.Math.Seq.{slice}
use Rattle.endpoints.specs.Word as word
use Rattle.rules.specs.Rows.{Row}
use Rattle.text.specs.Lines.{state_line}
use Rattle.record.specs.Room.{most_endpoints}
use Rattle.call.specs.State.{Logs, State}
use Rattle.lines.specs.Listing.{each, state_lines}
use Rattle.step.specs.Block.{Stand}
use Rattle.run.specs.Run.{Ran}
use Rattle.demands.specs.Sequence.{Sequence}

-- ---- a state row as 01 means it: its bytes from its start to the next row's start

abbrev pub rows : State → ℕ
rows s = s.decoder.counts.states

-- row i's start is word i of the log
abbrev pub start_at : State → ℕ → ℕ
start_at s i = get_or s.logs.states i 0

-- it ends where the next row starts, the last one where the state bytes end
abbrev pub end_at : State → ℕ → ℕ
end_at s i = cond (ltb (i + 1) (rows s)) (start_at s (i + 1)) s.decoder.counts.statebytes

-- the bytes between the two
abbrev pub bytes_at : State → ℕ → List ℕ
bytes_at s i = slice (start_at s i) (end_at s i) s.logs.statebytes

-- and the lines that list them all
abbrev pub whole_lines : State → List ℕ
whole_lines s = each (λ i. state_line i (bytes_at s i)) 0 (rows s)

-- ---- the claim, of a state

pub record Whole (s : State) : Type 0 where
  -- the first row starts with the first state byte
  pub first : 0 < rows s → start_at s 0 ≡ 0
  -- no row ends before its start, and none has more bytes than there may be endpoints
  pub forward : (i : ℕ) → i < rows s → start_at s i ≤ end_at s i
  pub most : (i : ℕ) → i < rows s → end_at s i ≤ start_at s i + most_endpoints
  -- the rows' bytes, one row behind the other, are the state bytes: none is left out, and none is listed twice
  pub all : each (bytes_at s) 0 (rows s) ≡ take s.decoder.counts.statebytes s.logs.statebytes
  -- what the listing has for them is uncut
  pub listed : state_lines (rows s) s.logs.states s.decoder.counts.statebytes s.logs.statebytes ≡ whole_lines s

-- ---- of every sequence of calls, and of every run

-- a sequence of calls (demands, Sequence) leaves the state s
pub record Comes (s : State) : Type 0 where
  pub history : List Row
  pub sequence : Sequence history s

pub record ListedWhole : Type 0 where
  pub sequence : {js : List Row} {s : State} → Sequence js s → Whole s
  -- a run that finished is such a sequence, so what is listed of it is whole; the table has its 2,704 words, as the program's has
  pub comes : {high : Bool} {trace t : List ℕ} {l : Logs} {h : List ℕ} {a p : ℕ} {s : Stand} → length t ≡ word.table → Ran high trace t l h a p s → a ≡ 0 → Comes s.state
  pub run : {high : Bool} {trace t : List ℕ} {l : Logs} {h : List ℕ} {a p : ℕ} {s : Stand} → length t ≡ word.table → Ran high trace t l h a p s → a ≡ 0 → Whole s.state
