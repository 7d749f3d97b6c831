-- Inner (cited by private contracts alone): what `report` and `shown` ask and leave: a run on a table and logs that a caller lent.
use Rattle.std.specs.Prelude.{ℕ, ◌≤◌, Bool, List, ◌≡◌, length}
use Rattle.text.specs.Append.{Appended}
use Rattle.record.specs.declared.Counts.{Counts}
use Rattle.call.specs.State.{Logs}
use Rattle.trace.specs.Details.{details_of}
use Rattle.lines.specs.Listing.{Counted}
use Rattle.step.specs.Block.{Stand}
use Rattle.run.specs.Run.{Ran}
use Rattle.listing.specs.Prints.{shown}

-- a run on a table, logs and a shelf that a caller lent, and the text of it; its end is within the buffer
pub record Shows (high : Bool) (trace t : List ℕ) (l : Logs) (h before after : List ℕ) (end : ℕ) : Type 0 where
  pub answer : ℕ
  pub place : ℕ
  pub final : Stand
  pub ran : Ran high trace t l h answer place final
  pub appended : Appended before 0 (shown answer place (details_of trace) final.state.decoder.counts final.state.logs) after end
  pub within : end ≤ length before

-- what `report` asks of the logs: where there is a listing, they have the rows that are counted
abbrev pub Listable : ℕ → Counts → Logs → Type 0
Listable answer n l = answer ≡ 0 → Counted n l
