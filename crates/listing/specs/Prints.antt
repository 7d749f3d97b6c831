-- To be believed: what the program `listing` prints for a trace (document 01, "Trace and listing"). Its sizes are those of docs/SIZES.md.
-- Assumes nothing.
-- Hold it to: 01, "Trace and listing": `refused N at B`, `too long`; 02, 13: "one last line, `details N`"; docs/SIZES.md
use Rattle.std.specs.Prelude.{ℕ, zero, suc, ◌+◌, ◌*◌, ◌≤◌, ◌<◌, Bool, List, ◌++◌, length, replicate}
use Rattle.endpoints.specs.Word as word
use Rattle.text.specs.Append.{Appended}
use Rattle.text.specs.Lines.{longest, details_line, refused_line}
use Rattle.text.specs.Words.{too_long}
use Rattle.record.specs.declared.Counts.{Counts}
use Rattle.call.specs.State.{Logs, logs, room_of}
use Rattle.trace.specs.Details.{details_of}
use Rattle.lines.specs.Listing.{listing, rows_of}
use Rattle.step.specs.Block.{Stand}
use Rattle.run.specs.Run.{Ran}

-- the longest trace that is read
abbrev pub most_input : ℕ
most_input = 16384

-- the endpoint table and the logs that the program lends: the rows of docs/SIZES.md by their words, all 0
abbrev pub no_table : List ℕ
no_table = replicate word.table 0

abbrev pub no_rows : Logs
no_rows =
    logs (replicate 8192 0) (replicate 64 0) (replicate 384 0) (replicate 1024 0) (replicate 256 0) (replicate 768 0) (replicate 960 0) (replicate 6144 0)
    (replicate 192 0) (replicate 192 0) (replicate 2304 0) (replicate 256 0)

-- and the shelf
abbrev pub no_shelf : List ℕ
no_shelf = replicate 524288 0

-- of a run that ended with this answer, at this place, of a trace with so many details, with these counts and logs: where it finished the listing, and (02, 13) the
-- last line `details N`; else "only the line `refused N at B`"
abbrev pub shown : ℕ → ℕ → ℕ → Counts → Logs → List ℕ
shown zero place details n l = listing n l ++ details_line details
shown (suc a) place details n l = refused_line (suc a) place

-- in the mode of 02, 6, or without it: a trace has no mark for it. "Input longer than the program's buffer prints only `too long`"
pub data Prints (high : Bool) (trace : List ℕ) : List ℕ → Type 0 where
  long : most_input < length trace → Prints high trace too_long
  runs : {answer place : ℕ} {s : Stand} → length trace ≤ most_input → Ran high trace no_table no_rows no_shelf answer place s
      → Prints high trace (shown answer place (details_of trace) s.state.decoder.counts s.state.logs)

-- the text is in the buffer, and the result is its length
pub record Printed (high : Bool) (trace before after : List ℕ) (end : ℕ) : Type 0 where
  pub text : List ℕ
  pub prints : Prints high trace text
  pub appended : Appended before 0 text after end
  pub within : end ≤ length before

-- a buffer for every text of a run on logs with that room: a line for each row, and one more, in which the title and the last line have room
abbrev pub text_room : Logs → ℕ
text_room l = (rows_of (room_of l) + 1) * longest
