-- Laws (proved): demand 3 on the rules alone: every sequence of calls that are not refused, and the claim on marks and on links (proofs/Demand.antt and
-- proofs/Links.antt prove it). demands, Sequence says it of the logs.
use Rattle.std.specs.Prelude.{Bool, List, [], ◌++◌, ℕ, length}
use Rattle.rules.specs.Demand.{Call, Demand3, call, links_of}
use Rattle.rules.specs.Rows.{Row, log}
use Rattle.rules.specs.World.{World, with_journal}
use Rattle.rules.specs.Decoder.{fresh}
use Rattle.rules.specs.Marks.{marks, starts, closings}

-- the rows of all calls in one mode (02, 6), the newest first, and the world that they leave. Each call begins with an empty journal; a refused call is no step
pub data Reach (high : Bool) : List Row → World → Type 0 where
  begin : Reach high fresh.journal fresh
  next : {js : List Row} {w : World} (k : Call) → Reach high js w → Reach high ((call high k (with_journal [] w)).journal ++ js) (call high k (with_journal [] w))

-- the claim, on the marks of every endpoint but the event endpoint
abbrev pub OnMarks : ℕ → List Row → Type 0
OnMarks e js = Demand3 (starts (marks e js)) (closings (marks e js)) (marks e js)

-- the claim on its G rows and E rows in the link log
abbrev pub OnLinks : ℕ → List Row → Type 0
OnLinks e js = Demand3 (length (links_of 1 e (log 10 js))) (links_of 3 e (log 10 js)) (marks e js)
