-- To be believed: a whole trace through the calls (01, "Trace and listing"): what its records give as one block. Words in quotation marks are those of 01.
-- Hold it to: 01, "Trace and listing": "Records are taken one at a time .."
use Rattle.std.specs.Prelude.{ℕ, Bool, true, List, ◌≡◌, length}
use Rattle.trace.specs.Clock.{stopped}
use Rattle.trace.specs.Trace.{header_of, header_answer, header_place}
use Rattle.trace.specs.declared.clock.Clock.{Clock}
use Rattle.call.specs.State.{Logs, State}
use Rattle.start.specs.Fresh.{Makes, unmade, no_devices}
use Rattle.events.specs.Call.{FinishCall}
use Rattle.step.specs.Block.{Stand, stand, Takes}

-- ---- the records from a place on

-- from the place `at` on, with this clock, on s: the run ends with the answer a at the place p, and leaves s'. Its records are a block (step, Block) in which typed-in details are obeyed (02, 13: "Old traces still hold such records"). At
-- the trace's end finish is called, at "the trace's length"; a record that is refused stops the run at "the record's offset in the trace"; "8 prints nothing and
-- the run goes on"
pub data Runs (trace : List ℕ) : ℕ → Clock → Stand → ℕ → ℕ → Stand → Type 0 where
  ends : {at n e a p : ℕ} {c c' : Clock} {s s' : Stand} {s'' : State}
      → Takes true trace at c s n e 0 p c' s'
      → FinishCall s'.state a s''
      → Runs trace at c s a (length trace) (stand s'' s'.shelf)
  stops : {at n e a p : ℕ} {c c' : Clock} {s s' : Stand} → Takes true trace at c s n e a p c' s' → (a ≡ 0 → ⊥) → Runs trace at c s a p s'

-- ---- the whole trace

-- a trace on this table, these logs and the shelf h, by a decoder in this mode (02, 6): the answer (0: finished), the place, and what is left. A wrong header leaves what a refused decoder leaves; a
-- decoder that can't be made is refused at 0 (docs/DECISIONS.md, 2); records start behind the header
pub data Ran (high : Bool) (trace t : List ℕ) (l : Logs) (h : List ℕ) : ℕ → ℕ → Stand → Type 0 where
  wrong : (header_answer (header_of trace) ≡ 0 → ⊥)
      → Ran high trace t l h (header_answer (header_of trace)) (header_place (header_of trace)) (stand (unmade no_devices t l) h)
  refused : {a : ℕ} {s : State} → header_answer (header_of trace) ≡ 0 → Makes high no_devices t l a s → (a ≡ 0 → ⊥) → Ran high trace t l h a 0 (stand s h)
  runs : {a p : ℕ} {s : State} {s' : Stand}
      → header_answer (header_of trace) ≡ 0
      → Makes high no_devices t l 0 s
      → Runs trace 5 stopped (stand s h) a p s'
      → Ran high trace t l h a p s'
