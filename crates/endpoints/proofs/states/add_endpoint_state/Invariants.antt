use Prim.Native.Nat.{◌+◌, ◌-◌}
use mathlib.Core.Path.{◌≡◌}
use lib.ListN.{length}
use lib.Seq.{sets}
use Rattle.endpoints.specs.Each.{each, state_word, next_states, state_bytes}
use Rattle.endpoints.specs.Word as word
use Rattle.endpoints.proofs.Turns.{row_from}
use Rattle.endpoints.proofs.states.add_endpoint_state.Given as goal

abbrev pub invariant-loop-i : goal.invariant-loop-i
invariant-loop-i l = (length l.log ≡ length l.initial.log)
    × ((length l.table ≡ word.table)
    × ((next_states l.initial.table l.n l.endpoint l.start ≡ each word.state (state_word l.endpoint l.start) l.table l.i (l.n - l.i))
    × (sets l.initial.log l.at (state_bytes (next_states l.initial.table l.n l.endpoint l.start) 0 l.n) ≡ sets l.log (l.at + l.i) (row_from l.endpoint l.start l.table l.i (l.n - l.i)))))
