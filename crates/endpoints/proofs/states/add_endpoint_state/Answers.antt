use Rattle.std.proofs.Common.{rules, suc, ◌+◌, arith, ◌≡◌, refl, ap, ◌∙◌}
use Rattle.std.proofs.lemmas.List.{length-set}
use Rattle.std.proofs.lemmas.List.Edits.{sets}
use Rattle.endpoints.specs.Each.{state_word}
use Rattle.endpoints.specs.Word as word
use Rattle.endpoints.proofs.Turns.{each_next, row-turn}
use Rattle.endpoints.proofs.states.add_endpoint_state.Goals as goal

pub loop-i-preserved : goal.loop-i-preserved
loop-i-preserved c =
    let s = c.args in
    let l = c.loop-i in
    let h = c.loop-i-test.true in
    let e : s.at + (l.i + 1) ≡ suc (s.at + l.i) = omega arith in (
      simp length-set (omega arith),
      (
        simp length-set (omega arith),
        (
          l.invariant.1.1.0 ∙ each_next l.table _ _ h word.state _ (state_word s.endpoint s.start) c.next_state-state.ensures,
          l.invariant.1.1.1
              ∙ ap (sets l.log (s.at + l.i)) (row-turn l.table s.n l.i s.endpoint s.start _ h (search rules) l.invariant.1.0 c.next_state-state.ensures)
              ∙ rw e refl,
        ),
      ),
    )
