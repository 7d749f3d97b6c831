use mathlib.Core.Bool.{false, ◌&&◌}
use mathlib.Core.Path.{◌≡◌}
use lib.Dec.{eqb}
use borrow.Author.Tests.{eq-eqb, ne_eqb}
use Rattle.usb.specs.Pid.{DATA0}
use Rattle.transaction.specs.Payload.{takes_setup, extract_payload}
use Rattle.transaction.proofs.payload.extract_payload.Goals as goal
use Rattle.transaction.proofs.payload.extract_payload.Goals.{Else-pid-eq-DATA0, else-pid-eq-DATA0-via-then-pid-eq-DATA0+else-takes_setup, else-pid-eq-DATA0-via-else-pid-eq-DATA0}

pub returns-then-takes_setup : goal.returns-then-takes_setup
unfolding extract_payload
returns-then-takes_setup c = simp (eq-eqb _ _ c.if-pid-eq-DATA0.true, ← c.takes_setup.ensures, c.if-takes_setup.true)

pub returns-then-yields : goal.returns-then-yields
unfolding extract_payload
returns-then-yields c =
    let h : (eqb c.args.pid DATA0 && takes_setup c.args.t.style) ≡ false = elim c.else-pid-eq-DATA0.branch [
      | else-pid-eq-DATA0-via-then-pid-eq-DATA0+else-takes_setup w ↦ simp (eq-eqb _ _ w.if-pid-eq-DATA0.true, ← w.takes_setup.ensures, w.if-takes_setup.false)
      | else-pid-eq-DATA0-via-else-pid-eq-DATA0 w ↦ simp (ne_eqb _ _ w.if-pid-eq-DATA0.false)
    ] in
    simp (h, ← c.yields.ensures, c.if-yields.true, c.payload_len.ensures)

pub returns-else-yields : goal.returns-else-yields
unfolding extract_payload
returns-else-yields c =
    let h : (eqb c.args.pid DATA0 && takes_setup c.args.t.style) ≡ false = elim c.else-pid-eq-DATA0.branch [
      | else-pid-eq-DATA0-via-then-pid-eq-DATA0+else-takes_setup w ↦ simp (eq-eqb _ _ w.if-pid-eq-DATA0.true, ← w.takes_setup.ensures, w.if-takes_setup.false)
      | else-pid-eq-DATA0-via-else-pid-eq-DATA0 w ↦ simp (ne_eqb _ _ w.if-pid-eq-DATA0.false)
    ] in
    simp (h, ← c.yields.ensures, c.if-yields.false)
