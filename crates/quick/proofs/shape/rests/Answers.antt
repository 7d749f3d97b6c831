use Rattle.std.proofs.Common.{rules}
use native.Mathlib.Omega.{arith}
use mathlib.Core.Bool.{Bool, ◌&&◌, not}
use mathlib.Core.Path.{◌≡◌, ap, ◌∙◌}
use Prim.Native.Nat.{ℕ}
use lib.Dec.{eqb}
use Rattle.usb.specs.Pid.{SOF}
use Rattle.details.specs.Kind.{Framing}
use Rattle.details.specs.declared.Detail.{Detail}
use Rattle.endpoints.specs.declared.Endpoint.{Endpoint}
use Rattle.transaction.specs.Payload.{start_pid}
use Rattle.transaction.specs.declared.Transaction.{Transaction}
use Rattle.group.specs.Step.{is_active}
use Rattle.rules.specs.World.{framing_ep}
use Rattle.quick.specs.Shaped.{rests_on}
use Rattle.quick.proofs.shape.rests.Goals as goal

parts : (t : Transaction) (old : Detail) {e f : Endpoint} {token : ℕ} {active : Bool} → token ≡ start_pid t.style → e ≡ f → active ≡ is_active e.phase
    → (eqb t.endpoint framing_ep && (eqb token SOF && (t.linked && (active && (e.done && (eqb e.last SOF && (not e.pending && eqb old.kind Framing)))))))
    ≡ rests_on t old f
parts t old {e} {f} e1 e2 e3 = let a = e3 ∙ ap (λ (x : Endpoint). is_active x.phase) e2 in
    λ i. eqb t.endpoint framing_ep && (eqb (e1 i) SOF && (t.linked && (a i && ((e2 i).done && (eqb (e2 i).last SOF && (not (e2 i).pending && eqb old.kind Framing))))))

pub returns : goal.returns
returns c = let a = c.args in parts a.t a.old c.start_pid-token.ensures c.load-e.ensures c.is_active-active.ensures
