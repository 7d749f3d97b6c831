-- Laws (proved): any two outcomes that the packet call's contract permits coincide (01, "What the contracts owe us"), and a refused packet leaves all as it was.
use Rattle.std.specs.Prelude.{ℕ, Bool, false, cond, List, ◌≡◌}
use Rattle.std.proofs.Common.{sym, ap, ◌∙◌}
use Rattle.call.specs.Outcome.{accepts}
use Rattle.call.proofs.OutcomeLaws.{unique}
use Rattle.call.specs.State.{State}
use Rattle.packet.specs.Call.{after, PacketCall}

pub packet_unique : (packet : List ℕ) (time : ℕ) (s : State) (h : List ℕ) {a b : ℕ} {s' s'' : State} {h' h'' : List ℕ}
    → PacketCall packet time s h a s' h' → PacketCall packet time s h b s'' h'' → (a ≡ b) × ((s' ≡ s'') × (h' ≡ h''))
packet_unique packet time s h x y =
    let u = unique x.answers y.answers in
    (u.0, (u.1, x.shelf ∙ ap (λ (n : ℕ). cond (accepts n) (after packet time s h).shelf h) u.0 ∙ sym y.shelf))

-- the shelf too
pub packet-kept : (packet : List ℕ) (time : ℕ) (s : State) (h : List ℕ) {a : ℕ} {s' : State} {h' : List ℕ} → PacketCall packet time s h a s' h' → accepts a ≡ false → (s' ≡ s) × (h' ≡ h)
packet-kept packet time s h x e =
    (x.answers.kept (ap accepts (sym x.answers.answer) ∙ e), x.shelf ∙ ap (λ (b : Bool). cond b (after packet time s h).shelf h) e)
