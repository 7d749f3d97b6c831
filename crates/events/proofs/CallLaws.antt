-- Laws (proved): any two outcomes that the contracts of the event call and of finish permit coincide (01, "What the contracts owe us").
use Rattle.std.specs.Prelude.{ℕ, ◌≡◌}
use Rattle.call.proofs.OutcomeLaws.{unique}
use Rattle.call.specs.State.{State}
use Rattle.events.specs.Call.{EventCall, FinishCall}

pub event_unique : (kind code time : ℕ) (s : State) {a b : ℕ} {s' s'' : State}
    → EventCall kind code time s a s' → EventCall kind code time s b s'' → (a ≡ b) × (s' ≡ s'')
event_unique kind code time s x y = unique x y

pub finish_unique : (s : State) {a b : ℕ} {s' s'' : State} → FinishCall s a s' → FinishCall s b s'' → (a ≡ b) × (s' ≡ s'')
finish_unique s x y = unique x y
