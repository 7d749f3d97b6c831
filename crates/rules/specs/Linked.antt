-- Laws (proved): 01, well formed: a current or suspended transaction with an endpoint has its T link unless that endpoint's active group began with IN or OUT,
-- or that endpoint has neither an early nor an active group. Every call keeps it (proofs/Linked.antt).
use Rattle.std.specs.Prelude.{◌≡◌, Bool, true, false, ◌||◌, ℕ, eqb}
use Rattle.usb.specs.Pid.{IN, OUT}
use Rattle.transaction.specs.Table.{only, ◌or◌}
use Rattle.transaction.specs.declared.Transaction.{Transaction}
use Rattle.endpoints.specs.declared.Endpoint.{Endpoint}
use Rattle.endpoints.specs.declared.Phase.{Phase}
use Rattle.endpoints.specs.declared.Phase.TheVariants.{None, Early, Active, Ended}
use Rattle.rules.specs.World.{World}
use Rattle.rules.specs.declared.Slot.{Slot}
use Rattle.rules.specs.declared.Slot.TheVariants.{Empty, Current, Suspended}

-- by the phase, and the token that the active group began with
abbrev pub excused : Phase → ℕ → Bool
excused None first = true
excused Early first = false
excused Active first = (IN or only OUT) first
excused Ended first = true

-- endpoint 0 is none
abbrev pub linked_at : Transaction → (ℕ → Endpoint) → Bool
linked_at t f = eqb t.endpoint 0 || (t.linked || excused (f t.endpoint).phase (f t.endpoint).first)

abbrev pub LinkedIn : Slot → Transaction → (ℕ → Endpoint) → Type 0
LinkedIn Empty t f = Unit {0}
LinkedIn Current t f = linked_at t f ≡ true
LinkedIn Suspended t f = linked_at t f ≡ true

abbrev pub Linked : World → Type 0
Linked w = LinkedIn w.slot w.transaction w.endpoints
