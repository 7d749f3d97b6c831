-- Laws (proved): 01, well formed: a transaction lacks an endpoint exactly if it is a split without its token. Every call keeps it, where the special endpoints
-- stand (proofs/Tokened.antt).
use Rattle.std.specs.Prelude.{◌≡◌, ℕ, ◌≤◌}
use Rattle.transaction.specs.declared.Style.{Style}
use Rattle.transaction.specs.declared.Style.TheVariants.{Nothing, Simple, Split, Token}
use Rattle.rules.specs.World.{World}
use Rattle.rules.specs.declared.Slot.{Slot}
use Rattle.rules.specs.declared.Slot.TheVariants.{Empty, Current, Suspended}

-- endpoint 0 is none; Nothing is the style of no transaction
abbrev pub TokenedAt : Style → ℕ → Type 0
TokenedAt Nothing x = ⊥
TokenedAt (Simple pid) x = ¬ (x ≡ 0)
TokenedAt (Split sc kind) x = x ≡ 0
TokenedAt (Token sc kind pid) x = ¬ (x ≡ 0)

abbrev pub TokenedIn : Slot → Style → ℕ → Type 0
TokenedIn Empty s x = Unit {0}
TokenedIn Current s x = TokenedAt s x
TokenedIn Suspended s x = TokenedAt s x

abbrev pub Tokened : World → Type 0
Tokened w = TokenedIn w.slot w.transaction.style w.transaction.endpoint

-- the special endpoints are there, and the event endpoint has its number, which no token has
abbrev pub Stands : World → Type 0
Stands w = (3 ≤ w.count) × ((w.endpoints 0).address ≡ 0x10)
