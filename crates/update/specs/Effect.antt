-- Inner (cited by private contracts alone): what group_status has as its effect, on the endpoint's entry (document 000, group_update; rules, effect_step).
use Rattle.std.specs.Prelude.{ℕ, ◌+◌, Bool, false, nat_lt}
use Rattle.endpoints.specs.declared.Endpoint.{Endpoint}
use Rattle.group.specs.declared.Effect.{Effect}
use Rattle.group.specs.declared.Effect.TheVariants.{NoEffect, NewDevice, Request, PendingData, IndexData}
use Rattle.rules.specs.World.{with_pending, with_total}

-- 01, answer 9: the endpoint's byte total would pass 2^64 - 1
abbrev pub passes : Effect → ℕ → Bool
passes NoEffect total = false
passes (NewDevice address) total = false
passes (Request n) total = false
passes (PendingData n) total = false
passes (IndexData n waited i) total = nat_lt 18446744073709551615 (total + n)

-- the entry after it, of a transaction with this T row
abbrev pub effect_entry : Effect → Endpoint → ℕ → Endpoint
effect_entry NoEffect e link = e
effect_entry (NewDevice address) e link = e
effect_entry (Request n) e link = e
effect_entry (PendingData n) e link = with_pending n link e
effect_entry (IndexData n waited i) e link = with_total (e.total + n) e
