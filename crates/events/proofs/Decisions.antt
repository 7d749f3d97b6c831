-- What deciding an event leans on: few groups are active, and the sum is that of the parts decided.
use Prim.Native.Nat.{ℕ, ◌≤◌}
use native.Mathlib.Omega.{arith}
use mathlib.Core.List.{List}
use mathlib.Core.Path.{◌≡◌, refl, sym, ap, ◌∙◌}
use mathlib.Core.Bool.{Bool, true, false, true≢false}
use Rattle.std.specs.Prelude.{Option, Some, None}
use Rattle.endpoints.specs.Phases.{in_phase}
use Rattle.endpoints.specs.Each.{active}
use Rattle.endpoints.specs.Word as word
use Rattle.details.specs.declared.Device.{Device}
use Rattle.rules.specs.Events.{Act, turn_of}
use Rattle.record.specs.Room.{held_of}
use Rattle.record.specs.World.{world_of}
use Rattle.record.specs.declared.Counts.{Counts}
use Rattle.record.specs.declared.Decoder.{Decoder}
use Rattle.plan.specs.Ending.{ending_of}
use Rattle.plan.specs.declared.Ending.{Ending}
use Rattle.tally.specs.declared.add.Tally.{Tally}
use Rattle.tally.proofs.Formed.{count_few}
use Rattle.events.specs.After.{resets_by, sum_then, sum_by, sum_of, event_tally}
use Rattle.events.specs.declared.sum.Sum.{Sum}

pub few-active : (t : List ℕ) (n : ℕ) → n ≤ 128 → active t n ≤ 128
few-active t n h = let c = count_few (in_phase word.Active t) n 0 in omega (arith, c)

-- a sum is there where there is room, and says what follows
abbrev is_there : Option Sum → Bool
is_there (Some z) = true
is_there None = false

abbrev some_or : Sum → Option Sum → Sum
some_or s (Some z) = z
some_or s None = s

pub none-by : (b : Bool) (n : Counts) (t : Tally) → None ≡ sum_by b n t → b ≡ false
none-by true n t e = absurd (true≢false (sym (ap is_there e)))
none-by false n t e = refl

pub some-by : (b : Bool) (n : Counts) (t : Tally) {z : Sum} → Some z ≡ sum_by b n t → (b ≡ true) × (z ≡ sum_then n t)
some-by true n t {z} e = (refl, ap (some_or z) e)
some-by false n t e = absurd (true≢false (ap is_there e))

pub sum_is : (d : Decoder) (v : List Device) (t : List ℕ) (kind : ℕ) (room : Counts) (e : Ending) (a : Act) (k : ℕ) (r : Option Sum)
    → e ≡ ending_of (world_of d v t) → a ≡ (turn_of d.event kind).act → k ≡ active t d.counts.endpoints → {held : Counts} → held ≡ held_of t d.counts
    → r ≡ sum_of held d.counts (event_tally (resets_by kind) d e a k) room
    → r ≡ sum_of (held_of t d.counts) d.counts (event_tally (resets_by kind) d (ending_of (world_of d v t)) (turn_of d.event kind).act (active t d.counts.endpoints)) room
sum_is d v t kind room e a k r p q z {held} g h =
    h ∙ ap (λ (x : Counts). sum_of x d.counts (event_tally (resets_by kind) d e a k) room) g
    ∙ ap (λ (x : Ending). sum_of (held_of t d.counts) d.counts (event_tally (resets_by kind) d x a k) room) p
    ∙ ap (λ (x : Act). sum_of (held_of t d.counts) d.counts (event_tally (resets_by kind) d (ending_of (world_of d v t)) x k) room) q
    ∙ ap (λ (x : ℕ). sum_of (held_of t d.counts) d.counts (event_tally (resets_by kind) d (ending_of (world_of d v t)) (turn_of d.event kind).act x) room) z
