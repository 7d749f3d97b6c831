-- Laws (proved): what a tally asks of the steps that it counts: each finds its endpoint there, in a phase that its update suits.
use Rattle.std.specs.Prelude.{ℕ, ◌<◌, ◌≤◌, Bool, true, false, not, List, ◌≡◌}
use Rattle.endpoints.specs.Phases.{count}
use Rattle.endpoints.specs.declared.Endpoint.{Endpoint}
use Rattle.group.specs.Step.{is_active}
use Rattle.group.specs.declared.Effect.TheVariants.{NoEffect}
use Rattle.rules.specs.World.{World, phase, with_transaction}
use Rattle.tally.specs.Tally.{Suits, phase_after}
use Rattle.plan.specs.Sound.{world1, world2, world3, world4}
use Rattle.plan.specs.Step.{opened}
use Rattle.plan.specs.declared.Begin.{Begin}
use Rattle.plan.specs.declared.End.{End}
use Rattle.plan.specs.declared.Ending.{Ending}
use Rattle.plan.specs.declared.Plan.{Plan}

pub record BeginSuits (id : ℕ) (s : Begin) (w : World) : Type 0 where
  pub there : s.transaction.endpoint < (opened id s w).count
  pub suits : Suits s.update (phase s.transaction.endpoint (opened id s w))

-- the entry that group_status leaves has the phase that the endpoint has by then
pub record EndSuits (x : ℕ) (s : End) (w : World) : Type 0 where
  pub there : x < w.count
  pub phase : s.entry.phase ≡ phase x w
  pub suits : Suits s.update s.entry.phase

pub record PlanSuits (p : Plan) (packet : List ℕ) (time : ℕ) (w : World) : Type 0 where
  pub still : p.resume.endpoint ≡ false
  pub resume : p.resumes ≡ true → BeginSuits w.packets p.resume (world1 packet time w)
  pub end : p.ends ≡ true → EndSuits p.old p.end (with_transaction p.brought (world2 p packet time w))
  pub begin : BeginSuits w.packets p.begin (world3 p packet time w)
  pub close : p.closes ≡ true → EndSuits p.begin.transaction.endpoint p.close (world4 p packet time w)

abbrev pub EndingSuits : Ending → World → Type 0
EndingSuits e w = e.ends ≡ true → EndSuits e.old e.end w

-- of the byte totals: the old transaction's end adds nothing, and an entry that group_status leaves has its endpoint's total
pub record PlanTotals (p : Plan) (packet : List ℕ) (time : ℕ) (w : World) : Type 0 where
  pub quiet : p.ends ≡ true → p.end.effect ≡ NoEffect
  pub end : p.ends ≡ true → p.end.entry.total ≡ ((world2 p packet time w).endpoints p.old).total
  pub there : p.closes ≡ true → p.begin.transaction.endpoint < (world4 p packet time w).count
  pub close : p.closes ≡ true → p.close.entry.total ≡ ((world4 p packet time w).endpoints p.begin.transaction.endpoint).total

pub record EndingTotals (e : Ending) (w : World) : Type 0 where
  pub quiet : e.ends ≡ true → e.end.effect ≡ NoEffect
  pub end : e.ends ≡ true → e.end.entry.total ≡ (w.endpoints e.old).total

-- how many groups are active
abbrev pub active_in : (ℕ → Endpoint) → ℕ → Bool
active_in f j = is_active (f j).phase

abbrev pub actives_of : World → ℕ
actives_of w = count (active_in w.endpoints) 0 w.count

-- the old endpoint's group is active after the end unless that ended it
abbrev pub EndingActs : Ending → Type 0
EndingActs e = e.ends ≡ true → is_active (phase_after e.end.update e.end.entry.phase) ≡ not e.end.update.end

-- no byte total passes 2^64 - 1
abbrev pub Totalled : World → Type 0
Totalled w = (i : ℕ) → i < w.count → (w.endpoints i).total ≤ 18446744073709551615
