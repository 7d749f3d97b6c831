-- Inner (cited by private contracts alone): what carrying a step out asks of it and of the world before it: numbers in their ranges.
use Rattle.std.specs.Prelude.{ℕ, ◌+◌, ◌^◌, ◌<◌, ◌≤◌, Bool, true, false, ◌≡◌, List}
use Rattle.rows.specs.One.{one}
use Rattle.endpoints.proofs.TableLaws.{Fits}
use Rattle.transaction.specs.Payload.{start_pid}
use Rattle.transaction.specs.Table.{pick}
use Rattle.rules.specs.World.{World, with_transaction, ◌▷◌}
use Rattle.update.specs.Effect.{passes}
use Rattle.update.specs.Update.{when}
use Rattle.update.specs.declared.Update.{Update}
use Rattle.plan.specs.Packet.{with_packet}
use Rattle.plan.specs.Step.{opened, begun, ended}
use Rattle.plan.specs.declared.Begin.{Begin}
use Rattle.plan.specs.declared.End.{End}
use Rattle.plan.specs.declared.Plan.{Plan}

pub record BeginFits (id : ℕ) (s : Begin) (w : World) : Type 0 where
  -- its endpoint is there once the step's rows are, and there are not too many
  pub few : (opened id s w).count ≤ 128
  pub there : s.transaction.endpoint < (opened id s w).count
  -- the endpoint's counts have room for the rows that it gets
  pub transactions : ((opened id s w).endpoints s.transaction.endpoint).transactions + one s.update.link < 2 ^ 64
  pub groups : ((opened id s w).endpoints s.transaction.endpoint).groups + one s.update.start < 2 ^ 64
  -- bytes are bytes
  pub number : s.number < 256
  pub token : start_pid s.transaction.style < 256
  -- a new endpoint's device is one of the rows
  pub place : s.endpoint ≡ true → s.place < 2 ^ 64

pub record EndFits (x : ℕ) (s : End) (w : World) : Type 0 where
  pub few : w.count ≤ 128
  pub there : x < w.count
  pub transactions : s.entry.transactions + one s.update.link < 2 ^ 64
  pub groups : s.entry.groups + one s.update.start < 2 ^ 64
  pub bytes : Fits s.entry
  pub token : start_pid w.transaction.style < 256
  -- no byte total passes 2^64 - 1 (answer 9)
  pub total : passes s.effect s.entry.total ≡ false

-- the worlds that the steps of a packet begin with, in their order
abbrev pub world1 : List ℕ → ℕ → World → World
world1 packet time w = with_packet packet time w

abbrev pub world2 : Plan → List ℕ → ℕ → World → World
world2 p packet time w = world1 packet time w ▷ when p.resumes (begun w.packets p.resume)

abbrev pub world3 : Plan → List ℕ → ℕ → World → World
world3 p packet time w = world2 p packet time w ▷ when p.ends (λ v. ended p.old p.end (with_transaction p.brought v))

abbrev pub world4 : Plan → List ℕ → ℕ → World → World
world4 p packet time w = world3 p packet time w ▷ begun w.packets p.begin

-- each step that the plan has fits the world that it begins with
pub record PlanFits (p : Plan) (packet : List ℕ) (time : ℕ) (w : World) : Type 0 where
  pub resume : p.resumes ≡ true → BeginFits w.packets p.resume (world1 packet time w)
  pub end : p.ends ≡ true → EndFits p.old p.end (with_transaction p.brought (world2 p packet time w))
  pub begin : BeginFits w.packets p.begin (world3 p packet time w)
  pub close : p.closes ≡ true → EndFits p.begin.transaction.endpoint p.close (world4 p packet time w)

-- how many T rows and how many G rows a step adds that is taken where `on`; all steps of a packet
abbrev pub linked : Bool → Update → ℕ
linked on u = pick on (one u.link) 0

abbrev pub started : Bool → Update → ℕ
started on u = pick on (one u.start) 0

unfoldable pub plan_links : Plan → ℕ
plan_links p = linked p.resumes p.resume.update + linked p.ends p.end.update + one p.begin.update.link + linked p.closes p.close.update

unfoldable pub plan_starts : Plan → ℕ
plan_starts p = started p.resumes p.resume.update + started p.ends p.end.update + one p.begin.update.start + started p.closes p.close.update
