-- Laws (proved): a resume adds no endpoint, as `tally_plan` asks.
use Rattle.std.specs.Prelude.{Bool, false, List, ◌≡◌, refl, ℕ}
use Rattle.rules.specs.World.{World}
use Rattle.plan.specs.Packet.{plan_by, plan_of}
use Rattle.plan.specs.Words.{plan_words}

pub resume_still : (high : Bool) (packet : List ℕ) (w : World) → (plan_words (plan_of high packet w)).resume.endpoint ≡ false
unfolding plan_of plan_by plan_words
resume_still high packet w = refl
