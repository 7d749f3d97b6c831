-- Inner (cited by private contracts alone): answer 9 of a packet, decided from its steps: only the end of the packet's own transaction adds to a byte total.
use Rattle.std.specs.Prelude.{Bool, ◌&&◌}
use Rattle.update.specs.Effect.{passes}
use Rattle.plan.specs.declared.Plan.{Plan}

unfoldable pub plan_passes : Plan → Bool
plan_passes p = p.closes && passes p.close.effect p.close.entry.total
