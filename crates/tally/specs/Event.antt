-- Laws (proved): an event that is no keepalive, as handle_event goes (rules, Decoder), with the transaction's end as decided (plan, Ending).
use Rattle.std.specs.Prelude.{false, ℕ}
use Rattle.rules.specs.Decoder.{end_all_active, push_packet}
use Rattle.rules.specs.Events.{event_update}
use Rattle.rules.specs.Rows.{EventRow}
use Rattle.rules.specs.World.{World, ◌▷◌, push, with_keepalive}
use Rattle.plan.specs.Ending.{end_played}
use Rattle.plan.specs.declared.Ending.{Ending}

unfoldable pub event_played : Ending → ℕ → ℕ → ℕ → World → World
event_played e kind code time w =
    w ▷ end_played e
    ▷ end_all_active
    ▷ with_keepalive false
    ▷ push_packet w.bytes time
    ▷ push (EventRow w.packets code)
    ▷ event_update w.packets kind
