-- Inner (cited by private contracts alone): the end of the current transaction by an event or by finish, decided from the world before it.
use Rattle.std.specs.Prelude.{Bool, true, false, ◌&&◌, not, ℕ, eqb}
use Rattle.details.specs.Details.{details_of}
use Rattle.transaction.specs.declared.Transaction.{Transaction}
use Rattle.rules.specs.World.{World, ◌▷◌, with_slot}
use Rattle.rules.specs.declared.Slot.{Slot}
use Rattle.rules.specs.declared.Slot.TheVariants.{Empty, Current, Suspended}
use Rattle.update.specs.Update.{when}
use Rattle.plan.specs.Step.{ended, end_of}
use Rattle.plan.specs.declared.Ending.{Ending}

-- its endpoint; the event endpoint, on which no transaction is, where none is current
abbrev pub current_endpoint : Slot → Transaction → ℕ
current_endpoint Empty t = 0
current_endpoint Current t = t.endpoint
current_endpoint Suspended t = 0

abbrev pub slot_ended : Slot → Slot
slot_ended Empty = Empty
slot_ended Current = Empty
slot_ended Suspended = Suspended

unfoldable pub ending_of : World → Ending
ending_of w =
    let x = current_endpoint w.slot w.transaction in
    record {
      ends = not (eqb x 0);
      old = x;
      end = end_of x (w.endpoints x) w.transaction (details_of (w.devices (w.endpoints x).device) (w.endpoints x).address) w.last_item false false;
    }

unfoldable pub end_played : Ending → World → World
end_played e w = w ▷ when e.ends (ended e.old e.end) ▷ with_slot (slot_ended w.slot)
