-- Inner (cited by private contracts alone): an update carried out on memory: the steps of `act` (update), in their order, each as write has it.
use Rattle.std.specs.Prelude.{ℕ, true, false}
use Rattle.endpoints.specs.Table.{with_phase}
use Rattle.endpoints.specs.declared.Phase.TheVariants.{Early, Ended}
use Rattle.rules.specs.World.{◌▷◌, with_last, cleared}
use Rattle.rules.specs.Groups.{activated}
use Rattle.update.specs.Update.{when}
use Rattle.update.specs.declared.Update.{Update}
use Rattle.update.specs.declared.Then.{Then}
use Rattle.update.specs.declared.Then.TheVariants.{Keep, Begin, BeginFailed, Last, BeginEarly}
use Rattle.write.specs.Memory.{Memory, altered, end_row, link_step, start_group, item_row}

-- what becomes of the group of a transaction that began with pid
abbrev pub become : Then → ℕ → ℕ → Memory → Memory
become Keep x pid m = m
become Begin x pid m = altered x (activated true pid) m
become BeginFailed x pid m = altered x (activated false pid) m
become Last x pid m = altered x (with_last pid) m
become BeginEarly x pid m = altered x (with_phase Early) m

-- the payload is cleared, and the group ends with an end row
abbrev pub end_group : ℕ → ℕ → Memory → Memory
end_group n x m = m ▷ altered x cleared ▷ end_row n x

-- up to the group's start; of n endpoints the one at x, of the transaction in row id
unfoldable pub opened : Update → ℕ → ℕ → ℕ → Memory → Memory
opened u n x id m =
    m ▷ when u.over (altered x (with_phase Ended))
    ▷ when u.cut (end_row n x)
    ▷ when u.link (link_step x id)
    ▷ when u.start (start_group n x)

-- from then on
unfoldable pub closed : Update → ℕ → ℕ → ℕ → Memory → Memory
closed u n x pid m =
    m ▷ become u.group x pid
    ▷ when u.end (end_group n x)
    ▷ when u.item (item_row n x)

abbrev pub carried : Update → ℕ → ℕ → ℕ → ℕ → Memory → Memory
carried u n x id pid m = m ▷ opened u n x id ▷ closed u n x pid
