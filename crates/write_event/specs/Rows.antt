-- Inner (cited by private contracts alone): what the act of an event does to memory (rules, Events): rows of the event endpoint, which is endpoint 0.
use Rattle.std.specs.Prelude.{ℕ, pred, ◌+◌, ◌^◌, ◌<◌, ◌≤◌, Bool, true, false}
use Rattle.rows.specs.One.{one}
use Rattle.endpoints.specs.Link as kind
use Rattle.endpoints.specs.Each.{ended}
use Rattle.endpoints.specs.Table.{entry_at}
use Rattle.rules.specs.Events as rules
use Rattle.rules.specs.World.{◌▷◌, event_ep, more_transactions, more_groups}
use Rattle.update.specs.Update.{when}
use Rattle.write.specs.Memory.{Memory, Room, link_row, altered, entry_row, item_row}

-- the T row of transaction row id
abbrev pub event_linked : ℕ → Memory → Memory
event_linked id m = m ▷ link_row kind.T event_ep id 0 ▷ altered event_ep more_transactions

-- a G row of the last T row, a start or an end row, and an item
abbrev pub event_grouped : ℕ → Bool → Memory → Memory
event_grouped n start m =
    m ▷ link_row kind.G event_ep (pred (entry_at m.table event_ep).transactions) 0
    ▷ altered event_ep more_groups
    ▷ entry_row n event_ep start
    ▷ item_row n event_ep

-- with n endpoints; `row`, `group` and `start` say whether there is a T row, whether there is a group, and whether that starts
unfoldable pub event_rows : Bool → Bool → Bool → ℕ → ℕ → Memory → Memory
event_rows row group start n id m = m ▷ when row (event_linked id) ▷ when group (event_grouped n start)

-- handle_event: every active group of n endpoints is ended, with no row
abbrev pub all_ended : ℕ → Memory → Memory
all_ended n m = record { written = m.written; table = ended m.table n; groups = m.groups; states = m.states; statebytes = m.statebytes; items = m.items; links = m.links }

-- event_single has an end row, the other groups a start row
abbrev pub starts_group : rules.Act → Bool
starts_group rules.nothing = false
starts_group rules.single = false
starts_group rules.group = true
starts_group rules.subgroup = false
starts_group rules.keepalive = true

-- there is an event endpoint, its counts can grow, and the rows fit
pub record Able (row group start : Bool) (n id : ℕ) (m : Memory) : Type 0 where
  pub few : n ≤ 128
  pub some : 0 < n
  pub transactions : (entry_at m.table event_ep).transactions + one row < 2 ^ 64
  pub groups : (entry_at m.table event_ep).groups + one group < 2 ^ 64
  pub room : Room (event_rows row group start n id m)
