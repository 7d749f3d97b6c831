-- Inner (cited by private contracts alone): the current transaction's end by an event or by finish, on memory (write, Memory), and what carrying it out asks.
use Rattle.std.specs.Prelude.{ℕ, ◌+◌, ◌^◌, ◌<◌, ◌≤◌, Bool, true, ◌≡◌, length}
use Rattle.endpoints.specs.Word as word
use Rattle.endpoints.proofs.TableLaws.{Fits}
use Rattle.rules.specs.Groups.{becomes}
use Rattle.update.specs.Update.{when}
use Rattle.write.specs.Memory.{Memory, Room, altered}
use Rattle.write_update.specs.Carried.{carried}
use Rattle.write_event.specs.Rows.{all_ended}
use Rattle.plan.specs.Sound.{linked, started}
use Rattle.plan.specs.declared.End.{End}
use Rattle.plan.specs.declared.Ending.{Ending}

-- on endpoint x, one of n, of the transaction in row id that began with pid: the entry as group_status leaves it, and the update
abbrev pub closed_on : ℕ → End → ℕ → ℕ → ℕ → Memory → Memory
closed_on x s n id pid m = carried s.update n x id pid (altered x (becomes s.entry) m)

unfoldable pub ended_memory : Ending → ℕ → ℕ → ℕ → Memory → Memory
ended_memory e n id pid m = when e.ends (closed_on e.old e.end n id pid) m

pub record Endable (e : Ending) (n id pid : ℕ) (m : Memory) : Type 0 where
  pub sized : length m.table ≡ word.table
  pub few : n ≤ 128
  pub there : e.old < n
  pub transactions : e.end.entry.transactions + linked e.ends e.end.update < 2 ^ 64
  pub groups : e.end.entry.groups + started e.ends e.end.update < 2 ^ 64
  pub bytes : Fits e.end.entry
  pub room : Room (ended_memory e n id pid m)

-- an event that resets ends every active group too
abbrev pub all_settled : Ending → ℕ → ℕ → ℕ → Memory → Memory
all_settled e n id pid m = all_ended n (ended_memory e n id pid m)

unfoldable pub settled_memory : Bool → Ending → ℕ → ℕ → ℕ → Memory → Memory
settled_memory resets e n id pid m = when resets (all_settled e n id pid) m

abbrev pub SettlesIf : Bool → Ending → ℕ → ℕ → ℕ → Memory → Type 0
SettlesIf resets e n id pid m = resets ≡ true → Endable e n id pid m
