-- Laws (proved): the table's rows stay as `store` writes them, and the words behind them as they were, through an event's rows.
use Rattle.std.specs.Prelude.{ℕ, ◌<◌, ◌≤◌, Bool, List}
use Rattle.write.specs.Memory.{Memory}
use Rattle.record.proofs.TabledLaws.{Tabled}
use Rattle.write_update.proofs.TabledLaws.{when_on, links, groups}
use Rattle.write_event.specs.Rows.{event_linked, event_grouped, event_rows}

pub event-rows_tabled : {n : ℕ} {t₀ : List ℕ} → n ≤ 128 → 0 < n → (row group start : Bool) (id : ℕ) (m : Memory) → Tabled n t₀ m.table
    → Tabled n t₀ (event_rows row group start n id m).table
unfolding event_rows
event-rows_tabled {n} few some row group start id m h =
    (when_on group (event_grouped n start) (λ v a. record { tabled = groups few 0 some a.tabled start })
    (when_on row (event_linked id) (λ v a. record { tabled = links few 0 some a.tabled })
    {m = m} (record { tabled = h }))).tabled
