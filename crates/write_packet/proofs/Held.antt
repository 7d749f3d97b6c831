-- Laws (proved): what it means that a desk holds a world of the rules (rules, World): `Holds` of write for the logs of groups, and the like for the other three,
-- for the counts and for the table's words.
use Rattle.std.specs.Prelude.{ℕ, ◌+◌, ◌*◌, ◌<◌, ◌≤◌, List, ◌≡◌, length}
use Rattle.endpoints.specs.Word as word
use Rattle.rows.specs.Widths.{endpoint_width, transaction_width}
use Rattle.endpoints.specs.Table.{entry_at}
use Rattle.transaction.specs.Payload.{start_pid}
use Rattle.transaction.specs.declared.Transaction.{Transaction}
use Rattle.rules.specs.Rows.{Row, log}
use Rattle.rules.specs.World.{World}
use Rattle.write.proofs.Holds.{Appended, Holds, Space}
use Rattle.record.specs.Formed.{Stored}
use Rattle.record.proofs.TabledLaws.{Tabled}
use Rattle.write_packet.specs.Desk.{Desk, memory_of}

-- the desk k, which was k₀ when the journal was empty, holds the world w
pub record HoldsAll (k₀ : Desk) (w : World) (k : Desk) : Type 0 where
  pub memory : Holds w.count w.transaction.id (start_pid w.transaction.style) (memory_of k₀) w (memory_of k)
  pub devices : Appended 1 k₀.devices k₀.hand.devices w.journal k.devices k.hand.devices
  pub endpoints : Appended 2 k₀.endpoints (k₀.hand.endpoints * endpoint_width) w.journal k.endpoints (k.hand.endpoints * endpoint_width)
  pub transactions : Appended 5 k₀.transactions (k₀.hand.transactions * transaction_width) w.journal k.transactions (k.hand.transactions * transaction_width)
  pub device_count : k.hand.devices ≡ w.device_count
  pub count : k.hand.endpoints ≡ w.count
  pub table : Tabled w.count k₀.table k.table

-- what stands at a call's entry, where the journal is empty
pub record Matches (w : World) (k : Desk) : Type 0 where
  pub sized : length k.table ≡ word.table
  pub entries : (j : ℕ) → j < w.count → entry_at k.table j ≡ w.endpoints j
  pub stored : (j : ℕ) → j < w.count → Stored k.table j
  pub linked : k.hand.written.linked ≡ w.transaction.linked
  pub link : k.hand.written.link ≡ w.transaction.link
  pub last_item : k.hand.written.last ≡ w.last_item
  pub groups : k.hand.written.firsts.groups + k.hand.written.groups ≡ w.groups
  pub statebytes : k.hand.written.firsts.statebytes + k.hand.written.statebytes ≡ w.state_bytes
  pub items : k.hand.written.firsts.items + k.hand.written.items ≡ w.items
  pub devices : k.hand.devices ≡ w.device_count
  pub endpoints : k.hand.endpoints ≡ w.count

-- the rows of a journal fit behind those that the desk has
pub record SpaceAll (k₀ : Desk) (js : List Row) : Type 0 where
  pub memory : Space (memory_of k₀) js
  pub devices : k₀.hand.devices + length (log 1 js) ≤ length k₀.devices
  pub endpoints : k₀.hand.endpoints * endpoint_width + length (log 2 js) ≤ length k₀.endpoints
  pub transactions : k₀.hand.transactions * transaction_width + length (log 5 js) ≤ length k₀.transactions

-- two transactions that say the same of what a step writes: the row, the token and the T row
pub record Brought (t t' : Transaction) : Type 0 where
  pub id : t.id ≡ t'.id
  pub style : t.style ≡ t'.style
  pub linked : t.linked ≡ t'.linked
  pub link : t.link ≡ t'.link
