-- Laws (proved): what it means that memory holds a world of the rules (rules, World): the call's stamp is its context, the first numbers and the rows held make its numbers, the table's entries its endpoints, and each
-- log has, behind the rows that stood there before, the words of its rows in the journal.
use Rattle.std.specs.Prelude.{ℕ, ◌+◌, ◌*◌, ◌^◌, ◌<◌, ◌≤◌, List, ◌≡◌, length}
use Rattle.std.proofs.lemmas.List.Edits.{sets}
use Rattle.endpoints.specs.Word as word
use Rattle.rows.specs.Widths.{group_width, link_width}
use Rattle.endpoints.specs.Table.{entry_at}
use Rattle.transaction.specs.Payload.{start_pid}
use Rattle.rules.specs.Rows.{Row, log}
use Rattle.rules.specs.World.{World}
use Rattle.write.specs.Memory.{Memory}

-- log k was `first`, filled up to place `from`; it is now `words`, filled up to place `to`, the rows of the journal js behind the old ones
pub record Appended (k : ℕ) (first : List ℕ) (from : ℕ) (js : List Row) (words : List ℕ) (to : ℕ) : Type 0 where
  pub written : words ≡ sets first from (log k js)
  pub filled : to ≡ from + length (log k js)

-- memory m, which was m₀ when the journal was empty, holds the world w, of n endpoints and the transaction in row id that began with pid
pub record Holds (n id pid : ℕ) (m₀ : Memory) (w : World) (m : Memory) : Type 0 where
  pub sized : length m.table ≡ word.table
  pub stamp : m.written.stamp ≡ m₀.written.stamp
  pub context : w.context ≡ m₀.written.stamp
  pub count : w.count ≡ n
  pub endpoints : (j : ℕ) → j < n → entry_at m.table j ≡ w.endpoints j
  pub row : w.transaction.id ≡ id
  pub began : start_pid w.transaction.style ≡ pid
  pub linked : m.written.linked ≡ w.transaction.linked
  pub link : m.written.link ≡ w.transaction.link
  pub last_item : m.written.last ≡ w.last_item
  pub group_count : m.written.firsts.groups + m.written.groups ≡ w.groups
  pub state_byte_count : m.written.firsts.statebytes + m.written.statebytes ≡ w.state_bytes
  pub item_count : m.written.firsts.items + m.written.items ≡ w.items
  pub groups : Appended 6 m₀.groups (m₀.written.groups * group_width) w.journal m.groups (m.written.groups * group_width)
  pub statebytes : Appended 7 m₀.statebytes m₀.written.statebytes w.journal m.statebytes m.written.statebytes
  pub states : Appended 8 m₀.states m₀.written.states w.journal m.states m.written.states
  pub items : Appended 9 m₀.items m₀.written.items w.journal m.items m.written.items
  pub links : Appended 10 m₀.links (m₀.written.links * link_width) w.journal m.links (m.written.links * link_width)

-- the rows of a journal fit behind those that memory has
pub record Space (m₀ : Memory) (js : List Row) : Type 0 where
  pub groups : m₀.written.groups * group_width + length (log 6 js) ≤ length m₀.groups
  pub statebytes : m₀.written.statebytes + length (log 7 js) ≤ length m₀.statebytes
  pub states : m₀.written.states + length (log 8 js) ≤ length m₀.states
  pub items : m₀.written.items + length (log 9 js) ≤ length m₀.items
  pub links : m₀.written.links * link_width + length (log 10 js) ≤ length m₀.links

-- the numbers of a world's next rows are words
pub record Worded (w : World) : Type 0 where
  pub groups : w.groups < 2 ^ 64
  pub statebytes : w.state_bytes < 2 ^ 64
  pub items : w.items < 2 ^ 64
