-- To be believed: what is claimed of import and export of pcap files, over every sequence of calls from a fresh decoder (02, 4). proofs/ proves it. Words in quotation
-- marks are those of 02, 4.
-- Hold it to: 02, "Import and export of pcap", sentence by sentence
use Rattle.std.specs.Prelude.{ℕ, false, List, [], ◌∷◌, ◌++◌, ◌⊎◌, ◌≡◌, length}
use Rattle.transaction.specs.Table.{pick}
use Rattle.pcap.specs.File.{Item}
use Rattle.pcap.specs.Export.{item_at, items_of, taken_from, file_bytes, late}
use Rattle.rules.specs.Demand.{Call, packet, event, detail, finishing}
use Rattle.rules.specs.Rows.{Row}
use Rattle.call.specs.Outcome.{accepts}
use Rattle.call.specs.State.{State}
use Rattle.step.specs.Block.{stand}
use Rattle.demands.specs.Sequence.{Sequence, made, then}
use Rattle.export.specs.Record.{source_in}
use Rattle.import.specs.Import.{ImportsFile}

-- the packet that a call brings: its time and its bytes
abbrev pub item_by : Call → List Item
item_by (packet p time shelf) = item_at time p ∷ []
item_by (event kind code time) = []
item_by (detail address number direction kind max) = []
item_by finishing = []

-- those of the calls that were accepted, in order
abbrev pub packets_of : {js : List Row} {s : State} → Sequence js s → List Item
packets_of (made hv ht m) = []
packets_of (then k a s' q d) = packets_of q ++ pick (accepts a) (item_by k) []

-- the events that an export leaves behind are all that were logged
abbrev pub LeftBehind : State → Type 0
LeftBehind s = taken_from (source_in s) (source_in s).rows 0 0 ≡ s.decoder.counts.events

-- the packets of s, written and imported on s', which left s'': n records are taken, up to the place p
pub record Returned (s s' s'' : State) (n p : ℕ) : Type 0 where
  pub taken : n ≡ length (items_of (source_in s))
  pub place : p ≡ length (file_bytes (source_in s))
  pub items : items_of (source_in s'') ≡ items_of (source_in s') ++ items_of (source_in s)

pub record Exchange : Type 0 where
  -- "Export writes the packet rows that are no event's": the packets that the calls brought, with their times
  pub exported : {js : List Row} {s : State} (q : Sequence js s) → items_of (source_in s) ≡ packets_of q
  -- "and says how many events it left behind"
  pub left_behind : {js : List Row} {s : State} → Sequence js s → LeftBehind s
  -- "Import of an exported file, given room, gives the same packet bytes and times, provided that every time's seconds fit 32 bits": s is exported, and the
  -- file imported on s', where it is answered 0; it is all taken, and its packets stand behind those of s', of which a fresh decoder has none
  pub back : {js : List Row} {s : State} → Sequence js s → late (items_of (source_in s)) ≡ false
      → {js' : List Row} {s' : State} → Sequence js' s' → (s'' : State) (h h'' : List ℕ) (n e p : ℕ)
      → ImportsFile (file_bytes (source_in s)) (stand s' h) n e 0 p (stand s'' h'')
      → Returned s s' s'' n p
  -- on a decoder that was not finished, room is all that it can lack
  pub answers : {js : List Row} {s : State} → Sequence js s → late (items_of (source_in s)) ≡ false
      → {js' : List Row} {s' : State} → Sequence js' s' → s'.decoder.finished ≡ false → (s'' : State) (h h'' : List ℕ) (n e a p : ℕ)
      → ImportsFile (file_bytes (source_in s)) (stand s' h) n e a p (stand s'' h'')
      → (a ≡ 0) ⊎ (a ≡ 7)
