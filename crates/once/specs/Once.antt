-- To be believed: no byte is counted twice (02, 8): what is claimed of the ledger (ledger, Ledger) of every sequence of calls, on the packet log, the D rows, the totals and
-- the record that the calls leave. proofs/Once.antt proves it. Words in quotation marks are those of 02, 8.
-- Hold it to: 02, 8, sentence by sentence
use Rattle.std.specs.Prelude.{ℕ, zero, suc, ◌+◌, ◌-◌, ◌*◌, ◌<◌, Bool, true, false, ◌&&◌, List, [], ◌∷◌, ◌≡◌, eqb, length, take}
use Rattle.rows.specs.One.{one}
use Rattle.rows.specs.Widths.{packet_width}
use Rattle.reading.specs.Packets.{packet_bytes}
use Rattle.transaction.specs.Table.{pick}
use Rattle.endpoints.specs.Table.{entry_at}
use Rattle.rules.specs.Rows.{Row}
use Rattle.record.specs.Formed.{holds}
use Rattle.call.specs.Outcome.{accepts, world_at}
use Rattle.call.specs.State.{State}
use Rattle.demands.specs.Sequence.{Sequence, made, then, link_rows}
use Rattle.ledger.specs.Ledger.{Fate, Held, Waiting, Counted, Passed, Line, Ledger, is_held, is_waiting, is_counted, lengths_of, sum, running, is_data, turns}

-- "Over any calls from a fresh decoder, refused ones among them": the ledger that they keep. A refused call leaves it
abbrev pub ledger_of : {js : List Row} {s : State} → Sequence js s → Ledger
ledger_of (made hv ht m) = []
ledger_of (then {js} {s} k a s' q d) = pick (accepts a) (turns s.decoder.high k (world_at s) (ledger_of q)) (ledger_of q)

-- ---- the packet log

-- the bytes of packet row k, as a reader takes them from the logs, as far as they are counted
abbrev pub bytes_of : ℕ → State → List ℕ
bytes_of k s =
    let n = s.decoder.counts in
    packet_bytes k n.packets (take (n.packets * packet_width) s.logs.packets) (take n.bytes s.logs.bytes)

-- "the payload bytes of all valid DATA0 and DATA1 packets", of the first n; "In the mode of 6) the packets are those that yield payloads there"
abbrev pub data_bytes : Bool → ℕ → (ℕ → List ℕ) → ℕ
data_bytes high zero f = 0
data_bytes high (suc n) f = data_bytes high n f + pick (is_data high (f n)) (length (f n) - 3) 0

-- ---- totals and data rows

-- "the totals of all endpoints", of the first n
abbrev pub totals : ℕ → List ℕ → ℕ
totals zero table = 0
totals (suc n) table = totals n table + (entry_at table n).total

-- the last numbers of the D rows (kind 2) of endpoint e in the link log, four words a row
abbrev pub totals_before : ℕ → List ℕ → List ℕ
totals_before e [] = []
totals_before e (a ∷ []) = []
totals_before e (a ∷ b ∷ []) = []
totals_before e (a ∷ b ∷ c ∷ []) = []
totals_before e (a ∷ b ∷ c ∷ d ∷ ws) = pick (eqb a 2 && eqb e b) (d ∷ totals_before e ws) (totals_before e ws)

-- ---- the claim

-- "the packets not counted so far": told from what became of them, and not by subtraction
abbrev pub is_uncounted : Fate → Bool
is_uncounted Held = true
is_uncounted (Waiting y) = true
is_uncounted (Counted y) = false
is_uncounted (Passed why y) = true

-- how many lines packet row k has; what is so of every line
abbrev pub lines_of : ℕ → Ledger → ℕ
lines_of k [] = 0
lines_of k (a ∷ l) = lines_of k l + one (eqb k a.packet)

abbrev pub Each : (Line → Type 0) → Ledger → Type 0
Each Q [] = Unit {0}
Each Q (a ∷ l) = Q a × Each Q l

pub record Once (l : Ledger) (s : State) : Type 0 where
  -- "each endpoint's data rows hold running sums from zero of the payload lengths counted there"
  pub rows : (e : ℕ) → totals_before e (link_rows s) ≡ running 0 (lengths_of (is_counted e) l)
  -- "and its total is the full sum"
  pub total : (e : ℕ) → e < s.decoder.counts.endpoints → (entry_at s.table e).total ≡ sum (lengths_of (is_counted e) l)
  -- "Each counted payload is that of one accepted data packet, no packet is counted twice": a data packet of the packet log has one line, no other has any
  pub places : (k : ℕ) → lines_of k l ≡ one (is_data s.decoder.high (bytes_of k s))
  pub length : Each (λ a. a.length ≡ length (bytes_of a.packet s) - 3) l
  -- "the totals of all endpoints plus the payload bytes of the packets not counted so far equal the payload bytes of all valid DATA0 and DATA1 packets in the packet log"
  pub sums : totals s.decoder.counts.endpoints s.table + sum (lengths_of is_uncounted l)
      ≡ data_bytes s.decoder.high s.decoder.counts.packets (λ k. bytes_of k s)
  -- what the ledger has as held and as waiting, the transaction and the endpoints have
  pub held : lengths_of is_held l ≡ (let t = s.decoder.transaction in pick (holds s.decoder.slot && t.filled) (t.payload ∷ []) [])
  pub waiting : (e : ℕ) → e < s.decoder.counts.endpoints
      → lengths_of (is_waiting e) l ≡ (let a = entry_at s.table e in pick a.pending (a.pendinglength ∷ []) [])
