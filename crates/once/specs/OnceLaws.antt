-- Laws (proved): what follows for a sequence of calls. proofs/Follows.antt proves it.
use Rattle.std.specs.Prelude.{ℕ, ◌<◌, false, true, ◌&&◌, List, [], ◌≡◌, eqb}
use Rattle.rules.specs.Demand.{Call, packet, event, detail, finishing}
use Rattle.rules.specs.Rows.{Row}
use Rattle.call.specs.Outcome.{accepts, world_at}
use Rattle.call.specs.State.{State}
use Rattle.demands.specs.Sequence.{Does, Sequence, then}
use Rattle.ledger.proofs.Account.{earns, is_settled, Among}
use Rattle.ledger.specs.Ledger.{Line, is_counted, lengths_of}
use Rattle.once.specs.Once.{bytes_of, ledger_of, Once}

-- the bytes that a call gives to the packet log; an event has a packet row without bytes
abbrev pub bytes_by : Call → List ℕ
bytes_by (packet p time shelf) = p
bytes_by (event kind code time) = []
bytes_by (detail address number direction kind max) = []
bytes_by finishing = []

pub record Follows : Type 0 where
  -- the claim
  pub once : {js : List Row} {s : State} (q : Sequence js s) → Once (ledger_of q) s
  -- what is read in the packet log as packet row k is what the call that wrote it was given; and that stays so
  pub given : {js : List Row} {s : State} → Sequence js s → (k : Call) (a : ℕ) (s' : State) → Does k s a s' → accepts a ≡ true → bytes_of s.decoder.counts.packets s' ≡ bytes_by k
  pub stays : {js : List Row} {s : State} → Sequence js s → (k : Call) (a : ℕ) (s' : State) → Does k s a s'
      → (i : ℕ) → i < s.decoder.counts.packets → bytes_of i s' ≡ bytes_of i s
  -- 01, answer 9, "an endpoint's byte total would pass 2^64 - 1", is never given: no total passes the packet bytes logged
  pub never_9 : {js : List Row} {s : State} → Sequence js s → (k : Call) (a : ℕ) (s' : State) → Does k s a s' → ¬ (a ≡ 9)
  -- a payload is counted only by a packet that is answered 0 and is Done or Retry: never by a new token, a Fail, an Invalid, an event, finish or a detail
  pub earned : {js : List Row} {s : State} (q : Sequence js s) (k : Call) (a : ℕ) (s' : State) (d : Does k s a s') → (eqb a 0 && earns s.decoder.high k (world_at s)) ≡ false
      → (e : ℕ) → lengths_of (is_counted e) (ledger_of (then k a s' q d)) ≡ lengths_of (is_counted e) (ledger_of q)
  -- what was counted, or passed over, stays so
  pub counted-after : {js : List Row} {s : State} (q : Sequence js s) (k : Call) (a : ℕ) (s' : State) (d : Does k s a s') (b : Line) → is_settled b.fate ≡ true
      → Among b (ledger_of q) → Among b (ledger_of (then k a s' q d))
