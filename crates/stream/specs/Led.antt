-- Inner (cited by private contracts alone): packets that lead from one state to another, as a reader finds them, and what the loop over them leaves.
use Rattle.std.specs.Prelude.{ℕ, ◌+◌, ◌-◌, ◌≤◌, Bool, true, false, List, ◌≡◌, eqb, take, drop}
use Rattle.rows.specs.One.{one}
use Rattle.trace.specs.Clock.{tick_of}
use Rattle.trace.specs.Trace.{next_at}
use Rattle.trace.specs.declared.Cursor.{Cursor}
use Rattle.trace.specs.declared.Next.TheVariants.{Packet}
use Rattle.trace.specs.declared.clock.Clock.{Clock}
use Rattle.call.specs.Outcome.{accepts}
use Rattle.call.specs.State.{Logs, State, state}
use Rattle.packet.specs.Call.{PacketCall}
use Rattle.sound.specs.Sound.{is_sound}
use Rattle.step.specs.Block.{Stand, stand}
use Rattle.stream.specs.Part.{clock_by}
use Rattle.stream.specs.Piece.{Timed}
use Rattle.stream.specs.declared.Run.{Run}
use Rattle.stream.specs.declared.part.Part.{Part}
use Rattle.stream.specs.declared.part.Reader.{Reader}
use Rattle.stream.specs.declared.part.Reader.TheVariants.{Trace, Pcap}

-- no call finds the state ill or finished, where `ready` says so
pub record Fits (ready : Bool) (s : State) : Type 0 where
  pub sound : ready ≡ true → is_sound s ≡ true
  pub unfinished : ready ≡ true → s.decoder.finished ≡ false

-- ---- one packet

-- at `at` of a trace stands the packet p, where the clock is c
pub record Ticked (t : List ℕ) (at : ℕ) (c : Clock) (p : Part) : Type 0 where
  pub next : Cursor
  pub found : next_at t at ≡ Packet p.ticks p.start p.end next
  pub place : p.next ≡ next.at
  pub told : p.time ≡ (tick_of c p.ticks).time

-- as the reader finds it; in a pcap file the packet ends its record
abbrev pub Finds : Reader → List ℕ → ℕ → Clock → Part → Type 0
Finds Trace t at c p = Ticked t at c p
Finds (Pcap f) t at c p = Timed f t at p.time p.start p.end × (p.next ≡ p.end)

abbrev pub bytes_of : List ℕ → Part → List ℕ
bytes_of t p = take (p.end - p.start) (drop p.start t)

-- the packet p, called on s, answers a and leaves s'
pub record Calls (r : Reader) (t : List ℕ) (at : ℕ) (c : Clock) (s : Stand) (p : Part) (a : ℕ) (s' : Stand) : Type 0 where
  pub finds : Finds r t at c p
  pub call : PacketCall (bytes_of t p) p.time s.state s.shelf a s'.state s'.shelf

-- ---- packets

-- n packets, e of them answered 8, lead from the place `at`, the clock c and s to the next ones
pub data Led (r : Reader) (t : List ℕ) : (at : ℕ) → Clock → Stand → (n e at' : ℕ) → Clock → Stand → Type 0 where
  none : {at : ℕ} {c : Clock} {s : Stand} → Led r t at c s 0 0 at c s
  more : {at n e at' : ℕ} {c c' : Clock} {s s' s'' : Stand} (p : Part) (a : ℕ)
      → Led r t at c s n e at' c' s'
      → Calls r t at' c' s' p a s''
      → accepts a ≡ true
      → Led r t at c s (n + 1) (e + one (eqb a 8)) p.next (clock_by p) s''

abbrev pub ran_by : Run → List ℕ → Logs → List ℕ → Stand
ran_by r t l h = stand (state r.decoder r.devices t l) h

-- the packet at `at` is refused with a, which leaves s as it was
pub record Refused (r : Reader) (t : List ℕ) (at : ℕ) (c : Clock) (s : Stand) (a : ℕ) : Type 0 where
  pub part : Part
  pub calls : Calls r t at c s part a s
  pub refused : accepts a ≡ false

-- packets from `at` on, up to a record that is not taken; or, where `going` is false, to a packet that is refused
pub record Runs (r : Reader) (t : List ℕ) (at : ℕ) (c : Clock) (s : Stand) (q : Run) (table : List ℕ) (l : Logs) (h : List ℕ) : Type 0 where
  pub led : Led r t at c s q.taken q.eights q.place q.clock (ran_by q table l h)
  pub over : q.going ≡ false → Refused r t q.place q.clock (ran_by q table l h) q.answer
  pub counted : (q.taken + at ≤ q.place) × (q.eights ≤ q.taken)
