-- To be believed: a block of records in one call (02, change request 3), and the records of a trace: what the same records give one by one. Words in quotation
-- marks are those of 02, or where it is said of 01.
-- Hold it to: 02, "A block of records in one call", "Retire typed-in details"; 01, "Trace and listing": "Records are taken one at a time .."
use Rattle.std.specs.Prelude.{ℕ, suc, ◌+◌, ◌-◌, Bool, true, false, List, ◌≡◌, eqb, take, drop}
use Rattle.rows.specs.One.{one}
use Rattle.trace.specs.Clock.{tick_of}
use Rattle.trace.specs.Trace.{next_at, answer_of}
use Rattle.trace.specs.declared.Next.{Next}
use Rattle.trace.specs.declared.Next.TheVariants.{Packet, Event, Detail, Unknown, Cut, End}
use Rattle.trace.specs.declared.clock.Clock.{Clock}
use Rattle.call.specs.Outcome.{accepts}
use Rattle.call.specs.State.{State}
use Rattle.typed.specs.Detail.{Details}
use Rattle.packet.specs.Call.{PacketCall}
use Rattle.events.specs.Call.{EventCall}

-- ---- what a record is called on: the state, and the shelf that is lent beside it (02, 2)

pub record Stand : Type 0 where
  pub state : State
  pub shelf : List ℕ

abbrev pub stand : State → List ℕ → Stand
stand s h = record { state = s; shelf = h }

-- ---- one record

-- the clock behind a record: packets and events have ticks, details none
abbrev pub clock_after : Next → Clock → Clock
clock_after (Packet ticks start end next) c = tick_of c ticks
clock_after (Event ticks kind code next) c = tick_of c ticks
clock_after (Detail address number direction kind max next) c = c
clock_after Unknown c = c
clock_after Cut c = c
clock_after End c = c

-- the place behind the record at `at`; where there is no whole record, `at`
abbrev pub behind : Next → ℕ → ℕ
behind (Packet ticks start end next) at = next.at
behind (Event ticks kind code next) at = next.at
behind (Detail address number direction kind max next) at = next.at
behind Unknown at = at
behind Cut at = at
behind End at = at

-- a whole record of tag 2 (02, 13): in an old trace (true) it is "read, and obeyed as before unless a descriptor has already given that endpoint's details"; in a block
-- (false) it is refused with "20, detail in a block, tested after 13 and before the record's own call", so whatever the state is
abbrev pub Typed : Bool → ℕ → ℕ → ℕ → ℕ → ℕ → Stand → ℕ → Stand → Type 0
Typed true address number direction kind max s a s' = Details address number direction kind max s.state a s'.state × (s'.shelf ≡ s.shelf)
Typed false address number direction kind max s a s' = (a ≡ 20) × (s' ≡ s)

-- a record, with the clock as it stands in front of it, on s: it answers a and leaves s'; packets alone go to the shelf. `typed` says whether tag 2 is obeyed. 01: "Wrong or missing
-- .. tag 12, cut record 13" by the numbers of trace, Trace, "tested for each record before its call", so whatever the state is; the end is no record
abbrev pub Gives : Bool → List ℕ → Next → Clock → Stand → ℕ → Stand → Type 0
Gives typed t (Packet ticks start end next) c s a s' =
    PacketCall (take (end - start) (drop start t)) (tick_of c ticks).time s.state s.shelf a s'.state s'.shelf
Gives typed t (Event ticks kind code next) c s a s' = EventCall kind code (tick_of c ticks).time s.state a s'.state × (s'.shelf ≡ s.shelf)
Gives typed t (Detail address number direction kind max next) c s a s' = Typed typed address number direction kind max s a s'
Gives typed t Unknown c s a s' = (a ≡ answer_of Unknown) × (s' ≡ s)
Gives typed t Cut c s a s' = (a ≡ answer_of Cut) × (s' ≡ s)
Gives typed t End c s a s' = ⊥

-- ---- the records from a place on

-- from the place `at` on, "starting tick state passed in", on s: n is "the records taken", e "the 8s among them", a the answer, p the place where
-- it stops, c' "the tick state after those", s' what is left. "It stops at the first answer other than 0 or 8, returns that answer or else 0"; "what they wrote
-- remains"; "An empty block takes none and answers 0". A trace's records are those of a block in which tag 2 is obeyed
pub data Takes (typed : Bool) (t : List ℕ) : (at : ℕ) → Clock → Stand → (n e a p : ℕ) → Clock → Stand → Type 0 where
  done : {at : ℕ} {c : Clock} {s : Stand} → next_at t at ≡ End → Takes typed t at c s 0 0 0 at c s
  stops : {at a : ℕ} {c : Clock} {s s' : Stand} → Gives typed t (next_at t at) c s a s' → accepts a ≡ false → Takes typed t at c s 0 0 a at c s'
  goes : {at n e b p : ℕ} {c c' : Clock} {s s' s'' : Stand} (a : ℕ)
      → Gives typed t (next_at t at) c s a s'
      → accepts a ≡ true
      → Takes typed t (behind (next_at t at) at) (clock_after (next_at t at) c) s' n e b p c' s''
      → Takes typed t at c s (suc n) (one (eqb a 8) + e) b p c' s''
