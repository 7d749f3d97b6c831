-- To be believed: the packets of a pcap file as packet calls (02, 4): what the file's records give one by one. Words in quotation marks are those of 02, 4.
-- Hold it to: 02, "Import and export of pcap": "Packets become packet calls in file order up to the first answer other than 0 or 8; what was written stays", 14 to 17
use Rattle.std.specs.Prelude.{ℕ, suc, ◌+◌, Result, Ok, Err, true, false, List, ◌≡◌, eqb}
use Rattle.std.proofs.Math.Seq.{slice}
use Rattle.rows.specs.One.{one}
use Rattle.pcap.specs.Pcap.{head_of, head_answer, head_place, next_at, answer_of, time_of}
use Rattle.pcap.specs.declared.Format.{Format}
use Rattle.pcap.specs.declared.HeadError.{HeadError}
use Rattle.pcap.specs.declared.Next.{Next}
use Rattle.pcap.specs.declared.Next.TheVariants.{Packet, Cut, Fraction, End}
use Rattle.call.specs.Outcome.{accepts}
use Rattle.packet.specs.Call.{PacketCall}
use Rattle.step.specs.Block.{Stand}

-- ---- one record

-- on s it answers a and leaves s': a packet is called with its bytes and its time in nanoseconds; 16 and 17 come before the call, so whatever the state is; the end is no record
abbrev pub Gives : Format → List ℕ → Next → Stand → ℕ → Stand → Type 0
Gives f t (Packet seconds fraction start end) s a s' =
    PacketCall (slice start end t) (time_of f seconds fraction) s.state s.shelf a s'.state s'.shelf
Gives f t Cut s a s' = (a ≡ answer_of Cut) × (s' ≡ s)
Gives f t Fraction s a s' = (a ≡ answer_of Fraction) × (s' ≡ s)
Gives f t End s a s' = ⊥

-- the place behind the record at `at`; where there is no whole record, `at`
abbrev pub behind : Next → ℕ → ℕ
behind (Packet seconds fraction start end) at = end
behind Cut at = at
behind Fraction at = at
behind End at = at

-- ---- the records from a place on

-- from the place `at` on, on s: n records are taken, e of them answered 8, a is the answer ("up to the first answer other than 0 or 8", else 0), p the place where it stops, s' what is left
pub data Imports (f : Format) (t : List ℕ) : (at : ℕ) → Stand → (n e a p : ℕ) → Stand → Type 0 where
  done : {at : ℕ} {s : Stand} → next_at f t at ≡ End → Imports f t at s 0 0 0 at s
  stops : {at a : ℕ} {s s' : Stand} → Gives f t (next_at f t at) s a s' → accepts a ≡ false → Imports f t at s 0 0 a at s'
  goes : {at n e b p : ℕ} {s s' s'' : Stand} (a : ℕ)
      → Gives f t (next_at f t at) s a s'
      → accepts a ≡ true
      → Imports f t (behind (next_at f t at) at) s' n e b p s''
      → Imports f t at s (suc n) (one (eqb a 8) + e) b p s''

-- ---- a whole file

-- a head that is refused, 14 or 15: nothing is called
pub record Unread (h : Result Format HeadError) (s : Stand) (n e a p : ℕ) (s' : Stand) : Type 0 where
  pub taken : n ≡ 0
  pub eights : e ≡ 0
  pub answer : a ≡ head_answer h
  pub place : p ≡ head_place h
  pub left : s' ≡ s

-- by what the head says
abbrev pub Opened : List ℕ → Result Format HeadError → Stand → (n e a p : ℕ) → Stand → Type 0
Opened t (Ok f) s n e a p s' = Imports f t (head_place (Ok f)) s n e a p s'
Opened t (Err error) s n e a p s' = Unread (Err error) s n e a p s'

abbrev pub ImportsFile : List ℕ → Stand → (n e a p : ℕ) → Stand → Type 0
ImportsFile t s n e a p s' = Opened t (head_of t) s n e a p s'
