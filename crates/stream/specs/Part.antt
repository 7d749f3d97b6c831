-- Inner (cited by private contracts alone): which records the loop takes by the inner call.
use Rattle.std.specs.Prelude.{ℕ, ◌-◌, Result, Ok, Err, Bool, true, false, ◌&&◌, cond, List, leb, ltb}
use Rattle.trace.specs.Clock.{tick_of}
use Rattle.trace.specs.Trace.{next_at}
use Rattle.trace.specs.declared.Next.{Next}
use Rattle.trace.specs.declared.Next.TheVariants.{Packet, Event, Detail, Unknown, Cut, End}
use Rattle.trace.specs.declared.clock.Clock.{Clock}
use Rattle.pcap.specs.Pcap as pcap
use Rattle.pcap.specs.declared.Format.{Format}
use Rattle.pcap.specs.declared.Next as found
use Rattle.stream.specs.Piece.{piece_of, Short}
use Rattle.stream.specs.declared.part.Part.{Part}
use Rattle.stream.specs.declared.piece.Piece.{Piece}
use Rattle.stream.specs.declared.part.Reader.{Reader}
use Rattle.stream.specs.declared.part.Reader.TheVariants.{Trace, Pcap}

-- a packet that is not too long (01, Sizes)
abbrev pub is_short : ℕ → ℕ → Bool
is_short start end = cond (ltb end start) false (leb (end - start) 4096)

abbrev pub no_part : Part
no_part = record { taken = false; ticks = 0; time = 0; start = 0; end = 0; next = 0 }

-- of a trace: a packet, where `ready` says so; of all else nothing
abbrev pub trace_part : Bool → Clock → Next → Part
trace_part ready c (Packet ticks start end next) =
    record { taken = ready && is_short start end; ticks = ticks; time = (tick_of c ticks).time; start = start; end = end; next = next.at }
trace_part ready c (Event ticks kind code next) = no_part
trace_part ready c (Detail address number direction kind max next) = no_part
trace_part ready c Unknown = no_part
trace_part ready c Cut = no_part
trace_part ready c End = no_part

-- of a pcap file: likewise, with the packet's own time
abbrev pub part_by : Bool → Result Piece ℕ → Part
part_by ready (Ok p) = record { taken = ready && is_short p.start p.end; ticks = 0; time = p.time; start = p.start; end = p.end; next = p.end }
part_by ready (Err answer) = no_part

abbrev pub pcap_part : Bool → Format → found.Next → Part
pcap_part ready f n = part_by ready (piece_of f n)

-- the clock behind a packet; a pcap file has no ticks, and nobody reads its clock
abbrev pub clock_by : Part → Clock
clock_by p = record { started = true; last = p.ticks; time = p.time }

-- what the reader finds at a place, where the clock is c
abbrev pub part_at : Reader → Bool → Clock → List ℕ → ℕ → Part
part_at Trace ready c t at = trace_part ready c (next_at t at)
part_at (Pcap f) ready c t at = pcap_part ready f (pcap.next_at f t at)

abbrev pub SecondsAt : Reader → List ℕ → ℕ → Type 0
SecondsAt Trace t at = Unit {0}
SecondsAt (Pcap f) t at = Short (pcap.next_at f t at)
