-- A packet of a pcap file: where it lies, and that its time is told as it is.
use Prim.Native.Nat.{ℕ, ◌%◌, ◌^◌}
use native.Mathlib.Omega.{arith}
use mathlib.Core.Bool.{Bool, true, false, ◌&&◌, true≢false}
use mathlib.Core.List.{List}
use mathlib.Core.Path.{◌≡◌, refl, sym, ap, subst, ◌∙◌}
use Rattle.std.specs.Prelude.{Result, Ok, IfOk}
use Rattle.record.specs.Bools.{both}
use Rattle.pcap.specs.Pcap.{next_at, time_of}
use Rattle.pcap.proofs.PcapLaws.{Inside, packet_inside, time-fits}
use Rattle.pcap.specs.declared.Format.{Format}
use Rattle.pcap.specs.declared.Next.{Next}
use Rattle.pcap.specs.declared.Next.TheVariants.{Packet, Cut, Fraction, End}
use Rattle.stream.specs.Part.{is_short, pcap_part}
use Rattle.stream.specs.Piece.{piece_of, Short, Timed}
use Rattle.stream.specs.declared.part.Part.{Part}
use Rattle.stream.specs.declared.piece.Piece.{Piece}

pub timed_inside : {f : Format} {t : List ℕ} {at time start end : ℕ} (k : Timed f t at time start end) → Inside f t at k.fraction start end
timed_inside {f} {t} {at} {start = start} {end = end} k = packet_inside f t at k.seconds k.fraction start end (sym k.found)

-- as the loop takes it
pub record IsTimed (f : Format) (t : List ℕ) (at : ℕ) (b : Bool) (p : Part) : Type 0 where
  pub ready : b ≡ true
  pub timed : Timed f t at p.time p.start p.end
  pub short : is_short p.start p.end ≡ true
  pub behind : p.next ≡ p.end

module _ (f : Format) (t : List ℕ) (at : ℕ) where
  timed_by : (n : Next) → next_at f t at ≡ n → Short n → IfOk (piece_of f n) (λ p. Timed f t at p.time p.start p.end)
  timed_by (Packet seconds fraction start end) q z =
      let i = packet_inside f t at seconds fraction start end (sym q) in
      let w = time-fits f seconds fraction z i.early in
      let e : time_of f seconds fraction % 2 ^ 64 ≡ time_of f seconds fraction = omega (arith, w) in
      record { seconds = seconds; fraction = fraction; found = q; told = e }
  timed_by Cut q z = tt
  timed_by Fraction q z = tt
  timed_by End q z = tt

  -- a packet that was found, as the code tells it
  pub timed-is : {n : Next} {p : Piece} → n ≡ next_at f t at → Short n → Ok p ≡ piece_of f n → Timed f t at p.time p.start p.end
  timed-is {n} q z e = subst (λ (r : Result Piece ℕ). IfOk r (λ x. Timed f t at x.time x.start x.end)) (sym e) (timed_by n (sym q) z)

  part-timed : (b : Bool) (n : Next) → next_at f t at ≡ n → Short n → (pcap_part b f n).taken ≡ true → IsTimed f t at b (pcap_part b f n)
  part-timed b (Packet seconds fraction start end) q z h =
      let g = both b (is_short start end) h in
      record { ready = g.0; timed = timed_by (Packet seconds fraction start end) q z; short = g.1; behind = refl }
  part-timed b Cut q z h = absurd (true≢false (sym h))
  part-timed b Fraction q z h = absurd (true≢false (sym h))
  part-timed b End q z h = absurd (true≢false (sym h))

  pub pcap_by : (b : Bool) → Short (next_at f t at) → (pcap_part b f (next_at f t at)).taken ≡ true → IsTimed f t at b (pcap_part b f (next_at f t at))
  pcap_by b z h = part-timed b (next_at f t at) refl z h
