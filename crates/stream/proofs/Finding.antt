-- What a reader finds at a place: that it is a packet which may be called, and where it lies.
use Prim.Native.Nat.{ℕ, ◌-◌, ◌%◌, ◌^◌, ◌<◌, ◌≤◌}
use native.Mathlib.Omega.{arith}
use mathlib.Core.Bool.{Bool, true, false, ◌&&◌, cond, true≢false}
use mathlib.Core.List.{List}
use mathlib.Core.Path.{◌≡◌, refl, sym, ap, subst, ◌∙◌}
use borrow.Author.Tests.{leb-true}
use lib.Dec.{leb, ltb}
use lib.ListN.{length}
use Rattle.record.specs.Bools.{both}
use Rattle.trace.proofs.Laws.{packet_inside}
use Rattle.trace.specs.Trace.{next_at}
use Rattle.trace.specs.declared.Next.{Next}
use Rattle.trace.specs.declared.Next.TheVariants.{Packet, Event, Detail, Unknown, Cut, End}
use Rattle.trace.specs.declared.clock.Clock.{Clock}
use Rattle.pcap.specs.Pcap as pcap
use Rattle.pcap.specs.declared.Format.{Format}
use Rattle.pcap.specs.declared.Next as found
use Rattle.stream.specs.Led.{Ticked, Finds}
use Rattle.stream.specs.Part.{is_short, trace_part, pcap_part, part_at, SecondsAt}
use Rattle.stream.specs.Piece.{Short}
use Rattle.stream.specs.declared.part.Part.{Part}
use Rattle.stream.specs.declared.part.Reader.{Reader}
use Rattle.stream.specs.declared.part.Reader.TheVariants.{Trace, Pcap}
use Rattle.stream.proofs.Pieces.{timed_inside, pcap_by}

-- ---- where it lies

pub record Inside (t : List ℕ) (at : ℕ) (p : Part) : Type 0 where
  pub part : p.start ≤ p.end
  pub ends : p.end ≤ length t
  pub grows : at < p.next
  pub stays : p.next ≤ length t

pub finds_inside : (r : Reader) (t : List ℕ) (at : ℕ) (c : Clock) (p : Part) → Finds r t at c p → Inside t at p
finds_inside Trace t at c p k =
    let i = packet_inside t at p.ticks p.start p.end k.next (sym k.found) in
    let h = k.place in
    record { part = i.part; ends = omega (arith, i.last, i.whole.stays); grows = omega (arith, i.whole.grows); stays = omega (arith, i.whole.stays) }
finds_inside (Pcap f) t at c p k =
    let i = timed_inside k.0 in
    let h = k.1 in
    record { part = i.part; ends = i.stays; grows = omega (arith, i.first, i.part); stays = omega (arith, i.stays) }

-- ---- by which reader

pub at_trace : (r : Reader) (b : Bool) (c : Clock) (t : List ℕ) (at : ℕ) {n : Next} {p : Part} → r ≡ Trace → n ≡ next_at t at → p ≡ trace_part b c n → (p ≡ part_at r b c t at) × SecondsAt r t at
at_trace r b c t at {p = p} q e k = subst (λ (x : Reader). (p ≡ part_at x b c t at) × SecondsAt x t at) (sym q) (k ∙ ap (trace_part b c) e, tt)

pub at_pcap : (r : Reader) (b : Bool) (c : Clock) (t : List ℕ) (at : ℕ) {f : Format} {n : found.Next} {p : Part} → r ≡ Pcap f → n ≡ pcap.next_at f t at → p ≡ pcap_part b f n → Short n → (p ≡ part_at r b c t at) × SecondsAt r t at
at_pcap r b c t at {f} {p = p} q e k z = subst (λ (x : Reader). (p ≡ part_at x b c t at) × SecondsAt x t at) (sym q) (k ∙ ap (pcap_part b f) e, subst Short e z)

-- ---- that it may be called

pub record IsPart (r : Reader) (b : Bool) (t : List ℕ) (at : ℕ) (c : Clock) (p : Part) : Type 0 where
  pub ready : b ≡ true
  pub finds : Finds r t at c p
  pub short : p.end - p.start ≤ 4096

short_by : (start end : ℕ) (b : Bool) → cond b false (leb (end - start) 4096) ≡ true → end - start ≤ 4096
short_by start end true h = absurd (true≢false (sym h))
short_by start end false h = leb-true _ _ h

trace_by : (b : Bool) (t : List ℕ) (at : ℕ) (c : Clock) (n : Next) → next_at t at ≡ n → (trace_part b c n).taken ≡ true → IsPart Trace b t at c (trace_part b c n)
trace_by b t at c (Packet ticks start end next) q h =
    let g = both b (is_short start end) h in
    record { ready = g.0; finds = record { next = next; found = q; place = refl; told = refl }; short = short_by start end (ltb end start) g.1 }
trace_by b t at c (Event ticks kind code next) q h = absurd (true≢false (sym h))
trace_by b t at c (Detail address number direction kind max next) q h = absurd (true≢false (sym h))
trace_by b t at c Unknown q h = absurd (true≢false (sym h))
trace_by b t at c Cut q h = absurd (true≢false (sym h))
trace_by b t at c End q h = absurd (true≢false (sym h))

part_by : (r : Reader) (b : Bool) (t : List ℕ) (at : ℕ) (c : Clock) → SecondsAt r t at → (part_at r b c t at).taken ≡ true → IsPart r b t at c (part_at r b c t at)
part_by Trace b t at c z h = trace_by b t at c (next_at t at) refl h
part_by (Pcap f) b t at c z h =
    let k = pcap_by f t at b z h in
    let p = pcap_part b f (pcap.next_at f t at) in
    record { ready = k.ready; finds = (k.timed, k.behind); short = short_by p.start p.end (ltb p.end p.start) k.short }

pub part-is : (r : Reader) (b : Bool) (t : List ℕ) (at : ℕ) (c : Clock) {p : Part} → p ≡ part_at r b c t at → SecondsAt r t at → p.taken ≡ true → IsPart r b t at c p
part-is r b t at c {p} e z h = subst (λ (x : Part). IsPart r b t at c x) (sym e) (part_by r b t at c z (sym (ap (λ (x : Part). x.taken) e) ∙ h))
