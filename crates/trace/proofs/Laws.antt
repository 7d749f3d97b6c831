-- Laws (proved): each record ends behind its start and within the trace, so a run over the records ends: for callers. Nothing here is to be believed;
-- all of it follows from Trace.
-- Assumes nothing.
use Rattle.std.specs.Prelude.{◌≡◌, ℕ, ◌+◌, ◌<◌, ◌≤◌, Bool, true, false, List, length, ◌==◌, nat_le, nat_lt, slice_index, refl}
use Rattle.std.proofs.Common.{arith, leb-true}
use Rattle.usb.specs.Packet.{pick}
use Rattle.trace.specs.Trace.{little_endian, packet_at, event_at, detail_at, next_at}
use Rattle.trace.specs.declared.Cursor.{Cursor}
use Rattle.trace.specs.declared.Next.{Next}
use Rattle.trace.specs.declared.Next.TheVariants.{Packet, Event, Detail, Unknown, Cut, End}

-- a record from `at` up to `next`
pub record Inside (t : List ℕ) (at : ℕ) (next : Cursor) : Type 0 where
  pub grows : at < next.at
  pub stays : next.at ≤ length t

-- and a packet's bytes, which are its last
pub record PacketInside (t : List ℕ) (at start end : ℕ) (next : Cursor) : Type 0 where
  pub part : start ≤ end
  pub last : end ≡ next.at
  pub whole : Inside t at next

abbrev pub Grown : List ℕ → ℕ → Next → Type 0
Grown t at (Packet ticks start end next) = PacketInside t at start end next
Grown t at (Event ticks kind code next) = Inside t at next
Grown t at (Detail address number direction kind max next) = Inside t at next
Grown t at Unknown = Unit {0}
Grown t at Cut = Unit {0}
Grown t at End = Unit {0}

picked : (P : Next → Type 0) (b : Bool) (x y : Next) → (b ≡ true → P x) → P y → P (pick b x y)
picked P true x y f g = f refl
picked P false x y f g = g

module _ (t : List ℕ) (at : ℕ) where
  inside : (n : ℕ) → at + (7 + n) ≤ length t → Inside t at (record { at = at + 7 + n })
  inside n h = record { grows = omega arith; stays = omega arith }

  packet_inside_at : (n : ℕ) → at + (7 + n) ≤ length t → PacketInside t at (at + 7) (at + 7 + n) (record { at = at + 7 + n })
  packet_inside_at n h = record { part = omega arith; last = refl; whole = inside n h }

  head_inside : at + 7 ≤ length t → Inside t at (record { at = at + 7 })
  head_inside h = record { grows = omega arith; stays = omega arith }

  packet-grown : Grown t at (packet_at t at)
  unfolding packet_at
  packet-grown = picked (Grown t at) (nat_le (at + (7 + little_endian 2 (at + 5) t)) (length t)) _ Cut (λ h. packet_inside_at _ (leb-true _ _ h)) tt

  event-grown : Grown t at (event_at t at)
  unfolding event_at
  event-grown = picked (Grown t at) (nat_le (at + 7) (length t)) _ Cut (λ h. head_inside (leb-true _ _ h)) tt

  detail-grown : Grown t at (detail_at t at)
  unfolding detail_at
  detail-grown = picked (Grown t at) (nat_le (at + 7) (length t)) _ Cut (λ h. head_inside (leb-true _ _ h)) tt

  pub grown : Grown t at (next_at t at)
  grown =
      picked (Grown t at) (nat_lt at (length t)) _ _
      (λ _. picked (Grown t at) (slice_index t at == 0) _ _ (λ _. packet-grown)
      (picked (Grown t at) (slice_index t at == 1) _ _ (λ _. event-grown)
      (picked (Grown t at) (slice_index t at == 2) _ _ (λ _. detail-grown) tt)))
      tt

  -- of what `next_record` gave
  pub packet_inside : (ticks start end : ℕ) (next : Cursor) → Packet ticks start end next ≡ next_at t at → PacketInside t at start end next
  packet_inside ticks start end next e = rw (← e) at grown

  pub event_inside : (ticks kind code : ℕ) (next : Cursor) → Event ticks kind code next ≡ next_at t at → Inside t at next
  event_inside ticks kind code next e = rw (← e) at grown

  pub detail_inside : (address number direction kind max : ℕ) (next : Cursor)
      → Detail address number direction kind max next ≡ next_at t at → Inside t at next
  detail_inside address number direction kind max next e = rw (← e) at grown
