-- Laws (proved): how many steps are allowed does not matter, once they reach the end of the file: for callers.
-- Assumes nothing.
use Rattle.std.specs.Prelude.{◌≡◌, ℕ, zero, suc, ◌+◌, ◌<◌, ◌≤◌, List, ◌∷◌, length, refl}
use Rattle.std.proofs.Common.{arith, sym, le-ltb}
use Rattle.std.proofs.Math.Seq.{slice}
use Rattle.pcap.specs.Pcap.{next_at}
use Rattle.pcap.specs.Reading.{Read, stop, onward, read_from}
use Rattle.pcap.proofs.PcapLaws.{Grown, grown}
use Rattle.pcap.specs.declared.Format.{Format}
use Rattle.pcap.specs.declared.Next.{Next}
use Rattle.pcap.specs.declared.Next.TheVariants.{Packet, Cut, Fraction, End}

module _ (f : Format) (t : List ℕ) where
  onward_same : (at : ℕ) (more again : ℕ → Read) → ((end : ℕ) → at < end → more end ≡ again end) → (x : Next) → Grown f t at x
      → onward t at more x ≡ onward t at again x
  onward_same at more again same (Packet seconds fraction start end) g =
      let q : more end ≡ again end = same end (omega arith) in
      λ i. record {
        items = record { seconds = seconds; fraction = fraction; bytes = slice start end t } ∷ (q i).items;
        answer = (q i).answer;
        place = (q i).place;
      }
  onward_same at more again same Cut g = refl
  onward_same at more again same Fraction g = refl
  onward_same at more again same End g = refl

  ended : (n at : ℕ) → length t ≤ at → read_from f (suc n) t at ≡ stop 0 at
  ended n at h = rw (le-ltb _ _ h)

  pub enough : (n m at : ℕ) → length t ≤ at + n → length t ≤ at + m → read_from f n t at ≡ read_from f m t at
  enough zero zero at h g = refl
  enough zero (suc m) at h g = sym (ended m at (omega arith))
  enough (suc n) zero at h g = ended n at (omega arith)
  enough (suc n) (suc m) at h g =
      onward_same at (read_from f n t) (read_from f m t) (λ end l. enough n m end (omega arith) (omega arith)) (next_at f t at) (grown f t at)
