-- Laws (proved): a packet ends behind its start and within the file, and its fraction is below one second: for callers.
-- Assumes nothing.
use Rattle.std.specs.Prelude.{◌≡◌, ℕ, ◌+◌, ◌*◌, ◌^◌, ◌<◌, ◌≤◌, Bool, true, false, cond, ◌&&◌, List, length, nat_lt, refl}
use Rattle.std.proofs.Common.{arith}
use borrow.Author.Tests.{leb-true, ltb-true, eq-eqb, le-leb, lt-ltb}
use Rattle.pcap.specs.Numbers.{number_at}
use Rattle.pcap.specs.Pcap.{captured, original, complete, below, judged, body_at, next_at, time_of}
use Rattle.pcap.specs.declared.Format.{Format}
use Rattle.pcap.specs.declared.Next.{Next}
use Rattle.pcap.specs.declared.Next.TheVariants.{Packet, Cut, Fraction, End}

pub record Inside (f : Format) (t : List ℕ) (at fraction start end : ℕ) : Type 0 where
  pub first : at < start
  pub part : start ≤ end
  pub stays : end ≤ length t
  pub early : fraction * f.unit < 10 ^ 9

abbrev pub Grown : Format → List ℕ → ℕ → Next → Type 0
Grown f t at (Packet seconds fraction start end) = Inside f t at fraction start end
Grown f t at Cut = Unit {0}
Grown f t at Fraction = Unit {0}
Grown f t at End = Unit {0}

judged_by : (P : Next → Type 0) (a b : Bool) (x : Next) → P Cut → P Fraction → (a ≡ true → b ≡ true → P x) → P (judged a b x)
judged_by P false b x c d h = c
judged_by P true false x c d h = d
judged_by P true true x c d h = h refl refl

ended_by : (P : Next → Type 0) (b : Bool) (x : Next) → P x → P End → P (cond b x End)
ended_by P true x h e = h
ended_by P false x h e = e

first_true : (a b : Bool) → a && b ≡ true → a ≡ true
first_true true b h = refl
first_true false b h = h

module _ (f : Format) (t : List ℕ) (at : ℕ) where
  body-grown : Grown f t at (body_at f t at)
  unfolding body_at
  body-grown =
      judged_by (Grown f t at) (complete f.big t at) (below f (number_at f.big (at + 4) t)) _ tt tt
      (λ h g.
      let e = leb-true (at + 16 + captured f.big t at) (length t) (first_true _ _ h) in
      record { first = omega arith; part = omega arith; stays = e; early = ltb-true _ _ g })

  pub grown : Grown f t at (next_at f t at)
  grown = ended_by (Grown f t at) (nat_lt at (length t)) _ body-grown tt

  -- of what `next_record` gave
  pub packet_inside : (seconds fraction start end : ℕ) → Packet seconds fraction start end ≡ next_at f t at → Inside f t at fraction start end
  packet_inside seconds fraction start end e = rw (← e) at grown

  -- a whole record, by its four numbers
  pub packet_of : (n m fraction seconds : ℕ)
      → n ≡ captured f.big t at
      → m ≡ original f.big t at
      → fraction ≡ number_at f.big (at + 4) t
      → seconds ≡ number_at f.big at t
      → at + 16 + n ≤ length t
      → m ≡ n
      → fraction * f.unit < 10 ^ 9
      → Packet seconds fraction (at + 16) (at + 16 + n) ≡ body_at f t at
  unfolding body_at
  packet_of n m fraction seconds en em ef es h d l =
      rw (← en, ← em, ← ef, ← es, le-leb _ _ h, eq-eqb _ _ d, lt-ltb _ _ l)

-- the time of such a packet is a word, so that `time` tells it as it is
pub time-fits : (f : Format) (seconds fraction : ℕ) → seconds < 2 ^ 32 → fraction * f.unit < 10 ^ 9 → time_of f seconds fraction < 2 ^ 64
time-fits f seconds fraction h g = omega arith
