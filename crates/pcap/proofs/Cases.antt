-- The cases of a head and of a record, over the numbers that the code read.
-- Assumes nothing.
use Rattle.std.proofs.Common.{◌≡◌, ℕ, ◌+◌, ◌*◌, ◌^◌, ◌<◌, ◌≤◌, Bool, true, false, List, length, ap, le-ltb, eq-eqb, ne_eqb, le-leb}
use borrow.Author.Tests.{lt-leb}
use Rattle.std.specs.Prelude.{Some, None, Result, Ok, Err}
use Rattle.pcap.specs.Numbers.{number_at}
use Rattle.pcap.specs.Pcap.{unit_of, linked, by_unit, marked, head_of, captured, original, body_at}
use Rattle.pcap.specs.declared.Format.{Format}
use Rattle.pcap.specs.declared.HeadError.{HeadError}
use Rattle.pcap.specs.declared.HeadError.TheVariants.{Mark, Link}
use Rattle.pcap.specs.declared.Next.TheVariants.{Cut, Fraction}

module _ (t : List ℕ) where
  pub short : length t < 24 → Err Mark ≡ head_of t
  unfolding head_of
  short h = rw (lt-leb _ _ h)

  pub long : 24 ≤ length t → marked false t (marked true t (Err Mark)) ≡ head_of t
  unfolding head_of
  long h = rw (le-leb _ _ h)

  module _ (big : Bool) (other : Result Format HeadError) where
    pub here : {unit : ℕ} → Some unit ≡ unit_of (number_at big 0 t) → linked t (record { big = big; unit = unit }) ≡ marked big t other
    here e = ap (by_unit big t other) e

    pub elsewhere : None ≡ unit_of (number_at big 0 t) → other ≡ marked big t other
    elsewhere e = ap (by_unit big t other) e

-- n is the link type that the code read
module _ (t : List ℕ) (f : Format) (n : ℕ) (e : n ≡ number_at f.big 20 t) where
  pub usb-packets : n ≡ 288 → Ok f ≡ linked t f
  usb-packets h = rw (← e, eq-eqb _ _ h)

  pub other-packets : (n ≡ 288 → ⊥) → Err Link ≡ linked t f
  other-packets h = rw (← e, ne_eqb _ _ h)

-- n and m are the captured and the original length that the code read
module _ (f : Format) (t : List ℕ) (at n m : ℕ) (en : n ≡ captured f.big t at) (em : m ≡ original f.big t at) where
  pub cut-other : at + 16 + n ≤ length t → (m ≡ n → ⊥) → Cut ≡ body_at f t at
  unfolding body_at
  cut-other h d = rw (← en, ← em, le-leb _ _ h, ne_eqb _ _ d)

  module _ (fraction : ℕ) (ef : fraction ≡ number_at f.big (at + 4) t) (h : at + 16 + n ≤ length t) (d : m ≡ n) where
    pub too-late : 10 ^ 9 ≤ fraction * f.unit → Fraction ≡ body_at f t at
    unfolding body_at
    too-late l = rw (← en, ← em, ← ef, le-leb _ _ h, eq-eqb _ _ d, le-ltb _ _ l)

pub cut_short : (f : Format) (t : List ℕ) (at : ℕ) → length t < at + 16 + captured f.big t at → Cut ≡ body_at f t at
unfolding body_at
cut_short f t at h = rw (lt-leb _ _ h)
