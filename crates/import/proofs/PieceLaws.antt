-- Laws (proved): a file that is lent in pieces: what stands before a cut stands in the whole, and what follows is read from its place on as if a file began there.
use Rattle.std.specs.Prelude.{ℕ, ◌+◌, ◌*◌, ◌^◌, ◌≤◌, Bool, true, false, cond, ◌&&◌, ◌≡◌, ltb, take, drop}
use native.Mathlib.Omega.{arith}
use Rattle.std.proofs.Common.{true≢false, sym, subst, ◌∙◌, le-leb, lt-ltb, le-ltb, leb-true, leb-false, ltb-true, ltb-false, length-append, length-drop, take-append-drop, length-take-le}
use mathlib.Core.List.{List, ◌++◌}
use Rattle.std.proofs.Math.Path.{refl, ap}
use Rattle.std.proofs.lemmas.Bool.{lt-leb}
use Rattle.std.proofs.Math.Dec.{eqb, leb}
use Rattle.std.proofs.Math.ListN.{length}
use Rattle.std.proofs.Math.Seq.{slice, drop-append-add, take-append-add}
use Rattle.std.proofs.lemmas.List.{drop-append-le, take-append-le}
use Rattle.pcap.specs.Numbers.{number, number_at}
use Rattle.pcap.specs.Pcap.{captured, complete, below, judged, body_at, next_at}
use Rattle.pcap.proofs.PcapLaws.{Grown, grown}
use Rattle.pcap.specs.declared.Format.{Format}
use Rattle.pcap.specs.declared.Next.{Next}
use Rattle.pcap.specs.declared.Next.TheVariants.{Packet, Cut, Fraction, End}
use Rattle.call.specs.Outcome.{accepts}
use Rattle.packet.specs.Call.{PacketCall}
use Rattle.step.specs.Block.{Stand}
use Rattle.import.specs.Import.{Gives, behind, Imports}
use Rattle.import.specs.Import.Imports.{done, stops, goes}
use Rattle.import.proofs.ImportLaws.{gives-kept}

-- ---- a record behind a cut

-- k bytes further on
abbrev moved : ℕ → Next → Next
moved k (Packet seconds fraction start end) = Packet seconds fraction (k + start) (k + end)
moved k Cut = Cut
moved k Fraction = Fraction
moved k End = End

moved-judged : (k : ℕ) (a b : Bool) (x : Next) → judged a b (moved k x) ≡ moved k (judged a b x)
moved-judged k false b x = refl
moved-judged k true false x = refl
moved-judged k true true x = refl

moved-ended : (k : ℕ) (b : Bool) (x : Next) → cond b (moved k x) End ≡ moved k (cond b x End)
moved-ended k true x = refl
moved-ended k false x = refl

leb-add : (k i l : ℕ) → leb (k + i) (k + l) ≡ leb i l
leb-add k i l = by (leb i l) refl
  where
    by : (b : Bool) → leb i l ≡ b → leb (k + i) (k + l) ≡ b
    by true e = let h = leb-true i l e in le-leb (k + i) (k + l) (omega arith)
    by false e = let h = leb-false i l e in lt-leb (k + i) (k + l) (omega arith)

ltb-add : (k i l : ℕ) → ltb (k + i) (k + l) ≡ ltb i l
ltb-add k i l = by (ltb i l) refl
  where
    by : (b : Bool) → ltb i l ≡ b → ltb (k + i) (k + l) ≡ b
    by true e = let h = ltb-true i l e in lt-ltb (k + i) (k + l) (omega arith)
    by false e = let h = ltb-false i l e in le-ltb (k + i) (k + l) (omega arith)

module _ (f : Format) (u v : List ℕ) (at : ℕ) where
  number_behind : (j i : ℕ) → j ≡ length u + i → number_at f.big j (u ++ v) ≡ number_at f.big i v
  unfolding number_at
  number_behind j i e = ap (λ (k : ℕ). number f.big (take 4 (drop k (u ++ v)))) e ∙ ap (λ (l : List ℕ). number f.big (take 4 l)) (drop-append-add u v i)

  body-behind : body_at f (u ++ v) (length u + at) ≡ moved (length u) (body_at f v at)
  unfolding body_at
  body-behind =
      let s = number_behind (length u + at) at refl in
      let x = number_behind (length u + at + 4) (at + 4) (omega arith) in
      let c = number_behind (length u + at + 8) (at + 8) (omega arith) in
      let o = number_behind (length u + at + 12) (at + 12) (omega arith) in
      let n = number_at f.big (at + 8) v in
      let start : length u + at + 16 ≡ length u + (at + 16) = omega arith in
      let end : length u + at + 16 + n ≡ length u + (at + 16 + n) = omega arith in
      let e = ap (λ (k : ℕ). length u + at + 16 + k) c ∙ end in
      let l = (λ i. leb (e i) (length-append u v i)) ∙ leb-add (length u) (at + 16 + n) (length v) in
      (λ i. judged (l i && eqb (o i) (c i)) (below f (x i)) (Packet (s i) (x i) (start i) (e i)))
      ∙ moved-judged (length u) (complete f.big v at) (below f (number_at f.big (at + 4) v)) (Packet (number_at f.big at v) (number_at f.big (at + 4) v) (at + 16) (at + 16 + n))

  next-behind : next_at f (u ++ v) (length u + at) ≡ moved (length u) (next_at f v at)
  next-behind =
      let l = (λ i. ltb (length u + at) (length-append u v i)) ∙ ltb-add (length u) at (length v) in
      (λ i. cond (l i) (body-behind i) End) ∙ moved-ended (length u) (ltb at (length v)) (body_at f v at)

slice-behind : (u v : List ℕ) (start end : ℕ) → slice (length u + start) (length u + end) (u ++ v) ≡ slice start end v
slice-behind u v start end = ap (drop (length u + start)) (take-append-add u v end) ∙ drop-append-add u (take end v) start

gives_moved : (f : Format) (u v : List ℕ) (n : Next) (s : Stand) (a : ℕ) (s' : Stand) → Gives f v n s a s' → Gives f (u ++ v) (moved (length u) n) s a s'
gives_moved f u v (Packet seconds fraction start end) s a s' x =
    subst (λ (b : List ℕ). PacketCall b (seconds * 10 ^ 9 + fraction * f.unit) s.state s.shelf a s'.state s'.shelf) (sym (slice-behind u v start end)) x
gives_moved f u v Cut s a s' x = x
gives_moved f u v Fraction s a s' x = x
gives_moved f u v End s a s' x = x

behind_moved : (k : ℕ) (n : Next) (at : ℕ) → behind (moved k n) (k + at) ≡ k + behind n at
behind_moved k (Packet seconds fraction start end) at = refl
behind_moved k Cut at = refl
behind_moved k Fraction at = refl
behind_moved k End at = refl

-- all records behind it
behind-all : {f : Format} (u : List ℕ) {v : List ℕ} {at n e a p : ℕ} {s s' : Stand} → Imports f v at s n e a p s' → Imports f (u ++ v) (length u + at) s n e a (length u + p) s'
behind-all {f} u {v} {at} (done x) = done (next-behind f u v at ∙ ap (moved (length u)) x)
behind-all {f} u {v} {at} {a = a} {s = s} {s' = s'} (stops x h) =
    stops (subst (λ (m : Next). Gives f (u ++ v) m s a s') (sym (next-behind f u v at)) (gives_moved f u v (next_at f v at) s a s' x)) h
behind-all {f} u {v} {at} {p = p} {s = s} {s' = s''} (goes {n = n} {e = e} {b = b} {s' = s'} a x h r) =
    let q = next-behind f u v at in
    goes a (subst (λ (m : Next). Gives f (u ++ v) m s a s') (sym q) (gives_moved f u v (next_at f v at) s a s' x)) h
    (subst (λ (m : Next). Imports f (u ++ v) (behind m (length u + at)) s' n e b (length u + p) s'') (sym q)
    (subst (λ (i : ℕ). Imports f (u ++ v) i s' n e b (length u + p) s'') (sym (behind_moved (length u) (next_at f v at) at)) (behind-all u r)))

-- the records of what lies from the place `at` on
pub from-there : {f : Format} (t : List ℕ) (at : ℕ) {n e a p : ℕ} {s s' : Stand} → at ≤ length t → Imports f (drop at t) 0 s n e a p s' → Imports f t at s n e a (at + p) s'
from-there {f} t at {n} {e} {a} {p} {s} {s'} h x =
    let size = length-take-le at t h in
    let here : length (take at t) + 0 ≡ at = omega arith in
    subst (λ (i : ℕ). Imports f t at s n e a (i + p) s') size
    (subst (λ (i : ℕ). Imports f t i s n e a (length (take at t) + p) s') here
    (subst (λ (l : List ℕ). Imports f l (length (take at t) + 0) s n e a (length (take at t) + p) s') (take-append-drop at t) (behind-all (take at t) x)))

-- ---- a record before a cut

-- a packet that stands in the first piece
module _ (f : Format) (u v : List ℕ) (at : ℕ) where
  number-before : (j : ℕ) → j + 4 ≤ length u → number_at f.big j (u ++ v) ≡ number_at f.big j u
  unfolding number_at
  number-before j h =
      let k : 4 ≤ length (drop j u) = rw (length-drop) (omega arith) in
      ap (λ (l : List ℕ). number f.big (take 4 l)) (drop-append-le j u v (omega arith)) ∙ ap (number f.big) (take-append-le 4 (drop j u) v k)

  -- all of it lies before the cut
  length_before : (n : ℕ) → n ≤ length u → leb n (length (u ++ v)) ≡ leb n (length u)
  length_before n h = le-leb n (length (u ++ v)) (omega (arith, length-append u v)) ∙ sym (le-leb n (length u) h)

  body-before : at + 16 + captured f.big u at ≤ length u → body_at f (u ++ v) at ≡ body_at f u at
  unfolding body_at
  body-before h =
      let s = number-before at (omega (arith, h)) in
      let x = number-before (at + 4) (omega (arith, h)) in
      let c = number-before (at + 8) (omega (arith, h)) in
      let o = number-before (at + 12) (omega (arith, h)) in
      let l = ap (λ (k : ℕ). leb (at + 16 + k) (length (u ++ v))) c ∙ length_before (at + 16 + captured f.big u at) h in
      λ i. judged (l i && eqb (o i) (c i)) (below f (x i)) (Packet (s i) (x i) (at + 16) (at + 16 + c i))

-- a packet
abbrev Whole : Next → Type 0
Whole (Packet seconds fraction start end) = Unit {0}
Whole Cut = ⊥
Whole Fraction = ⊥
Whole End = ⊥

whole-judged : (a b : Bool) (x : Next) → Whole (judged a b x) → a ≡ true
whole-judged true b x w = refl
whole-judged false b x w = absurd w

whole-there : (b : Bool) (x : Next) → Whole (cond b x End) → (b ≡ true) × Whole x
whole-there true x w = (refl, w)
whole-there false x w = absurd w

first_true : (a b : Bool) → a && b ≡ true → a ≡ true
first_true true b h = refl
first_true false b h = h

next-before : (f : Format) (u v : List ℕ) (at : ℕ) → Whole (next_at f u at) → next_at f (u ++ v) at ≡ next_at f u at
unfolding body_at
next-before f u v at w =
    let h = whole-there (ltb at (length u)) (body_at f u at) w in
    let k = whole-judged (complete f.big u at) _ _ h.1 in
    let m = leb-true (at + 16 + captured f.big u at) (length u) (first_true _ _ k) in
    let l = lt-ltb at (length (u ++ v)) (omega (arith, m, length-append u v)) ∙ sym h.0 in
    λ i. cond (l i) (body-before f u v at m i) End

-- a record that was taken is a packet, and lies before the cut
whole-given : (f : Format) (t : List ℕ) (n : Next) (s : Stand) (a : ℕ) (s' : Stand) → Gives f t n s a s' → accepts a ≡ true → Whole n
whole-given f t (Packet seconds fraction start end) s a s' x h = tt
whole-given f t Cut s a s' x h = absurd (true≢false (sym h ∙ ap accepts x.0))
whole-given f t Fraction s a s' x h = absurd (true≢false (sym h ∙ ap accepts x.0))
whole-given f t End s a s' x h = absurd x

gives-before : (f : Format) (u v : List ℕ) (at : ℕ) (n : Next) (s : Stand) (a : ℕ) (s' : Stand) → Grown f u at n → Gives f u n s a s' → Gives f (u ++ v) n s a s'
gives-before f u v at (Packet seconds fraction start end) s a s' g x =
    subst (λ (b : List ℕ). PacketCall b (seconds * 10 ^ 9 + fraction * f.unit) s.state s.shelf a s'.state s'.shelf) (sym (ap (drop start) (take-append-le end u v g.stays))) x
gives-before f u v at Cut s a s' g x = x
gives-before f u v at Fraction s a s' g x = x
gives-before f u v at End s a s' g x = x

behind_inside : (f : Format) (t : List ℕ) (at : ℕ) (n : Next) → Grown f t at n → at ≤ length t → behind n at ≤ length t
behind_inside f t at (Packet seconds fraction start end) g h = g.stays
behind_inside f t at Cut g h = h
behind_inside f t at Fraction g h = h
behind_inside f t at End g h = h

-- ---- pieces

-- with other words for the counts
pub counted : {f : Format} {t : List ℕ} {at n n' e e' a p : ℕ} {s s' : Stand} → n ≡ n' → e ≡ e' → Imports f t at s n e a p s' → Imports f t at s n' e' a p s'
counted {f} {t} {at} {n} {n'} {e} {e'} {a} {p} {s} {s'} h k x =
    subst (λ (m : ℕ). Imports f t at s m e' a p s') h (subst (λ (g : ℕ). Imports f t at s n g a p s') k x)

-- an import that stopped at p, for whatever answer, and goes on from there with more bytes: what the whole gives. A record that was refused, as one that was cut, left all as it was
pub pieces : {f : Format} (u v : List ℕ) {at n e a p m g b q : ℕ} {s s₁ s₂ : Stand} → at ≤ length u → Imports f u at s n e a p s₁ → Imports f (drop p (u ++ v)) 0 s₁ m g b q s₂
    → Imports f (u ++ v) at s (n + m) (e + g) b (p + q) s₂
pieces u v {at} h (done x) y = counted (omega arith) (omega arith) (from-there (u ++ v) at (omega (arith, length-append u v)) y)
pieces {f} u v {at} {m = m} {g = g} {b = b} {q = q} {s = s} {s₁ = s₁} {s₂ = s₂} h (stops {a = a} x k) y =
    counted (omega arith) (omega arith)
    (from-there (u ++ v) at (omega (arith, length-append u v)) (subst (λ (z : Stand). Imports f (drop at (u ++ v)) 0 z m g b q s₂) (gives-kept f u (next_at f u at) s a s₁ x k) y))
pieces {f} u v {at} {p = p} {m = m} {g = g} {b = b} {q = q} {s = s} {s₁ = s₁} {s₂ = s₂} h (goes {n = n} {e = e} {s' = s'} a x k r) y =
    let z = next-before f u v at (whole-given f u (next_at f u at) s a s' x k) in
    let i = pieces u v (behind_inside f u at (next_at f u at) (grown f u at) h) r y in
    counted (omega arith) (omega arith)
    (goes a (subst (λ (w : Next). Gives f (u ++ v) w s a s') (sym z) (gives-before f u v at (next_at f u at) s a s' (grown f u at) x)) k
    (subst (λ (w : Next). Imports f (u ++ v) (behind w at) s' (n + m) (e + g) b (p + q) s₂) (sym z) i))
