-- Laws (proved): what the contract of an import rules out: any two outcomes coincide, a refused record changes nothing, and a file is read from a place on as what lies there.
use Rattle.std.specs.Prelude.{ℕ, suc, ◌+◌, true, false, List, ◌≡◌, refl, eqb}
use Rattle.std.proofs.Common.{true≢false, sym, ap, subst, ◌∙◌}
use Rattle.rows.specs.One.{one}
use Rattle.pcap.specs.Pcap.{next_at}
use Rattle.pcap.specs.declared.Format.{Format}
use Rattle.pcap.specs.declared.Next.{Next}
use Rattle.pcap.specs.declared.Next.TheVariants.{Packet, Cut, Fraction, End}
use Rattle.call.specs.Outcome.{accepts}
use Rattle.packet.proofs.CallLaws.{packet_unique, packet-kept}
use Rattle.step.specs.Block.{Stand, stand}
use Rattle.import.specs.Import.{Gives, behind, Imports}
use Rattle.import.specs.Import.Imports.{done, stops, goes}

-- ---- one outcome

-- what an import leaves, twice
pub record Same (n m e f a b p q : ℕ) (s s' : Stand) : Type 0 where
  pub taken : n ≡ m
  pub eights : e ≡ f
  pub answer : a ≡ b
  pub place : p ≡ q
  pub left : s ≡ s'

-- one record
same_record : (f : Format) (t : List ℕ) (n : Next) (s : Stand) (a b : ℕ) (s' s'' : Stand) → Gives f t n s a s' → Gives f t n s b s'' → (a ≡ b) × (s' ≡ s'')
same_record f t (Packet seconds fraction start end) s a b s' s'' x y = let u = packet_unique _ _ s.state s.shelf x y in (u.0, λ i. stand (u.1.0 i) (u.1.1 i))
same_record f t Cut s a b s' s'' x y = (x.0 ∙ sym y.0, x.1 ∙ sym y.1)
same_record f t Fraction s a b s' s'' x y = (x.0 ∙ sym y.0, x.1 ∙ sym y.1)
same_record f t End s a b s' s'' x y = absurd x

-- at the end stands no record
pub none_here : (f : Format) (t : List ℕ) (n : Next) (s : Stand) (a : ℕ) (s' : Stand) → n ≡ End → Gives f t n s a s' → ⊥
none_here f t n s a s' e x = subst (λ (m : Next). Gives f t m s a s') e x

-- one record cannot be refused and taken
apart : (a b : ℕ) → a ≡ b → accepts a ≡ false → accepts b ≡ true → ⊥
apart a b e h k = true≢false (sym k ∙ (ap accepts (sym e) ∙ h))

-- 01: "any two permitted outcomes coincide"
pub import_unique : {f : Format} {t : List ℕ} {at n m e g a b p q : ℕ} {s s' s'' : Stand} → Imports f t at s n e a p s' → Imports f t at s m g b q s'' → Same n m e g a b p q s' s''
import_unique (done x) (done y) = record { taken = refl; eights = refl; answer = refl; place = refl; left = refl }
import_unique {f} {t} {at} {s = s} {s'' = s''} (done x) (stops {a = b} y k) = absurd (none_here f t (next_at f t at) s b s'' x y)
import_unique {f} {t} {at} {s = s} (done x) (goes {s' = u} b y k w) = absurd (none_here f t (next_at f t at) s b u x y)
import_unique {f} {t} {at} {s = s} {s' = s'} (stops {a = a} x h) (done y) = absurd (none_here f t (next_at f t at) s a s' y x)
import_unique {f} {t} {at} {s = s} {s' = s'} {s'' = s''} (stops {a = a} x h) (stops {a = b} y k) =
    let u = same_record f t (next_at f t at) s a b s' s'' x y in
    record { taken = refl; eights = refl; answer = u.0; place = refl; left = u.1 }
import_unique {f} {t} {at} {s = s} {s' = s'} (stops {a = a} x h) (goes {s' = u} b y k w) = absurd (apart a b (same_record f t (next_at f t at) s a b s' u x y).0 h k)
import_unique {f} {t} {at} {s = s} (goes {s' = u} a x h v) (done y) = absurd (none_here f t (next_at f t at) s a u y x)
import_unique {f} {t} {at} {s = s} {s'' = s''} (goes {s' = u} a x h v) (stops {a = b} y k) = absurd (apart b a (sym (same_record f t (next_at f t at) s a b u s'' x y).0) k h)
import_unique {f} {t} {at} {m = m} {g = g} {b = c} {q = q} {s = s} {s'' = s''} (goes {s' = u} a x h v) (goes {n = m'} {e = g'} {s' = w} b y k z) =
    let r = same_record f t (next_at f t at) s a b u w x y in
    let i = import_unique v (subst (λ (o : Stand). Imports f t (behind (next_at f t at) at) o m' g' c q s'') (sym r.1) z) in
    record { taken = ap suc i.taken; eights = λ j. one (eqb (r.0 j) 8) + i.eights j; answer = i.answer; place = i.place; left = i.left }

-- ---- a refused record changes nothing

pub gives-kept : (f : Format) (t : List ℕ) (n : Next) (s : Stand) (a : ℕ) (s' : Stand) → Gives f t n s a s' → accepts a ≡ false → s' ≡ s
gives-kept f t (Packet seconds fraction start end) s a s' x e = let k = packet-kept _ _ s.state s.shelf x e in λ i. stand (k.0 i) (k.1 i)
gives-kept f t Cut s a s' x e = x.1
gives-kept f t Fraction s a s' x e = x.1
gives-kept f t End s a s' x e = absurd x

-- a file whose first record is refused, and one without records, leave all as it was; so does a head that is refused
pub none-taken : {f : Format} {t : List ℕ} {at e a p : ℕ} {s s' : Stand} → Imports f t at s 0 e a p s' → s' ≡ s
none-taken (done x) = refl
none-taken {f} {t} {at} {a = a} {s = s} {s' = s'} (stops x h) = gives-kept f t (next_at f t at) s a s' x h
