-- Laws (proved): what the contract of a block rules out: any two outcomes coincide, a refused record changes nothing, and a block behind a block is one long block.
use Rattle.std.specs.Prelude.{ℕ, suc, ◌+◌, ◌-◌, ◌≤◌, Bool, true, false, List, ◌++◌, ◌≡◌, refl, eqb, length, take, drop}
use Rattle.std.proofs.Common.{arith, true≢false, sym, ap, subst, ◌∙◌}
use Rattle.std.proofs.Math.Seq.{drop-append_seam}
use Rattle.rows.specs.One.{one}
use Rattle.trace.specs.Clock.{tick_of}
use Rattle.trace.specs.Trace.{next_at}
use Rattle.trace.specs.declared.Next.{Next}
use Rattle.trace.specs.declared.Next.TheVariants.{Packet, Event, Detail, Unknown, Cut, End}
use Rattle.trace.specs.declared.clock.Clock.{Clock}
use Rattle.call.specs.Outcome.{accepts}
use Rattle.call.proofs.OutcomeLaws.{unique}
use Rattle.typed.specs.Detail.{Details}
use Rattle.typed.proofs.DetailLaws.{detail_unique}
use Rattle.packet.proofs.CallLaws.{packet_unique, packet-kept}
use Rattle.step.specs.Block.{Stand, stand, clock_after, behind, Gives, Takes}
use Rattle.step.specs.Block.Takes.{done, stops, goes}
use Rattle.step.proofs.CutLaws.{gives-before, resumed, whole_in, inside_of, end-here}

-- ---- one outcome

-- what a block leaves, twice
pub record Same (n m e f a b p q : ℕ) (c c' : Clock) (s s' : Stand) : Type 0 where
  pub taken : n ≡ m
  pub eights : e ≡ f
  pub answer : a ≡ b
  pub place : p ≡ q
  pub clock : c ≡ c'
  pub final : s ≡ s'

-- one record
pub same_record : (typed : Bool) (t : List ℕ) (n : Next) (c : Clock) (s : Stand) (a b : ℕ) (s' s'' : Stand) → Gives typed t n c s a s' → Gives typed t n c s b s'' → (a ≡ b) × (s' ≡ s'')
same_record typed t (Packet ticks start end next) c s a b s' s'' x y = let u = packet_unique _ _ s.state s.shelf x y in (u.0, λ i. stand (u.1.0 i) (u.1.1 i))
same_record typed t (Event ticks kind code next) c s a b s' s'' x y = let u = unique x.0 y.0 in (u.0, λ i. stand (u.1 i) ((x.1 ∙ sym y.1) i))
same_record true t (Detail address number direction kind max next) c s a b s' s'' x y =
    let u = detail_unique address number direction kind max s.state a b s'.state s''.state x.0 y.0 in
    (u.0, λ i. stand (u.1 i) ((x.1 ∙ sym y.1) i))
same_record false t (Detail address number direction kind max next) c s a b s' s'' x y = (x.0 ∙ sym y.0, x.1 ∙ sym y.1)
same_record typed t Unknown c s a b s' s'' x y = (x.0 ∙ sym y.0, x.1 ∙ sym y.1)
same_record typed t Cut c s a b s' s'' x y = (x.0 ∙ sym y.0, x.1 ∙ sym y.1)
same_record typed t End c s a b s' s'' x y = absurd x

-- at the end stands no record
none_here : (typed : Bool) (t : List ℕ) (n : Next) (c : Clock) (s : Stand) (a : ℕ) (s' : Stand) → n ≡ End → Gives typed t n c s a s' → ⊥
none_here typed t n c s a s' e x = subst (λ (n : Next). Gives typed t n c s a s') e x

-- 01: "any two permitted outcomes coincide"
pub block_unique : {typed : Bool} {t : List ℕ} {at n m e f a b p q : ℕ} {c c' c'' : Clock} {s s' s'' : Stand} → Takes typed t at c s n e a p c' s' → Takes typed t at c s m f b q c'' s'' → Same n m e f a b p q c' c'' s' s''
block_unique (done x) (done y) = record { taken = refl; eights = refl; answer = refl; place = refl; clock = refl; final = refl }
block_unique {typed} {t} {at} {c = c} {s = s} (done x) (stops y k) = absurd (none_here typed t (next_at t at) c s _ _ x y)
block_unique {typed} {t} {at} {c = c} {s = s} (done x) (goes b y k r) = absurd (none_here typed t (next_at t at) c s b _ x y)
block_unique {typed} {t} {at} {c = c} {s = s} (stops x h) (done y) = absurd (none_here typed t (next_at t at) c s _ _ y x)
block_unique {typed} {t} {at} {c = c} {s = s} (stops x h) (stops y k) =
    let u = same_record typed t (next_at t at) c s _ _ _ _ x y in
    record { taken = refl; eights = refl; answer = u.0; place = refl; clock = refl; final = u.1 }
block_unique {typed} {t} {at} {c = c} {s = s} (stops x h) (goes b y k r) = absurd (true≢false (sym (ap accepts (same_record typed t (next_at t at) c s _ b _ _ x y).0 ∙ k) ∙ h))
block_unique {typed} {t} {at} {c = c} {s = s} (goes a x h z) (done y) = absurd (none_here typed t (next_at t at) c s a _ y x)
block_unique {typed} {t} {at} {c = c} {s = s} (goes a x h z) (stops y k) = absurd (true≢false (sym h ∙ (ap accepts (same_record typed t (next_at t at) c s a _ _ _ x y).0 ∙ k)))
block_unique {typed} {t} {at} {b = o} {q = q} {c = c} {c'' = c''} {s = s} {s'' = s''} (goes a x h z) (goes {n = m} {e = f} b y k r) =
    let v = same_record typed t (next_at t at) c s a b _ _ x y in
    let u = block_unique z (subst (λ (w : Stand). Takes typed t (behind (next_at t at) at) (clock_after (next_at t at) c) w m f o q c'' s'') (sym v.1) r) in
    record {
      taken = ap suc u.taken;
      eights = λ i. one (eqb (v.0 i) 8) + u.eights i;
      answer = u.answer;
      place = u.place;
      clock = u.clock;
      final = u.final;
    }

-- ---- a refused record

-- a record that is refused leaves all as it was
pub gives_same : (typed : Bool) (t : List ℕ) (n : Next) (c : Clock) (s : Stand) (a : ℕ) (s' : Stand) → Gives typed t n c s a s' → accepts a ≡ false → s' ≡ s
unfolding Details
gives_same typed t (Packet ticks start end next) c s a s' x h =
    let k = packet-kept (take (end - start) (drop start t)) (tick_of c ticks).time s.state s.shelf x h in
    λ i. stand (k.0 i) (k.1 i)
gives_same typed t (Event ticks kind code next) c s a s' x h = let same = x.0.kept (ap accepts (sym x.0.answer) ∙ h) in λ i. stand (same i) (x.1 i)
gives_same false t (Detail address number direction kind max next) c s a s' x h = x.1
gives_same true t (Detail address number direction kind max next) c s a s' x h = let same = x.0.kept (ap accepts (sym x.0.answer) ∙ h) in λ i. stand (same i) (x.1 i)
gives_same typed t Unknown c s a s' x h = x.1
gives_same typed t Cut c s a s' x h = x.1
gives_same typed t End c s a s' x h = absurd x

-- with other words for the counts
counted : {typed : Bool} {t : List ℕ} {at n n' e e' a p : ℕ} {c c' : Clock} {s s' : Stand} → n ≡ n' → e ≡ e' → Takes typed t at c s n e a p c' s' → Takes typed t at c s n' e' a p c' s'
counted {typed} {t} {at} {n} {n'} {e} {e'} {a} {p} {c} {c'} {s} {s'} h k x =
    subst (λ (m : ℕ). Takes typed t at c s m e' a p c' s') h (subst (λ (f : ℕ). Takes typed t at c s n f a p c' s') k x)

-- 02: "what they wrote remains, and demand 1 speaks of the refused record alone": the record at the place p is refused on what is left, and leaves it; and the
-- records before it lead there, so that what follows from there follows from the start
pub record Refused (typed : Bool) (t : List ℕ) (at : ℕ) (c : Clock) (s : Stand) (n e a p : ℕ) (c' : Clock) (s' : Stand) : Type 0 where
  pub refused : Gives typed t (next_at t p) c' s' a s'
  pub before : {m f b q : ℕ} {c'' : Clock} {s'' : Stand} → Takes typed t p c' s' m f b q c'' s'' → Takes typed t at c s (n + m) (e + f) b q c'' s''

pub block_refused : {typed : Bool} {t : List ℕ} {at n e a p : ℕ} {c c' : Clock} {s s' : Stand} → Takes typed t at c s n e a p c' s' → accepts a ≡ false → Refused typed t at c s n e a p c' s'
block_refused (done x) h = absurd (true≢false h)
block_refused {typed} {t} {at} {a = a} {c = c} {s = s} {s' = s'} (stops x k) h =
    let same = gives_same typed t (next_at t at) c s a s' x h in
    record {
      refused = subst (λ (u : Stand). Gives typed t (next_at t at) c u a s') (sym same) x;
      before = λ {m} {f} {b} {q} {c''} {s''} r. counted (omega arith) (omega arith) (subst (λ (u : Stand). Takes typed t at c u m f b q c'' s'') same r);
    }
block_refused (goes b x k r) h =
    let u = block_refused r h in
    record { refused = u.refused; before = λ z. counted (omega arith) (omega arith) (goes b x k (u.before z)) }

-- ---- block behind block

-- where a block begins anew with the bytes from the place p on, at which another stopped: at its end, or at a record that was refused, as one that was cut
pub block_composes : {typed : Bool} {u : List ℕ} (v : List ℕ) {at n e a p m f b q : ℕ} {c c' c'' : Clock} {s s' s'' : Stand}
    → at ≤ length u → Takes typed u at c s n e a p c' s' → Takes typed (drop p (u ++ v)) 0 c' s' m f b q c'' s'' → Takes typed (u ++ v) at c s (n + m) (e + f) b (p + q) c'' s''
block_composes {typed} {u} v {at} h (done x) z = counted (omega arith) (omega arith) (resumed u v at h z)
block_composes {typed} {u} v {at} {a = a} {m = m} {f = f} {b = b} {q = q} {c = c} {c'' = c''} {s = s} {s' = s'} {s'' = s''} h (stops x k) z =
    counted (omega arith) (omega arith) (resumed u v at h (subst (λ (r : Stand). Takes typed (drop at (u ++ v)) 0 c r m f b q c'' s'') (gives_same typed u (next_at u at) c s a s' x k) z))
block_composes {typed} {u} v {at} {p = p} {m = m} {f = f} {b = b} {q = q} {c = c} {c'' = c''} {s = s} {s'' = s''} h (goes {n = n} {e = e} {s' = s'} o x k r) z =
    let g = whole_in typed u (next_at u at) c s o s' x k in
    let same = gives-before typed u v at c s o s' g x in
    counted (omega arith) (omega arith)
    (goes o same.gives k
    (subst (λ (w : Next). Takes typed (u ++ v) (behind w at) (clock_after w c) s' (n + m) (e + f) b (p + q) c'' s'') (sym same.next) (block_composes v (inside_of u at g) r z)))

-- a block that answers 0 has come to its end
pub block-end : {typed : Bool} {t : List ℕ} {at n e a p : ℕ} {c c' : Clock} {s s' : Stand} → at ≤ length t → Takes typed t at c s n e a p c' s' → a ≡ 0 → p ≡ length t
block-end {typed} {t} {at} h (done x) z = end-here t at h x
block-end h (stops x k) z = absurd (true≢false (sym (ap accepts z) ∙ k))
block-end {typed} {t} {at} {c = c} {s = s} h (goes {s' = s'} o x k r) z = block-end (inside_of t at (whole_in typed t (next_at t at) c s o s' x k)) r z

-- block behind block: one that answers 0, and any other behind it
pub block-behind : {typed : Bool} {u v : List ℕ} {n e p m f b q : ℕ} {c c' c'' : Clock} {s s' s'' : Stand}
    → Takes typed u 0 c s n e 0 p c' s' → Takes typed v 0 c' s' m f b q c'' s'' → Takes typed (u ++ v) 0 c s (n + m) (e + f) b (length u + q) c'' s''
block-behind {typed} {u} {v} {n} {e} {p} {m} {f} {b} {q} {c} {c'} {c''} {s} {s'} {s''} x z =
    let end = block-end {at = 0} (omega arith) x refl in
    let here : drop p (u ++ v) ≡ v = ap (λ (i : ℕ). drop i (u ++ v)) end ∙ drop-append_seam u v in
    subst (λ (i : ℕ). Takes typed (u ++ v) 0 c s (n + m) (e + f) b (i + q) c'' s'') end
    (block_composes v (omega arith) x (subst (λ (w : List ℕ). Takes typed w 0 c' s' m f b q c'' s'') (sym here) z))
