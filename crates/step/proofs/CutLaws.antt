-- Laws (proved): records where a block is cut: a record that is whole in the first part stands in the whole as it is, and one behind the cut stands there moved.
use Rattle.std.specs.Prelude.{ℕ, ◌+◌, ◌-◌, ◌≤◌, ◌<◌, Bool, true, false, ◌≡◌, refl, eqb, ltb, get_or, take, drop}
use native.Mathlib.Omega.{arith}
use Rattle.std.proofs.Common.{true≢false, subst, ◌∙◌, length-append, length-drop, take-append-drop, get_or-take, length-take-le, get_or-append-add}
use mathlib.Core.List.{List, ◌++◌}
use Rattle.std.proofs.Math.Path.{sym, ap}
use borrow.Author.Tests.{ltb-true, ltb-false, leb-true, leb-false, lt-ltb, le-ltb, le-leb, lt-leb}
use Rattle.std.proofs.Math.Dec.{leb}
use Rattle.std.proofs.Math.ListN.{length}
use Rattle.std.proofs.Math.Seq.{take-append_seam, drop-append-add}
use Rattle.std.proofs.lemmas.List.{take-append-le, drop-append-le}
use Rattle.usb.specs.Bits.{number}
use Rattle.usb.specs.Packet.{pick}
use Rattle.trace.specs.Clock.{tick_of}
use Rattle.trace.proofs.Laws.{Inside, PacketInside, Grown, grown}
use Rattle.trace.specs.Trace.{little_endian, packet_at, event_at, detail_at, next_at}
use Rattle.trace.specs.declared.Next.{Next}
use Rattle.trace.specs.declared.Next.TheVariants.{Packet, Event, Detail, Unknown, Cut, End}
use Rattle.trace.specs.declared.clock.Clock.{Clock}
use Rattle.call.specs.Outcome.{accepts}
use Rattle.packet.specs.Call.{PacketCall}
use Rattle.step.specs.Block.{Stand, clock_after, behind, Gives, Takes}
use Rattle.step.specs.Block.Takes.{done, stops, goes}

-- ---- whole records

abbrev pub Whole : Next → Type 0
Whole (Packet ticks start end next) = Unit {0}
Whole (Event ticks kind code next) = Unit {0}
Whole (Detail address number direction kind max next) = Unit {0}
Whole Unknown = ⊥
Whole Cut = ⊥
Whole End = ⊥

-- what is accepted is one
pub whole_in : (typed : Bool) (t : List ℕ) (n : Next) (c : Clock) (s : Stand) (a : ℕ) (s' : Stand) → Gives typed t n c s a s' → accepts a ≡ true → Whole n
whole_in typed t (Packet ticks start end next) c s a s' x h = tt
whole_in typed t (Event ticks kind code next) c s a s' x h = tt
whole_in typed t (Detail address number direction kind max next) c s a s' x h = tt
whole_in typed t Unknown c s a s' x h = true≢false (sym h ∙ ap accepts x.0)
whole_in typed t Cut c s a s' x h = true≢false (sym h ∙ ap accepts x.0)
whole_in typed t End c s a s' x h = x

-- and ends within the block
inside_by : (t : List ℕ) (at : ℕ) (n : Next) → Grown t at n → Whole n → behind n at ≤ length t
inside_by t at (Packet ticks start end next) g w = g.whole.stays
inside_by t at (Event ticks kind code next) g w = g.stays
inside_by t at (Detail address number direction kind max next) g w = g.stays
inside_by t at Unknown g w = absurd w
inside_by t at Cut g w = absurd w
inside_by t at End g w = absurd w

pub inside_of : (t : List ℕ) (at : ℕ) → Whole (next_at t at) → behind (next_at t at) at ≤ length t
inside_of t at w = inside_by t at (next_at t at) (grown t at) w

-- ---- the end

abbrev is_end : Next → Bool
is_end (Packet ticks start end next) = false
is_end (Event ticks kind code next) = false
is_end (Detail address number direction kind max next) = false
is_end Unknown = false
is_end Cut = false
is_end End = true

pick_end : (b : Bool) (x y : Next) → is_end x ≡ false → is_end y ≡ false → is_end (pick b x y) ≡ false
pick_end true x y h k = h
pick_end false x y h k = k

packet-end : (t : List ℕ) (at : ℕ) → is_end (packet_at t at) ≡ false
unfolding packet_at
packet-end t at = pick_end (leb (at + (7 + little_endian 2 (at + 5) t)) (length t)) _ Cut refl refl

event-end : (t : List ℕ) (at : ℕ) → is_end (event_at t at) ≡ false
unfolding event_at
event-end t at = pick_end (leb (at + 7) (length t)) _ Cut refl refl

detail-end : (t : List ℕ) (at : ℕ) → is_end (detail_at t at) ≡ false
unfolding detail_at
detail-end t at = pick_end (leb (at + 7) (length t)) _ Cut refl refl

-- by the tag
abbrev tagged : List ℕ → ℕ → ℕ → Next
tagged t at tag = pick (eqb tag 0) (packet_at t at) (pick (eqb tag 1) (event_at t at) (pick (eqb tag 2) (detail_at t at) Unknown))

ends_by : (b : Bool) (m : Next) → is_end m ≡ false → pick b m End ≡ End → b ≡ false
ends_by true m h e = absurd (true≢false (sym (ap is_end e) ∙ h))
ends_by false m h e = refl

-- the end stands behind all bytes
pub end-here : (t : List ℕ) (at : ℕ) → at ≤ length t → next_at t at ≡ End → at ≡ length t
end-here t at h e =
    let tag = get_or t at 0 in
    let none = pick_end (eqb tag 0) (packet_at t at) _ (packet-end t at) (pick_end (eqb tag 1) (event_at t at) _ (event-end t at) (pick_end (eqb tag 2) (detail_at t at) Unknown (detail-end t at) refl)) in
    let k = ltb-false at (length t) (ends_by (ltb at (length t)) (tagged t at tag) none e) in
    omega arith

-- ---- a record in front of the cut

module _ (u v : List ℕ) (at : ℕ) where
  number-before : (n j : ℕ) → j + n ≤ length u → little_endian n j (u ++ v) ≡ little_endian n j u
  unfolding little_endian
  number-before n j h =
      let k : n ≤ length (drop j u) = rw (length-drop) (omega arith) in
      ap (λ (l : List ℕ). number (take n l)) (drop-append-le j u v (omega arith)) ∙ ap number (take-append-le n (drop j u) v k)

  byte-before : (j : ℕ) → j < length u → get_or (u ++ v) j 0 ≡ get_or u j 0
  byte-before j h = sym (get_or-take (length u) (u ++ v) j 0 h) ∙ ap (λ (l : List ℕ). get_or l j 0) (take-append_seam u v)

  fits-before : (j : ℕ) → j ≤ length u → leb j (length (u ++ v)) ≡ true
  fits-before j h = le-leb j (length (u ++ v)) (let e = length-append u v in omega arith)

  whole_true : (b : Bool) (x : Next) → Whole (pick b x Cut) → b ≡ true
  whole_true true x w = refl
  whole_true false x w = absurd w

  packet-before : Whole (packet_at u at) → packet_at (u ++ v) at ≡ packet_at u at
  unfolding packet_at
  packet-before w =
      let q = whole_true (leb (at + (7 + little_endian 2 (at + 5) u)) (length u)) _ w in
      let h = leb-true (at + (7 + little_endian 2 (at + 5) u)) (length u) q in
      let l = number-before 2 (at + 5) (omega arith) in
      let m = number-before 4 (at + 1) (omega arith) in
      let f = fits-before (at + (7 + little_endian 2 (at + 5) u)) h in
      let g : leb (at + (7 + little_endian 2 (at + 5) (u ++ v))) (length (u ++ v)) ≡ leb (at + (7 + little_endian 2 (at + 5) u)) (length u) = ap (λ (n : ℕ). leb (at + (7 + n)) (length (u ++ v))) l ∙ (f ∙ sym q) in
      λ i. pick (g i) (Packet (m i) (at + 7) (at + 7 + l i) (record { at = at + 7 + l i })) Cut

  event-before : Whole (event_at u at) → event_at (u ++ v) at ≡ event_at u at
  unfolding event_at
  event-before w =
      let q = whole_true (leb (at + 7) (length u)) _ w in
      let h = leb-true (at + 7) (length u) q in
      let m = number-before 4 (at + 1) (omega arith) in
      let k = byte-before (at + 5) (omega arith) in
      let o = byte-before (at + 6) (omega arith) in
      let g = fits-before (at + 7) h ∙ sym q in
      λ i. pick (g i) (Event (m i) (k i) (o i) (record { at = at + 7 })) Cut

  detail-before : Whole (detail_at u at) → detail_at (u ++ v) at ≡ detail_at u at
  unfolding detail_at
  detail-before w =
      let q = whole_true (leb (at + 7) (length u)) _ w in
      let h = leb-true (at + 7) (length u) q in
      let m = number-before 2 (at + 5) (omega arith) in
      let j = byte-before (at + 1) (omega arith) in
      let k = byte-before (at + 2) (omega arith) in
      let l = byte-before (at + 3) (omega arith) in
      let o = byte-before (at + 4) (omega arith) in
      let g = fits-before (at + 7) h ∙ sym q in
      λ i. pick (g i) (Detail (j i) (k i) (l i) (o i) (m i) (record { at = at + 7 })) Cut

  tags : (a b c : Bool) {p p' e e' d d' : Next} → (Whole p → p' ≡ p) → (Whole e → e' ≡ e) → (Whole d → d' ≡ d) → Whole (pick a p (pick b e (pick c d Unknown)))
      → pick a p' (pick b e' (pick c d' Unknown)) ≡ pick a p (pick b e (pick c d Unknown))
  tags true b c f g h w = f w
  tags false true c f g h w = g w
  tags false false true f g h w = h w
  tags false false false f g h w = absurd w

  there : (b : Bool) (m : Next) → Whole (pick b m End) → (b ≡ true) × Whole m
  there true m w = (refl, w)
  there false m w = absurd w

  -- it stands in the whole as it is
  next-before : Whole (next_at u at) → next_at (u ++ v) at ≡ next_at u at
  next-before w =
      let tag = get_or u at 0 in
      let h = there (ltb at (length u)) (tagged u at tag) w in
      let k = ltb-true at (length u) h.0 in
      let e = length-append u v in
      let f = lt-ltb at (length (u ++ v)) (omega arith) ∙ sym h.0 in
      let b = byte-before at k in
      (λ i. pick (f i) (tagged (u ++ v) at (b i)) End)
      ∙ ap (λ (m : Next). pick (ltb at (length u)) m End) (tags (eqb tag 0) (eqb tag 1) (eqb tag 2) packet-before event-before detail-before h.1)

-- what a record gives, with the bytes behind it
pub record Before (typed : Bool) (t : List ℕ) (m n : Next) (c : Clock) (s : Stand) (a : ℕ) (s' : Stand) : Type 0 where
  pub next : m ≡ n
  pub gives : Gives typed t m c s a s'

gives-with : (typed : Bool) (u v : List ℕ) (at : ℕ) (n : Next) (c : Clock) (s : Stand) (a : ℕ) (s' : Stand) → Grown u at n → Gives typed u n c s a s' → Gives typed (u ++ v) n c s a s'
gives-with typed u v at (Packet ticks start end next) c s a s' g x =
    let last = g.last in
    let part = g.part in
    let stays = g.whole.stays in
    let k : end - start ≤ length (drop start u) = rw (length-drop) (omega arith) in
    let same : take (end - start) (drop start (u ++ v)) ≡ take (end - start) (drop start u) = ap (take (end - start)) (drop-append-le start u v (omega arith)) ∙ take-append-le (end - start) (drop start u) v k in
    subst (λ (l : List ℕ). PacketCall l (tick_of c ticks).time s.state s.shelf a s'.state s'.shelf) (sym same) x
gives-with typed u v at (Event ticks kind code next) c s a s' g x = x
gives-with typed u v at (Detail address number direction kind max next) c s a s' g x = x
gives-with typed u v at Unknown c s a s' g x = x
gives-with typed u v at Cut c s a s' g x = x
gives-with typed u v at End c s a s' g x = x

pub gives-before : (typed : Bool) (u v : List ℕ) (at : ℕ) (c : Clock) (s : Stand) (a : ℕ) (s' : Stand) → Whole (next_at u at) → Gives typed u (next_at u at) c s a s' → Before typed (u ++ v) (next_at (u ++ v) at) (next_at u at) c s a s'
gives-before typed u v at c s a s' w x =
    let e = next-before u v at w in
    record { next = e; gives = subst (λ (n : Next). Gives typed (u ++ v) n c s a s') (sym e) (gives-with typed u v at (next_at u at) c s a s' (grown u at) x) }

-- ---- a record behind the cut

-- k bytes further on
abbrev moved : ℕ → Next → Next
moved k (Packet ticks start end next) = Packet ticks (k + start) (k + end) (record { at = k + next.at })
moved k (Event ticks kind code next) = Event ticks kind code (record { at = k + next.at })
moved k (Detail address number direction kind max next) = Detail address number direction kind max (record { at = k + next.at })
moved k Unknown = Unknown
moved k Cut = Cut
moved k End = End

moved-pick : (k : ℕ) (b : Bool) (x y : Next) → moved k (pick b x y) ≡ pick b (moved k x) (moved k y)
moved-pick k true x y = refl
moved-pick k false x y = refl

leb-add : (k i l : ℕ) → leb (k + i) (k + l) ≡ leb i l
leb-add k i l = by (leb i l) refl
  where
    by : (b : Bool) → leb i l ≡ b → leb (k + i) (k + l) ≡ b
    by true e = let h = leb-true i l e in le-leb (k + i) (k + l) (omega arith)
    by false e = let h = leb-false i l e in lt-leb (k + i) (k + l) (omega arith)

ltb-add : (k i l : ℕ) → ltb (k + i) (k + l) ≡ ltb i l
ltb-add k i l = by (ltb i l) refl
  where
    by : (b : Bool) → ltb i l ≡ b → ltb (k + i) (k + l) ≡ b
    by true e = let h = ltb-true i l e in lt-ltb (k + i) (k + l) (omega arith)
    by false e = let h = ltb-false i l e in le-ltb (k + i) (k + l) (omega arith)

module _ (u v : List ℕ) (at : ℕ) where
  number_behind : (n j i : ℕ) → j ≡ length u + i → little_endian n j (u ++ v) ≡ little_endian n i v
  unfolding little_endian
  number_behind n j i e = ap (λ (k : ℕ). number (take n (drop k (u ++ v)))) e ∙ ap (λ (l : List ℕ). number (take n l)) (drop-append-add u v i)

  byte-behind : (j i : ℕ) → j ≡ length u + i → get_or (u ++ v) j 0 ≡ get_or v i 0
  byte-behind j i e = ap (λ (k : ℕ). get_or (u ++ v) k 0) e ∙ get_or-append-add u v i 0

  fits-behind : (j i : ℕ) → j ≡ length u + i → leb j (length (u ++ v)) ≡ leb i (length v)
  fits-behind j i e = (λ k. leb (e k) (length-append u v k)) ∙ leb-add (length u) i (length v)

  packet-behind : packet_at (u ++ v) (length u + at) ≡ moved (length u) (packet_at v at)
  unfolding packet_at
  packet-behind =
      let l = number_behind 2 (length u + at + 5) (at + 5) (omega arith) in
      let m = number_behind 4 (length u + at + 1) (at + 1) (omega arith) in
      let n = little_endian 2 (at + 5) v in
      let g = ap (λ (x : ℕ). leb (length u + at + (7 + x)) (length (u ++ v))) l ∙ fits-behind (length u + at + (7 + n)) (at + (7 + n)) (omega arith) in
      let start : length u + at + 7 ≡ length u + (at + 7) = omega arith in
      let end = ap (λ (x : ℕ). length u + at + 7 + x) l ∙ (let q : length u + at + 7 + n ≡ length u + (at + 7 + n) = omega arith in q) in
      (λ i. pick (g i) (Packet (m i) (start i) (end i) (record { at = end i })) Cut)
      ∙ sym (moved-pick (length u) (leb (at + (7 + n)) (length v)) (Packet (little_endian 4 (at + 1) v) (at + 7) (at + 7 + n) (record { at = at + 7 + n })) Cut)

  event-behind : event_at (u ++ v) (length u + at) ≡ moved (length u) (event_at v at)
  unfolding event_at
  event-behind =
      let m = number_behind 4 (length u + at + 1) (at + 1) (omega arith) in
      let k = byte-behind (length u + at + 5) (at + 5) (omega arith) in
      let o = byte-behind (length u + at + 6) (at + 6) (omega arith) in
      let g = fits-behind (length u + at + 7) (at + 7) (omega arith) in
      let end : length u + at + 7 ≡ length u + (at + 7) = omega arith in
      (λ i. pick (g i) (Event (m i) (k i) (o i) (record { at = end i })) Cut)
      ∙ sym (moved-pick (length u) (leb (at + 7) (length v)) (Event (little_endian 4 (at + 1) v) (get_or v (at + 5) 0) (get_or v (at + 6) 0) (record { at = at + 7 })) Cut)

  detail-behind : detail_at (u ++ v) (length u + at) ≡ moved (length u) (detail_at v at)
  unfolding detail_at
  detail-behind =
      let m = number_behind 2 (length u + at + 5) (at + 5) (omega arith) in
      let j = byte-behind (length u + at + 1) (at + 1) (omega arith) in
      let k = byte-behind (length u + at + 2) (at + 2) (omega arith) in
      let l = byte-behind (length u + at + 3) (at + 3) (omega arith) in
      let o = byte-behind (length u + at + 4) (at + 4) (omega arith) in
      let g = fits-behind (length u + at + 7) (at + 7) (omega arith) in
      let end : length u + at + 7 ≡ length u + (at + 7) = omega arith in
      (λ i. pick (g i) (Detail (j i) (k i) (l i) (o i) (m i) (record { at = end i })) Cut)
      ∙ sym (moved-pick (length u) (leb (at + 7) (length v)) (Detail (get_or v (at + 1) 0) (get_or v (at + 2) 0) (get_or v (at + 3) 0) (get_or v (at + 4) 0) (little_endian 2 (at + 5) v) (record { at = at + 7 })) Cut)

  moved_tags : (k : ℕ) (a b c d : Bool) (x y z : Next) → moved k (pick d (pick a x (pick b y (pick c z Unknown))) End) ≡ pick d (pick a (moved k x) (pick b (moved k y) (pick c (moved k z) Unknown))) End
  moved_tags k a b c false x y z = refl
  moved_tags k true b c true x y z = refl
  moved_tags k false true c true x y z = refl
  moved_tags k false false true true x y z = refl
  moved_tags k false false false true x y z = refl

  -- it stands in the whole, moved
  next-behind : next_at (u ++ v) (length u + at) ≡ moved (length u) (next_at v at)
  next-behind =
      let tag = get_or v at 0 in
      let f = (λ k. ltb (length u + at) (length-append u v k)) ∙ ltb-add (length u) at (length v) in
      let b = byte-behind (length u + at) at refl in
      (λ i. pick (f i) (pick (eqb (b i) 0) (packet-behind i) (pick (eqb (b i) 1) (event-behind i) (pick (eqb (b i) 2) (detail-behind i) Unknown))) End)
      ∙ sym (moved_tags (length u) (eqb tag 0) (eqb tag 1) (eqb tag 2) (ltb at (length v)) (packet_at v at) (event_at v at) (detail_at v at))

gives_moved : (typed : Bool) (u v : List ℕ) (n : Next) (c : Clock) (s : Stand) (a : ℕ) (s' : Stand) → Gives typed v n c s a s' → Gives typed (u ++ v) (moved (length u) n) c s a s'
gives_moved typed u v (Packet ticks start end next) c s a s' x =
    let size : end - start ≡ length u + end - (length u + start) = omega arith in
    let same : take (end - start) (drop start v) ≡ take (length u + end - (length u + start)) (drop (length u + start) (u ++ v)) = λ i. take (size i) (sym (drop-append-add u v start) i) in
    subst (λ (l : List ℕ). PacketCall l (tick_of c ticks).time s.state s.shelf a s'.state s'.shelf) same x
gives_moved typed u v (Event ticks kind code next) c s a s' x = x
gives_moved typed u v (Detail address number direction kind max next) c s a s' x = x
gives_moved typed u v Unknown c s a s' x = x
gives_moved typed u v Cut c s a s' x = x
gives_moved typed u v End c s a s' x = x

behind_moved : (k : ℕ) (n : Next) (at : ℕ) → behind (moved k n) (k + at) ≡ k + behind n at
behind_moved k (Packet ticks start end next) at = refl
behind_moved k (Event ticks kind code next) at = refl
behind_moved k (Detail address number direction kind max next) at = refl
behind_moved k Unknown at = refl
behind_moved k Cut at = refl
behind_moved k End at = refl

clock-moved : (k : ℕ) (n : Next) (c : Clock) → clock_after (moved k n) c ≡ clock_after n c
clock-moved k (Packet ticks start end next) c = refl
clock-moved k (Event ticks kind code next) c = refl
clock-moved k (Detail address number direction kind max next) c = refl
clock-moved k Unknown c = refl
clock-moved k Cut c = refl
clock-moved k End c = refl

-- the records of the second part, from there on in the whole
behind-all : {typed : Bool} (u : List ℕ) {v : List ℕ} {at n e a p : ℕ} {c c' : Clock} {s s' : Stand} → Takes typed v at c s n e a p c' s' → Takes typed (u ++ v) (length u + at) c s n e a (length u + p) c' s'
behind-all {typed} u {v} {at} (done x) = done (next-behind u v at ∙ ap (moved (length u)) x)
behind-all {typed} u {v} {at} {a = a} {c = c} {s = s} {s' = s'} (stops x h) =
    stops (subst (λ (m : Next). Gives typed (u ++ v) m c s a s') (sym (next-behind u v at)) (gives_moved typed u v (next_at v at) c s a s' x)) h
behind-all {typed} u {v} {at} {p = p} {c = c} {c' = c'} {s = s} {s' = s''} (goes {n = n} {e = e} {b = b} {s' = s'} a x h r) =
    let q = next-behind u v at in
    goes a (subst (λ (m : Next). Gives typed (u ++ v) m c s a s') (sym q) (gives_moved typed u v (next_at v at) c s a s' x)) h
    (subst (λ (m : Next). Takes typed (u ++ v) (behind m (length u + at)) (clock_after m c) s' n e b (length u + p) c' s'') (sym q)
    (subst (λ (i : ℕ). Takes typed (u ++ v) i (clock_after (moved (length u) (next_at v at)) c) s' n e b (length u + p) c' s'') (sym (behind_moved (length u) (next_at v at) at))
    (subst (λ (k : Clock). Takes typed (u ++ v) (length u + behind (next_at v at) at) k s' n e b (length u + p) c' s'') (sym (clock-moved (length u) (next_at v at) c)) (behind-all u r))))

-- a block that begins with the bytes from `at` on is that of the whole from `at` on
from-there : {typed : Bool} (t : List ℕ) (at : ℕ) {n e a p : ℕ} {c c' : Clock} {s s' : Stand} → at ≤ length t → Takes typed (drop at t) 0 c s n e a p c' s' → Takes typed t at c s n e a (at + p) c' s'
from-there {typed} t at {n} {e} {a} {p} {c} {c'} {s} {s'} h x =
    let size = length-take-le at t h in
    let here : length (take at t) + 0 ≡ at = omega arith in
    subst (λ (i : ℕ). Takes typed t at c s n e a (i + p) c' s') size
    (subst (λ (i : ℕ). Takes typed t i c s n e a (length (take at t) + p) c' s') here
    (subst (λ (l : List ℕ). Takes typed l (length (take at t) + 0) c s n e a (length (take at t) + p) c' s') (take-append-drop at t) (behind-all (take at t) x)))

pub resumed : {typed : Bool} (u v : List ℕ) (at : ℕ) {n e a p : ℕ} {c c' : Clock} {s s' : Stand} → at ≤ length u → Takes typed (drop at (u ++ v)) 0 c s n e a p c' s' → Takes typed (u ++ v) at c s n e a (at + p) c' s'
resumed u v at h x = from-there (u ++ v) at (let e = length-append u v in omega arith) x
