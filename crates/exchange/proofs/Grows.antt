-- The rows that are exported, with a row more in the packet log: a packet's is written behind the others, an event's is left behind.
use Prim.Native.Nat.{ℕ, zero, suc, ◌+◌, ◌-◌, ◌*◌, ◌<◌, min}
use native.Mathlib.Omega.{arith}
use mathlib.Core.Bool.{Bool, true, false, cond, ◌&&◌}
use mathlib.Core.List.{List, [], ◌∷◌, ◌++◌, append_assoc, append-nil}
use mathlib.Core.Path.{◌≡◌, refl, sym, ap, ◌∙◌}
use borrow.Author.Tests.{ltb-true, ltb-false, lt-ltb, le-ltb, eqb-true, eqb-false, eq-eqb, ne_eqb}
use lib.Dec.{eqb, ltb}
use lib.ListN.{length, take, drop, get_or, length-append, get_or-append}
use lib.Seq.{get_or-append-add}
use Rattle.rows.specs.One.{one}
use Rattle.reading.specs.Packets.{packet_bytes}
use Rattle.reading.proofs.PacketsLaws.{Laid, old-packet, new-packet}
use Rattle.pcap.specs.File.{Item}
use Rattle.pcap.specs.Export.{Source, lent, item_at, item_of, event_at, kept, items_from, taken_from}

-- ---- rows that are read alike

pub same_rows : (l v : Source) (n k t : ℕ) → ((i : ℕ) → i < k + n → item_of l i ≡ item_of v i) → ((i u : ℕ) → i < k + n → event_at l u i ≡ event_at v u i)
    → (items_from l n k t ≡ items_from v n k t) × (taken_from l n k t ≡ taken_from v n k t)
unfolding items_from taken_from
same_rows l v zero k t f g = (refl, refl)
same_rows l v (suc n) k t f g =
    let e : event_at l t k ≡ event_at v t k = g k t (omega arith) in
    let i : item_of l k ≡ item_of v k = f k (omega arith) in
    let r = same_rows l v n (k + 1) (t + one (event_at v t k)) (λ i h. f i (omega arith)) (λ i u h. g i u (omega arith)) in
    ((λ j. kept (e j) (i j) ++ items_from l n (k + 1) (t + one (e j))) ∙ ap (λ (z : List Item). kept (event_at v t k) (item_of v k) ++ z) r.0, (λ j. taken_from l n (k + 1) (t + one (e j))) ∙ r.1)

-- ---- the last row by itself

pub last_row : (l : Source) (n k t i : ℕ) → i ≡ k + n
    → (items_from l (suc n) k t ≡ items_from l n k t ++ kept (event_at l (taken_from l n k t) i) (item_of l i)) × (taken_from l (suc n) k t ≡ taken_from l n k t + one (event_at l (taken_from l n k t) i))
unfolding items_from taken_from
last_row l zero k t i h =
    let e : k ≡ i = omega arith in
    (append-nil (kept (event_at l t k) (item_of l k)) ∙ ap (λ (x : ℕ). kept (event_at l t x) (item_of l x)) e, ap (λ (x : ℕ). t + one (event_at l t x)) e)
last_row l (suc n) k t i h =
    let b = event_at l t k in
    let r = last_row l n (k + 1) (t + one b) i (omega arith) in
    (ap (λ (z : List Item). kept b (item_of l k) ++ z) r.0 ∙ sym (append_assoc (kept b (item_of l k)) (items_from l n (k + 1) (t + one b)) (kept (event_at l (taken_from l n (k + 1) (t + one b)) i) (item_of l i))), r.1)

-- ---- a row more

-- of n packet rows and m event rows the records xs are written, and all events are left behind
pub record Flow (n m : ℕ) (bytes rows marks : List ℕ) (xs : List Item) : Type 0 where
  pub items : items_from (lent bytes n rows m marks) n 0 0 ≡ xs
  pub taken : taken_from (lent bytes n rows m marks) n 0 0 ≡ m
  pub size : length marks ≡ m * 2

module _ (n m : ℕ) (bytes rows marks : List ℕ) (xs : List Item) (h : Laid n rows bytes) (f : Flow n m bytes rows marks xs) where
  -- the rows before it
  module _ (p : List ℕ) (time : ℕ) where
    abbrev more : List ℕ
    more = rows ++ (length bytes ∷ time ∷ [])

    old-item : (i : ℕ) → i < n → item_at (get_or more (i * 2 + 1) 0) (packet_bytes i (suc n) more (bytes ++ p)) ≡ item_at (get_or rows (i * 2 + 1) 0) (packet_bytes i n rows bytes)
    old-item i l =
        let t = get_or-append rows (length bytes ∷ time ∷ []) 0 (i * 2 + 1) (omega (arith, h.size)) in
        λ j. item_at (t j) (old-packet n rows bytes p time h i l j)

    new-item : item_at (get_or more (n * 2 + 1) 0) (packet_bytes n (suc n) more (bytes ++ p)) ≡ item_at time p
    new-item =
        let e : n * 2 + 1 ≡ length rows + 1 = omega (arith, h.size) in
        let t : get_or more (n * 2 + 1) 0 ≡ time = ap (λ (k : ℕ). get_or more k 0) e ∙ get_or-append-add rows (length bytes ∷ time ∷ []) 1 0 in
        λ j. item_at (t j) (new-packet n rows bytes p time h j)

  -- a packet's
  pub flow-packet : (p : List ℕ) (time : ℕ) → Flow (suc n) m (bytes ++ p) (rows ++ (length bytes ∷ time ∷ [])) marks (xs ++ (item_at time p ∷ []))
  flow-packet p time =
      let l = lent bytes n rows m marks in
      let v = lent (bytes ++ p) (suc n) (rows ++ (length bytes ∷ time ∷ [])) m marks in
      let s = same_rows v l n 0 0 (λ i b. old-item p time i (omega arith)) (λ i u b. refl) in
      let r = last_row v n 0 0 n (omega arith) in
      let t : taken_from v n 0 0 ≡ m = s.1 ∙ f.taken in
      let b = ap (λ (x : Bool). x && eqb (get_or marks (m * 2) 0) n) (le-ltb m m (omega arith)) in
      let no : event_at v (taken_from v n 0 0) n ≡ false = ap (λ (u : ℕ). event_at v u n) t ∙ b in
      let z : m + 0 ≡ m = omega arith in
      record {
        items = r.0 ∙ (λ j. (s.0 ∙ f.items) j ++ kept (no j) (new-item p time j));
        taken = r.1 ∙ ((λ j. t j + one (no j)) ∙ z);
        size = f.size;
      }

  -- an event's
  marked : (code : ℕ) (i u : ℕ) → i < n → ltb u (suc m) && eqb (get_or (marks ++ (n ∷ code ∷ [])) (u * 2) 0) i ≡ ltb u m && eqb (get_or marks (u * 2) 0) i
  marked code i u l = by (ltb u m) refl
    where
      by : (b : Bool) → ltb u m ≡ b → ltb u (suc m) && eqb (get_or (marks ++ (n ∷ code ∷ [])) (u * 2) 0) i ≡ b && eqb (get_or marks (u * 2) 0) i
      by true q =
          let k = ltb-true u m q in
          λ j. lt-ltb u (suc m) (omega arith) j && eqb (get_or-append marks (n ∷ code ∷ []) 0 (u * 2) (omega (arith, f.size)) j) i
      by false q = go (eqb u m) refl
        where
          go : (c : Bool) → eqb u m ≡ c → ltb u (suc m) && eqb (get_or (marks ++ (n ∷ code ∷ [])) (u * 2) 0) i ≡ false
          go true e =
              let z : u * 2 ≡ length marks + 0 = let w = eqb-true u m e in omega (arith, f.size) in
              let g = ap (λ (k : ℕ). get_or (marks ++ (n ∷ code ∷ [])) k 0) z ∙ get_or-append-add marks (n ∷ code ∷ []) 0 0 in
              let d : n ≡ i → ⊥ = λ w. omega (arith, w, l) in
              (λ j. lt-ltb u (suc m) (let w = eqb-true u m e in omega arith) j && eqb (g j) i) ∙ ne_eqb n i d
          go false e =
              let k = ltb-false u m q in
              let w = eqb-false u m e in
              ap (λ (x : Bool). x && eqb (get_or (marks ++ (n ∷ code ∷ [])) (u * 2) 0) i) (le-ltb u (suc m) (omega (arith, k, w)))

  pub flow-event : (code time : ℕ) → Flow (suc n) (suc m) (bytes ++ []) (rows ++ (length bytes ∷ time ∷ [])) (marks ++ (n ∷ code ∷ [])) xs
  flow-event code time =
      let l = lent bytes n rows m marks in
      let v = lent (bytes ++ []) (suc n) (rows ++ (length bytes ∷ time ∷ [])) (suc m) (marks ++ (n ∷ code ∷ [])) in
      let s = same_rows v l n 0 0 (λ i b. old-item [] time i (omega arith)) (λ i u b. marked code i u (omega arith)) in
      let r = last_row v n 0 0 n (omega arith) in
      let t : taken_from v n 0 0 ≡ m = s.1 ∙ f.taken in
      let z : m * 2 ≡ length marks + 0 = omega (arith, f.size) in
      let g = ap (λ (k : ℕ). get_or (marks ++ (n ∷ code ∷ [])) k 0) z ∙ get_or-append-add marks (n ∷ code ∷ []) 0 0 in
      let b : event_at v m n ≡ true = (λ j. lt-ltb m (suc m) (omega arith) j && eqb (g j) n) ∙ eq-eqb n n refl in
      let yes : event_at v (taken_from v n 0 0) n ≡ true = ap (λ (u : ℕ). event_at v u n) t ∙ b in
      let o : m + 1 ≡ suc m = omega arith in
      record {
        items = r.0 ∙ ((λ j. (s.0 ∙ f.items) j ++ kept (yes j) (item_of v n)) ∙ append-nil xs);
        taken = r.1 ∙ ((λ j. t j + one (yes j)) ∙ o);
        size = omega (arith, length-append marks (n ∷ code ∷ []), f.size);
      }

-- ---- rows behind the last are not read

pub cut-rows : (n m : ℕ) (bytes rows marks : List ℕ) (rows' marks' : List ℕ) → ((i : ℕ) → i < n * 2 → get_or rows i 0 ≡ get_or rows' i 0) → ((i : ℕ) → i < m * 2 → get_or marks i 0 ≡ get_or marks' i 0)
    → (items_from (lent bytes n rows m marks) n 0 0 ≡ items_from (lent bytes n rows' m marks') n 0 0) × (taken_from (lent bytes n rows m marks) n 0 0 ≡ taken_from (lent bytes n rows' m marks') n 0 0)
cut-rows n m bytes rows marks rows' marks' f g =
    same_rows (lent bytes n rows m marks) (lent bytes n rows' m marks') n 0 0 (λ i h. item i (omega arith)) (λ i u h. mark i u)
  where
    start : (k : ℕ) (b : Bool) → ltb k n ≡ b → cond b (min (get_or rows (k * 2) 0) (length bytes)) (length bytes) ≡ cond b (min (get_or rows' (k * 2) 0) (length bytes)) (length bytes)
    start k true q = let l = ltb-true k n q in ap (λ (x : ℕ). min x (length bytes)) (f (k * 2) (omega arith))
    start k false q = refl

    item : (i : ℕ) → i < n → item_of (lent bytes n rows m marks) i ≡ item_of (lent bytes n rows' m marks') i
    item i h =
        let a = start i (ltb i n) refl in
        let b = start (i + 1) (ltb (i + 1) n) refl in
        λ j. item_at (f (i * 2 + 1) (omega arith) j) (take (b j - a j) (drop (a j) bytes))

    mark : (i u : ℕ) → event_at (lent bytes n rows m marks) u i ≡ event_at (lent bytes n rows' m marks') u i
    mark i u = by (ltb u m) refl
      where
        by : (b : Bool) → ltb u m ≡ b → b && eqb (get_or marks (u * 2) 0) i ≡ b && eqb (get_or marks' (u * 2) 0) i
        by true q = let l = ltb-true u m q in ap (λ (x : ℕ). eqb x i) (g (u * 2) (omega arith))
        by false q = refl
