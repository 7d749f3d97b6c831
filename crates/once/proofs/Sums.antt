-- Sums and counts over the ledger: what is counted at the endpoints and what is not counted is all of it.
use Prim.Native.Nat.{ℕ, zero, suc, ◌+◌, ◌-◌, ◌<◌, ◌≤◌}
use native.Mathlib.Omega.{arith}
use mathlib.Core.Bool.{Bool, true, false}
use mathlib.Core.List.{List, [], ◌∷◌, ◌++◌}
use mathlib.Core.Path.{◌≡◌, refl, ap, ◌∙◌}
use borrow.Author.Tests.{eqb-true, eqb-false, eq-eqb, ltb-true, ltb-false}
use lib.Dec.{eqb, ltb}
use lib.ListN.{length}
use Rattle.rows.specs.One.{one}
use Rattle.transaction.specs.Table.{pick}
use Rattle.ledger.proofs.Account.{entered}
use Rattle.ledger.specs.Ledger.{Fate, Held, Waiting, Counted, Passed, Line, Ledger, is_counted, lengths_of, sum, is_data}
use Rattle.once.specs.Once.{data_bytes, is_uncounted, lines_of, Each}
use Rattle.once.proofs.Packets.{data_packets}

-- ---- lengths of lines, added up

sum-append : (ns ms : List ℕ) → sum (ns ++ ms) ≡ sum ns + sum ms
sum-append [] ms = omega arith
sum-append (n ∷ ns) ms = omega (arith, sum-append ns ms)

pub sum-line : (these : Fate → Bool) (a : Line) (l : Ledger) → sum (lengths_of these (a ∷ l)) ≡ sum (lengths_of these l) + pick (these a.fate) a.length 0
sum-line these a l = sum-append (lengths_of these l) _ ∙ by (these a.fate)
  where
    by : (b : Bool) → sum (lengths_of these l) + sum (pick b (a.length ∷ []) []) ≡ sum (lengths_of these l) + pick b a.length 0
    by true = omega arith
    by false = omega arith

abbrev pub sum_all : List (ℕ × ℕ) → ℕ
sum_all [] = 0
sum_all (a ∷ ps) = sum_all ps + a.1

-- over the first n endpoints
abbrev pub up_to : ℕ → (ℕ → ℕ) → ℕ
up_to zero f = 0
up_to (suc n) f = up_to n f + f n

pub up_same : (n : ℕ) (f g : ℕ → ℕ) → ((e : ℕ) → e < n → f e ≡ g e) → up_to n f ≡ up_to n g
up_same zero f g h = refl
up_same (suc n) f g h = omega (arith, h n (omega arith), up_same n f g (λ e l. h e (omega arith)))

-- one endpoint has k more
up_more : (n : ℕ) (f : ℕ → ℕ) (y k : ℕ) → up_to n (λ e. f e + pick (eqb e y) k 0) ≡ up_to n f + pick (ltb y n) k 0
up_more zero f y k = by (ltb y 0) refl
  where
    by : (b : Bool) → ltb y 0 ≡ b → 0 ≡ 0 + pick b k 0
    by true q = absurd (let h = ltb-true y 0 q in omega arith)
    by false q = omega arith
up_more (suc n) f y k = by (eqb n y) (ltb y n) (ltb y (suc n)) refl refl refl (up_more n f y k)
  where
    by : (z a b : Bool) → eqb n y ≡ z → ltb y n ≡ a → ltb y (suc n) ≡ b → {m : ℕ} → m ≡ up_to n f + pick a k 0 → m + (f n + pick z k 0) ≡ up_to n f + f n + pick b k 0
    by true true b p q r h = absurd (let s = eqb-true n y p in let t = ltb-true y n q in omega arith)
    by true false true p q r h = omega arith
    by true false false p q r h = absurd (let s = eqb-true n y p in let t = ltb-false y (suc n) r in omega arith)
    by false true true p q r h = omega arith
    by false true false p q r h = absurd (let s = ltb-true y n q in let t = ltb-false y (suc n) r in omega arith)
    by false false true p q r h = absurd (eqb-false n y p (let s = ltb-false y n q in let t = ltb-true y (suc n) r in omega arith))
    by false false false p q r h = omega arith

-- ---- all of it

pub spread : (n : ℕ) (l : Ledger) → ((e : ℕ) → n ≤ e → sum (lengths_of (is_counted e) l) ≡ 0) → up_to n (λ e. sum (lengths_of (is_counted e) l)) + sum (lengths_of is_uncounted l) ≡ sum_all (entered l)
spread n [] h = up_zero n
  where
    up_zero : (n : ℕ) → up_to n (λ e. 0) + 0 ≡ 0
    up_zero zero = refl
    up_zero (suc n) = omega (arith, up_zero n)
spread n (a ∷ l) h = by a.fate refl (spread n l (λ e q. omega (arith, h e q, sum-line (is_counted e) a l)))
  where
    same : ((e : ℕ) → is_counted e a.fate ≡ false) → up_to n (λ e. sum (lengths_of (is_counted e) (a ∷ l))) ≡ up_to n (λ e. sum (lengths_of (is_counted e) l))
    same z = up_same n (λ e. sum (lengths_of (is_counted e) (a ∷ l))) (λ e. sum (lengths_of (is_counted e) l)) (λ e q. omega (arith, sum-line (is_counted e) a l, ap (λ (b : Bool). pick b a.length 0) (z e)))

    left : is_uncounted a.fate ≡ true → sum (lengths_of is_uncounted (a ∷ l)) ≡ sum (lengths_of is_uncounted l) + a.length
    left z = sum-line is_uncounted a l ∙ ap (λ (b : Bool). sum (lengths_of is_uncounted l) + pick b a.length 0) z

    by : (f : Fate) → a.fate ≡ f → up_to n (λ e. sum (lengths_of (is_counted e) l)) + sum (lengths_of is_uncounted l) ≡ sum_all (entered l)
        → up_to n (λ e. sum (lengths_of (is_counted e) (a ∷ l))) + sum (lengths_of is_uncounted (a ∷ l)) ≡ sum_all (entered l) + a.length
    by Held q i = omega (arith, i, same (λ e. ap (is_counted e) q), left (ap is_uncounted q))
    by (Waiting y) q i = omega (arith, i, same (λ e. ap (is_counted e) q), left (ap is_uncounted q))
    by (Passed why y) q i = omega (arith, i, same (λ e. ap (is_counted e) q), left (ap is_uncounted q))
    by (Counted y) q i =
        let m : up_to n (λ e. sum (lengths_of (is_counted e) (a ∷ l))) ≡ up_to n (λ e. sum (lengths_of (is_counted e) l) + pick (eqb e y) a.length 0) =
        up_same n (λ e. sum (lengths_of (is_counted e) (a ∷ l))) (λ e. sum (lengths_of (is_counted e) l) + pick (eqb e y) a.length 0)
        (λ e p. sum-line (is_counted e) a l ∙ ap (λ (f : Fate). sum (lengths_of (is_counted e) l) + pick (is_counted e f) a.length 0) q) in
        let o : sum (lengths_of is_uncounted (a ∷ l)) ≡ sum (lengths_of is_uncounted l) + 0 = sum-line is_uncounted a l ∙ ap (λ (f : Fate). sum (lengths_of is_uncounted l) + pick (is_uncounted f) a.length 0) q in
        omega (arith, i, m, o, up_more n (λ e. sum (lengths_of (is_counted e) l)) y a.length, there (ltb y n) refl)
      where
        there : (b : Bool) → ltb y n ≡ b → pick b a.length 0 ≡ a.length
        there true r = refl
        there false r =
            let z = h y (ltb-false y n r) in
            let t = sum-line (is_counted y) a l ∙ ap (λ (f : Fate). sum (lengths_of (is_counted y) l) + pick (is_counted y f) a.length 0) q in
            let w : pick (eqb y y) a.length 0 ≡ a.length = rw (eq-eqb y y refl) in
            omega arith

-- ---- by the data packets

pub sum_data : (high : Bool) (n : ℕ) (f : ℕ → List ℕ) → sum_all (data_packets high n f) ≡ data_bytes high n f
sum_data high zero f = refl
sum_data high (suc n) f = by (is_data high (f n)) (sum_data high n f)
  where
    by : (b : Bool) → sum_all (data_packets high n f) ≡ data_bytes high n f → sum_all (pick b ((n, length (f n) - 3) ∷ data_packets high n f) (data_packets high n f)) ≡ data_bytes high n f + pick b (length (f n) - 3) 0
    by true h = omega arith
    by false h = omega arith

-- how often a packet is among them
abbrev pub times_in : ℕ → List (ℕ × ℕ) → ℕ
times_in k [] = 0
times_in k (a ∷ ps) = times_in k ps + one (eqb k a.0)

pub lines_in : (k : ℕ) (l : Ledger) → lines_of k l ≡ times_in k (entered l)
lines_in k [] = refl
lines_in k (a ∷ l) = omega (arith, lines_in k l)

pub times_data : (high : Bool) (k n : ℕ) (f : ℕ → List ℕ) → times_in k (data_packets high n f) ≡ pick (ltb k n) (one (is_data high (f k))) 0
times_data high k zero f = by (ltb k 0) refl
  where
    by : (b : Bool) → ltb k 0 ≡ b → 0 ≡ pick b (one (is_data high (f k))) 0
    by true q = absurd (let h = ltb-true k 0 q in omega arith)
    by false q = refl
times_data high k (suc n) f = own (is_data high (f n)) ∙ by (eqb k n) (ltb k n) (ltb k (suc n)) refl refl refl (times_data high k n f)
  where
    own : (b : Bool) → times_in k (pick b ((n, length (f n) - 3) ∷ data_packets high n f) (data_packets high n f)) ≡ times_in k (data_packets high n f) + pick b (one (eqb k n)) 0
    own true = refl
    own false = omega arith

    flag : (b : Bool) → pick b (one true) 0 ≡ one b
    flag true = refl
    flag false = refl

    none : (b : Bool) → pick b (one false) 0 ≡ 0
    none true = refl
    none false = refl

    by : (z a b : Bool) → eqb k n ≡ z → ltb k n ≡ a → ltb k (suc n) ≡ b → {m : ℕ} → m ≡ pick a (one (is_data high (f k))) 0 → m + pick (is_data high (f n)) (one z) 0 ≡ pick b (one (is_data high (f k))) 0
    by true true b p q r h = absurd (let s = eqb-true k n p in let t = ltb-true k n q in omega arith)
    by true false true p q r h = omega (arith, h, flag (is_data high (f n)), ap (λ (i : ℕ). one (is_data high (f i))) (eqb-true k n p))
    by true false false p q r h = absurd (let s = eqb-true k n p in let t = ltb-false k (suc n) r in omega arith)
    by false true true p q r h = omega (arith, h, none (is_data high (f n)))
    by false true false p q r h = absurd (let s = ltb-true k n q in let t = ltb-false k (suc n) r in omega arith)
    by false false true p q r h = absurd (eqb-false k n p (let s = ltb-false k n q in let t = ltb-true k (suc n) r in omega arith))
    by false false false p q r h = omega (arith, h, none (is_data high (f n)))

-- each with its length
abbrev pub EachOf : (ℕ → ℕ → Type 0) → List (ℕ × ℕ) → Type 0
EachOf Q [] = Unit {0}
EachOf Q (a ∷ ps) = Q a.0 a.1 × EachOf Q ps

pub long_data : (high : Bool) (n : ℕ) (f : ℕ → List ℕ) → EachOf (λ k m. m ≡ length (f k) - 3) (data_packets high n f)
long_data high zero f = tt
long_data high (suc n) f = by (is_data high (f n)) (long_data high n f)
  where
    by : (b : Bool) → EachOf (λ k m. m ≡ length (f k) - 3) (data_packets high n f) → EachOf (λ k m. m ≡ length (f k) - 3) (pick b ((n, length (f n) - 3) ∷ data_packets high n f) (data_packets high n f))
    by true h = (refl, h)
    by false h = h

pub each_data : (Q : ℕ → ℕ → Type 0) (l : Ledger) → EachOf Q (entered l) → Each (λ a. Q a.packet a.length) l
each_data Q [] h = tt
each_data Q (a ∷ l) h = (h.0, each_data Q l h.1)
