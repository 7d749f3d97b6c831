-- The state rows of a history lie behind each other: each is added with its bytes, and starts where those of the one before it end.
use Prim.Native.Nat.{ℕ, ◌+◌, ◌≤◌, ◌<◌}
use native.Mathlib.Omega.{arith}
use mathlib.Core.Bool.{Bool, true, false}
use mathlib.Core.List.{List, [], ◌∷◌, ◌++◌, append-nil}
use mathlib.Core.Path.{◌≡◌, refl, sym, subst, ◌∙◌}
use borrow.Author.Tests.{ltb-true, ltb-false}
use lib.Dec.{eqb, ltb}
use lib.ListN.{length, get_or, length-append, get_or-append}
use lib.Seq.{get_or_at}
use Rattle.rules.specs.Rows.{Row, StateRow, StateBytes, written, log}
use Rattle.plan.proofs.Frame.{row-log}

-- rows that lie in the state bytes from b up to n, each of at most c bytes; rows of other logs stand between them
pub data Tiled (b c : ℕ) : List Row → ℕ → Type 0 where
  none : Tiled b c [] b
  other : {js : List Row} {n : ℕ} (r : Row) → eqb (written r).0 7 ≡ false → eqb (written r).0 8 ≡ false → Tiled b c js n → Tiled b c (r ∷ js) n
  state : {js : List Row} {n : ℕ} (ss : List ℕ) (m : ℕ) → length ss ≤ c → m ≡ n + length ss → Tiled b c js n → Tiled b c (StateRow n ∷ StateBytes ss ∷ js) m

-- more endpoints
pub wider : {b c d : ℕ} {js : List Row} {n : ℕ} → c ≤ d → Tiled b c js n → Tiled b d js n
wider h none = none
wider h (other r p q t) = other r p q (wider h t)
wider h (state ss m l e t) = state ss m (omega arith) e (wider h t)

-- the rows of a call behind those before it
pub behind : {b c : ℕ} {js : List Row} {n : ℕ} {is : List Row} {m : ℕ} → Tiled b c js n → Tiled n c is m → Tiled b c (is ++ js) m
behind t none = t
behind t (other r p q u) = other r p q (behind t u)
behind t (state ss m l e u) = state ss m l e (behind t u)

-- ---- in the log: the starts of the rows, and behind them the end of the last

pub record Stepped (b c : ℕ) (ps : List ℕ) : Type 0 where
  pub first : get_or ps 0 0 ≡ b
  pub forward : (i : ℕ) → i + 1 < length ps → get_or ps i 0 ≤ get_or ps (i + 1) 0
  pub most : (i : ℕ) → i + 1 < length ps → get_or ps (i + 1) 0 ≤ get_or ps i 0 + c

module _ (b c : ℕ) (ss : List ℕ) (n m : ℕ) (less : n ≤ m) (few : m ≤ n + c) (s : Stepped b c (ss ++ (n ∷ []))) where
  abbrev old : List ℕ
  old = ss ++ (n ∷ [])

  size : length old ≡ length ss + 1
  size = length-append ss (n ∷ [])

  -- a place that was there
  there : (i : ℕ) → i < length old → get_or (old ++ (m ∷ [])) i 0 ≡ get_or old i 0
  there i h = get_or-append old (m ∷ []) 0 i h

  -- the last one, and the new one
  last : (i : ℕ) → i ≡ length ss → get_or (old ++ (m ∷ [])) i 0 ≡ n
  last i e = there i (omega (arith, size)) ∙ get_or_at ss n [] 0 i (sym e)

  new : (i : ℕ) → i ≡ length ss → get_or (old ++ (m ∷ [])) (i + 1) 0 ≡ m
  new i e = get_or_at old m [] 0 (i + 1) (omega (arith, size))

  longer : length (old ++ (m ∷ [])) ≡ length ss + 2
  longer = length-append old (m ∷ []) ∙ omega (arith, size)

  more : Stepped b c (old ++ (m ∷ []))
  more = record { first = there 0 (omega (arith, size)) ∙ s.first; forward = λ i h. by i h (ltb (i + 1) (length old)) refl; most = λ i h. up i h (ltb (i + 1) (length old)) refl }
    where
      by : (i : ℕ) → i + 1 < length (old ++ (m ∷ [])) → (t : Bool) → ltb (i + 1) (length old) ≡ t → get_or (old ++ (m ∷ [])) i 0 ≤ get_or (old ++ (m ∷ [])) (i + 1) 0
      by i h true q = let l = ltb-true (i + 1) (length old) q in omega (arith, there i (omega arith), there (i + 1) l, s.forward i l)
      by i h false q =
          let e : i ≡ length ss = omega (arith, ltb-false (i + 1) (length old) q, size, longer) in
          omega (arith, last i e, new i e)

      up : (i : ℕ) → i + 1 < length (old ++ (m ∷ [])) → (t : Bool) → ltb (i + 1) (length old) ≡ t → get_or (old ++ (m ∷ [])) (i + 1) 0 ≤ get_or (old ++ (m ∷ [])) i 0 + c
      up i h true q = let l = ltb-true (i + 1) (length old) q in omega (arith, there i (omega arith), there (i + 1) l, s.most i l)
      up i h false q =
          let e : i ≡ length ss = omega (arith, ltb-false (i + 1) (length old) q, size, longer) in
          omega (arith, last i e, new i e)

pub stepped : {b c : ℕ} {js : List Row} {n : ℕ} → Tiled b c js n → Stepped b c (log 8 js ++ (n ∷ []))
stepped none = record { first = refl; forward = λ i h. absurd (omega arith); most = λ i h. absurd (omega arith) }
stepped {b} {c} (other {js} {n} r p q t) = subst (λ (l : List ℕ). Stepped b c (l ++ (n ∷ []))) (sym (row-log 8 r js q)) (stepped t)
stepped {b} {c} (state {js} {n} ss m l e t) =
    subst (λ (k : List ℕ). Stepped b c ((k ++ (n ∷ [])) ++ (m ∷ []))) (sym (append-nil (log 8 js))) (more b c (log 8 js) n m (omega arith) (omega arith) (stepped t))
