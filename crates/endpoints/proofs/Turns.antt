-- A turn of each loop over the endpoints: what the definition by recursion says of endpoint i and of those after it.
use Prim.Native.Nat.{ℕ, zero, suc, ◌+◌, ◌*◌, ◌-◌, ◌<◌, ◌≤◌}
use native.Mathlib.Omega.{arith}
use native.Mathlib.Numerals.{add-one}
use mathlib.Core.Path.{◌≡◌, ap, ◌∙◌}
use mathlib.Core.Bool.{Bool, true, false, cond}
use mathlib.Core.List.{List, [], ◌∷◌}
use borrow.Author.Tests.{eq-eqb, ne_eqb}
use lib.Dec.{eqb}
use Rattle.std.specs.List.{fold, count_by, range_with_len}
use lib.ListN.{length, set}
use lib.Seq.{sets, get_or-set_same}
use Rattle.std.proofs.lemmas.List.{set-get_or}
use Rattle.endpoints.specs.Each.{each, becomes, closed, closing, state_bytes, state_word}
use Rattle.endpoints.specs.Phases.{count}
use Rattle.endpoints.proofs.EachLaws.{each_else}
use Rattle.endpoints.proofs.StatesLaws.{state_byte}
use Rattle.endpoints.specs.Table.{word_at, byte_of}
use Rattle.endpoints.specs.Word as word

-- what is left before and after a turn
left : (n i : ℕ) → i < n → n - i ≡ suc (n - (i + 1))
left n i h = omega arith

module _ (test : ℕ → Bool) where
  counted : (n i m : ℕ) → fold (λ a x. a + cond (test x) 1 0) m (range_with_len i n) ≡ m + count test i n
  counted zero i m = omega arith
  counted (suc n) i m = counted n (i + 1) (m + cond (test i) 1 0) ∙ turn (test i) _ _ (ap (λ (j : ℕ). count test j n) (add-one i))
    where
      turn : (b : Bool) (x y : ℕ) → x ≡ y → m + cond b 1 0 + x ≡ m + cond b (suc y) y
      turn true x y e = omega arith
      turn false x y e = omega arith

  -- std's count over a range is ours
  pub count_range : (n i : ℕ) → count_by test (range_with_len i n) ≡ count test i n
  count_range n i = counted n i 0 ∙ omega arith

module _ (t : List ℕ) (n i : ℕ) (h : i < n) where
  pub each_next : (k r : ℕ) (f : ℕ → ℕ → ℕ) → r ≡ f i (word_at t i k) → each k f t i (n - i) ≡ each k f (set t (i * word.width + k) r) (i + 1) (n - (i + 1))
  each_next k r f e = rw (left n i h, e, add-one)

  -- phase p becomes phase q, and any other stays
  pub change_hit : (p q : ℕ) → word_at t i word.phase ≡ p
      → each word.phase (becomes p q) t i (n - i) ≡ each word.phase (becomes p q) (set t (i * word.width + word.phase) q) (i + 1) (n - (i + 1))
  change_hit p q w = each_next word.phase q (becomes p q) (rw (eq-eqb _ _ w))

  pub change_miss : (p q : ℕ) → (word_at t i word.phase ≡ p → ⊥) → each word.phase (becomes p q) t i (n - i) ≡ each word.phase (becomes p q) t (i + 1) (n - (i + 1))
  change_miss p q w =
      each_next word.phase (word_at t i word.phase) (becomes p q) (rw (ne_eqb _ _ w))
      ∙ ap (λ (u : List ℕ). each word.phase (becomes p q) u (i + 1) (n - (i + 1))) (set-get_or t (i * word.width + word.phase) 0)

  pub closing_hit : (item : ℕ) → word_at t i word.phase ≡ word.Ended → closing t item i (n - i) ≡ closed i item (closing t item (i + 1) (n - (i + 1)))
  closing_hit item w = rw (left n i h, eq-eqb _ _ w, add-one)

  pub closing_miss : (item : ℕ) → (word_at t i word.phase ≡ word.Ended → ⊥) → closing t item i (n - i) ≡ closing t item (i + 1) (n - (i + 1))
  closing_miss item w = rw (left n i h, ne_eqb _ _ w, add-one)

-- a row of four, and the rest behind it
pub row_next : (l l' rest : List ℕ) (row a b c d : ℕ) → l' ≡ sets l (row * 4) (a ∷ b ∷ c ∷ d ∷ [])
    → sets l (row * 4) (a ∷ b ∷ c ∷ d ∷ rest) ≡ sets l' ((row + 1) * 4) rest
row_next l l' rest row a b c d p = let e : (row + 1) * 4 ≡ suc (suc (suc (suc (row * 4)))) = omega arith in rw (p, e)

-- the bytes of a state row, from endpoint i on, where the states from i on are still to be made anew
abbrev pub row_from : ℕ → Bool → List ℕ → ℕ → ℕ → List ℕ
row_from endpoint start t i n = state_bytes (each word.state (state_word endpoint start) t i n) i n

row_step : (t : List ℕ) (i m endpoint : ℕ) (start : Bool) (r : ℕ) → i < 128 → length t ≡ word.table → r ≡ state_word endpoint start i (word_at t i word.state)
    → row_from endpoint start t i (suc m) ≡ r ∷ row_from endpoint start (set t (i * word.width + word.state) r) (suc i) m
row_step t i m endpoint start r h l e =
    rw e (ap (λ (x : ℕ). x ∷ state_bytes later (suc i) m) (ap byte_of same ∙ state_byte (eqb i endpoint) (eqb endpoint 0) start (byte_of (word_at t i word.state))))
  where
    f : ℕ → ℕ → ℕ
    f = state_word endpoint start

    stored : List ℕ
    stored = set t (i * word.width + word.state) (f i (word_at t i word.state))

    later : List ℕ
    later = each word.state f stored (suc i) m

    same : word_at later i word.state ≡ f i (word_at t i word.state)
    same =
        each_else word.state f m stored (suc i) (i * word.width + word.state) (λ j u v w. omega arith)
        ∙ get_or-set_same t (i * word.width + word.state) (f i (word_at t i word.state)) 0 (omega arith)

pub row-turn : (t : List ℕ) (n i endpoint : ℕ) (start : Bool) (r : ℕ) → i < n → n ≤ 128 → length t ≡ word.table → r ≡ state_word endpoint start i (word_at t i word.state)
    → row_from endpoint start t i (n - i) ≡ r ∷ row_from endpoint start (set t (i * word.width + word.state) r) (i + 1) (n - (i + 1))
row-turn t n i endpoint start r h g l e =
    let left : n - i ≡ suc (n - suc i) = omega arith in
    let next : i + 1 ≡ suc i = omega arith in
    rw (left, next) (row_step t i (n - suc i) endpoint start r (omega arith) l e)
