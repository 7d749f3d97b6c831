-- Laws (proved): the laws of `each`: the word that is made anew, every other word as it was, and the entries of both.
use Rattle.std.specs.Prelude.{ℕ, zero, suc, ◌+◌, ◌*◌, ◌<◌, ◌≤◌, ◌≡◌, refl, List, Bool, true, false, cond, eqb, length, get_or, set}
use Rattle.std.proofs.Common.{arith, ap, ◌∙◌, eqb-true, length-set, get_or-set_same, get_or-set_other}
use Rattle.std.proofs.lemmas.Bool.{eqb-false}
use Rattle.endpoints.specs.Each.{each}
use Rattle.endpoints.specs.Table.{word_at, byte_of, phase_of, entry_of, entry_at, with_phase, with_state}
use Rattle.endpoints.proofs.TableLaws.{entry_ext}
use Rattle.endpoints.specs.Word as word

module _ (k : ℕ) (f : ℕ → ℕ → ℕ) where
  pub length-each : (n : ℕ) (t : List ℕ) (i : ℕ) → length (each k f t i n) ≡ length t
  length-each zero t i = refl
  length-each (suc n) t i = length-each n (set t (i * word.width + k) (f i (word_at t i k))) (suc i) ∙ length-set t (i * word.width + k) (f i (word_at t i k))

  -- what is no word k of the n endpoints from i on stays
  pub each_else : (n : ℕ) (t : List ℕ) (i x : ℕ) → ((j : ℕ) → i ≤ j → j < i + n → x ≡ j * word.width + k → ⊥) → get_or (each k f t i n) x 0 ≡ get_or t x 0
  each_else zero t i x h = refl
  each_else (suc n) t i x h =
      each_else n (set t (i * word.width + k) (f i (word_at t i k))) (suc i) x (λ j u v e. h j (omega arith) (omega arith) e)
      ∙ get_or-set_other t (i * word.width + k) x (f i (word_at t i k)) 0 (λ e. h i (omega arith) (omega arith) e)

  -- word k of each of them is made anew
  pub each_at : (n : ℕ) (t : List ℕ) (i j : ℕ) → i ≤ j → j < i + n → j * word.width + k < length t → word_at (each k f t i n) j k ≡ f j (word_at t j k)
  each_at zero t i j h g l = absurd (omega arith)
  each_at (suc n) t i j h g l = pick (eqb i j) refl (λ u x y z. each_at n u (suc i) j x y z)
    where
      pick : (b : Bool) → eqb i j ≡ b
          → ((u : List ℕ) → suc i ≤ j → j < suc i + n → j * word.width + k < length u → word_at (each k f u (suc i) n) j k ≡ f j (word_at u j k))
          → word_at (each k f t i (suc n)) j k ≡ f j (word_at t j k)
      pick true e rec =
          let q = eqb-true i j e in
          rw (← q)
          (each_else n (set t (i * word.width + k) (f i (word_at t i k))) (suc i) (i * word.width + k) (λ m u v w. omega arith)
          ∙ get_or-set_same t (i * word.width + k) (f i (word_at t i k)) 0 (omega arith))
      pick false e rec =
          let ne = eqb-false i j e in
          rec (set t (i * word.width + k) (f i (word_at t i k))) (omega arith) (omega arith) (rw length-set (omega arith))
          ∙ ap (f j) (get_or-set_other t (i * word.width + k) (j * word.width + k) (f i (word_at t i k)) 0 (λ v. ne (omega arith)))

  -- the other words of a row stay
  pub each_word : (t : List ℕ) (i n j x : ℕ) → k < word.width → x < word.width → (x ≡ k → ⊥) → word_at (each k f t i n) j x ≡ word_at t j x
  each_word t i n j x hk hx ne = each_else n t i (j * word.width + x) (λ m u v e. ne (omega arith))

  -- an endpoint beyond them keeps its entry
  pub entry_beyond : (t : List ℕ) (n j : ℕ) → k < word.width → n ≤ j → entry_at (each k f t 0 n) j ≡ entry_at t j
  unfolding entry_at
  entry_beyond t n j hk h = entry_ext _ _ (λ x hx. each_else n t 0 (j * word.width + x) (λ m u v e. omega arith))

-- a row with another word at k
abbrev with : ℕ → ℕ → (ℕ → ℕ) → ℕ → ℕ
with k v w x = cond (eqb x k) v (w x)

entry-each : (k : ℕ) (f : ℕ → ℕ → ℕ) (t : List ℕ) (n j : ℕ) → k < word.width → n * word.width ≤ length t → j < n
    → entry_at (each k f t 0 n) j ≡ entry_of (with k (f j (word_at t j k)) (word_at t j))
unfolding entry_at
entry-each k f t n j hk l h = entry_ext _ _ (λ x hx. pick x hx (eqb x k) refl)
  where
    pick : (x : ℕ) → x < word.width → (b : Bool) → eqb x k ≡ b → word_at (each k f t 0 n) j x ≡ cond b (f j (word_at t j k)) (word_at t j x)
    pick x hx true e = let q = eqb-true x k e in rw q (each_at k f n t 0 j (omega arith) (omega arith) (omega arith))
    pick x hx false e = each_word k f t 0 n j x hk hx (eqb-false x k e)

-- an endpoint among them keeps all but what is read off word k
pub entry-phase : (f : ℕ → ℕ → ℕ) (t : List ℕ) (n j : ℕ) → n * word.width ≤ length t → j < n
    → entry_at (each word.phase f t 0 n) j ≡ with_phase (phase_of (f j (word_at t j word.phase))) (entry_at t j)
unfolding entry_at
entry-phase f t n j l h = entry-each word.phase f t n j (omega arith) l h

pub entry-state : (f : ℕ → ℕ → ℕ) (t : List ℕ) (n j : ℕ) → n * word.width ≤ length t → j < n
    → entry_at (each word.state f t 0 n) j ≡ with_state (byte_of (f j (word_at t j word.state))) (entry_at t j)
unfolding entry_at
entry-state f t n j l h = entry-each word.state f t n j (omega arith) l h
