-- Inner (cited by private contracts alone): the laws of load and store: after a store the entry stands at its place, and all others are as before.
use Rattle.std.specs.Prelude.{ℕ, ◌+◌, ◌*◌, ◌<◌, ◌≡◌, refl, List, Bool, true, false, ◌⊎◌, ltb, length, get_or}
use Rattle.std.proofs.Common.{mod-eq_of_lt, mod-lt, arith, ◌∙◌, inl, inr, ⊎_elim, ltb-true, ltb-false}
use Rattle.rows.specs.One.{one}
use Rattle.rows.specs.Sets.{get_d-sets_in, get_d-sets-below, get_d-sets_past}
use Rattle.endpoints.specs.declared.Endpoint.{Endpoint}
use Rattle.endpoints.specs.declared.Phase.{Phase}
use Rattle.endpoints.specs.declared.Phase.TheVariants.{None, Early, Active, Ended}
use Rattle.endpoints.specs.Table.{word_at, flag_of, phase_of, phase_word, words, entry_of, entry_at, store_at}
use Rattle.endpoints.specs.Word as word

-- ---- words

pub word_same : (t : List ℕ) (i : ℕ) (e : Endpoint) (k : ℕ) → length t ≡ word.table → i < 128 → k < word.width → word_at (store_at t i e) i k ≡ get_or (words e) k 0
unfolding store_at
word_same t i e k l hi hk = get_d-sets_in (words e) t (i * word.width) k 0 (omega arith) (omega arith)

side : (j i : ℕ) → (j ≡ i → ⊥) → (j < i) ⊎ (i < j)
side j i ne = pick (ltb j i) refl
  where
    pick : (b : Bool) → ltb j i ≡ b → (j < i) ⊎ (i < j)
    pick true e = inl (ltb-true j i e)
    pick false e = let h = ltb-false j i e in inr (omega arith)

pub word-other : (t : List ℕ) (i j : ℕ) (e : Endpoint) (k : ℕ) → (j ≡ i → ⊥) → k < word.width → word_at (store_at t i e) j k ≡ word_at t j k
unfolding store_at
word-other t i j e k ne hk =
    ⊎_elim (λ h. get_d-sets-below (words e) t (i * word.width) (j * word.width + k) 0 (omega arith))
    (λ h. get_d-sets_past (words e) t (i * word.width) (j * word.width + k) 0 (omega arith))
    (side j i ne)

-- ---- entries

-- rows of the same words make the same entry
pub entry_ext : (w w' : ℕ → ℕ) → ((k : ℕ) → k < word.width → w' k ≡ w k) → entry_of w' ≡ entry_of w
entry_ext w w' h =
    simp (h 0 (omega arith), h 1 (omega arith), h 2 (omega arith), h 3 (omega arith), h 4 (omega arith), h 5 (omega arith), h 6 (omega arith), h 7 (omega arith), h 8 (omega arith), h 9 (omega arith), h 10 (omega arith), h 11 (omega arith), h 12 (omega arith), h 13 (omega arith), h 14 (omega arith), h 15 (omega arith), h 16 (omega arith))

flag_one : (b : Bool) → flag_of (one b) ≡ b
flag_one true = refl
flag_one false = refl

phase-word : (p : Phase) → phase_of (phase_word p) ≡ p
phase-word None = refl
phase-word Early = refl
phase-word Active = refl
phase-word Ended = refl

-- an entry whose byte fields are bytes, as those of every Endpoint of the code are
pub record Fits (e : Endpoint) : Type 0 where
  pub address : e.address < 256
  pub state : e.state < 256
  pub first : e.first < 256
  pub last : e.last < 256

-- an entry's own words make it
entry-words : (e : Endpoint) → Fits e → entry_of (λ k. get_or (words e) k 0) ≡ e
entry-words e f =
    simp (phase-word e.phase, flag_one e.done, flag_one e.success, flag_one e.ready, flag_one e.pending, mod-eq_of_lt f.address, mod-eq_of_lt f.state, mod-eq_of_lt f.first, mod-eq_of_lt f.last)

-- at the place of the store it is the entry stored
pub load_store_same : (t : List ℕ) (i : ℕ) (e : Endpoint) → length t ≡ word.table → i < 128 → Fits e → entry_at (store_at t i e) i ≡ e
unfolding entry_at
load_store_same t i e l h f = entry_ext _ _ (λ k hk. word_same t i e k l h hk) ∙ entry-words e f

-- at another place it is as before
pub load_store-other : (t : List ℕ) (i j : ℕ) (e : Endpoint) → (j ≡ i → ⊥) → entry_at (store_at t i e) j ≡ entry_at t j
unfolding entry_at
load_store-other t i j e ne = entry_ext _ _ (λ k hk. word-other t i j e k ne hk)

-- what is loaded can be stored
pub fits-entry : (t : List ℕ) (i : ℕ) → Fits (entry_at t i)
unfolding entry_at
fits-entry t i = record { address = mod-lt _ (omega arith); state = mod-lt _ (omega arith); first = mod-lt _ (omega arith); last = mod-lt _ (omega arith) }
