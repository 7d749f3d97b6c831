-- Laws (proved): the words that `store` writes: what a store, and the loops over the endpoints, leave; and that they determine their entry's row.
use Rattle.std.specs.Prelude.{ℕ, zero, suc, ◌+◌, ◌*◌, ◌<◌, ◌≤◌, ◌≡◌, refl, Bool, true, false, cond, List, [], ◌∷◌, ◌⊎◌, eqb, ltb, length, get_or}
use Rattle.std.proofs.Common.{mod-eq_of_lt, arith, sym, ap, ◌∙◌, inl, inr, ⊎_elim, eqb-true, ltb-true, ltb-false}
use Rattle.std.proofs.lemmas.Bool.{eqb-false}
use Rattle.std.proofs.Math.Seq.{length-sets}
use Rattle.rows.specs.One.{one}
use Rattle.endpoints.specs.Each.{becomes, cleared, ended, each, state_word, next_states}
use Rattle.endpoints.specs.States.{next_state}
use Rattle.endpoints.proofs.EachLaws.{each_at, each_else, each_word}
use Rattle.endpoints.specs.Table.{word_at, byte_of, flag_of, phase_of, phase_word, words, entry_at, store_at}
use Rattle.endpoints.proofs.TableLaws.{Fits, word_same, word-other}
use Rattle.endpoints.specs.Word as word
use Rattle.endpoints.specs.declared.Endpoint.{Endpoint}
use Rattle.endpoints.specs.declared.Phase.{Phase}
use Rattle.endpoints.specs.declared.Phase.TheVariants.{None, Early, Active, Ended}
use Rattle.record.specs.Formed.{Stored}

-- ---- a store

flag_small : (b : Bool) → one b < 2
flag_small true = omega arith
flag_small false = omega arith

phase_small : (p : Phase) → phase_word p ≤ word.Ended
phase_small None = omega arith
phase_small Early = omega arith
phase_small Active = omega arith
phase_small Ended = omega arith

pub stored_same : (t : List ℕ) (i : ℕ) (e : Endpoint) → length t ≡ word.table → i < 128 → Fits e → Stored (store_at t i e) i
stored_same t i e l h f =
    record {
      address = rw (at word.address (omega arith)) f.address;
      phase = rw (at word.phase (omega arith)) (phase_small e.phase);
      state = rw (at word.state (omega arith)) f.state;
      first = rw (at word.first (omega arith)) f.first;
      done = rw (at word.done (omega arith)) (flag_small e.done);
      last = rw (at word.last (omega arith)) f.last;
      success = rw (at word.success (omega arith)) (flag_small e.success);
      ready = rw (at word.ready (omega arith)) (flag_small e.ready);
      pending = rw (at word.pending (omega arith)) (flag_small e.pending);
    }
  where
    at : (k : ℕ) → k < word.width → word_at (store_at t i e) i k ≡ get_or (words e) k 0
    at k hk = word_same t i e k l h hk

-- what is kept by a row whose words are those of another, but for a phase and a state that are made anew
abbrev pub Anew : List ℕ → List ℕ → ℕ → ℕ → Type 0
Anew t u j k = (word_at u j k ≡ word_at t j k) ⊎ (((k ≡ word.phase) ⊎ (k ≡ word.state)) × (word_at u j k ≤ 3))

module _ (t u : List ℕ) (j : ℕ) (h : (k : ℕ) → k < word.width → Anew t u j k) where
  -- a word of another kind
  keep : (k m : ℕ) → k < word.width → (k ≡ word.phase → ⊥) → (k ≡ word.state → ⊥) → word_at t j k < m → word_at u j k < m
  keep k m hk a b g = pick (h k hk)
    where
      pick : (word_at u j k ≡ word_at t j k) ⊎ (((k ≡ word.phase) ⊎ (k ≡ word.state)) × (word_at u j k ≤ 3)) → word_at u j k < m
      pick (inl e) = rw e g
      pick (inr p) = absurd (⊎_elim a b p.0)

  -- a phase or a state
  wide : (k m : ℕ) → k < word.width → 3 ≤ m → word_at t j k ≤ m → word_at u j k ≤ m
  wide k m hk l g = pick (h k hk)
    where
      pick : (word_at u j k ≡ word_at t j k) ⊎ (((k ≡ word.phase) ⊎ (k ≡ word.state)) × (word_at u j k ≤ 3)) → word_at u j k ≤ m
      pick (inl e) = rw e g
      pick (inr p) = let q = p.1 in omega arith

  pub stored_anew : Stored t j → Stored u j
  stored_anew s =
      record {
        address = keep word.address 256 (omega arith) (λ e. omega arith) (λ e. omega arith) s.address;
        phase = wide word.phase word.Ended (omega arith) (omega arith) s.phase;
        state = let g = s.state in let r = wide word.state 255 (omega arith) (omega arith) (omega arith) in omega arith;
        first = keep word.first 256 (omega arith) (λ e. omega arith) (λ e. omega arith) s.first;
        done = keep word.done 2 (omega arith) (λ e. omega arith) (λ e. omega arith) s.done;
        last = keep word.last 256 (omega arith) (λ e. omega arith) (λ e. omega arith) s.last;
        success = keep word.success 2 (omega arith) (λ e. omega arith) (λ e. omega arith) s.success;
        ready = keep word.ready 2 (omega arith) (λ e. omega arith) (λ e. omega arith) s.ready;
        pending = keep word.pending 2 (omega arith) (λ e. omega arith) (λ e. omega arith) s.pending;
      }

pub stored_other : (t : List ℕ) (i j : ℕ) (e : Endpoint) → (j ≡ i → ⊥) → Stored t j → Stored (store_at t i e) j
stored_other t i j e ne s = stored_anew t (store_at t i e) j (λ k hk. inl (word-other t i j e k ne hk)) s

pub length_store : (t : List ℕ) (i : ℕ) (e : Endpoint) → length (store_at t i e) ≡ length t
unfolding store_at
length_store t i e = length-sets t (i * word.width) (words e)

-- ---- the loops over the endpoints

-- word x made anew by f in the first n rows, for a phase or a state
each_anew : (x : ℕ) (f : ℕ → ℕ → ℕ) (t : List ℕ) (n j : ℕ) → (x ≡ word.phase) ⊎ (x ≡ word.state) → x < word.width → n * word.width ≤ length t
    → (f j (word_at t j x) ≤ 3) ⊎ (f j (word_at t j x) ≡ word_at t j x) → (k : ℕ) → k < word.width → Anew t (each x f t 0 n) j k
each_anew x f t n j kind hx l small k hk = pick (eqb k x) refl (ltb j n) refl
  where
    at : word_at (each x f t 0 n) j x ≡ f j (word_at t j x) → (f j (word_at t j x) ≤ 3) ⊎ (f j (word_at t j x) ≡ word_at t j x)
        → (word_at (each x f t 0 n) j x ≡ word_at t j x) ⊎ (((x ≡ word.phase) ⊎ (x ≡ word.state)) × (word_at (each x f t 0 n) j x ≤ 3))
    at e (inl g) = inr (kind, rw e g)
    at e (inr g) = inl (e ∙ g)

    pick : (b : Bool) → eqb k x ≡ b → (c : Bool) → ltb j n ≡ c
        → (word_at (each x f t 0 n) j k ≡ word_at t j k) ⊎ (((k ≡ word.phase) ⊎ (k ≡ word.state)) × (word_at (each x f t 0 n) j k ≤ 3))
    pick true p true q =
        let e = eqb-true k x p in
        let v = ltb-true j n q in
        rw e (at (each_at x f n t 0 j (omega arith) (omega arith) (omega arith)) small)
    pick true p false q =
        let e = eqb-true k x p in
        let v = ltb-false j n q in
        inl (each_else x f n t 0 (j * word.width + k) (λ m u w z. omega arith))
    pick false p c q = inl (each_word x f t 0 n j k hx hk (eqb-false k x p))

becomes_small : (p q : ℕ) → q ≤ 3 → (j w : ℕ) → (becomes p q j w ≤ 3) ⊎ (becomes p q j w ≡ w)
becomes_small p q h j w = pick (eqb w p)
  where
    pick : (b : Bool) → (cond b q w ≤ 3) ⊎ (cond b q w ≡ w)
    pick true = inl h
    pick false = inr refl

next_small : (same event start : Bool) (last : ℕ) → next_state same event start last ≤ 3
next_small same event start last = small same event start (eqb last word.Starting) (eqb last word.Ongoing)
  where
    small : (same event start a b : Bool)
        → cond same (cond start word.Starting word.Ending) (cond a (cond event word.Ending word.Ongoing) (cond b (cond event word.Ending word.Ongoing) word.Idle)) ≤ 3
    small true event true a b = omega arith
    small true event false a b = omega arith
    small false true start true b = omega arith
    small false false start true b = omega arith
    small false true start false true = omega arith
    small false false start false true = omega arith
    small false event start false false = omega arith

module _ (t : List ℕ) (n : ℕ) (l : n * word.width ≤ length t) (j : ℕ) (s : Stored t j) where
  pub stored-cleared : Stored (cleared t n) j
  unfolding cleared
  stored-cleared = stored_anew t _ j (each_anew word.phase (becomes word.Ended word.None) t n j (inl refl) (omega arith) l (becomes_small word.Ended word.None (omega arith) j _)) s

  pub stored-ended : Stored (ended t n) j
  unfolding ended
  stored-ended = stored_anew t _ j (each_anew word.phase (becomes word.Active word.Ended) t n j (inl refl) (omega arith) l (becomes_small word.Active word.Ended (omega arith) j _)) s

  pub stored_next : (endpoint : ℕ) (start : Bool) → Stored (next_states t n endpoint start) j
  unfolding next_states
  stored_next endpoint start =
      stored_anew t _ j (each_anew word.state (state_word endpoint start) t n j (inr refl) (omega arith) l (inl (next_small (eqb j endpoint) (eqb endpoint 0) start (byte_of (word_at t j word.state))))) s

-- ---- entries determine their words

flag-back : (w : ℕ) → w < 2 → one (flag_of w) ≡ w
flag-back zero h = refl
flag-back (suc zero) h = refl
flag-back (suc (suc w)) h = absurd (omega arith)

phase-back : (w : ℕ) → w ≤ word.Ended → phase_word (phase_of w) ≡ w
phase-back zero h = refl
phase-back (suc zero) h = refl
phase-back (suc (suc zero)) h = refl
phase-back (suc (suc (suc zero))) h = refl
phase-back (suc (suc (suc (suc w)))) h = absurd (omega arith)

-- the n words from k on
abbrev row_from : (ℕ → ℕ) → ℕ → ℕ → List ℕ
row_from w k zero = []
row_from w k (suc n) = w k ∷ row_from w (suc k) n

get_d-row : (w : ℕ → ℕ) (n i k : ℕ) → k < n → get_or (row_from w i n) k 0 ≡ w (i + k)
get_d-row w zero i k h = absurd (omega arith)
get_d-row w (suc n) i zero h = let e : i + 0 ≡ i = omega arith in rw e
get_d-row w (suc n) i (suc k) h = let e : i + suc k ≡ suc i + k = omega arith in rw e (get_d-row w n (suc i) k (omega arith))

words-entry : (t : List ℕ) (i : ℕ) → Stored t i → words (entry_at t i) ≡ row_from (word_at t i) 0 word.width
unfolding entry_at
words-entry t i s =
    simp (mod-eq_of_lt s.address, phase-back _ s.phase, mod-eq_of_lt s.state, mod-eq_of_lt s.first, flag-back _ s.done, mod-eq_of_lt s.last, flag-back _ s.success, flag-back _ s.ready, flag-back _ s.pending)

-- a stored word is that of its entry
pub word-entry : (t : List ℕ) (i : ℕ) → Stored t i → (k : ℕ) → k < word.width → word_at t i k ≡ get_or (words (entry_at t i)) k 0
word-entry t i s k h =
    let e : 0 + k ≡ k = omega arith in
    sym (rw e at (get_d-row (word_at t i) word.width 0 k h)) ∙ ap (λ (l : List ℕ). get_or l k 0) (sym (words-entry t i s))

-- tables of stored words that hold the same entry at i hold the same words there
pub determined : (t u : List ℕ) (i : ℕ) → Stored t i → Stored u i → entry_at t i ≡ entry_at u i → (k : ℕ) → k < word.width → word_at t i k ≡ word_at u i k
determined t u i s r e k h = word-entry t i s k h ∙ (ap (λ (x : Endpoint). get_or (words x) k 0) e ∙ sym (word-entry u i r k h))
