-- Laws (proved): who waits after a store, after all that wait were closed, and after all that was active ended; and the entries then.
use Rattle.std.specs.Prelude.{ℕ, zero, suc, ◌+◌, ◌*◌, ◌<◌, ◌≤◌, ◌≡◌, refl, List, Bool, true, false, cond, eqb, length}
use Rattle.std.proofs.Common.{arith, ap, ◌∙◌, eqb-true, ne_eqb}
use Rattle.std.proofs.lemmas.Bool.{eqb-false}
use Rattle.rows.specs.One.{one}
use Rattle.endpoints.specs.declared.Endpoint.{Endpoint}
use Rattle.endpoints.specs.declared.Phase.{Phase}
use Rattle.endpoints.specs.declared.Phase.TheVariants.{None, Early, Active, Ended}
use Rattle.endpoints.specs.Each.{each, closed, closing, becomes, cleared, ended}
use Rattle.endpoints.proofs.EachLaws.{length-each, each_at, entry_beyond, entry-phase}
use Rattle.endpoints.specs.Phases.{in_phase, count, waiting}
use Rattle.endpoints.specs.Table.{word_at, phase_of, phase_word, entry_at, with_phase, store_at}
use Rattle.endpoints.proofs.TableLaws.{word_same, word-other}
use Rattle.endpoints.specs.Word as word

-- ---- counts

-- equal tests count alike
pub count_ext : (n : ℕ) (p q : ℕ → Bool) (i : ℕ) → ((j : ℕ) → i ≤ j → j < i + n → q j ≡ p j) → count q i n ≡ count p i n
count_ext zero p q i h = refl
count_ext (suc n) p q i h = rw (h i (omega arith) (omega arith), count_ext n p q (suc i) (λ j u v. h j (omega arith) (omega arith)))

-- a test that is the sum of two
pub count-sum : (n : ℕ) (p q r : ℕ → Bool) (i : ℕ) → ((j : ℕ) → i ≤ j → j < i + n → one (r j) ≡ one (p j) + one (q j)) → count r i n ≡ count p i n + count q i n
count-sum zero p q r i h = refl
count-sum (suc n) p q r i h = add (p i) (q i) (r i) _ _ _ (h i (omega arith) (omega arith)) (count-sum n p q r (suc i) (λ j u v. h j (omega arith) (omega arith)))
  where
    one_more : (b : Bool) (n : ℕ) → cond b (suc n) n ≡ n + one b
    one_more true n = omega arith
    one_more false n = omega arith

    add : (a b c : Bool) (x y z : ℕ) → one c ≡ one a + one b → z ≡ x + y → cond c (suc z) z ≡ cond a (suc x) x + cond b (suc y) y
    add a b c x y z e f = omega (arith, one_more a x, one_more b y, one_more c z)

-- where only row m changed
pub count-change : (n : ℕ) (p q : ℕ → Bool) (i m : ℕ) → i ≤ m → m < i + n → ((j : ℕ) → (j ≡ m → ⊥) → q j ≡ p j) → count q i n + one (p m) ≡ count p i n + one (q m)
count-change zero p q i m h g same = absurd (omega arith)
count-change (suc n) p q i m h g same = pick (eqb i m) refl (λ u v. count-change n p q (suc i) m u v same)
  where
    here : (b b' : Bool) (x : ℕ) → cond b' (suc x) x + one b ≡ cond b (suc x) x + one b'
    here true true x = refl
    here true false x = omega arith
    here false true x = omega arith
    here false false x = refl

    on : (b : Bool) (x x' y z : ℕ) → x' + y ≡ x + z → cond b (suc x') x' + y ≡ cond b (suc x) x + z
    on true x x' y z e = omega arith
    on false x x' y z e = e

    pick : (b : Bool) → eqb i m ≡ b → (suc i ≤ m → m < suc i + n → count q (suc i) n + one (p m) ≡ count p (suc i) n + one (q m))
        → count q i (suc n) + one (p m) ≡ count p i (suc n) + one (q m)
    pick true e rec =
        let s = eqb-true i m e in
        let r : count q (suc i) n ≡ count p (suc i) n = count_ext n p q (suc i) (λ j u v. same j (λ w. omega arith)) in
        rw (← s, r) (here (p i) (q i) (count p (suc i) n))
    pick false e rec =
        let s = eqb-false i m e in
        rw (same i s) (on (p i) (count p (suc i) n) (count q (suc i) n) (one (p m)) (one (q m)) (rec (omega arith) (omega arith)))

-- a test that takes none
pub count_none : (n : ℕ) (p : ℕ → Bool) (i : ℕ) → ((j : ℕ) → i ≤ j → j < i + n → p j ≡ false) → count p i n ≡ 0
count_none zero p i h = refl
count_none (suc n) p i h = rw (h i (omega arith) (omega arith)) (count_none n p (suc i) (λ j u v. h j (omega arith) (omega arith)))

-- ---- the rows

-- four words for each that waits
pub length-closing : (t : List ℕ) (item i n : ℕ) → length (closing t item i n) ≡ count (in_phase word.Ended t) i n * 4
length-closing t item i zero = refl
length-closing t item i (suc n) = pick (in_phase word.Ended t i) _ _ (length-closing t item (suc i) n)
  where
    pick : (b : Bool) (xs : List ℕ) (m : ℕ) → length xs ≡ m * 4 → length (cond b (closed i item xs) xs) ≡ cond b (suc m) m * 4
    pick true xs m h = omega arith
    pick false xs m h = h

-- ---- after a store

-- of n endpoints, how many have phase p after the entry e is stored at m
pub count_store : (p : ℕ) (t : List ℕ) (n m : ℕ) (e : Endpoint) → length t ≡ word.table → n ≤ 128 → m < n
    → count (in_phase p (store_at t m e)) 0 n + one (in_phase p t m) ≡ count (in_phase p t) 0 n + one (eqb (phase_word e.phase) p)
count_store p t n m e l h g =
    rw (word_same t m e word.phase l (omega arith) (omega arith)) at (count-change n (in_phase p t) (in_phase p (store_at t m e)) 0 m (omega arith) (omega arith) (λ j ne. ap (λ (x : ℕ). eqb x p) (word-other t m j e word.phase ne (omega arith))))

-- an endpoint's phase, by its entry
pub phase-entry : (t : List ℕ) (i p : ℕ) → 0 < p → p ≤ word.Ended → in_phase p t i ≡ eqb (phase_word (entry_at t i).phase) p
unfolding entry_at
phase-entry t i p h g = pick (word_at t i word.phase) (eqb (word_at t i word.phase) 1) refl (eqb (word_at t i word.phase) 2) refl (eqb (word_at t i word.phase) 3) refl
  where
    none : (w : ℕ) (b : Bool) → eqb w p ≡ b → (w ≡ p → ⊥) → eqb w p ≡ eqb 0 p
    none w b e ne = rw (ne_eqb w p ne, ne_eqb 0 p (λ z. omega arith))

    pick : (w : ℕ) (a : Bool) → eqb w 1 ≡ a → (b : Bool) → eqb w 2 ≡ b → (c : Bool) → eqb w 3 ≡ c → eqb w p ≡ eqb (phase_word (cond a Early (cond b Active (cond c Ended None)))) p
    pick w true e b f c k = rw (eqb-true w 1 e)
    pick w false e true f c k = rw (eqb-true w 2 f)
    pick w false e false f true k = rw (eqb-true w 3 k)
    pick w false e false f false k = none w _ refl (λ z. not_three (eqb-false w 1 e) (eqb-false w 2 f) (eqb-false w 3 k) z)
      where
        not_three : (w ≡ 1 → ⊥) → (w ≡ 2 → ⊥) → (w ≡ 3 → ⊥) → w ≡ p → ⊥
        not_three x y z q = omega arith

-- ---- after all that wait were closed, and after all that was active ended

module _ (p q : ℕ) (t : List ℕ) (n : ℕ) (l : n * word.width ≤ length t) where
  word_after : (j : ℕ) → j < n → word_at (each word.phase (becomes p q) t 0 n) j word.phase ≡ becomes p q j (word_at t j word.phase)
  word_after j h = each_at word.phase (becomes p q) n t 0 j (omega arith) (omega arith) (omega arith)

-- none waits
pub waiting-cleared : (t : List ℕ) (n : ℕ) → n * word.width ≤ length t → waiting (cleared t n) n ≡ 0
unfolding cleared
waiting-cleared t n l = count_none n _ 0 (λ j u v. ap (λ (x : ℕ). eqb x word.Ended) (word_after word.Ended word.None t n l j (omega arith)) ∙ none (word_at t j word.phase) _ refl)
  where
    none : (w : ℕ) (b : Bool) → eqb w word.Ended ≡ b → eqb (cond b word.None w) word.Ended ≡ false
    none w true e = refl
    none w false e = e

-- those that were active wait too
pub waiting-ended : (t : List ℕ) (n : ℕ) → n * word.width ≤ length t → waiting (ended t n) n ≡ waiting t n + count (in_phase word.Active t) 0 n
unfolding ended
waiting-ended t n l = count-sum n _ _ _ 0 (λ j u v. ap (λ (x : ℕ). one (eqb x word.Ended)) (word_after word.Active word.Ended t n l j (omega arith)) ∙ both (word_at t j word.phase) _ refl)
  where
    both : (w : ℕ) (b : Bool) → eqb w word.Active ≡ b → one (eqb (cond b word.Ended w) word.Ended) ≡ one (eqb w word.Ended) + one b
    both w true e = rw (eqb-true w word.Active e)
    both w false e = omega arith

pub length-cleared : (t : List ℕ) (n : ℕ) → length (cleared t n) ≡ length t
unfolding cleared
length-cleared t n = length-each word.phase (becomes word.Ended word.None) n t 0

pub length-ended : (t : List ℕ) (n : ℕ) → length (ended t n) ≡ length t
unfolding ended
length-ended t n = length-each word.phase (becomes word.Active word.Ended) n t 0

-- add_item: an ended group is closed
abbrev pub after_item : Phase → Phase
after_item None = None
after_item Early = Early
after_item Active = Active
after_item Ended = None

-- handle_event: an active group is ended
abbrev pub after_event : Phase → Phase
after_event None = None
after_event Early = Early
after_event Active = Ended
after_event Ended = Ended

pub entry-cleared : (t : List ℕ) (n j : ℕ) → n * word.width ≤ length t → j < n → entry_at (cleared t n) j ≡ with_phase (after_item (entry_at t j).phase) (entry_at t j)
unfolding cleared entry_at
entry-cleared t n j l h = entry-phase (becomes word.Ended word.None) t n j l h ∙ ap (λ (p : Phase). with_phase p (entry_at t j)) (pick (word_at t j word.phase) _ refl)
  where
    rest : (a b : Bool) → cond a Early (cond b Active None) ≡ after_item (cond a Early (cond b Active None))
    rest true b = refl
    rest false true = refl
    rest false false = refl

    pick : (w : ℕ) (b : Bool) → eqb w word.Ended ≡ b → phase_of (cond b word.None w) ≡ after_item (phase_of w)
    pick w true e = rw (eqb-true w word.Ended e)
    pick w false e = rw e (rest (eqb w word.Early) (eqb w word.Active))

pub entry-ended : (t : List ℕ) (n j : ℕ) → n * word.width ≤ length t → j < n → entry_at (ended t n) j ≡ with_phase (after_event (entry_at t j).phase) (entry_at t j)
unfolding ended entry_at
entry-ended t n j l h = entry-phase (becomes word.Active word.Ended) t n j l h ∙ ap (λ (p : Phase). with_phase p (entry_at t j)) (pick (word_at t j word.phase) _ refl)
  where
    rest : (a b : Bool) → cond a Early (cond b Ended None) ≡ after_event (cond a Early (cond b Ended None))
    rest true b = refl
    rest false true = refl
    rest false false = refl

    pick : (w : ℕ) (b : Bool) → eqb w word.Active ≡ b → phase_of (cond b word.Ended w) ≡ after_event (phase_of w)
    pick w true e = rw (eqb-true w word.Active e)
    pick w false e = rw e (rest (eqb w word.Early) (eqb w word.Ended))

-- endpoints beyond the first n keep their entries
pub cleared_beyond : (t : List ℕ) (n j : ℕ) → n ≤ j → entry_at (cleared t n) j ≡ entry_at t j
unfolding cleared
cleared_beyond t n j h = entry_beyond word.phase (becomes word.Ended word.None) t n j (omega arith) h

pub ended_beyond : (t : List ℕ) (n j : ℕ) → n ≤ j → entry_at (ended t n) j ≡ entry_at t j
unfolding ended
ended_beyond t n j h = entry_beyond word.phase (becomes word.Active word.Ended) t n j (omega arith) h
