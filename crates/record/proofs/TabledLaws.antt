-- Laws (proved): a table of n endpoints while a call writes on it: their rows are words as `store` writes them, and the words behind them are as they were.
use Rattle.std.specs.Prelude.{ℕ, suc, ◌+◌, ◌*◌, ◌<◌, ◌≤◌, ◌≡◌, refl, Bool, true, false, List, eqb, length, get_or}
use Rattle.std.proofs.Common.{arith, ◌∙◌, eqb-true}
use Rattle.std.proofs.lemmas.Bool.{eqb-false}
use Rattle.rows.specs.Sets.{get_d-sets_past}
use Rattle.endpoints.proofs.EachLaws.{each_else}
use Rattle.endpoints.specs.Each.{becomes, cleared, ended, state_word, next_states}
use Rattle.endpoints.proofs.PhasesLaws.{length-cleared, length-ended}
use Rattle.endpoints.proofs.StatesLaws.{length-next}
use Rattle.endpoints.specs.Table.{words, entry_at, store_at, first_at}
use Rattle.endpoints.proofs.TableLaws.{Fits, fits-entry}
use Rattle.endpoints.specs.Word as word
use Rattle.endpoints.specs.declared.Endpoint.{Endpoint}
use Rattle.record.specs.Formed.{Stored}
use Rattle.record.proofs.StoredLaws.{stored_same, stored_other, stored-cleared, stored-ended, stored_next, length_store}

-- t, which was t₀ when the call began
pub record Tabled (n : ℕ) (t₀ t : List ℕ) : Type 0 where
  pub size : length t ≡ word.table
  pub stored : (i : ℕ) → i < n → Stored t i
  pub beyond : (i : ℕ) → n * word.width ≤ i → get_or t i 0 ≡ get_or t₀ i 0

pub tabled_start : (n : ℕ) (t : List ℕ) → length t ≡ word.table → ((i : ℕ) → i < n → Stored t i) → Tabled n t t
tabled_start n t l s = record { size = l; stored = s; beyond = λ i h. refl }

-- a store leaves what stands behind its row
pub store_past : (t : List ℕ) (x : ℕ) (e : Endpoint) (i : ℕ) → suc x * word.width ≤ i → get_or (store_at t x e) i 0 ≡ get_or t i 0
unfolding store_at
store_past t x e i h = get_d-sets_past (words e) t (x * word.width) i 0 (omega arith)

-- a store in one of n rows, where all the others are stored
store_stored : (n : ℕ) (t : List ℕ) (x : ℕ) (e : Endpoint) → length t ≡ word.table → x < 128 → Fits e → ((i : ℕ) → i < n → (i ≡ x → ⊥) → Stored t i) → (i : ℕ) → i < n → Stored (store_at t x e) i
store_stored n t x e l hx f s i h = by (eqb i x) refl
  where
    by : (b : Bool) → eqb i x ≡ b → Stored (store_at t x e) i
    by true q = let p = eqb-true i x q in rw p (stored_same t x e l hx f)
    by false q = let ne = eqb-false i x q in stored_other t x i e ne (s i h ne)

module _ {n : ℕ} {t₀ t : List ℕ} (h : Tabled n t₀ t) (few : n ≤ 128) where
  -- an entry stored
  pub tabled_store : (x : ℕ) (e : Endpoint) → x < n → Fits e → Tabled n t₀ (store_at t x e)
  tabled_store x e hx f =
      record {
        size = length_store t x e ∙ h.size;
        stored = store_stored n t x e h.size (omega arith) f (λ i u v. h.stored i u);
        beyond = λ i u. store_past t x e i (omega arith) ∙ h.beyond i u;
      }

  -- an entry changed in its place
  pub tabled-alter : (x : ℕ) (f : Endpoint → Endpoint) → x < n → ((e : Endpoint) → Fits e → Fits (f e)) → Tabled n t₀ (store_at t x (f (entry_at t x)))
  tabled-alter x f hx fits = tabled_store x (f (entry_at t x)) hx (fits _ (fits-entry t x))

  -- a state row
  pub tabled-next : (x : ℕ) (start : Bool) → Tabled n t₀ (next_states t n x start)
  unfolding next_states
  tabled-next x start =
      record {
        size = length-next t n x start ∙ h.size;
        stored = λ i u. stored_next t n (omega (arith, h.size)) i (h.stored i u) x start;
        beyond = λ i u. each_else word.state (state_word x start) n t 0 i (λ j v w e. omega arith) ∙ h.beyond i u;
      }

  -- an item: none waits any more
  pub tabled-cleared : Tabled n t₀ (cleared t n)
  unfolding cleared
  tabled-cleared =
      record {
        size = length-cleared t n ∙ h.size;
        stored = λ i u. stored-cleared t n (omega (arith, h.size)) i (h.stored i u);
        beyond = λ i u. each_else word.phase (becomes word.Ended word.None) n t 0 i (λ j v w e. omega arith) ∙ h.beyond i u;
      }

  -- an event: every active group is ended
  pub tabled-ended : Tabled n t₀ (ended t n)
  unfolding ended
  tabled-ended =
      record {
        size = length-ended t n ∙ h.size;
        stored = λ i u. stored-ended t n (omega (arith, h.size)) i (h.stored i u);
        beyond = λ i u. each_else word.phase (becomes word.Active word.Ended) n t 0 i (λ j v w e. omega arith) ∙ h.beyond i u;
      }

-- one endpoint more, in the row behind the others
pub tabled-more : {n : ℕ} {t₀ t : List ℕ} → Tabled n t₀ t → n < 128 → (e : Endpoint) → Fits e → Tabled (suc n) t₀ (store_at t n e)
tabled-more {n} {t₀} {t} h few e f =
    record {
      size = length_store t n e ∙ h.size;
      stored = store_stored (suc n) t n e h.size few f (λ i u ne. h.stored i (omega arith));
      beyond = λ i u. store_past t n e i u ∙ h.beyond i (omega arith);
    }

-- the first numbers stand behind all entries, and stay
pub first-kept : {n : ℕ} {t₀ t : List ℕ} → Tabled n t₀ t → n ≤ 128 → (k : ℕ) → first_at k t ≡ first_at k t₀
unfolding first_at
first-kept h few k = h.beyond (word.firsts + k) (omega arith)
