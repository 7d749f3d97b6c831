-- Laws (proved): what lies on the shelf: a payload that is laid by and entries that are kept leave each other as they were, and every other device's part; payloads
-- that are laid by behind each other are read as one.
-- Assumes nothing.
use Rattle.std.specs.Prelude.{ℕ, suc, ◌+◌, ◌-◌, ◌*◌, ◌≤◌, min, ◌≡◌, Bool, cond, List, [], ◌∷◌, ◌++◌, length, take, drop, set, Option, Some, None, is_some}
use native.Mathlib.Omega.{arith}
use Rattle.std.proofs.Math.Path.{refl, ap}
use Rattle.std.proofs.Common.{sym, ◌∙◌, length-take, length-drop, length-append, take-append-drop, length-take-le, take_all, take_at, drop-drop}
use Rattle.std.proofs.Math.Bool.{true, false}
use borrow.Author.Tests.{leb-true, leb-false}
use Rattle.std.proofs.Math.Dec.{leb}
use Rattle.std.proofs.lemmas.List.Edits.{sets, sets-eq}
use Rattle.std.proofs.Math.Seq.{length-sets, take-append-add}
use Rattle.std.proofs.lemmas.List.{take-append-le, take-set-le, drop-set-add}
use Rattle.descriptors.specs.Whole.{joined}
use Rattle.descriptors.specs.Entries.{value_of}
use Rattle.descriptors.specs.Store.{chunks, stored_at, added_by, kept_after}
use Rattle.descriptors.proofs.ForgetLaws.{drop-sets}
use Rattle.descriptors.specs.Steps.{Reads}
use Rattle.descriptors.proofs.HeldLaws.{chunks_front, reads_few, reads_held, reads-behind, after_none}
use Rattle.descriptors.specs.Laid.{laid}
use Rattle.descriptors.specs.Complete.{payload_at, entries_at, count_after, shelf_after}
use Rattle.descriptors.specs.declared.request.Kind.{Kind}
use Rattle.descriptors.specs.declared.request.Kind.TheVariants.{DeviceRead, ConfigurationRead, SetConfiguration, SetInterface, Other}

-- bytes stored from a place on leave what stands before it
pub take-sets : (vs l : List ℕ) (i k : ℕ) → k ≤ i → take k (sets l i vs) ≡ take k l
take-sets [] l i k h = refl
take-sets (v ∷ vs) l i k h = take-sets vs (set l i v) (suc i) k (omega arith) ∙ take-set-le k l i v h

drop-sets-add : (vs l : List ℕ) (n i : ℕ) → drop n (sets l (n + i) vs) ≡ sets (drop n l) i vs
drop-sets-add [] l n i = refl
drop-sets-add (v ∷ vs) l n i =
    let e : suc (n + i) ≡ n + suc i = omega arith in
    ap (λ (k : ℕ). drop n (sets (set l (n + i) v) k vs)) e
    ∙ drop-sets-add vs (set l (n + i) v) n (suc i)
    ∙ ap (λ (m : List ℕ). sets m (suc i) vs) (drop-set-add n l i v)

pub before-sets : (vs l : List ℕ) (i at k : ℕ) → at + k ≤ i → take k (drop at (sets l i vs)) ≡ take k (drop at l)
before-sets vs l i at k h =
    let e : i ≡ at + (i - at) = omega arith in
    ap (λ (j : ℕ). take k (drop at (sets l j vs))) e ∙ ap (take k) (drop-sets-add vs l at (i - at)) ∙ take-sets vs (drop at l) (i - at) k (omega arith)

-- entries are read from their own bytes
chunks_of : (n : ℕ) (l : List ℕ) → n * 7 ≤ length l → chunks n l ≡ chunks n (take (n * 7) l)
chunks_of n l h =
    ap (chunks n) (sym (take-append-drop (n * 7) l))
    ∙ chunks_front n (take (n * 7) l) (drop (n * 7) l) (omega (arith, length-take-le (n * 7) l h))

-- the part of the shelf that begins at `start` says the same on both
pub record SamePart (start : ℕ) (a b : List ℕ) : Type 0 where
  pub payload : (n : ℕ) → payload_at start n a ≡ payload_at start n b
  pub entries : (kept : ℕ) → entries_at start kept a ≡ entries_at start kept b

pub same_part : (start : ℕ) (a : List ℕ) → SamePart start a a
same_part start a = record { payload = λ n. refl; entries = λ kept. refl }

-- bytes stored behind the part, and before it
module _ (vs shelf : List ℕ) (i start : ℕ) where
  part-before : start + 8192 ≤ i → start + 8192 ≤ length shelf → SamePart start (sets shelf i vs) shelf
  part-before h room =
      record {
        payload = λ n. before-sets vs shelf i start (min n 4096) (omega arith);
        entries = λ kept.
            let k = min kept 585 in
            let at = start + 4096 in
            let few : k * 7 ≤ 4095 = omega arith in
            chunks_of k (drop at (sets shelf i vs)) (omega (arith, length-drop at (sets shelf i vs), length-sets shelf i vs))
            ∙ ap (chunks k) (before-sets vs shelf i at (k * 7) (omega arith))
            ∙ sym (chunks_of k (drop at shelf) (omega (arith, length-drop at shelf)));
      }

  part-behind : i + length vs ≤ start → SamePart start (sets shelf i vs) shelf
  part-behind h =
      record {
        payload = λ n. ap (take (min n 4096)) (drop-sets vs shelf i start h);
        entries = λ kept. ap (chunks (min kept 585)) (drop-sets vs shelf i (start + 4096) (omega arith));
      }

-- ---- a payload is laid by

module _ (start n : ℕ) (p shelf : List ℕ) where
  -- none of it, or what fits below 4,096
  laid_past : 4096 ≤ n → laid start n p shelf ≡ shelf
  unfolding laid
  laid_past h = let z : 4096 - n ≡ 0 = omega arith in rw z

  laid-length : n ≤ 4096 → n + length (take (4096 - n) p) ≤ 4096
  laid-length h = omega (arith, length-take (4096 - n) p)

  pub laid_same-length : length (laid start n p shelf) ≡ length shelf
  unfolding laid
  laid_same-length = length-sets shelf (start + n) (take (4096 - n) p)

  -- the bytes before it stay
  pub laid_uncounted : payload_at start n (laid start n p shelf) ≡ payload_at start n shelf
  unfolding laid
  laid_uncounted = before-sets (take (4096 - n) p) shelf (start + n) start (min n 4096) (omega arith)

  -- and so do the entries
  pub laid-entries : (kept : ℕ) → entries_at start kept (laid start n p shelf) ≡ entries_at start kept shelf
  unfolding laid
  laid-entries kept = by (leb n 4096) refl
    where
      by : (b : Bool) → leb n 4096 ≡ b → entries_at start kept (laid start n p shelf) ≡ entries_at start kept shelf
      by true q =
          let l = laid-length (leb-true n 4096 q) in
          ap (chunks (min kept 585)) (drop-sets (take (4096 - n) p) shelf (start + n) (start + 4096) (omega arith))
      by false q = ap (entries_at start kept) (laid_past (omega (arith, leb-false n 4096 q)))

  -- other parts
  pub laid-before : (other : ℕ) → other + 8192 ≤ start → other + 8192 ≤ length shelf → SamePart other (laid start n p shelf) shelf
  unfolding laid
  laid-before other h room = part-before (take (4096 - n) p) shelf (start + n) other (omega arith) room

  pub laid-behind : (other : ℕ) → start + 8192 ≤ other → SamePart other (laid start n p shelf) shelf
  unfolding laid
  laid-behind other h = by (leb n 4096) refl
    where
      by : (b : Bool) → leb n 4096 ≡ b → SamePart other (laid start n p shelf) shelf
      by true q = let l = laid-length (leb-true n 4096 q) in part-behind (take (4096 - n) p) shelf (start + n) other (omega arith)
      by false q =
          let e = laid_past (omega (arith, leb-false n 4096 q)) in
          record { payload = λ m. ap (payload_at other m) e; entries = λ kept. ap (entries_at other kept) e }

-- where it counts, it is read behind the bytes x that counted before
pub laid-counted : (start n : ℕ) (x p shelf : List ℕ) → n ≡ length x → start + 8192 ≤ length shelf → payload_at start n shelf ≡ take 4096 x
    → payload_at start (n + length p) (laid start n p shelf) ≡ take 4096 (x ++ p)
unfolding laid
laid-counted start n x p shelf c room e = by (leb n 4096) refl
  where
    by : (b : Bool) → leb n 4096 ≡ b → payload_at start (n + length p) (laid start n p shelf) ≡ take 4096 (x ++ p)
    by true q =
        let h = leb-true n 4096 q in
        let vs = take (4096 - n) p in
        let rest = drop start shelf in
        let l = laid-length start n p shelf h in
        let z : n ≡ min n 4096 = omega arith in
        let front : take n rest ≡ x = ap (λ (k : ℕ). take k rest) z ∙ e ∙ take_all 4096 x (omega arith) in
        let count : length (x ++ vs) ≡ min (n + length p) 4096 = omega (arith, length-append x vs, length-take (4096 - n) p) in
        let y : 4096 ≡ length x + (4096 - n) = omega arith in
        ap (take (min (n + length p) 4096))
        (drop-sets-add vs shelf start n
        ∙ sets-eq vs rest n (omega (arith, length-drop start shelf))
        ∙ ap (λ (f : List ℕ). f ++ vs ++ drop (n + length vs) rest) front)
        ∙ take_at (x ++ vs) (drop (n + length vs) rest) (min (n + length p) 4096) count
        ∙ sym (ap (λ (k : ℕ). take k (x ++ p)) y ∙ take-append-add x p (4096 - n))
    by false q =
        let h : 4096 ≤ n = omega (arith, leb-false n 4096 q) in
        let z : min (n + length p) 4096 ≡ min n 4096 = omega arith in
        ap (λ (s : List ℕ). payload_at start (n + length p) s) (laid_past start n p shelf h)
        ∙ ap (λ (k : ℕ). take k (drop start shelf)) z
        ∙ e
        ∙ sym (take-append-le 4096 x p (omega arith))

-- ---- a request completes

-- the entries that it leaves: only a configuration read changes them
abbrev pub entries_after : Kind → List ℕ → List (List ℕ) → List (List ℕ)
entries_after DeviceRead p es = es
entries_after ConfigurationRead p es = kept_after p es
entries_after SetConfiguration p es = es
entries_after SetInterface p es = es
entries_after Other p es = es

read_as : (base kept : ℕ) (p store : List ℕ) → Reads base kept p store (sets store base (joined (kept_after p (stored_at base kept store)))) (length (kept_after p (stored_at base kept store))) (length (added_by p (stored_at base kept store)))
read_as base kept p store = record { stored = refl; counted = refl; more = refl }

module _ (start kept : ℕ) (p shelf : List ℕ) (room : start + 8192 ≤ length shelf) where
  -- the shelf with the entries of a configuration read
  abbrev kept-shelf : Bool → List ℕ
  kept-shelf b = cond b (sets shelf (start + 4096) (joined (kept_after p (entries_at start kept shelf)))) shelf

  kept-length : (b : Bool) → length (kept-shelf b) ≡ length shelf
  kept-length true = length-sets shelf (start + 4096) (joined (kept_after p (entries_at start kept shelf)))
  kept-length false = refl

  kept_payload : (b : Bool) (n : ℕ) → payload_at start n (kept-shelf b) ≡ payload_at start n shelf
  kept_payload true n = before-sets (joined (kept_after p (entries_at start kept shelf))) shelf (start + 4096) start (min n 4096) (omega arith)
  kept_payload false n = refl

  kept-before : (b : Bool) (other : ℕ) → other + 8192 ≤ start → other + 8192 ≤ length shelf → SamePart other (kept-shelf b) shelf
  kept-before true other h room = part-before (joined (kept_after p (entries_at start kept shelf))) shelf (start + 4096) other (omega arith) room
  kept-before false other h room = same_part other shelf

  kept-behind : (b : Bool) (other : ℕ) → start + 8192 ≤ other → SamePart other (kept-shelf b) shelf
  kept-behind true other h =
      let base = start + 4096 in
      let few : min kept 585 ≤ 585 = omega arith in
      let b : drop (base + 4095) (kept-shelf true) ≡ drop (base + 4095) shelf = reads-behind (read_as base (min kept 585) p shelf) few (omega arith) in
      let far : (at : ℕ) → base + 4095 ≤ at → drop at (kept-shelf true) ≡ drop at shelf =
      λ at g.
      let z : at ≡ base + 4095 + (at - (base + 4095)) = omega arith in
      ap (λ (k : ℕ). drop k (kept-shelf true)) z
      ∙ sym (drop-drop (at - (base + 4095)) (base + 4095) (kept-shelf true))
      ∙ ap (drop (at - (base + 4095))) b
      ∙ drop-drop (at - (base + 4095)) (base + 4095) shelf
      ∙ ap (λ (k : ℕ). drop k shelf) (sym z) in
      record {
        payload = λ n. ap (take (min n 4096)) (far other (omega arith));
        entries = λ k. ap (chunks (min k 585)) (far (other + 4096) (omega arith));
      }
  kept-behind false other h = same_part other shelf

  kept-entries : (r : Option ℕ) → value_of p ≡ r
      → entries_at start (cond (is_some r) (length (kept_after p (entries_at start kept shelf))) kept) (kept-shelf (is_some r)) ≡ kept_after p (entries_at start kept shelf)
  kept-entries (Some v) q =
      let base = start + 4096 in
      let r = read_as base (min kept 585) p shelf in
      let few : min kept 585 ≤ 585 = omega arith in
      let there : base + 4095 ≤ length shelf = omega arith in
      let count = length (kept_after p (entries_at start kept shelf)) in
      let z : min count 585 ≡ count = omega (arith, reads_few r few there) in
      ap (λ (k : ℕ). stored_at base k (kept-shelf true)) z ∙ reads_held r few there
  kept-entries None q = sym (after_none p (entries_at start kept shelf) (sym q))

module _ (start kept : ℕ) (p shelf : List ℕ) (room : start + 8192 ≤ length shelf) where
  abbrev after : Kind → List ℕ
  after kind = shelf_after kind start p (entries_at start kept shelf) shelf

  pub after-length : (kind : Kind) → length (after kind) ≡ length shelf
  unfolding shelf_after
  after-length DeviceRead = refl
  after-length ConfigurationRead = kept-length start kept p shelf room (is_some (value_of p))
  after-length SetConfiguration = refl
  after-length SetInterface = refl
  after-length Other = refl

  -- the payload's part stays
  pub after-payload : (kind : Kind) (n : ℕ) → payload_at start n (after kind) ≡ payload_at start n shelf
  unfolding shelf_after
  after-payload DeviceRead n = refl
  after-payload ConfigurationRead n = kept_payload start kept p shelf room (is_some (value_of p)) n
  after-payload SetConfiguration n = refl
  after-payload SetInterface n = refl
  after-payload Other n = refl

  -- the entries are those that the request leaves
  pub after-entries : (kind : Kind) → entries_at start (count_after kind p (entries_at start kept shelf) kept) (after kind) ≡ entries_after kind p (entries_at start kept shelf)
  unfolding shelf_after count_after
  after-entries DeviceRead = refl
  after-entries ConfigurationRead = kept-entries start kept p shelf room (value_of p) refl
  after-entries SetConfiguration = refl
  after-entries SetInterface = refl
  after-entries Other = refl

  -- other parts
  pub after-before : (kind : Kind) (other : ℕ) → other + 8192 ≤ start → other + 8192 ≤ length shelf → SamePart other (after kind) shelf
  unfolding shelf_after
  after-before DeviceRead other h g = same_part other shelf
  after-before ConfigurationRead other h g = kept-before start kept p shelf room (is_some (value_of p)) other h g
  after-before SetConfiguration other h g = same_part other shelf
  after-before SetInterface other h g = same_part other shelf
  after-before Other other h g = same_part other shelf

  pub after-behind : (kind : Kind) (other : ℕ) → start + 8192 ≤ other → SamePart other (after kind) shelf
  unfolding shelf_after
  after-behind DeviceRead other h = same_part other shelf
  after-behind ConfigurationRead other h = kept-behind start kept p shelf room (is_some (value_of p)) other h
  after-behind SetConfiguration other h = same_part other shelf
  after-behind SetInterface other h = same_part other shelf
  after-behind Other other h = same_part other shelf
