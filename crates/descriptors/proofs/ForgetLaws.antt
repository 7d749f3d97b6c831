-- Laws (proved): a turn of the loop that forgets.
-- Assumes nothing.
use Rattle.std.specs.Prelude.{ℕ, suc, ◌+◌, ◌-◌, ◌*◌, ◌≤◌, ◌<◌, ◌≡◌, refl, Bool, eqb, get_or, drop, set}
use native.Mathlib.Omega.{arith}
use Rattle.std.proofs.Common.{◌∙◌, drop-drop, drop-set-lt, get_or-take, get_or-drop}
use Rattle.std.proofs.Math.Path.{sym, ap, subst}
use Rattle.std.proofs.Math.Bool.{not}
use mathlib.Core.List.{List, [], ◌∷◌, ◌++◌}
use Rattle.std.proofs.Math.ListN.{length, take, length-drop}
use Rattle.std.proofs.Math.Seq.{sets, length-sets, length-take-le}
use Rattle.rows.specs.One.{one}
use Rattle.rows.specs.Sets.{opt, one_small, sets-append}
use Rattle.descriptors.specs.Whole.{joined}
use Rattle.descriptors.specs.Entries.{maybe}
use Rattle.descriptors.proofs.StepLaws.{count_turn, joined-turn, opt-length}
use Rattle.descriptors.specs.Store.{chunks, stored_at, is_other, without}
use Rattle.descriptors.specs.Steps.{Forgets}

-- bytes stored before a place leave what stands from there on
pub drop-sets : (vs l : List ℕ) (i k : ℕ) → i + length vs ≤ k → drop k (sets l i vs) ≡ drop k l
drop-sets [] l i k h = refl
drop-sets (v ∷ vs) l i k h = drop-sets vs (set l i v) (suc i) k (omega arith) ∙ drop-set-lt k l i v (omega arith)

-- the entry at i, and those behind it
pub entry-turn : (base kept i : ℕ) (store : List ℕ) → i < kept
    → stored_at (base + i * 7) (kept - i) store ≡ take 7 (drop (base + i * 7) store) ∷ stored_at (base + (i + 1) * 7) (kept - (i + 1)) store
unfolding chunks
entry-turn base kept i store h =
    let z : kept - i ≡ suc (kept - (i + 1)) = omega arith in
    let y : base + i * 7 + 7 ≡ base + (i + 1) * 7 = omega arith in
    rw (z, drop-drop 7 (base + i * 7) store, y)

-- a byte of the entry at a place
pub entry_byte : (store : List ℕ) (from k : ℕ) → k < 7 → get_or (take 7 (drop from store)) k 0 ≡ get_or store (from + k) 0
entry_byte store from k h = get_or-take 7 (drop from store) k 0 h ∙ get_or-drop from store k 0

pub entry_first : (store : List ℕ) (from : ℕ) → get_or (take 7 (drop from store)) 0 0 ≡ get_or store from 0
entry_first store from = let z : from + 0 ≡ from = omega arith in entry_byte store from 0 (omega arith) ∙ ap (λ (k : ℕ). get_or store k 0) z

-- what is left to go through gives the whole: the store, i entries passed and n of them kept
pub record Passed (base kept value : ℕ) (store₀ store : List ℕ) (n i : ℕ) : Type 0 where
  pub order : n ≤ i
  pub most : i ≤ kept
  pub same : length store ≡ length store₀
  pub stored : sets store₀ base (joined (without value (stored_at base kept store₀)))
      ≡ sets store (base + n * 7) (joined (without value (stored_at (base + i * 7) (kept - i) store)))
  pub counted : length (without value (stored_at base kept store₀)) ≡ n + length (without value (stored_at (base + i * 7) (kept - i) store))

module _ {base kept value : ℕ} {store₀ store : List ℕ} {n i : ℕ} (p : Passed base kept value store₀ store n i) where
  pub passed-end : kept ≤ i → Forgets base kept value store₀ store n
  unfolding chunks without
  passed-end h =
      let z : kept - i ≡ 0 = let m = p.most in omega arith in
      record { stored = sym (rw z at p.stored); counted = omega (arith, rw z at p.counted) }

  module _ (h : i < kept) (room : base + kept * 7 ≤ length store) where
    pub passed-turn : (on : Bool) (store₁ : List ℕ) (m : ℕ) → on ≡ not (eqb (get_or store (base + i * 7) 0) value)
        → store₁ ≡ sets store (base + n * 7) (opt on (take 7 (drop (base + i * 7) store))) → m ≡ n + one on → Passed base kept value store₀ store₁ m (i + 1)
    unfolding without
    passed-turn on store₁ m t q c =
        let e = take 7 (drop (base + i * 7) store) in
        let o = p.order in
        let l : length e ≡ 7 = length-take-le 7 (drop (base + i * 7) store) (omega (arith, length-drop (base + i * 7) store)) in
        let ol = opt-length on e l in
        let os = one_small on in
        let far : base + n * 7 + length (opt on e) ≤ base + (i + 1) * 7 = omega arith in
        let rest = stored_at (base + (i + 1) * 7) (kept - (i + 1)) store in
        let rest₁ : rest ≡ stored_at (base + (i + 1) * 7) (kept - (i + 1)) store₁ =
        ap (chunks (kept - (i + 1))) (sym (ap (drop (base + (i + 1) * 7)) q ∙ drop-sets (opt on e) store (base + n * 7) (base + (i + 1) * 7) far)) in
        let told : is_other value e ≡ on = ap (λ (x : ℕ). not (eqb x value)) (entry_first store (base + i * 7)) ∙ sym t in
        let split : without value (stored_at (base + i * 7) (kept - i) store) ≡ maybe on e ++ without value (stored_at (base + (i + 1) * 7) (kept - (i + 1)) store₁) =
        ap (without value) (entry-turn base kept i store h)
        ∙ ap (λ (b : Bool). maybe b e ++ without value rest) told
        ∙ ap (λ (xs : List (List ℕ)). maybe on e ++ without value xs) rest₁ in
        let left = without value (stored_at (base + (i + 1) * 7) (kept - (i + 1)) store₁) in
        let z : base + n * 7 + length (opt on e) ≡ base + (n + one on) * 7 = omega arith in
        subst (λ (m : ℕ). Passed base kept value store₀ store₁ m (i + 1)) (sym c)
        (record {
          order = omega arith;
          most = omega arith;
          same = ap length q ∙ length-sets store (base + n * 7) (opt on e) ∙ p.same;
          stored = p.stored
              ∙ ap (λ (es : List (List ℕ)). sets store (base + n * 7) (joined es)) split
              ∙ ap (sets store (base + n * 7)) (joined-turn on e left)
              ∙ sym (sets-append (opt on e) (joined left) store (base + n * 7))
              ∙ ap (λ (k : ℕ). sets (sets store (base + n * 7) (opt on e)) k (joined left)) z
              ∙ ap (λ (s : List ℕ). sets s (base + (n + one on) * 7) (joined left)) (sym q);
          counted = omega (arith, p.counted, ap length split, count_turn on e left);
        })
