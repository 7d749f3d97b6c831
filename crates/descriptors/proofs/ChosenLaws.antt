-- Laws (proved): a turn of the loops over the entries that a choice means; which details it sets, and that the others stay; what is laid by.
-- Assumes nothing.
use Rattle.std.specs.Prelude.{ℕ, ◌+◌, ◌-◌, ◌*◌, ◌≤◌, ◌<◌, ◌≡◌, Bool, true, length, get_or, drop}
use native.Mathlib.Omega.{arith}
use Rattle.std.proofs.Math.Path.{sym, ap}
use Rattle.std.proofs.Common.{◌∙◌, take-take, take_all}
use mathlib.Core.List.{List}
use Rattle.std.proofs.Math.ListN.{take, length-drop}
use Rattle.std.proofs.Math.Seq.{sets, length-take-le}
use Rattle.rows.specs.One.{one}
use Rattle.rows.specs.Sets.{one_small}
use Rattle.usb.specs.Packet.{payload_of}
use Rattle.details.specs.declared.Device.{Device}
use Rattle.descriptors.specs.Store.{chunks, stored_at}
use Rattle.descriptors.proofs.ForgetLaws.{entry-turn, entry_byte, entry_first}
use Rattle.descriptors.specs.Chosen.{is_meant, is_chosen, set_from, set_if, applied, count_set}
use Rattle.descriptors.specs.Laid.{laid}
use Rattle.descriptors.specs.declared.choose.Choice.{Choice}

-- what the code reads of the entry at a place
module _ (store : List ℕ) (from : ℕ) where
  pub chosen_at : (c : Choice) → is_meant c (get_or store from 0) (get_or store (from + 1) 0) (get_or store (from + 2) 0) ≡ is_chosen c (take 7 (drop from store))
  unfolding is_chosen
  chosen_at c =
      let a = sym (entry_first store from) in
      let b = sym (entry_byte store from 1 (omega arith)) in
      let e = sym (entry_byte store from 2 (omega arith)) in
      λ i. is_meant c (a i) (b i) (e i)

  pub set_at : (d : Device) → set_from (get_or store (from + 3) 0) (get_or store (from + 4) 0) (get_or store (from + 5) 0) (get_or store (from + 6) 0) d
      ≡ set_if true (take 7 (drop from store)) d
  unfolding set_if
  set_at d =
      let a = sym (entry_byte store from 3 (omega arith)) in
      let b = sym (entry_byte store from 4 (omega arith)) in
      let e = sym (entry_byte store from 5 (omega arith)) in
      let f = sym (entry_byte store from 6 (omega arith)) in
      λ i. set_from (a i) (b i) (e i) (f i) d

-- the entries behind i give the whole
pub record Applying (c : Choice) (base kept : ℕ) (store : List ℕ) (d₀ d : Device) (i : ℕ) : Type 0 where
  pub most : i ≤ kept
  pub left : applied c (stored_at base kept store) d₀ ≡ applied c (stored_at (base + i * 7) (kept - i) store) d

pub record Counting (c : Choice) (base kept : ℕ) (store : List ℕ) (n i : ℕ) : Type 0 where
  pub most : i ≤ kept
  pub few : n ≤ i
  pub left : count_set c (stored_at base kept store) ≡ n + count_set c (stored_at (base + i * 7) (kept - i) store)

module _ {c : Choice} {base kept : ℕ} {store : List ℕ} {d₀ d : Device} {i : ℕ} (p : Applying c base kept store d₀ d i) where
  pub applying-end : kept ≤ i → d ≡ applied c (stored_at base kept store) d₀
  unfolding applied chunks
  applying-end h = let z : kept - i ≡ 0 = omega arith in sym (p.left ∙ ap (λ (n : ℕ). applied c (stored_at (base + i * 7) n store) d) z)

  pub applying-turn : (on : Bool) (d₁ : Device) → i < kept → on ≡ is_chosen c (take 7 (drop (base + i * 7) store))
      → d₁ ≡ set_if on (take 7 (drop (base + i * 7) store)) d → Applying c base kept store d₀ d₁ (i + 1)
  unfolding applied
  applying-turn on d₁ h q e =
      let rest = stored_at (base + (i + 1) * 7) (kept - (i + 1)) store in
      let entry = take 7 (drop (base + i * 7) store) in
      record {
        most = omega arith;
        left = p.left
            ∙ ap (λ (es : List (List ℕ)). applied c es d) (entry-turn base kept i store h)
            ∙ ap (λ (b : Bool). applied c rest (set_if b entry d)) (sym q)
            ∙ ap (applied c rest) (sym e);
      }

module _ {c : Choice} {base kept : ℕ} {store : List ℕ} {n i : ℕ} (p : Counting c base kept store n i) where
  pub counting-end : kept ≤ i → n ≡ count_set c (stored_at base kept store)
  unfolding count_set chunks
  counting-end h =
      let z : kept - i ≡ 0 = omega arith in
      let e : count_set c (stored_at (base + i * 7) (kept - i) store) ≡ 0 = ap (λ (n : ℕ). count_set c (stored_at (base + i * 7) n store)) z in
      omega (arith, p.left)

  pub counting-turn : (on : Bool) (m : ℕ) → i < kept → on ≡ is_chosen c (take 7 (drop (base + i * 7) store)) → m ≡ n + one on → Counting c base kept store m (i + 1)
  unfolding count_set
  counting-turn on m h q e =
      let rest = stored_at (base + (i + 1) * 7) (kept - (i + 1)) store in
      let turn : count_set c (stored_at (base + i * 7) (kept - i) store) ≡ one on + count_set c rest =
      ap (count_set c) (entry-turn base kept i store h) ∙ ap (λ (b : Bool). one b + count_set c rest) (sym q) in
      record { most = omega arith; few = omega (arith, p.few, one_small on); left = omega (arith, p.left) }

-- a payload: none of it, a beginning, or all
module _ (start count : ℕ) (p shelf : List ℕ) where
  pub laid_none : 4096 ≤ count → shelf ≡ laid start count (payload_of p) shelf
  unfolding laid
  laid_none h = let z : 4096 - count ≡ 0 = omega arith in rw z

  pub laid_part : (k : ℕ) → k ≡ 4096 - count → k ≤ length p - 3 → sets shelf (start + count) (take k (drop 1 p)) ≡ laid start count (payload_of p) shelf
  unfolding laid
  laid_part k e h =
      ap (sets shelf (start + count)) (sym (take-take k (length p - 3) (drop 1 p) h) ∙ ap (λ (n : ℕ). take n (payload_of p)) e)

  pub laid-whole : (k : ℕ) → k ≡ length p - 3 → 3 ≤ length p → k ≤ 4096 - count
      → sets shelf (start + count) (take k (drop 1 p)) ≡ laid start count (payload_of p) shelf
  unfolding laid
  laid-whole k e g h =
      let l = length-take-le (length p - 3) (drop 1 p) (omega (arith, length-drop 1 p)) in
      ap (λ (n : ℕ). sets shelf (start + count) (take n (drop 1 p))) e
      ∙ ap (sets shelf (start + count)) (sym (take_all (4096 - count) (payload_of p) (omega arith)))
