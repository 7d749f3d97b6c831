-- The two loops over the endpoints: the closing rows of an item, and the ends that an event makes.
use mathlib.Core.Path.{◌≡◌, refl, ap, ◌∙◌}
use mathlib.Core.Bool.{Bool, true, false}
use mathlib.Core.List.{List, ◌∷◌, ◌++◌}
use Prim.Native.Nat.{ℕ, zero, suc, pred, ◌<◌}
use native.Mathlib.Omega.{arith}
use lib.Dec.{eqb}
use borrow.Author.Tests.{eqb-true, eqb-false, ne_eqb}
use Rattle.transaction.specs.Table.{pick}
use Rattle.endpoints.specs.declared.Endpoint.{Endpoint}
use Rattle.endpoints.specs.declared.Phase.{Phase}
use Rattle.endpoints.specs.declared.Phase.TheVariants.{None, Early, Active, Ended}
use Rattle.rules.specs.Rows.{Row, ItemRow}
use Rattle.rules.specs.Groups.{close_row, close_rows}
use Rattle.rules.specs.Decoder.{over_row, over_rows, end_phase}
use Rattle.rules.specs.Marks.{Mark, other, ended, closed, marks}
use Rattle.rules.proofs.Facts.{Wait, calm, waits, due, Facts, pass, end, add-calm, add-waits, close}

-- the phase as the facts see it
abbrev pub open_of : Phase → Bool
open_of None = false
open_of Early = true
open_of Active = true
open_of Ended = false

abbrev pub wait_of : Phase → Wait
wait_of None = calm
wait_of Early = calm
wait_of Active = calm
wait_of Ended = waits

-- only an endpoint that is there has a group that is not closed
abbrev pub Inside : Phase → ℕ → ℕ → Type 0
Inside None e c = Unit {0}
Inside Early e c = e < c
Inside Active e c = e < c
Inside Ended e c = e < c

abbrev number : Phase → ℕ
number None = 0
number Early = 1
number Active = 2
number Ended = 3

module _ (e : ℕ) {o : Bool} {v : Wait} {g n : ℕ} where
  pub miss : (x : ℕ) (m : Mark) (ms : List Mark) → eqb e x ≡ false → Facts e o v g n ms → Facts e o v g n (pick (eqb e x) m other ∷ ms)
  miss x m ms h f = rw h (pass f)

  -- ---- rows of other endpoints

  close_miss : (p : Phase) (x i : ℕ) (js : List Row) → (p ≡ Ended → eqb e x ≡ false) → Facts e o v g n (marks e js) → Facts e o v g n (marks e (close_row p x i js))
  close_miss None x i js h f = f
  close_miss Early x i js h f = f
  close_miss Active x i js h f = f
  close_miss Ended x i js h f = miss x (closed i) (marks e js) (h refl) f

  close_misses : (c i : ℕ) (eps : ℕ → Endpoint) (js : List Row) → ((x : ℕ) → x < c → (eps x).phase ≡ Ended → eqb e x ≡ false) → Facts e o v g n (marks e js) → Facts e o v g n (marks e (close_rows c i eps js))
  close_misses zero i eps js h f = f
  close_misses (suc c) i eps js h f =
      close_miss (eps c).phase c i (close_rows c i eps js) (h c (omega arith)) (close_misses c i eps js (λ x l. h x (omega arith)) f)

  over_miss : (p : Phase) (x k : ℕ) (js : List Row) → (p ≡ Active → eqb e x ≡ false) → Facts e o v g n (marks e js) → Facts e o v g n (marks e (over_row p x k js))
  over_miss None x k js h f = f
  over_miss Early x k js h f = f
  over_miss Active x k js h f = miss x (ended k) (marks e js) (h refl) f
  over_miss Ended x k js h f = f

  over_misses : (c : ℕ) (eps : ℕ → Endpoint) (js : List Row) → ((x : ℕ) → x < c → (eps x).phase ≡ Active → eqb e x ≡ false) → Facts e o v g n (marks e js) → Facts e o v g n (marks e (over_rows c eps js))
  over_misses zero eps js h f = f
  over_misses (suc c) eps js h f =
      over_miss (eps c).phase c _ (over_rows c eps js) (h c (omega arith)) (over_misses c eps js (λ x l. h x (omega arith)) f)

differ : (p q : Phase) → ¬ (number p ≡ number q) → ¬ (p ≡ q)
differ p q d s = d (ap number s)

module _ (e : ℕ) (eps : ℕ → Endpoint) where
  elsewhere : (p q : Phase) → (eps e).phase ≡ p → ¬ (number p ≡ number q) → (c x : ℕ) → x < c → (eps x).phase ≡ q → eqb e x ≡ false
  elsewhere p q s d c x l r = ne_eqb e x (λ (z : e ≡ x). differ p q d (cc))

  -- ---- the endpoint's own row

  close_hits : {o : Bool} {g : ℕ} (c i : ℕ) (js : List Row) → ¬ (e ≡ 0) → e < c → (eps e).phase ≡ Ended → Facts e o due g (suc i) (marks e js) → Facts e o calm g (suc i) (marks e (close_rows c i eps js))
  close_hits zero i js d l q f = absurd (omega arith)
  close_hits {o} {g} (suc c) i js d l q f = at (eqb e c) refl (λ h. close_hits c i js d h q f)
    where
      at : (b : Bool) → eqb e c ≡ b → (e < c → Facts e o calm g (suc i) (marks e (close_rows c i eps js))) → Facts e o calm g (suc i) (marks e (close_row (eps c).phase c i (close_rows c i eps js)))
      at true h ih =
          let s : e ≡ c = eqb-true e c h in
          let r : (eps c).phase ≡ Ended = cc in
          rw (r, h) (close d (close_misses e c i eps js (λ x m t. ne_eqb e x (λ (z : e ≡ x). omega arith)) f))
      at false h ih =
          let d : ¬ (e ≡ c) = eqb-false e c h in
          close_miss e (eps c).phase c i (close_rows c i eps js) (λ r. h) (ih (omega arith))

  over_hits : {n : ℕ} (c : ℕ) (js : List Row) → ¬ (e ≡ 0) → e < c → (eps e).phase ≡ Active → Facts e true calm (eps e).groups n (marks e js) → Facts e false waits (eps e).groups n (marks e (over_rows c eps js))
  over_hits zero js d l q f = absurd (omega arith)
  over_hits {n} (suc c) js d l q f = at (eqb e c) refl (λ h. over_hits c js d h q f)
    where
      at : (b : Bool) → eqb e c ≡ b → (e < c → Facts e false waits (eps e).groups n (marks e (over_rows c eps js))) → Facts e false waits (eps e).groups n (marks e (over_row (eps c).phase c (pred (eps c).groups) (over_rows c eps js)))
      at true h ih =
          let s : e ≡ c = eqb-true e c h in
          let r : (eps c).phase ≡ Active = cc in
          let m : (eps c).groups ≡ (eps e).groups = cc in
          rw (r, h, m) (end d (over_misses e c eps js (λ x m t. ne_eqb e x (λ (z : e ≡ x). omega arith)) f))
      at false h ih =
          let d : ¬ (e ≡ c) = eqb-false e c h in
          over_miss e (eps c).phase c _ (over_rows c eps js) (λ r. h) (ih (omega arith))

  -- ---- the loops, whatever the phase

  -- the event endpoint has no group that is not closed
  real : (p : Phase) → ¬ (number p ≡ number None) → (e ≡ 0 → p ≡ None) → ¬ (e ≡ 0)
  real p d n z = differ p None d (n z)

  item-all : (k c n : ℕ) (js : List Row) {o : Bool} {g : ℕ} (p : Phase) → (e ≡ 0 → p ≡ None) → (eps e).phase ≡ p → Inside p e c → Facts e o (wait_of p) g n (marks e js) → Facts e o calm g (suc n) (marks e (close_rows c n eps (ItemRow k ∷ js)))
  item-all k c n js None d q l f = close_misses e c n eps (ItemRow k ∷ js) (elsewhere None Ended q (λ z. omega arith) c) (add-calm f)
  item-all k c n js Early d q l f = close_misses e c n eps (ItemRow k ∷ js) (elsewhere Early Ended q (λ z. omega arith) c) (add-calm f)
  item-all k c n js Active d q l f = close_misses e c n eps (ItemRow k ∷ js) (elsewhere Active Ended q (λ z. omega arith) c) (add-calm f)
  item-all k c n js Ended d q l f = close_hits c n (ItemRow k ∷ js) (real Ended (λ z. omega arith) d) l q (add-waits f)

  over-all : (c n : ℕ) (js : List Row) (p : Phase) → (e ≡ 0 → p ≡ None) → (eps e).phase ≡ p → Inside p e c → Facts e (open_of p) (wait_of p) (eps e).groups n (marks e js) → Facts e (open_of (end_phase p)) (wait_of (end_phase p)) (eps e).groups n (marks e (over_rows c eps js))
  over-all c n js None d q l f = over_misses e c eps js (elsewhere None Active q (λ z. omega arith) c) f
  over-all c n js Early d q l f = over_misses e c eps js (elsewhere Early Active q (λ z. omega arith) c) f
  over-all c n js Active d q l f = over_hits c js (real Active (λ z. omega arith) d) l q f
  over-all c n js Ended d q l f = over_misses e c eps js (elsewhere Ended Active q (λ z. omega arith) c) f

-- ---- the same, where the rows of this call stand before those of the calls before

close-append : (p : Phase) (x i : ℕ) (js base : List Row) → close_row p x i js ++ base ≡ close_row p x i (js ++ base)
close-append None x i js base = refl
close-append Early x i js base = refl
close-append Active x i js base = refl
close-append Ended x i js base = refl

closes-append : (c i : ℕ) (eps : ℕ → Endpoint) (js base : List Row) → close_rows c i eps js ++ base ≡ close_rows c i eps (js ++ base)
closes-append zero i eps js base = refl
closes-append (suc c) i eps js base = close-append (eps c).phase c i (close_rows c i eps js) base ∙ ap (close_row (eps c).phase c i) (closes-append c i eps js base)

over-append : (p : Phase) (x k : ℕ) (js base : List Row) → over_row p x k js ++ base ≡ over_row p x k (js ++ base)
over-append None x k js base = refl
over-append Early x k js base = refl
over-append Active x k js base = refl
over-append Ended x k js base = refl

overs-append : (c : ℕ) (eps : ℕ → Endpoint) (js base : List Row) → over_rows c eps js ++ base ≡ over_rows c eps (js ++ base)
overs-append zero eps js base = refl
overs-append (suc c) eps js base = over-append (eps c).phase c _ (over_rows c eps js) base ∙ ap (over_row (eps c).phase c (pred (eps c).groups)) (overs-append c eps js base)

module _ (e : ℕ) (eps : ℕ → Endpoint) (c n : ℕ) (js base : List Row) (p : Phase) (d : e ≡ 0 → p ≡ None) (q : (eps e).phase ≡ p) (l : Inside p e c) where
  pub item_facts : (k : ℕ) {o : Bool} {g : ℕ} → Facts e o (wait_of p) g n (marks e (js ++ base)) → Facts e o calm g (suc n) (marks e (close_rows c n eps (ItemRow k ∷ js) ++ base))
  item_facts k f = rw (closes-append c n eps (ItemRow k ∷ js) base) (item-all e eps k c n (js ++ base) p d q l f)

  pub over_facts : Facts e (open_of p) (wait_of p) (eps e).groups n (marks e (js ++ base)) → Facts e (open_of (end_phase p)) (wait_of (end_phase p)) (eps e).groups n (marks e (over_rows c eps js ++ base))
  over_facts f = rw (overs-append c eps js base) (over-all e eps c n (js ++ base) p d q l f)
