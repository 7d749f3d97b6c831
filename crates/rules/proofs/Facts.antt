-- What holds of the marks of one endpoint, and how one more mark keeps it.
use mathlib.Core.Path.{◌≡◌, refl, ap, ◌∙◌}
use mathlib.Core.Bool.{Bool, true, false}
use mathlib.Core.List.{List, [], ◌∷◌, ◌++◌}
use Prim.Native.Nat.{ℕ, suc, pred, ◌+◌, ◌<◌}
use native.Mathlib.Omega.{arith}
use native.Mathlib.Decide.{dec_lt}
use lib.ListN.{length, get_or, length-append, get_or-append}
use lib.Seq.{get_or-append_seam}
use Rattle.std.specs.Prelude.{Some}
use Rattle.rules.specs.Marks.{Mark, other, started, ended, item, closed, starts, endings, closings, items, last_ended, First, Asserted, InTurn}
use Rattle.rules.specs.Demand.{up_to}

-- ---- the first item after an end

items-append : (a b : List Mark) → items (a ++ b) ≡ items a + items b
items-append [] b = omega arith
items-append (other ∷ a) b = items-append a b
items-append (started ∷ a) b = items-append a b
items-append (ended k ∷ a) b = items-append a b
items-append (item ∷ a) b = omega (arith, items-append a b)
items-append (closed i ∷ a) b = items-append a b

-- group k has ended, and no item was added since
pub record Waiting (k : ℕ) (ms : List Mark) : Type 0 where
  pub between : List Mark
  pub before : List Mark
  pub whole : ms ≡ between ++ (ended k ∷ before)
  pub no_item : items between ≡ 0

here : (k : ℕ) (ms : List Mark) → Waiting k (ended k ∷ ms)
here k ms = record { between = []; before = ms; whole = refl; no_item = refl }

still : {k : ℕ} {ms : List Mark} (m : Mark) → ((l : List Mark) → items (m ∷ l) ≡ items l) → Waiting k ms → Waiting k (m ∷ ms)
still m h w =
    record { between = m ∷ w.between; before = w.before; whole = ap (λ (l : List Mark). m ∷ l) w.whole; no_item = h w.between ∙ w.no_item }

first : {k i : ℕ} {ms : List Mark} → Waiting k ms → items ms ≡ i → First k i (item ∷ ms)
first {k} {i} {ms} w h =
    let q = ap items w.whole ∙ items-append w.between (ended k ∷ w.before) in
    record { later = []; between = w.between; before = w.before; whole = ap (λ (l : List Mark). item ∷ l) w.whole; no_item = w.no_item; number = omega (arith, q, h) }

on : {k i : ℕ} {ms : List Mark} (m : Mark) → First k i ms → First k i (m ∷ ms)
on m f =
    record { later = m ∷ f.later; between = f.between; before = f.before; whole = ap (λ (l : List Mark). m ∷ l) f.whole; no_item = f.no_item; number = f.number }

-- the item is there
pub first-there : (k i : ℕ) (ms : List Mark) → First k i ms → i < items ms
first-there k i ms f =
    let q = ap items f.whole ∙ items-append f.later (item ∷ (f.between ++ (ended k ∷ f.before))) in
    let r = items-append f.between (ended k ∷ f.before) in
    omega (arith, f.number)

-- ---- the facts

-- calm; its last group has ended and waits; an item was added for it, and the closing row is yet to come
pub data Wait : Type 0 where
  calm : Wait
  waits : Wait
  due : Wait

abbrev pub one : Bool → ℕ
one true = 1
one false = 0

abbrev pub extra : Wait → ℕ
extra calm = 0
extra waits = 1
extra due = 1

abbrev pub Waits : Wait → ℕ → ℕ → List Mark → Type 0
Waits calm k n ms = Unit {0}
Waits waits k n ms = Waiting k ms × (last_ended ms ≡ Some k)
Waits due k n ms = ((i : ℕ) → n ≡ suc i → First k i ms) × (last_ended ms ≡ Some k)

-- of endpoint e: g groups were started, n items added; a group is open or not. The event endpoint, 0, has groups that are never ended
pub record Facts (e : ℕ) (o : Bool) (v : Wait) (g n : ℕ) (ms : List Mark) : Type 0 where
  pub grouped : ¬ (e ≡ 0) → starts ms ≡ g
  pub counted : ¬ (e ≡ 0) → g ≡ length (closings ms) + (extra v + one o)
  pub unclosed : e ≡ 0 → closings ms ≡ []
  pub added : items ms ≡ n
  pub finished : (m : ℕ) → m ≡ length (closings ms) + extra v → endings ms ≡ up_to m
  pub waited : Waits v (length (closings ms)) n ms
  pub named : (k : ℕ) → k < length (closings ms) → First k (get_or (closings ms) k 0) ms
  pub asserted : Asserted ms
  pub turned : InTurn ms

pub fresh : (e : ℕ) → Facts e false calm 0 0 []
fresh e =
    record { grouped = λ d. refl; counted = λ d. refl; unclosed = λ z. refl; added = refl; finished = λ m q. rw q; waited = tt; named = λ k h. absurd (omega arith); asserted = tt; turned = tt }

-- a mark that is neither an item nor an end
waits_on : (m : Mark) → ((l : List Mark) → items (m ∷ l) ≡ items l) → ((l : List Mark) → last_ended (m ∷ l) ≡ last_ended l) → (v : Wait) (k n : ℕ) (ms : List Mark) → Waits v k n ms → Waits v k n (m ∷ ms)
waits_on m h j calm k n ms t = tt
waits_on m h j waits k n ms t = (still m h t.0, j ms ∙ t.1)
waits_on m h j due k n ms t = (λ i q. on m (t.0 i q), j ms ∙ t.1)

module _ {e g n : ℕ} {ms : List Mark} where
  pub pass : {o : Bool} {v : Wait} → Facts e o v g n ms → Facts e o v g n (other ∷ ms)
  pass {o} {v} f =
      record { grouped = f.grouped; counted = f.counted; unclosed = f.unclosed; added = f.added; finished = f.finished; waited = waits_on other (λ l. refl) (λ l. refl) v _ n ms f.waited; named = λ k h. on other (f.named k h); asserted = f.asserted; turned = f.turned }

  -- a group of the event endpoint
  pub skip : {o : Bool} {v : Wait} (g' : ℕ) → e ≡ 0 → Facts e o v g n ms → Facts e o v g' n (started ∷ ms)
  skip {o} {v} g' z f =
      record { grouped = λ d. absurd (d z); counted = λ d. absurd (d z); unclosed = f.unclosed; added = f.added; finished = f.finished; waited = waits_on started (λ l. refl) (λ l. refl) v _ n ms f.waited; named = λ k h. on started (f.named k h); asserted = f.asserted; turned = f.turned }

  pub begin : {v : Wait} → Facts e false v g n ms → Facts e true v (suc g) n (started ∷ ms)
  begin {v} f =
      record { grouped = λ d. ap suc (f.grouped d); counted = λ d. omega (arith, f.counted d); unclosed = f.unclosed; added = f.added; finished = f.finished; waited = waits_on started (λ l. refl) (λ l. refl) v _ n ms f.waited; named = λ k h. on started (f.named k h); asserted = f.asserted; turned = f.turned }

  pub end : ¬ (e ≡ 0) → Facts e true calm g n ms → Facts e false waits g n (ended (pred g) ∷ ms)
  end d f =
      let c = f.counted d in
      let q : pred g ≡ length (closings ms) = omega arith in
      record { grouped = f.grouped; counted = λ d. omega arith; unclosed = f.unclosed; added = f.added; finished = λ m r. up m (omega arith); waited = rw q (here (length (closings ms)) ms, refl); named = λ k h. on (ended (pred g)) (f.named k h); asserted = f.asserted; turned = (omega (arith, f.grouped d), f.turned) }
    where
      up : (m : ℕ) → m ≡ suc (pred g) → endings ms ++ (pred g ∷ []) ≡ up_to m
      up m r = let c = f.counted d in rw r (ap (λ (l : List ℕ). l ++ (pred g ∷ [])) (f.finished (pred g) (omega arith)))

  pub add-calm : {o : Bool} → Facts e o calm g n ms → Facts e o calm g (suc n) (item ∷ ms)
  add-calm f =
      record { grouped = f.grouped; counted = f.counted; unclosed = f.unclosed; added = ap suc f.added; finished = f.finished; waited = tt; named = λ k h. on item (f.named k h); asserted = f.asserted; turned = f.turned }

  pub add-waits : {o : Bool} → Facts e o waits g n ms → Facts e o due g (suc n) (item ∷ ms)
  add-waits f =
      record { grouped = f.grouped; counted = f.counted; unclosed = f.unclosed; added = ap suc f.added; finished = f.finished; waited = (λ i q. first f.waited.0 (omega (arith, q, f.added)), f.waited.1); named = λ k h. on item (f.named k h); asserted = f.asserted; turned = f.turned }

pub close : {e : ℕ} {o : Bool} {g n : ℕ} {ms : List Mark} → ¬ (e ≡ 0) → Facts e o due g (suc n) ms → Facts e o calm g (suc n) (closed n ∷ ms)
close {e} {o} {g} {n} {ms} d f =
    record {
      grouped = f.grouped;
      counted = λ d. simp length-append (omega (arith, f.counted d));
      unclosed = λ z. absurd (d z);
      added = f.added;
      finished = λ m r. f.finished m (omega (arith, simp length-append at r));
      waited = tt;
      named = λ k h. last k (dec_lt k (length (closings ms))) (simp length-append at h);
      asserted = (f.waited.1, f.asserted);
      turned = f.turned;
    }
  where
    last : (k : ℕ) → Dec (k < length (closings ms)) → k < length (closings ms) + 1 → First k (get_or (closings ms ++ (n ∷ [])) k 0) (closed n ∷ ms)
    last k (yes l) h = rw (get_or-append (closings ms) (n ∷ []) 0 k l) (on (closed n) (f.named k l))
    last k (no l) h =
        let q : k ≡ length (closings ms) = omega arith in
        rw (q, get_or-append_seam (closings ms) n [] 0) (on (closed n) (f.waited.0 n refl))
