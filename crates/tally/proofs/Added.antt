-- A tally is right: the rows that it counts are those that the rules append, log by log, and the endpoints that it says wait are those that wait.
use mathlib.Core.Path.{◌≡◌, refl, sym, ap, ◌∙◌}
use mathlib.Core.Bool.{Bool, true, false, ◌&&◌, cond}
use mathlib.Core.List.{List, [], ◌∷◌, ◌++◌}
use Prim.Native.Nat.{ℕ, zero, suc, pred, ◌+◌, ◌*◌, ◌<◌, ◌≤◌}
use native.Mathlib.Omega.{arith}
use borrow.Author.Tests.{eq-eqb, ne_eqb}
use lib.Dec.{eqb}
use lib.ListN.{length, length-append}
use Rattle.rows.specs.Widths.{group_width, link_width}
use Rattle.rows.specs.One.{one}
use Rattle.transaction.specs.Payload.{start_pid}
use Rattle.transaction.specs.Table.{pick}
use Rattle.endpoints.specs.Phases.{count}
use Rattle.endpoints.proofs.PhasesLaws.{count_ext, count-change, count_none}
use Rattle.endpoints.specs.Table.{with_phase}
use Rattle.endpoints.specs.declared.Endpoint.{Endpoint}
use Rattle.endpoints.specs.declared.Phase.{Phase}
use Rattle.endpoints.specs.declared.Phase.TheVariants.{None, Early, Active, Ended}
use Rattle.rules.specs.Rows.{Row, log, written, GroupRow, grouping, StateRow, StateBytes, ItemRow, T, G, E, Over}
use Rattle.rules.specs.World.{World, ◌▷◌, phase, last_group, change, more_transactions, more_groups, with_last, cleared, is_ended, ended_in, waiting_of}
use Rattle.rules.specs.Groups as rules
use Rattle.update.specs.Update.{when, end_row, end_group, start_group, become, act}
use Rattle.tally.specs.Tally.{none, add_waiting, add_link, add_entry, add_item, tally_update, words_in, in_log, words_for, Adds, ended, become_phase, takes_up, phase_after, Suits}
use Rattle.update.specs.declared.Update.{Update}
use Rattle.update.specs.declared.Then.{Then}
use Rattle.update.specs.declared.Then.TheVariants.{Keep, Begin, BeginFailed, Last, BeginEarly}
use Rattle.tally.specs.declared.add.Tally.{Tally}

-- ---- words

pub more : (j k a b c : ℕ) → c ≡ a + b → in_log j k c ≡ in_log j k a + in_log j k b
unfolding in_log
more j k a b c h = by (eqb j k)
  where
    by : (z : Bool) → pick z c 0 ≡ pick z a 0 + pick z b 0
    by true = h
    by false = refl

-- a row's words are in its log
pub row : (k : ℕ) (r : Row) (js : List Row) → words_in k (r ∷ js) ≡ words_in k js + in_log (written r).0 k (length (written r).1)
unfolding in_log
row k r js = length-append (log k js) _ ∙ ap (λ (n : ℕ). words_in k js + n) (by (eqb (written r).0 k))
  where
    by : (z : Bool) → length (pick z (written r).1 []) ≡ pick z (length (written r).1) 0
    by true = refl
    by false = refl

length-states : (f : ℕ → Endpoint) (i n : ℕ) → length (rules.states_from f i n) ≡ n
length-states f i zero = refl
length-states f i (suc n) = ap suc (length-states f (suc i) n)

pub count-last : (n : ℕ) (p : ℕ → Bool) (i : ℕ) → count p i (suc n) ≡ count p i n + one (p (i + n))
count-last zero p i = let e : i + 0 ≡ i = omega arith in rw e (by (p i))
  where
    by : (b : Bool) → cond b 1 0 ≡ 0 + one b
    by true = refl
    by false = refl
count-last (suc n) p i =
    let e : i + suc n ≡ suc i + n = omega arith in
    rw (e, count-last n p (suc i)) (by (p i) (count p (suc i) n) (one (p (suc i + n))))
  where
    by : (b : Bool) (m k : ℕ) → cond b (suc (m + k)) (m + k) ≡ cond b (suc m) m + k
    by true m k = omega arith
    by false m k = refl

pub nothing : (j k : ℕ) → in_log j k 0 ≡ 0
unfolding in_log
nothing j k = by (eqb j k)
  where
    by : (z : Bool) → pick {A = ℕ} z 0 0 ≡ 0
    by true = refl
    by false = refl

-- an E row for each that waits
close-words : (k i : ℕ) (f : ℕ → Endpoint) (js : List Row) (n : ℕ) → words_in k (rules.close_rows n i f js) ≡ words_in k js + in_log 10 k (count (ended_in f) 0 n * 4)
close-words k i f js zero = omega (arith, nothing 10 k)
close-words k i f js (suc n) =
    let e = by (f n).phase (rules.close_rows n i f js) in
    let r = close-words k i f js n in
    let z : 0 + n ≡ n = omega arith in
    let l : count (ended_in f) 0 (suc n) ≡ count (ended_in f) 0 n + one (ended_in f n) = rw z at (count-last n (ended_in f) 0) in
    e ∙ omega (arith, r, more 10 k (count (ended_in f) 0 n * 4) (one (ended_in f n) * 4) (count (ended_in f) 0 (suc n) * 4) (omega arith))
  where
    by : (p : Phase) (js : List Row) → words_in k (rules.close_row p n i js) ≡ words_in k js + in_log 10 k (one (is_ended p) * 4)
    by None js = omega (arith, nothing 10 k)
    by Early js = omega (arith, nothing 10 k)
    by Active js = omega (arith, nothing 10 k)
    by Ended js = row k (E n i) js

-- ---- who waits

here : {b : Bool} (a c : Endpoint) → b ≡ true → pick b a c ≡ a
here a c h = rw h

pub waiting-change : (x : ℕ) (f : Endpoint → Endpoint) (w : World) → x < w.count → waiting_of (change x f w) + one (is_ended (phase x w)) ≡ waiting_of w + one (is_ended (f (w.endpoints x)).phase)
waiting-change x f w h =
    let c = count-change w.count (ended_in w.endpoints) (ended_in (change x f w).endpoints) 0 x (omega arith) (omega arith) (λ j ne. ap (λ (b : Bool). is_ended (pick b (f (w.endpoints j)) (w.endpoints j)).phase) (ne_eqb j x ne)) in
    let e : ended_in (change x f w).endpoints x ≡ is_ended (f (w.endpoints x)).phase = ap (λ (a : Endpoint). is_ended a.phase) (here (f (w.endpoints x)) (w.endpoints x) (eq-eqb x x refl)) in
    rw e at c

not-closed : (p : Phase) → is_ended (rules.close_phase p) ≡ false
not-closed None = refl
not-closed Early = refl
not-closed Active = refl
not-closed Ended = refl

-- ---- each step, from a world that the tally is right of

-- the endpoint x is one of n and has phase p
record On (t : Tally) (w₀ : World) (x n : ℕ) (p : Phase) (w : World) : Type 0 where
  adds : Adds t w₀ w
  count : w.count ≡ n
  phase : phase x w ≡ p

module _ (w₀ : World) (x n : ℕ) (within : x < n) where
  abbrev At : Tally → Phase → World → Type 0
  At t p w = On t w₀ x n p w

  module _ {t : Tally} {p : Phase} {w : World} (o : At t p w) where
    lt : x < w.count
    lt = omega (arith, o.count)

    own : one (is_ended (phase x w)) ≡ one (is_ended p)
    own = ap (λ (z : Phase). one (is_ended z)) o.phase

    -- a change of the entry that ends no group and takes none up again
    change_at : (f : Endpoint → Endpoint) (q : Phase) → (f (w.endpoints x)).phase ≡ q → is_ended q ≡ is_ended p → At t q (change x f w)
    change_at f q h e =
        let c = waiting-change x f w lt in
        let g : one (is_ended (f (w.endpoints x)).phase) ≡ one (is_ended p) = ap (λ (z : Phase). one (is_ended z)) h ∙ ap one e in
        record {
          adds = record { words = o.adds.words; waiting = omega (arith, c, g, own, o.adds.waiting); bytes = o.adds.bytes; devices = o.adds.devices; endpoints = o.adds.endpoints; packets = o.adds.packets; transactions = o.adds.transactions; groups = o.adds.groups; statebytes = o.adds.statebytes; items = o.adds.items };
          count = o.count;
          phase = ap (λ (a : Endpoint). a.phase) (here (f (w.endpoints x)) (w.endpoints x) (eq-eqb x x refl)) ∙ h;
        }

    over_at : is_ended p ≡ false → At (add_waiting t) Ended (rules.over x w)
    over_at e =
        let c = waiting-change x (with_phase Ended) w lt in
        let g : one (is_ended p) ≡ 0 = ap one e in
        record {
          adds = record { words = (λ k. omega (arith, row k (Over x (last_group x w)) w.journal, nothing 12 k, o.adds.words k)); waiting = omega (arith, c, g, own, o.adds.waiting); bytes = o.adds.bytes; devices = o.adds.devices; endpoints = o.adds.endpoints; packets = o.adds.packets; transactions = o.adds.transactions; groups = o.adds.groups; statebytes = o.adds.statebytes; items = o.adds.items };
          count = o.count;
          phase = ap (λ (a : Endpoint). a.phase) (here (with_phase Ended (w.endpoints x)) (w.endpoints x) (eq-eqb x x refl));
        }

    one_link : (k : ℕ) → in_log 10 k ((t.links + 1) * link_width) ≡ in_log 10 k (t.links * link_width) + in_log 10 k 4
    one_link k = more 10 k (t.links * link_width) 4 ((t.links + 1) * link_width) (omega arith)

    link_at : At (add_link t) p (rules.link x w)
    link_at =
        let c = waiting-change x more_transactions w lt in
        record {
          adds = record { words = (λ k. omega (arith, row k (T x w.transaction.id) w.journal, one_link k, o.adds.words k)); waiting = omega (arith, c, o.adds.waiting); bytes = o.adds.bytes; devices = o.adds.devices; endpoints = o.adds.endpoints; packets = o.adds.packets; transactions = o.adds.transactions; groups = o.adds.groups; statebytes = o.adds.statebytes; items = o.adds.items };
          count = o.count;
          phase = ap (λ (a : Endpoint). a.phase) (here (more_transactions (w.endpoints x)) (w.endpoints x) (eq-eqb x x refl)) ∙ o.phase;
        }

    group_at : (i : ℕ) → At (add_link t) p (rules.push_group x i w)
    group_at i =
        let c = waiting-change x more_groups w lt in
        record {
          adds = record { words = (λ k. omega (arith, row k (G x i) w.journal, one_link k, o.adds.words k)); waiting = omega (arith, c, o.adds.waiting); bytes = o.adds.bytes; devices = o.adds.devices; endpoints = o.adds.endpoints; packets = o.adds.packets; transactions = o.adds.transactions; groups = o.adds.groups; statebytes = o.adds.statebytes; items = o.adds.items };
          count = o.count;
          phase = ap (λ (a : Endpoint). a.phase) (here (more_groups (w.endpoints x)) (w.endpoints x) (eq-eqb x x refl)) ∙ o.phase;
        }

    entry_at : (start : Bool) → At (add_entry n t) p (rules.add_group_entry x start w)
    entry_at start =
        record {
          adds = record { words = words; waiting = o.adds.waiting; bytes = o.adds.bytes; devices = o.adds.devices; endpoints = o.adds.endpoints; packets = o.adds.packets; transactions = o.adds.transactions; groups = omega (arith, o.adds.groups); statebytes = omega (arith, o.adds.statebytes, o.count); items = o.adds.items };
          count = o.count;
          phase = o.phase;
        }
      where
        ss : List ℕ
        ss = rules.states_from (rules.add_endpoint_state x start w).endpoints 0 w.count

        words : (k : ℕ) → words_in k (rules.add_group_entry x start w).journal ≡ words_in k w₀.journal + words_for k (add_entry n t)
        words k =
            omega (
              arith,
              row k (StateBytes ss) w.journal,
              row k (StateRow w.state_bytes) (StateBytes ss ∷ w.journal),
              row k (GroupRow (grouping x (last_group x w) start w.context)) (StateRow w.state_bytes ∷ StateBytes ss ∷ w.journal),
              ap (in_log 7 k) (length-states (rules.add_endpoint_state x start w).endpoints 0 w.count ∙ o.count),
              more 6 k (t.groups * group_width) group_width ((t.groups + 1) * group_width) (omega arith),
              more 7 k t.statebytes n (t.statebytes + n) refl,
              more 8 k t.states 1 (t.states + 1) refl,
              o.adds.words k,
            )

    item_at : At (add_item t) (rules.close_phase p) (rules.add_item x w)
    item_at =
        record {
          adds = record { words = words; waiting = count_none w.count _ 0 (λ j u v. not-closed (w.endpoints j).phase); bytes = o.adds.bytes; devices = o.adds.devices; endpoints = o.adds.endpoints; packets = o.adds.packets; transactions = o.adds.transactions; groups = o.adds.groups; statebytes = o.adds.statebytes; items = omega (arith, o.adds.items) };
          count = o.count;
          phase = ap rules.close_phase o.phase;
        }
      where
        words : (k : ℕ) → words_in k (rules.add_item x w).journal ≡ words_in k w₀.journal + words_for k (add_item t)
        words k =
            omega (
              arith,
              row k (ItemRow (pred w.groups)) w.journal,
              close-words k w.items w.endpoints (ItemRow (pred w.groups) ∷ w.journal) w.count,
              ap (λ (m : ℕ). in_log 10 k (m * 4)) o.adds.waiting,
              more 9 k t.items 1 (t.items + 1) refl,
              more 10 k (t.links * link_width) (t.waiting * 4) ((t.links + t.waiting) * link_width) (omega arith),
              o.adds.words k,
            )

  -- ---- each part of an update, done or not

  module _ {t : Tally} {p : Phase} {w : World} (o : At t p w) where
    over-when : (b : Bool) → (b && is_ended p) ≡ false → At (when b add_waiting t) (when b ended p) (when b (rules.over x) w)
    over-when true e = over_at o e
    over-when false e = o

    cut-when : (b : Bool) → (b && is_ended p) ≡ false → At (when b (add_entry n) (when b add_waiting t)) (when b ended p) (when b (end_row x) w)
    cut-when true e = entry_at (over_at o e) false
    cut-when false e = o

    link-when : (b : Bool) → At (when b add_link t) p (when b (rules.link x) w)
    link-when true = link_at o
    link-when false = o

    start-when : (b : Bool) → At (when b add_item (when b (add_entry n) (when b add_link t))) (when b rules.close_phase p) (when b (start_group x) w)
    start-when true = item_at (entry_at (group_at o w.transaction.link) true)
    start-when false = o

    become-when : (g : Then) → (takes_up g && is_ended p) ≡ false → At t (become_phase g p) (become g x w)
    become-when Keep e = o
    become-when Begin e = change_at o (rules.activated true (start_pid w.transaction.style)) Active refl (sym e)
    become-when BeginFailed e = change_at o (rules.activated false (start_pid w.transaction.style)) Active refl (sym e)
    become-when Last e = change_at o (with_last (start_pid w.transaction.style)) p o.phase refl
    become-when BeginEarly e = change_at o (with_phase Early) Early refl (sym e)

    end-when : (b : Bool) → (b && is_ended p) ≡ false → At (when b (add_entry n) (when b add_waiting t)) (when b ended p) (when b (end_group x) w)
    end-when true e = entry_at (over_at (change_at o cleared p o.phase refl) e) false
    end-when false e = o

    item-when : (b : Bool) → At (when b add_item t) (when b rules.close_phase p) (when b (rules.add_item x) w)
    item-when true = item_at o
    item-when false = o

  act_at : (u : Update) {t : Tally} {p : Phase} {w : World} → Suits u p → At t p w → At (tally_update u n t) (phase_after u p) (act u x w)
  unfolding tally_update
  act_at u s o =
      let a = over-when o u.over s.over in
      let b = cut-when a u.cut s.cut in
      let c = link-when b u.link in
      let d = start-when c u.start in
      let e = become-when d u.group s.group in
      item-when (end-when e u.end s.end) u.item

-- ---- the theorems

-- nothing done, nothing added
pub adds_none : (w : World) → Adds (none (waiting_of w)) w w
adds_none w =
    record { words = (λ k. omega (arith, nothing 0 k, nothing 1 k, nothing 2 k, nothing 3 k, nothing 4 k, nothing 5 k, nothing 6 k, nothing 7 k, nothing 8 k, nothing 9 k, nothing 10 k, nothing 11 k)); waiting = refl; bytes = omega arith; devices = omega arith; endpoints = omega arith; packets = omega arith; transactions = omega arith; groups = omega arith; statebytes = omega arith; items = omega arith }

-- where a tally is right before an update that suits the endpoint's phase, it is right after it
pub act-adds : (u : Update) (x : ℕ) {t : Tally} {w₀ w : World} → x < w.count → Suits u (phase x w) → Adds t w₀ w → Adds (tally_update u w.count t) w₀ (act u x w)
act-adds u x {t} {w₀} {w} h s a = (act_at w₀ x w.count h u s (record { adds = a; count = refl; phase = refl })).adds

-- the endpoint's phase after it
pub act-phase : (u : Update) (x : ℕ) (w : World) → x < w.count → Suits u (phase x w) → phase x (act u x w) ≡ phase_after u (phase x w)
act-phase u x w h s = (act_at w x w.count h u s (record { adds = adds_none w; count = refl; phase = refl })).phase

-- the steps of an update by themselves, as the rows of events take them
module _ (x : ℕ) {t : Tally} {w₀ w : World} (h : x < w.count) (a : Adds t w₀ w) where
  found : On t w₀ x w.count (phase x w) w
  found = record { adds = a; count = refl; phase = refl }

  pub group-adds : (i : ℕ) → Adds (add_link t) w₀ (rules.push_group x i w)
  group-adds i = (group_at w₀ x w.count h found i).adds

  pub entry-adds : (start : Bool) → Adds (add_entry w.count t) w₀ (rules.add_group_entry x start w)
  entry-adds start = (entry_at w₀ x w.count h found start).adds

  pub item-adds : Adds (add_item t) w₀ (rules.add_item x w)
  item-adds = (item_at w₀ x w.count h found).adds
