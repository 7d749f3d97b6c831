-- What the functions lean on: a step that has room had it before too, what each callee asks follows from the room at the end, and an
-- endpoint's counts are those that it had.
use Prim.Native.Nat.{ℕ, pred, ◌+◌, ◌*◌, ◌^◌, ◌<◌, ◌≤◌}
use native.Mathlib.Omega.{arith}
use mathlib.Core.Bool.{Bool, true, false}
use mathlib.Core.List.{List, [], ◌∷◌}
use mathlib.Core.Path.{◌≡◌, refl, sym, ap, ◌∙◌, subst}
use lib.ListN.{length}
use lib.Seq.{sets, length-sets}
use Rattle.rules.specs.Rows.{grouping, group_words}
use Rattle.rows.specs.Widths.{group_width, link_width}
use Rattle.rows.specs.One.{one}
use Rattle.endpoints.specs.Link as kind
use Rattle.endpoints.specs.Word as word
use Rattle.endpoints.specs.Phases.{waiting}
use Rattle.endpoints.specs.Each.{closing, next_states, state_bytes}
use Rattle.endpoints.specs.States.{next_state}
use Rattle.endpoints.proofs.StatesLaws.{length-next, entry_next}
use Rattle.endpoints.specs.Table.{words, entry_at, store_at, with_phase, with_state}
use Rattle.endpoints.proofs.TableLaws.{Fits, load_store_same, fits-entry}
use Rattle.endpoints.specs.declared.Endpoint.{Endpoint}
use Rattle.endpoints.specs.declared.Phase.TheVariants.{Ended}
use Rattle.rules.specs.World.{cleared, more_transactions, more_groups}
use Rattle.update.specs.Update.{when}
use Rattle.update.specs.declared.Update.{Update}
use Rattle.update.specs.declared.Then.{Then}
use Rattle.update.specs.declared.Then.TheVariants.{Keep, Begin, BeginFailed, Last, BeginEarly}
use Rattle.write.specs.Memory.{Memory, Room, Numbers, memory, alter, altered, group_written, item_written, link_written, last_number, link_row, group_row, entry_row, end_row, link_step, start_group, item_row}
use Rattle.write.specs.declared.Written.{Written}
use Rattle.write_update.specs.Carried.{become, end_group, opened, closed}

-- ---- a change of the table alone

pub table-when : (b : Bool) (x : ℕ) (f : Endpoint → Endpoint) (t t' : List ℕ) (d : Written) (g m s i l : List ℕ) → t' ≡ when b (alter x f) t
    → memory d t' g m s i l ≡ when b (altered x f) (memory d t g m s i l)
table-when true x f t t' d g m s i l e = rw e refl
table-when false x f t t' d g m s i l e = rw e refl

-- ---- room before a step, from room after it

module _ {m : Memory} where
  room-altered : (x : ℕ) (f : Endpoint → Endpoint) → Room (altered x f m) → Room m
  room-altered x f r = record { groups = r.groups; states = r.states; statebytes = r.statebytes; items = r.items; links = r.links; numbers = r.numbers }

  room-become : (t : Then) (x pid : ℕ) → Room (become t x pid m) → Room m
  room-become Keep x pid r = r
  room-become Begin x pid r = record { groups = r.groups; states = r.states; statebytes = r.statebytes; items = r.items; links = r.links; numbers = r.numbers }
  room-become BeginFailed x pid r = record { groups = r.groups; states = r.states; statebytes = r.statebytes; items = r.items; links = r.links; numbers = r.numbers }
  room-become Last x pid r = record { groups = r.groups; states = r.states; statebytes = r.statebytes; items = r.items; links = r.links; numbers = r.numbers }
  room-become BeginEarly x pid r = record { groups = r.groups; states = r.states; statebytes = r.statebytes; items = r.items; links = r.links; numbers = r.numbers }

  room-link-row : (k x a b : ℕ) → Room (link_row k x a b m) → Room m
  room-link-row k x a b r =
      record {
        groups = r.groups;
        states = r.states;
        statebytes = r.statebytes;
        items = r.items;
        links = omega (arith, r.links, length-sets m.links (m.written.links * link_width) (k ∷ x ∷ a ∷ b ∷ []));
        numbers = record { groups = r.numbers.groups; statebytes = r.numbers.statebytes; items = r.numbers.items };
      }

  room-group-row : (n x nth : ℕ) (start : Bool) → Room (group_row n x nth start m) → Room m
  room-group-row n x nth start r =
      record {
        groups = omega (arith, r.groups, length-sets m.groups (m.written.groups * group_width) (group_words (grouping x nth start m.written.stamp)));
        states = omega (arith, r.states, length-sets m.states m.written.states ((m.written.firsts.statebytes + m.written.statebytes) ∷ []));
        statebytes = omega (arith, r.statebytes, length-sets m.statebytes m.written.statebytes (state_bytes (next_states m.table n x start) 0 n));
        items = r.items;
        links = r.links;
        numbers = record { groups = omega (arith, r.numbers.groups); statebytes = omega (arith, r.numbers.statebytes); items = r.numbers.items };
      }

  room-item-row : (n x : ℕ) → Room (item_row n x m) → Room m
  room-item-row n x r =
      record {
        groups = r.groups;
        states = r.states;
        statebytes = r.statebytes;
        items = omega (arith, r.items, length-sets m.items m.written.items (pred (m.written.firsts.groups + m.written.groups) ∷ []));
        links = omega (arith, r.links, length-sets m.links (m.written.links * link_width) (closing m.table (m.written.firsts.items + m.written.items) 0 n));
        numbers = record { groups = r.numbers.groups; statebytes = r.numbers.statebytes; items = omega (arith, r.numbers.items) };
      }

module _ {m : Memory} where
  room-end-row : (n x : ℕ) → Room (end_row n x m) → Room m
  room-end-row n x r = room-altered x (with_phase Ended) (room-group-row n x (last_number x (alter x (with_phase Ended) m.table)) false r)

  room-link-step : (x id : ℕ) → Room (link_step x id m) → Room m
  room-link-step x id r =
      room-link-row kind.T x id 0
      (record { groups = r.groups; states = r.states; statebytes = r.statebytes; items = r.items; links = r.links; numbers = record { groups = r.numbers.groups; statebytes = r.numbers.statebytes; items = r.numbers.items } })

  room-start-group : (n x : ℕ) → Room (start_group n x m) → Room m
  room-start-group n x r =
      room-link-row kind.G x m.written.link 0
      (room-altered x more_groups
      (room-group-row n x (last_number x (alter x more_groups m.table)) true
      (room-item-row n x r)))

when-room : (b : Bool) (g : Memory → Memory) → ((m : Memory) → Room (g m) → Room m) → {m : Memory} → Room (when b g m) → Room m
when-room true g step {m} r = step m r
when-room false g step r = r

-- ---- what the callees ask

end-row-asks : (b : Bool) (n x : ℕ) (m : Memory) → Room (when b (end_row n x) m)
    → ((when b (group_written n) m.written).groups * group_width ≤ length m.groups) × (((when b (group_written n) m.written).statebytes ≤ length m.statebytes) × (((when b (group_written n) m.written).states ≤ length m.states) × Numbers m.written))
end-row-asks true n x m r = (
  omega (arith, r.groups, length-sets m.groups (m.written.groups * group_width) (group_words (grouping x (last_number x (alter x (with_phase Ended) m.table)) false m.written.stamp))),
  (
    omega (arith, r.statebytes, length-sets m.statebytes m.written.statebytes (state_bytes (next_states (alter x (with_phase Ended) m.table) n x false) 0 n)),
    (omega (arith, r.states, length-sets m.states m.written.states ((m.written.firsts.statebytes + m.written.statebytes) ∷ [])), (room-end-row {m = m} n x r).numbers),
  ),
)
end-row-asks false n x m r = (r.groups, (r.statebytes, (r.states, r.numbers)))

link-asks : (b : Bool) (x id : ℕ) (m : Memory) → Room (when b (link_step x id) m) → (when b link_written m.written).links * link_width ≤ length m.links
link-asks true x id m r = omega (arith, r.links, length-sets m.links (m.written.links * link_width) (kind.T ∷ x ∷ id ∷ 0 ∷ []))
link-asks false x id m r = r.links

item-asks : (b : Bool) (n x : ℕ) (m : Memory) → Room (when b (item_row n x) m)
    → ((when b (item_written (waiting m.table n) x) m.written).items ≤ length m.items) × (((when b (item_written (waiting m.table n) x) m.written).links * link_width ≤ length m.links) × Numbers m.written)
item-asks true n x m r = (
  omega (arith, r.items, length-sets m.items m.written.items (pred (m.written.firsts.groups + m.written.groups) ∷ [])),
  (omega (arith, r.links, length-sets m.links (m.written.links * link_width) (closing m.table (m.written.firsts.items + m.written.items) 0 n)), (room-item-row {m = m} n x r).numbers),
)
item-asks false n x m r = (r.items, (r.links, r.numbers))

-- ---- a count of endpoint x that a step keeps

record Kept (p : Endpoint → ℕ) (x v : ℕ) (m : Memory) : Type 0 where
  sized : length m.table ≡ word.table
  value : p (entry_at m.table x) ≡ v

module _ (p : Endpoint → ℕ) (x v : ℕ) (hx : x < 128) where
  kept-altered : (f : Endpoint → Endpoint) → ((e : Endpoint) → p (f e) ≡ p e) → ((e : Endpoint) → Fits e → Fits (f e)) → {m : Memory} → Kept p x v m → Kept p x v (altered x f m)
  unfolding store_at
  kept-altered f same fits {m} k =
      record {
        sized = length-sets m.table (x * word.width) (words (f (entry_at m.table x))) ∙ k.sized;
        value = ap p (load_store_same m.table x (f (entry_at m.table x)) k.sized hx (fits _ (fits-entry m.table x))) ∙ same _ ∙ k.value;
      }

  kept_row : (n nth : ℕ) (start : Bool) → x < n → n ≤ 128 → ((s : ℕ) (e : Endpoint) → p (with_state s e) ≡ p e) → {m : Memory} → Kept p x v m → Kept p x v (group_row n x nth start m)
  kept_row n nth start h few same {m} k =
      record {
        sized = length-next m.table n x start ∙ k.sized;
        value = ap p (entry_next m.table n x start x (omega (arith, k.sized)) h) ∙ same _ _ ∙ k.value;
      }

when-kept : (b : Bool) (g : Memory → Memory) {p : Endpoint → ℕ} {x v : ℕ} → ((m : Memory) → Kept p x v m → Kept p x v (g m)) → {m : Memory} → Kept p x v m → Kept p x v (when b g m)
when-kept true g step {m} k = step m k
when-kept false g step k = k

-- ---- open: from the room at its end and the memory m that it begins with

module _ (u : Update) (n x id : ℕ) (m : Memory) (few : n ≤ 128) (hx : x < n) (r : Room (opened u n x id m)) where
  pub first-asks : (m₁ : Memory) → m₁ ≡ when u.over (altered x (with_phase Ended)) m
      → ((when u.cut (group_written n) m₁.written).groups * group_width ≤ length m₁.groups) × (((when u.cut (group_written n) m₁.written).statebytes ≤ length m₁.statebytes) × (((when u.cut (group_written n) m₁.written).states ≤ length m₁.states) × Numbers m₁.written))
  unfolding opened
  first-asks m₁ e =
      end-row-asks u.cut n x m₁
      (subst (λ (a : Memory). Room (when u.cut (end_row n x) a)) (sym e)
      (when-room u.link (link_step x id) (λ a b. room-link-step x id b) (when-room u.start (start_group n x) (λ a b. room-start-group n x b) r)))

  pub second-asks : (m₂ : Memory) → m₂ ≡ when u.cut (end_row n x) (when u.over (altered x (with_phase Ended)) m)
      → (when u.link link_written m₂.written).links * link_width ≤ length m₂.links
  unfolding opened
  second-asks m₂ e =
      link-asks u.link x id m₂
      (subst (λ (a : Memory). Room (when u.link (link_step x id) a)) (sym e) (when-room u.start (start_group n x) (λ a b. room-start-group n x b) r))

  pub third-asks : (m₃ : Memory) → m₃ ≡ when u.link (link_step x id) (when u.cut (end_row n x) (when u.over (altered x (with_phase Ended)) m))
      → Room (when u.start (start_group n x) m₃)
  unfolding opened
  third-asks m₃ e = subst (λ (a : Memory). Room (when u.start (start_group n x) a)) (sym e) r

pub room-opened : (u : Update) (n x id : ℕ) (m : Memory) → Room (opened u n x id m) → Room m
unfolding opened
room-opened u n x id m r =
    when-room u.over (altered x (with_phase Ended)) (λ a b. room-altered x (with_phase Ended) b)
    (when-room u.cut (end_row n x) (λ a b. room-end-row n x b)
    (when-room u.link (link_step x id) (λ a b. room-link-step x id b)
    (when-room u.start (start_group n x) (λ a b. room-start-group n x b) r)))

module _ (u : Update) (n x id : ℕ) (m : Memory) (few : n ≤ 128) (hx : x < n) (sized : length m.table ≡ word.table) where
  ends : (p : Endpoint → ℕ) → ((e : Endpoint) → p (with_phase Ended e) ≡ p e) → ((s : ℕ) (e : Endpoint) → p (with_state s e) ≡ p e)
      → Kept p x (p (entry_at m.table x)) (when u.cut (end_row n x) (when u.over (altered x (with_phase Ended)) m))
  ends p a b =
      when-kept u.cut (end_row n x) (λ m' k. kept_row p x _ (omega arith) n _ false hx few b (over k))
      (when-kept u.over (altered x (with_phase Ended)) (λ m' k. over k) (record { sized = sized; value = refl }))
    where
      over : {m' : Memory} → Kept p x (p (entry_at m.table x)) m' → Kept p x (p (entry_at m.table x)) (altered x (with_phase Ended) m')
      over k = kept-altered p x _ (omega arith) (with_phase Ended) a (λ e f. record { address = f.address; state = f.state; first = f.first; last = f.last }) k

  pub transactions_fit : (entry_at m.table x).transactions + one u.link < 2 ^ 64 → (m₂ : Memory) → m₂ ≡ when u.cut (end_row n x) (when u.over (altered x (with_phase Ended)) m)
      → (entry_at m₂.table x).transactions + one u.link < 2 ^ 64
  transactions_fit h m₂ e =
      let k = subst (λ (a : Memory). Kept (λ (e : Endpoint). e.transactions) x (entry_at m.table x).transactions a) (sym e) (ends (λ (e : Endpoint). e.transactions) (λ e. refl) (λ s e. refl)) in
      omega (arith, k.value, h)

  pub groups_fit : (entry_at m.table x).groups + one u.start < 2 ^ 64 → (m₃ : Memory)
      → m₃ ≡ when u.link (link_step x id) (when u.cut (end_row n x) (when u.over (altered x (with_phase Ended)) m))
      → (entry_at m₃.table x).groups + one u.start < 2 ^ 64
  groups_fit h m₃ e =
      let k = subst (λ (a : Memory). Kept (λ (e : Endpoint). e.groups) x (entry_at m.table x).groups a) (sym e)
      (when-kept u.link (link_step x id) (λ m' k. linking k) (ends (λ (e : Endpoint). e.groups) (λ e. refl) (λ s e. refl))) in
      omega (arith, k.value, h)
    where
      linking : {m' : Memory} → Kept (λ (e : Endpoint). e.groups) x (entry_at m.table x).groups m' → Kept (λ (e : Endpoint). e.groups) x (entry_at m.table x).groups (link_step x id m')
      linking k = kept-altered (λ (e : Endpoint). e.groups) x _ (omega arith) more_transactions (λ e. refl) (λ e f. record { address = f.address; state = f.state; first = f.first; last = f.last }) (record { sized = k.sized; value = k.value })

-- ---- close: likewise

-- clearing and then ending, under one flag
pub end-when : (b : Bool) (n x : ℕ) (m : Memory) → when b (end_row n x) (when b (altered x cleared) m) ≡ when b (end_group n x) m
end-when true n x m = refl
end-when false n x m = refl

module _ (u : Update) (n x pid : ℕ) (m : Memory) (r : Room (closed u n x pid m)) where
  pub fourth-asks : (m₂ : Memory) → m₂ ≡ when u.end (altered x cleared) (become u.group x pid m)
      → ((when u.end (group_written n) m₂.written).groups * group_width ≤ length m₂.groups) × (((when u.end (group_written n) m₂.written).statebytes ≤ length m₂.statebytes) × (((when u.end (group_written n) m₂.written).states ≤ length m₂.states) × Numbers m₂.written))
  unfolding closed
  fourth-asks m₂ e =
      end-row-asks u.end n x m₂
      (subst (λ (a : Memory). Room (when u.end (end_row n x) a)) (sym e)
      (subst Room (sym (end-when u.end n x (become u.group x pid m)))
      (when-room u.item (item_row n x) (λ a b. room-item-row n x b) r)))

  pub fifth-asks : (m₃ : Memory) → m₃ ≡ when u.end (end_group n x) (become u.group x pid m)
      → ((when u.item (item_written (waiting m₃.table n) x) m₃.written).items ≤ length m₃.items) × (((when u.item (item_written (waiting m₃.table n) x) m₃.written).links * link_width ≤ length m₃.links) × Numbers m₃.written)
  unfolding closed
  fifth-asks m₃ e = item-asks u.item n x m₃ (subst (λ (a : Memory). Room (when u.item (item_row n x) a)) (sym e) r)

  pub room-closed : Room m
  unfolding closed
  room-closed =
      room-become u.group x pid
      (when-room u.end (end_group n x) (λ a b. room-altered x cleared (room-end-row n x b))
      (when-room u.item (item_row n x) (λ a b. room-item-row n x b) r))
