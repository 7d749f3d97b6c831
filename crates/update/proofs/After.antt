-- What an update leaves, entry by entry, is what `act` leaves.
use Rattle.std.proofs.Common.{◌≡◌, ℕ, Bool, true, false, eqb, refl, ap, ◌∙◌, eq-eqb, ne_eqb}
use Rattle.transaction.specs.Payload.{start_pid}
use Rattle.transaction.specs.Table.{pick}
use Rattle.transaction.specs.declared.Style.{Style}
use Rattle.transaction.specs.declared.Transaction.{Transaction}
use Rattle.endpoints.specs.States.{next_state}
use Rattle.endpoints.specs.Table.{with_phase, with_state}
use Rattle.endpoints.specs.declared.Endpoint.{Endpoint}
use Rattle.endpoints.specs.declared.Phase.{Phase}
use Rattle.endpoints.specs.declared.Phase.TheVariants.{None, Early, Active, Ended}
use Rattle.group.specs.declared.GroupStatus.{GroupStatus}
use Rattle.group.specs.declared.GroupStatus.TheVariants.{Single, New, Continue, Retry, Done, Invalid}
use Rattle.rules.specs.World.{World, ◌▷◌, event_ep, change, more_transactions, more_groups, with_last, cleared, with_link}
use Rattle.rules.specs.Groups as rules
use Rattle.update.specs.Update.{when, end_row, end_group, start_group, become, act, decide_update, decide_early_start}
use Rattle.update.specs.Entry.{over_entry, end_entry, ended_entry, close_entry, start_entry, become_entry, entry_after, row_entry, start_other, other_after, transaction_after, item_after}
use Rattle.update.specs.declared.Update.{Update}
use Rattle.update.specs.declared.Then.{Then}
use Rattle.update.specs.declared.Then.TheVariants.{Keep, Begin, BeginFailed, Last, BeginEarly}

here : {b : Bool} (a c : Endpoint) → b ≡ true → pick b a c ≡ a
here a c h = rw h

there : {b : Bool} (a c : Endpoint) → b ≡ false → pick b a c ≡ c
there a c h = rw h

-- ---- the endpoint itself

module _ (x : ℕ) where
  changed : (f : Endpoint → Endpoint) (w : World) → (change x f w).endpoints x ≡ f (w.endpoints x)
  changed f w = here (f (w.endpoints x)) (w.endpoints x) (eq-eqb x x refl)

  -- its state in a row of its own
  entry_row : (start : Bool) (w : World) → (rules.add_group_entry x start w).endpoints x ≡ with_state (next_state true (eqb x event_ep) start 0) (w.endpoints x)
  entry_row start w = ap (λ (b : Bool). with_state (next_state b (eqb x event_ep) start (w.endpoints x).state) (w.endpoints x)) (eq-eqb x x refl)

  end-own : (w : World) → (end_row x w).endpoints x ≡ end_entry (w.endpoints x)
  end-own w = entry_row false (rules.over x w) ∙ ap (λ (a : Endpoint). with_state 3 a) (changed (with_phase Ended) w)

  over-own : (b : Bool) (w : World) → (when b (rules.over x) w).endpoints x ≡ when b over_entry (w.endpoints x)
  over-own true w = changed (with_phase Ended) w
  over-own false w = refl

  cut-own : (b : Bool) (w : World) → (when b (end_row x) w).endpoints x ≡ when b end_entry (w.endpoints x)
  cut-own true w = end-own w
  cut-own false w = refl

  link-own : (b : Bool) (w : World) → (when b (rules.link x) w).endpoints x ≡ when b more_transactions (w.endpoints x)
  link-own true w = changed more_transactions w
  link-own false w = refl

  start-own : (b : Bool) (w : World) → (when b (start_group x) w).endpoints x ≡ when b start_entry (w.endpoints x)
  start-own true w = ap close_entry (entry_row true (rules.push_group x w.transaction.link w) ∙ ap (λ (a : Endpoint). with_state 1 a) (changed more_groups w))
  start-own false w = refl

  become-own : (g : Then) (w : World) → (become g x w).endpoints x ≡ become_entry g (start_pid w.transaction.style) (w.endpoints x)
  become-own Keep w = refl
  become-own Begin w = changed (rules.activated true (start_pid w.transaction.style)) w
  become-own BeginFailed w = changed (rules.activated false (start_pid w.transaction.style)) w
  become-own Last w = changed (with_last (start_pid w.transaction.style)) w
  become-own BeginEarly w = changed (with_phase Early) w

  ended-own : (b : Bool) (w : World) → (when b (end_group x) w).endpoints x ≡ when b ended_entry (w.endpoints x)
  ended-own true w = end-own (change x cleared w) ∙ ap end_entry (changed cleared w)
  ended-own false w = refl

  item-own : (b : Bool) (w : World) → (when b (rules.add_item x) w).endpoints x ≡ when b close_entry (w.endpoints x)
  item-own true w = refl
  item-own false w = refl

-- ---- what a part of an update, done or not, keeps

module _ {A : Type 0} (field : World → A) where
  keeps : (b : Bool) (f : World → World) (w : World) → field (f w) ≡ field w → field (when b f w) ≡ field w
  keeps true f w h = h
  keeps false f w h = refl

abbrev style : World → Style
style w = w.transaction.style

abbrev transaction : World → Transaction
transaction w = w.transaction

abbrev last_item : World → ℕ
last_item w = w.last_item

transactions-kept : (b : Bool) (f : Endpoint → Endpoint) (e : Endpoint) → (f e).transactions ≡ e.transactions → (when b f e).transactions ≡ e.transactions
transactions-kept true f e h = h
transactions-kept false f e h = refl

become-transaction : (g : Then) (x : ℕ) (w : World) → (become g x w).transaction ≡ w.transaction
become-transaction Keep x w = refl
become-transaction Begin x w = refl
become-transaction BeginFailed x w = refl
become-transaction Last x w = refl
become-transaction BeginEarly x w = refl

become-item : (g : Then) (x : ℕ) (w : World) → (become g x w).last_item ≡ w.last_item
become-item Keep x w = refl
become-item Begin x w = refl
become-item BeginFailed x w = refl
become-item Last x w = refl
become-item BeginEarly x w = refl

-- ---- the theorems

module _ (u : Update) (x : ℕ) (w : World) where
  -- the worlds on the way
  abbrev overed : World
  overed = when u.over (rules.over x) w

  abbrev cutted : World
  cutted = when u.cut (end_row x) overed

  abbrev linked : World
  linked = when u.link (rules.link x) cutted

  abbrev started : World
  started = when u.start (start_group x) linked

  abbrev become' : World
  become' = become u.group x started

  abbrev done : World
  done = when u.end (end_group x) become'

  cutted-own : cutted.endpoints x ≡ when u.cut end_entry (when u.over over_entry (w.endpoints x))
  cutted-own = cut-own x u.cut overed ∙ ap (when u.cut end_entry) (over-own x u.over w)

  started-style : style started ≡ style w
  started-style = keeps style u.start (start_group x) linked refl ∙ (keeps style u.link (rules.link x) cutted refl ∙ (keeps style u.cut (end_row x) overed refl ∙ keeps style u.over (rules.over x) w refl))

  started-own : started.endpoints x ≡ when u.start start_entry (when u.link more_transactions (when u.cut end_entry (when u.over over_entry (w.endpoints x))))
  started-own = start-own x u.start linked ∙ ap (when u.start start_entry) (link-own x u.link cutted ∙ ap (when u.link more_transactions) cutted-own)

  -- the endpoint's own entry
  pub act-entry : (act u x w).endpoints x ≡ entry_after u (start_pid w.transaction.style) (w.endpoints x)
  unfolding entry_after
  act-entry =
      item-own x u.item done
      ∙ ap (when u.item close_entry)
      (ended-own x u.end become'
      ∙ ap (when u.end ended_entry)
      (become-own x u.group started
      ∙ (ap (λ (s : Style). become_entry u.group (start_pid s) (started.endpoints x)) started-style ∙ ap (become_entry u.group (start_pid w.transaction.style)) started-own)))

  -- the transaction: linked, where it is, under the number of T rows that its endpoint had
  pub act-transaction : (act u x w).transaction ≡ transaction_after u (w.endpoints x).transactions w.transaction
  act-transaction =
      keeps transaction u.item (rules.add_item x) done refl
      ∙ (keeps transaction u.end (end_group x) become' refl
      ∙ (become-transaction u.group x started
      ∙ (keeps transaction u.start (start_group x) linked refl
      ∙ (by u.link ∙ ap (transaction_after u (w.endpoints x).transactions) (keeps transaction u.cut (end_row x) overed refl ∙ keeps transaction u.over (rules.over x) w refl)))))
    where
      number : (cutted.endpoints x).transactions ≡ (w.endpoints x).transactions
      number = ap (λ (e : Endpoint). e.transactions) cutted-own ∙ (transactions-kept u.cut end_entry (when u.over over_entry (w.endpoints x)) refl ∙ transactions-kept u.over over_entry (w.endpoints x) refl)

      by : (b : Bool) → (when b (rules.link x) cutted).transaction ≡ when b (with_link (w.endpoints x).transactions) cutted.transaction
      by true = ap (λ (n : ℕ). with_link n cutted.transaction) number
      by false = refl

  -- the endpoint of the last item
  pub act-item : (act u x w).last_item ≡ item_after u x w.last_item
  act-item =
      set u.item done
      ∙ ap (when u.item (λ y. x))
      (keeps last_item u.end (end_group x) become' refl
      ∙ (become-item u.group x started
      ∙ (first u.start linked
      ∙ ap (when u.start (λ y. x)) (keeps last_item u.link (rules.link x) cutted refl ∙ (keeps last_item u.cut (end_row x) overed refl ∙ keeps last_item u.over (rules.over x) w refl)))))
    where
      set : (b : Bool) (v : World) → (when b (rules.add_item x) v).last_item ≡ when b (λ y. x) v.last_item
      set true v = refl
      set false v = refl

      first : (b : Bool) (v : World) → (when b (start_group x) v).last_item ≡ when b (λ y. x) v.last_item
      first true v = refl
      first false v = refl

-- ---- another endpoint

module _ (x j : ℕ) (ne : j ≡ x → ⊥) where
  stays : (f : Endpoint → Endpoint) (w : World) → (change x f w).endpoints j ≡ w.endpoints j
  stays f w = there (f (w.endpoints j)) (w.endpoints j) (ne_eqb j x ne)

  row_other : (start : Bool) (w : World) → (rules.add_group_entry x start w).endpoints j ≡ row_entry x start (w.endpoints j)
  row_other start w = ap (λ (b : Bool). with_state (next_state b (eqb x event_ep) start (w.endpoints j).state) (w.endpoints j)) (ne_eqb j x ne)

  over-other : (b : Bool) (w : World) → (when b (rules.over x) w).endpoints j ≡ w.endpoints j
  over-other true w = stays (with_phase Ended) w
  over-other false w = refl

  cut-other : (b : Bool) (w : World) → (when b (end_row x) w).endpoints j ≡ when b (row_entry x false) (w.endpoints j)
  cut-other true w = row_other false (rules.over x w) ∙ ap (row_entry x false) (stays (with_phase Ended) w)
  cut-other false w = refl

  link-other : (b : Bool) (w : World) → (when b (rules.link x) w).endpoints j ≡ w.endpoints j
  link-other true w = stays more_transactions w
  link-other false w = refl

  start-other : (b : Bool) (w : World) → (when b (start_group x) w).endpoints j ≡ when b (start_other x) (w.endpoints j)
  start-other true w = ap close_entry (row_other true (rules.push_group x w.transaction.link w) ∙ ap (row_entry x true) (stays more_groups w))
  start-other false w = refl

  become-other : (g : Then) (w : World) → (become g x w).endpoints j ≡ w.endpoints j
  become-other Keep w = refl
  become-other Begin w = stays (rules.activated true (start_pid w.transaction.style)) w
  become-other BeginFailed w = stays (rules.activated false (start_pid w.transaction.style)) w
  become-other Last w = stays (with_last (start_pid w.transaction.style)) w
  become-other BeginEarly w = stays (with_phase Early) w

  ended-other : (b : Bool) (w : World) → (when b (end_group x) w).endpoints j ≡ when b (row_entry x false) (w.endpoints j)
  ended-other true w = row_other false (rules.over x (change x cleared w)) ∙ ap (row_entry x false) (stays (with_phase Ended) (change x cleared w) ∙ stays cleared w)
  ended-other false w = refl

  item-other : (b : Bool) (w : World) → (when b (rules.add_item x) w).endpoints j ≡ when b close_entry (w.endpoints j)
  item-other true w = refl
  item-other false w = refl

  pub act-other : (u : Update) (w : World) → (act u x w).endpoints j ≡ other_after u x (w.endpoints j)
  unfolding other_after
  act-other u w =
      item-other u.item (done u x w)
      ∙ ap (when u.item close_entry)
      (ended-other u.end (become' u x w)
      ∙ ap (when u.end (row_entry x false))
      (become-other u.group (started u x w)
      ∙ (start-other u.start (linked u x w)
      ∙ ap (when u.start (start_other x))
      (link-other u.link (cutted u x w) ∙ (cut-other u.cut (overed u x w) ∙ ap (when u.cut (row_entry x false)) (over-other u.over w))))))

-- ---- whether an ended group waits or was closed changes no decision

pub update-closed : (s : GroupStatus) (p : Phase) (l same : Bool) → decide_update s (rules.close_phase p) l same ≡ decide_update s p l same
update-closed Single None l same = refl
update-closed Single Early l same = refl
update-closed Single Active l same = refl
update-closed Single Ended l same = refl
update-closed New None l same = refl
update-closed New Early l same = refl
update-closed New Active l same = refl
update-closed New Ended l same = refl
update-closed Continue None l same = refl
update-closed Continue Early l same = refl
update-closed Continue Active l same = refl
update-closed Continue Ended l same = refl
update-closed Retry None l same = refl
update-closed Retry Early l same = refl
update-closed Retry Active l same = refl
update-closed Retry Ended l same = refl
update-closed Done None l same = refl
update-closed Done Early l same = refl
update-closed Done Active l same = refl
update-closed Done Ended l same = refl
update-closed Invalid None l same = refl
update-closed Invalid Early l same = refl
update-closed Invalid Active l same = refl
update-closed Invalid Ended l same = refl

pub early-start-closed : (pid : ℕ) (p : Phase) (l : Bool) → decide_early_start pid (rules.close_phase p) l ≡ decide_early_start pid p l
early-start-closed pid None l = refl
early-start-closed pid Early l = refl
early-start-closed pid Active l = refl
early-start-closed pid Ended l = refl
