-- Each function of Groups (rules) keeps what stands while a call is under way.
use Prim.Native.Nat.{ℕ, zero, suc, pred, ◌<◌, ◌≤◌}
use native.Mathlib.Nat.{le_refl}
use native.Mathlib.Omega.{arith}
use mathlib.Core.Bool.{Bool, true, false}
use mathlib.Core.List.{List, ◌∷◌}
use mathlib.Core.Path.{◌≡◌, refl, ap}
use borrow.Author.Tests.{eq-eqb}
use lib.Dec.{eqb}
use Rattle.transaction.specs.Table.{pick}
use Rattle.transaction.specs.Payload.{start_pid}
use Rattle.endpoints.specs.Table.{with_phase}
use Rattle.endpoints.specs.declared.Endpoint.{Endpoint}
use Rattle.endpoints.specs.declared.Phase.{Phase}
use Rattle.endpoints.specs.declared.Phase.TheVariants.{None, Early, Active, Ended}
use Rattle.group.specs.declared.GroupStatus.{GroupStatus}
use Rattle.group.specs.declared.GroupStatus.TheVariants.{Single, New, Continue, Retry, Done, Invalid}
use Rattle.rules.specs.Rows.{Row, ItemRow}
use Rattle.rules.specs.World.{World, phase, change, cleared, with_last, more_transactions, more_groups}
use Rattle.rules.specs.Groups.{close_phase, close_row, close_rows, add_item, add_group_entry, link, link_once, push_group, over, end_active, add_group, group_end_at, group_end, activated, activate, group_start_at, group_start, group_append_at, group_append, group_step, end_early, starts_early, group_early_start}
use Rattle.record.specs.Formed.{standing}
use Rattle.sound.specs.Fit.{link_rows}
use Rattle.sound.proofs.FitsTame.{StandsIn, spread, one-changed, alike, phased, more-transactions, more-groups, then, longer, carries, itemed}

-- ---- add_item, add_group_entry

close_le : (p : Phase) (x i : ℕ) (js : List Row) → link_rows js ≤ link_rows (close_row p x i js)
close_le None x i js = le_refl _
close_le Early x i js = le_refl _
close_le Active x i js = le_refl _
close_le Ended x i js = omega arith

closes_le : (c i : ℕ) (f : ℕ → Endpoint) (js : List Row) → link_rows js ≤ link_rows (close_rows c i f js)
closes_le zero i f js = le_refl _
closes_le (suc c) i f js = omega (arith, close_le (f c).phase c i (close_rows c i f js), closes_le c i f js)

close_stood : (p : Phase) → standing (close_phase p) ≡ true → standing p ≡ true
close_stood None h = h
close_stood Early h = h
close_stood Active h = h
close_stood Ended h = refl

close_rests : (p : Phase) → standing p ≡ false → standing (close_phase p) ≡ false
close_rests None h = h
close_rests Early h = h
close_rests Active h = h
close_rests Ended h = refl

-- the T row's number, and the endpoint's T rows after it
stepped : (f : ℕ → Endpoint) (x y : ℕ) → x ≡ y → (f y).transactions < (pick (eqb x y) (more_transactions (f x)) (f x)).transactions
stepped f x y q = rw (q, eq-eqb y y refl) (omega arith)

more-begun : (b : Bool) (a : Endpoint) → b ≡ true → 0 < (pick b (more_groups a) a).groups
more-begun b a h = rw h (omega arith)

module _ (n : ℕ) (b : Bool) (y : ℕ) where
  pub item_stands : (x : ℕ) (w : World) → x < w.count → StandsIn n b y w → StandsIn n b y (add_item x w)
  item_stands x w h s =
      let m = closes_le w.count w.items w.endpoints (ItemRow (pred w.groups) ∷ w.journal) in
      spread (λ j. phased (w.endpoints j) (close_phase (w.endpoints j).phase) (λ z. close_rests (w.endpoints j).phase) (λ e q. e.group (close_stood (w.endpoints j).phase q))) (longer (omega (arith, m)) (itemed h s))

  pub entry_stands : (x : ℕ) (start : Bool) (w : World) → StandsIn n b y w → StandsIn n b y (add_group_entry x start w)
  entry_stands x start w s =
      longer (omega arith) (spread (λ j. alike (w.endpoints j) _ refl refl refl refl refl (λ e. e.pendinglink)) s)

  -- a G row
  pub group_stands : (x i : ℕ) (w : World) → StandsIn n b y w → StandsIn n b y (push_group x i w)
  group_stands x i w s = longer (omega arith) (spread (one-changed x more_groups w.endpoints (omega arith) (more-groups (w.endpoints x))) s)

  -- the transaction's T row
  pub link_stands : (w : World) → ¬ (y ≡ 0) → StandsIn n b y w → StandsIn n b y (link y w)
  link_stands w d s =
      let v = spread (one-changed y more_transactions w.endpoints (omega arith) (more-transactions (w.endpoints y))) s in
      carries (λ q. record { endpoint = (s.held q).endpoint; id = (s.held q).id; link = λ z. (omega (arith, s.target), stepped w.endpoints w.transaction.endpoint y s.target) }) s.target (longer (omega arith) v)

  pub once_stands : (w : World) → ¬ (y ≡ 0) → StandsIn n b y w → StandsIn n b y (link_once y w)
  once_stands w d s = by w.transaction.linked
    where
      by : (q : Bool) → StandsIn n b y (pick q w (link y w))
      by true = s
      by false = link_stands w d s

-- on the endpoint of the transaction, which is not the event endpoint
module _ (n y : ℕ) (real : ¬ (y ≡ 0)) where
  abbrev In : World → Type 0
  In w = StandsIn n true y w

  inside : (w : World) → In w → y < w.count
  inside w s = omega (arith, (s.held refl).endpoint, s.target)

  -- ---- the end of an early or an active group

  over_stands : (w : World) → standing (phase y w) ≡ true → In w → In (over y w)
  over_stands w h s =
      longer (omega arith) (spread (one-changed y (with_phase Ended) w.endpoints (le_refl _) (phased (w.endpoints y) Ended (λ z. absurd (real z)) (λ e q. e.group h))) s)

  end_active_stands : (p : Phase) (w : World) → phase y w ≡ p → In w → In (end_active p y w)
  end_active_stands None w q s = s
  end_active_stands Early w q s = s
  end_active_stands Active w q s = entry_stands n true y y false (over y w) (over_stands w (ap standing q) s)
  end_active_stands Ended w q s = s

  end_early_stands : (p : Phase) (w : World) → phase y w ≡ p → In w → In (end_early p y w)
  end_early_stands None w q s = s
  end_early_stands Early w q s = over_stands w (ap standing q) s
  end_early_stands Active w q s = s
  end_early_stands Ended w q s = s

  -- ---- add_group, and the phase of the new group

  add_group_stands : (w : World) → In w → In (add_group y w)
  add_group_stands w s =
      item_stands n true y y (add_group_entry y true v) (inside v t) (entry_stands n true y y true v t)
    where
      u : World
      u = link_once y (end_active (phase y w) y w)

      v : World
      v = push_group y u.transaction.link u

      t : In v
      t = group_stands n true y y u.transaction.link u (once_stands n true y (end_active (phase y w) y w) real (end_active_stands (phase y w) w refl s))

  begun_stands : (p : Phase) (w : World) → 0 < (w.endpoints y).groups → In w → In (change y (with_phase p) w)
  begun_stands p w h s = spread (one-changed y (with_phase p) w.endpoints (le_refl _) (phased (w.endpoints y) p (λ z. absurd (real z)) (λ e q. h))) s

  active_stands : (done : Bool) (w : World) → 0 < (w.endpoints y).groups → In w → In (activate done y w)
  active_stands done w h s =
      spread (one-changed y (activated done (start_pid w.transaction.style)) w.endpoints (le_refl _) (then (phased (w.endpoints y) Active (λ z. absurd (real z)) (λ e q. h)) (alike (with_phase Active (w.endpoints y)) _ refl refl refl refl refl (λ e. e.pendinglink)))) s

  -- ---- group_start, group_append, group_end, group_update

  new_stands : (done : Bool) (w : World) → In w → In (activate done y (add_group y w))
  new_stands done w s = active_stands done (add_group y w) (more-begun (eqb y y) _ (eq-eqb y y refl)) (add_group_stands w s)

  group_start_at_stands : (p : Phase) (done : Bool) (w : World) → phase y w ≡ p → In w → In (group_start_at p done y w)
  group_start_at_stands None done w q s = new_stands done w s
  group_start_at_stands Early done w q s = active_stands done w ((s.entries y (inside w s)).group (ap standing q)) s
  group_start_at_stands Active done w q s = new_stands done w s
  group_start_at_stands Ended done w q s = new_stands done w s

  group_start_stands : (done : Bool) (w : World) → In w → In (group_start done y w)
  group_start_stands done w s = group_start_at_stands (phase y w) done w refl s

  last_stands : (done : Bool) (w : World) → In w → In (pick done (change y (with_last (start_pid w.transaction.style)) w) w)
  last_stands true w s = spread (one-changed y (with_last (start_pid w.transaction.style)) w.endpoints (le_refl _) (alike (w.endpoints y) _ refl refl refl refl refl (λ e. e.pendinglink))) s
  last_stands false w s = s

  group_append_at_stands : (p : Phase) (done : Bool) (w : World) → In w → In (group_append_at p done y w)
  group_append_at_stands None done w s = group_start_stands done w s
  group_append_at_stands Early done w s = group_start_stands done w s
  group_append_at_stands Active done w s = last_stands done (link_once y w) (once_stands n true y w real s)
  group_append_at_stands Ended done w s = group_start_stands done w s

  group_append_stands : (done : Bool) (w : World) → In w → In (group_append done y w)
  group_append_stands done w s = group_append_at_stands (phase y w) done w s

  may_add : (q : Bool) (w : World) → In w → In (pick q w (add_item y w))
  may_add true w s = s
  may_add false w s = item_stands n true y y w (inside w s) s

  group_end_at_stands : (p : Phase) (w : World) → standing (phase y w) ≡ standing p → In w → In (group_end_at p y w)
  group_end_at_stands None w q s = s
  group_end_at_stands Early w q s = s
  group_end_at_stands Active w q s = may_add (eqb w.last_item y) (add_group_entry y false (over y w)) (entry_stands n true y y false (over y w) (over_stands w q s))
  group_end_at_stands Ended w q s = s

  cleared-phase : (q : Bool) (a : Endpoint) → (pick q (cleared a) a).phase ≡ a.phase
  cleared-phase true a = refl
  cleared-phase false a = refl

  group_end_stands : (w : World) → In w → In (group_end y w)
  group_end_stands w s =
      group_end_at_stands (phase y w) (change y cleared w) (ap standing (cleared-phase (eqb y y) (w.endpoints y))) (spread (one-changed y cleared w.endpoints (le_refl _) (alike (w.endpoints y) _ refl refl refl refl refl (λ e. e.pendinglink))) s)

  pub group_step_stands : (g : GroupStatus) (w : World) → In w → In (group_step g y w)
  group_step_stands Single w s = group_end_stands (group_start true y w) (group_start_stands true w s)
  group_step_stands New w s = group_start_stands true w s
  group_step_stands Continue w s = group_append_stands true w s
  group_step_stands Retry w s = group_append_stands false w s
  group_step_stands Done w s = group_end_stands (group_append true y w) (group_append_stands true w s)
  group_step_stands Invalid w s = group_end_stands (group_start false y w) (group_start_stands false w s)

  -- ---- group_early_start

  pub group_early_start_stands : (pid : ℕ) (w : World) → In w → In (group_early_start pid y w)
  unfolding group_early_start
  group_early_start_stands pid w s = by (starts_early pid (phase y w))
    where
      u : World
      u = end_early (phase y w) y w

      by : (q : Bool) → In (pick q (change y (with_phase Early) (add_group y u)) w)
      by true = begun_stands Early (add_group y u) (more-begun (eqb y y) _ (eq-eqb y y refl)) (add_group_stands u (end_early_stands (phase y w) w refl s))
      by false = s
