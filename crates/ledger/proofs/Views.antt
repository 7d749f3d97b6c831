-- What the account goes by (specs/Account.antt, view) is left by every step but those that bring a payload, start a transaction or end one.
use mathlib.Core.Bool.{Bool, true, false}
use mathlib.Core.List.{List, ◌∷◌, ◌++◌}
use mathlib.Core.Path.{◌≡◌, refl, ap, ◌∙◌}
use Prim.Native.Nat.{ℕ, zero, suc, pred}
use native.Mathlib.Omega.{arith}
use borrow.Author.Tests.{eqb-true, eqb-false, ltb-true, ltb-false}
use lib.Dec.{eqb, ltb}
use Rattle.transaction.specs.Payload.{start_pid}
use Rattle.transaction.specs.Table.{pick}
use Rattle.std.specs.Prelude.{Option, Some, None as Absent}
use Rattle.endpoints.specs.Table.{with_phase, new_endpoint}
use Rattle.endpoints.specs.declared.Endpoint.{Endpoint}
use Rattle.endpoints.specs.declared.Phase.{Phase}
use Rattle.endpoints.specs.declared.Phase.TheVariants.{None, Early, Active, Ended}
use Rattle.group.specs.declared.GroupStatus.{GroupStatus}
use Rattle.rules.specs.Rows.{Row, ItemRow}
use Rattle.rules.specs.World.{World, phase, change, more_transactions, more_groups, with_last, cleared}
use Rattle.rules.specs.Endpoints.{device_for, add_device, push_endpoint, add_endpoint_on, found, packet_endpoint_at, packet_endpoint}
use Rattle.rules.specs.Groups.{close_row, close_rows, add_item, add_group_entry, link, push_group, over, activated, group_step, group_early_start, group_early_append}
use Rattle.rules.specs.Decoder.{over_row, over_rows, end_all_active}
use Rattle.update.specs.Update.{become, decide_update, decide_early_start, decide_early_append}
use Rattle.update.specs.declared.Then.{Then}
use Rattle.update.specs.declared.Then.TheVariants.{Keep, Begin, BeginFailed, Last, BeginEarly}
use Rattle.update.proofs.Decided.{update-is, early-start-is, early-append-is}
use Rattle.plan.proofs.Frame.{Keeps, Parts, act-keeps, pick-keeps, rest_of, act-rest}
use Rattle.ledger.proofs.Account.{tally, blank, data_rows, View, view}

-- ---- rows that are no D rows

module _ (e : ℕ) (js : List Row) where
  close_data : (p : Phase) (x i : ℕ) (rows : List Row) → data_rows e (close_row p x i rows ++ js) ≡ data_rows e (rows ++ js)
  close_data None x i rows = refl
  close_data Early x i rows = refl
  close_data Active x i rows = refl
  close_data Ended x i rows = refl

  closes_data : (n i : ℕ) (f : ℕ → Endpoint) (rows : List Row) → data_rows e (close_rows n i f rows ++ js) ≡ data_rows e (rows ++ js)
  closes_data zero i f rows = refl
  closes_data (suc n) i f rows = close_data (f n).phase n i (close_rows n i f rows) ∙ closes_data n i f rows

  over_data : (p : Phase) (x k : ℕ) (rows : List Row) → data_rows e (over_row p x k rows ++ js) ≡ data_rows e (rows ++ js)
  over_data None x k rows = refl
  over_data Early x k rows = refl
  over_data Active x k rows = refl
  over_data Ended x k rows = refl

  overs_data : (n : ℕ) (f : ℕ → Endpoint) (rows : List Row) → data_rows e (over_rows n f rows ++ js) ≡ data_rows e (rows ++ js)
  overs_data zero f rows = refl
  overs_data (suc n) f rows = over_data (f n).phase n _ (over_rows n f rows) ∙ overs_data n f rows

module _ (js : List Row) where
  abbrev pub seen : World → View
  seen = view js

  abbrev pub Kept : (World → World) → Type 0
  Kept f = Keeps seen f

  -- ---- one endpoint changed

  pub change-seen : (x : ℕ) (f : Endpoint → Endpoint) → ((a : Endpoint) → tally (f a) ≡ tally a) → Kept (change x f)
  change-seen x f h w = λ i. record { held = (seen w).held; entry = λ e. pick (ltb e w.count) (pick-keeps tally (eqb e x) f (w.endpoints e) (h (w.endpoints e)) i) blank; rows = (seen w).rows }

  pub link-seen : (x : ℕ) → Kept (link x)
  link-seen x w = change-seen x more_transactions (λ a. refl) w

  -- ---- an update, part by part

  pub item-seen : (x : ℕ) → Kept (add_item x)
  item-seen x w = λ i. record { held = (seen w).held; entry = (seen w).entry; rows = λ e. closes_data e js w.count w.items w.endpoints (ItemRow (pred w.groups) ∷ w.journal) i }

  over-seen : (x : ℕ) → Kept (over x)
  over-seen x w = change-seen x (with_phase Ended) (λ a. refl) w

  become-seen : (g : Then) (x : ℕ) → Kept (become g x)
  become-seen Keep x w = refl
  become-seen Begin x w = change-seen x (activated true (start_pid w.transaction.style)) (λ a. refl) w
  become-seen BeginFailed x w = change-seen x (activated false (start_pid w.transaction.style)) (λ a. refl) w
  become-seen Last x w = change-seen x (with_last (start_pid w.transaction.style)) (λ a. refl) w
  become-seen BeginEarly x w = change-seen x (with_phase Early) (λ a. refl) w

  parts : (x : ℕ) → Parts Kept x
  parts x =
      record {
        over = over-seen x;
        cut = λ w. over-seen x w;
        link = link-seen x;
        start = λ w. item-seen x (add_group_entry x true (push_group x w.transaction.link w)) ∙ change-seen x more_groups (λ a. refl) w;
        group = λ g. become-seen g x;
        end = λ w. over-seen x (change x cleared w) ∙ change-seen x cleared (λ a. refl) w;
        item = item-seen x;
      }

  pub group-seen : (s : GroupStatus) (x : ℕ) → Kept (group_step s x)
  group-seen s x w = ap seen (update-is s x w) ∙ act-keeps seen x (parts x) (decide_update s (phase x w) w.transaction.linked (eqb w.last_item x)) w

  pub start_seen : (pid x : ℕ) → Kept (group_early_start pid x)
  start_seen pid x w = ap seen (early-start-is pid x w) ∙ act-keeps seen x (parts x) (decide_early_start pid (phase x w) w.transaction.linked) w

  pub append-seen : Kept group_early_append
  append-seen w = ap seen (early-append-is w) ∙ act-keeps seen w.transaction.endpoint (parts w.transaction.endpoint) (decide_early_append w.transaction (w.endpoints w.transaction.endpoint)) w

  -- ---- every active group ended

  pub active-seen : Kept end_all_active
  active-seen w = λ i. record { held = (seen w).held; entry = (seen w).entry; rows = λ e. overs_data e js w.count w.endpoints w.journal i }

  -- ---- an endpoint more: nothing was counted there, and nothing waits

  extended : (f : ℕ → Endpoint) (c d a e : ℕ) → pick (ltb e (suc c)) (tally (pick (eqb e c) (new_endpoint d a) (f e))) blank ≡ pick (ltb e c) (tally (f e)) blank
  extended f c d a e = by (eqb e c) (ltb e (suc c)) (ltb e c) refl refl refl
    where
      by : (z n o : Bool) → eqb e c ≡ z → ltb e (suc c) ≡ n → ltb e c ≡ o → pick n (tally (pick z (new_endpoint d a) (f e))) blank ≡ pick o (tally (f e)) blank
      by true n true p q r = absurd (let s = eqb-true e c p in let t = ltb-true e c r in omega arith)
      by true true false p q r = refl
      by true false false p q r = refl
      by false true true p q r = refl
      by false false false p q r = refl
      by false true false p q r = absurd (eqb-false e c p (let s = ltb-true e (suc c) q in let t = ltb-false e c r in omega arith))
      by false false true p q r = absurd (let s = ltb-false e (suc c) q in let t = ltb-true e c r in omega arith)

  endpoint-seen : (d a : ℕ) → Kept (push_endpoint d a)
  endpoint-seen d a w = λ i. record { held = (seen w).held; entry = λ e. extended w.endpoints w.count d a e i; rows = (seen w).rows }

  added-seen : (g : Option ℕ) (d a : ℕ) → Kept (add_endpoint_on g d a)
  added-seen (Some i) d a w = endpoint-seen i a w
  added-seen Absent d a w = endpoint-seen w.device_count a (add_device d w)

  placed-seen : (g : Option ℕ) (pid : ℕ) (p : List ℕ) → Kept (packet_endpoint_at g pid p)
  placed-seen (Some i) pid p w = refl
  placed-seen Absent pid p w = added-seen (device_for _ w) _ _ w

  pub place-seen : (pid : ℕ) (p : List ℕ) → Kept (packet_endpoint pid p)
  place-seen pid p w = placed-seen (found pid p w) pid p w

-- ---- the rest of the world

pub group-rest : (s : GroupStatus) (x : ℕ) (w : World) → rest_of (group_step s x w) ≡ rest_of w
group-rest s x w = ap rest_of (update-is s x w) ∙ act-rest (decide_update s (phase x w) w.transaction.linked (eqb w.last_item x)) x w

pub start-rest : (pid x : ℕ) (w : World) → rest_of (group_early_start pid x w) ≡ rest_of w
start-rest pid x w = ap rest_of (early-start-is pid x w) ∙ act-rest (decide_early_start pid (phase x w) w.transaction.linked) x w
