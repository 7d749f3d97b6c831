-- Inner (cited by private contracts alone): what an event's act leaves as it was and what it changes, beside what memory holds: the record's fields, the byte
-- totals and the other logs.
use Rattle.std.specs.Prelude.{ℕ, pred, ◌+◌, ◌<◌, ◌≤◌, Bool, true, false, not, List, [], ◌∷◌, ◌++◌, ◌≡◌, refl, eqb}
use Rattle.std.proofs.Common.{arith, append-nil, sym, ◌∙◌, subst, ne_eqb}
use Rattle.rows.specs.One.{one}
use Rattle.rows.specs.Sets.{opt}
use Rattle.transaction.specs.Table.{pick}
use Rattle.endpoints.specs.declared.Endpoint.{Endpoint}
use Rattle.rules.specs.Rows.{Row, ItemRow, TransactionRow, naming, T, G, written, log}
use Rattle.rules.specs.World.{World, ◌▷◌, event_ep, more_transactions, more_groups, with_keepalive}
use Rattle.rules.specs.Groups.{push_group, add_group_entry, add_item}
use Rattle.rules.specs.Transactions.{transaction_end_at, transaction_end}
use Rattle.rules.specs.Decoder.{suspend_at}
use Rattle.rules.specs.declared.Slot.{Slot}
use Rattle.rules.specs.declared.Slot.TheVariants.{Empty, Current, Suspended}
use Rattle.rules.specs.Events as rules
use Rattle.write.proofs.HoldsLaws.{close_else}
use Rattle.event.specs.Event.{adds_row, adds_group, is_current}
use Rattle.event.proofs.Rows.{settled, subgroup, group}

-- a log that no row of an act goes to: below 5, and the requests
abbrev pub Outside : ℕ → Type 0
Outside k = (j : ℕ) → 5 ≤ j → j ≤ 10 → eqb j k ≡ false

pub below : (k : ℕ) → k < 5 → Outside k
below k h j u v = ne_eqb j k (λ e. omega arith)

pub requests : Outside 11
requests j u v = ne_eqb j 11 (λ e. omega arith)

-- from w to v by an act with this packet row, with or without a transaction row and a group
pub record Acted (row group : Bool) (packet : ℕ) (w v : World) : Type 0 where
  pub count : v.count ≡ w.count
  pub devices : v.devices ≡ w.devices
  pub device_count : v.device_count ≡ w.device_count
  pub slot : v.slot ≡ w.slot
  pub transaction : v.transaction ≡ w.transaction
  pub event_state : v.event_state ≡ w.event_state
  pub bytes : v.bytes ≡ w.bytes
  pub packets : v.packets ≡ w.packets
  pub totals : (j : ℕ) → (v.endpoints j).total ≡ (w.endpoints j).total
  pub transactions : v.transactions ≡ w.transactions + one row
  pub last_item : v.last_item ≡ pick group event_ep w.last_item
  pub rows : log 5 v.journal ≡ log 5 w.journal ++ opt row (packet ∷ w.context.reason ∷ [])
  pub outside : (k : ℕ) → Outside k → log k v.journal ≡ log k w.journal

-- ls_keepalive_item after the act
abbrev pub keepalive_after : rules.Act → Bool → Bool
keepalive_after rules.nothing k = k
keepalive_after rules.single k = k
keepalive_after rules.group k = k
keepalive_after rules.subgroup k = k
keepalive_after rules.keepalive k = true

-- ---- one step

-- a row of another log
row_else : (r : Row) (js : List Row) (k : ℕ) → eqb (written r).0 k ≡ false → log k (r ∷ js) ≡ log k js
row_else r js k h = rw h (append-nil _)

none_acted : (packet : ℕ) (w : World) → Acted false false packet w w
none_acted packet w =
    record { count = refl; devices = refl; device_count = refl; slot = refl; transaction = refl; event_state = refl; bytes = refl; packets = refl; totals = λ j. refl; transactions = omega arith; last_item = refl; rows = sym (append-nil _); outside = λ k o. refl }

-- event_add_group behind event_subgroup_start
abbrev grouped : Bool → World → World
grouped start w = w ▷ (λ v. push_group event_ep (pred (v.endpoints event_ep).transactions) v) ▷ add_group_entry event_ep start ▷ add_item event_ep

subgroup_acted : (packet : ℕ) (w : World) → Acted true false packet w (subgroup packet w)
subgroup_acted packet w =
    record {
      count = refl;
      devices = refl;
      device_count = refl;
      slot = refl;
      transaction = refl;
      event_state = refl;
      bytes = refl;
      packets = refl;
      totals = λ j. same (eqb j event_ep) (w.endpoints j);
      transactions = omega arith;
      last_item = refl;
      rows = append-nil _;
      outside = λ k o. row_else (T event_ep w.transactions) (TransactionRow (naming packet w.context.reason) ∷ w.journal) k (o 10 (omega arith) (omega arith)) ∙ row_else (TransactionRow (naming packet w.context.reason)) w.journal k (o 5 (omega arith) (omega arith));
    }
  where
    same : (b : Bool) (e : Endpoint) → (pick b (more_transactions e) e).total ≡ e.total
    same true e = refl
    same false e = refl

item-log : (w : World) (k : ℕ) → eqb 10 k ≡ false → eqb 9 k ≡ false → log k (add_item event_ep w).journal ≡ log k w.journal
item-log w k h10 h9 =
    close_else k h10 w.endpoints w.items w.count (ItemRow (pred w.groups) ∷ w.journal)
    ∙ row_else (ItemRow (pred w.groups)) w.journal k h9

entry-log : (start : Bool) (w : World) (k : ℕ) → eqb 6 k ≡ false → eqb 7 k ≡ false → eqb 8 k ≡ false → log k (add_group_entry event_ep start w).journal ≡ log k w.journal
entry-log start w k h6 h7 h8 = simp (h6, h7, h8, append-nil)

module _ (start : Bool) (w : World) where
  -- the world before its start or end row
  abbrev begun : World
  begun = push_group event_ep (pred (w.endpoints event_ep).transactions) w

  grouped-log : (k : ℕ) → eqb 10 k ≡ false → eqb 6 k ≡ false → eqb 7 k ≡ false → eqb 8 k ≡ false → eqb 9 k ≡ false → log k (grouped start w).journal ≡ log k w.journal
  grouped-log k h10 h6 h7 h8 h9 =
      item-log (add_group_entry event_ep start begun) k h10 h9
      ∙ (entry-log start begun k h6 h7 h8 ∙ row_else (G event_ep (pred (w.endpoints event_ep).transactions)) w.journal k h10)

  grouped-total : (j : ℕ) → ((grouped start w).endpoints j).total ≡ (w.endpoints j).total
  grouped-total j = same (eqb j event_ep) (w.endpoints j)
    where
      same : (b : Bool) (e : Endpoint) → (pick b (more_groups e) e).total ≡ e.total
      same true e = refl
      same false e = refl

group_acted : (packet : ℕ) (start : Bool) (w : World) → Acted true true packet w (group packet start w)
group_acted packet start w =
    let a = subgroup_acted packet w in
    record {
      count = refl;
      devices = refl;
      device_count = refl;
      slot = refl;
      transaction = refl;
      event_state = refl;
      bytes = refl;
      packets = refl;
      totals = λ j. grouped-total start (subgroup packet w) j ∙ a.totals j;
      transactions = a.transactions;
      last_item = refl;
      rows = grouped-log start (subgroup packet w) 5 refl refl refl refl refl ∙ a.rows;
      outside =
          λ k o. grouped-log start (subgroup packet w) k (o 10 (omega arith) (omega arith)) (o 6 (omega arith) (omega arith)) (o 7 (omega arith) (omega arith)) (o 8 (omega arith) (omega arith)) (o 9 (omega arith) (omega arith))
          ∙ a.outside k o;
    }

-- ---- handle_event ends or suspends the transaction, so none is current then

pub ended_rests : (w : World) → is_current (transaction_end false false w).slot ≡ false
ended_rests w = by w.slot refl
  where
    by : (s : Slot) → w.slot ≡ s → is_current (transaction_end_at s false false w).slot ≡ false
    by Empty e = rw e refl
    by Current e = refl
    by Suspended e = rw e refl

pub suspended_rests : (s : Slot) → is_current (suspend_at s) ≡ false
suspended_rests Empty = refl
suspended_rests Current = refl
suspended_rests Suspended = refl

-- ---- the act

module _ (w : World) (settle : is_current w.slot ≡ false) (packet : ℕ) where
  at-subgroup : Acted true false packet w (rules.event_subgroup_start packet w)
  at-subgroup = subst (λ (v : World). Acted true false packet w (subgroup packet v)) (sym (settled w settle)) (subgroup_acted packet w)

  at-group : (start : Bool) → Acted true true packet w (rules.event_add_group packet start w)
  at-group start = subst (λ (v : World). Acted true true packet w (group packet start v)) (sym (settled w settle)) (group_acted packet start w)

  pub event_acted : (a : rules.Act) → Acted (adds_row a) (adds_group a w.keepalive) packet w (rules.event_act a packet w)
  event_acted rules.nothing = none_acted packet w
  event_acted rules.single = at-group false
  event_acted rules.group = at-group true
  event_acted rules.subgroup = at-subgroup
  event_acted rules.keepalive = by w.keepalive
    where
      marked : Acted true true packet w (rules.event_group_start packet w ▷ with_keepalive true)
      marked =
          let a = at-group true in
          record { count = a.count; devices = a.devices; device_count = a.device_count; slot = a.slot; transaction = a.transaction; event_state = a.event_state; bytes = a.bytes; packets = a.packets; totals = a.totals; transactions = a.transactions; last_item = a.last_item; rows = a.rows; outside = a.outside }

      by : (k : Bool) → Acted true (not k) packet w (pick k (rules.event_subgroup_start packet w) (rules.event_group_start packet w ▷ with_keepalive true))
      by true = at-subgroup
      by false = marked

  -- what keeps the keepalive group keeps it behind the end of no transaction too
  settled-keeps : (f : World → World) → (f w).keepalive ≡ w.keepalive → (f (transaction_end false false w)).keepalive ≡ w.keepalive
  settled-keeps f e = subst (λ (v : World). (f v).keepalive ≡ w.keepalive) (sym (settled w settle)) e

  pub event-keepalive : (a : rules.Act) → (rules.event_act a packet w).keepalive ≡ keepalive_after a w.keepalive
  event-keepalive rules.nothing = refl
  event-keepalive rules.single = settled-keeps (group packet false) refl
  event-keepalive rules.group = settled-keeps (group packet true) refl
  event-keepalive rules.subgroup = settled-keeps (subgroup packet) refl
  event-keepalive rules.keepalive = by w.keepalive refl
    where
      by : (k : Bool) → w.keepalive ≡ k → (pick k (rules.event_subgroup_start packet w) (rules.event_group_start packet w ▷ with_keepalive true)).keepalive ≡ true
      by true e = settled-keeps (subgroup packet) refl ∙ e
      by false e = refl
