-- What the parts of a step leave as it was: the rest of the world, the fields of the entries, the other logs; and that they do not look at the slot.
use mathlib.Core.Path.{◌≡◌, refl, sym, ap, subst, ◌∙◌}
use mathlib.Core.Bool.{Bool, true, false}
use mathlib.Core.List.{List, [], ◌∷◌, ◌++◌, append-nil}
use Prim.Native.Nat.{ℕ, zero, suc, pred, ◌+◌, ◌/◌, ◌<◌}
use native.Mathlib.Omega.{arith}
use borrow.Author.Tests.{eqb-true, eqb-false, ne_eqb}
use lib.Dec.{eqb}
use Rattle.rows.specs.One.{one}
use Rattle.transaction.specs.Payload.{start_pid}
use Rattle.transaction.specs.Table.{pick}
use Rattle.transaction.specs.declared.Style.{Style}
use Rattle.transaction.specs.declared.Transaction.{Transaction}
use Rattle.details.specs.Details.{number_of}
use Rattle.endpoints.specs.States.{next_state}
use Rattle.endpoints.specs.Table.{with_phase, with_state, new_endpoint}
use Rattle.details.specs.declared.Device.{Device}
use Rattle.endpoints.specs.declared.Endpoint.{Endpoint}
use Rattle.endpoints.specs.declared.Phase.{Phase}
use Rattle.endpoints.specs.declared.Phase.TheVariants.{None, Early, Active, Ended}
use Rattle.group.specs.declared.Effect.{Effect}
use Rattle.group.specs.declared.Effect.TheVariants.{NoEffect, NewDevice, Request, PendingData, IndexData}
use Rattle.rules.specs.Rows.{Row, log, written, DeviceRow, EndpointRow, TransactionRow, naming, GroupRow, grouping, StateRow, StateBytes, ItemRow, T, G, D, E, RequestRow, asking, Over}
use Rattle.rules.specs.World.{World, ◌▷◌, event_ep, last_group, with_endpoints, with_slot, with_transaction, change, change_device, more_transactions, more_groups, with_last, cleared, with_pending, with_total}
use Rattle.descriptors.specs.Complete.{note_by}
use Rattle.rules.specs.Groups as rules
use Rattle.rules.specs.Groups.{effect_step, activated, becomes}
use Rattle.rules.specs.Endpoints.{add_device, push_endpoint, typed}
use Rattle.rules.specs.Transactions.{push_transaction}
use Rattle.rules.specs.declared.Slot.{Slot}
use Rattle.rules.specs.declared.EventState.{EventState}
use Rattle.update.specs.Update.{when, end_row, end_group, start_group, become, act}
use Rattle.update.specs.Entry.{over_entry, end_entry, ended_entry, close_entry, start_entry, become_entry, entry_after, row_entry, start_other, other_after}
use Rattle.update.specs.declared.Update.{Update}
use Rattle.update.specs.declared.Then.{Then}
use Rattle.update.specs.declared.Then.TheVariants.{Keep, Begin, BeginFailed, Last, BeginEarly}
use Rattle.update.proofs.After.{act-entry, act-other}
use Rattle.plan.specs.Step.{opened, begun, ended}
use Rattle.plan.specs.declared.Begin.{Begin as Beginning}
use Rattle.plan.specs.declared.End.{End}

-- ---- a part, done or not, and one part after another

-- f leaves the field as it is; f goes past g
abbrev pub Keeps : {A B : Type 0} → (A → B) → (A → A) → Type 0
Keeps {A = A} field f = (a : A) → field (f a) ≡ field a

abbrev pub Past : {A : Type 0} → (A → A) → (A → A) → Type 0
Past {A = A} g f = (a : A) → f (g a) ≡ g (f a)

pub when-keeps : {A B : Type 0} (field : A → B) (b : Bool) (f : A → A) → Keeps field f → Keeps field (when b f)
when-keeps field true f h a = h a
when-keeps field false f h a = refl

pub when_past : {A : Type 0} (g : A → A) (b : Bool) (f : A → A) → Past g f → Past g (when b f)
when_past g true f h a = h a
when_past g false f h a = refl

pub then_keeps : {A B : Type 0} (field : A → B) (f h : A → A) → Keeps field f → Keeps field h → Keeps field (λ a. h (f a))
then_keeps field f h p q a = q (f a) ∙ p a

pub then_past : {A : Type 0} (g f h : A → A) → Past g f → Past g h → Past g (λ a. h (f a))
then_past g f h p q a = ap h (p a) ∙ q (f a)

-- where an entry is changed or not
pub pick_same : {A : Type 0} (g : Endpoint → A) (b : Bool) (a c : Endpoint) → g a ≡ g c → g (pick b a c) ≡ g c
pick_same g true a c h = h
pick_same g false a c h = refl

pub pick-keeps : {A : Type 0} (g : Endpoint → A) (b : Bool) (f : Endpoint → Endpoint) (e : Endpoint) → g (f e) ≡ g e → g (pick b (f e) e) ≡ g e
pick-keeps g b f e h = pick_same g b (f e) e h

-- ---- an update keeps a field that each of its parts keeps, and goes past what each of them goes past

pub record Parts (P : (World → World) → Type 0) (x : ℕ) : Type 0 where
  pub over : P (rules.over x)
  pub cut : P (end_row x)
  pub link : P (rules.link x)
  pub start : P (start_group x)
  pub group : (g : Then) → P (become g x)
  pub end : P (end_group x)
  pub item : P (rules.add_item x)

-- by what holds of a part that is perhaps done, and of two in a row
pub by_parts : (P : (World → World) → Type 0) → ((b : Bool) (f : World → World) → P f → P (when b f)) → ((f h : World → World) → P f → P h → P (λ w. h (f w)))
    → (x : ℕ) → Parts P x → (u : Update) → P (act u x)
by_parts P may next x k u =
    next _ _ (next _ _ (next _ _ (next _ _ (next _ _ (next _ _ (may u.over (rules.over x) k.over) (may u.cut (end_row x) k.cut)) (may u.link (rules.link x) k.link)) (may u.start (start_group x) k.start)) (k.group u.group)) (may u.end (end_group x) k.end)) (may u.item (rules.add_item x) k.item)

pub act-keeps : {A : Type 0} (field : World → A) (x : ℕ) → Parts (Keeps field) x → (u : Update) (w : World) → field (act u x w) ≡ field w
act-keeps field x k u = by_parts (Keeps field) (when-keeps field) (then_keeps field) x k u

pub act_past : (g : World → World) (x : ℕ) → Parts (Past g) x → (u : Update) (w : World) → act u x (g w) ≡ g (act u x w)
act_past g x k u = by_parts (Past g) (when_past g) (then_past g) x k u

-- what no update changes
pub record Rest : Type 0 where
  pub count : ℕ
  pub devices : ℕ → Device
  pub device_count : ℕ
  pub slot : Slot
  pub event_state : EventState
  pub keepalive : Bool
  pub shelf : List ℕ
  pub bytes : ℕ
  pub packets : ℕ
  pub transactions : ℕ
  -- of the transaction
  pub style : Style
  pub id : ℕ
  pub last : ℕ
  pub endpoint : ℕ
  pub kind : ℕ

abbrev pub rest_of : World → Rest
rest_of w =
    record { count = w.count; devices = w.devices; device_count = w.device_count; slot = w.slot; event_state = w.event_state; keepalive = w.keepalive; shelf = w.shelf; bytes = w.bytes; packets = w.packets; transactions = w.transactions; style = w.transaction.style; id = w.transaction.id; last = w.transaction.last; endpoint = w.transaction.endpoint; kind = w.transaction.kind }

pub act-rest : (u : Update) (x : ℕ) (w : World) → rest_of (act u x w) ≡ rest_of w
act-rest u x w =
    act-keeps rest_of x (record { over = λ v. refl; cut = λ v. refl; link = λ v. refl; start = λ v. refl; group = by; end = λ v. refl; item = λ v. refl }) u w
  where
    by : (g : Then) (v : World) → rest_of (become g x v) ≡ rest_of v
    by Keep v = refl
    by Begin v = refl
    by BeginFailed v = refl
    by Last v = refl
    by BeginEarly v = refl

-- ---- the slot

pub act-slot : (u : Update) (x : ℕ) (s : Slot) (w : World) → act u x (with_slot s w) ≡ with_slot s (act u x w)
act-slot u x s w =
    act_past (with_slot s) x (record { over = λ v. refl; cut = λ v. refl; link = λ v. refl; start = λ v. refl; group = by; end = λ v. refl; item = λ v. refl }) u w
  where
    by : (g : Then) (v : World) → become g x (with_slot s v) ≡ with_slot s (become g x v)
    by Keep v = refl
    by Begin v = refl
    by BeginFailed v = refl
    by Last v = refl
    by BeginEarly v = refl

-- ---- what an update keeps of another endpoint's entry, where only the state changes and an ended group is closed

module _ {A : Type 0} (g : Endpoint → A) (state : (s : ℕ) (e : Endpoint) → g (with_state s e) ≡ g e) (close : (e : Endpoint) → g (close_entry e) ≡ g e) where
  pub other-after : (u : Update) (x : ℕ) (e : Endpoint) → g (other_after u x e) ≡ g e
  unfolding other_after
  other-after u x e =
      let a = when u.cut (row_entry x false) e in
      let b = when u.start (start_other x) a in
      let c = when u.end (row_entry x false) b in
      when-keeps g u.item close_entry close c
      ∙ (when-keeps g u.end (row_entry x false) (λ v. state _ v) b
      ∙ (when-keeps g u.start (start_other x) (λ v. close _ ∙ state _ v) a ∙ when-keeps g u.cut (row_entry x false) (λ v. state _ v) e))

-- ---- a number of an entry: what an update adds to the endpoint's own, m where there is a link and n where a group starts; nothing to another's

module _ (g : Endpoint → ℕ) (m n : Bool → ℕ) where
  pub record Adding : Type 0 where
    pub phase : (p : Phase) (e : Endpoint) → g (with_phase p e) ≡ g e
    pub state : (s : ℕ) (e : Endpoint) → g (with_state s e) ≡ g e
    pub link : (b : Bool) (e : Endpoint) → g (when b more_transactions e) ≡ g e + m b
    pub start : (b : Bool) (e : Endpoint) → g (when b more_groups e) ≡ g e + n b
    pub group : (t : Then) (pid : ℕ) (e : Endpoint) → g (become_entry t pid e) ≡ g e
    pub clear : (e : Endpoint) → g (cleared e) ≡ g e

  module _ (k : Adding) where
    start-adds : (b : Bool) (e : Endpoint) → g (when b start_entry e) ≡ g e + n b
    start-adds true e = k.phase _ _ ∙ (k.state _ _ ∙ k.start true e)
    start-adds false e = k.start false e

    pub own-adds : (u : Update) (pid : ℕ) (e : Endpoint) → g (entry_after u pid e) ≡ g e + m u.link + n u.start
    unfolding entry_after
    own-adds u pid e =
        let a = when u.over over_entry e in
        let b = when u.cut end_entry a in
        let c = when u.link more_transactions b in
        let d = when u.start start_entry c in
        let h = become_entry u.group pid d in
        let i = when u.end ended_entry h in
        when-keeps g u.item close_entry (λ v. k.phase _ v) i
        ∙ (when-keeps g u.end ended_entry (λ v. k.state _ _ ∙ (k.phase _ _ ∙ k.clear v)) h
        ∙ (k.group u.group pid d
        ∙ (start-adds u.start c
        ∙ ap (λ (z : ℕ). z + n u.start)
        (k.link u.link b
        ∙ ap (λ (z : ℕ). z + m u.link) (when-keeps g u.cut end_entry (λ v. k.state _ _ ∙ k.phase _ v) a ∙ when-keeps g u.over over_entry (k.phase Ended) e)))))

    pub other-keeps : (u : Update) (x : ℕ) (e : Endpoint) → g (other_after u x e) ≡ g e
    other-keeps u x e = other-after g (λ s v. k.state s v) (λ v. k.phase _ v) u x e

    pub act-adds-own : (u : Update) (x : ℕ) (w : World) → g ((act u x w).endpoints x) ≡ g (w.endpoints x) + m u.link + n u.start
    act-adds-own u x w = ap g (act-entry u x w) ∙ own-adds u (start_pid w.transaction.style) (w.endpoints x)

    pub act-keeps-other : (u : Update) (x j : ℕ) (w : World) → (j ≡ x → ⊥) → g ((act u x w).endpoints j) ≡ g (w.endpoints j)
    act-keeps-other u x j w ne = ap g (act-other x j ne u w) ∙ other-keeps u x (w.endpoints j)

abbrev pub no : Bool → ℕ
no b = 0

module _ (g : Endpoint → ℕ) (f : Endpoint → Endpoint) where
  kept : ((e : Endpoint) → g (f e) ≡ g e) → (b : Bool) (e : Endpoint) → g (when b f e) ≡ g e + no b
  kept h b e = let k = when-keeps g b f h e in omega arith

  grown : ((e : Endpoint) → g (f e) ≡ suc (g e)) → (b : Bool) (e : Endpoint) → g (when b f e) ≡ g e + one b
  grown h true e = let k = h e in omega arith
  grown h false e = omega arith

-- a number that becoming active, or having another last token, does not change
module _ (g : Endpoint → ℕ) (active : (d : Bool) (pid : ℕ) (e : Endpoint) → g (activated d pid e) ≡ g e) (last : (pid : ℕ) (e : Endpoint) → g (with_last pid e) ≡ g e) (phase : (p : Phase) (e : Endpoint) → g (with_phase p e) ≡ g e) where
  become-keeps : (t : Then) (pid : ℕ) (e : Endpoint) → g (become_entry t pid e) ≡ g e
  become-keeps Keep pid e = refl
  become-keeps Begin pid e = active true pid e
  become-keeps BeginFailed pid e = active false pid e
  become-keeps Last pid e = last pid e
  become-keeps BeginEarly pid e = phase Early e

pub device_fixed : Adding (λ e. e.device) no no
device_fixed =
    record { phase = λ p e. refl; state = λ s e. refl; link = kept (λ e. e.device) more_transactions (λ e. refl); start = kept (λ e. e.device) more_groups (λ e. refl); group = become-keeps (λ e. e.device) (λ d pid e. refl) (λ pid e. refl) (λ p e. refl); clear = λ e. refl }

pub address_fixed : Adding (λ e. e.address) no no
address_fixed =
    record { phase = λ p e. refl; state = λ s e. refl; link = kept (λ e. e.address) more_transactions (λ e. refl); start = kept (λ e. e.address) more_groups (λ e. refl); group = become-keeps (λ e. e.address) (λ d pid e. refl) (λ pid e. refl) (λ p e. refl); clear = λ e. refl }

pub setup_fixed : Adding (λ e. e.setup) no no
setup_fixed =
    record { phase = λ p e. refl; state = λ s e. refl; link = kept (λ e. e.setup) more_transactions (λ e. refl); start = kept (λ e. e.setup) more_groups (λ e. refl); group = become-keeps (λ e. e.setup) (λ d pid e. refl) (λ pid e. refl) (λ p e. refl); clear = λ e. refl }

pub total_fixed : Adding (λ e. e.total) no no
total_fixed =
    record { phase = λ p e. refl; state = λ s e. refl; link = kept (λ e. e.total) more_transactions (λ e. refl); start = kept (λ e. e.total) more_groups (λ e. refl); group = become-keeps (λ e. e.total) (λ d pid e. refl) (λ pid e. refl) (λ p e. refl); clear = λ e. refl }

-- one T row more where there is a link, one G row more where a group starts
pub transactions_added : Adding (λ e. e.transactions) one no
transactions_added =
    record { phase = λ p e. refl; state = λ s e. refl; link = grown (λ e. e.transactions) more_transactions (λ e. refl); start = kept (λ e. e.transactions) more_groups (λ e. refl); group = become-keeps (λ e. e.transactions) (λ d pid e. refl) (λ pid e. refl) (λ p e. refl); clear = λ e. refl }

pub groups_added : Adding (λ e. e.groups) no one
groups_added =
    record { phase = λ p e. refl; state = λ s e. refl; link = kept (λ e. e.groups) more_transactions (λ e. refl); start = grown (λ e. e.groups) more_groups (λ e. refl); group = become-keeps (λ e. e.groups) (λ d pid e. refl) (λ pid e. refl) (λ p e. refl); clear = λ e. refl }

-- what is fixed is so of the entry, and of every endpoint
pub own_fixed : (g : Endpoint → ℕ) → Adding g no no → (u : Update) (pid : ℕ) (e : Endpoint) → g (entry_after u pid e) ≡ g e
own_fixed g k u pid e = let p = own-adds g no no k u pid e in omega arith

pub act_fixed : (g : Endpoint → ℕ) → Adding g no no → (u : Update) (x j : ℕ) (w : World) → g ((act u x w).endpoints j) ≡ g (w.endpoints j)
act_fixed g k u x j w = by (eqb j x) refl
  where
    by : (b : Bool) → eqb j x ≡ b → g ((act u x w).endpoints j) ≡ g (w.endpoints j)
    by true q =
        let o : g ((act u x w).endpoints x) ≡ g (w.endpoints x) = let p = act-adds-own g no no k u x w in omega arith in
        subst (λ (z : ℕ). g ((act u x w).endpoints z) ≡ g (w.endpoints z)) (sym (eqb-true j x q)) o
    by false q = act-keeps-other g no no k u x j w (eqb-false j x q)

-- ---- an effect

-- what no effect changes
pub record Base : Type 0 where
  pub count : ℕ
  pub slot : Slot
  pub transaction : Transaction
  pub last_item : ℕ
  pub event_state : EventState
  pub keepalive : Bool
  pub bytes : ℕ
  pub packets : ℕ
  pub transactions : ℕ
  pub groups : ℕ
  pub state_bytes : ℕ
  pub items : ℕ

abbrev pub base_of : World → Base
base_of w =
    record { count = w.count; slot = w.slot; transaction = w.transaction; last_item = w.last_item; event_state = w.event_state; keepalive = w.keepalive; bytes = w.bytes; packets = w.packets; transactions = w.transactions; groups = w.groups; state_bytes = w.state_bytes; items = w.items }

pub effect_base : (f : Effect) (x : ℕ) (w : World) → base_of (effect_step f x w) ≡ base_of w
effect_base NoEffect x w = refl
effect_base (NewDevice address) x w = refl
effect_base (Request n) x w = refl
effect_base (PendingData n) x w = refl
effect_base (IndexData n waited i) x w = refl

pub effect-slot : (f : Effect) (x : ℕ) (s : Slot) (w : World) → effect_step f x (with_slot s w) ≡ with_slot s (effect_step f x w)
effect-slot NoEffect x s w = refl
effect-slot (NewDevice address) x s w = refl
effect-slot (Request n) x s w = refl
effect-slot (PendingData n) x s w = refl
effect-slot (IndexData n waited i) x s w = refl

-- of the entries an effect changes only what waits, and the total
pub effect-keeps : {A : Type 0} (g : Endpoint → A) → ((n i : ℕ) (e : Endpoint) → g (with_pending n i e) ≡ g e) → ((n : ℕ) (e : Endpoint) → g (with_total n e) ≡ g e)
    → (f : Effect) (x j : ℕ) (w : World) → g ((effect_step f x w).endpoints j) ≡ g (w.endpoints j)
effect-keeps g p t NoEffect x j w = refl
effect-keeps g p t (NewDevice address) x j w = refl
effect-keeps g p t (Request n) x j w = refl
effect-keeps g p t (PendingData n) x j w = pick-keeps g (eqb j x) (with_pending n w.transaction.link) (w.endpoints j) (p n w.transaction.link (w.endpoints j))
effect-keeps g p t (IndexData n waited i) x j w =
    pick-keeps g (eqb j x) (with_total ((w.endpoints x).total + n)) (w.endpoints j) (t ((w.endpoints x).total + n) (w.endpoints j))

-- ---- the logs: an update writes those from 6 to 10, an effect those of devices, links and requests

module _ (k : ℕ) where
  pub row-log : (r : Row) (js : List Row) → eqb (written r).0 k ≡ false → log k (r ∷ js) ≡ log k js
  row-log r js h = ap (λ (b : Bool). log k js ++ pick b (written r).1 []) h ∙ append-nil (log k js)

  over-log : (x n : ℕ) (js : List Row) → log k (Over x n ∷ js) ≡ log k js
  over-log x n js = by (eqb 12 k)
    where
      by : (b : Bool) → log k js ++ pick b [] [] ≡ log k js
      by true = append-nil (log k js)
      by false = append-nil (log k js)

  module _ (six : eqb 6 k ≡ false) (seven : eqb 7 k ≡ false) (eight : eqb 8 k ≡ false) (nine : eqb 9 k ≡ false) (ten : eqb 10 k ≡ false) where
    close-log : (n i : ℕ) (f : ℕ → Endpoint) (js : List Row) → log k (rules.close_rows n i f js) ≡ log k js
    close-log zero i f js = refl
    close-log (suc n) i f js = by (f n).phase ∙ close-log n i f js
      where
        by : (p : Phase) → log k (rules.close_row p n i (rules.close_rows n i f js)) ≡ log k (rules.close_rows n i f js)
        by None = refl
        by Early = refl
        by Active = refl
        by Ended = row-log (E n i) (rules.close_rows n i f js) ten

    item-log : (x : ℕ) (w : World) → log k (rules.add_item x w).journal ≡ log k w.journal
    item-log x w = close-log w.count w.items w.endpoints (ItemRow (pred w.groups) ∷ w.journal) ∙ row-log (ItemRow (pred w.groups)) w.journal nine

    states-log : (w : World) → log k (rules.push_states w).journal ≡ log k w.journal
    states-log w =
        let r = StateBytes (rules.states_from w.endpoints 0 w.count) in
        row-log (StateRow w.state_bytes) (r ∷ w.journal) eight ∙ row-log r w.journal seven

    entry-log : (x : ℕ) (start : Bool) (w : World) → log k (rules.add_group_entry x start w).journal ≡ log k w.journal
    entry-log x start w =
        row-log (GroupRow (grouping x (last_group x w) start w.context)) (rules.add_endpoint_state x start w).journal six
        ∙ states-log (with_endpoints (λ j. with_state (next_state (eqb j x) (eqb x event_ep) start (w.endpoints j).state) (w.endpoints j)) w)

    pub act-log : (u : Update) (x : ℕ) (w : World) → log k (act u x w).journal ≡ log k w.journal
    act-log u x w =
        act-keeps (λ v. log k v.journal) x
        (record {
          over = λ v. over-log x (last_group x v) v.journal;
          cut = λ v. entry-log x false (rules.over x v) ∙ over-log x (last_group x v) v.journal;
          link = λ v. row-log (T x v.transaction.id) v.journal ten;
          start = λ v. item-log x (rules.add_group_entry x true (rules.push_group x v.transaction.link v)) ∙ (entry-log x true (rules.push_group x v.transaction.link v) ∙ row-log (G x v.transaction.link) v.journal ten);
          group = by;
          end = λ v. entry-log x false (rules.over x (change x cleared v)) ∙ over-log x (last_group x (change x cleared v)) v.journal;
          item = item-log x;
        })
        u w
      where
        by : (g : Then) (v : World) → log k (become g x v).journal ≡ log k v.journal
        by Keep v = refl
        by Begin v = refl
        by BeginFailed v = refl
        by Last v = refl
        by BeginEarly v = refl

  pub effect-log : eqb 1 k ≡ false → eqb 10 k ≡ false → eqb 11 k ≡ false → (f : Effect) (x : ℕ) (w : World) → log k (effect_step f x w).journal ≡ log k w.journal
  effect-log d l r NoEffect x w = refl
  effect-log d l r (NewDevice address) x w = row-log (DeviceRow address) w.journal d
  effect-log d l r (Request n) x w = row-log (RequestRow (asking x (w.endpoints x).setup n (note_by (rules.asked_of n x w) w.shelf))) w.journal r
  effect-log d l r (PendingData n) x w = refl
  effect-log d l r (IndexData n waited i) x w = row-log (D x (pick waited i w.transaction.link) (w.endpoints x).total) w.journal l

-- ---- the rows that a step begins with

-- each of them keeps the field
opened-keeps : {A : Type 0} (field : World → A) (id : ℕ) (s : Beginning) → Keeps field (push_transaction id) → Keeps field (add_device s.owner) → Keeps field (push_endpoint s.place s.number) → Keeps field (change_device s.place (typed s.number s.kind))
    → Keeps field (opened id s)
unfolding opened
opened-keeps field id s a b c d w =
    let u = when s.row (push_transaction id) w in
    let v = when s.device (add_device s.owner) u in
    when-keeps field s.types (change_device s.place (typed s.number s.kind)) d (when s.endpoint (push_endpoint s.place s.number) v)
    ∙ (when-keeps field s.endpoint (push_endpoint s.place s.number) c v ∙ (when-keeps field s.device (add_device s.owner) b u ∙ when-keeps field s.row (push_transaction id) a w))

-- what none of them changes
pub record Still : Type 0 where
  pub slot : Slot
  pub transaction : Transaction
  pub last_item : ℕ
  pub event_state : EventState
  pub keepalive : Bool
  pub shelf : List ℕ
  pub bytes : ℕ
  pub packets : ℕ
  pub groups : ℕ
  pub state_bytes : ℕ
  pub items : ℕ

abbrev pub still_of : World → Still
still_of w =
    record { slot = w.slot; transaction = w.transaction; last_item = w.last_item; event_state = w.event_state; keepalive = w.keepalive; shelf = w.shelf; bytes = w.bytes; packets = w.packets; groups = w.groups; state_bytes = w.state_bytes; items = w.items }

pub opened_still : (id : ℕ) (s : Beginning) (w : World) → still_of (opened id s w) ≡ still_of w
opened_still id s = opened-keeps still_of id s (λ v. refl) (λ v. refl) (λ v. refl) (λ v. refl)

-- they write the logs of devices, endpoints and transactions
pub opened-log : (k : ℕ) → eqb 1 k ≡ false → eqb 2 k ≡ false → eqb 5 k ≡ false → (id : ℕ) (s : Beginning) (w : World) → log k (opened id s w).journal ≡ log k w.journal
opened-log k one two five id s =
    opened-keeps (λ v. log k v.journal) id s
    (λ v. row-log k (TransactionRow (naming id v.context.reason)) v.journal five)
    (λ v. row-log k (DeviceRow s.owner) v.journal one)
    (λ v. row-log k (EndpointRow s.place (number_of s.number) (s.number / 128)) v.journal two)
    (λ v. refl)

-- an endpoint that was there stays as it was
pub opened-entry : (id : ℕ) (s : Beginning) (w : World) (j : ℕ) → j < w.count → (opened id s w).endpoints j ≡ w.endpoints j
unfolding opened
opened-entry id s w j h =
    let u = when s.row (push_transaction id) w in
    let v = when s.device (add_device s.owner) u in
    let same = when-keeps (λ v. v.endpoints) s.device (add_device s.owner) (λ v. refl) u ∙ when-keeps (λ v. v.endpoints) s.row (push_transaction id) (λ v. refl) w in
    let many = when-keeps (λ v. v.count) s.device (add_device s.owner) (λ v. refl) u ∙ when-keeps (λ v. v.count) s.row (push_transaction id) (λ v. refl) w in
    ap (λ (f : ℕ → Endpoint). f j) (when-keeps (λ v. v.endpoints) s.types (change_device s.place (typed s.number s.kind)) (λ v. refl) (when s.endpoint (push_endpoint s.place s.number) v))
    ∙ (by s.endpoint v (omega arith) ∙ ap (λ (f : ℕ → Endpoint). f j) same)
  where
    by : (e : Bool) (v : World) → j < v.count → (when e (push_endpoint s.place s.number) v).endpoints j ≡ v.endpoints j
    by true v l = ap (λ (b : Bool). pick b (new_endpoint s.place s.number) (v.endpoints j)) (ne_eqb j v.count (λ q. omega arith))
    by false v l = refl

module _ (id : ℕ) (s : Beginning) (w : World) where
  opened_past : (g : World → World) → Past g (push_transaction id) → Past g (add_device s.owner) → Past g (push_endpoint s.place s.number) → Past g (change_device s.place (typed s.number s.kind)) → opened id s (g w) ≡ g (opened id s w)
  unfolding opened
  opened_past g a b c d =
      then_past g (λ v. v ▷ when s.row (push_transaction id) ▷ when s.device (add_device s.owner) ▷ when s.endpoint (push_endpoint s.place s.number)) (when s.types (change_device s.place (typed s.number s.kind)))
      (then_past g (λ v. v ▷ when s.row (push_transaction id) ▷ when s.device (add_device s.owner)) (when s.endpoint (push_endpoint s.place s.number))
      (then_past g (when s.row (push_transaction id)) (when s.device (add_device s.owner)) (when_past g s.row (push_transaction id) a) (when_past g s.device (add_device s.owner) b))
      (when_past g s.endpoint (push_endpoint s.place s.number) c))
      (when_past g s.types (change_device s.place (typed s.number s.kind)) d)
      w

  pub opened-slot : (t : Slot) → opened id s (with_slot t w) ≡ with_slot t (opened id s w)
  opened-slot t = opened_past (with_slot t) (λ v. refl) (λ v. refl) (λ v. refl) (λ v. refl)

  pub opened-transaction : (t : Transaction) → opened id s (with_transaction t w) ≡ with_transaction t (opened id s w)
  opened-transaction t = opened_past (with_transaction t) (λ v. refl) (λ v. refl) (λ v. refl) (λ v. refl)

  pub begun-slot : (t : Slot) → begun id s (with_slot t w) ≡ with_slot t (begun id s w)
  unfolding begun
  begun-slot t = ap (λ (v : World). act s.update s.transaction.endpoint (with_transaction s.transaction v)) (opened-slot t) ∙ act-slot s.update s.transaction.endpoint t (with_transaction s.transaction (opened id s w))

  -- the transaction before it is not read
  pub begun-transaction : (t : Transaction) → begun id s (with_transaction t w) ≡ begun id s w
  unfolding begun
  begun-transaction t = ap (λ (v : World). act s.update s.transaction.endpoint (with_transaction s.transaction v)) (opened-transaction t)

pub ended-slot : (x : ℕ) (s : End) (t : Slot) (w : World) → ended x s (with_slot t w) ≡ with_slot t (ended x s w)
unfolding ended
ended-slot x s t w =
    let v = change x (becomes s.entry) w in
    ap (effect_step s.effect x) (act-slot s.update x t v) ∙ effect-slot s.effect x t (act s.update x v)
