-- Bounds that the steps keep: an entry's counts grow by the rows that a step adds, and its bytes stay bytes.
use mathlib.Core.Path.{◌≡◌, refl, sym, ap, subst, ◌∙◌}
use mathlib.Core.Bool.{Bool, true, false}
use Prim.Native.Nat.{ℕ, ◌+◌, ◌<◌, ◌≤◌}
use native.Mathlib.Omega.{arith}
use borrow.Author.Tests.{eqb-true, eqb-false}
use lib.Dec.{eqb}
use Rattle.rows.specs.One.{one}
use Rattle.transaction.specs.Table.{pick}
use Rattle.transaction.specs.declared.Transaction.{Transaction}
use Rattle.endpoints.proofs.TableLaws.{Fits}
use Rattle.endpoints.specs.Table.{with_phase, with_state, new_endpoint}
use Rattle.endpoints.specs.Word as word
use Rattle.details.specs.declared.Detail.{Detail}
use Rattle.endpoints.specs.declared.Endpoint.{Endpoint}
use Rattle.endpoints.specs.declared.Phase.{Phase}
use Rattle.endpoints.specs.declared.Phase.TheVariants.{Early, Ended}
use Rattle.group.specs.Group.{group_status}
use Rattle.group.specs.declared.Effect.{Effect}
use Rattle.group.proofs.Laws.{group-keeps}
use Rattle.rules.specs.World.{World, change, change_device, with_transaction, more_transactions}
use Rattle.rules.specs.Endpoints.{add_device, push_endpoint, typed}
use Rattle.rules.specs.Groups.{becomes, effect_step}
use Rattle.rules.specs.Transactions.{push_transaction}
use Rattle.update.specs.Update.{when, act}
use Rattle.update.specs.Entry.{over_entry, end_entry, ended_entry, close_entry, start_entry, become_entry, entry_after}
use Rattle.update.specs.declared.Update.{Update}
use Rattle.update.specs.declared.Then.{Then}
use Rattle.update.specs.declared.Then.TheVariants.{Keep, Begin, BeginFailed, Last, BeginEarly}
use Rattle.plan.specs.Step.{opened, begun, ended}
use Rattle.plan.specs.declared.Begin.{Begin as Beginning}
use Rattle.plan.specs.declared.End.{End}
use Rattle.plan.proofs.Frame.{when-keeps, Rest, Base, no, own-adds, act-adds-own, act-keeps-other, transactions_added, groups_added, act-rest, effect_base, effect-keeps}

-- what holds of a and of f a where a does holds where f is perhaps done
pub when-holds : {A : Type 0} (P : A → Type 0) (b : Bool) (f : A → A) (a : A) → P a → ((c : A) → P c → P (f c)) → P (when b f a)
when-holds P true f a p h = h a p
when-holds P false f a p h = p

-- ---- bytes

phase-fits : (p : Phase) (e : Endpoint) → Fits e → Fits (with_phase p e)
phase-fits p e f = record { address = f.address; state = f.state; first = f.first; last = f.last }

state-fits : (s : ℕ) → s < 256 → (e : Endpoint) → Fits e → Fits (with_state s e)
state-fits s h e f = record { address = f.address; state = h; first = f.first; last = f.last }

become-fits : (t : Then) (pid : ℕ) → pid < 256 → (e : Endpoint) → Fits e → Fits (become_entry t pid e)
become-fits Keep pid h e f = f
become-fits Begin pid h e f = record { address = f.address; state = f.state; first = h; last = h }
become-fits BeginFailed pid h e f = record { address = f.address; state = f.state; first = h; last = h }
become-fits Last pid h e f = record { address = f.address; state = f.state; first = f.first; last = h }
become-fits BeginEarly pid h e f = phase-fits Early e f

pub after-fits : (u : Update) (pid : ℕ) → pid < 256 → (e : Endpoint) → Fits e → Fits (entry_after u pid e)
unfolding entry_after
after-fits u pid h e f =
    let a = when u.over over_entry e in
    let b = when u.cut end_entry a in
    let c = when u.link more_transactions b in
    let d = when u.start start_entry c in
    let g = become_entry u.group pid d in
    let i = when u.end ended_entry g in
    when-holds Fits u.item close_entry i
    (when-holds Fits u.end ended_entry g
    (become-fits u.group pid h d
    (when-holds Fits u.start start_entry c
    (when-holds Fits u.link more_transactions b (when-holds Fits u.cut end_entry a (when-holds Fits u.over over_entry e f (λ e q. phase-fits Ended e q)) ended-fits) same) start_fits))
    (λ e q. record { address = q.address; state = omega arith; first = q.first; last = q.last }))
    (λ e q. phase-fits _ e q)
  where
    same : (e : Endpoint) → Fits e → Fits (more_transactions e)
    same e q = record { address = q.address; state = q.state; first = q.first; last = q.last }

    ended-fits : (e : Endpoint) → Fits e → Fits (end_entry e)
    ended-fits e q = record { address = q.address; state = omega arith; first = q.first; last = q.last }

    start_fits : (e : Endpoint) → Fits e → Fits (start_entry e)
    start_fits e q = record { address = q.address; state = omega arith; first = q.first; last = q.last }

-- ---- counts: at most a T rows and b G rows

pub record Few (a b : ℕ) (e : Endpoint) : Type 0 where
  pub transactions : e.transactions ≤ a
  pub groups : e.groups ≤ b

pub record Small (a b : ℕ) (e : Endpoint) : Type 0 where
  pub few : Few a b e
  pub fits : Fits e

pub few-more : {a b c d : ℕ} {e : Endpoint} → a ≤ c → b ≤ d → Few a b e → Few c d e
few-more h g f = record { transactions = omega (arith, h, f.transactions); groups = omega (arith, g, f.groups) }

pub small-more : {a b c d : ℕ} {e : Endpoint} → a ≤ c → b ≤ d → Small a b e → Small c d e
small-more h g s = record { few = few-more h g s.few; fits = s.fits }

after_few : {a b : ℕ} (u : Update) (pid : ℕ) (e : Endpoint) → Few a b e → Few (a + one u.link) (b + one u.start) (entry_after u pid e)
after_few u pid e f =
    record { transactions = omega (arith, own-adds (λ a. a.transactions) one no transactions_added u pid e, f.transactions); groups = omega (arith, own-adds (λ a. a.groups) no one groups_added u pid e, f.groups) }

pub after_small : {a b : ℕ} (u : Update) (pid : ℕ) → pid < 256 → (e : Endpoint) → Small a b e → Small (a + one u.link) (b + one u.start) (entry_after u pid e)
after_small u pid h e s = record { few = after_few u pid e s.few; fits = after-fits u pid h e s.fits }

pub linked_small : {a b : ℕ} (e : Endpoint) → Small a b e → Small (a + 1) b (more_transactions e)
linked_small e s = record { few = record { transactions = omega (arith, s.few.transactions); groups = s.few.groups }; fits = record { address = s.fits.address; state = s.fits.state; first = s.fits.first; last = s.fits.last } }

-- as group_status leaves it
pub group_small : {a b : ℕ} (e : Endpoint) (t : Transaction) (d : Detail) (success complete : Bool) → Small a b e → Small a b (group_status e t d success complete).endpoint
group_small e t d success complete s =
    let g = group-keeps e t d success complete in
    record {
      few = record { transactions = omega (arith, g.transactions, s.few.transactions); groups = omega (arith, g.groups, s.few.groups) };
      fits = record { address = omega (arith, g.address, s.fits.address); state = omega (arith, g.state, s.fits.state); first = omega (arith, g.first, s.fits.first); last = omega (arith, g.last, s.fits.last) };
    }

pub new_small : {a b : ℕ} (d address : ℕ) → address < 256 → Small a b (new_endpoint d address)
new_small d address h = record { few = record { transactions = omega arith; groups = omega arith }; fits = record { address = h; state = omega arith; first = omega arith; last = omega arith } }

-- ---- of every endpoint of a world

abbrev pub FewAll : ℕ → ℕ → World → Type 0
FewAll a b w = (j : ℕ) → j < w.count → Few a b (w.endpoints j)

pub act-count : (u : Update) (x : ℕ) (w : World) → (act u x w).count ≡ w.count
act-count u x w = ap (λ (r : Rest). r.count) (act-rest u x w)

pub act_few : {a b : ℕ} (u : Update) (x : ℕ) (w : World) → FewAll a b w → FewAll (a + one u.link) (b + one u.start) (act u x w)
act_few {a} {b} u x w f j h = by (eqb j x) refl
  where
    before : Few a b (w.endpoints j)
    before = f j (omega (arith, act-count u x w))

    by : (c : Bool) → eqb j x ≡ c → Few (a + one u.link) (b + one u.start) ((act u x w).endpoints j)
    by true q =
        let o = act-adds-own (λ e. e.transactions) one no transactions_added u x w in
        let g = act-adds-own (λ e. e.groups) no one groups_added u x w in
        subst (λ (i : ℕ). Few (a + one u.link) (b + one u.start) ((act u x w).endpoints i)) (sym (eqb-true j x q))
        (let k = subst (λ (i : ℕ). Few a b (w.endpoints i)) (eqb-true j x q) before in
        record { transactions = omega (arith, k.transactions, o); groups = omega (arith, k.groups, g) })
    by false q =
        record { transactions = omega (arith, act-keeps-other (λ e. e.transactions) one no transactions_added u x j w (eqb-false j x q), before.transactions); groups = omega (arith, act-keeps-other (λ e. e.groups) no one groups_added u x j w (eqb-false j x q), before.groups) }

pub change_few : {a b : ℕ} (x : ℕ) (e : Endpoint) (w : World) → Few a b e → FewAll a b w → FewAll a b (change x (becomes e) w)
change_few {a} {b} x e w g f j h = by (eqb j x)
  where
    by : (c : Bool) → Few a b (pick c e (w.endpoints j))
    by true = g
    by false = f j h

pub effect_few : {a b : ℕ} (f : Effect) (x : ℕ) (w : World) → FewAll a b w → FewAll a b (effect_step f x w)
effect_few f x w g j h =
    let b = g j (omega (arith, ap (λ (b : Base). b.count) (effect_base f x w))) in
    record { transactions = omega (arith, effect-keeps (λ e. e.transactions) (λ n i e. refl) (λ n e. refl) f x j w, b.transactions); groups = omega (arith, effect-keeps (λ e. e.groups) (λ n i e. refl) (λ n e. refl) f x j w, b.groups) }

-- with a new endpoint
push_few : {a b : ℕ} (d address : ℕ) (w : World) → FewAll a b w → FewAll a b (push_endpoint d address w)
push_few {a} {b} d address w f j h = by (eqb j w.count) refl
  where
    by : (c : Bool) → eqb j w.count ≡ c → Few a b (pick c (new_endpoint d address) (w.endpoints j))
    by true q = record { transactions = omega arith; groups = omega arith }
    by false q = let ne = eqb-false j w.count q in f j (omega arith)

module _ (id : ℕ) (s : Beginning) (w : World) where
  pub opened_few : {a b : ℕ} → FewAll a b w → FewAll a b (opened id s w)
  unfolding opened
  opened_few {a} {b} f =
      let c = when s.row (push_transaction id) w in
      let d = when s.device (add_device s.owner) c in
      let e = when s.endpoint (push_endpoint s.place s.number) d in
      when-holds (FewAll a b) s.types (change_device s.place (typed s.number s.kind)) e
      (when-holds (FewAll a b) s.endpoint (push_endpoint s.place s.number) d
      (when-holds (FewAll a b) s.device (add_device s.owner) c (when-holds (FewAll a b) s.row (push_transaction id) w f (λ v g. g)) (λ v g. g))
      (push_few s.place s.number))
      (λ v g. g)

  pub begun_few : {a b : ℕ} → FewAll a b w → FewAll (a + one s.update.link) (b + one s.update.start) (begun id s w)
  unfolding begun
  begun_few f = act_few s.update s.transaction.endpoint (with_transaction s.transaction (opened id s w)) (opened_few f)

  pub opened-count : (opened id s w).count ≡ w.count + one s.endpoint
  unfolding opened
  opened-count =
      let a = when s.row (push_transaction id) w in
      let b = when s.device (add_device s.owner) a in
      let c = when s.endpoint (push_endpoint s.place s.number) b in
      let p = when-keeps (λ v. v.count) s.types (change_device s.place (typed s.number s.kind)) (λ v. refl) c in
      let q = when-keeps (λ v. v.count) s.device (add_device s.owner) (λ v. refl) a in
      let r = when-keeps (λ v. v.count) s.row (push_transaction id) (λ v. refl) w in
      omega (arith, by s.endpoint b)
    where
      by : (e : Bool) (v : World) → (when e (push_endpoint s.place s.number) v).count ≡ v.count + one e
      by true v = omega arith
      by false v = omega arith

  pub begun-count : (begun id s w).count ≡ w.count + one s.endpoint
  unfolding begun
  begun-count = act-count s.update s.transaction.endpoint (with_transaction s.transaction (opened id s w)) ∙ opened-count

module _ (x : ℕ) (s : End) (w : World) where
  pub ended_few : {a b : ℕ} → Few a b s.entry → FewAll a b w → FewAll (a + one s.update.link) (b + one s.update.start) (ended x s w)
  unfolding ended
  ended_few g f = effect_few s.effect x (act s.update x (change x (becomes s.entry) w)) (act_few s.update x (change x (becomes s.entry) w) (change_few x s.entry w g f))

  pub ended-count : (ended x s w).count ≡ w.count
  unfolding ended
  ended-count = ap (λ (b : Base). b.count) (effect_base s.effect x (act s.update x (change x (becomes s.entry) w))) ∙ act-count s.update x (change x (becomes s.entry) w)
