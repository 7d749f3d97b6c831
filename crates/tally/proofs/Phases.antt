-- The phases of the endpoints after each step, and that what suits a phase suits it also once an item has closed the group.
use mathlib.Core.Path.{◌≡◌, refl, sym, ap, subst, ◌∙◌}
use mathlib.Core.Bool.{Bool, true, false, ◌&&◌, false≢true}
use Prim.Native.Nat.{ℕ}
use borrow.Author.Tests.{eq-eqb, ne_eqb}
use lib.Dec.{eqb}
use Rattle.transaction.specs.Table.{pick}
use Rattle.transaction.specs.declared.Transaction.{Transaction}
use Rattle.endpoints.specs.declared.Endpoint.{Endpoint}
use Rattle.endpoints.specs.declared.Phase.{Phase}
use Rattle.endpoints.specs.declared.Phase.TheVariants.{None, Early, Active, Ended}
use Rattle.group.specs.declared.Effect.{Effect}
use Rattle.rules.specs.World.{World, phase, change, change_device, with_transaction, more_transactions}
use Rattle.endpoints.specs.Table.{new_endpoint}
use Rattle.rules.specs.Endpoints as rules
use Rattle.rules.specs.Groups.{close_phase, becomes, effect_step}
use Rattle.rules.specs.Transactions.{push_transaction}
use Rattle.update.specs.Entry.{over_entry, end_entry, ended_entry, close_entry, start_entry, become_entry, entry_after, row_entry, start_other, other_after}
use Rattle.tally.specs.Tally as tally
use Rattle.rules.specs.World.{is_ended}
use Rattle.tally.specs.Tally.{become_phase, takes_up, phase_before, phase_after, Suits}
use Rattle.update.specs.Update.{when, act, decide_resume}
use Rattle.update.specs.declared.Then.{Then}
use Rattle.update.specs.declared.Then.TheVariants.{Keep, Begin as Begins, BeginFailed, Last, BeginEarly}
use Rattle.update.specs.declared.Update.{Update}
use Rattle.update.proofs.After.{act-other}
use Rattle.tally.proofs.Added.{act-phase}
use Rattle.plan.specs.Packet.{going}
use Rattle.plan.specs.Step.{opened, begun, ended}
use Rattle.plan.specs.declared.Begin.{Begin}
use Rattle.plan.specs.declared.End.{End}
use Rattle.plan.proofs.Frame.{when-keeps, pick_same, effect-keeps}
use Rattle.tally.specs.Suited.{BeginSuits, EndSuits}
use Rattle.tally.proofs.Counted.{changed-phase}

-- ---- what suits p suits q

abbrev pub Since : Phase → Phase → Type 0
Since p q = (u : Update) → Suits u p → Suits u q

pub since_path : {p q : Phase} → p ≡ q → Since p q
since_path e u s = subst (λ (r : Phase). Suits u r) e s

-- a part that would end a group again is not done
not_done : (b c : Bool) → c ≡ true → (b && c) ≡ false → b ≡ false
not_done true c h e = sym h ∙ e
not_done false c h e = refl

and_no : (a b : Bool) → b ≡ false → (a && b) ≡ false
and_no true b h = h
and_no false b h = refl

still-none : (s : Bool) → when s close_phase None ≡ None
still-none true = refl
still-none false = refl

becomes-none : (g : Then) → is_ended (become_phase g None) ≡ false
becomes-none Keep = refl
becomes-none Begins = refl
becomes-none BeginFailed = refl
becomes-none Last = refl
becomes-none BeginEarly = refl

-- an ended group that was closed since
ended-none : (u : Update) → Suits u Ended → Suits u None
ended-none u s =
    let o : u.over ≡ false = not_done u.over true refl s.over in
    let z : is_ended (when u.over tally.ended Ended) ≡ true = ap (λ (b : Bool). is_ended (when b tally.ended Ended)) o in
    let c : u.cut ≡ false = not_done u.cut _ z s.cut in
    let q : phase_before u None ≡ None = ap (λ (b : Bool). when u.start close_phase (when u.cut tally.ended (when b tally.ended None))) o ∙ (ap (λ (b : Bool). when u.start close_phase (when b tally.ended None)) c ∙ still-none u.start) in
    record {
      over = and_no u.over _ refl;
      cut = ap (λ (b : Bool). b && is_ended (when u.over tally.ended None)) c;
      group = and_no (takes_up u.group) _ (ap is_ended q);
      end = and_no u.end _ (ap (λ (p : Phase). is_ended (become_phase u.group p)) q ∙ becomes-none u.group);
    }

closed-since : (p : Phase) → Since p (close_phase p)
closed-since None u s = s
closed-since Early u s = s
closed-since Active u s = s
closed-since Ended u s = ended-none u s

pub when-since : (b : Bool) (p : Phase) → Since p (when b close_phase p)
when-since true p u s = closed-since p u s
when-since false p u s = s

-- ---- entries

by : (b : Bool) (f : Endpoint → Endpoint) (g : Phase → Phase) (e : Endpoint) (p : Phase) → (f e).phase ≡ g e.phase → e.phase ≡ p → (when b f e).phase ≡ when b g p
by true f g e p h q = h ∙ ap g q
by false f g e p h q = q

kept : (b : Bool) (f : Endpoint → Endpoint) (e : Endpoint) (p : Phase) → (f e).phase ≡ e.phase → e.phase ≡ p → (when b f e).phase ≡ p
kept true f e p h q = h ∙ q
kept false f e p h q = q

become-phase : (g : Then) (pid : ℕ) (e : Endpoint) (p : Phase) → e.phase ≡ p → (become_entry g pid e).phase ≡ become_phase g p
become-phase Keep pid e p q = q
become-phase Begins pid e p q = refl
become-phase BeginFailed pid e p q = refl
become-phase Last pid e p q = q
become-phase BeginEarly pid e p q = refl

pub entry-phase : (u : Update) (pid : ℕ) (e : Endpoint) → (entry_after u pid e).phase ≡ phase_after u e.phase
unfolding entry_after
entry-phase u pid e =
    by u.item close_entry close_phase _ _ refl
    (by u.end ended_entry tally.ended _ _ refl
    (become-phase u.group pid _ _
    (by u.start start_entry close_phase _ _ refl
    (kept u.link more_transactions _ _ refl (by u.cut end_entry tally.ended _ _ refl (by u.over over_entry tally.ended e e.phase refl refl))))))

other-phase : (u : Update) (x : ℕ) (e : Endpoint) → (other_after u x e).phase ≡ when u.item close_phase (when u.start close_phase e.phase)
unfolding other_after
other-phase u x e =
    by u.item close_entry close_phase _ _ refl
    (kept u.end (row_entry x false) _ _ refl (by u.start (start_other x) close_phase _ _ refl (kept u.cut (row_entry x false) e e.phase refl refl)))

-- ---- worlds

pub there : {b : Bool} (a c : Endpoint) → b ≡ false → pick b a c ≡ c
there a c h = rw h

effect-phase : (f : Effect) (x j : ℕ) (w : World) → phase j (effect_step f x w) ≡ phase j w
effect-phase = effect-keeps (λ e. e.phase) (λ n i e. refl) (λ n e. refl)

-- a suspended transaction is resumed
pub resumed-phase : (b : Bool) (id : ℕ) (t : Transaction) (j : ℕ) (w : World) → phase j (when b (begun id (going true t decide_resume)) w) ≡ phase j w
unfolding begun opened
resumed-phase true id t j w = pick_same (λ e. e.phase) (eqb j t.endpoint) _ _ refl
resumed-phase false id t j w = refl

module _ (x : ℕ) (s : End) (w : World) (h : EndSuits x s w) where
  pub ended-phase : phase x (ended x s w) ≡ phase_after s.update s.entry.phase
  unfolding ended
  ended-phase =
      let e = changed-phase x s.entry w in
      effect-phase s.effect x x (act s.update x (change x (becomes s.entry) w))
      ∙ (act-phase s.update x (change x (becomes s.entry) w) h.there (subst (λ (p : Phase). Suits s.update p) (sym e) h.suits) ∙ ap (phase_after s.update) e)

pub ended-other : (x : ℕ) (s : End) (w : World) (j : ℕ) → (j ≡ x → ⊥) → phase j (ended x s w) ≡ when s.update.item close_phase (when s.update.start close_phase (phase j w))
unfolding ended
ended-other x s w j ne =
    let v = change x (becomes s.entry) w in
    effect-phase s.effect x j (act s.update x v)
    ∙ (ap (λ (e : Endpoint). e.phase) (act-other x j ne s.update v)
    ∙ (other-phase s.update x (v.endpoints j)
    ∙ ap (λ (e : Endpoint). when s.update.item close_phase (when s.update.start close_phase e.phase)) (there s.entry (w.endpoints j) (ne_eqb j x ne))))

-- the new endpoint of a step that begins
pub opened-new : (id : ℕ) (s : Begin) (w : World) → s.endpoint ≡ true → (opened id s w).endpoints w.count ≡ new_endpoint s.place s.number
unfolding opened
opened-new id s w h =
    let u = when s.row (push_transaction id) w in
    let v = when s.device (rules.add_device s.owner) u in
    let many = when-keeps (λ v. v.count) s.device (rules.add_device s.owner) (λ v. refl) u ∙ when-keeps (λ v. v.count) s.row (push_transaction id) (λ v. refl) w in
    ap (λ (f : ℕ → Endpoint). f w.count) (when-keeps (λ v. v.endpoints) s.types (change_device s.place (rules.typed s.number s.kind)) (λ v. refl) (when s.endpoint (rules.push_endpoint s.place s.number) v))
    ∙ new s.endpoint v h (sym many)
  where
    new : (b : Bool) (v : World) → b ≡ true → w.count ≡ v.count → (when b (rules.push_endpoint s.place s.number) v).endpoints w.count ≡ new_endpoint s.place s.number
    new true v h e = rw (eq-eqb w.count v.count e)
    new false v h e = absurd (false≢true h)

pub begun-phase : (id : ℕ) (s : Begin) (w : World) → BeginSuits id s w → phase s.transaction.endpoint (begun id s w) ≡ phase_after s.update (phase s.transaction.endpoint (opened id s w))
unfolding begun
begun-phase id s w h = act-phase s.update s.transaction.endpoint (with_transaction s.transaction (opened id s w)) h.there h.suits
