-- What is decided is what the rules do: group_update, group_early_start, group_early_append, and the link of a resumed transaction.
use Rattle.std.proofs.Common.{◌≡◌, ℕ, Bool, true, false, not, ◌&&◌, ◌||◌, eqb, refl, ap, ◌∙◌, eq-eqb}
use Rattle.transaction.specs.Table.{pick}
use Rattle.endpoints.specs.Table.{with_phase}
use Rattle.endpoints.specs.declared.Endpoint.{Endpoint}
use Rattle.endpoints.specs.declared.Phase.{Phase}
use Rattle.endpoints.specs.declared.Phase.TheVariants.{None, Early, Active, Ended}
use Rattle.group.specs.declared.GroupStatus.{GroupStatus}
use Rattle.group.specs.declared.GroupStatus.TheVariants.{Single, New, Continue, Retry, Done, Invalid}
use Rattle.rules.specs.World.{World, ◌▷◌, phase, change, cleared, with_id}
use Rattle.rules.specs.Groups.{over, add_group_entry, link, link_once, push_group, add_item, end_active, add_group, activate, group_start_at, group_start, group_append_at, group_append, group_end_at, group_end, group_step, undecided, group_early_append, starts_early, end_early, group_early_start}
use Rattle.rules.specs.Transactions.{push_transaction, begin, resume_at}
use Rattle.rules.specs.declared.Slot.TheVariants.{Suspended}
use Rattle.update.specs.Update.{links, adds, starts, appends, ends, decide_update, early, decide_early_start, decide_early_append, decide_resume, when, end_row, end_group, start_group, become, act}
use Rattle.update.specs.declared.Then.{Then}
use Rattle.update.specs.declared.Then.TheVariants.{Keep, Begin, BeginFailed, Last, BeginEarly}

abbrev begins : Bool → Then
begins true = Begin
begins false = BeginFailed

abbrev onward : Bool → Then
onward true = Last
onward false = Keep

abbrev cuts : Phase → Bool
cuts None = false
cuts Early = false
cuts Active = true
cuts Ended = false

-- an endpoint's phase where its entry is changed
phase-set : (b : Bool) (a c : Endpoint) (p : Phase) → b ≡ true → a.phase ≡ p → (pick b a c).phase ≡ p
phase-set true a c p h q = q
phase-set false a c p h q = cc

phase-kept : (b : Bool) (a c : Endpoint) → a.phase ≡ c.phase → (pick b a c).phase ≡ c.phase
phase-kept true a c q = q
phase-kept false a c q = refl

-- a step that is left out where b holds
unless : (f : World → World) (v : World) (b c : Bool) → b ≡ c → pick b v (f v) ≡ when (not c) f v
unless f v true true h = refl
unless f v true false h = cc
unless f v false true h = cc
unless f v false false h = refl

module _ (x : ℕ) where
  begin-is : (d : Bool) (v : World) → activate d x v ≡ become (begins d) x v
  begin-is true v = refl
  begin-is false v = refl

  begin-phase : (d : Bool) (v : World) → phase x (become (begins d) x v) ≡ Active
  begin-phase true v = phase-set (eqb x x) _ _ Active (eq-eqb x x refl) refl
  begin-phase false v = phase-set (eqb x x) _ _ Active (eq-eqb x x refl) refl

  begin-item : (d : Bool) (v : World) → (become (begins d) x v).last_item ≡ v.last_item
  begin-item true v = refl
  begin-item false v = refl

  once : (v : World) (l : Bool) → v.transaction.linked ≡ l → link_once x v ≡ when (not l) (link x) v
  once v l q = unless (link x) v v.transaction.linked l q

  -- group_end where a group is active
  end_is : (v : World) (same : Bool) → phase x v ≡ Active → eqb v.last_item x ≡ same → group_end x v ≡ when (not same) (add_item x) (end_group x v)
  end_is v same q h = ap (λ (p : Phase). group_end_at p x (change x cleared v)) q ∙ unless (add_item x) (end_group x v) (eqb v.last_item x) same h

  module _ (w : World) where
    cut_at : (p : Phase) → end_active p x w ≡ when (cuts p) (end_row x) w
    cut_at None = refl
    cut_at Early = refl
    cut_at Active = refl
    cut_at Ended = refl

    kept : (b : Bool) → (when b (end_row x) w).transaction.linked ≡ w.transaction.linked
    kept true = refl
    kept false = refl

    add_is : (p : Phase) (l : Bool) → phase x w ≡ p → w.transaction.linked ≡ l → add_group x w ≡ start_group x (when (not l) (link x) (when (cuts p) (end_row x) w))
    add_is p l q r =
        ap (start_group x) (ap (λ (p : Phase). link_once x (end_active p x w)) q ∙ (ap (link_once x) (cut_at p) ∙ once (when (cuts p) (end_row x) w) l (kept (cuts p) ∙ r)))

    start_is : (d : Bool) (p : Phase) (l : Bool) → phase x w ≡ p → w.transaction.linked ≡ l → group_start_at p d x w ≡ act (starts (begins d) p l) x w
    start_is d None l q r = ap (activate d x) (add_is None l q r) ∙ begin-is d _
    start_is d Early l q r = begin-is d w
    start_is d Active l q r = ap (activate d x) (add_is Active l q r) ∙ begin-is d _
    start_is d Ended l q r = ap (activate d x) (add_is Ended l q r) ∙ begin-is d _

    start_at : (d : Bool) (p : Phase) (l : Bool) → phase x w ≡ p → w.transaction.linked ≡ l → group_start d x w ≡ act (starts (begins d) p l) x w
    start_at d p l q r = ap (λ (p : Phase). group_start_at p d x w) q ∙ start_is d p l q r

    goes_on : (d l : Bool) → w.transaction.linked ≡ l → group_append_at Active d x w ≡ act (appends (begins d) (onward d) Active l) x w
    goes_on true l r = ap (become Last x) (once w l r)
    goes_on false l r = once w l r

    append-is : (d : Bool) (p : Phase) (l : Bool) → phase x w ≡ p → w.transaction.linked ≡ l → group_append_at p d x w ≡ act (appends (begins d) (onward d) p l) x w
    append-is d None l q r = start_at d None l q r
    append-is d Early l q r = start_at d Early l q r
    append-is d Active l q r = goes_on d l r
    append-is d Ended l q r = start_at d Ended l q r

    append_at : (d : Bool) (p : Phase) (l : Bool) → phase x w ≡ p → w.transaction.linked ≡ l → group_append d x w ≡ act (appends (begins d) (onward d) p l) x w
    append_at d p l q r = ap (λ (p : Phase). group_append_at p d x w) q ∙ append-is d p l q r

    -- after a start the last item is this endpoint's
    own-item : (d : Bool) (v : World) → eqb (become (begins d) x (start_group x v)).last_item x ≡ true
    own-item true v = eq-eqb x x refl
    own-item false v = eq-eqb x x refl

    begin-ends : (d : Bool) (v : World) → group_end x (become (begins d) x (start_group x v)) ≡ end_group x (become (begins d) x (start_group x v))
    begin-ends d v = end_is (become (begins d) x (start_group x v)) true (begin-phase d (start_group x v)) (own-item d v)

    start-ends : (d : Bool) (p : Phase) (l same : Bool) → eqb w.last_item x ≡ same → group_end x (act (starts (begins d) p l) x w) ≡ act (ends same (starts (begins d) p l)) x w
    start-ends d None l same h = begin-ends d (when (not l) (link x) w)
    start-ends d Early l same h = end_is (become (begins d) x w) same (begin-phase d w) (ap (λ (z : ℕ). eqb z x) (begin-item d w) ∙ h)
    start-ends d Active l same h = begin-ends d (when (not l) (link x) (end_row x w))
    start-ends d Ended l same h = begin-ends d (when (not l) (link x) w)

    linked-phase : (l : Bool) → phase x (when l (link x) w) ≡ phase x w
    linked-phase true = phase-kept (eqb x x) _ _ refl
    linked-phase false = refl

    linked-item : (l : Bool) → (when l (link x) w).last_item ≡ w.last_item
    linked-item true = refl
    linked-item false = refl

    append-ends : (p : Phase) (l same : Bool) → phase x w ≡ p → eqb w.last_item x ≡ same → group_end x (act (appends Begin Last p l) x w) ≡ act (ends same (appends Begin Last p l)) x w
    append-ends None l same q h = start-ends true None l same h
    append-ends Early l same q h = start-ends true Early l same h
    append-ends Active l same q h =
        end_is (become Last x (when (not l) (link x) w)) same (phase-kept (eqb x x) _ _ refl ∙ (linked-phase (not l) ∙ q)) (ap (λ (z : ℕ). eqb z x) (linked-item (not l)) ∙ h)
    append-ends Ended l same q h = start-ends true Ended l same h

    decided : (s : GroupStatus) (p : Phase) (l same : Bool) → phase x w ≡ p → w.transaction.linked ≡ l → eqb w.last_item x ≡ same → group_step s x w ≡ act (decide_update s p l same) x w
    decided Single p l same q r h = ap (group_end x) (start_at true p l q r) ∙ start-ends true p l same h
    decided New p l same q r h = start_at true p l q r
    decided Continue p l same q r h = append_at true p l q r
    decided Retry p l same q r h = append_at false p l q r
    decided Done p l same q r h = ap (group_end x) (append_at true p l q r) ∙ append-ends p l same q h
    decided Invalid p l same q r h = ap (group_end x) (start_at false p l q r) ∙ start-ends false p l same h

  -- an early start, by the phase
  module _ (w : World) where
    abbrev begun : World → World
    begun v = change x (with_phase Early) v

    over-phase : phase x (over x w) ≡ Ended
    over-phase = phase-set (eqb x x) _ _ Ended (eq-eqb x x refl) refl

    early-is : (p : Phase) (l : Bool) → phase x w ≡ p → w.transaction.linked ≡ l → begun (add_group x (end_early p x w)) ≡ act (early p l) x w
    early-is None l q r = ap begun (add_is w None l q r)
    early-is Early l q r = ap begun (add_is (over x w) Ended l over-phase r)
    early-is Active l q r = ap begun (add_is w Active l q r)
    early-is Ended l q r = ap begun (add_is w Ended l q r)

    early_at : (b : Bool) (p : Phase) (l : Bool) → phase x w ≡ p → w.transaction.linked ≡ l → pick b (begun (add_group x (end_early p x w))) w ≡ act (pick b (early p l) (links false Keep)) x w
    early_at true p l q r = early-is p l q r
    early_at false p l q r = refl

-- group_update does what is decided from the status, the phase, the link and the last item's endpoint
pub update-is : (s : GroupStatus) (x : ℕ) (w : World) → group_step s x w ≡ act (decide_update s (phase x w) w.transaction.linked (eqb w.last_item x)) x w
update-is s x w = decided x w s (phase x w) w.transaction.linked (eqb w.last_item x) refl refl refl

pub early-start-is : (pid x : ℕ) (w : World) → group_early_start pid x w ≡ act (decide_early_start pid (phase x w) w.transaction.linked) x w
unfolding group_early_start
early-start-is pid x w = early_at x w (starts_early pid (phase x w)) (phase x w) w.transaction.linked refl refl

pub early-append-is : (w : World) → group_early_append w ≡ act (decide_early_append w.transaction (w.endpoints w.transaction.endpoint)) w.transaction.endpoint w
unfolding group_early_append
early-append-is w = by (eqb w.transaction.endpoint 0 || undecided (w.endpoints w.transaction.endpoint)) w.transaction.linked refl
  where
    by : (b l : Bool) → w.transaction.linked ≡ l → pick b w (link_once w.transaction.endpoint w) ≡ act (links (pick b false (not l)) Keep) w.transaction.endpoint w
    by true l r = refl
    by false l r = once w.transaction.endpoint w l r

-- a suspended transaction that is resumed: its new row, its number, and then the link
pub resume-is : (id : ℕ) (w : World) → resume_at Suspended id w ≡ act decide_resume w.transaction.endpoint (w ▷ push_transaction id ▷ begin (with_id w.transactions w.transaction))
resume-is id w = refl
