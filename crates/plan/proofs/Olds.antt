-- The world in which a packet's transaction starts: the old one was resumed, and perhaps it has ended. Of the entries that it did not own only the state
-- has changed, and a group that waited may have been closed, so that the same is decided.
use mathlib.Core.Path.{◌≡◌, refl, sym, ap, subst, ◌∙◌}
use mathlib.Core.Bool.{Bool, true, false, ◌&&◌, ◌||◌, not}
use Prim.Native.Nat.{ℕ}
use borrow.Author.Tests.{eqb-true, eqb-false, eq-eqb, ne_eqb}
use lib.Dec.{eqb}
use Rattle.usb.specs.Pid.{IN, OUT}
use Rattle.transaction.specs.Payload.{start_pid}
use Rattle.transaction.specs.Table.{pick, only, ◌or◌}
use Rattle.transaction.specs.declared.Status.TheVariants.{New}
use Rattle.transaction.specs.declared.Transaction.{Transaction}
use Rattle.details.specs.declared.Detail.{Detail}
use Rattle.endpoints.specs.declared.Endpoint.{Endpoint}
use Rattle.endpoints.specs.declared.Phase.{Phase}
use Rattle.endpoints.specs.declared.Phase.TheVariants.{None, Early, Active, Ended}
use Rattle.group.specs.Step.{is_active}
use Rattle.group.specs.declared.Effect.{Effect}
use Rattle.group.proofs.Laws.{group-keeps}
use Rattle.rules.specs.World.{World, change}
use Rattle.rules.specs.Groups.{becomes, close_phase, effect_step}
use Rattle.update.specs.Update.{links, decide_early_start, decide_early_append, act}
use Rattle.update.specs.Entry.{entry_after, other_after}
use Rattle.update.specs.declared.Update.{Update}
use Rattle.update.specs.declared.Then.TheVariants.{Keep}
use Rattle.update.proofs.After.{act-entry, act-other, early-start-closed}
use Rattle.plan.specs.Step.{ended, end_of}
use Rattle.plan.specs.Packet.{entry_by, update_for}
use Rattle.plan.specs.declared.End.{End}
use Rattle.plan.proofs.Frame.{Rest, act-rest, act_fixed, device_fixed, address_fixed, other-after}
use Rattle.plan.proofs.Quiet.{no_effect}
use Rattle.plan.proofs.Alike.{Alike, alike_then}

-- ---- entries from which the same is decided

pub record Near (a b : Endpoint) : Type 0 where
  pub phase : close_phase a.phase ≡ close_phase b.phase
  pub first : a.first ≡ b.first

close_again : (p : Phase) → close_phase (close_phase p) ≡ close_phase p
close_again None = refl
close_again Early = refl
close_again Active = refl
close_again Ended = refl

active-closed : (p : Phase) → is_active (close_phase p) ≡ is_active p
active-closed None = refl
active-closed Early = refl
active-closed Active = refl
active-closed Ended = refl

module _ (pid : ℕ) (t : Transaction) {a b : Endpoint} (n : Near a b) where
  near-start : decide_early_start pid a.phase false ≡ decide_early_start pid b.phase false
  near-start = sym (early-start-closed pid a.phase false) ∙ (ap (λ (p : Phase). decide_early_start pid p false) n.phase ∙ early-start-closed pid b.phase false)

  near-active : is_active a.phase ≡ is_active b.phase
  near-active = sym (active-closed a.phase) ∙ (ap is_active n.phase ∙ active-closed b.phase)

  near-append : decide_early_append t a ≡ decide_early_append t b
  near-append i = links (pick (eqb t.endpoint 0 || (near-active i && (IN or only OUT) (n.first i))) false (not t.linked)) Keep

  pub near_update : update_for New pid t a ≡ update_for New pid t b
  near_update i = let u = near-start i in pick u.start u (near-append i)

other_near : (u : Update) (x : ℕ) (e : Endpoint) → Near (other_after u x e) e
other_near u x e =
    record { phase = other-after (λ a. close_phase a.phase) (λ s a. refl) (λ a. close_again a.phase) u x e; first = other-after (λ a. a.first) (λ s a. refl) (λ a. refl) u x e }

-- ---- the end without success, of the transaction t on the endpoint x

module _ (x : ℕ) (t : Transaction) (d : Detail) (last : ℕ) (complete : Bool) (w : World) where
  abbrev s : End
  s = end_of x (w.endpoints x) t d last false complete

  abbrev changed : World
  changed = change x (becomes s.entry) w

  pub quiet-ended : ended x s w ≡ act s.update x changed
  unfolding ended end_of
  quiet-ended = ap (λ (f : Effect). effect_step f x (act s.update x changed)) (no_effect (w.endpoints x) t d complete)

  changed-own : changed.endpoints x ≡ s.entry
  changed-own = ap (λ (b : Bool). pick b s.entry (w.endpoints x)) (eq-eqb x x refl)

  changed_fixed : (g : Endpoint → ℕ) → g s.entry ≡ g (w.endpoints x) → (j : ℕ) → g (changed.endpoints j) ≡ g (w.endpoints j)
  changed_fixed g h j = by (eqb j x) refl
    where
      by : (b : Bool) → eqb j x ≡ b → g (pick b s.entry (w.endpoints j)) ≡ g (w.endpoints j)
      by true q = h ∙ ap (λ (i : ℕ). g (w.endpoints i)) (sym (eqb-true j x q))
      by false q = refl

  acted_alike : Alike w (act s.update x changed)
  unfolding end_of
  acted_alike =
      let r = act-rest s.update x changed in
      record {
        count = ap (λ (r : Rest). r.count) r;
        devices = ap (λ (r : Rest). r.devices) r;
        device_count = ap (λ (r : Rest). r.device_count) r;
        device = λ j. act_fixed (λ e. e.device) device_fixed s.update x j changed ∙ changed_fixed (λ e. e.device) (group-keeps (w.endpoints x) t d false complete).device j;
        address = λ j. act_fixed (λ e. e.address) address_fixed s.update x j changed ∙ changed_fixed (λ e. e.address) (group-keeps (w.endpoints x) t d false complete).address j;
      }

-- ---- v is w once the old transaction was resumed and perhaps has ended: e is its endpoint's entry, n the number of transaction rows

pub record Before (x : ℕ) (e : Endpoint) (n : ℕ) (w v : World) : Type 0 where
  pub alike : Alike w v
  pub own : v.endpoints x ≡ e
  pub near : (j : ℕ) → (j ≡ x → ⊥) → Near (v.endpoints j) (w.endpoints j)
  pub transactions : v.transactions ≡ n

-- resumed only, the other entries are as they were
pub record Resumed (x : ℕ) (e : Endpoint) (n : ℕ) (w v : World) : Type 0 where
  pub alike : Alike w v
  pub own : v.endpoints x ≡ e
  pub other : (j : ℕ) → (j ≡ x → ⊥) → v.endpoints j ≡ w.endpoints j
  pub transactions : v.transactions ≡ n
  pub last_item : v.last_item ≡ w.last_item

-- what is decided from the entries
pub before_update : {x : ℕ} {e : Endpoint} {n : ℕ} {w v : World} → Before x e n w v → (pid j : ℕ) (t : Transaction) → update_for New pid t (entry_by x e j v) ≡ update_for New pid t (entry_by x e j w)
before_update {x} {e} {n} {w} {v} r pid j t = by (eqb j x) refl
  where
    by : (b : Bool) → eqb j x ≡ b → update_for New pid t (pick b e (v.endpoints j)) ≡ update_for New pid t (pick b e (w.endpoints j))
    by true q = refl
    by false q = near_update pid t (r.near j (eqb-false j x q))

module _ (x : ℕ) (e : Endpoint) (n : ℕ) (w v : World) (r : Resumed x e n w v) where
  pub resumed-entry : (j : ℕ) → entry_by x e j v ≡ entry_by x e j w
  resumed-entry j = by (eqb j x) refl
    where
      by : (b : Bool) → eqb j x ≡ b → pick b e (v.endpoints j) ≡ pick b e (w.endpoints j)
      by true q = refl
      by false q = r.other j (eqb-false j x q)

  -- it has not ended
  pub before-resumed : Before x e n w v
  before-resumed = record { alike = r.alike; own = r.own; near = near; transactions = r.transactions }
    where
      near : (j : ℕ) → (j ≡ x → ⊥) → Near (v.endpoints j) (w.endpoints j)
      near j ne = record { phase = ap (λ (a : Endpoint). close_phase a.phase) (r.other j ne); first = ap (λ (a : Endpoint). a.first) (r.other j ne) }

  -- it has ended without success
  module _ (t : Transaction) (d : Detail) (last : ℕ) (complete : Bool) where
    abbrev end : End
    end = s x t d last complete v

    acted-before : Before x (entry_after end.update (start_pid v.transaction.style) end.entry) n w (act end.update x (changed x t d last complete v))
    acted-before = record { alike = alike_then r.alike (acted_alike x t d last complete v); own = own; near = near; transactions = ap (λ (z : Rest). z.transactions) (act-rest end.update x (changed x t d last complete v)) ∙ r.transactions }
      where
        own : (act end.update x (changed x t d last complete v)).endpoints x ≡ entry_after end.update (start_pid v.transaction.style) end.entry
        own = act-entry end.update x (changed x t d last complete v) ∙ ap (entry_after end.update (start_pid v.transaction.style)) (changed-own x t d last complete v)

        near : (j : ℕ) → (j ≡ x → ⊥) → Near ((act end.update x (changed x t d last complete v)).endpoints j) (w.endpoints j)
        near j ne =
            let k = ap (λ (b : Bool). pick b end.entry (v.endpoints j)) (ne_eqb j x ne) ∙ r.other j ne in
            subst (λ (a : Endpoint). Near a (w.endpoints j)) (sym (act-other x j ne end.update (changed x t d last complete v) ∙ ap (other_after end.update x) k)) (other_near end.update x (w.endpoints j))

    pub before-ended : Before x (entry_after end.update (start_pid v.transaction.style) end.entry) n w (ended x end v)
    before-ended = subst (Before x (entry_after end.update (start_pid v.transaction.style) end.entry) n w) (sym (quiet-ended x t d last complete v)) acted-before
