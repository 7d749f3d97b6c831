-- The laws of a call (specs/Account.antt): besides the account, when a payload is counted, and that what is settled stays.
use mathlib.Core.Bool.{Bool, true, false, true≢false, not, ◌&&◌}
use mathlib.Core.List.{List, [], ◌∷◌, ◌++◌, append-nil}
use mathlib.Core.Logic.{inl, inr}
use mathlib.Core.Path.{◌≡◌, refl, sym, ap, ◌∙◌}
use Prim.Native.Nat.{ℕ, ◌-◌}
use lib.Dec.{eqb}
use lib.ListN.{length}
use Rattle.usb.specs.Packet.{reason_of}
use Rattle.transaction.specs.Status.{transaction_status}
use Rattle.transaction.specs.Table.{pick}
use Rattle.transaction.specs.declared.Judged.{Judged}
use Rattle.transaction.specs.declared.Status.{Status}
use Rattle.transaction.specs.declared.Status.TheVariants.{New, Continue, Retry, Done, Fail, Ambiguous, Invalid}
use Rattle.transaction.specs.declared.Transaction.{Transaction}
use Rattle.group.specs.Step.{payload_of}
use Rattle.group.specs.declared.Effect.{Effect}
use Rattle.group.specs.declared.Effect.TheVariants.{NoEffect, NewDevice, Request, PendingData, IndexData}
use Rattle.rules.specs.World.{World, with_shelf, with_event_state, stamped}
use Rattle.rules.specs.Endpoints.{detail_of}
use Rattle.rules.specs.Groups.{grouped}
use Rattle.rules.specs.Transactions.{transaction_append, transaction_start, resume_at, state_at, completes, is_payload, brought, extracted, is_dropped}
use Rattle.rules.specs.Decoder.{append_bytes, push_packet}
use Rattle.rules.specs.Demand.{Call, packet, event, detail, finishing}
use Rattle.rules.specs.declared.Slot.{Slot}
use Rattle.rules.specs.declared.Slot.TheVariants.{Empty, Current, Suspended}
use Rattle.rules.specs.declared.EventState.TheVariants.{Idle}
use Rattle.ledger.specs.Ledger.{Why, Setup, Stray, Replaced, Forgotten, Dropped, Failed, Unused, Waited, Fate, Held, Waiting, Counted, Passed, Line, Ledger, is_held, is_waiting, is_counted, lengths_of, is_data, enter, turn, pass_held, used_at, end_at, end_by, ends, takes, turn_by, turn_from, packet_turns, suspends, turns}
use Rattle.ledger.proofs.Account.{is_earning, status_in, earns, is_settled, Among, Laws}
use Rattle.ledger.proofs.Calls.{call_account, call-entered}
use Rattle.ledger.proofs.Feeds.{Feeds, group_feeds}
use Rattle.ledger.proofs.Turns.{moved}

-- ---- one walk over the steps of a call

-- a relation between the ledger before and after that lines more and turns of what is not settled keep, into fates that are fine
pub record Steps (Fine : Fate → Type 0) (R : Ledger → Ledger → Type 0) : Type 0 where
  pub still : (l : Ledger) → R l l
  pub then : (l m n : Ledger) → R l m → R m n → R l n
  pub line : (n m : ℕ) (f : Fate) → Fine f → (l : Ledger) → R l (record { packet = n; length = m; fate = f } ∷ l)
  pub turned : (these : Fate → Bool) → ((f : Fate) → these f ≡ true → is_settled f ≡ false) → (g : Fate) → Fine g → (l : Ledger) → R l (turn these g l)
  -- held, and passed over
  pub holds : Fine Held
  pub passes : (why : Why) (x : ℕ) → Fine (Passed why x)

held_open : (f : Fate) → is_held f ≡ true → is_settled f ≡ false
held_open Held h = refl
held_open (Waiting y) h = refl
held_open (Counted y) h = sym h
held_open (Passed why y) h = sym h

waiting_open : (x : ℕ) (f : Fate) → is_waiting x f ≡ true → is_settled f ≡ false
waiting_open x Held h = refl
waiting_open x (Waiting y) h = refl
waiting_open x (Counted y) h = sym h
waiting_open x (Passed why y) h = sym h

module _ {Fine : Fate → Type 0} {R : Ledger → Ledger → Type 0} (r : Steps Fine R) where
  -- what an end makes of the payload that it used is fine
  abbrev Used : Bool → Type 0
  Used success = (x : ℕ) (why : Why) (complete : Bool) (w : World) → Fine (used_at x (grouped x success complete w).effect (Passed why x))

  pass-steps : (why : Why) (w : World) (l : Ledger) → R l (pass_held why w l)
  pass-steps why w l = r.turned is_held held_open (Passed why w.transaction.endpoint) (r.passes why w.transaction.endpoint) l

  enter-steps : (high : Bool) (n : ℕ) (p : List ℕ) (f : Fate) → Fine f → (l m : Ledger) → R l m → R l (enter high n p f m)
  enter-steps high n p f ok l m h = by (is_data high p)
    where
      by : (b : Bool) → R l (pick b (record { packet = n; length = length p - 3; fate = f } ∷ m) m)
      by true = r.then l m _ h (r.line n (length p - 3) f ok m)
      by false = h

  end-steps : (b : Bool) (x : ℕ) (success : Bool) (f : Effect) → ((why : Why) → Fine (used_at x f (Passed why x))) → (l : Ledger) → R l (end_at b x success f l)
  end-steps true x success f ok l =
      let m = turn (is_waiting x) (Passed Waited x) l in
      r.then l m _ (r.turned (is_waiting x) (waiting_open x) (Passed Waited x) (r.passes Waited x) l) (r.turned is_held held_open (used_at x f (Passed (pick success Unused Failed) x)) (ok (pick success Unused Failed)) m)
  end-steps false x success f ok l = r.turned (is_waiting x) (waiting_open x) (used_at x f (Passed Waited x)) (ok Waited) l

  ends-steps : (success : Bool) → Used success → (complete : Bool) (w : World) (l m : Ledger) → R l m → R l (ends success complete w m)
  ends-steps success ok complete w l m h = at w.slot
    where
      x : ℕ
      x = w.transaction.endpoint

      f : Effect
      f = (grouped x success complete w).effect

      by : (z : Bool) → R l (pick z (pass_held Forgotten w m) (end_at w.transaction.filled x success f m))
      by true = r.then l m _ h (pass-steps Forgotten w m)
      by false = r.then l m _ h (end-steps w.transaction.filled x success f (λ why. ok x why complete w) m)

      at : (s : Slot) → R l (end_by s success complete w m)
      at Empty = h
      at Current = by (eqb x 0)
      at Suspended = h

  takes-steps : (high : Bool) (n pid : ℕ) (p : List ℕ) (w : World) (l : Ledger) → R l (takes high n pid p w l)
  takes-steps high n pid p w l = by (is_payload high w.transaction.style pid)
    where
      by : (b : Bool) → R l (pick b (enter high n p Held (pass_held Replaced w l)) (enter high n p (Passed Setup w.transaction.endpoint) l))
      by true = enter-steps high n p Held r.holds l (pass_held Replaced w l) (pass-steps Replaced w l)
      by false = enter-steps high n p (Passed Setup w.transaction.endpoint) (r.passes Setup w.transaction.endpoint) l l (r.still l)

  by-steps : (high : Bool) → Used false → (z : Status) → (is_earning z ≡ true → Used true) → (n pid : ℕ) (p : List ℕ) (complete : Bool) (w : World) (l : Ledger) → R l (turn_by high z n pid p complete w l)
  by-steps high fails z earning n pid p complete w l = by z earning
    where
      m : Ledger
      m = takes high n pid p w l

      t : R l m
      t = takes-steps high n pid p w l

      v : World
      v = transaction_append pid p (extracted high pid p w)

      by : (z : Status) → (is_earning z ≡ true → Used true) → R l (turn_by high z n pid p complete w l)
      by New y = ends-steps false fails false (brought high pid p w) l m t
      by Continue y = t
      by Retry y = ends-steps true (y refl) complete v l m t
      by Done y = ends-steps true (y refl) complete v l m t
      by Fail y = ends-steps false fails complete v l m t
      by Ambiguous y = t
      by Invalid y =
          ends-steps false fails false (transaction_start n pid p w) l (enter high n p (Passed Stray 0) (pass_held Replaced w l)) (enter-steps high n p (Passed Stray 0) (r.passes Stray 0) l (pass_held Replaced w l) (pass-steps Replaced w l))

  packet-steps : (high : Bool) → Used false → (p : List ℕ) (time : ℕ) (w : World) → ((not (is_dropped w.slot w.transaction) && is_earning (status_in high p w)) ≡ true → Used true) → (l : Ledger) → R l (packet_turns high p time w l)
  unfolding packet_turns
  packet-steps high fails p time w earning l = by (is_dropped w.slot w.transaction) earning
    where
      v : World
      v = push_packet w.bytes time (append_bytes p (with_event_state Idle (stamped time (reason_of p) w)))

      t : Transaction
      t = let u = resume_at w.slot w.packets v in state_at u.slot u.transaction

      j : Judged
      j = transaction_status high t p

      -- the packet's own rows are not looked at
      same : (s : Slot) → (let u = resume_at s w.packets v in state_at u.slot u.transaction) ≡ (let u = resume_at s w.packets w in state_at u.slot u.transaction)
      same Empty = refl
      same Current = refl
      same Suspended = refl

      status_same : j.status ≡ status_in high p w
      status_same = ap (λ (t : Transaction). (transaction_status high t p).status) (same w.slot)

      by : (b : Bool) → ((not b && is_earning (status_in high p w)) ≡ true → Used true) → R l (pick b (enter high w.packets p (Passed Dropped 0) (pass_held Forgotten w l)) (turn_from high w.packets p (resume_at w.slot w.packets v) l))
      by true y = enter-steps high w.packets p (Passed Dropped 0) (r.passes Dropped 0) l (pass_held Forgotten w l) (pass-steps Forgotten w l)
      by false y = by-steps high fails j.status (λ h. y (sym (ap is_earning status_same) ∙ h)) w.packets j.pid p (completes t.style j.status) (resume_at w.slot w.packets v) l

  call-steps : (high : Bool) → Used false → (k : Call) (w : World) → (earns high k w ≡ true → Used true) → (l : Ledger) → R l (turns high k w l)
  call-steps high fails (packet p time shelf) w earning l = packet-steps high fails p time (with_shelf shelf w) (λ h. earning (shelved h)) l
    where
      -- nor is the shelf
      same : (s : Slot) → (let u = resume_at s w.packets (with_shelf shelf w) in state_at u.slot u.transaction) ≡ (let u = resume_at s w.packets w in state_at u.slot u.transaction)
      same Empty = refl
      same Current = refl
      same Suspended = refl

      shelved : (not (is_dropped w.slot w.transaction) && is_earning (status_in high p (with_shelf shelf w))) ≡ true → (not (is_dropped w.slot w.transaction) && is_earning (status_in high p w)) ≡ true
      shelved h = ap (λ (t : Transaction). not (is_dropped w.slot w.transaction) && is_earning (transaction_status high t p).status) (sym (same w.slot)) ∙ h
  call-steps high fails (event kind code time) w earning l = by (eqb kind 0)
    where
      at : (s : Slot) → R l (suspends s w l)
      at Empty = r.still l
      at Current = r.still l
      at Suspended = pass-steps Forgotten w l

      by : (b : Bool) → R l (pick b (suspends w.slot w l) (ends false false w l))
      by true = at w.slot
      by false = ends-steps false fails false w l l (r.still l)
  call-steps high fails (detail address number direction kind max) w earning l = r.still l
  call-steps high fails finishing w earning l = ends-steps false fails false w l l (r.still l)

-- ---- when a payload is counted

abbrev Uncounted : Fate → Type 0
Uncounted f = (e : ℕ) → is_counted e f ≡ false

abbrev SameCounted : Ledger → Ledger → Type 0
SameCounted l m = (e : ℕ) → lengths_of (is_counted e) m ≡ lengths_of (is_counted e) l

open_uncounted : (e : ℕ) (f : Fate) → is_settled f ≡ false → is_counted e f ≡ false
open_uncounted e Held h = refl
open_uncounted e (Waiting y) h = refl
open_uncounted e (Counted y) h = absurd (true≢false h)
open_uncounted e (Passed why y) h = refl

counted-steps : Steps Uncounted SameCounted
counted-steps =
    record {
      still = λ l e. refl;
      then = λ l m n p q e. q e ∙ p e;
      line = λ n m f u l e. ap (λ (b : Bool). lengths_of (is_counted e) l ++ pick b (m ∷ []) []) (u e) ∙ append-nil (lengths_of (is_counted e) l);
      turned = λ these c g u l e.
          moved (is_counted e) these (λ f h. open_uncounted e f (c f h)) g l (λ h. absurd (true≢false (sym h ∙ u e)))
          ∙ (ap (λ (b : Bool). lengths_of (is_counted e) l ++ pick b (lengths_of these l) []) (u e) ∙ append-nil (lengths_of (is_counted e) l));
      holds = λ e. refl;
      passes = λ why x e. refl;
    }

-- a transaction that did not go well counts none
failed : (x : ℕ) (why : Why) (f : Effect) (known : Bool) (n : ℕ) → Feeds false known n f → Uncounted (used_at x f (Passed why x))
failed x why NoEffect known n h e = refl
failed x why (NewDevice address) known n h e = refl
failed x why (Request m) known n h e = refl
failed x why (PendingData m) known n h e = refl
failed x why (IndexData m waited i) known n h e = absurd (true≢false (sym h.0))

earned : (high : Bool) (k : Call) (w : World) (l : Ledger) → earns high k w ≡ false → SameCounted l (turns high k w l)
earned high k w l h =
    call-steps counted-steps high
    (λ x why complete v. failed x why (grouped x false complete v).effect (payload_of (v.endpoints x) v.transaction).known (payload_of (v.endpoints x) v.transaction).len (group_feeds (v.endpoints x) v.transaction (detail_of x v) false complete))
    k w (λ q. absurd (true≢false (sym q ∙ h))) l

-- ---- what is settled stays

abbrev Keeps : Ledger → Ledger → Type 0
Keeps l m = (a : Line) → is_settled a.fate ≡ true → Among a l → Among a m

turn-keeps : (these : Fate → Bool) → ((f : Fate) → these f ≡ true → is_settled f ≡ false) → (g : Fate) (l : Ledger) → Keeps l (turn these g l)
turn-keeps these c g [] a s h = h
turn-keeps these c g (b ∷ l) a s (inl q) = inl (q ∙ λ i. record { packet = b.packet; length = b.length; fate = same (these b.fate) (c b.fate) i })
  where
    same : (t : Bool) → (t ≡ true → is_settled b.fate ≡ false) → b.fate ≡ pick t g b.fate
    same true o = absurd (true≢false (sym (ap (λ (x : Line). is_settled x.fate) (sym q) ∙ s) ∙ o refl))
    same false o = refl
turn-keeps these c g (b ∷ l) a s (inr h) = inr (turn-keeps these c g l a s h)

settled-steps : Steps (λ f. Unit {0}) Keeps
settled-steps =
    record {
      still = λ l a s h. h;
      then = λ l m n p q a s h. q a s (p a s h);
      line = λ n m f u l a s h. inr h;
      turned = λ these c g u l. turn-keeps these c g l;
      holds = tt;
      passes = λ why x. tt;
    }

settled : (high : Bool) (k : Call) (w : World) (l : Ledger) → Keeps l (turns high k w l)
settled high k w l = call-steps settled-steps high (λ x why complete v. tt) k w (λ h x why complete v. tt) l

-- ---- the laws

pub laws : (high : Bool) → Laws high
laws high = record { account = call_account high; entered_by = call-entered high; earned = earned high; settled = settled high }
