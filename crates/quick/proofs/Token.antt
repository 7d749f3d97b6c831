-- A token that is taken as begin-only, of what the code has: each part with its equation.
use mathlib.Core.Path.{◌≡◌, refl, sym, ap, subst, ◌∙◌}
use mathlib.Core.Bool.{Bool, true, false, ◌||◌, not, true≢false, false≢true}
use mathlib.Core.List.{List, []}
use mathlib.Core.Logic.{◌⊎◌, inl, inr}
use Prim.Native.Nat.{ℕ, ◌≤◌}
use native.Mathlib.Omega.{arith}
use borrow.Author.Tests.{eqb-true}
use lib.Dec.{eqb}
use Rattle.usb.specs.Pid.{SPLIT, MALFORMED, SOF}
use Rattle.details.specs.Kind.{Framing}
use Rattle.details.specs.declared.Detail.{Detail}
use Rattle.std.specs.Prelude.{Option, Some}
use Rattle.endpoints.specs.Table.{entry_at}
use Rattle.endpoints.specs.declared.Endpoint.{Endpoint}
use Rattle.endpoints.specs.declared.Phase.{Phase}
use Rattle.endpoints.specs.declared.Phase.TheVariants.{None, Early, Active, Ended}
use Rattle.transaction.specs.Payload.{start_pid}
use Rattle.transaction.specs.Status.{judged, transaction_status}
use Rattle.transaction.specs.Table.{pick}
use Rattle.transaction.specs.declared.Status.TheVariants.{New}
use Rattle.transaction.specs.declared.Style.TheVariants.{Simple}
use Rattle.transaction.specs.declared.Transaction.{Transaction}
use Rattle.group.specs.Step.{is_active}
use Rattle.rules.specs.Groups.{starts_early}
use Rattle.rules.specs.Endpoints.{detail_of}
use Rattle.rules.specs.Transactions.{state_at}
use Rattle.rules.specs.World.{World, framing_ep, new_transaction}
use Rattle.rules.specs.declared.Slot.{Slot}
use Rattle.rules.specs.declared.Slot.TheVariants.{Empty, Current, Suspended}
use Rattle.update.specs.Update.{links, early, decide_early_start, decide_early_append}
use Rattle.update.specs.declared.Then.TheVariants.{Keep}
use Rattle.update.specs.declared.Update.{Update}
use Rattle.record.specs.Bools.{both, neither}
use Rattle.record.specs.World.{world_of}
use Rattle.record.specs.declared.Decoder.{Decoder}
use Rattle.plan.specs.Packet.{old_endpoint, type_by, plan_of}
use Rattle.plan.specs.declared.Place.{Place}
use Rattle.decide.specs.Near.{ForSeen, found_on, detail_by, standing_on}
use Rattle.decide.specs.Ready.{Ready}
use Rattle.decide.specs.declared.near.Near.{Near}
use Rattle.decide.proofs.Places.{place_found}
use Rattle.quick.specs.Shaped.{begin_shape, rests_on, is_free, Begun, Shaped}
use Rattle.quick.specs.declared.shape.Shape.{Shape}
use Rattle.quick.proofs.Fit.{off}
use Rattle.quick.proofs.Packets.{begun_shaped, Token, token_begins, Resting, rest-begins}

-- a group that starts early has the flag
early-starts : (p : Phase) → (early p false).start ≡ true
early-starts None = refl
early-starts Early = refl
early-starts Active = refl
early-starts Ended = refl

not-early : (pid : ℕ) (p : Phase) → (decide_early_start pid p false).start ≡ false → starts_early pid p ≡ false
not-early pid p = by (starts_early pid p)
  where
    by : (b : Bool) → (pick b (early p false) (links false Keep)).start ≡ false → b ≡ false
    by true h = absurd (true≢false (sym (early-starts p) ∙ h))
    by false h = refl

-- ---- what is free

free-empty : (s : Slot) (t : Transaction) (old : Detail) (e : Endpoint) → is_free s t old e ≡ true → (s ≡ Empty) ⊎ ((s ≡ Current) × (rests_on t old e ≡ true))
free-empty Empty t old e h = inl refl
free-empty Current t old e h = inr (refl, h)
free-empty Suspended t old e h = absurd (false≢true h)

active-is : (p : Phase) → is_active p ≡ true → p ≡ Active
active-is None h = absurd (false≢true h)
active-is Early h = absurd (false≢true h)
active-is Active h = refl
active-is Ended h = absurd (false≢true h)

-- a SOF at rest, by the tests
resting_by : (w : World) (old : Detail) → rests_on w.transaction old (w.endpoints framing_ep) ≡ true → old ≡ detail_of w.transaction.endpoint w → 3 ≤ w.count → Resting w
resting_by w old h o c =
    let t = w.transaction in
    let e = w.endpoints framing_ep in
    let h1 = both (eqb t.endpoint framing_ep) _ h in
    let h2 = both (eqb (start_pid t.style) SOF) _ h1.1 in
    let h3 = both t.linked _ h2.1 in
    let h4 = both (is_active e.phase) _ h3.1 in
    let h5 = both e.done _ h4.1 in
    let h6 = both (eqb e.last SOF) _ h5.1 in
    let h7 = both (not e.pending) (eqb old.kind Framing) h6.1 in
    let at = eqb-true t.endpoint framing_ep h1.0 in
    let same = ap w.endpoints at in
    record {
      at = at;
      there = omega (arith, at, c);
      token = eqb-true _ _ h2.0;
      linked = h3.0;
      active = ap (λ (x : Endpoint). x.phase) same ∙ active-is e.phase h4.0;
      done = ap (λ (x : Endpoint). x.done) same ∙ h5.0;
      last = ap (λ (x : Endpoint). x.last) same ∙ eqb-true _ _ h6.0;
      idle = ap (λ (x : Endpoint). x.pending) same ∙ off e.pending h7.0;
      kind = sym (ap (λ (x : Detail). x.kind) o) ∙ eqb-true _ _ h7.1;
    }

-- ---- the token

module _ (d : Decoder) (table : List ℕ) (r : Ready d table) (near : Near) (packet : List ℕ) (pid i x0 : ℕ) where
  pub token_shaped : {f : Option ℕ} {detail : Detail} {e : Endpoint} {start append : Update} {kind : ℕ} {t : Transaction} {q : Shape}
      → x0 ≡ old_endpoint d.slot d.transaction → is_free d.slot d.transaction near.old (entry_at table framing_ep) ≡ true
      → transaction_status d.high (state_at d.slot d.transaction) packet ≡ judged pid New → (eqb pid MALFORMED || eqb pid SPLIT) ≡ false
      → f ≡ found_on near.found pid packet (world_of d [] table) → f ≡ Some i → detail ≡ detail_by pid near → e ≡ entry_at table i
      → start ≡ decide_early_start pid e.phase false → (start.start || eqb i x0) ≡ false
      → kind ≡ type_by detail.kind → t ≡ new_transaction (Simple pid) d.counts.transactions pid i kind → append ≡ decide_early_append t e → q ≡ begin_shape true append.link t
      → ForSeen near (old_endpoint d.slot d.transaction) packet d table (λ w. Shaped d.high q (plan_of d.high packet w) w)
  token_shaped {f} {detail} {e} {start} {append} {kind} {t} {q} old free new usual e1 e2 e3 e4 e5 e6 e7 e8 e9 e10 v s =
      subst (λ (x : Shape). Shaped d.high x (plan_of d.high packet w) w) (sym q1) (begun_shaped d.high _ _ _ (by (free-empty d.slot d.transaction near.old (entry_at table framing_ep) free)))
    where
      w : World
      w = world_of d v table

      o : ℕ
      o = old_endpoint d.slot d.transaction

      n : (start.start ≡ false) × (eqb i x0 ≡ false)
      n = neither start.start (eqb i x0) e6

      p : Place
      p = record { x = i; new = false; device = false; place = (entry_at table i).device; number = (entry_at table i).address; detail = detail; entry = entry_at table i }

      apart : eqb i o ≡ false
      apart = ap (eqb i) (sym old) ∙ n.1

      same : p ≡ standing_on o (entry_at table o) i detail (entry_at table i)
      same = λ k. record { x = i; new = false; device = false; place = (entry_at table i).device; number = (entry_at table i).address; detail = detail; entry = pick (sym apart k) (entry_at table o) (entry_at table i) }

      u : Transaction
      u = new_transaction (Simple pid) d.counts.transactions pid i (type_by detail.kind)

      t1 : t ≡ u
      t1 = e8 ∙ ap (new_transaction (Simple pid) d.counts.transactions pid i) e7

      q1 : q ≡ begin_shape true (decide_early_append u (entry_at table i)).link u
      q1 = e10 ∙ (ap (λ (a : Update). begin_shape true a.link t) e9 ∙ λ k. begin_shape true (decide_early_append (t1 k) (e4 k)).link (t1 k))

      token : Token packet pid o (entry_at table o) p w
      token =
          record {
            valid = (neither (eqb pid MALFORMED) (eqb pid SPLIT) usual).0;
            plain = (neither (eqb pid MALFORMED) (eqb pid SPLIT) usual).1;
            place = place_found d table r near o (entry_at table o) packet v s pid i e1 e2 e3 same;
            there = refl;
            known = refl;
            goes = not-early pid (entry_at table i).phase (sym (ap (λ (a : Update). a.start) e5 ∙ ap (λ (x : Endpoint). (decide_early_start pid x.phase false).start) e4) ∙ n.0);
          }

      by : (d.slot ≡ Empty) ⊎ ((d.slot ≡ Current) × (rests_on d.transaction near.old (entry_at table framing_ep) ≡ true)) → Begun d.high (begin_shape true (decide_early_append u (entry_at table i)).link u) (plan_of d.high packet w) w
      by (inl a) =
          token_begins d.high packet pid p w a (sym (ap (λ (x : Slot). transaction_status d.high (state_at x d.transaction) packet) a) ∙ new)
          (subst (λ (x : ℕ). Token packet pid x (entry_at table x) p w) (ap (λ (x : Slot). old_endpoint x d.transaction) a) token)
      by (inr a) =
          let held : o ≡ d.transaction.endpoint = ap (λ (x : Slot). old_endpoint x d.transaction) a.0 in
          rest-begins d.high packet pid p w a.0 (sym (ap (λ (x : Slot). transaction_status d.high (state_at x d.transaction) packet) a.0) ∙ new)
          (resting_by w near.old a.1 (s.old ∙ ap (λ (x : ℕ). detail_of x w) held) r.three)
          (subst (λ (x : ℕ). Token packet pid x (entry_at table x) p w) held token)
