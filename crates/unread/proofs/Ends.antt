-- The end of a transaction: the bytes that count on its endpoint then were laid by, and a payload that waits then is where no IN brings data.
use Prim.Native.Nat.{ℕ, zero, suc, ◌+◌, ◌*◌, ◌≤◌, ◌<◌, min}
use native.Mathlib.Nat.{le_refl}
use native.Mathlib.Omega.{arith}
use mathlib.Core.Path.{◌≡◌, refl, sym, ap, subst, ◌∙◌}
use mathlib.Core.Bool.{Bool, true, false, ◌&&◌, not}
use mathlib.Core.List.{List}
use mathlib.Core.Logic.{◌⊎◌, inl, inr}
use borrow.Author.Tests.{eqb-true, eqb-false, eq-eqb}
use lib.Dec.{eqb}
use Rattle.usb.specs.Pid.{IN, OUT}
use Rattle.usb.specs.Types.{Control}
use Rattle.transaction.specs.Payload.{start_pid}
use Rattle.transaction.specs.Table.{pick}
use Rattle.transaction.specs.declared.Transaction.{Transaction}
use Rattle.details.specs.Details.{fresh, details_of}
use Rattle.details.specs.declared.Device.{Device}
use Rattle.endpoints.specs.declared.Endpoint.{Endpoint}
use Rattle.endpoints.specs.declared.Phase.{Phase}
use Rattle.endpoints.specs.declared.Phase.TheVariants.{None, Early, Active, Ended}
use Rattle.group.specs.Setup.{direction}
use Rattle.group.specs.Step.{payload, payload_of, is_active, step_of, taken}
use Rattle.group.specs.declared.Effect.{Effect}
use Rattle.group.specs.declared.Effect.TheVariants.{NoEffect, NewDevice, Request, PendingData, IndexData}
use Rattle.group.specs.declared.Grouped.{Grouped}
use Rattle.group.specs.declared.GroupStatus.{GroupStatus}
use Rattle.group.specs.declared.GroupStatus.TheVariants.{Single, New, Continue, Retry, Done, Invalid}
use Rattle.group.specs.declared.step.Step.{Step}
use Rattle.group.proofs.Laws.{Kept, group-keeps}
use Rattle.descriptors.specs.Kind.{kind_of}
use Rattle.descriptors.specs.Laid.{is_laid}
use Rattle.rules.specs.World.{World, phase, change, more_transactions, with_pending, with_total}
use Rattle.rules.specs.Endpoints.{add_device, detail_of}
use Rattle.rules.specs.Groups.{grouped, becomes}
use Rattle.update.specs.Entry.{over_entry, end_entry, ended_entry, close_entry, start_entry, become_entry, entry_after}
use Rattle.update.specs.Update.{when, starts, appends, ends, act, decide_update}
use Rattle.update.specs.declared.Then.{Then}
use Rattle.update.specs.declared.Then.TheVariants.{Keep, Begin, BeginFailed, Last, BeginEarly}
use Rattle.update.specs.declared.Update.{Update}
use Rattle.update.proofs.After.{act-entry}
use Rattle.plan.specs.Devices.{asks, length_of}
use Rattle.plan.proofs.Frame.{when-keeps}
use Rattle.record.specs.Bools.{both}
use Rattle.demands.specs.Shelf.{Agree}
use Rattle.unread.proofs.Fair.{leaves, Grew, Steady, Fair, group_fair}
use Rattle.unread.proofs.Kin.{Mild, Plain, plain, view, Aims, Still, Brings, Tame, act_mild, other-awaits, link-awaits, agree_at}
use Rattle.unread.proofs.Stages.{never, awaits, out-last, out-setup}

-- ---- what an update makes of its endpoint

-- the last token of its group
abbrev last_by : Then → ℕ → ℕ → ℕ
last_by Keep pid n = n
last_by Begin pid n = pid
last_by BeginFailed pid n = pid
last_by Last pid n = pid
last_by BeginEarly pid n = n

become-last : (t : Then) (pid : ℕ) (e : Endpoint) → (become_entry t pid e).last ≡ last_by t pid e.last
become-last Keep pid e = refl
become-last Begin pid e = refl
become-last BeginFailed pid e = refl
become-last Last pid e = refl
become-last BeginEarly pid e = refl

last-after : (u : Update) (pid : ℕ) (e : Endpoint) → (entry_after u pid e).last ≡ last_by u.group pid e.last
unfolding entry_after
last-after u pid e =
    let l : Endpoint → ℕ = λ a. a.last in
    let a = when u.over over_entry e in
    let b = when u.cut end_entry a in
    let c = when u.link more_transactions b in
    let d = when u.start start_entry c in
    let f = become_entry u.group pid d in
    when-keeps l u.item close_entry (λ v. refl) (when u.end ended_entry f)
    ∙ (when-keeps l u.end ended_entry (λ v. refl) f
    ∙ (become-last u.group pid d
    ∙ ap (last_by u.group pid)
    (when-keeps l u.start start_entry (λ v. refl) c
    ∙ (when-keeps l u.link more_transactions (λ v. refl) b ∙ (when-keeps l u.cut end_entry (λ v. refl) a ∙ when-keeps l u.over over_entry (λ v. refl) e)))))

-- behind an OUT its endpoint awaits data only where it did before
out-group : (u : Update) (e : Endpoint) → last_by u.group OUT e.last ≡ OUT → awaits (entry_after u OUT e) ≡ true → ⊥
out-group u e q h = out-last (entry_after u OUT e) (last-after u OUT e ∙ q) h

starts-last : (t : Then) (p : Phase) (l : Bool) (n : ℕ) → last_by t OUT n ≡ OUT → last_by (starts t p l).group OUT n ≡ OUT
starts-last t None l n q = q
starts-last t Early l n q = q
starts-last t Active l n q = q
starts-last t Ended l n q = q

appends-last : (p : Phase) (l : Bool) (n : ℕ) → last_by (appends Begin Last p l).group OUT n ≡ OUT
appends-last None l n = refl
appends-last Early l n = refl
appends-last Active l n = refl
appends-last Ended l n = refl

out-awaits : (s : GroupStatus) (p : Phase) (l same : Bool) (e : Endpoint) → awaits (entry_after (decide_update s p l same) OUT e) ≡ true → awaits e ≡ true
out-awaits Single p l same e h = absurd (out-group (ends same (starts Begin p l)) e (starts-last Begin p l e.last refl) h)
out-awaits New p l same e h = absurd (out-group (starts Begin p l) e (starts-last Begin p l e.last refl) h)
out-awaits Continue p l same e h = absurd (out-group (appends Begin Last p l) e (appends-last p l e.last) h)
out-awaits Retry None l same e h = absurd (out-group (starts BeginFailed None l) e refl h)
out-awaits Retry Early l same e h = absurd (out-group (starts BeginFailed Early l) e refl h)
out-awaits Retry Active l same e h = link-awaits (not l) OUT e h
out-awaits Retry Ended l same e h = absurd (out-group (starts BeginFailed Ended l) e refl h)
out-awaits Done p l same e h = absurd (out-group (ends same (appends Begin Last p l)) e (appends-last p l e.last) h)
out-awaits Invalid p l same e h = absurd (out-group (ends same (starts BeginFailed p l)) e (starts-last BeginFailed p l e.last refl) h)

-- a group that begins has no payload
new-payload : (p : Phase) (l same : Bool) (pid : ℕ) (e : Endpoint) → (entry_after (decide_update New p l same) pid e).payload ≡ 0
unfolding entry_after
new-payload None true same pid e = refl
new-payload None false same pid e = refl
new-payload Early l same pid e = refl
new-payload Active true same pid e = refl
new-payload Active false same pid e = refl
new-payload Ended true same pid e = refl
new-payload Ended false same pid e = refl

-- number 0 is control
zero_control : (d : Device) (a : ℕ) → a ≡ 0 → (details_of d a).kind ≡ Control
unfolding details_of
zero_control d a q = subst (λ (n : ℕ). (details_of d n).kind ≡ Control) (sym q) refl

-- ---- on a world, before the effect

module _ (h g : List ℕ) (success complete : Bool) (w : World) (s : Still h g (view w)) (ready : success ≡ true → Brings h g (plain w)) where
  abbrev x : ℕ
  x = w.transaction.endpoint

  abbrev e : Endpoint
  e = w.endpoints x

  abbrev t : Transaction
  t = w.transaction

  abbrev r : Grouped
  r = grouped x success complete w

  abbrev step : Step
  step = step_of e t (detail_of x w) success complete

  abbrev w1 : World
  w1 = change x (becomes r.endpoint) w

  abbrev pub u : Update
  u = decide_update r.status (phase x w1) w1.transaction.linked (eqb w1.last_item x)

  abbrev pub w2 : World
  w2 = act u x w1

  keeps : Kept (taken e) (payload_of e t).len r
  keeps = group-keeps e t (detail_of x w) success complete

  fair : Fair e step r
  fair = group_fair e t (detail_of x w) success complete

  own : w1.endpoints x ≡ r.endpoint
  own = ap (λ (b : Bool). pick b r.endpoint e) (eq-eqb x x refl)

  mild : Mild (plain w1) (plain w2)
  mild = act_mild u x w1

  -- the endpoint then
  last : w2.endpoints x ≡ entry_after u (start_pid t.style) r.endpoint
  last = act-entry u x w1 ∙ ap (entry_after u (start_pid t.style)) own

  -- what group_status keeps of every endpoint
  same : (f : Endpoint → ℕ) → f r.endpoint ≡ f e → (j : ℕ) → f (w1.endpoints j) ≡ f (w.endpoints j)
  same f q j = by (eqb j x) refl
    where
      by : (b : Bool) → eqb j x ≡ b → f (pick b r.endpoint (w.endpoints j)) ≡ f (w.endpoints j)
      by true z = q ∙ ap (λ (k : ℕ). f (w.endpoints k)) (sym (eqb-true j x z))
      by false z = refl

  device2 : (j : ℕ) → (w2.endpoints j).device ≡ (w.endpoints j).device
  device2 j = mild.device j ∙ same (λ a. a.device) keeps.device j

  address2 : (j : ℕ) → (w2.endpoints j).address ≡ (w.endpoints j).address
  address2 j = mild.address j ∙ same (λ a. a.address) keeps.address j

  setup2 : (w2.endpoints x).setup ≡ r.endpoint.setup
  setup2 = mild.setup x ∙ ap (λ (a : Endpoint). a.setup) own

  -- ---- its payload

  -- nothing waits where an IN brings data
  unwaited : success ≡ true → start_pid t.style ≡ IN → awaits e ≡ true → e.pending ≡ false
  unwaited c i a = by e.pending refl
    where
      no : (e.address < 128) × (e.address ≡ 0 → awaits e ≡ true → ⊥) → (128 ≤ e.address) ⊎ (e.address ≡ 0) → ⊥
      no q (inl l) = let k = q.0 in omega arith
      no q (inr z) = q.1 z a

      by : (b : Bool) → e.pending ≡ b → e.pending ≡ false
      by true q = absurd (no (s.waits x q) ((ready c).aims.0 i))
      by false q = q

  more : success ≡ true → start_pid t.style ≡ IN → awaits e ≡ true → is_laid (kind_of e.setup) ≡ true → Agree (e.device * 8192) (min r.endpoint.payload 4096) h g
  more c i a l = by t.filled refl
    where
      len : (f : Bool) → t.filled ≡ f → (payload_of e t).len ≡ pick f t.payload 0
      len true q = ap (λ (b : Bool). (pick b (payload true t.payload false 0) (pick e.pending (payload true e.pendinglength true e.pendinglink) (payload false 0 false 0))).len) q
      len false q =
          ap (λ (b : Bool). (pick b (payload true t.payload false 0) (pick e.pending (payload true e.pendinglength true e.pendinglink) (payload false 0 false 0))).len) q
          ∙ ap (λ (b : Bool). (pick b (payload true e.pendinglength true e.pendinglink) (payload false 0 false 0)).len) (unwaited c i a)

      by : (f : Bool) → t.filled ≡ f → Agree (e.device * 8192) (min r.endpoint.payload 4096) h g
      by true q =
          agree_at h g e.device e.device r.endpoint.payload (e.payload + t.payload) refl (let k = keeps.payload in let n = len true q in omega arith)
          ((ready c).bytes i q l)
      by false q =
          agree_at h g e.device e.device r.endpoint.payload e.payload refl (let k = keeps.payload in let n = len false q in omega arith) (s.payload x l)

  own-payload : is_laid (kind_of (w2.endpoints x).setup) ≡ true → Agree ((w2.endpoints x).device * 8192) (min (w2.endpoints x).payload 4096) h g
  own-payload q = by fair.kept
    where
      laid : is_laid (kind_of r.endpoint.setup) ≡ true
      laid = ap (λ (k : ℕ). is_laid (kind_of k)) (sym setup2) ∙ q

      fewer : (w2.endpoints x).payload ≤ r.endpoint.payload
      fewer = let m = mild.payload x in let o = ap (λ (a : Endpoint). a.payload) own in omega arith

      grown : (k : Steady e step r) → (r.endpoint.payload ≤ e.payload) ⊎ Grew e step → Agree ((w2.endpoints x).device * 8192) (min (w2.endpoints x).payload 4096) h g
      grown k (inl l) =
          agree_at h g e.device (w2.endpoints x).device (w2.endpoints x).payload e.payload (device2 x) (let f = fewer in omega arith)
          (s.payload x (ap (λ (n : ℕ). is_laid (kind_of n)) (sym k.setup) ∙ laid))
      grown k (inr b) =
          agree_at h g e.device (w2.endpoints x).device (w2.endpoints x).payload r.endpoint.payload (device2 x) fewer
          (more b.success b.next b.awaited (ap (λ (n : ℕ). is_laid (kind_of n)) (sym k.setup) ∙ laid))

      cleared : r.status ≡ New → (w2.endpoints x).payload ≡ 0
      cleared z =
          ap (λ (a : Endpoint). a.payload) last
          ∙ (ap (λ (n : GroupStatus). (entry_after (decide_update n (phase x w1) t.linked (eqb w.last_item x)) (start_pid t.style) r.endpoint).payload) z
          ∙ new-payload (phase x w1) t.linked (eqb w.last_item x) (start_pid t.style) r.endpoint)

      by : (r.status ≡ New) ⊎ Steady e step r → Agree ((w2.endpoints x).device * 8192) (min (w2.endpoints x).payload 4096) h g
      by (inl z) = subst (λ (n : ℕ). Agree ((w2.endpoints x).device * 8192) (min n 4096) h g) (sym (cleared z)) refl
      by (inr k) = grown k (k.payload (ap (λ (n : ℕ). is_laid (kind_of n)) (sym k.setup) ∙ laid))

  -- ---- so all is as it was, but for what waits at its endpoint

  rest : (act u x w1).device_count ≡ w.device_count
  rest = mild.devices

  pub closed_still : Still h g (view w2)
  closed_still =
      record {
        long = s.long;
        three = omega (arith, mild.count, s.three);
        event = address2 0 ∙ s.event;
        owner = λ j. omega (arith, device2 j, mild.devices, s.owner j);
        entries = λ i l. subst (λ (k : ℕ). Agree (i * 8192 + 4096) (min k 585 * 7) h g) (sym (mild.kept i)) (s.entries i (omega (arith, mild.devices)));
        payload = λ j. on j (eqb j x) refl;
        waits = λ j. at j (eqb j x) refl;
      }
    where
      on : (j : ℕ) (b : Bool) → eqb j x ≡ b → is_laid (kind_of (w2.endpoints j).setup) ≡ true → Agree ((w2.endpoints j).device * 8192) (min (w2.endpoints j).payload 4096) h g
      on j true q l = subst (λ (k : ℕ). is_laid (kind_of (w2.endpoints k).setup) ≡ true → Agree ((w2.endpoints k).device * 8192) (min (w2.endpoints k).payload 4096) h g) (sym (eqb-true j x q)) own-payload l
      on j false q l =
          let z : w1.endpoints j ≡ w.endpoints j = ap (λ (b : Bool). pick b r.endpoint (w.endpoints j)) q in
          agree_at h g (w.endpoints j).device (w2.endpoints j).device (w2.endpoints j).payload (w.endpoints j).payload (device2 j)
          (let m = mild.payload j in let o = ap (λ (a : Endpoint). a.payload) z in omega arith)
          (s.payload j (ap (λ (n : ℕ). is_laid (kind_of n)) (sym (mild.setup j ∙ ap (λ (a : Endpoint). a.setup) z)) ∙ l))

      at : (j : ℕ) (b : Bool) → eqb j x ≡ b → (w2.endpoints j).pending ≡ true → ((w2.endpoints j).address < 128) × ((w2.endpoints j).address ≡ 0 → awaits (w2.endpoints j) ≡ true → ⊥)
      at j true q p =
          let z : (w1.endpoints j).pending ≡ false = ap (λ (b : Bool). (pick b r.endpoint (w.endpoints j)).pending) q ∙ keeps.pending in
          never (sym (mild.pending j ∙ z) ∙ p)
      at j false q p =
          let z : w1.endpoints j ≡ w.endpoints j = ap (λ (b : Bool). pick b r.endpoint (w.endpoints j)) q in
          let k = s.waits j (sym (mild.pending j ∙ ap (λ (a : Endpoint). a.pending) z) ∙ p) in
          (omega (arith, address2 j, k.0), λ o y. k.1 (sym (address2 j) ∙ o) (sym (other-awaits u x j w1 (eqb-false j x q) ∙ ap awaits z) ∙ y))

  -- a payload that waits there then
  pub closed-waits : success ≡ true → leaves r.effect ≡ true → ((w2.endpoints x).address < 128) × ((w2.endpoints x).address ≡ 0 → awaits (w2.endpoints x) ≡ true → ⊥)
  closed-waits c q =
      let f = fair.waits q in
      let out = f.0 in
      let a = (ready c).aims.1 out in
      (omega (arith, address2 x, a), λ z y. no f (sym (address2 x) ∙ z) (ap awaits (sym last) ∙ y))
    where
      no : (start_pid t.style ≡ OUT) × ((r.endpoint.setup ≡ e.setup) × ((detail_of x w).kind ≡ Control → (is_active e.phase && e.done) ≡ true → direction e.setup ≡ 0))
          → e.address ≡ 0 → awaits (entry_after u (start_pid t.style) r.endpoint) ≡ true → ⊥
      no f z y =
          let o : awaits (entry_after u OUT r.endpoint) ≡ true = subst (λ (pid : ℕ). awaits (entry_after u pid r.endpoint) ≡ true) f.0 y in
          let b = out-awaits r.status (phase x w1) t.linked (eqb w.last_item x) r.endpoint o in
          let p = both (is_active r.endpoint.phase) _ b in
          let d = both r.endpoint.done _ p.1 in
          let active : (is_active e.phase && e.done) ≡ true = ap (λ (v : Bool). v && e.done) (ap is_active (sym keeps.phase) ∙ p.0) ∙ (sym keeps.done ∙ d.0) in
          out-setup r.endpoint (ap direction f.1.0 ∙ f.1.1 (zero_control (w.devices e.device) e.address z) active) b

  -- what a request that completes is asked
  pub closed-asked : (n : ℕ) → r.effect ≡ Request n → is_laid (kind_of (w2.endpoints x).setup) ≡ true → Agree ((w2.endpoints x).device * 8192) (min n 4096) h g
  closed-asked n q l =
      let a = fair.asked (ap asks q) in
      let k : n ≡ e.payload = sym (ap length_of q) ∙ a.0 in
      agree_at h g e.device (w2.endpoints x).device n e.payload (device2 x) (omega arith) (s.payload x (ap (λ (m : ℕ). is_laid (kind_of m)) (sym (setup2 ∙ a.1)) ∙ l))
