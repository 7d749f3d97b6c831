-- What specs/Unread.antt claims: from a fresh decoder every call keeps what two shelves have in common (Kin), and so answers the same on both and leaves the same.
use Prim.Native.Nat.{ℕ, zero, suc, ◌+◌, ◌*◌, ◌≤◌, ◌<◌, min}
use native.Mathlib.Omega.{arith}
use mathlib.Core.Path.{◌≡◌, refl, sym, ap, subst, ◌∙◌}
use mathlib.Core.Bool.{Bool, true, false, cond}
use mathlib.Core.List.{List, [], ◌∷◌, ◌++◌}
use borrow.Author.Tests.{ltb-true, ltb-false}
use lib.Dec.{ltb}
use lib.ListN.{length}
use Rattle.transaction.specs.Payload.{start_pid}
use Rattle.transaction.specs.declared.Transaction.{Transaction}
use Rattle.details.specs.Details as details
use Rattle.details.specs.declared.Device.{Device}
use Rattle.endpoints.specs.Table.{new_endpoint}
use Rattle.endpoints.specs.Word as word
use Rattle.endpoints.specs.declared.Endpoint.{Endpoint}
use Rattle.descriptors.specs.Kind.{kind_of}
use Rattle.descriptors.specs.Laid.{is_laid}
use Rattle.rules.specs.Decoder.{fresh}
use Rattle.rules.specs.Demand.{Call, call}
use Rattle.rules.specs.Demand as rules
use Rattle.rules.specs.Rows.{Row}
use Rattle.rules.specs.World.{World, with_shelf}
use Rattle.rules.specs.declared.Slot.{Slot}
use Rattle.rules.specs.declared.Slot.TheVariants.{Empty, Current, Suspended}
use Rattle.record.proofs.FreshLaws.{Agrees}
use Rattle.record.specs.declared.Counts.{Counts}
use Rattle.record.specs.declared.Decoder.{Decoder}
use Rattle.call.specs.Outcome.{counts_after, decoder_of, accepts, Left, world_at}
use Rattle.call.proofs.OutcomeLaws.{unique}
use Rattle.call.specs.State.{Logs, State}
use Rattle.typed.specs.Detail.{Details}
use Rattle.start.specs.Fresh.{Makes}
use Rattle.start.proofs.FreshLaws.{fresh_stands}
use Rattle.packet.specs.Call.{after, PacketCall}
use Rattle.demands.specs.Sequence as demands
use Rattle.demands.specs.Sequence.{Sequence, made, then}
use Rattle.demands.specs.Shelf.{Agree}
use Rattle.demands.proofs.Kept.{blank-entry, kept}
use Rattle.demands.proofs.Shelves.{twins-answer}
use Rattle.demands.proofs.Steps.{answers, moved, stayed}
use Rattle.demands.proofs.Told.{counts-left}
use Rattle.demands.proofs.Unread.{Twin}
use Rattle.unread.specs.Unread.{Ask, packet, event, detail, finishing, Does, Calls, none, next, Unread}
use Rattle.unread.proofs.Blind.{Beside}
use Rattle.unread.proofs.Kin.{Plain, plain, View, view, Still, Brings, BringsIn, Kin}
use Rattle.unread.proofs.Others.{event_kin, detail_kin, finish_kin}
use Rattle.unread.proofs.Stages.{never, awaits}
use Rattle.unread.proofs.Walk.{packet-beside}

-- ---- a world and the state that is left of it

-- v says what w says of every endpoint and device that is there, and its other entries are blank
record Alike (w v : World) : Type 0 where
  pub count : v.count ≡ w.count
  pub devices : v.device_count ≡ w.device_count
  pub rows : (i : ℕ) → i < w.device_count → v.devices i ≡ w.devices i
  pub there : (x : ℕ) → x < w.count → v.endpoints x ≡ w.endpoints x
  pub beyond : (x : ℕ) → w.count ≤ x → v.endpoints x ≡ new_endpoint 0 0
  pub slot : v.slot ≡ w.slot
  pub transaction : v.transaction ≡ w.transaction

-- what is so of each entry of w, and of a blank one, is so of each of v
each-entry : (P : Endpoint → Type 0) {w v : World} → Alike w v → ((x : ℕ) → P (w.endpoints x)) → P (new_endpoint 0 0) → (x : ℕ) → P (v.endpoints x)
each-entry P {w} {v} a k z x = by (ltb x w.count) refl
  where
    by : (b : Bool) → ltb x w.count ≡ b → P (v.endpoints x)
    by true q = subst P (sym (a.there x (ltb-true x w.count q))) (k x)
    by false q = subst P (sym (a.beyond x (ltb-false x w.count q))) z

module _ (h g : List ℕ) where
  abbrev Owned : ℕ → Endpoint → Type 0
  Owned n e = e.device < n

  abbrev Counted : Endpoint → Type 0
  Counted e = is_laid (kind_of e.setup) ≡ true → Agree (e.device * 8192) (min e.payload 4096) h g

  abbrev Waiting : Endpoint → Type 0
  Waiting e = e.pending ≡ true → (e.address < 128) × (e.address ≡ 0 → awaits e ≡ true → ⊥)

  still_alike : {w v : World} → Alike w v → Still h g (view w) → Still h g (view v)
  still_alike {w} {v} a s =
      record {
        long = s.long;
        three = omega (arith, a.count, s.three);
        event = ap (λ (e : Endpoint). e.address) (a.there 0 (omega (arith, s.three))) ∙ s.event;
        owner = λ x. subst (λ (n : ℕ). (v.endpoints x).device < n) (sym a.devices) (each-entry (Owned w.device_count) a s.owner (omega (arith, s.owner 0)) x);
        entries = λ i l. (let r : i < w.device_count = omega (arith, a.devices) in
            subst (λ (d : Device). Agree (i * 8192 + 4096) (min d.kept 585 * 7) h g) (sym (a.rows i r)) (s.entries i r));
        payload = each-entry Counted a s.payload (λ r. refl);
        waits = each-entry Waiting a s.waits (λ r. never r);
      }

  -- of a transaction on an endpoint, of n that there are
  abbrev On : Transaction → ℕ → Endpoint → Type 0
  On t n e =
      Brings h g (record { count = n; devices = 0; kept = λ i. 0; device = λ y. e.device; address = λ y. e.address; setup = λ y. e.setup; payload = λ y. e.payload; pending = λ y. e.pending; slot = Empty; style = t.style; endpoint = t.endpoint; filled = t.filled; brought = t.payload })

  brings_alike : {w v : World} → Alike w v → Brings h g (plain w) → Brings h g (plain v)
  brings_alike {w} {v} a b =
      let x = w.transaction.endpoint in
      let e : v.endpoints x ≡ w.endpoints x = a.there x b.there in
      let own : On w.transaction w.count (w.endpoints x) = record { there = b.there; split = b.split; aims = b.aims; bytes = b.bytes } in
      let moved : On v.transaction v.count (v.endpoints v.transaction.endpoint) =
      subst (λ (t : Transaction). On t v.count (v.endpoints t.endpoint)) (sym a.transaction)
      (subst (λ (n : ℕ). On w.transaction n (v.endpoints x)) (sym a.count) (subst (On w.transaction w.count) (sym e) own)) in
      record { there = moved.there; split = moved.split; aims = moved.aims; bytes = moved.bytes }

  kin_alike : {w v : World} → Alike w v → Kin h g (view w) → Kin h g (view v)
  kin_alike {w} {v} a k = record { still = still_alike a k.still; brings = subst (λ (s : Slot). BringsIn h g s (plain v)) (sym a.slot) (by w.slot k.brings) }
    where
      by : (s : Slot) → BringsIn h g s (plain w) → BringsIn h g s (plain v)
      by Empty b = tt
      by Current b = brings_alike a b
      by Suspended b = brings_alike a b

-- ---- what an accepted call leaves

left_alike : {js : List Row} {f : Bool} {s s' : State} (w : World) → Left w f s s' → Sequence js s' → Alike w (world_at s')
unfolding decoder_of counts_after
left_alike {s = s} {s' = s'} w l q =
    let d = l.decoder in
    let n : s'.decoder.counts.endpoints ≡ w.count = ap (λ (x : Decoder). x.counts.endpoints) d in
    record {
      count = n;
      devices = ap (λ (x : Decoder). x.counts.devices) d;
      rows = l.devices.there;
      there = l.table.entries;
      beyond = λ x h. blank-entry s'.decoder.counts.endpoints s'.table x (kept q).blank (omega arith);
      slot = ap (λ (x : Decoder). x.slot) d;
      transaction = ap (λ (x : Decoder). x.transaction) d;
    }

-- ---- a fresh decoder

module _ (h g : List ℕ) (long : length h ≡ length g) {high : Bool} {v : List Device} {t : List ℕ} {l : Logs} {s : State} (hv : length v ≡ 64) (ht : length t ≡ word.table) (m : Makes high v t l 0 s) where
  a : Agrees (world_at s) fresh
  a = fresh_stands m ht (omega arith)

  three : s.decoder.counts.endpoints ≡ 3
  unfolding details.fresh
  three = a.count

  one : s.decoder.counts.devices ≡ 1
  unfolding details.fresh
  one = a.device_count

  first : (x : ℕ) → x < 3 → fresh.endpoints x ≡ new_endpoint 0 (16 + x)
  unfolding details.fresh
  first zero u = refl
  first (suc zero) u = refl
  first (suc (suc zero)) u = refl
  first (suc (suc (suc x))) u = absurd (omega arith)

  inside : (x : ℕ) → x < 3 → x < fresh.count
  unfolding details.fresh
  inside x u = u

  -- a new endpoint of device 0
  entry : (P : Endpoint → Type 0) → ((n : ℕ) → P (new_endpoint 0 n)) → (x : ℕ) → P ((world_at s).endpoints x)
  entry P k x = by (ltb x 3) refl
    where
      by : (b : Bool) → ltb x 3 ≡ b → P ((world_at s).endpoints x)
      by true q =
          let u = ltb-true x 3 q in
          let e : (world_at s).endpoints x ≡ new_endpoint 0 (16 + x) = a.endpoints x (inside x u) ∙ first x u in
          subst P (sym e) (k (16 + x))
      by false q =
          let u = ltb-false x 3 q in
          let c = three in
          subst P (sym (blank-entry s.decoder.counts.endpoints s.table x (kept (made hv ht m)).blank (omega arith))) (k 0)

  none_kept : (i : ℕ) → i < 1 → ((world_at s).devices i).kept ≡ 0
  unfolding details.fresh
  none_kept zero u = ap (λ (d : Device). d.kept) (a.devices 0 u)
  none_kept (suc i) u = absurd (omega arith)

  event-address : ((world_at s).endpoints 0).address ≡ 16
  unfolding details.fresh
  event-address = ap (λ (e : Endpoint). e.address) (a.endpoints 0 (inside 0 (omega arith)))

  empty : (world_at s).slot ≡ Empty
  unfolding details.fresh
  empty = a.slot

  fresh_kin : Kin h g (view (world_at s))
  fresh_kin =
      record {
        still = record {
          long = long;
          three = omega (arith, three);
          event = event-address;
          owner = λ x. subst (λ (n : ℕ). ((world_at s).endpoints x).device < n) (sym one) (entry (λ e. e.device < 1) (λ n. omega arith) x);
          entries = λ i u. (let z : i < 1 = subst (λ (n : ℕ). i < n) one u in subst (λ (n : ℕ). Agree (i * 8192 + 4096) (min n 585 * 7) h g) (sym (none_kept i z)) refl);
          payload = entry (λ e. is_laid (kind_of e.setup) ≡ true → Agree (e.device * 8192) (min e.payload 4096) h g) (λ n r. refl);
          waits = entry (λ e. e.pending ≡ true → (e.address < 128) × (e.address ≡ 0 → awaits e ≡ true → ⊥)) (λ n r. never r);
        };
        brings = subst (λ (z : Slot). BringsIn h g z (plain (world_at s))) (sym empty) tt;
      }

-- ---- one call

-- on both shelves the same, and what they have in common is kept
record Same (a b : ℕ) (s₁ s₂ : State) (h g : List ℕ) : Type 0 where
  pub rows : List Row
  pub sequence : Sequence rows s₁
  pub answer : a ≡ b
  pub state : s₁ ≡ s₂
  pub kin : Kin h g (view (world_at s₁))

module _ {js : List Row} {s : State} (q : Sequence js s) (h g : List ℕ) (k : Kin h g (view (world_at s))) where
  module _ (bytes : List ℕ) (time : ℕ) {a b : ℕ} {s₁ s₂ : State} {h₁ g₁ : List ℕ} (x : PacketCall bytes time s h a s₁ h₁) (y : PacketCall bytes time s g b s₂ g₁) where
    both_worlds : Beside Kin (after bytes time s h) (after bytes time s g)
    both_worlds = packet-beside s.decoder.high bytes time (world_at s) h g k

    one_answer : (a ≡ b) × (s₁ ≡ s₂)
    one_answer = twins-answer bytes time s h g (record { shelf = both_worlds.g; same = both_worlds.other }) a b s₁ s₂ h₁ g₁ x y

    abbrev packets : Call
    packets = rules.packet bytes time h

    left : demands.Does packets s a s₁
    left = record { left = h₁; does = x }

    packet_same : Same a b s₁ s₂ h₁ g₁
    packet_same =
        record { rows = demands.adds packets s a ++ js; sequence = then packets a s₁ q left; answer = one_answer.0; state = one_answer.1; kin = by (accepts a) refl }
      where
        told : (c : Bool) → accepts a ≡ c → g₁ ≡ cond c (after bytes time s g).shelf g
        told c e = y.shelf ∙ ap (λ (d : Bool). cond d (after bytes time s g).shelf g) (ap accepts (sym one_answer.0) ∙ e)

        by : (c : Bool) → accepts a ≡ c → Kin h₁ g₁ (view (world_at s₁))
        by true e =
            let w = both_worlds in
            let mine : h₁ ≡ w.h = x.shelf ∙ (ap (λ (d : Bool). cond d (after bytes time s h).shelf h) e ∙ w.mine) in
            let other : g₁ ≡ w.g = told true e ∙ ap (λ (v : World). v.shelf) w.other in
            subst (λ (z : List ℕ). Kin z g₁ (view (world_at s₁))) (sym mine)
            (subst (λ (z : List ℕ). Kin w.h z (view (world_at s₁))) (sym other)
            (kin_alike w.h w.g (left_alike (after bytes time s h) (moved packets s a s₁ left e).left (then packets a s₁ q left)) w.holds))
        by false e =
            let mine : h₁ ≡ h = x.shelf ∙ ap (λ (d : Bool). cond d (after bytes time s h).shelf h) e in
            let stay : s₁ ≡ s = stayed packets s a s₁ left e in
            subst (λ (z : List ℕ). Kin z g₁ (view (world_at s₁))) (sym mine)
            (subst (λ (z : List ℕ). Kin h z (view (world_at s₁))) (sym (told false e)) (subst (λ (z : State). Kin h g (view (world_at z))) (sym stay) k))

  -- a call that is lent no shelf
  module _ (c : Call) (step : Kin h g (view (call s.decoder.high c (world_at s)))) {a b : ℕ} {s₁ s₂ : State} {h₁ g₁ : List ℕ} (x : demands.Does c s a s₁) (mine : h₁ ≡ h) (y : demands.Does c s b s₂) (other : g₁ ≡ g) where
    plain_same : Same a b s₁ s₂ h₁ g₁
    plain_same =
        let u = unique (answers c s a s₁ x) (answers c s b s₂ y) in
        record {
          rows = demands.adds c s a ++ js;
          sequence = then c a s₁ q x;
          answer = u.0;
          state = u.1;
          kin = subst (λ (z : List ℕ). Kin z g₁ (view (world_at s₁))) (sym mine) (subst (λ (z : List ℕ). Kin h z (view (world_at s₁))) (sym other) (by (accepts a) refl));
        }
      where
        by : (d : Bool) → accepts a ≡ d → Kin h g (view (world_at s₁))
        by true e = kin_alike h g (left_alike (call s.decoder.high c (world_at s)) (moved c s a s₁ x e).left (then c a s₁ q x)) step
        by false e = subst (λ (z : State). Kin h g (view (world_at z))) (sym (stayed c s a s₁ x e)) k

  call_same : (m : Ask) {a b : ℕ} {s₁ s₂ : State} {h₁ g₁ : List ℕ} → Does m s h a s₁ h₁ → Does m s g b s₂ g₁ → Same a b s₁ s₂ h₁ g₁
  call_same (packet bytes time) x y = packet_same bytes time x y
  call_same (event kind code time) x y = plain_same (rules.event kind code time) (event_kin h g kind code time (world_at s) k) x.0 x.1 y.0 y.1
  call_same (detail address number direction kind max) x y = plain_same (rules.detail address number direction kind max) (detail_kin h g address number direction kind max (world_at s) k) x.0 x.1 y.0 y.1
  call_same finishing x y = plain_same rules.finishing (finish_kin h g (world_at s) k) x.0 x.1 y.0 y.1

-- ---- and all of them

-- the first of some calls, and the others
record First (k : Ask) (ks : List Ask) (s : State) (h xs : List ℕ) (s' : State) (h' : List ℕ) : Type 0 where
  pub answer : ℕ
  pub state : State
  pub shelf : List ℕ
  pub answers : List ℕ
  pub does : Does k s h answer state shelf
  pub others : Calls ks state shelf answers s' h'
  pub whole : xs ≡ answer ∷ answers

abbrev Opened : List Ask → State → List ℕ → List ℕ → State → List ℕ → Type 0
Opened [] s h xs s' h' = (xs ≡ []) × (s' ≡ s)
Opened (k ∷ ks) s h xs s' h' = First k ks s h xs s' h'

opened : {ks : List Ask} {s s' : State} {h xs h' : List ℕ} → Calls ks s h xs s' h' → Opened ks s h xs s' h'
opened none = (refl, refl)
opened (next {s₁ = s₁} {h₁ = h₁} {answers = xs} k a x r) = record { answer = a; state = s₁; shelf = h₁; answers = xs; does = x; others = r; whole = refl }

all_same : (ks : List Ask) {js : List Row} {s : State} → Sequence js s → (h g : List ℕ) → Kin h g (view (world_at s)) → {one other : List ℕ} {s' s'' : State} {h' g' : List ℕ}
    → Calls ks s h one s' h' → Calls ks s g other s'' g' → (one ≡ other) × (s' ≡ s'')
all_same [] q h g k x y = let p = opened x in let r = opened y in (p.0 ∙ sym r.0, p.1 ∙ sym r.1)
all_same (m ∷ ks) q h g k {s'' = s''} {g' = g'} x y =
    let p = opened x in
    let r = opened y in
    let c = call_same q h g k m p.does r.does in
    let rest = all_same ks c.sequence p.shelf r.shelf c.kin p.others (subst (λ (v : State). Calls ks v r.shelf r.answers s'' g') (sym c.state) r.others) in
    let e = c.answer in
    let f = rest.0 in
    (p.whole ∙ ((λ i. e i ∷ f i) ∙ sym r.whole), rest.1)

pub calls-unread : Unread
calls-unread high v t l s hv ht m ks h g long one other s' s'' h' g' x y = all_same ks (made hv ht m) h g (fresh_kin h g long hv ht m) x y
