-- A packet on two worlds that differ in their shelves alone, where the shelves have in common what counts: so it is of the worlds that it leaves.
use Prim.Native.Nat.{ℕ, zero, suc, ◌+◌, ◌-◌, ◌*◌, ◌≤◌, ◌<◌, min}
use native.Mathlib.Nat.{le_refl}
use native.Mathlib.Omega.{arith}
use mathlib.Core.Path.{◌≡◌, refl, sym, ap, subst, ◌∙◌}
use mathlib.Core.Bool.{Bool, true, false, ◌&&◌, not}
use mathlib.Core.List.{List}
use mathlib.Core.Logic.{◌⊎◌, inl, inr}
use borrow.Author.Tests.{eqb-true, eq-eqb, ne_eqb}
use lib.Dec.{eqb}
use lib.ListN.{length, take, drop, length-take, length-drop}
use Rattle.usb.specs.Fields.{split_of, setup_data_of}
use Rattle.usb.specs.Packet.{payload_of, reason_of}
use Rattle.usb.specs.Pid.{SETUP, IN, OUT, DATA0, SPLIT, MALFORMED}
use Rattle.usb.specs.Types.{Start, Control}
use Rattle.transaction.specs.Payload.{start_pid, takes_setup, yields, with_setup, with_payload, extract_payload}
use Rattle.transaction.specs.Status.{transaction_status}
use Rattle.transaction.specs.Table.{pick}
use Rattle.transaction.specs.declared.Judged.{Judged}
use Rattle.transaction.specs.declared.Status.{Status}
use Rattle.transaction.specs.declared.Status.TheVariants.{New, Continue, Retry, Done, Fail, Ambiguous, Invalid}
use Rattle.transaction.specs.declared.Style.{Style}
use Rattle.transaction.specs.declared.Style.TheVariants.{Nothing as NoStyle, Simple, Split, Token}
use Rattle.transaction.specs.declared.Transaction.{Transaction}
use Rattle.transaction.proofs.Laws.{extract-keeps}
use Rattle.details.specs.Kind.{Unknown}
use Rattle.endpoints.specs.declared.Endpoint.{Endpoint}
use Rattle.group.specs.declared.Effect.{Effect}
use Rattle.group.specs.declared.Effect.TheVariants.{NoEffect, NewDevice, Request, PendingData, IndexData}
use Rattle.group.specs.declared.Grouped.{Grouped}
use Rattle.descriptors.specs.Complete.{shelf_by}
use Rattle.descriptors.specs.Kind.{kind_of}
use Rattle.descriptors.specs.Laid.{is_laid, laid}
use Rattle.rules.specs.World.{World, stamped, with_shelf, with_slot, with_transaction, with_event_state, change, with_id, with_pid, with_token, new_transaction}
use Rattle.rules.specs.Endpoints.{detail_of, packet_endpoint, endpoint_of, set_endpoint_type}
use Rattle.rules.specs.Groups.{link, asked_of, effect_step, grouped, becomes, group_step, group_update, group_early_append}
use Rattle.rules.specs.Transactions.{brought, keep_payload, is_kept, shelf_with, transaction_end_at, transaction_end, append_token, transaction_append, push_transaction, begin, type_of, begin_on, begin_split, begin_plain, transaction_start, resume_at, state_at, completes, extracted, update_at, update_from, is_dropped, transaction_update}
use Rattle.rules.specs.Decoder.{append_bytes, push_packet, handle_raw_packet}
use Rattle.rules.specs.declared.Slot.{Slot}
use Rattle.rules.specs.declared.Slot.TheVariants.{Empty, Current, Suspended}
use Rattle.rules.specs.declared.EventState.TheVariants.{Idle}
use Rattle.rules.proofs.Seen.{Seen, packet-seen}
use Rattle.update.specs.Update.{act}
use Rattle.update.proofs.Decided.{update-is}
use Rattle.plan.proofs.Frame.{Rest, act-rest}
use Rattle.plan.proofs.Quiet.{no_effect}
use Rattle.demands.specs.Shelf.{Agree}
use Rattle.demands.proofs.Alike.{laid-agree}
use Rattle.demands.proofs.Unread.{act-shelf, request-shelf}
use Rattle.unread.proofs.Blind.{Blind, Beside, blindly, blind-shelf, weaker, early-append_blind, append_blind, start_blind, resume_blind}
use Rattle.unread.proofs.Ends.{w2, u, closed_still, closed-waits, closed-asked}
use Rattle.unread.proofs.Fair.{leaves}
use Rattle.unread.proofs.Grounds.{with-transaction, with-slot, device_still, pending_still, total_tame, Placed, placed, typed_still}
use Rattle.unread.proofs.Kin.{Plain, plain, View, view, Aims, Unfilled, Still, Brings, BringsIn, Kin, kin_tame, still_tame, kin-empty, start_tame, append_tame, link_tame}
use Rattle.unread.proofs.Requests.{request-asks, request_still}
use Rattle.unread.proofs.Stages.{never}
use Rattle.unread.proofs.Stores.{laid_more, laid-long}

-- ---- the end of a transaction

module _ (h g : List ℕ) (success complete : Bool) (w : World) (mine : w.shelf ≡ h) (s : Still h g (view w)) (ready : success ≡ true → Brings h g (plain w)) where
  abbrev x : ℕ
  x = w.transaction.endpoint

  abbrev r : Grouped
  r = grouped x success complete w

  abbrev v : World
  v = w2 h g success complete w s ready

  still2 : Still h g (view v)
  still2 = closed_still h g success complete w s ready

  shelf2 : v.shelf ≡ h
  shelf2 = ap (λ (q : Rest). q.shelf) (act-rest (u h g success complete w s ready) x (change x (becomes r.endpoint) w)) ∙ mine

  effect : (f : Effect) → r.effect ≡ f → Beside Still (effect_step f x v) (effect_step f x (with_shelf g v))
  effect NoEffect q = record { h = h; g = g; mine = shelf2; other = refl; holds = still2 }
  effect (NewDevice a) q = record { h = h; g = g; mine = shelf2; other = refl; holds = device_still h g a v still2 }
  effect (Request n) q =
      let s3 : Still v.shelf g (view v) = subst (λ (z : List ℕ). Still z g (view v)) (sym shelf2) still2 in
      let b : is_laid (kind_of (v.endpoints x).setup) ≡ true → Agree ((v.endpoints x).device * 8192) (min n 4096) v.shelf g = λ l. subst (λ (z : List ℕ). Agree ((v.endpoints x).device * 8192) (min n 4096) z g) (sym shelf2) (closed-asked h g success complete w s ready n q l) in
      record {
        h = shelf_by (asked_of n x v) v.shelf;
        g = shelf_by (asked_of n x v) g;
        mine = refl;
        other = request-shelf g n x v (request-asks n x v g s3 b);
        holds = request_still n x v g s3 b;
      }
  effect (PendingData n) q = by success refl
    where
      by : (c : Bool) → success ≡ c → Beside Still (effect_step (PendingData n) x v) (effect_step (PendingData n) x (with_shelf g v))
      by true c = record { h = h; g = g; mine = shelf2; other = refl; holds = pending_still h g x n v.transaction.link v still2 (closed-waits h g success complete w s ready c (ap leaves q)) }
      by false c =
          let z : r.effect ≡ NoEffect = subst (λ (b : Bool). (grouped x b complete w).effect ≡ NoEffect) (sym c) (no_effect (w.endpoints x) w.transaction (detail_of x w) complete) in
          never (sym (ap leaves z) ∙ ap leaves q)
  effect (IndexData n waited i) q = record { h = h; g = g; mine = shelf2; other = refl; holds = still_tame h g (total_tame x ((v.endpoints x).total + n) v) still2 }

  pub update-beside : Beside Still (group_update x success complete w) (group_update x success complete (with_shelf g w))
  unfolding group_update
  update-beside =
      let w1 = change x (becomes r.endpoint) w in
      let a : group_step r.status x w1 ≡ v = update-is r.status x w1 in
      let b : group_step r.status x (with_shelf g w1) ≡ with_shelf g v = update-is r.status x (with_shelf g w1) ∙ act-shelf g (u h g success complete w s ready) x w1 in
      subst (λ (y : World). Beside Still (effect_step r.effect x y) (effect_step r.effect x (group_step r.status x (with_shelf g w1)))) (sym a)
      (subst (λ (y : World). Beside Still (effect_step r.effect x v) (effect_step r.effect x y)) (sym b) (effect r.effect refl))

-- where the slot is empty nothing is brought
emptied : {w v : World} → Beside Still w v → Beside Kin (with_slot Empty w) (with_slot Empty v)
emptied {w} {v} x =
    record { h = x.h; g = x.g; mine = x.mine; other = ap (with_slot Empty) x.other; holds = record { still = with-slot x.h x.g Empty w x.holds; brings = tt } }

-- the current one's
current-ends : (success complete : Bool) (w v : World) (k : Beside Still w v) → (success ≡ true → Brings k.h k.g (plain w)) → Beside Kin (transaction_end_at Current success complete w) (transaction_end_at Current success complete v)
current-ends success complete w v k ready =
    subst (λ (y : World). Beside Kin (transaction_end_at Current success complete w) (transaction_end_at Current success complete y)) (sym k.other) (by (eqb w.transaction.endpoint 0))
  where
    x : ℕ
    x = w.transaction.endpoint

    z : World
    z = with_shelf k.g w

    by : (b : Bool) → Beside Kin (with_slot Empty (pick b w (group_update x success complete w))) (with_slot Empty (pick b z (group_update x success complete z)))
    by true = emptied (record { h = k.h; g = k.g; mine = k.mine; other = refl; holds = k.holds })
    by false = emptied (update-beside k.h k.g success complete w k.mine k.holds ready)

-- with or without success
end_at : (s : Slot) (success complete : Bool) (w v : World) → w.slot ≡ s → Beside Kin w v → Beside Kin (transaction_end_at s success complete w) (transaction_end_at s success complete v)
end_at Empty success complete w v q k = k
end_at Current success complete w v q k =
    current-ends success complete w v (record { h = k.h; g = k.g; mine = k.mine; other = k.other; holds = k.holds.still }) (λ c. subst (λ (s : Slot). BringsIn k.h k.g s (plain w)) q k.holds.brings)
end_at Suspended success complete w v q k = k

slots : {w v : World} {P : List ℕ → List ℕ → View → Type 0} → Beside P w v → v.slot ≡ w.slot
slots x = ap (λ (z : World). z.slot) x.other

end_kin : (success complete : Bool) (w v : World) → Beside Kin w v → Beside Kin (transaction_end success complete w) (transaction_end success complete v)
end_kin success complete w v k =
    subst (λ (s : Slot). Beside Kin (transaction_end success complete w) (transaction_end_at s success complete v)) (sym (slots k)) (end_at w.slot success complete w v refl k)

-- without success, whatever was brought
quiet_at : (s : Slot) (complete : Bool) (w v : World) → Beside Still w v → Beside Still (transaction_end_at s false complete w) (transaction_end_at s false complete v)
quiet_at Empty complete w v k = k
quiet_at Current complete w v k = weaker Kin Still (λ h g z y. y.still) (current-ends false complete w v k (λ c. never c))
quiet_at Suspended complete w v k = k

end_still : (complete : Bool) (w v : World) → Beside Still w v → Beside Still (transaction_end false complete w) (transaction_end false complete v)
end_still complete w v k =
    subst (λ (s : Slot). Beside Still (transaction_end false complete w) (transaction_end_at s false complete v)) (sym (slots k)) (quiet_at w.slot complete w v k)

-- ---- transaction_start: a new transaction has brought nothing

module _ (h g : List ℕ) where
  on_kin : (x kind pid n : ℕ) (w : World) → Placed h g pid x w → Kin h g (view (begin_on x kind pid n w))
  on_kin x kind pid n w p =
      let t = new_transaction (Simple pid) n pid x kind in
      kin_tame h g (start_tame pid x (begin t w))
      (record { still = with-slot h g Current (with_transaction t w) (with-transaction h g t w p.still); brings = record { there = p.there; split = tt; aims = p.aims; bytes = λ i f r. never f } })

  start_kin : (id pid : ℕ) (p : List ℕ) (w : World) → Still h g (view w) → Kin h g (view (transaction_start id pid p w))
  start_kin id pid p w s = by (eqb pid MALFORMED) (eqb pid SPLIT) refl
    where
      n : ℕ
      n = w.transactions

      v : World
      v = push_transaction id w

      x : ℕ
      x = endpoint_of pid p v

      t : Transaction
      t = new_transaction (Split (split_of p).sc (split_of p).kind) n pid 0 (split_of p).kind

      by : (a b : Bool) → eqb pid MALFORMED ≡ a → Kin h g (view (pick a (begin_on 1 Unknown pid n v) (pick b (begin_split p pid n v) (begin_plain pid p n v))))
      by true b q =
          let z = eqb-true pid MALFORMED q in
          on_kin 1 Unknown pid n v (record { still = s; there = omega (arith, s.three); aims = (λ i. absurd (omega arith), λ o. absurd (omega arith)) })
      by false true q =
          record {
            still = with-slot h g Current (with_transaction t v) (with-transaction h g t v s);
            brings = record { there = omega (arith, s.three); split = refl; aims = (λ i. absurd (omega arith), λ o. absurd (omega arith)); bytes = λ i f r. never f };
          }
      by false false q = on_kin x (type_of x (packet_endpoint pid p v)) pid n (packet_endpoint pid p v) (placed h g pid p v s)

-- ---- a packet that the transaction goes on with: its payload is laid by on both shelves, and then brought

in-unset : (y : Style) → start_pid y ≡ IN → takes_setup y ≡ false
in-unset NoStyle q = refl
in-unset (Simple first) q = ne_eqb first SETUP (λ z. omega arith)
in-unset (Split sc kind) q = refl
in-unset (Token sc kind pid) q = by (eqb sc Start) (eqb kind Control)
  where
    by : (a b : Bool) → (a && (b && eqb pid SETUP)) ≡ false
    by true true = ne_eqb pid SETUP (λ z. omega arith)
    by true false = refl
    by false b = refl

module _ (high : Bool) (pid : ℕ) (p : List ℕ) (w : World) where
  abbrev t : Transaction
  t = w.transaction

  abbrev e : Endpoint
  e = w.endpoints t.endpoint

  abbrev got : Transaction
  got = extract_payload high t pid (length p) (setup_data_of p)

  abbrev with : List ℕ → List ℕ
  with z = shelf_with (is_kept high t e pid) e p z

  module _ (h g : List ℕ) (k : Kin h g (view w)) where
    with-agree : (at n : ℕ) → Agree at n h g → Agree at n (with h) (with g)
    with-agree at n a = by (is_kept high t e pid)
      where
        by : (b : Bool) → Agree at n (shelf_with b e p h) (shelf_with b e p g)
        by true = laid-agree (e.device * 8192) e.payload (payload_of p) h g k.still.long at n a
        by false = a

    with-long : length (with h) ≡ length (with g)
    with-long = by (is_kept high t e pid)
      where
        by : (b : Bool) → length (shelf_with b e p h) ≡ length (shelf_with b e p g)
        by true = laid-long (e.device * 8192) e.payload (payload_of p) h g k.still.long
        by false = k.still.long

    with_still : Still (with h) (with g) (view w)
    with_still =
        let s = k.still in
        record {
          long = with-long;
          three = s.three;
          event = s.event;
          owner = s.owner;
          entries = λ i l. with-agree (i * 8192 + 4096) (min (w.devices i).kept 585 * 7) (s.entries i l);
          payload = λ y r. with-agree ((w.endpoints y).device * 8192) (min (w.endpoints y).payload 4096) (s.payload y r);
          waits = s.waits;
        }

    -- what an IN brought stands there
    module _ (b : Brings h g (plain w)) (i : start_pid t.style ≡ IN) (l : is_laid (kind_of e.setup) ≡ true) where
      real : eqb t.endpoint 0 ≡ false
      real = ne_eqb t.endpoint 0 (λ z. no (ap (λ (n : ℕ). (w.endpoints n).address) z ∙ k.still.event) (b.aims.0 i))
        where
          no : e.address ≡ 16 → (128 ≤ e.address) ⊎ (e.address ≡ 0) → ⊥
          no q (inl a) = omega arith
          no q (inr a) = omega arith

      size : length (payload_of p) ≡ length p - 3
      size = let a = length-take (length p - 3) (drop 1 p) in let c = length-drop 1 p in omega arith

      kept : yields high pid ≡ true → is_kept high t e pid ≡ true
      kept d =
          let o : (eqb pid DATA0 && takes_setup t.style) ≡ false = unset (eqb pid DATA0) in
          λ j. (d j && not (o j)) && (not (real j) && l j)
        where
          unset : (c : Bool) → (c && takes_setup t.style) ≡ false
          unset true = in-unset t.style i
          unset false = refl

      bytes : got.filled ≡ true → Agree (e.device * 8192) (min (e.payload + got.payload) 4096) (with h) (with g)
      unfolding extract_payload
      bytes f = by (eqb pid DATA0 && takes_setup t.style) (yields high pid) (unset (eqb pid DATA0)) refl f
        where
          unset : (c : Bool) → (c && takes_setup t.style) ≡ false
          unset true = in-unset t.style i
          unset false = refl

          by : (a c : Bool) → a ≡ false → yields high pid ≡ c → (pick a (with_setup t (setup_data_of p)) (pick c (with_payload t (length p - 3)) t)).filled ≡ true
              → Agree (e.device * 8192) (min (e.payload + (pick a (with_setup t (setup_data_of p)) (pick c (with_payload t (length p - 3)) t)).payload) 4096) (with h) (with g)
          by true c z d q = never (sym z)
          by false true z d q =
              let m = laid_more (e.device * 8192) e.payload (payload_of p) h g k.still.long (k.still.payload t.endpoint l) in
              let n : Agree (e.device * 8192) (min (e.payload + (length p - 3)) 4096) (laid (e.device * 8192) e.payload (payload_of p) h) (laid (e.device * 8192) e.payload (payload_of p) g) =
              subst (λ (j : ℕ). Agree (e.device * 8192) (min (e.payload + j) 4096) (laid (e.device * 8192) e.payload (payload_of p) h) (laid (e.device * 8192) e.payload (payload_of p) g)) size m in
              subst (λ (c : Bool). Agree (e.device * 8192) (min (e.payload + (length p - 3)) 4096) (shelf_with c e p h) (shelf_with c e p g)) (sym (kept d)) n
          by false false z d q = with-agree (e.device * 8192) (min (e.payload + t.payload) 4096) (b.bytes i q l)

    -- the packet is no payload where it is an IN
    token-filled : pid ≡ IN → got.filled ≡ t.filled
    unfolding extract_payload
    token-filled q = subst (λ (n : ℕ). (pick (eqb n DATA0 && takes_setup t.style) (with_setup t (setup_data_of p)) (pick (yields high n) (with_payload t (length p - 3)) t)).filled ≡ t.filled) (sym q) (none high)
      where
        none : (m : Bool) → (pick (yields m IN) (with_payload t (length p - 3)) t).filled ≡ t.filled
        none true = refl
        none false = refl

    -- a transaction that has its token
    went : (y : Style) → got.style ≡ y → ((b : Bool) → Unfilled y b) → BringsIn (with h) (with g) w.slot (plain (with_transaction (with_pid pid got) w))
    went y q free = at w.slot k.brings
      where
        c : got.style ≡ t.style
        c = (extract-keeps high t pid (length p) (setup_data_of p)).style

        f : got.endpoint ≡ t.endpoint
        f = (extract-keeps high t pid (length p) (setup_data_of p)).endpoint

        on : Brings h g (plain w) → Brings (with h) (with g) (plain (with_transaction (with_pid pid got) w))
        on b =
            record {
              there = omega (arith, f, b.there);
              split = subst (λ (s : Style). Unfilled s got.filled) (sym q) (free got.filled);
              aims = subst (λ (s : Style). Aims (start_pid s) (w.endpoints got.endpoint).address) (sym c) (subst (λ (n : ℕ). Aims (start_pid t.style) (w.endpoints n).address) (sym f) b.aims);
              bytes = λ i o l. subst (λ (n : ℕ). Agree ((w.endpoints n).device * 8192) (min ((w.endpoints n).payload + got.payload) 4096) (with h) (with g)) (sym f)
                  (bytes b (ap start_pid (sym c) ∙ i) (subst (λ (n : ℕ). is_laid (kind_of (w.endpoints n).setup) ≡ true) f l) o);
            }

        at : (s : Slot) → BringsIn h g s (plain w) → BringsIn (with h) (with g) s (plain (with_transaction (with_pid pid got) w))
        at Empty b = tt
        at Current b = on b
        at Suspended b = on b

    -- a split's token
    module _ (sc kind : ℕ) (q : got.style ≡ Split sc kind) where
      abbrev laden : World
      laden = extracted high pid p w

      abbrev spot : ℕ
      spot = endpoint_of pid p laden

      there : Placed (with h) (with g) pid spot (packet_endpoint pid p laden)
      there = placed (with h) (with g) pid p laden (with-transaction (with h) (with g) got w with_still)

      abbrev after : World
      after = with_transaction (with_pid pid (with_token (Token sc kind pid) spot got)) (set_endpoint_type spot kind (packet_endpoint pid p laden))

      nothing : Unfilled t.style t.filled → t.filled ≡ false
      nothing u = subst (λ (s : Style). Unfilled s t.filled) (sym (extract-keeps high t pid (length p) (setup_data_of p)).style ∙ q) u

      token-brings : Brings h g (plain w) → Brings (with h) (with g) (plain after)
      token-brings b =
          record { there = there.there; split = tt; aims = there.aims; bytes = λ i f l. never (sym (nothing b.split) ∙ (sym (token-filled i) ∙ f)) }

      token_kin : Kin (with h) (with g) (view after)
      token_kin =
          record {
            still = with-transaction (with h) (with g) (with_pid pid (with_token (Token sc kind pid) spot got)) (set_endpoint_type spot kind (packet_endpoint pid p laden)) (typed_still (with h) (with g) spot kind (packet_endpoint pid p laden) there.still);
            brings = subst (λ (s : Slot). BringsIn (with h) (with g) s (plain after)) (sym (ap (λ (s : Seen). s.slot) (packet-seen pid p laden))) (at w.slot k.brings);
          }
        where
          at : (s : Slot) → BringsIn h g s (plain w) → BringsIn (with h) (with g) s (plain after)
          at Empty b = tt
          at Current b = token-brings b
          at Suspended b = token-brings b

    append_kin : Kin (with h) (with g) (view (transaction_append pid p (extracted high pid p w)))
    append_kin = by got.style refl
      where
        z : World
        z = extracted high pid p w

        gone : (y : Style) → got.style ≡ y → ((b : Bool) → Unfilled y b) → Kin (with h) (with g) (view (with_transaction (with_pid pid got) w))
        gone y q free = record { still = with-transaction (with h) (with g) (with_pid pid got) w with_still; brings = went y q free }

        by : (y : Style) → got.style ≡ y → Kin (with h) (with g) (view (with_transaction (with_pid pid (append_token y pid p z).transaction) (append_token y pid p z)))
        by NoStyle q = gone NoStyle q (λ b. tt)
        by (Simple first) q = gone (Simple first) q (λ b. tt)
        by (Split sc kind) q = token_kin sc kind q
        by (Token sc kind first) q = gone (Token sc kind first) q (λ b. tt)

append-beside : (high : Bool) (pid : ℕ) (p : List ℕ) (w v : World) → Beside Kin w v → Beside Kin (transaction_append pid p (extracted high pid p w)) (transaction_append pid p (extracted high pid p v))
append-beside high pid p w v b =
    subst (λ (y : World). Beside Kin (transaction_append pid p (extracted high pid p w)) (transaction_append pid p (extracted high pid p y))) (sym b.other)
    (record {
      h = with high pid p w b.h;
      g = with high pid p w b.g;
      mine = blind-shelf (transaction_append pid p) (append_blind pid p) (extracted high pid p w) ∙ ap (with high pid p w) b.mine;
      other = append_blind pid p (with high pid p w b.g) (extracted high pid p w);
      holds = append_kin high pid p w b.h b.g b.holds;
    })

-- ---- transaction_update

linked-beside : (w v : World) → Beside Kin w v → Beside Kin (group_early_append w) (group_early_append v)
linked-beside w v b = blindly Kin Kin group_early_append early-append_blind (λ h g z k. kin_tame h g (append_tame z) k) w v b

start-beside : (id pid : ℕ) (p : List ℕ) (w v : World) → Beside Still w v → Beside Kin (transaction_start id pid p w) (transaction_start id pid p v)
start-beside id pid p w v b = blindly Still Kin (transaction_start id pid p) (start_blind id pid p) (λ h g z s. start_kin h g id pid p z s) w v b

module _ (high : Bool) (pid : ℕ) (p : List ℕ) (id : ℕ) (c : Bool) (w v : World) (b : Beside Kin w v) where
  update_kin : (s : Status) → Beside Kin (update_at high s id pid p c w) (update_at high s id pid p c v)
  update_kin New =
      let b1 = blindly Kin Still (brought high pid p) (λ g z. refl) (λ h g z k. with-transaction h g (extract_payload high z.transaction pid (length p) (setup_data_of p)) z k.still) w v b in
      let b2 = end_still false (brought high pid p w) (brought high pid p v) b1 in
      linked-beside _ _ (start-beside id pid p _ _ b2)
  update_kin Continue = linked-beside _ _ (append-beside high pid p w v b)
  update_kin Retry = end_kin true c _ _ (append-beside high pid p w v b)
  update_kin Done = end_kin true c _ _ (append-beside high pid p w v b)
  update_kin Fail = end_kin false c _ _ (append-beside high pid p w v b)
  update_kin Ambiguous = append-beside high pid p w v b
  update_kin Invalid = end_kin false false _ _ (start-beside id pid p w v (weaker Kin Still (λ h g z y. y.still) b))

resume_kin : (h g : List ℕ) (s : Slot) (id : ℕ) (w : World) → w.slot ≡ s → Kin h g (view w) → Kin h g (view (resume_at s id w))
resume_kin h g Empty id w q k = k
resume_kin h g Current id w q k = k
resume_kin h g Suspended id w q k =
    let v = begin (with_id w.transactions w.transaction) (push_transaction id w) in
    let b : Brings h g (plain w) = subst (λ (s : Slot). BringsIn h g s (plain w)) q k.brings in
    kin_tame h g (link_tame w.transaction.endpoint v)
    (record {
      still = with-slot h g Current (with_transaction (with_id w.transactions w.transaction) w) (with-transaction h g (with_id w.transactions w.transaction) w k.still);
      brings = record { there = b.there; split = b.split; aims = b.aims; bytes = b.bytes };
    })

-- ---- the packet

pub packet-beside : (high : Bool) (p : List ℕ) (time : ℕ) (w : World) (h g : List ℕ) → Kin h g (view w) → Beside Kin (handle_raw_packet high p time (with_shelf h w)) (handle_raw_packet high p time (with_shelf g w))
unfolding handle_raw_packet transaction_update
packet-beside high p time w h g k = by (is_dropped w.slot w.transaction)
  where
    logged : World → World
    logged z = push_packet w.bytes time (append_bytes p (with_event_state Idle (stamped time (reason_of p) z)))

    a : World
    a = logged (with_shelf h w)

    c : World
    c = logged (with_shelf g w)

    id : ℕ
    id = w.packets

    u1 : World
    u1 = resume_at w.slot id a

    r : Beside Kin u1 (resume_at w.slot id c)
    r = record { h = h; g = g; mine = blind-shelf (resume_at w.slot id) (resume_blind w.slot id) a; other = resume_blind w.slot id g a; holds = resume_kin h g w.slot id a refl k }

    j : Judged
    j = transaction_status high (state_at u1.slot u1.transaction) p

    by : (d : Bool) → Beside Kin (pick d (with_slot Empty a) (update_from high id p u1)) (pick d (with_slot Empty c) (update_from high id p (resume_at w.slot id c)))
    by true = emptied (record { h = h; g = g; mine = refl; other = refl; holds = k.still })
    by false =
        subst (λ (y : World). Beside Kin (update_from high id p u1) (update_from high id p y)) (sym r.other)
        (update_kin high j.pid p id (completes (state_at u1.slot u1.transaction).style j.status) u1 (with_shelf r.g u1) (record { h = r.h; g = r.g; mine = r.mine; other = refl; holds = r.holds }) j.status)
